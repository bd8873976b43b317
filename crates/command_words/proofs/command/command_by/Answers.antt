use Rattle.std.proofs.Common.{◌≡◌, ◌∙◌, Some, true, ap, refl, sym, subst, map, codes, arith}
use Rattle.cert_text.specs.declared.text.limits.TheConstants.{MOST_LABELS}
use Rattle.clap.specs.Faults.{is_simple_and_free}
use Rattle.clap.specs.Simple.{App}
use Rattle.command_words.specs.Calls.{call_of, plan_call, check_call, audit_call, graph_call, make_call}
use Rattle.command_words.proofs.CommandLines.{name_given, names_found, three_names_found, number_found, number_fits, made_number_given, budget_given}
use Rattle.command_words.proofs.Verbs.{simple_call, tour_given, log_given}
use Rattle.report_text.specs.declared.maker.TheConstants.{MOST_MADE}
use Rattle.command_words.proofs.command.command_by.Goals as goal

pub parse-requires : goal.parse-requires
parse-requires c = subst (λ (a : App). is_simple_and_free a ≡ true) (sym c.in_ok-call.ensures) (simple_call c.args.verb)

pub word_of-requires : goal.word_of-requires
word_of-requires c = tour_given c.args.verb c.in_ok-call.call c.in-Some.matches c.in_ok-call.ensures (rw c.in-Some.is at c.in_ok-matches.ensures.parsed)

pub word_of-requires-2 : goal.word_of-requires-2
word_of-requires-2 c = log_given c.args.verb c.in_ok-call.call c.in-Some.matches c.in_ok-call.ensures (rw c.in-Some.is at c.in_ok-matches.ensures.parsed)

-- a plan has a certificate and a budget too
pub word_of-requires-in-Plan : goal.word_of-requires-in-Plan
word_of-requires-in-Plan c =
    name_given c.in_ok-call.call plan_call c.in-Some.matches (c.in_ok-call.ensures ∙ ap call_of c.in-Plan.is) refl (rw c.in-Some.is at c.in_ok-matches.ensures.parsed) 2 (codes "cert") refl

pub number_of-budget-requires : goal.number_of-budget-requires
number_of-budget-requires c =
    number_fits c.in-Some.matches (codes "budget") 1 MOST_LABELS (omega arith)
    (budget_given c.in_ok-call.call c.in-Some.matches (c.in_ok-call.ensures ∙ ap call_of c.in-Plan.is) (rw c.in-Some.is at c.in_ok-matches.ensures.parsed))

pub returns-in-Plan : goal.returns-in-Plan
returns-in-Plan c =
    let e = c.in_ok-call.ensures ∙ ap call_of c.in-Plan.is in
    let value = budget_given c.in_ok-call.call c.in-Some.matches e (rw c.in-Some.is at c.in_ok-matches.ensures.parsed) in
    let number = number_found c.in_ok-call.call plan_call c.in-Some.matches (map (λ w. w.now) c.args.words.now) (codes "budget") 1 MOST_LABELS _ e
    (rw c.in-Some.is at c.in_ok-matches.ensures.matches) value c.number_of-budget.ensures in
    let names = three_names_found c.in_ok-call.call plan_call c.in-Some.matches (map (λ w. w.now) c.args.words.now) _ _ _ e
    (c.requires ∙ ap (λ v. Some (call_of v).top.name) c.in-Plan.is)
    (rw c.in-Some.is at c.in_ok-matches.ensures.faults) (rw c.in-Some.is at c.in_ok-matches.ensures.matches)
    c.in_ok-tour.ensures c.in_ok-log.ensures c.in_ok-cert-in-Plan.ensures in
    (names.0, names.1, names.2, names.3, number)

-- a check has a certificate too
pub word_of-requires-in-Check : goal.word_of-requires-in-Check
word_of-requires-in-Check c =
    name_given c.in_ok-call.call check_call c.in-Some.matches (c.in_ok-call.ensures ∙ ap call_of c.in-Check.is) refl (rw c.in-Some.is at c.in_ok-matches.ensures.parsed) 2 (codes "cert") refl

pub returns-in-Check : goal.returns-in-Check
returns-in-Check c =
    three_names_found c.in_ok-call.call check_call c.in-Some.matches (map (λ w. w.now) c.args.words.now) _ _ _ (c.in_ok-call.ensures ∙ ap call_of c.in-Check.is)
    (c.requires ∙ ap (λ v. Some (call_of v).top.name) c.in-Check.is)
    (rw c.in-Some.is at c.in_ok-matches.ensures.faults) (rw c.in-Some.is at c.in_ok-matches.ensures.matches)
    c.in_ok-tour.ensures c.in_ok-log.ensures c.in_ok-cert-in-Check.ensures

pub returns-in-Audit : goal.returns-in-Audit
returns-in-Audit c =
    names_found c.in_ok-call.call audit_call c.in-Some.matches (map (λ w. w.now) c.args.words.now) _ _ (c.in_ok-call.ensures ∙ ap call_of c.in-Audit.is)
    (c.requires ∙ ap (λ v. Some (call_of v).top.name) c.in-Audit.is)
    (rw c.in-Some.is at c.in_ok-matches.ensures.faults) (rw c.in-Some.is at c.in_ok-matches.ensures.matches)
    c.in_ok-tour.ensures c.in_ok-log.ensures

pub returns-in-Graph : goal.returns-in-Graph
returns-in-Graph c =
    names_found c.in_ok-call.call graph_call c.in-Some.matches (map (λ w. w.now) c.args.words.now) _ _ (c.in_ok-call.ensures ∙ ap call_of c.in-Graph.is)
    (c.requires ∙ ap (λ v. Some (call_of v).top.name) c.in-Graph.is)
    (rw c.in-Some.is at c.in_ok-matches.ensures.faults) (rw c.in-Some.is at c.in_ok-matches.ensures.matches)
    c.in_ok-tour.ensures c.in_ok-log.ensures

-- a made tour has a number
pub number_of-number-requires : goal.number_of-number-requires
number_of-number-requires c =
    number_fits c.in-Some.matches (codes "number") 0 MOST_MADE (omega arith)
    (made_number_given c.in_ok-call.call c.in-Some.matches (c.in_ok-call.ensures ∙ ap call_of c.in-Make.is) (rw c.in-Some.is at c.in_ok-matches.ensures.parsed))

pub returns : goal.returns
returns c =
    let e = c.in_ok-call.ensures ∙ ap call_of c.in-Make.is in
    let value = made_number_given c.in_ok-call.call c.in-Some.matches e (rw c.in-Some.is at c.in_ok-matches.ensures.parsed) in
    let number = number_found c.in_ok-call.call make_call c.in-Some.matches (map (λ w. w.now) c.args.words.now) (codes "number") 0 MOST_MADE _ e
    (rw c.in-Some.is at c.in_ok-matches.ensures.matches) value c.number_of-number.ensures in
    let names = names_found c.in_ok-call.call make_call c.in-Some.matches (map (λ w. w.now) c.args.words.now) _ _ e
    (c.requires ∙ ap (λ v. Some (call_of v).top.name) c.in-Make.is)
    (rw c.in-Some.is at c.in_ok-matches.ensures.faults) (rw c.in-Some.is at c.in_ok-matches.ensures.matches)
    c.in_ok-tour.ensures c.in_ok-log.ensures in
    (names.0, number, names.1, names.2)
