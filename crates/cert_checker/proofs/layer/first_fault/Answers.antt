use Rattle.std.proofs.Common.{◌≡◌, ◌<◌, length, take, get_or, subst}
use Rattle.std.specs.Prelude.{None, MatchOption}
use Rattle.std.proofs.lemmas.List.{get_or_read}
use Rattle.cert_text.specs.CoverLists.Planning.{problem_by, state_at}
use Rattle.cert_checker.specs.Parsed.{there}
use Rattle.cert_checker.specs.Conditions.{Passes, FailsBy}
use Rattle.cert_checker.proofs.ParsedLaws.{there_item}
use Rattle.cert_checker.proofs.LabelLaws.{pass_more}
use Rattle.cert_checker.proofs.layer.first_fault.Goals as goal

pub fault_at-requires-clause-state : goal.fault_at-requires-clause-state
fault_at-requires-clause-state g c l e =
    c.requires.labels l (there_item c.args.labels.now c.loop-index.index c.label-item.result l (subst (λ os. c.loop-index.index < length os) c.loop-index.invariant.all c.loop-index-test.true)
    (subst (λ os. c.label-item.result ≡ get_or os c.loop-index.index c.label-item.result) c.loop-index.invariant.all c.label-item.is) e)

pub fault_at-requires-clause-progress : goal.fault_at-requires-clause-progress
fault_at-requires-clause-progress g c l e =
    c.requires.within l (there_item c.args.labels.now c.loop-index.index c.label-item.result l (subst (λ os. c.loop-index.index < length os) c.loop-index.invariant.all c.loop-index-test.true)
    (subst (λ os. c.label-item.result ≡ get_or os c.loop-index.index c.label-item.result) c.loop-index.invariant.all c.label-item.is) e)

pub loop-index-preserved : goal.loop-index-preserved
loop-index-preserved g c =
    let problem = problem_by c.args.terms.now.tour.now (g.B.RuleBook.machine c.args.terms.now.book.now) (g.K.LabelBound.bounds c.args.terms.now.bound.now).bound in
    let is_state = state_at c.args.terms.now.tour.now (g.B.RuleBook.machine c.args.terms.now.book.now) in
    let os = c.args.labels.now in
    let i = c.loop-index.index in
    let earlier = there (take i os) in
    let next = there c.args.next.now in
    let lt : i < length os = subst (λ ys. i < length ys) c.loop-index.invariant.all c.loop-index-test.true in
    let read = subst (λ ys. c.label-item.result ≡ get_or ys i c.label-item.result) c.loop-index.invariant.all c.label-item.is in
    let passes = subst (λ o. MatchOption o (Passes problem is_state c.args.terms.now.target c.args.step earlier next c.label-item.result) (FailsBy problem is_state c.args.terms.now.target c.args.step earlier next c.label-item.result)) c.in_default.is c.in_ok-reason.ensures in
    record {
      all = c.loop-index.invariant.all;
      pass = pass_more problem is_state c.args.terms.now.target c.args.step os next i c.loop-index.invariant.pass (subst (λ o. Passes problem is_state c.args.terms.now.target c.args.step earlier next o) (get_or_read os i c.label-item.result lt read None) passes);
    }
