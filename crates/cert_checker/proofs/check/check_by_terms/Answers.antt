use Rattle.std.proofs.Common.{◌≡◌, ◌+◌, length, refl, sym, ap, subst, inl, inr}
use Rattle.std.specs.Prelude.{MatchOption}
use Rattle.rule_core.specs.Book.{IsBook}
use Rattle.tour_model.specs.Layer.{layer_at}
use Rattle.tour_model.specs.Word.{word_length}
use Rattle.cert_text.specs.declared.cert.CertKind.TheVariants.{Shortest}
use Rattle.cert_text.specs.CoverLists.Planning.{problem_by, state_at, minute_of}
use Rattle.cert_text.specs.Cert.{acts_of_runs}
use Rattle.cert_checker.specs.Parsed.{there}
use Rattle.cert_checker.specs.Conditions.{layer_of, LayersPass, IsFirstLabel}
use Rattle.cert_checker.specs.Verdicts.{ClaimHolds, StepsFail, RootsHold, IsVerdictBy, first_line}
use Rattle.cert_checker.proofs.ParsedLaws.{states_read}
use Rattle.cert_checker.proofs.LabelLaws.{not_so}
use Rattle.cert_checker.proofs.ValidLaws.{valid_from, valid_roots}
use Rattle.cert_checker.proofs.TopLaws.{root_states, rooted_started, started_rooted, claim_fails, label_fails, accepted_is, verdict_proves}
use Rattle.cert_checker.proofs.check.check_by_terms.Goals as goal
use Rattle.cert_checker.proofs.check.check_by_terms.Goals.{In_ok-failure}

pub do_roots_hold-requires-clause-roots : goal.do_roots_hold-requires-clause-roots
do_roots_hold-requires-clause-roots g c =
    let book = c.args.terms.now.book.now in
    let tour = c.args.terms.now.tour.now in
    let log = c.args.log.now in
    let m = g.B.RuleBook.machine book in
    let bound = (g.K.LabelBound.bounds c.args.terms.now.bound.now).bound in
    let law = subst (λ params. IsBook params m) c.requires.terms.params (g.met.B.RuleBook.laws book) in
    root_states tour log m law c.requires.terms.tour c.requires.short c.args.roots.now c.requires.roots

pub returns-in-Some : goal.returns-in-Some
returns-in-Some g c =
    let book = c.args.terms.now.book.now in
    let tour = c.args.terms.now.tour.now in
    let log = c.args.log.now in
    let cert = c.args.cert.now in
    let m = g.B.RuleBook.machine book in
    let bound = (g.K.LabelBound.bounds c.args.terms.now.bound.now).bound in
    let q = subst (λ o. MatchOption o (ClaimHolds tour log cert) (λ r. (cert.kind ≡ Shortest) × StepsFail tour log cert (acts_of_runs cert.schedule) r)) c.in-Some.is c.in_ok-reason.ensures in
    record {
      verdict = ((λ v. claim_fails tour log m bound cert c.in-Some.reason q.0 q.1 v), inl (q.0, q.1, c.claim_line-line.ensures));
      proves = tt;
    }

pub returns-then-not-branch : goal.returns-then-not-branch
returns-then-not-branch g c =
    let book = c.args.terms.now.book.now in
    let tour = c.args.terms.now.tour.now in
    let log = c.args.log.now in
    let cert = c.args.cert.now in
    let m = g.B.RuleBook.machine book in
    let bound = (g.K.LabelBound.bounds c.args.terms.now.bound.now).bound in
    let claim = subst (λ o. MatchOption o (ClaimHolds tour log cert) (λ r. (cert.kind ≡ Shortest) × StepsFail tour log cert (acts_of_runs cert.schedule) r)) c.in_default.is c.in_ok-reason.ensures in
    let layer = there (layer_of m.state_of tour (word_length tour) cert.layers 0) in
    let fails : RootsHold tour log m cert → ⊥ =
    (λ r. not_so c.in_ok-do_roots_hold.field-0 c.in_ok-do_roots_hold.ensures c.if-not-branch.true
    (started_rooted tour log m c.args.roots.now c.requires.roots layer r)) in
    record {
      verdict = ((λ v. fails (valid_roots tour log m bound cert v)), inr (claim, inl (refl, c.root_line-line.ensures, fails)));
      proves = tt;
    }

-- the claim holds, where no condition on it fails
claim_holds : (g : _) (c : In_ok-failure g) → ClaimHolds c.args.terms.now.tour.now c.args.log.now c.args.cert.now
claim_holds g c =
    subst (λ o. MatchOption o (ClaimHolds c.args.terms.now.tour.now c.args.log.now c.args.cert.now) (λ r. (c.args.cert.now.kind ≡ Shortest) × StepsFail c.args.terms.now.tour.now c.args.log.now c.args.cert.now (acts_of_runs c.args.cert.now.schedule) r))
    c.in_default.is c.in_ok-reason.ensures

-- the roots hold, where each is covered by the first layer
roots_hold : (g : _) (c : In_ok-failure g) → RootsHold c.args.terms.now.tour.now c.args.log.now (g.B.RuleBook.machine c.args.terms.now.book.now) c.args.cert.now
roots_hold g c =
    let tour = c.args.terms.now.tour.now in
    let cert = c.args.cert.now in
    let m = g.B.RuleBook.machine c.args.terms.now.book.now in
    let bound = (g.K.LabelBound.bounds c.args.terms.now.bound.now).bound in
    let law = subst (λ params. IsBook params m) c.requires.terms.params (g.met.B.RuleBook.laws c.args.terms.now.book.now) in
    rooted_started tour c.args.log.now m law c.requires.terms.tour c.requires.short c.args.roots.now c.requires.roots (there (layer_of m.state_of tour (word_length tour) cert.layers 0))
    (states_read m.is_state m.state_of m.numbers law.text.numbers_told (word_length tour) (minute_of tour 0) (layer_at cert.layers 0))
    (c.in_ok-do_roots_hold.ensures.0 c.if-not-branch.false)

pub returns-in-Some-2 : goal.returns-in-Some-2
returns-in-Some-2 g c =
    let tour = c.args.terms.now.tour.now in
    let log = c.args.log.now in
    let cert = c.args.cert.now in
    let m = g.B.RuleBook.machine c.args.terms.now.book.now in
    let bound = (g.K.LabelBound.bounds c.args.terms.now.bound.now).bound in
    let at = (goal.at.returns-in-Some-2 g c).In_ok-failure in
    let told = subst (λ target. MatchOption c.in_ok-failure.field-0 (LayersPass (problem_by tour m bound) (state_at tour m) m.state_of tour target cert.layers (length cert.layers)) (IsFirstLabel (problem_by tour m bound) (state_at tour m) m.state_of tour target cert.layers (c.layers_line-first.result + 1)))
    c.requires.target c.in_ok-failure.ensures in
    let found = subst (λ n. IsFirstLabel (problem_by tour m bound) (state_at tour m) m.state_of tour cert.target cert.layers n c.in-Some-2.failure) (ap (λ n. n + 1) c.layers_line-first.ensures)
    (subst (λ o. MatchOption o (LayersPass (problem_by tour m bound) (state_at tour m) m.state_of tour cert.target cert.layers (length cert.layers)) (IsFirstLabel (problem_by tour m bound) (state_at tour m) m.state_of tour cert.target cert.layers (c.layers_line-first.result + 1)))
    c.in-Some-2.is told) in
    record {
      verdict = ((λ v. label_fails tour log m bound cert (first_line cert) c.in-Some-2.failure found v), inr (claim_holds g at, inr (roots_hold g at, found)));
      proves = tt;
    }

pub returns : goal.returns
returns g c =
    let tour = c.args.terms.now.tour.now in
    let log = c.args.log.now in
    let cert = c.args.cert.now in
    let m = g.B.RuleBook.machine c.args.terms.now.book.now in
    let bound = (g.K.LabelBound.bounds c.args.terms.now.bound.now).bound in
    let law = subst (λ params. IsBook params m) c.requires.terms.params (g.met.B.RuleBook.laws c.args.terms.now.book.now) in
    let at = (goal.at.returns g c).In_ok-failure in
    let told = subst (λ target. MatchOption c.in_ok-failure.field-0 (LayersPass (problem_by tour m bound) (state_at tour m) m.state_of tour target cert.layers (length cert.layers)) (IsFirstLabel (problem_by tour m bound) (state_at tour m) m.state_of tour target cert.layers (c.layers_line-first.result + 1)))
    c.requires.target c.in_ok-failure.ensures in
    let pass = subst (λ o. MatchOption o (LayersPass (problem_by tour m bound) (state_at tour m) m.state_of tour cert.target cert.layers (length cert.layers)) (IsFirstLabel (problem_by tour m bound) (state_at tour m) m.state_of tour cert.target cert.layers (c.layers_line-first.result + 1)))
    c.in_default-2.is told in
    let valid = valid_from tour log m bound cert (claim_holds g at) (roots_hold g at) pass in
    let verdict = accepted_is tour log m bound cert cert.target refl c.requires.cert valid in
    let says = subst (λ v. IsVerdictBy tour log m bound cert v) (sym c.accepted.ensures) verdict in
    record {
      verdict = says;
      proves = verdict_proves tour log m bound law c.requires.terms.tour c.requires.obeys c.requires.short cert c.accepted.result says;
    }
