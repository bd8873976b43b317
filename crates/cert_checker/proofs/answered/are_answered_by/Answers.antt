use Rattle.std.proofs.Common.{◌≡◌, ℕ, ◌+◌, ◌<◌, ◌≤◌, ◌/◌, true, refl, sym, ◌∙◌, ap, subst, arith}
use Rattle.duty_core.specs.declared.activity.Activity.{Activity}
use Rattle.duty_core.specs.Params.{unit_minutes}
use Rattle.rule_core.specs.Reach.{IsOneOf, listed}
use Rattle.tour_model.specs.Schedule.{step_units}
use Rattle.tour_model.specs.declared.tour.Tour.{Tour}
use Rattle.tour_model.specs.Way.{done}
use Rattle.tour_model.specs.Word.{word_length}
use Rattle.cert_text.specs.CoverLists.Planning.{problem_by, minute_of}
use Rattle.cert_text.specs.CoverLists.Laws.ProblemOf.{word_few}
use Rattle.cert_checker.specs.Parsed.{there}
use Rattle.cert_checker.proofs.AnsweredLaws.{advanced_states, pruned_later, off_answered, made_answered}
use Rattle.cert_checker.proofs.ClaimLaws.{done_within}
use Rattle.cert_text.specs.CoverLists.Problem.{departed}
use Rattle.cert_text.specs.CoverLists.Cover.{IsPrunedAt}
use Rattle.cert_checker.specs.declared.answered.Made.{Made}
use Rattle.cert_checker.proofs.answered.are_answered_by.Goals as goal
use Rattle.cert_checker.proofs.answered.are_answered_by.Goals.{In_ok-nexts}

-- the successors are those of the step
nexts_of : (g : _) (c : In_ok-nexts g) → listed c.in_ok-nexts.nexts ≡ (g.B.RuleBook.machine c.args.terms.now.book.now).advances c.args.label.now.state (minute_of c.args.terms.now.tour.now c.args.step) c.args.act (step_units c.args.terms.now.tour.now)
nexts_of g c =
    let advances = (g.B.RuleBook.machine c.args.terms.now.book.now).advances c.args.label.now.state in
    c.in_ok-nexts.ensures.nexts ∙ (ap (λ m. advances m c.args.act (c.args.terms.now.tour.now.grid / c.unit_of.result)) c.minute_at-at.ensures
    ∙ ap (λ u. advances (minute_of c.args.terms.now.tour.now c.args.step) c.args.act (c.args.terms.now.tour.now.grid / u)) c.unit_of.ensures)

pub progress_after-progress-requires : goal.progress_after-progress-requires
progress_after-progress-requires g c = let few = word_few c.args.terms.now.tour.now c.requires.next.by.tour in let within = c.requires.progress in let whole = c.requires.next.by.goal in omega arith

-- what is made of a label that is not finished has done no more than there is to do
made_within : (tour : Tour) (goal progress made : ℕ) (act : Activity) → made ≡ done progress act → goal ≡ word_length tour → progress < goal → made ≤ word_length tour
made_within tour goal progress made act e whole less =
    let within = done_within (word_length tour) progress act (omega arith) in
    subst (λ k. k ≤ word_length tour) (sym e) within

pub early-early-requires : goal.early-early-requires
early-early-requires g c =
    c.requires.bound.asked_early (c.args.step + 1) c.progress_after-progress.result c.requires.next.few
    (made_within c.args.terms.now.tour.now c.args.terms.now.goal c.args.label.now.progress c.progress_after-progress.result c.args.act c.progress_after-progress.ensures c.requires.next.by.goal c.requires.progress)

pub returns-then-is_pruned : goal.returns-then-is_pruned
returns-then-is_pruned g c =
    let tour = c.args.terms.now.tour.now in
    let book = c.args.terms.now.book.now in
    let l = c.args.label.now in
    let target = c.args.terms.now.target in
    let step = c.args.step in
    let bounds = g.K.LabelBound.bounds c.args.terms.now.bound.now in
    let problem = problem_by c.args.terms.now.tour.now (g.B.RuleBook.machine c.args.terms.now.book.now) (g.K.LabelBound.bounds c.args.terms.now.bound.now).bound in
    let within = made_within tour c.args.terms.now.goal l.progress (done l.progress c.args.act) c.args.act refl c.requires.next.by.goal c.requires.progress in
    let here = subst (λ d. IsPrunedAt target d c.early-early.result) c.departure-depart.ensures (c.is_pruned.ensures.0 c.if-is_pruned.true) in
    let early = subst (IsPrunedAt target (departed l.depart c.args.act step)) (c.early-early.ensures ∙ ap (bounds.early (step + 1)) c.progress_after-progress.ensures) here in (
      (λ _. off_answered problem target step (there c.args.labels.now) l c.args.act (λ n o. (
          let state = advanced_states tour (unit_minutes (g.B.RuleBook.machine book).params) (g.B.RuleBook.machine book).is_state (g.B.RuleBook.machine book).nexts (g.B.RuleBook.machine book).advances c.requires.next.by.tour (ap unit_minutes (sym c.requires.next.by.params))
          (g.met.B.RuleBook.laws book).lasts.next_is_state (g.met.B.RuleBook.laws book).advances_reach l.state step c.args.act n c.requires.next.state o in
          pruned_later target (departed l.depart c.args.act step) (bounds.early (step + 1) (done l.progress c.args.act)) (bounds.bound (step + 1) (done l.progress c.args.act) n.state)
          (λ e is. c.requires.bound.sooner (step + 1) (done l.progress c.args.act) n.state e c.requires.next.few within state is) early
          ))),
      (λ _. refl),
    )

pub are_nexts_answered-requires-clause-made : goal.are_nexts_answered-requires-clause-made
are_nexts_answered-requires-clause-made g c = record {
  within = made_within c.args.terms.now.tour.now c.args.terms.now.goal c.args.label.now.progress c.progress_after-progress.result c.args.act c.progress_after-progress.ensures c.requires.next.by.goal c.requires.progress;
  early = c.early-early.ensures;
}

pub are_nexts_answered-requires-clause-states : goal.are_nexts_answered-requires-clause-states
are_nexts_answered-requires-clause-states g c n o =
    let book = c.args.terms.now.book.now in
    advanced_states c.args.terms.now.tour.now (unit_minutes (g.B.RuleBook.machine book).params) (g.B.RuleBook.machine book).is_state (g.B.RuleBook.machine book).nexts (g.B.RuleBook.machine book).advances c.requires.next.by.tour (ap unit_minutes (sym c.requires.next.by.params))
    (g.met.B.RuleBook.laws book).lasts.next_is_state (g.met.B.RuleBook.laws book).advances_reach c.args.label.now.state c.args.step c.args.act n c.requires.next.state
    (subst (λ ns. IsOneOf ns n) (nexts_of g (goal.at.are_nexts_answered-requires-clause-states g c).In_ok-nexts) o)

pub returns : goal.returns
returns g c =
    let problem = problem_by c.args.terms.now.tour.now (g.B.RuleBook.machine c.args.terms.now.book.now) (g.K.LabelBound.bounds c.args.terms.now.bound.now).bound in
    let may : problem.may c.args.step c.args.label.now.progress c.args.act ≡ true = sym c.may_do.ensures ∙ c.if-not-may_do.false in
    let made : Made = record { depart = c.departure-depart.result; progress = c.progress_after-progress.result; early = c.early-early.result } in
    made_answered problem c.args.terms.now.target c.args.step (there c.args.labels.now) c.args.label.now c.args.act made (listed c.in_ok-nexts.nexts) c.are_nexts_answered.result c.departure-depart.ensures c.progress_after-progress.ensures may
    (nexts_of g (goal.at.returns g c).In_ok-nexts) c.are_nexts_answered.ensures
