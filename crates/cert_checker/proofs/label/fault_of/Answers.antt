use Rattle.std.proofs.Common.{◌≤◌, take, sym, ◌∙◌, subst, arith}
use Rattle.tour_model.specs.Word.{word_length}
use Rattle.cert_text.specs.CoverLists.Planning.{problem_by, state_at, minute_of}
use Rattle.cert_text.specs.CoverLists.Cover.{IsLabelAt, NoneCovers}
use Rattle.cert_checker.specs.Parsed.{there}
use Rattle.cert_checker.specs.Conditions.{IsLongEnough}
use Rattle.cert_checker.proofs.LabelLaws.{label_from, none_better, not_so}
use Rattle.cert_checker.proofs.label.fault_of.Goals as goal
use Rattle.cert_checker.proofs.label.fault_of.Goals.{In_ok-is_answered_for}

pub is_covered_before-requires-clause-asked : goal.is_covered_before-requires-clause-asked
is_covered_before-requires-clause-asked g c =
    let next_few = c.requires.next.few in
    record {
      tour = c.requires.next.by.tour;
      few = omega arith;
      labels = c.requires.labels;
      asked = subst (λ l. (g.B.RuleBook.machine c.args.terms.now.book.now).is_state l.state (minute_of c.args.terms.now.tour.now c.args.step)) (sym c.of-asked.ensures) c.requires.next.state;
    }

-- it is a label of the step
stands : (g : _) (c : In_ok-is_answered_for g) → IsLabelAt (state_at c.args.terms.now.tour.now (g.B.RuleBook.machine c.args.terms.now.book.now)) (word_length c.args.terms.now.tour.now) c.args.step c.args.label.now
stands g c =
    let all = word_length c.args.terms.now.tour.now in
    let whole = c.requires.next.by.goal in
    let few = c.requires.progress in
    let within : c.args.label.now.progress ≤ all = omega arith in
    label_from (state_at c.args.terms.now.tour.now (g.B.RuleBook.machine c.args.terms.now.book.now)) all c.args.step c.args.label.now c.requires.next.state within (c.has_left.ensures.0 c.if-not-has_left.false)

-- finished, it has not taken less than the target
long : (g : _) (c : In_ok-is_answered_for g) → IsLongEnough (problem_by c.args.terms.now.tour.now (g.B.RuleBook.machine c.args.terms.now.book.now) (g.K.LabelBound.bounds c.args.terms.now.bound.now).bound) c.args.terms.now.target c.args.step c.args.label.now
long g c done = c.is_long_enough.ensures.0 c.if-not-is_long_enough.false (done ∙ sym c.requires.next.by.goal)

-- none before it is better
fresh : (g : _) (c : In_ok-is_answered_for g) → NoneCovers (problem_by c.args.terms.now.tour.now (g.B.RuleBook.machine c.args.terms.now.book.now) (g.K.LabelBound.bounds c.args.terms.now.bound.now).bound) c.args.step (there (take c.args.place c.args.labels.now)) c.args.label.now
fresh g c =
    none_better (problem_by c.args.terms.now.tour.now (g.B.RuleBook.machine c.args.terms.now.book.now) (g.K.LabelBound.bounds c.args.terms.now.bound.now).bound) c.args.step (there (take c.args.place c.args.labels.now)) c.of-asked.result c.args.label.now c.is_covered_before.result c.of-asked.ensures c.is_covered_before.ensures c.if-is_covered_before.false

pub returns-then-not-branch : goal.returns-then-not-branch
returns-then-not-branch g c =
    let at = (goal.at.returns-then-not-branch g c).In_ok-is_answered_for in
    (stands g at, long g at, fresh g at, not_so c.in_ok-is_answered_for.field-0 c.in_ok-is_answered_for.ensures c.if-not-branch.true)

pub returns : goal.returns
returns g c =
    let at = (goal.at.returns g c).In_ok-is_answered_for in
    (stands g at, long g at, fresh g at, c.in_ok-is_answered_for.ensures.0 c.if-not-branch.false)
