use Rattle.std.proofs.Common.{◌≡◌}
use Rattle.cert_text.specs.CoverLists.Planning.{problem_by, state_at}
use Rattle.cert_checker.specs.Parsed.{there}
use Rattle.cert_checker.specs.Conditions.{PassUpTo}
use Rattle.cert_checker.proofs.layer.first_fault.Given as goal

abbrev pub invariant-loop-index : goal.invariant-loop-index
invariant-loop-index g l = record {
  all : l.label-items ≡ l.labels;
  pass : PassUpTo (problem_by l.terms.tour.now (g.B.RuleBook.machine l.terms.book.now) (g.K.LabelBound.bounds l.terms.bound.now).bound) (state_at l.terms.tour.now (g.B.RuleBook.machine l.terms.book.now)) l.terms.target l.step l.labels (there l.next) l.index;
}
