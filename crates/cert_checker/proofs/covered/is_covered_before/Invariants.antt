use Rattle.cert_text.specs.CoverLists.Planning.{problem_of}
use Rattle.cert_checker.proofs.PlaceLaws.{NonePlaced}
use Rattle.cert_checker.proofs.covered.is_covered_before.Given as goal

abbrev pub invariant-loop-progress : goal.invariant-loop-progress
invariant-loop-progress g l =
    NonePlaced (problem_of l.terms.tour.now (g.B.RuleBook.machine l.terms.book.now)) l.step l.labels l.count l.asked l.asked.progress l.progress
