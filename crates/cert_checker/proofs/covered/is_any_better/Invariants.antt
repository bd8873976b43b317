use Rattle.std.proofs.Common.{take}
use Rattle.cert_text.specs.CoverLists.Planning.{problem_of}
use Rattle.cert_text.specs.CoverLists.Cover.{NoneCovers}
use Rattle.cert_checker.specs.Places.{labels_at}
use Rattle.cert_checker.proofs.covered.is_any_better.Given as goal

abbrev pub invariant-loop-place : goal.invariant-loop-place
invariant-loop-place g l =
    NoneCovers (problem_of l.terms.tour.now (g.B.RuleBook.machine l.terms.book.now)) l.step (labels_at l.labels (take l.place-index l.places)) l.asked
