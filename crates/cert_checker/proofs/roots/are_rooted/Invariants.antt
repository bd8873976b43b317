use Rattle.std.proofs.Common.{take}
use Rattle.cert_text.specs.CoverLists.Planning.{problem_of}
use Rattle.cert_checker.specs.Parsed.{there}
use Rattle.cert_checker.specs.Rooted.{AreRooted}
use Rattle.cert_checker.proofs.roots.are_rooted.Given as goal

abbrev pub invariant-loop-root : goal.invariant-loop-root
invariant-loop-root g l =
    AreRooted (problem_of l.terms.tour.now (g.B.RuleBook.machine l.terms.book.now)) (there l.labels) (take l.root-index l.roots)
