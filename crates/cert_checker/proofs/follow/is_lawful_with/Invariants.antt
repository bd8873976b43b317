use Rattle.std.proofs.Common.{take}
use Rattle.duty_core.specs.Params.{unit_minutes}
use Rattle.cert_checker.specs.Followed.{AreHeld}
use Rattle.cert_checker.proofs.follow.is_lawful_with.Given as goal

abbrev pub invariant-loop-unit : goal.invariant-loop-unit
invariant-loop-unit g l =
    AreHeld (unit_minutes (g.B.RuleBook.machine l.book).params) (g.B.RuleBook.machine l.book).nexts ((g.B.RuleBook.machine l.book).root l.first) l.first (take l.unit l.history) l.marks l.held.items
