use Rattle.std.proofs.Common.{◌≡◌, take}
use Rattle.std.specs.List.{count_by}
use Rattle.duty_core.specs.History.{between}
use Rattle.timeline.specs.Kinds.{test_of}
use Rattle.timeline.specs.Runs.{spread}
use Rattle.timeline.proofs.runs.count.Given as goal

abbrev pub invariant-loop-run : goal.invariant-loop-run
invariant-loop-run l = l.total ≡ count_by (test_of l.kind) (between (spread (take l.run-index l.runs)) l.from l.to)
