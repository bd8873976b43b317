use Rattle.std.proofs.Common.{◌≡◌, ◌+◌, ◌*◌, ◌++◌, ℕ, map}
use Rattle.std.specs.List.{range_with_len}
use Rattle.log_graph.specs.Graph.{cell, minutes_shown}
use Rattle.log_graph.specs.declared.cells.TheConstants.{CELL_MINUTES}
use Rattle.log_graph.proofs.draw.push_cells.Given as goal

abbrev pub invariant-loop-quarter : goal.invariant-loop-quarter
invariant-loop-quarter l =
    l.text ≡ l.fn.text ++ map (λ (quarter : ℕ). cell (minutes_shown l.params l.first l.history l.status (l.day + CELL_MINUTES * quarter) CELL_MINUTES)) (range_with_len 0 l.quarter)
