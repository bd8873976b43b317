use Rattle.std.proofs.Common.{◌≡◌, ◌≤◌, ◌+◌}
use Rattle.duty_core.specs.Counting.{places}
use Rattle.log_graph.specs.Graph.{is_shown}
use Rattle.log_graph.proofs.cells.minutes_shown.Given as goal

abbrev pub invariant-loop-minute : goal.invariant-loop-minute
invariant-loop-minute l = record {
  total : l.total ≡ places (λ k. is_shown l.params l.first l.history l.status (l.from + k)) l.minute;
  few : l.total ≤ l.minute;
}
