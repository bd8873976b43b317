use Rattle.std.proofs.Common.{◌+◌, ◌*◌, ℕ, map}
use Rattle.std.specs.Prelude.{flat_map}
use Rattle.std.specs.List.{range_with_len}
use Rattle.duty_core.specs.declared.limits.TheConstants.{DAY_MINUTES}
use Rattle.text_parts.specs.Parts.{Puts}
use Rattle.log_graph.specs.Graph.{day_lines, day_begin}
use Rattle.log_graph.proofs.draw.push_graph.Given as goal

abbrev pub invariant-loop-day : goal.invariant-loop-day
invariant-loop-day l =
    Puts (flat_map (day_lines l.params l.first l.history) (map (λ (day : ℕ). day_begin l.params l.first + DAY_MINUTES * day) (range_with_len 0 l.day))) l.fn.text l.text
