use Rattle.std.proofs.Common.{◌≡◌, ◌+◌, ◌*◌, ◌<◌, ◌++◌, ℕ, List, map}
use Rattle.std.specs.Prelude.{flat_map}
use Rattle.std.specs.List.{range_with_len}
use Rattle.report_text.specs.Draws.{number_after}
use Rattle.report_text.specs.Made.{stop_made}
use Rattle.report_text.specs.declared.draws.TheConstants.{DRAW_MODULUS}
use Rattle.report_text.proofs.maker.push_stops.Given as goal

abbrev pub invariant-loop-before : goal.invariant-loop-before
invariant-loop-before l = record {
  number : l.number ≡ number_after l.seed (2 * l.before + 1);
  below : l.number < DRAW_MODULUS;
  text : l.text ≡ l.fn.text ++ flat_map (λ (stop : List ℕ). stop) (map (stop_made l.seed) (range_with_len 0 l.before));
}
