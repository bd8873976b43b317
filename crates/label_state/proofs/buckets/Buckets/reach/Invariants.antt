use Rattle.std.proofs.Common.{◌≡◌, ℕ, ◌+◌, ◌-◌, ◌≤◌, length}
use Rattle.std.specs.Prelude.{◌^◌, slice_get}
use Rattle.label_state.specs.Buckets.{places_in, AreUpTo}
use Rattle.label_state.proofs.buckets.Buckets.reach.Given as goal

abbrev pub invariant-loop-self : goal.invariant-loop-self
invariant-loop-self l = record {
  same : (depth p : ℕ) → places_in depth (slice_get l.self-inside.buckets.items p) ≡ places_in depth (slice_get l.initial.self-inside.buckets.items p);
  depths : (depth : ℕ) → AreUpTo depth l.initial.self-inside.buckets.items → AreUpTo depth l.self-inside.buckets.items;
  few : length l.self-inside.buckets.items ≤ 2 ^ 32;
}

abbrev pub decreases-loop-self : goal.decreases-loop-self
decreases-loop-self l = l.progress + 1 - length l.self-inside.buckets.items
