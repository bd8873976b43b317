-- The bound of a label.
use Rattle.std.specs.Prelude.{◌≡◌, ℕ, ◌+◌, ◌-◌, ◌<◌, ◌≤◌, Bool, true, false, max, ◌⊎◌, Option, Some}
use Rattle.us_rules.specs.declared.state.UsState.{UsState}
use Rattle.tour_model.specs.declared.tour.Tour.{Tour}
use Rattle.tour_model.specs.declared.label.Label.{Label}
use Rattle.tour_model.specs.Word.{word_length, may_idle}
use Rattle.rest_bound.specs.declared.limits.Limits.{Limits}
use Rattle.rest_bound.specs.declared.counts.Counts.{Counts}
use Rattle.rest_bound.specs.Ends.{Plan}
use Rattle.rest_bound.specs.CanEnd.{CanEnd}
use Rattle.us_bound.specs.Projection.{counts_of, limits_of}
use Rattle.us_bound.specs.Work.{plan_of}

-- The least end up to the horizon that the counts c at step k leave open; where there is none, the first step after the horizon, or k if that is later.
pub record IsCountsEnd (plan : Plan) (l : Limits) (n p k : ℕ) (c : Counts) (horizon b : ℕ) : Type 0 where
  pub below : (e : ℕ) → CanEnd plan l n p k c e → e ≤ horizon → b ≤ e
  pub made : b ≤ horizon → CanEnd plan l n p k c b
  pub beyond : horizon < b → b ≡ max k (horizon + 1)

-- No label has a run of rest in the midst of a service. A state that has one there has the step itself as its bound.
pub record IsAstray (tour : Tour) (p : ℕ) (s : UsState) : Type 0 where
  pub run : 0 < s.split.run.long
  pub serving : may_idle tour p ≡ false

-- The bound, at step k, of a label of this progress and state.
abbrev pub IsLabelEnd : Tour → Bool → ℕ → ℕ → ℕ → UsState → ℕ → Type 0
IsLabelEnd tour berth horizon k p s b =
    (IsAstray tour p s × (b ≡ k))
    ⊎ ((0 < s.split.run.long → may_idle tour p ≡ true) × IsCountsEnd (plan_of tour) (limits_of berth tour.grid) (word_length tour - p) p k (counts_of tour.grid s) horizon b)

-- Each label has this bound.
abbrev pub IsShiftBound : Tour → Bool → ℕ → (ℕ → Label UsState → Option ℕ) → Type 0
IsShiftBound tour berth horizon bound = (k : ℕ) (l : Label UsState) → (b : ℕ) × (bound k l ≡ Some b) × IsLabelEnd tour berth horizon k l.progress l.state b
