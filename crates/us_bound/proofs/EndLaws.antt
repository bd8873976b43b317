-- What the least end by counts makes of a label's bound.
use Rattle.std.proofs.Common.{◌≡◌, ℕ, ◌+◌, ◌-◌, ◌<◌, ◌≤◌, Bool, true, false, List, refl, sym, ◌∙◌, ap, subst, arith, inl, inr, max}
use Rattle.std.specs.Prelude.{Option, None, Some, slice_get, Contains}
use Rattle.sleeper_split.specs.Machine.{IsSplitCount}
use Rattle.tour_model.specs.declared.limits.TheConstants.{GRIDS}
use Rattle.rest_bound.specs.Ends.{Plan}
use Rattle.rest_bound.specs.Runs.{AreCounts}
use Rattle.us_bound.specs.declared.steps.TheConstants.{MOST_GRID}
use Rattle.us_bound.specs.Laws.Rounding.{rounds}
use Rattle.us_bound.specs.Laws.StepCounts.{counts_hold}
use Rattle.us_rules.specs.declared.state.UsState.{UsState}
use Rattle.tour_model.specs.declared.piece.Piece.{Piece}
use Rattle.tour_model.specs.declared.tour.Tour.{Tour}
use Rattle.tour_model.specs.Word.{word_of, word_length, is_pause}
use Rattle.rest_bound.specs.declared.limits.Limits.{Limits}
use Rattle.rest_bound.specs.Table.{IsLeast}
use Rattle.rest_bound.specs.CanEnd.{CanEnd}
use Rattle.us_bound.specs.Projection.{counts_of, limits_of}
use Rattle.us_bound.specs.Work.{plan_by}
use Rattle.us_bound.specs.LabelEnd.{IsLabelEnd}

pub astray : (ps : List Piece) (tour : Tour) (berth : Bool) (horizon k p : ℕ) (s : UsState) → ps ≡ word_of tour → 0 < s.split.run.long → is_pause (slice_get ps p) ≡ false → IsLabelEnd tour berth horizon k p s k
astray ps tour berth horizon k p s e run h = inl (record { run = run; serving = sym (ap (λ qs. is_pause (slice_get qs p)) e) ∙ h }, refl)

-- by the tour's own word, limits and length
same_least : (ps : List Piece) (tour : Tour) (berth : Bool) (l : Limits) (n horizon k p : ℕ) (s : UsState) (o : Option ℕ) → ps ≡ word_of tour → l ≡ limits_of berth tour.grid → n ≡ word_length tour →
    IsLeast (CanEnd (plan_by ps tour) l (n - p) p k (counts_of tour.grid s)) horizon o → IsLeast (CanEnd (plan_by (word_of tour) tour) (limits_of berth tour.grid) (word_length tour - p) p k (counts_of tour.grid s)) horizon o
same_least ps tour berth l n horizon k p s o e f g h =
    subst (λ qs. IsLeast (CanEnd (plan_by qs tour) (limits_of berth tour.grid) (word_length tour - p) p k (counts_of tour.grid s)) horizon o) e
    (subst (λ m. IsLeast (CanEnd (plan_by ps tour) m (word_length tour - p) p k (counts_of tour.grid s)) horizon o) f
    (subst (λ m. IsLeast (CanEnd (plan_by ps tour) l (m - p) p k (counts_of tour.grid s)) horizon o) g h))

pub some_end : (ps : List Piece) (tour : Tour) (berth : Bool) (l : Limits) (n horizon k p : ℕ) (s : UsState) (b : ℕ) → ps ≡ word_of tour → l ≡ limits_of berth tour.grid → n ≡ word_length tour →
    (0 < s.split.run.long → is_pause (slice_get ps p) ≡ true) → IsLeast (CanEnd (plan_by ps tour) l (n - p) p k (counts_of tour.grid s)) horizon (Some b) → IsLabelEnd tour berth horizon k p s b
some_end ps tour berth l n horizon k p s b e f g rests h =
    let q = same_least ps tour berth l n horizon k p s (Some b) e f g h in
    let w = q.within b refl in
    inr (λ r. sym (ap (λ qs. is_pause (slice_get qs p)) e) ∙ rests r, record { below = q.below; made = λ z. q.made b refl; beyond = λ z. absurd (omega arith) })

pub no_end : (ps : List Piece) (tour : Tour) (berth : Bool) (l : Limits) (n horizon k p : ℕ) (s : UsState) (b : ℕ) → ps ≡ word_of tour → l ≡ limits_of berth tour.grid → n ≡ word_length tour →
    (0 < s.split.run.long → is_pause (slice_get ps p) ≡ true) → IsLeast (CanEnd (plan_by ps tour) l (n - p) p k (counts_of tour.grid s)) horizon None → b ≡ max k (horizon + 1) → IsLabelEnd tour berth horizon k p s b
no_end ps tour berth l n horizon k p s b e f g rests h is =
    let q = same_least ps tour berth l n horizon k p s None e f g h in
    inr (λ r. sym (ap (λ qs. is_pause (slice_get qs p)) e) ∙ rests r, record { below = λ x c z. absurd (q.below x c z); made = λ z. absurd (omega arith); beyond = λ z. is })

pub grid_some : (g : ℕ) → Contains GRIDS g → 1 ≤ g
grid_some g c = (rounds g c).some

pub grid_few : (g : ℕ) → Contains GRIDS g → g ≤ MOST_GRID
grid_few g c = (rounds g c).few

-- the counts of a state hold before each piece, unless it rests in the midst of a service
pub counts_there : (g : ℕ) (plan : Plan) (p : ℕ) (s : UsState) → Contains GRIDS g → IsSplitCount s.split → (0 < s.split.run.long → plan.idles p ≡ true) → AreCounts plan p (counts_of g s)
counts_there g plan p s c i rests = counts_hold g plan p s (rounds g c) i rests
