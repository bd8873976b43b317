-- The bound of labels by the limits of a shift obeys the laws of a bound.
use Rattle.std.proofs.Common.{◌≡◌, ℕ, ◌+◌, ◌*◌, ◌-◌, ◌<◌, ◌≤◌, Bool, true, false, refl, sym, ◌∙◌, ap, subst, arith, inl, inr, zero, suc}
use Rattle.std.specs.Prelude.{Option, None, Some, Contains, ◌||◌}
use Rattle.std.proofs.lemmas.Bool.{cases_lt, or_left, or_right}
use Rattle.duty_core.specs.declared.activity.Activity.{Activity}
use Rattle.duty_core.specs.declared.activity.Activity.TheVariants.{Drive, Serve, Wait, Off, Berth}
use Rattle.duty_core.specs.declared.params.Params.TheVariants.{UsProperty}
use Rattle.duty_core.specs.Activity.{rests, drives}
use Rattle.duty_core.specs.Params.{unit_minutes, allows}
use Rattle.rule_core.specs.declared.nexts.Next.{Next}
use Rattle.rule_core.specs.Reach.{IsOneOf}
use Rattle.sleeper_split.specs.Machine.{IsSplitCount}
use Rattle.sleeper_split.specs.Choices.{sleeps}
use Rattle.sleeper_split.specs.Laws.Runs.{rest_run, rests_at_once}
use Rattle.us_rules.specs.declared.state.UsState.{UsState}
use Rattle.us_rules.specs.Machine.{us_advances}
use Rattle.us_rules.specs.Book.{us_book}
use Rattle.tour_model.specs.declared.tour.Tour.{Tour}
use Rattle.tour_model.specs.declared.label.Label.{Label}
use Rattle.tour_model.specs.declared.piece.Piece.{Piece}
use Rattle.tour_model.specs.declared.piece.Piece.TheVariants as piece
use Rattle.tour_model.specs.Tour.{IsTour, grids_of}
use Rattle.tour_model.specs.Word.{word_length, next_piece, windows_at, is_drive, is_service, may_do, may_idle}
use Rattle.tour_model.specs.Way.{done}
use Rattle.tour_model.specs.Schedule.{step_units}
use Rattle.tour_model.specs.Laws.WayLaws.{may_before}
use Rattle.cert_text.specs.CoverLists.Problem.{grow}
use Rattle.cert_text.specs.CoverLists.Planning.{minute_of, state_at, problem_of}
use Rattle.cert_text.specs.CoverLists.Laws.ProblemLaws.{IsBound}
use Rattle.cert_text.specs.CoverLists.Laws.ProblemOf.{step_minutes}
use Rattle.rest_bound.specs.declared.limits.Limits.{Limits}
use Rattle.rest_bound.specs.declared.counts.Counts.{Counts}
use Rattle.rest_bound.specs.Ends.{Plan}
use Rattle.rest_bound.specs.CanEnd.{CanEnd}
use Rattle.rest_bound.specs.Laws.StepLaws.{at_end, can_after}
use Rattle.us_bound.specs.Projection.{counts_of, limits_of}
use Rattle.us_bound.specs.Work.{plan_of}
use Rattle.us_bound.specs.LabelEnd.{IsCountsEnd, IsAstray, IsLabelEnd, IsShiftBound}
use Rattle.us_bound.specs.Laws.Rounding.{IsRounding, rounds}
use Rattle.us_bound.specs.Laws.Units.{IsDuty, step_duty, step_rest, no_run_after}
use Rattle.us_bound.specs.Laws.StepCounts.{last_step, work_ends, wait_ends, rest_ends}

-- # A step of the tour

duty_step : (berth : Bool) (days day_start n : ℕ) (s : UsState) (at : ℕ) (x : Activity) (t : Next UsState) → 1 ≤ n → rests x ≡ false → IsOneOf (us_advances berth days day_start s at x n) t → IsDuty berth x n s t.state
duty_step berth days day_start zero s at x t l w o = absurd (omega arith)
duty_step berth days day_start (suc n) s at x t l w o = step_duty berth days day_start n s at x t w o

rest_step : (berth : Bool) (days day_start n : ℕ) (s : UsState) (at : ℕ) (x : Activity) (t : Next UsState) → 1 ≤ n → rests x ≡ true → IsOneOf (us_advances berth days day_start s at x n) t → t.state.split ≡ rest_run (sleeps x) n s.split
rest_step berth days day_start zero s at x t l w o = absurd (omega arith)
rest_step berth days day_start (suc n) s at x t l w o = step_rest berth days day_start n s at x t w o ∙ sym (rests_at_once (sleeps x) (suc n) s.split l)

duty_no_run : (berth : Bool) (n : ℕ) (x : Activity) (s t : UsState) → 1 ≤ n → IsDuty berth x n s t → t.split.run.long ≡ 0
duty_no_run berth zero x s t l d = absurd (omega arith)
duty_no_run berth (suc n) x s t l d = no_run_after (drives x) n d.start t.split d.count

-- What the tour allows of an activity is what the plan says of the next piece.
serve_drives : (tour : Tour) (k : ℕ) (o : Option Piece) → is_service (windows_at tour.stops) k o ≡ true → is_drive o ≡ false
serve_drives tour k None h = refl
serve_drives tour k (Some (piece.Drive stop)) h = absurd (let z : false ≡ true = h in cc)
serve_drives tour k (Some (piece.Serve stop first)) h = refl

-- What can end after a step of an allowed activity could end before it, and no label goes astray by it.
record StepsTo (tour : Tour) (berth : Bool) (k p : ℕ) (s : UsState) (p2 : ℕ) (t : UsState) : Type 0 where
  ends : k + 1 ≤ last_step → (0 < s.split.run.long → may_idle tour p ≡ true) → (e : ℕ) → CanEnd (plan_of tour) (limits_of berth tour.grid) (word_length tour - p2) p2 (k + 1) (counts_of tour.grid t) e →
      CanEnd (plan_of tour) (limits_of berth tour.grid) (word_length tour - p) p k (counts_of tour.grid s) e
  right : IsAstray tour p2 t → ⊥

by_work : (tour : Tour) (berth : Bool) (k p : ℕ) (x : Activity) (s t : UsState) → IsRounding tour.grid → p < word_length tour → IsSplitCount s.split → (is_drive (next_piece tour p) || is_service (windows_at tour.stops) k (next_piece tour p)) ≡ true →
    is_drive (next_piece tour p) ≡ drives x → IsDuty berth x tour.grid s t → StepsTo tour berth k p s (p + 1) t
by_work tour berth k p x s t r less i opens same d =
    let n : word_length tour - p ≡ suc (word_length tour - (p + 1)) = omega arith in
    record {
      ends = λ l rests e h. subst (λ m. CanEnd (plan_of tour) (limits_of berth tour.grid) m p k (counts_of tour.grid s) e) (sym n) (work_ends (plan_of tour) berth tour.grid (word_length tour - (p + 1)) p k e x s t r l i rests opens same d h);
      right = λ a. (let z = duty_no_run berth tour.grid x s t r.some d in let y = a.run in absurd (omega arith));
    }

by_rest : (tour : Tour) (berth : Bool) (k p : ℕ) (x : Activity) (s t : UsState) → IsRounding tour.grid → may_idle tour p ≡ true → t.split ≡ rest_run (sleeps x) tour.grid s.split → StepsTo tour berth k p s p t
by_rest tour berth k p x s t r idle q = record {
  ends = λ l rests e h. rest_ends (plan_of tour) berth (sleeps x) tour.grid (word_length tour - p) p k e s t r l idle q h;
  right = λ a. absurd (let z : false ≡ true = sym a.serving ∙ idle in cc);
}

by_wait : (tour : Tour) (berth : Bool) (k p : ℕ) (s t : UsState) → IsRounding tour.grid → IsSplitCount s.split → IsDuty berth Wait tour.grid s t → StepsTo tour berth k p s p t
by_wait tour berth k p s t r i d = record {
  ends = λ l rests e h. wait_ends (plan_of tour) berth tour.grid (word_length tour - p) p k e Wait s t r l i rests refl d h;
  right = λ a. (let z = duty_no_run berth tour.grid Wait s t r.some d in let y = a.run in absurd (omega arith));
}

steps_to : (tour : Tour) (berth : Bool) (days day_start k p : ℕ) (x : Activity) (s : UsState) (at : ℕ) (n : Next UsState) → IsRounding tour.grid → p < word_length tour → IsSplitCount s.split → may_do tour k p x ≡ true →
    IsOneOf (us_advances berth days day_start s at x tour.grid) n → StepsTo tour berth k p s (done p x) n.state
steps_to tour berth days day_start k p Drive s at n r less i may o =
    by_work tour berth k p Drive s n.state r less i (or_left (is_drive (next_piece tour p)) (is_service (windows_at tour.stops) k (next_piece tour p)) may) may (duty_step berth days day_start tour.grid s at Drive n r.some refl o)
steps_to tour berth days day_start k p Serve s at n r less i may o =
    by_work tour berth k p Serve s n.state r less i (or_right (is_drive (next_piece tour p)) (is_service (windows_at tour.stops) k (next_piece tour p)) may) (serve_drives tour k (next_piece tour p) may) (duty_step berth days day_start tour.grid s at Serve n r.some refl o)
steps_to tour berth days day_start k p Wait s at n r less i may o = by_wait tour berth k p s n.state r i (duty_step berth days day_start tour.grid s at Wait n r.some refl o)
steps_to tour berth days day_start k p Off s at n r less i may o = by_rest tour berth k p Off s n.state r may (rest_step berth days day_start tour.grid s at Off n r.some refl o)
steps_to tour berth days day_start k p Berth s at n r less i may o = by_rest tour berth k p Berth s n.state r may (rest_step berth days day_start tour.grid s at Berth n r.some refl o)

-- # Bounds

-- no bound is before its step
counts_after : (plan : Plan) (l : Limits) (n p k : ℕ) (c : Counts) (horizon b : ℕ) → IsCountsEnd plan l n p k c horizon b → k ≤ b
counts_after plan l n p k c horizon b h = elim (cases_lt horizon b) [
  | inl a ↦ (let e = h.beyond a in omega arith)
  | inr a ↦ can_after plan l n p k b c (h.made a)
]

-- a finished label ends at its step
full_is : (plan : Plan) (l : Limits) (p k : ℕ) (c : Counts) (horizon b : ℕ) → IsCountsEnd plan l 0 p k c horizon b → b ≡ k
full_is plan l p k c horizon b h =
    let z = counts_after plan l 0 p k c horizon b h in
    elim (cases_lt horizon k) [
      | inl a ↦ (let e = h.beyond (omega arith) in omega arith)
      | inr a ↦ (let y = h.below k (at_end plan l p k c) a in omega arith)
    ]

label_full : (tour : Tour) (berth : Bool) (horizon k p : ℕ) (s : UsState) (b : ℕ) → p ≡ word_length tour → IsLabelEnd tour berth horizon k p s b → b ≡ k
label_full tour berth horizon k p s b e (inl h) = h.1
label_full tour berth horizon k p s b e (inr h) =
    let n : word_length tour - p ≡ 0 = omega arith in
    full_is (plan_of tour) (limits_of berth tour.grid) p k (counts_of tour.grid s) horizon b (subst (λ m. IsCountsEnd (plan_of tour) (limits_of berth tour.grid) m p k (counts_of tour.grid s) horizon b) n h.1)

label_before : (tour : Tour) (berth : Bool) (horizon k p : ℕ) (s : UsState) (p2 : ℕ) (t : UsState) (b e : ℕ) → horizon ≤ last_step → StepsTo tour berth k p s p2 t → IsLabelEnd tour berth horizon k p s b → IsLabelEnd tour berth horizon (k + 1) p2 t e → b ≤ e
label_before tour berth horizon k p s p2 t b e l w h (inl i) = absurd (w.right i.0)
label_before tour berth horizon k p s p2 t b e l w (inl h) (inr i) =
    let z = counts_after (plan_of tour) (limits_of berth tour.grid) (word_length tour - p2) p2 (k + 1) (counts_of tour.grid t) horizon e i.1 in
    let q = h.1 in
    omega arith
label_before tour berth horizon k p s p2 t b e l w (inr h) (inr i) =
    let z = counts_after (plan_of tour) (limits_of berth tour.grid) (word_length tour - p2) p2 (k + 1) (counts_of tour.grid t) horizon e i.1 in
    elim (cases_lt horizon e) [
      | inl a ↦ (let q = i.1.beyond a in elim (cases_lt horizon b) [ inl c ↦ (let y = h.1.beyond c in omega arith) | inr c ↦ omega arith ])
      | inr a ↦ h.1.below e (w.ends (omega arith) h.0 e (i.1.made a)) a
    ]

-- # The law

-- The steps of a tour by the book of the United States are as many units as minutes.
units_are : (tour : Tour) (berth : Bool) (days day_start : ℕ) → IsTour tour → tour.params ≡ UsProperty berth days day_start → step_units tour ≡ tour.grid
units_are tour berth days day_start t e =
    let u : unit_minutes tour.params ≡ 1 = ap unit_minutes e in
    let m = step_minutes tour t in
    let q : unit_minutes tour.params * step_units tour ≡ 1 * step_units tour = ap (λ n. n * step_units tour) u in
    omega arith

tour_rounds : (tour : Tour) (berth : Bool) (days day_start : ℕ) → IsTour tour → tour.params ≡ UsProperty berth days day_start → IsRounding tour.grid
tour_rounds tour berth days day_start t e = rounds tour.grid (subst (λ p. Contains (grids_of p) tour.grid) e t.grid)

-- A bound of labels by the limits of a shift is a bound.
pub is_bound_of_shift : (tour : Tour) (berth : Bool) (days day_start horizon : ℕ) (bound : ℕ → Label UsState → Option ℕ) → IsTour tour → tour.params ≡ UsProperty berth days day_start → horizon ≤ last_step → IsShiftBound tour berth horizon bound →
    IsBound (problem_of tour (us_book berth days day_start)) (state_at tour (us_book berth days day_start)) (allows tour.params) bound
is_bound_of_shift tour berth days day_start horizon bound t params l is = record {
  full = λ k y ends. (let q = is k y in q.1 ∙ ap Some (label_full tour berth horizon k y.progress y.state q.0 ends q.2));
  before = λ k y x n e here may ok o has. (
      let q = is k y in
      let z = is (k + 1) (grow y k x n).label in
      let r = tour_rounds tour berth days day_start t params in
      let same : z.0 ≡ e = (let v : Some z.0 ≡ Some e = sym z.1 ∙ has in cc) in
      let o2 : IsOneOf (us_advances berth days day_start y.state (minute_of tour k) x tour.grid) n = subst (λ u. IsOneOf (us_advances berth days day_start y.state (minute_of tour k) x u) n) (units_are tour berth days day_start t params) o in
      let w = steps_to tour berth days day_start k y.progress x y.state (minute_of tour k) n r (may_before tour k y.progress x may) here.state.split.is_count may o2 in
      let b = label_before tour berth horizon k y.progress y.state (done y.progress x) n.state q.0 z.0 l w q.2 z.2 in
      record { at = q.0; is = q.1; by = omega arith });
}
