-- The bound of a label as a function is its bound, and a label has only one.
use Rattle.std.proofs.Common.{◌≡◌, ℕ, ◌-◌, ◌≤◌, Bool, true, false, refl, sym, ◌∙◌, ap, arith, inl, inr, max}
use Rattle.std.specs.Prelude.{List, Option, None, Some, nat_lt, not, ◌&&◌, if◌then◌else◌}
use Rattle.std.proofs.lemmas.Bool.{cases_lt}
use Rattle.std.proofs.lemmas.Bool.Decides.{nat_tests}
use Rattle.duty_core.specs.declared.params.Params.TheVariants.{UsProperty}
use Rattle.duty_core.specs.Params.{allows}
use Rattle.us_rules.specs.declared.state.UsState.{UsState}
use Rattle.us_rules.specs.Book.{us_book}
use Rattle.tour_model.specs.declared.tour.Tour.{Tour}
use Rattle.tour_model.specs.Laws.WindowLaws.{IsBy}
use Rattle.tour_model.specs.Tour.{IsTour}
use Rattle.tour_model.specs.Word.{word_length, may_idle}
use Rattle.cert_text.specs.CoverLists.Bound.{IsBoundOf, ObeysBound}
use Rattle.cert_text.specs.CoverLists.Planning.{eta_bound, problem_by, state_at}
use Rattle.cert_text.specs.CoverLists.Laws.BoundLaws.{both_bound, latest}
use Rattle.cert_text.specs.CoverLists.Laws.ProblemOf.{eta_obeys}
use Rattle.tour_model.specs.declared.piece.Piece.{Piece}
use Rattle.rest_bound.specs.declared.table.Table.{Table}
use Rattle.rest_bound.specs.declared.limits.Limits.{Limits}
use Rattle.rest_bound.specs.declared.counts.Counts.{Counts}
use Rattle.rest_bound.specs.Ends.{Plan}
use Rattle.rest_bound.specs.CanEnd.{CanEnd}
use Rattle.rest_bound.specs.Table.{IsLeast}
use Rattle.rest_bound.specs.LeastEnd.{least_end}
use Rattle.rest_bound.specs.Laws.LeastLaws.{least_end_is}
use Rattle.us_bound.specs.Projection.{counts_of, limits_of}
use Rattle.us_bound.specs.Work.{plan_of}
use Rattle.us_bound.specs.LabelEnd.{IsCountsEnd, IsLabelEnd, IsShiftBound}
use Rattle.us_bound.specs.Laws.StepCounts.{last_step}
use Rattle.us_bound.specs.Laws.BoundLaws.{is_bound_of_shift}
use Rattle.us_bound.specs.ShiftBound.{end_or_after, shift_end, shift_bound, later_bound}
use Rattle.us_bound.specs.LaterBounds.{IsReady, later_bounds}

-- a least end up to the horizon, as the bound of counts
counts_end : (plan : Plan) (l : Limits) (n p k : ℕ) (c : Counts) (horizon : ℕ) (o : Option ℕ) → IsLeast (CanEnd plan l n p k c) horizon o → IsCountsEnd plan l n p k c horizon (end_or_after horizon k o)
counts_end plan l n p k c horizon (Some b) f = let w = f.within b refl in record { below = f.below; made = λ z. f.made b refl; beyond = λ z. absurd (omega arith) }
counts_end plan l n p k c horizon None f = record { below = λ e h z. absurd (f.below e h z); made = λ z. absurd (omega arith); beyond = λ z. refl }

-- by whether there is a run of rest, and whether the driver may idle
end_by : (tour : Tour) (berth : Bool) (horizon k p : ℕ) (s : UsState) (run idle : Bool) (b : ℕ) → nat_lt 0 s.split.run.long ≡ run → may_idle tour p ≡ idle →
    IsCountsEnd (plan_of tour) (limits_of berth tour.grid) (word_length tour - p) p k (counts_of tour.grid s) horizon b → IsLabelEnd tour berth horizon k p s (if run && not idle then k else b)
end_by tour berth horizon k p s true false b r i h = inl (record { run = grind (arith, nat_tests); serving = i }, refl)
end_by tour berth horizon k p s true true b r i h = inr (λ z. i, h)
end_by tour berth horizon k p s false idle b r i h = inr (λ z. absurd (let y : s.split.run.long ≤ 0 = grind (arith, nat_tests) in omega arith), h)

pub shift_end_is : (tour : Tour) (berth : Bool) (horizon k p : ℕ) (s : UsState) → IsLabelEnd tour berth horizon k p s (shift_end tour berth horizon k p s)
unfolding shift_end
shift_end_is tour berth horizon k p s =
    let plan = plan_of tour in let l = limits_of berth tour.grid in let n = word_length tour - p in let c = counts_of tour.grid s in
    let o = least_end plan l n p k c horizon in
    end_by tour berth horizon k p s (nat_lt 0 s.split.run.long) (may_idle tour p) (end_or_after horizon k o) refl refl (counts_end plan l n p k c horizon o (least_end_is plan l n p k c horizon))

-- The function gives the bound of each label.
pub shift_bound_is : (tour : Tour) (berth : Bool) (horizon : ℕ) → IsShiftBound tour berth horizon (λ k l. shift_bound tour berth horizon k l.progress l.state)
shift_bound_is tour berth horizon = λ k l. (shift_end tour berth horizon k l.progress l.state, refl, shift_end_is tour berth horizon k l.progress l.state)

counts_once : (plan : Plan) (l : Limits) (n p k : ℕ) (c : Counts) (horizon a b : ℕ) → IsCountsEnd plan l n p k c horizon a → IsCountsEnd plan l n p k c horizon b → a ≡ b
counts_once plan l n p k c horizon a b f g = elim (cases_lt horizon a) [
  | inl x ↦ elim (cases_lt horizon b) [
    | inl y ↦ f.beyond x ∙ sym (g.beyond y)
    | inr y ↦ (let z = f.below b (g.made y) y in omega arith)
  ]
  | inr x ↦ (let w = g.below a (f.made x) x in let z = f.below b (g.made (omega arith)) (omega arith) in omega arith)
]

label_once : (tour : Tour) (berth : Bool) (horizon k p : ℕ) (s : UsState) (a b : ℕ) → IsLabelEnd tour berth horizon k p s a → IsLabelEnd tour berth horizon k p s b → a ≡ b
label_once tour berth horizon k p s a b (inl f) (inl g) = f.1 ∙ sym g.1
label_once tour berth horizon k p s a b (inl f) (inr g) = absurd (let z : false ≡ true = sym f.0.serving ∙ g.0 f.0.run in cc)
label_once tour berth horizon k p s a b (inr f) (inl g) = absurd (let z : false ≡ true = sym g.0.serving ∙ f.0 g.0.run in cc)
label_once tour berth horizon k p s a b (inr f) (inr g) = counts_once (plan_of tour) (limits_of berth tour.grid) (word_length tour - p) p k (counts_of tour.grid s) horizon a b f.1 g.1

-- A label's bound is its value.
pub bound_at : (tour : Tour) (berth : Bool) (horizon k p : ℕ) (s : UsState) (b : ℕ) → IsLabelEnd tour berth horizon k p s b → shift_bound tour berth horizon k p s ≡ Some b
bound_at tour berth horizon k p s b h = ap Some (label_once tour berth horizon k p s (shift_end tour berth horizon k p s) b (shift_end_is tour berth horizon k p s) h)

-- So the function is a bound of the tour's search by the book of the United States.
pub shift_obeys : (tour : Tour) (berth : Bool) (days day_start horizon : ℕ) → IsTour tour → tour.params ≡ UsProperty berth days day_start → horizon ≤ last_step → ObeysBound tour (us_book berth days day_start) (shift_bound tour berth horizon)
shift_obeys tour berth days day_start horizon t params l =
    let b = is_bound_of_shift tour berth days day_start horizon (λ k y. shift_bound tour berth horizon k y.progress y.state) t params l (shift_bound_is tour berth horizon) in
    record { full = b.full; before = b.before }

-- So is the later of it and the earliest end with no rules.
pub later_obeys : (tour : Tour) (berth : Bool) (days day_start horizon : ℕ) → IsTour tour → tour.params ≡ UsProperty berth days day_start → horizon ≤ last_step → ObeysBound tour (us_book berth days day_start) (later_bound tour berth horizon)
later_obeys tour berth days day_start horizon t params l =
    let m = us_book berth days day_start in
    let e = eta_obeys tour m in
    let b = shift_obeys tour berth days day_start horizon t params l in
    both_bound (problem_by tour m (later_bound tour berth horizon)) (state_at tour m) (allows tour.params) (λ k y. eta_bound tour k y.progress y.state) (λ k y. shift_bound tour berth horizon k y.progress y.state)
    (record { full = e.full; before = e.before }) (record { full = b.full; before = b.before })

later_early : (a b : Option ℕ) (e : ℕ) → latest a b ≡ Some e → IsBy a e
later_early None b e h = absurd cc
later_early (Some x) None e h = absurd cc
later_early (Some x) (Some y) e h = let q : max x y ≡ e = cc in record { at = x; is = refl; by = omega arith }

-- It may be asked of each label of the tour.
pub later_is_bound : (tour : Tour) (berth : Bool) (days day_start : ℕ) (pieces : List Piece) (table : Table) → IsTour tour → IsReady tour berth pieces table → IsBoundOf tour (us_book berth days day_start) (later_bounds tour berth pieces table)
later_is_bound tour berth days day_start pieces table t ready = record {
  asked_early = λ step progress few within. (t, within, few);
  asked = λ step progress s few within there. (ready, within, there.split.is_count, there.driven);
  sooner = λ step progress s e few within there is. later_early (eta_bound tour step progress s) (shift_bound tour berth table.horizon step progress s) e is;
}
