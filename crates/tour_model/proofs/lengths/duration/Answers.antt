use Rattle.std.proofs.Common.{◌≡◌, ℕ, ◌+◌, ◌-◌, ◌<◌, Bool, true, false, List, ◌∷◌, length, drop, get_or, sym, ◌∙◌, ap, arith}
use Rattle.std.specs.Prelude.{None, Some, unwrap_or, if◌then◌else◌}
use Rattle.std.proofs.lemmas.List.{drop_more, drop_all, get_or_default}
use Rattle.duty_core.specs.declared.activity.Activity.{Activity}
use Rattle.duty_core.specs.declared.activity.Activity.TheVariants.{Drive}
use Rattle.tour_model.specs.Way.{progresses}
use Rattle.tour_model.specs.Schedule.{depart_from, duration}
use Rattle.tour_model.proofs.lengths.duration.Goals as goal

-- the steps from this one on
rest_of : (xs : List Activity) (i : ℕ) (x : Activity) → i < length xs → x ≡ get_or xs i x → drop i xs ≡ x ∷ drop (i + 1) xs
rest_of xs i x lt e = drop_more xs i x lt ∙ ap (λ y. y ∷ drop (i + 1) xs) (sym e)

chosen : {X : Type 0} (b v : Bool) (x y : X) → b ≡ v → (if b then x else y) ≡ (if v then x else y)
chosen b v x y e = ap (λ c. if c then x else y) e

departs_here : (xs : List Activity) (i : ℕ) (x : Activity) → i < length xs → x ≡ get_or xs i x → progresses x ≡ true → depart_from 0 xs ≡ depart_from i (drop i xs) → length xs - i ≡ duration xs
departs_here xs i x lt e p h =
    let here : depart_from i (x ∷ drop (i + 1) xs) ≡ Some i = chosen (progresses x) true (Some i) (depart_from (i + 1) (drop (i + 1) xs)) p in
    ap (λ o. length xs - unwrap_or o 0) (sym (h ∙ (ap (depart_from i) (rest_of xs i x lt e) ∙ here)))

departs_later : (xs : List Activity) (i : ℕ) (x : Activity) → i < length xs → x ≡ get_or xs i x → progresses x ≡ false → depart_from i (drop i xs) ≡ depart_from (i + 1) (drop (i + 1) xs)
departs_later xs i x lt e p = ap (depart_from i) (rest_of xs i x lt e) ∙ chosen (progresses x) false (Some i) (depart_from (i + 1) (drop (i + 1) xs)) p

pub returns-then-progresses : goal.returns-then-progresses
returns-then-progresses c =
    departs_here c.args.steps.now c.loop-index.index _ c.loop-index-test.true (get_or_default c.args.steps.now c.loop-index.index Drive _ c.loop-index-test.true) (sym c.progresses.ensures ∙ c.if-progresses.true) c.loop-index.invariant

pub loop-index-preserved : goal.loop-index-preserved
loop-index-preserved c =
    c.loop-index.invariant ∙ departs_later c.args.steps.now c.loop-index.index _ c.loop-index-test.true (get_or_default c.args.steps.now c.loop-index.index Drive _ c.loop-index-test.true) (sym c.progresses.ensures ∙ c.if-progresses.false)

pub returns : goal.returns
returns c =
    let xs = c.args.steps.now in
    let none : depart_from 0 xs ≡ None = c.loop-index.invariant ∙ ap (depart_from c.loop-index.index) (drop_all c.loop-index.index xs c.loop-index-test.false) in
    let whole : length xs ≡ length xs - 0 = omega arith in
    whole ∙ ap (λ o. length xs - unwrap_or o 0) (sym none)
