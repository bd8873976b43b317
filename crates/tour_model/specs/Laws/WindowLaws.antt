-- The first step at which one of the windows is open.
use Rattle.std.proofs.Common.{◌≡◌, ℕ, ◌≤◌, true, cond, refl, ◌∙◌, ap, arith, inl, inr, ◌⊎◌, List, [], ◌∷◌}
use Rattle.std.specs.Prelude.{Option, None, Some, max, min, nat_le}
use Rattle.std.proofs.lemmas.Bool.{and_parts, and_from, or_cases, or_left, or_right, leb-true, le-leb, cases_lt}
use Rattle.std.proofs.lemmas.Option.{cond_some}
use Rattle.tour_model.specs.declared.window.Window.{Window}
use Rattle.tour_model.specs.Window.{is_within, is_open, earlier, first_within, first_open}

pub earlier_on : (a b c : Option ℕ) → earlier (earlier a b) c ≡ earlier a (earlier b c)
earlier_on None b c = refl
earlier_on (Some x) None c = refl
earlier_on (Some x) (Some y) None = refl
earlier_on (Some x) (Some y) (Some z) = ap Some (let e : min (min x y) z ≡ min x (min y z) = omega arith in e)

pub earlier_none : (a : Option ℕ) → earlier a None ≡ a
earlier_none None = refl
earlier_none (Some x) = refl

earlier_is : (a b : Option ℕ) (at : ℕ) → earlier a b ≡ Some at → (a ≡ Some at) ⊎ (b ≡ Some at)
earlier_is None b at h = inr h
earlier_is (Some x) None at h = inl h
earlier_is (Some x) (Some y) at h =
    let e : min x y ≡ at = cc in
    elim (cases_lt x y) [
      | inl l ↦ inl (ap Some (let f : x ≡ at = omega arith in f))
      | inr l ↦ inr (ap Some (let f : y ≡ at = omega arith in f))
    ]

-- There is a step, and it is not later than another.
pub record IsBy (o : Option ℕ) (b : ℕ) : Type 0 where
  pub at : ℕ
  pub is : o ≡ Some at
  pub by : at ≤ b

earlier_left : (a b : Option ℕ) (k : ℕ) → IsBy a k → IsBy (earlier a b) k
earlier_left None b k h = let z = h.is in absurd cc
earlier_left (Some x) None k h = h
earlier_left (Some x) (Some y) k h = let z = h.is in let e : x ≡ h.at = cc in let l = h.by in record { at = min x y; is = refl; by = omega arith }

earlier_right : (a b : Option ℕ) (k : ℕ) → IsBy b k → IsBy (earlier a b) k
earlier_right None b k h = h
earlier_right (Some x) None k h = let z = h.is in absurd cc
earlier_right (Some x) (Some y) k h = let z = h.is in let e : y ≡ h.at = cc in let l = h.by in record { at = min x y; is = refl; by = omega arith }

-- Such a step is not before the first one asked for, and the window is open then.
within_is : (w : Window) (k at : ℕ) → first_within k w ≡ Some at → (k ≤ at) × (is_within at w ≡ true)
within_is w k at h =
    let q = cond_some (nat_le (max w.opens k) w.closes) (max w.opens k) at h in
    let e = q.1 in
    let l : max w.opens k ≤ w.closes = leb-true (max w.opens k) w.closes q.0 in
    (omega arith, and_from (nat_le w.opens at) (nat_le at w.closes) (le-leb w.opens at (omega arith)) (le-leb at w.closes (omega arith)))

within_by : (w : Window) (k b : ℕ) → k ≤ b → is_within b w ≡ true → IsBy (first_within k w) b
within_by w k b l h =
    let q = and_parts (nat_le w.opens b) (nat_le b w.closes) h in
    let o : w.opens ≤ b = leb-true w.opens b q.0 in
    let c : b ≤ w.closes = leb-true b w.closes q.1 in
    record { at = max w.opens k; is = ap (λ t. cond t (Some (max w.opens k)) None) (le-leb (max w.opens k) w.closes (omega arith)); by = omega arith }

pub open_is : (ws : List Window) (k at : ℕ) → first_open ws k ≡ Some at → (k ≤ at) × (is_open ws at ≡ true)
open_is [] k at h = absurd cc
open_is (w ∷ ws) k at h = elim (earlier_is (first_within k w) (first_open ws k) at h) [
  | inl e ↦ (let q = within_is w k at e in (q.0, or_left (is_within at w) (is_open ws at) q.1))
  | inr e ↦ (let q = open_is ws k at e in (q.0, or_right (is_within at w) (is_open ws at) q.1))
]

pub open_by : (ws : List Window) (k b : ℕ) → k ≤ b → is_open ws b ≡ true → IsBy (first_open ws k) b
open_by [] k b l h = absurd cc
open_by (w ∷ ws) k b l h = elim (or_cases (is_within b w) (is_open ws b) h) [
  | inl e ↦ earlier_left (first_within k w) (first_open ws k) b (within_by w k b l e)
  | inr e ↦ earlier_right (first_within k w) (first_open ws k) b (open_by ws k b l e)
]

-- Who asks sooner is answered no later.
pub open_sooner : (ws : List Window) (j k at : ℕ) → j ≤ k → first_open ws k ≡ Some at → IsBy (first_open ws j) at
open_sooner ws j k at l h = let q = open_is ws k at h in let m = q.0 in open_by ws j at (omega arith) q.1

-- An open window is met at once.
pub open_now : (ws : List Window) (k : ℕ) → is_open ws k ≡ true → first_open ws k ≡ Some k
open_now ws k h =
    let q = open_by ws k k (omega arith) h in
    let r = (open_is ws k q.at q.is).0 in
    let m = q.by in
    q.is ∙ ap Some (let e : q.at ≡ k = omega arith in e)
