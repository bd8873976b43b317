-- Places of a history, one more unit, and rest after it.
use Rattle.std.proofs.Common.{◌≡◌, ℕ, ◌+◌, ◌-◌, ◌*◌, ◌<◌, ◌≤◌, Bool, true, false, List, [], ◌∷◌, ◌++◌, length, take, sym, refl, ◌∙◌, ap, subst, arith, length-append, inl, inr, zero, suc}
use Rattle.std.specs.Prelude.{replicate}
use Rattle.std.proofs.Math.ListN.{get_or-append}
use Rattle.std.proofs.Math.Seq.{get_or-append_seam, get_or-append_right}
use Rattle.std.proofs.lemmas.Bool.{cases_lt}
use Rattle.std.proofs.lemmas.List.{take-append-le, get_or_past, length-replicate}
use Rattle.duty_core.specs.declared.activity.Activity.{Activity}
use Rattle.duty_core.specs.declared.activity.Activity.TheVariants.{Drive, Off}
use Rattle.duty_core.specs.declared.params.Params.{Params}
use Rattle.duty_core.specs.declared.params.Params.TheVariants.{UsProperty}
use Rattle.duty_core.specs.declared.limits.TheConstants.{US_FULL_REST}
use Rattle.duty_core.specs.Activity.{rests, drives}
use Rattle.duty_core.specs.Params.{BeginsUnit}
use Rattle.duty_core.specs.History.{pad_days, pad_units, padding, padded, unit_at}

-- the padding of the United States is a full rest
pub us_padding_long : (berth : Bool) (days day_start : ℕ) → US_FULL_REST ≤ pad_units (UsProperty berth days day_start)
unfolding pad_days
us_padding_long berth days day_start = omega arith

-- each minute begins a unit of the United States
pub us_begins_unit : (berth : Bool) (days day_start at : ℕ) → BeginsUnit (UsProperty berth days day_start) at
us_begins_unit berth days day_start at = record { units = at; whole = omega arith }

-- a place before the end is as it was
pub unit_at-append : (p q : List Activity) (i : ℕ) → i < length p → unit_at (p ++ q) i ≡ unit_at p i
unit_at-append p q i h = get_or-append p q Off i h

pub unit_at-last : (p : List Activity) (x : Activity) → unit_at (p ++ x ∷ []) (length p) ≡ x
unit_at-last p x = get_or-append_seam p x [] Off

-- a last unit that is no driving is no unit of driving
pub not_driving : (p : List Activity) (x : Activity) → drives x ≡ false → unit_at (p ++ x ∷ []) (length p) ≡ Drive → ⊥
not_driving p x d e = let z : true ≡ false = sym (ap drives e) ∙ (ap drives (unit_at-last p x) ∙ d) in cc

-- past the end there is rest
pub unit_at-past : (p : List Activity) (i : ℕ) → length p ≤ i → unit_at p i ≡ Off
unit_at-past p i h = get_or_past p i Off h

pub unit_at-replicate : (n i : ℕ) → unit_at (replicate n Off) i ≡ Off
unit_at-replicate zero i = refl
unit_at-replicate (suc n) zero = refl
unit_at-replicate (suc n) (suc i) = unit_at-replicate n i

pub unit_at-after : (p : List Activity) (n i : ℕ) → length p ≤ i → unit_at (p ++ replicate n Off) i ≡ Off
unit_at-after p n i h = get_or-append_right p (replicate n Off) i Off h ∙ unit_at-replicate n (i - length p)

pub length-one_more : (p : List Activity) (x : Activity) → length (p ++ x ∷ []) ≡ length p + 1
length-one_more p x = omega (arith, length-append p (x ∷ []))

-- a padded history is longer by the padding twice
pub length-padded : (params : Params) (h : List Activity) → length (padded params h) ≡ 2 * pad_units params + length h
length-padded params h =
    let a = length-append (padding params ++ h) (padding params) in
    let b = length-append (padding params) h in
    let c = length-replicate (pad_units params) Off in
    omega (arith, a, b, c)

-- The two lists are alike below place n.
pub record AreAlike (p q : List Activity) (n : ℕ) : Type 0 where
  pub fronts : (k : ℕ) → k ≤ n → take k p ≡ take k q
  pub units : (k : ℕ) → k < n → unit_at p k ≡ unit_at q k

pub alike_back : {p q : List Activity} {n : ℕ} → AreAlike p q n → AreAlike q p n
alike_back g = record { fronts = λ k l. sym (g.fronts k l); units = λ k l. sym (g.units k l) }

-- a list is alike itself with units after it
pub alike_append : (p q : List Activity) → AreAlike p (p ++ q) (length p)
alike_append p q = record {
  fronts = λ k l. sym (take-append-le k p q l);
  units = λ k l. sym (unit_at-append p q k l);
}

pub rests_alike : {p q : List Activity} {n : ℕ} {b : Bool} → AreAlike p q n → (k : ℕ) → k < n → rests (unit_at p k) ≡ b → rests (unit_at q k) ≡ b
rests_alike g k l h = sym (ap rests (g.units k l)) ∙ h

-- A rule at a place looks at nothing after that place, and asks nothing at rest.
pub record IsRule (R : List Activity → ℕ → Type 0) : Type 0 where
  pub local : (p q : List Activity) (n i : ℕ) → AreAlike p q n → i < n → R p i → R q i
  pub idle : (p : List Activity) (i : ℕ) → rests (unit_at p i) ≡ true → R p i

-- one more unit, at which the rule holds
pub holds_more : (R : List Activity → ℕ → Type 0) (p : List Activity) (x : Activity) → IsRule R → ((i : ℕ) → R p i) → R (p ++ x ∷ []) (length p) → (i : ℕ) → R (p ++ x ∷ []) i
holds_more R p x rule h last i = elim (cases_lt i (length p)) [
  | inl l ↦ rule.local p (p ++ x ∷ []) (length p) i (alike_append p (x ∷ [])) l (h i)
  | inr l ↦ elim (cases_lt (length p) i) [
    | inl k ↦ rule.idle (p ++ x ∷ []) i (ap rests (unit_at-past (p ++ x ∷ []) i (omega (arith, length-one_more p x))))
    | inr k ↦ (let z : length p ≡ i = omega arith in subst (R (p ++ x ∷ [])) z last)
  ]
]

-- what holds held before the later units
pub holds_before : (R : List Activity → ℕ → Type 0) (p q : List Activity) → IsRule R → ((i : ℕ) → R (p ++ q) i) → (i : ℕ) → R p i
holds_before R p q rule h i = elim (cases_lt i (length p)) [
  | inl l ↦ rule.local (p ++ q) p (length p) i (alike_back (alike_append p q)) l (h i)
  | inr l ↦ rule.idle p i (ap rests (unit_at-past p i l))
]

-- rest after a history changes nothing
pub holds_after : (R : List Activity → ℕ → Type 0) (p : List Activity) (n : ℕ) → IsRule R → ((i : ℕ) → R p i) → (i : ℕ) → R (p ++ replicate n Off) i
holds_after R p n rule h i = elim (cases_lt i (length p)) [
  | inl l ↦ rule.local p (p ++ replicate n Off) (length p) i (alike_append p (replicate n Off)) l (h i)
  | inr l ↦ rule.idle (p ++ replicate n Off) i (ap rests (unit_at-after p n i l))
]

-- nothing is asked of rest alone
pub holds_padding : (R : List Activity → ℕ → Type 0) (n : ℕ) → IsRule R → (i : ℕ) → R (replicate n Off) i
holds_padding R n rule i = rule.idle (replicate n Off) i (ap rests (unit_at-replicate n i))
