-- The first step at which a piece may be begun.
use Rattle.std.proofs.Common.{refl, ◌≡◌, ℕ, ◌+◌, ◌-◌, ◌<◌, ◌≤◌, true, false, subst, arith, inl, inr}
use Rattle.std.specs.Prelude.{Option, None, Some, nat_lt}
use Rattle.std.proofs.lemmas.Bool.{cases_lt}
use Rattle.std.proofs.lemmas.Bool.Decides.{nat_tests}
use Rattle.rest_bound.specs.declared.mode.Mode.{Mode}
use Rattle.rest_bound.specs.declared.walk.Walk.{Walk}
use Rattle.rest_bound.specs.Ends.{Plan, share, idle_by, IsInTime, Begins}
use Rattle.rest_bound.specs.Table.{IsFirst, IsBegin, streak_at}

-- Where driving at step b is too late though there are idle steps enough for a split rest, it is too late at each later step.
pub not_later : (m : Mode) (b u latest i j : ℕ) → (IsInTime m b latest i → ⊥) → m.split_least ≤ i → b ≤ u → j + b ≡ i + u → IsInTime m u latest j → ⊥
not_later m b u latest i j bar a q s (inl h) = bar (inl (omega arith))
not_later m b u latest i j bar a q s (inr h) = let c = h.1 in let d = h.2 in let f = h.3 in let g = h.4 in
    elim (cases_lt i h.0) [
      | inl z ↦ bar (inr (i, a, omega arith, omega arith, omega arith))
      | inr z ↦ bar (inr (h.0, c, d, z, omega arith))
    ]

-- Where there are too few, a later step that is in time comes after enough of them.
pub only_late : (m : Mode) (b u latest i j : ℕ) → (IsInTime m b latest i → ⊥) → i < m.split_least → b ≤ u → j + b ≡ i + u → IsInTime m u latest j → b + (m.split_least - i) ≤ u
only_late m b u latest i j bar a q s (inl h) = absurd (bar (inl (omega arith)))
only_late m b u latest i j bar a q s (inr h) = let c = h.1 in let f = h.3 in omega arith

pub begin_late : (plan : Plan) (m : Mode) (p : ℕ) (w : Walk) (f horizon b late : ℕ) → w.at ≤ f → f ≤ b → ((u : ℕ) → plan.opens p u ≡ true → f ≤ u → u < horizon → b ≤ u) →
    (IsInTime m b w.latest (idle_by w b) → ⊥) → idle_by w b < m.split_least → plan.opens p late ≡ true → b + (m.split_least - idle_by w b) ≤ late →
    ((u : ℕ) → plan.opens p u ≡ true → b + (m.split_least - idle_by w b) ≤ u → u < horizon → late ≤ u) → late < horizon → plan.drives p ≡ true → share plan p ≤ w.left →
    IsInTime m late w.latest (idle_by w late) → IsFirst plan m p w f horizon (Some late)
begin_late plan m p w f horizon b late tf fb first bar a o r first2 z d s g = record {
  first = λ u h x y. (let q = first u x.opened h y in first2 u x.opened (only_late m b u w.latest (idle_by w b) (idle_by w u) bar a q (omega arith) (x.within d)) y);
  later = λ u q. (let e : late ≡ u = cc in omega arith);
  begins = λ u q. (let e : late ≡ u = cc in subst (Begins plan m p w) e (record { opened = o; within = λ x. g; spare = λ x. s }));
  within = λ u q. (let e : late ≡ u = cc in omega arith);
}

pub begin_never : (plan : Plan) (m : Mode) (p : ℕ) (w : Walk) (f horizon b : ℕ) → w.at ≤ f → f ≤ b → ((u : ℕ) → f ≤ u → Begins plan m p w u → u < horizon → b ≤ u) →
    (IsInTime m b w.latest (idle_by w b) → ⊥) → m.split_least ≤ idle_by w b → plan.drives p ≡ true → IsFirst plan m p w f horizon None
begin_never plan m p w f horizon b tf fb first bar a d = record {
  first = λ u h x y. (let q = first u h x y in not_later m b u w.latest (idle_by w b) (idle_by w u) bar a q (omega arith) (x.within d));
  later = λ u q. absurd cc;
  begins = λ u q. absurd cc;
  within = λ u q. absurd cc;
}

streak_same : (w : Walk) (u : ℕ) → u ≤ w.at → streak_at w u ≡ w.streak
streak_same w u h = let q : nat_lt w.at u ≡ false = grind (arith, nat_tests) in rw q refl

pub streak_new : (w : Walk) (u : ℕ) → w.at < u → streak_at w u ≡ 0
streak_new w u h = let q : nat_lt w.at u ≡ true = grind (arith, nat_tests) in rw q refl

pub streak_most : (w : Walk) (u : ℕ) → streak_at w u ≤ w.streak
streak_most w u = elim (cases_lt w.at u) [ inl h ↦ (let q = streak_new w u h in omega arith) | inr h ↦ (let q = streak_same w u h in omega arith) ]

-- no break is due
pub begin_on : (plan : Plan) (m : Mode) (p : ℕ) (w : Walk) (horizon : ℕ) (o : Option ℕ) → (plan.drives p ≡ true → w.streak < m.unbroken) →
    IsFirst plan m p w w.at horizon o → IsBegin plan m p w horizon o
begin_on plan m p w horizon o d f = record {
  first = λ u c h g k z. f.first u h g z;
  later = f.later;
  begins = f.begins;
  keeps = λ u q. record {
    counted = elim (cases_lt w.at u) [ inl h ↦ inl h | inr h ↦ inr (let x = streak_same w u h in omega arith) ];
    within = λ e. (let x = d e in let y = streak_most w u in omega arith);
  };
  within = f.within;
}

-- one is due before driving
pub begin_break : (plan : Plan) (m : Mode) (p : ℕ) (w : Walk) (horizon : ℕ) (o : Option ℕ) → plan.drives p ≡ true → m.unbroken ≤ w.streak → 0 < m.unbroken →
    IsFirst plan m p w (w.at + 1) horizon o → IsBegin plan m p w horizon o
begin_break plan m p w horizon o d s some f = record {
  first = λ u c h g k z. f.first u (let x = k.within d in elim k.counted [ inl y ↦ omega arith | inr y ↦ absurd (omega arith) ]) g z;
  later = λ u q. (let x = f.later u q in omega arith);
  begins = f.begins;
  keeps = λ u q. (let x = f.later u q in record { counted = inl (omega arith); within = λ e. (let y = streak_new w u (omega arith) in omega arith) });
  within = f.within;
}
