-- Breaks, and the last one.
use Rattle.std.proofs.Common.{◌≡◌, ℕ, ◌+◌, ◌-◌, ◌<◌, ◌≤◌, ◌↔◌, Bool, false, cond, List, refl, sym, ◌∙◌, ap, subst, arith, inl, inr, zero, suc}
use Rattle.std.specs.Prelude.{count_by}
use Rattle.std.proofs.lemmas.Bool.{cases_lt, cases_eq, cases_Bool}
use Rattle.duty_core.specs.declared.activity.Activity.{Activity}
use Rattle.duty_core.specs.declared.activity.Activity.TheVariants.{Off}
use Rattle.duty_core.specs.declared.limits.TheConstants.{US_BREAK}
use Rattle.duty_core.specs.Activity.{drives}
use Rattle.duty_core.specs.History.{unit_at, between}
use Rattle.duty_core.specs.Laws.CountLaws.{count_more, count_none}
use Rattle.duty_core.specs.Counting.{driving}
use Rattle.duty_core.specs.UsRules.{IsBreak, IsLastBreak}

-- a stretch that counts nothing has no unit that counts
none_counted : (test : Activity → Bool) (p : List Activity) (i n : ℕ) → test Off ≡ false → count_by test (between p i (i + n)) ≡ 0 → (k : ℕ) → i ≤ k → k < i + n → test (unit_at p k) ≡ false
none_counted test p i zero off e k l m = absurd (omega arith)
none_counted test p i (suc n) off e k l m =
    let same : count_by test (between p i (i + suc n)) ≡ count_by test (between p i (i + (n + 1))) = ap (λ j. count_by test (between p i j)) (let q : i + suc n ≡ i + (n + 1) = omega arith in q) in
    let c = count_more test p i n off in
    elim (cases_Bool (test (unit_at p (i + n)))) [
      | inl t ↦ (let one : cond {A = ℕ} (test (unit_at p (i + n))) 1 0 ≡ 1 = ap (λ (b : Bool). cond {A = ℕ} b 1 0) t in absurd (omega arith))
      | inr t ↦ elim (cases_eq k (i + n)) [ inl q ↦ ap (λ j. test (unit_at p j)) q ∙ t | inr q ↦ none_counted test p i n off (omega arith) k l (omega arith) ]
    ]

counted_none : (test : Activity → Bool) (p : List Activity) (i n : ℕ) → test Off ≡ false → ((k : ℕ) → i ≤ k → k < i + n → test (unit_at p k) ≡ false) → count_by test (between p i (i + n)) ≡ 0
counted_none test p i zero off h = ap (λ j. count_by test (between p i j)) (let q : i + 0 ≡ i + 0 = refl in q) ∙ count_none test p i
counted_none test p i (suc n) off h =
    let same : count_by test (between p i (i + suc n)) ≡ count_by test (between p i (i + (n + 1))) = ap (λ j. count_by test (between p i j)) (let q : i + suc n ≡ i + (n + 1) = omega arith in q) in
    let c = count_more test p i n off in
    let before = counted_none test p i n off (λ k a b. h k a (omega arith)) in
    let here : cond {A = ℕ} (test (unit_at p (i + n))) 1 0 ≡ 0 = ap (λ (b : Bool). cond {A = ℕ} b 1 0) (h (i + n) (omega arith) (omega arith)) in
    omega arith

-- a break has ended exactly where the minutes before hold no driving
pub break_counted : (p : List Activity) (to n : ℕ) → US_BREAK ≤ to → n ≡ driving p (to - US_BREAK) to → (n ≡ 0) ↔ IsBreak p to
break_counted p to n l e =
    let i : ℕ = to - US_BREAK in
    let q : i + US_BREAK ≡ to = omega arith in
    let same : driving p i (i + US_BREAK) ≡ driving p i to = ap (driving p i) q in (
      (λ z. record { there = l; still = λ k a b. none_counted drives p i US_BREAK refl (same ∙ (sym e ∙ z)) k a (omega arith) }),
      (λ h. e ∙ (sym same ∙ counted_none drives p i US_BREAK refl (λ k a b. h.still k a (omega arith)))),
    )

-- no break ended after place `to`, up to place i
pub record NoneBehind (p : List Activity) (i to : ℕ) : Type 0 where
  pub before : to ≤ i
  pub none : (b : ℕ) → IsBreak p b → b ≤ i → b ≤ to

pub none_after : (p : List Activity) (i : ℕ) → NoneBehind p i i
none_after p i = record { before = omega arith; none = λ b h l. l }

pub behind_less : (p : List Activity) (i to : ℕ) → NoneBehind p i to → (IsBreak p to → ⊥) → 1 ≤ to → NoneBehind p i (to - 1)
behind_less p i to h no_break l = let x = h.before in record {
  before = omega arith;
  none = λ b g m. let y = h.none b g m in elim (cases_eq b to) [ inl q ↦ absurd (no_break (subst (IsBreak p) q g)) | inr q ↦ omega arith ];
}

pub after_all : (p : List Activity) (i to : ℕ) → NoneBehind p i to → (IsBreak p to → ⊥) → (1 ≤ to → ⊥) → (b : ℕ) → IsBreak p b → b ≤ i → ⊥
after_all p i to h no_break l b g m =
    let y = h.none b g m in
    elim (cases_lt 0 to) [
      | inl o ↦ l (omega arith)
      | inr o ↦ (let q : b ≡ to = omega arith in no_break (subst (IsBreak p) q g))
    ]

pub after_found : (p : List Activity) (i to : ℕ) → NoneBehind p i to → IsBreak p to → IsLastBreak p i to
after_found p i to h g = record { ends = g; before = h.before; last = h.none }
