-- Counts over stretches, unit by unit.
use Rattle.std.proofs.Common.{◌≡◌, ℕ, ◌+◌, ◌<◌, ◌≤◌, Bool, true, false, cond, List, [], ◌∷◌, take, drop, refl, sym, ◌∙◌, ap, arith, zero-add, zero, suc}
use Rattle.std.specs.Prelude.{count_by}
use Rattle.std.proofs.lemmas.Bool.{cond-false}
use Rattle.std.proofs.lemmas.List.{drop-take, drop-drop}
use Rattle.std.proofs.lemmas.List.Sums.{sum_by-append}
use Rattle.std.proofs.Math.Seq.{take-add}
use Rattle.duty_core.specs.declared.activity.Activity.{Activity}
use Rattle.duty_core.specs.declared.activity.Activity.TheVariants.{Off}
use Rattle.duty_core.specs.History.{unit_at, between}

-- the unit at a place, counted; past the end is Off, which must not count
one_at : (test : Activity → Bool) (p : List Activity) (k : ℕ) → test Off ≡ false → count_by test (take 1 (drop k p)) ≡ cond (test (unit_at p k)) 1 0
one_at test [] zero e = sym (cond-false (test Off) 1 0 e)
one_at test [] (suc k) e = sym (cond-false (test Off) 1 0 e)
one_at test (x ∷ p) zero e = zero-add (cond (test x) 1 0)
one_at test (x ∷ p) (suc k) e = one_at test p k e

-- one more unit of a stretch
pub count_more : (test : Activity → Bool) (p : List Activity) (i n : ℕ) → test Off ≡ false → count_by test (between p i (i + (n + 1))) ≡ count_by test (between p i (i + n)) + cond (test (unit_at p (i + n))) 1 0
count_more test p i n e =
    ap (count_by test) (drop-take i (n + 1) p ∙ take-add n 1 (drop i p))
    ∙ (sum_by-append (λ x. cond (test x) 1 0) (take n (drop i p)) (take 1 (drop n (drop i p)))
    ∙ (ap (λ l. count_by test l + count_by test (take 1 (drop n (drop i p)))) (sym (drop-take i n p))
    ∙ ap (λ c. count_by test (between p i (i + n)) + c) (ap (λ l. count_by test (take 1 l)) (drop-drop n i p) ∙ one_at test p (i + n) e)))

pub count_none : (test : Activity → Bool) (p : List Activity) (i : ℕ) → count_by test (between p i (i + 0)) ≡ 0
count_none test p i = ap (count_by test) (drop-take i 0 p)

count_last : (test : Activity → Bool) (p : List Activity) (i n to : ℕ) → test Off ≡ false → to ≡ i + (n + 1) → count_by test (between p i to) ≡ count_by test (between p i (i + n)) + cond (test (unit_at p (i + n))) 1 0
count_last test p i n to e h = ap (λ m. count_by test (between p i m)) h ∙ count_more test p i n e

-- what one unit adds to two counts
pub share_less : (x y : Bool) → (x ≡ true → y ≡ true) → cond {A = ℕ} x 1 0 ≤ cond {A = ℕ} y 1 0
share_less true true h = omega arith
share_less true false h = absurd (let z : false ≡ true = h refl in cc)
share_less false true h = omega arith
share_less false false h = omega arith

-- A stretch counts no more than that of another list, where each unit of it that counts does so there.
pub count_less : (test : Activity → Bool) (p q : List Activity) (i n : ℕ) → test Off ≡ false →
    ((k : ℕ) → i ≤ k → k < i + n → test (unit_at p k) ≡ true → test (unit_at q k) ≡ true) → count_by test (between p i (i + n)) ≤ count_by test (between q i (i + n))
count_less test p q i zero e h = let a = count_none test p i in omega arith
count_less test p q i (suc n) e h =
    let l : count_by test (between p i (i + n)) ≤ count_by test (between q i (i + n)) = count_less test p q i n e (λ k x y. h k x (omega arith)) in
    let a = count_last test p i n (i + suc n) e (omega arith) in
    let b = count_last test q i n (i + suc n) e (omega arith) in
    let c = share_less (test (unit_at p (i + n))) (test (unit_at q (i + n))) (h (i + n) (omega arith) (omega arith)) in
    omega arith
