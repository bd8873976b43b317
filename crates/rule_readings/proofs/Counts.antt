-- Counts before each place of a list of units.
use Rattle.std.proofs.Common.{◌≡◌, ℕ, ◌+◌, ◌*◌, ◌/◌, ◌≤◌, Bool, List, [], ◌∷◌, ◌++◌, length, get_or, take, cond, sym, ◌∙◌, ap, arith, inl, inr}
use Rattle.std.specs.Prelude.{count_by}
use Rattle.std.proofs.lemmas.Bool.{cases_lt}
use Rattle.std.proofs.lemmas.List.{take-take, get_or_read, length_push, get_or_push, get_or_append_left, length-take, length-append, length-replicate}
use Rattle.std.proofs.lemmas.List.Sums.{sum_by-take-drop, count_by-le-length}
use Rattle.duty_core.specs.declared.activity.Activity.{Activity}
use Rattle.duty_core.specs.declared.activity.Activity.TheVariants.{Off}
use Rattle.duty_core.specs.declared.params.Params.{Params}
use Rattle.duty_core.specs.declared.limits.TheConstants.{DAY_MINUTES, PADDING_DAYS, PADDING_MINUTES}
use Rattle.duty_core.specs.Params.{unit_minutes}
use Rattle.duty_core.specs.History.{pad_units, padded, padding, between}
use Rattle.rule_readings.specs.Padded.{AreCounts}
use Rattle.rule_readings.proofs.Books.{book_unit}

-- what stands of the counts after i units
pub record AreCountsUpTo (test : Activity → Bool) (p : List Activity) (i total : ℕ) (counts : List ℕ) : Type 0 where
  pub len : length counts ≡ i + 1
  pub each : (k : ℕ) → k ≤ i → get_or counts k 0 ≡ count_by test (take k p)
  pub so_far : total ≡ count_by test (take i p)

pub counts_more : (test : Activity → Bool) (p : List Activity) (i total next : ℕ) (counts : List ℕ) → AreCountsUpTo test p i total counts → next ≡ count_by test (take (i + 1) p) →
    AreCountsUpTo test p (i + 1) next (counts ++ next ∷ [])
counts_more test p i total next counts h e = record {
  len = let n = h.len in omega (arith, length_push counts next);
  each = λ k l. elim (cases_lt k (i + 1)) [
    | inl m ↦ get_or_append_left counts (next ∷ []) 0 k (let n = h.len in omega arith) ∙ h.each k (omega arith)
    | inr m ↦ (let q : k ≡ i + 1 = omega arith in get_or_push counts next 0 k (h.len ∙ sym q) ∙ (e ∙ ap (λ j. count_by test (take j p)) (sym q)))
  ];
  so_far = e;
}

pub counts_all : (test : Activity → Bool) (p : List Activity) (i total : ℕ) (counts : List ℕ) → AreCountsUpTo test p i total counts → i ≡ length p → AreCounts test p counts
counts_all test p i total counts h e = record {
  len = h.len ∙ ap (λ n. n + 1) e;
  each = λ k l. h.each k (omega arith);
}

-- no count is above the number of units
pub count_small : (test : Activity → Bool) (p : List Activity) (i : ℕ) → count_by test (take i p) ≤ length p
count_small test p i = omega (arith, count_by-le-length test (take i p), length-take i p)

-- a stretch counts as much as the places before its end do less those before its beginning
pub count_between : (test : Activity → Bool) (p : List Activity) (counts : List ℕ) (from to : ℕ) → AreCounts test p counts → from ≤ to → to ≤ length p →
    get_or counts from 0 + count_by test (between p from to) ≡ get_or counts to 0
count_between test p counts from to h l m =
    let a = h.each from (omega arith) in
    let b = h.each to m in
    let c = ap (count_by test) (take-take from to p l) in
    let d = sum_by-take-drop (λ x. cond (test x) 1 0) (take to p) from in
    omega (arith, a, b, c, d)

pub padding_short : (params : Params) → pad_units params ≤ PADDING_MINUTES
padding_short params = elim (book_unit params) [ inl h ↦ (let p = h.padding in omega arith) | inr h ↦ (let p = h.padding in omega arith) ]

pub padding_value : (params : Params) (n : ℕ) → n ≡ unit_minutes params → PADDING_DAYS * (DAY_MINUTES / n) ≡ pad_units params
padding_value params n e = elim (book_unit params) [
  | inl h ↦ (let p = h.padding in let q = ap (λ k. DAY_MINUTES / k) (e ∙ h.unit) in omega arith)
  | inr h ↦ (let p = h.padding in let q = ap (λ k. DAY_MINUTES / k) (e ∙ h.unit) in omega arith)
]

pub length-padded : (params : Params) (h : List Activity) → length (padded params h) ≡ 2 * pad_units params + length h
length-padded params h =
    omega (arith, length-append (padding params ++ h) (padding params), length-append (padding params) h, length-replicate (pad_units params) Off)

-- the same, of what is read at two places of the counts
pub count_read : (test : Activity → Bool) (p q : List Activity) (counts : List ℕ) (from to low high : ℕ) → AreCounts test p counts → p ≡ q → from ≤ to → to ≤ length q →
    low ≡ get_or counts from low → high ≡ get_or counts to high → low + count_by test (between q from to) ≡ high
count_read test p q counts from to low high h e l m a b =
    let n : to ≤ length p = omega (arith, ap length e) in
    let k = h.len in
    let x = get_or_read counts from low (omega arith) a 0 in
    let y = get_or_read counts to high (omega arith) b 0 in
    let z = count_between test p counts from to h l n in
    let w = ap (λ u. count_by test (between u from to)) e in
    omega (arith, x, y, z, w)
