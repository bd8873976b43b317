-- What a lost minute is: duty, or rest in a run that is shorter than 30 minutes in whole.
use Rattle.std.proofs.Common.{◌≡◌, ℕ, ◌+◌, ◌-◌, ◌<◌, ◌≤◌, Bool, true, false, not, ◌||◌, List, refl, sym, ◌∙◌, ap, subst, arith, inl, inr, ◌⊎◌, zero, suc}
use Rattle.std.specs.Prelude.{nat_lt}
use Rattle.std.proofs.lemmas.Bool.{cases_lt, cases_eq, cases_Bool, cond-true, cond-false}
use Rattle.std.proofs.lemmas.Bool.Decides.{nat_tests}
use Rattle.duty_core.specs.declared.activity.Activity.{Activity}
use Rattle.duty_core.specs.declared.activity.Activity.TheVariants.{Drive, Serve, Wait, Off, Berth}
use Rattle.duty_core.specs.declared.limits.TheConstants.{CA_BLOCK_LEAST}
use Rattle.duty_core.specs.Activity.{rests, works}
use Rattle.duty_core.specs.History.{unit_at}
use Rattle.duty_core.specs.RestRun.{IsRun}
use Rattle.duty_core.specs.Stretch.{IsRest}
use Rattle.duty_core.specs.LostMinutes.{rest_before, rest_from, is_lost}

-- duty is what is not rest
pub works_is : (x : Activity) → works x ≡ not (rests x)
works_is Drive = refl
works_is Serve = refl
works_is Wait = refl
works_is Off = refl
works_is Berth = refl

-- # The rest before a place, and from it on

before_more : (p : List Activity) (i : ℕ) → rests (unit_at p i) ≡ true → rest_before p (suc i) ≡ rest_before p i + 1
unfolding rest_before
before_more p i t = cond-true (rests (unit_at p i)) (rest_before p i + 1) 0 t

before_none : (p : List Activity) (i : ℕ) → rests (unit_at p i) ≡ false → rest_before p (suc i) ≡ 0
unfolding rest_before
before_none p i t = cond-false (rests (unit_at p i)) (rest_before p i + 1) 0 t

before_zero : (p : List Activity) → rest_before p zero ≡ 0
unfolding rest_before
before_zero p = refl

from_more : (p : List Activity) (n i : ℕ) → rests (unit_at p i) ≡ true → rest_from p (suc n) i ≡ rest_from p n (i + 1) + 1
unfolding rest_from
from_more p n i t = cond-true (rests (unit_at p i)) (rest_from p n (i + 1) + 1) 0 t

from_none : (p : List Activity) (n i : ℕ) → rests (unit_at p i) ≡ false → rest_from p (suc n) i ≡ 0
unfolding rest_from
from_none p n i t = cond-false (rests (unit_at p i)) (rest_from p n (i + 1) + 1) 0 t

from_zero : (p : List Activity) (i : ℕ) → rest_from p zero i ≡ 0
unfolding rest_from
from_zero p i = refl

at_same : (p : List Activity) (i k : ℕ) (b : Bool) → k ≡ i → rests (unit_at p i) ≡ b → rests (unit_at p k) ≡ b
at_same p i k b e t = ap (λ m. rests (unit_at p m)) e ∙ t

-- the places before it are rest, as many as are counted
pub before_rest : (p : List Activity) (i k : ℕ) → k < i → i ≤ k + rest_before p i → rests (unit_at p k) ≡ true
before_rest p zero k l h = absurd (omega arith)
before_rest p (suc i) k l h = elim (cases_Bool (rests (unit_at p i))) [
  | inl t ↦ (let e = before_more p i t in elim (cases_eq k i) [ inl q ↦ at_same p i k true q t | inr q ↦ before_rest p i k (omega arith) (omega arith) ])
  | inr t ↦ (let e = before_none p i t in absurd (omega arith))
]

-- and the one before these is not
pub before_stops : (p : List Activity) (i k : ℕ) → k + 1 + rest_before p i ≡ i → rests (unit_at p k) ≡ false
before_stops p zero k h = absurd (omega arith)
before_stops p (suc i) k h = elim (cases_Bool (rests (unit_at p i))) [
  | inl t ↦ (let e = before_more p i t in before_stops p i k (omega arith))
  | inr t ↦ (let e = before_none p i t in at_same p i k false (omega arith) t)
]

pub before_least : (p : List Activity) (i w : ℕ) → w ≤ i → IsRest p w i → i ≤ w + rest_before p i
before_least p zero w l h = omega arith
before_least p (suc i) w l h = elim (cases_eq w (suc i)) [
  | inl q ↦ omega arith
  | inr q ↦ (let e = before_more p i (h i (omega arith) (omega arith)) in let k = before_least p i w (omega arith) (λ m a b. h m a (omega arith)) in omega arith)
]

pub before_there : (p : List Activity) (i : ℕ) → rest_before p i ≤ i
before_there p zero = let e = before_zero p in omega arith
before_there p (suc i) = let k = before_there p i in elim (cases_Bool (rests (unit_at p i))) [
  | inl t ↦ (let e = before_more p i t in omega arith)
  | inr t ↦ (let e = before_none p i t in omega arith)
]

-- the places from it on are rest, as many as are counted
pub from_rest : (p : List Activity) (n i k : ℕ) → i ≤ k → k < i + rest_from p n i → rests (unit_at p k) ≡ true
from_rest p zero i k l h = let e = from_zero p i in absurd (omega arith)
from_rest p (suc n) i k l h = elim (cases_Bool (rests (unit_at p i))) [
  | inl t ↦ (let e = from_more p n i t in elim (cases_eq k i) [ inl q ↦ at_same p i k true q t | inr q ↦ from_rest p n (i + 1) k (omega arith) (omega arith) ])
  | inr t ↦ (let e = from_none p n i t in absurd (omega arith))
]

-- and the one after these is not, where the count stopped at it
pub from_stops : (p : List Activity) (n i k : ℕ) → rest_from p n i < n → k ≡ i + rest_from p n i → rests (unit_at p k) ≡ false
from_stops p zero i k l h = absurd (omega arith)
from_stops p (suc n) i k l h = elim (cases_Bool (rests (unit_at p i))) [
  | inl t ↦ (let e = from_more p n i t in from_stops p n (i + 1) k (omega arith) (omega arith))
  | inr t ↦ (let e = from_none p n i t in at_same p i k false (omega arith) t)
]

pub from_least : (p : List Activity) (n m i : ℕ) → m ≤ n → IsRest p i (i + m) → m ≤ rest_from p n i
from_least p zero m i l h = omega arith
from_least p (suc n) zero i l h = omega arith
from_least p (suc n) (suc m) i l h =
    let e = from_more p n i (h i (omega arith) (omega arith)) in
    let k = from_least p n m (i + 1) (omega arith) (λ j a b. h j (omega arith) (omega arith)) in omega arith

pub from_most : (p : List Activity) (n i : ℕ) → rest_from p n i ≤ n
from_most p zero i = let e = from_zero p i in omega arith
from_most p (suc n) i = elim (cases_Bool (rests (unit_at p i))) [
  | inl t ↦ (let e = from_more p n i t in let k = from_most p n (i + 1) in omega arith)
  | inr t ↦ (let e = from_none p n i t in omega arith)
]

-- # A lost minute

-- place i lies in a rest run that is shorter than 30 minutes in whole
pub record IsInShortRun (p : List Activity) (i : ℕ) : Type 0 where
  pub from : ℕ
  pub to : ℕ
  pub run : IsRun p from to
  pub after : from ≤ i
  pub before : i < to
  pub short : to < from + CA_BLOCK_LEAST

-- place i lies in 30 consecutive minutes of rest
pub record IsKept (p : List Activity) (i : ℕ) : Type 0 where
  pub from : ℕ
  pub after : from ≤ i
  pub before : i < from + CA_BLOCK_LEAST
  pub rest : IsRest p from (from + CA_BLOCK_LEAST)

kept_window : (p : List Activity) (i a b : ℕ) → rests (unit_at p i) ≡ true → a ≡ rest_before p i → b ≡ rest_from p CA_BLOCK_LEAST i → CA_BLOCK_LEAST ≤ a + b → IsKept p i
kept_window p i a b t d e l =
    let m : b ≤ CA_BLOCK_LEAST = subst (λ z. z ≤ CA_BLOCK_LEAST) (sym e) (from_most p CA_BLOCK_LEAST i) in
    let o : a ≤ i = subst (λ z. z ≤ i) (sym d) (before_there p i) in
    let f : 1 ≤ b = subst (λ z. 1 ≤ z) (sym e) (from_least p CA_BLOCK_LEAST 1 i (omega arith) (λ k x y. at_same p i k true (omega arith) t)) in
    record {
      from = i + b - CA_BLOCK_LEAST;
      after = omega arith;
      before = omega arith;
      rest = λ k x y. elim (cases_lt k i) [
        | inl lt ↦ before_rest p i k lt (subst (λ z. i ≤ k + z) d (omega arith))
        | inr le ↦ from_rest p CA_BLOCK_LEAST i k le (subst (λ z. k < i + z) e (omega arith))
      ];
    }

short_run : (p : List Activity) (i a b : ℕ) → rests (unit_at p i) ≡ true → a ≡ rest_before p i → b ≡ rest_from p CA_BLOCK_LEAST i → a + b < CA_BLOCK_LEAST → IsInShortRun p i
short_run p i a b t d e l =
    let o : a ≤ i = subst (λ z. z ≤ i) (sym d) (before_there p i) in
    let f : 1 ≤ b = subst (λ z. 1 ≤ z) (sym e) (from_least p CA_BLOCK_LEAST 1 i (omega arith) (λ k x y. at_same p i k true (omega arith) t)) in
    record {
      from = i - a;
      to = i + b;
      run = record {
        some = omega arith;
        rest = λ k x y. elim (cases_lt k i) [
          | inl lt ↦ before_rest p i k lt (subst (λ z. i ≤ k + z) d (omega arith))
          | inr le ↦ from_rest p CA_BLOCK_LEAST i k le (subst (λ z. k < i + z) e y)
        ];
        starts = λ k x. before_stops p i k (subst (λ z. k + 1 + z ≡ i) d (omega arith));
        ended = from_stops p CA_BLOCK_LEAST i (i + b) (subst (λ z. z < CA_BLOCK_LEAST) e (omega arith)) (ap (λ z. i + z) e);
      };
      after = omega arith;
      before = omega arith;
      short = omega arith;
    }

-- no minute of a short run is kept
pub short_not_kept : (p : List Activity) (i : ℕ) → IsInShortRun p i → IsKept p i → ⊥
short_not_kept p i s k =
    let a = s.after in let b = s.before in let c = s.short in let d = k.after in let e = k.before in
    elim (cases_lt k.from s.from) [
      | inl lt ↦ (let z : true ≡ false = sym (k.rest (s.from - 1) (omega arith) (omega arith)) ∙ s.run.starts (s.from - 1) (omega arith) in cc)
      | inr le ↦ (let z : true ≡ false = sym (k.rest s.to (omega arith) (omega arith)) ∙ s.run.ended in cc)
    ]

lost_duty : (p : List Activity) (i : ℕ) → rests (unit_at p i) ≡ false → is_lost p i ≡ true
unfolding is_lost
lost_duty p i t = ap (λ w. w || nat_lt (rest_before p i + rest_from p CA_BLOCK_LEAST i) CA_BLOCK_LEAST) (works_is (unit_at p i) ∙ ap not t)

lost_rest : (p : List Activity) (i : ℕ) → rests (unit_at p i) ≡ true → is_lost p i ≡ nat_lt (rest_before p i + rest_from p CA_BLOCK_LEAST i) CA_BLOCK_LEAST
unfolding is_lost
lost_rest p i t = ap (λ w. w || nat_lt (rest_before p i + rest_from p CA_BLOCK_LEAST i) CA_BLOCK_LEAST) (works_is (unit_at p i) ∙ ap not t)

-- a minute is lost, where it is duty or lies in a short run, and else it is kept
pub lost_cases : (p : List Activity) (i : ℕ) → ((is_lost p i ≡ true) × ((works (unit_at p i) ≡ true) ⊎ IsInShortRun p i)) ⊎ ((is_lost p i ≡ false) × IsKept p i)
lost_cases p i = elim (cases_Bool (rests (unit_at p i))) [
  | inl t ↦ elim (cases_lt (rest_before p i + rest_from p CA_BLOCK_LEAST i) CA_BLOCK_LEAST) [
    | inl lt ↦ inl (
      lost_rest p i t ∙ (let z : nat_lt (rest_before p i + rest_from p CA_BLOCK_LEAST i) CA_BLOCK_LEAST ≡ true = grind (arith, nat_tests) in z),
      inr (short_run p i (rest_before p i) (rest_from p CA_BLOCK_LEAST i) t refl refl lt),
    )
    | inr le ↦ inr (
      lost_rest p i t ∙ (let z : nat_lt (rest_before p i + rest_from p CA_BLOCK_LEAST i) CA_BLOCK_LEAST ≡ false = grind (arith, nat_tests) in z),
      kept_window p i (rest_before p i) (rest_from p CA_BLOCK_LEAST i) t refl refl le,
    )
  ]
  | inr t ↦ inl (lost_duty p i t, inl (works_is (unit_at p i) ∙ ap not t))
]

kept_is_rest : (p : List Activity) (i : ℕ) → IsKept p i → works (unit_at p i) ≡ true → ⊥
kept_is_rest p i k w = let z : true ≡ false = sym w ∙ (works_is (unit_at p i) ∙ ap not (k.rest i k.after k.before)) in cc

-- the test says exactly this
pub lost_means : (p : List Activity) (i : ℕ) → is_lost p i ≡ true → (works (unit_at p i) ≡ true) ⊎ IsInShortRun p i
lost_means p i h = elim (lost_cases p i) [ inl c ↦ c.1 | inr c ↦ absurd (let z : true ≡ false = sym h ∙ c.0 in cc) ]

pub lost_from : (p : List Activity) (i : ℕ) → (works (unit_at p i) ≡ true) ⊎ IsInShortRun p i → is_lost p i ≡ true
lost_from p i h = elim (lost_cases p i) [
  | inl c ↦ c.0
  | inr c ↦ elim h [ inl w ↦ absurd (kept_is_rest p i c.1 w) | inr s ↦ absurd (short_not_kept p i s c.1) ]
]

pub kept_not_lost : (p : List Activity) (i : ℕ) → IsKept p i → is_lost p i ≡ false
kept_not_lost p i k = elim (lost_cases p i) [
  | inl c ↦ elim c.1 [ inl w ↦ absurd (kept_is_rest p i k w) | inr s ↦ absurd (short_not_kept p i s k) ]
  | inr c ↦ c.0
]
