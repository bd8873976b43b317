-- Marks after a fence, the run in progress, and one more unit.
use Rattle.std.proofs.Common.{◌≡◌, ℕ, ◌+◌, ◌-◌, ◌<◌, ◌≤◌, true, false, List, [], ◌∷◌, ◌++◌, length, refl, sym, ◌∙◌, ap, arith, ◌⊎◌, inl, inr, zero, suc}
use Rattle.std.specs.Prelude.{Contains, AllPairs, All, get_or}
use Rattle.std.proofs.lemmas.Bool.{cases_lt}
use Rattle.std.proofs.lemmas.List.Elements.{All-contains, Contains-append_left, Contains-append_right, Contains-append_cases, Contains-push_cases}
use Rattle.std.proofs.lemmas.List.Kept.{AllPairs-cons}
use Rattle.duty_core.specs.declared.activity.Activity.{Activity}
use Rattle.duty_core.specs.Activity.{rests}
use Rattle.duty_core.specs.History.{unit_at}
use Rattle.duty_core.specs.RestRun.{IsRun}
use Rattle.duty_core.specs.Laws.HistoryLaws.{unit_at-append, alike_append}
use Rattle.duty_core.specs.RestRun.{EndsIn}
use Rattle.duty_core.specs.Laws.RunLaws.{run_inside}
use Rattle.sleeper_split.specs.Laws.Alike.{AreMarkedAlike}

-- # Lists of places

-- increasing, from n on
abbrev pub From : ℕ → List ℕ → Type 0
From n [] = Unit {0}
From n (x ∷ xs) = (n ≤ x) × From (x + 1) xs

pub contains_none : {X : Type 0} (x : X) → Contains [] x → ⊥
contains_none x h = let l = h.1 in absurd (omega arith)

pub contains_one : {X : Type 0} (x y : X) → Contains (x ∷ []) y → x ≡ y
contains_one x y h = elim (Contains-push_cases [] x y h) [ inl n ↦ absurd (contains_none y n) | inr e ↦ e ]

pub contains_head : {X : Type 0} (x : X) (xs : List X) → Contains (x ∷ xs) x
contains_head x xs = (0, omega arith, refl)

pub contains_tail : {X : Type 0} (x : X) (xs : List X) (y : X) → Contains xs y → Contains (x ∷ xs) y
contains_tail x xs y h = Contains-append_right (x ∷ []) xs y h

pub contains_cases : {X : Type 0} (x : X) (xs : List X) (y : X) → Contains (x ∷ xs) y → (x ≡ y) ⊎ Contains xs y
contains_cases x xs y h = elim (Contains-append_cases (x ∷ []) xs y h) [ inl a ↦ inl (contains_one x y a) | inr b ↦ inr b ]

pub from_less : (n k : ℕ) (m : List ℕ) → k ≤ n → From n m → From k m
from_less n k [] l h = tt
from_less n k (x ∷ xs) l h = (let a : n ≤ x = h.0 in omega arith, h.1)

pub from_least : (n : ℕ) (o : List ℕ) (a : ℕ) → From n o → Contains o a → n ≤ a
from_least n [] a f h = absurd (contains_none a h)
from_least n (x ∷ o) a f h = let l : n ≤ x = f.0 in elim (contains_cases x o a h) [
  | inl e ↦ (let z : x ≡ a = e in omega arith)
  | inr u ↦ (let z = from_least (x + 1) o a f.1 u in omega arith)
]

pub from_append : (n k : ℕ) (m o : List ℕ) → From n m → ((a : ℕ) → Contains m a → a < k) → n ≤ k → From k o → From n (m ++ o)
from_append n k [] o f e l g = from_less k n o l g
from_append n k (x ∷ m) o f e l g = (f.0, from_append (x + 1) k m o f.1 (λ a i. e a (contains_tail x m a i)) (let z = e x (contains_head x m) in omega arith) g)

contains_at : (m : List ℕ) (k d : ℕ) → k < length m → Contains m (get_or m k d)
contains_at [] k d l = absurd (omega arith)
contains_at (x ∷ m) zero d l = contains_head x m
contains_at (x ∷ m) (suc k) d l = contains_tail x m (get_or m k d) (contains_at m k d (omega arith))

from_above : (n : ℕ) (m : List ℕ) → From (n + 1) m → All (λ a. n < a) m
from_above n m h k d l = let z = from_least (n + 1) m (get_or m k d) h (contains_at m k d l) in omega arith

-- strictly increasing, said of each pair
pub increasing : (n : ℕ) (m : List ℕ) → From n m → AllPairs (λ a b. a < b) m
increasing n [] h = λ i j d l k. absurd (omega arith)
increasing n (x ∷ xs) h = AllPairs-cons (λ a b. a < b) x xs (from_above x xs h.1) (increasing (x + 1) xs h.1)

pub from_increasing : (n : ℕ) (m : List ℕ) → ((a : ℕ) → Contains m a → n ≤ a) → AllPairs (λ a b. a < b) m → From n m
from_increasing n [] least h = tt
from_increasing n (x ∷ xs) least h = (
  least x (contains_head x xs),
  from_increasing (x + 1) xs (λ a i. let z = All-contains (λ b. x < b) xs a (λ k d l. h 0 (suc k) d (omega arith) (omega arith)) i in omega arith)
      (λ i j d l k. h (suc i) (suc j) d (omega arith) (omega arith)),
)

-- # The run in progress

-- each run that has ended lies before it
pub run_before : (p : List Activity) (r a b : ℕ) → EndsIn p r → IsRun p a b → b + r < length p
run_before p r a b e h = let i = run_inside p a b h in elim (cases_lt (b + r) (length p)) [
  | inl l ↦ l
  | inr l ↦ absurd (let z : true ≡ false = sym (e.rest b l i) ∙ h.ended in cc)
]

no_longer : (p : List Activity) (a b : ℕ) → EndsIn p a → EndsIn p b → a < b → ⊥
no_longer p a b h g l = let t = g.there in
    let k : ℕ = length p - a - 1 in
    let z : true ≡ false = sym (g.rest k (omega arith) (omega arith)) ∙ h.starts k (omega arith) in cc

-- there is one run in progress
pub ends_unique : (p : List Activity) (a b : ℕ) → EndsIn p a → EndsIn p b → a ≡ b
ends_unique p a b h g = elim (cases_lt a b) [
  | inl l ↦ absurd (no_longer p a b h g l)
  | inr m ↦ elim (cases_lt b a) [ inl l ↦ absurd (no_longer p b a g h l) | inr n ↦ omega arith ]
]

-- units after, and marks that name no run before the one in progress
pub marked_fence : (p q : List Activity) (m o : List ℕ) (r : ℕ) → EndsIn p r → From (length p - r) o → AreMarkedAlike p (Contains m) (p ++ q) (Contains (m ++ o)) (length p)
marked_fence p q m o r h f = record {
  alike = alike_append p q;
  marks = λ a b l x y. Contains-append_left m o a y;
  back = λ a b l x y. elim (Contains-append_cases m o a y) [
    | inl z ↦ z
    | inr z ↦ absurd (
        let s : length p - r ≤ a = from_least (length p - r) o a f z in
        let t = x.some in
        let e : rests (unit_at p b) ≡ true = h.rest b (omega arith) l in
        let d : true ≡ false = sym e ∙ (sym (ap rests (unit_at-append p q b l)) ∙ x.ended) in cc)
  ];
}

-- the run that the unit x would end
pub start_of : (p : List Activity) (x : Activity) (r c : ℕ) → EndsIn p r → IsRun (p ++ x ∷ []) c (length p) → c + r ≡ length p
start_of p x r c e h = let s = h.some in let t = e.there in elim (cases_lt (c + r) (length p)) [
  | inl l ↦ absurd (
      let k : ℕ = length p - r - 1 in
      let z : true ≡ false = sym (h.rest k (omega arith) (omega arith)) ∙ (ap rests (unit_at-append p (x ∷ []) k (omega arith)) ∙ e.starts k (omega arith)) in cc)
  | inr l ↦ elim (cases_lt (length p) (c + r)) [
    | inr u ↦ omega arith
    | inl u ↦ absurd (
        let k : ℕ = c - 1 in
        let z : true ≡ false = sym (e.rest k (omega arith) (omega arith)) ∙ (sym (ap rests (unit_at-append p (x ∷ []) k (omega arith))) ∙ h.starts k (omega arith)) in cc)
  ]
]
