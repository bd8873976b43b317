-- The sooner and the later of two ends.
use Rattle.std.proofs.Common.{refl, ◌≡◌, ℕ, ◌≤◌, true, false, arith, inl, inr, ◌⊎◌}
use Rattle.std.specs.Prelude.{Option, None, Some, nat_le}
use Rattle.std.proofs.lemmas.Bool.{cases_lt}
use Rattle.std.proofs.lemmas.Bool.Decides.{nat_tests}
use Rattle.rest_bound.specs.Runs.{AtMost}
use Rattle.rest_bound.specs.Table.{sooner, later}

pub at_most_left : (a b : Option ℕ) (e : ℕ) → AtMost a e → AtMost (sooner a b) e
at_most_left None b e h = absurd h
at_most_left (Some x) None e h = h
at_most_left (Some x) (Some y) e h = elim (cases_lt y x) [
  | inl l ↦ (let q : nat_le x y ≡ false = grind (arith, nat_tests) in let g : x ≤ e = h in rw q (let i : y ≤ e = omega arith in i))
  | inr l ↦ (let q : nat_le x y ≡ true = grind (arith, nat_tests) in rw q h)
]

pub at_most_right : (a b : Option ℕ) (e : ℕ) → AtMost b e → AtMost (sooner a b) e
at_most_right None b e h = h
at_most_right (Some x) None e h = absurd h
at_most_right (Some x) (Some y) e h = elim (cases_lt y x) [
  | inl l ↦ (let q : nat_le x y ≡ false = grind (arith, nat_tests) in rw q h)
  | inr l ↦ (let q : nat_le x y ≡ true = grind (arith, nat_tests) in let g : y ≤ e = h in rw q (let i : x ≤ e = omega arith in i))
]

pub sooner_is : (a b : Option ℕ) (c : ℕ) → sooner a b ≡ Some c → (a ≡ Some c) ⊎ (b ≡ Some c)
sooner_is None b c h = inr h
sooner_is (Some x) None c h = inl h
sooner_is (Some x) (Some y) c h = elim (cases_lt y x) [
  | inl l ↦ (let q : nat_le x y ≡ false = grind (arith, nat_tests) in inr (rw q at h))
  | inr l ↦ (let q : nat_le x y ≡ true = grind (arith, nat_tests) in inl (rw q at h))
]

pub at_most_later : (a b : Option ℕ) (e : ℕ) → AtMost a e → AtMost b e → AtMost (later a b) e
at_most_later None b e h i = h
at_most_later (Some x) None e h i = i
at_most_later (Some x) (Some y) e h i = elim (cases_lt y x) [
  | inl l ↦ (let q : nat_le x y ≡ false = grind (arith, nat_tests) in rw q h)
  | inr l ↦ (let q : nat_le x y ≡ true = grind (arith, nat_tests) in rw q i)
]

-- The later end is no sooner than either.
pub record IsLater (a b : Option ℕ) (c : ℕ) : Type 0 where
  pub one : ℕ
  pub other : ℕ
  pub one_is : a ≡ Some one
  pub other_is : b ≡ Some other
  pub one_most : one ≤ c
  pub other_most : other ≤ c

pub later_is : (a b : Option ℕ) (c : ℕ) → later a b ≡ Some c → IsLater a b c
later_is None b c h = absurd (let q : None ≡ Some c = h in cc)
later_is (Some x) None c h = absurd (let q : None ≡ Some c = h in cc)
later_is (Some x) (Some y) c h = elim (cases_lt y x) [
  | inl l ↦ (let q : nat_le x y ≡ false = grind (arith, nat_tests) in let r : Some x ≡ Some c = rw q at h in let s : x ≡ c = cc in
      record { one = x; other = y; one_is = refl; other_is = refl; one_most = omega arith; other_most = omega arith })
  | inr l ↦ (let q : nat_le x y ≡ true = grind (arith, nat_tests) in let r : Some y ≡ Some c = rw q at h in let s : y ≡ c = cc in
      record { one = x; other = y; one_is = refl; other_is = refl; one_most = omega arith; other_most = omega arith })
]

pub later_within : (a b : Option ℕ) (c horizon : ℕ) → later a b ≡ Some c → ((x : ℕ) → a ≡ Some x → x ≤ horizon) → ((x : ℕ) → b ≡ Some x → x ≤ horizon) → c ≤ horizon
later_within None b c horizon h f g = absurd (let q : None ≡ Some c = h in cc)
later_within (Some x) None c horizon h f g = absurd (let q : None ≡ Some c = h in cc)
later_within (Some x) (Some y) c horizon h f g = elim (cases_lt y x) [
  | inl l ↦ (let q : nat_le x y ≡ false = grind (arith, nat_tests) in let r : Some x ≡ Some c = rw q at h in f c r)
  | inr l ↦ (let q : nat_le x y ≡ true = grind (arith, nat_tests) in let r : Some y ≡ Some c = rw q at h in g c r)
]
