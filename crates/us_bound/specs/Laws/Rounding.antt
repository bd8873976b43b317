-- What rounding up to steps keeps.
use Rattle.std.proofs.Common.{◌≡◌, ℕ, ◌+◌, ◌<◌, ◌≤◌, [], ◌∷◌, arith, refl}
use Rattle.std.specs.Prelude.{Contains}
use Rattle.std.proofs.lemmas.List.Elements.{All-nil, All-cons, All-contains}
use Rattle.tour_model.specs.declared.limits.TheConstants.{GRIDS}
use Rattle.duty_core.specs.declared.limits.TheConstants.{COUNT_LIMIT, US_WINDOW_LIMIT}
use Rattle.us_bound.specs.Projection.{up}

-- What lemmas ask of steps of so many minutes.
pub record IsRounding (g : ℕ) : Type 0 where
  pub some : 1 ≤ g
  pub few : g ≤ 30
  pub none : up g 0 ≡ 0
  pub next : (n : ℕ) → up g (n + g) ≡ up g n + 1
  pub more : (m n : ℕ) → m ≤ n → up g m ≤ up g n
  pub sum : (m n : ℕ) → up g (m + n) ≤ up g m + up g n
  pub whole : (n : ℕ) → 0 < n → 0 < up g n
  -- a count that stays at its greatest is past what the window leaves at any step of a tour
  pub big : 20160 + up g US_WINDOW_LIMIT ≤ up g COUNT_LIMIT

by_1 : IsRounding 1
by_1 = record { some = omega arith; few = omega arith; none = refl; next = λ n. omega arith; more = λ m n l. omega arith; sum = λ m n. omega arith; whole = λ n l. omega arith; big = omega arith }

by_5 : IsRounding 5
by_5 = record { some = omega arith; few = omega arith; none = refl; next = λ n. omega arith; more = λ m n l. omega arith; sum = λ m n. omega arith; whole = λ n l. omega arith; big = omega arith }

by_15 : IsRounding 15
by_15 = record { some = omega arith; few = omega arith; none = refl; next = λ n. omega arith; more = λ m n l. omega arith; sum = λ m n. omega arith; whole = λ n l. omega arith; big = omega arith }

by_30 : IsRounding 30
by_30 = record { some = omega arith; few = omega arith; none = refl; next = λ n. omega arith; more = λ m n l. omega arith; sum = λ m n. omega arith; whole = λ n l. omega arith; big = omega arith }

-- a step of a tour
pub rounds : (g : ℕ) → Contains GRIDS g → IsRounding g
rounds g c = All-contains IsRounding GRIDS g (All-cons IsRounding 1 (5 ∷ 15 ∷ 30 ∷ []) by_1 (All-cons IsRounding 5 (15 ∷ 30 ∷ []) by_5 (All-cons IsRounding 15 (30 ∷ []) by_15 (All-cons IsRounding 30 [] by_30 (All-nil IsRounding))))) c
