-- The greatest or the least of some values, and the first place with it. `Value` tells of a place and a number whether the number is a value there.
use Rattle.std.specs.Prelude.{ℕ, ◌<◌, ◌≤◌, Option, None, Some, MatchOption}
use Rattle.rule_readings.specs.declared.best.Order.{Order}
use Rattle.rule_readings.specs.declared.best.Order.TheVariants.{Greatest, Least}
use Rattle.rule_readings.specs.declared.best.Best.{Best}

-- a value m does not come before the value n: it is no greater, or no less
abbrev pub IsNoBetter : Order → ℕ → ℕ → Type 0
IsNoBetter Greatest n m = m ≤ n
IsNoBetter Least n m = n ≤ m

-- Place i has the value n, no place has a better one, and no earlier place has it.
pub record IsBestFirst (order : Order) (Value : ℕ → ℕ → Type 0) (i n : ℕ) : Type 0 where
  pub there : Value i n
  pub best : (k m : ℕ) → Value k m → IsNoBetter order n m
  pub first : (k : ℕ) → Value k n → i ≤ k

-- the best value and the first place with it, where there is one
abbrev pub IsBestFound : Order → (ℕ → ℕ → Type 0) → Option Best → Type 0
IsBestFound order Value found = MatchOption found ((i n : ℕ) → Value i n → ⊥) (λ best. IsBestFirst order Value best.at best.used)

-- a value that the best one so far does not stand before: it is better, or the first one
abbrev pub Beats : Order → ℕ → Option Best → Type 0
Beats order n None = Unit {0}
Beats Greatest n (Some best) = best.used < n
Beats Least n (Some best) = n < best.used
