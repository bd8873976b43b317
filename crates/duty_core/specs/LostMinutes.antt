-- The lost minutes of a day in Canada, after SOR/2005-313, section 14: its duty, and its rest in runs that are too short. p is a padded history.
use Rattle.std.specs.Prelude.{ℕ, ◌+◌, Bool, cond, ◌&&◌, ◌||◌, List, length, nat_eq, nat_lt, zero, suc}
use Rattle.duty_core.specs.declared.activity.Activity.{Activity}
use Rattle.duty_core.specs.declared.limits.TheConstants.{CA_BLOCK_LEAST}
use Rattle.duty_core.specs.Activity.{rests, works}
use Rattle.duty_core.specs.History.{unit_at}
use Rattle.duty_core.specs.Counting.{places}

-- how many places right before place i are rest
unfoldable pub rest_before : List Activity → ℕ → ℕ
rest_before p zero = 0
rest_before p (suc i) = cond (rests (unit_at p i)) (rest_before p i + 1) 0

-- how many places from place i on are rest, counted up to n
unfoldable pub rest_from : List Activity → ℕ → ℕ → ℕ
rest_from p zero i = 0
rest_from p (suc n) i = cond (rests (unit_at p i)) (rest_from p n (i + 1) + 1) 0

-- The minute is duty, or lies in a rest run that is shorter than 30 minutes in whole: its minutes before the place, and those from it on as far as 30.
unfoldable pub is_lost : List Activity → ℕ → Bool
is_lost p i = works (unit_at p i) || nat_lt (rest_before p i + rest_from p CA_BLOCK_LEAST i) CA_BLOCK_LEAST

-- the lost minutes of the day with number j
abbrev pub lost : (ℕ → ℕ) → List Activity → ℕ → ℕ
lost day p j = places (λ i. nat_eq (day i) j && is_lost p i) (length p)
