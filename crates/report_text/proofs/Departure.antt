-- The first step of driving or service, as std finds it.
use Rattle.std.proofs.Common.{◌≡◌, ℕ, ◌+◌, ◌≤◌, List, [], ◌∷◌, length, true, false, suc, Option, None, Some, refl, sym, ap, ◌∙◌, arith}
use Rattle.std.specs.Prelude.{unwrap_or, if◌then◌else◌}
use Rattle.std.specs.List.{position, position_from}
use Rattle.std.proofs.lemmas.Iterator.Adapters.{position_from-zero}
use Rattle.duty_core.specs.declared.activity.Activity.{Activity}
use Rattle.tour_model.specs.Schedule.{depart_from}
use Rattle.tour_model.specs.Way.{progresses}
use Rattle.report_text.specs.Report.{departure}

depart_from_is : (n : ℕ) (xs : List Activity) → depart_from n xs ≡ position_from progresses n xs
depart_from_is n [] = refl
depart_from_is n (x ∷ xs) = rw (depart_from_is (n + 1) xs) refl

-- the departure is the first place at which progress is made
depart_is : (xs : List Activity) → depart_from 0 xs ≡ position progresses xs
depart_is xs = depart_from_is 0 xs ∙ sym (position_from-zero progresses xs)

-- the step of the departure from the first place at which progress is made
pub departure_at : (xs : List Activity) (o : Option ℕ) → o ≡ position progresses xs → unwrap_or o 0 ≡ departure xs
departure_at xs o e = ap (λ d. unwrap_or d 0) (e ∙ sym (depart_is xs))

later_within : (n : ℕ) (o : Option ℕ) (m : ℕ) → unwrap_or o (n + 1) ≤ n + 1 + m → unwrap_or o n ≤ n + suc m
later_within n None m h = omega arith
later_within n (Some k) m h = omega (arith, h)

-- the place lies within the list, counted from n
from_within : (n : ℕ) (xs : List Activity) → unwrap_or (depart_from n xs) n ≤ n + length xs
from_within n [] = omega arith
from_within n (x ∷ xs) = elim (progresses x) as (λ b. unwrap_or (if b then Some n else depart_from (n + 1) xs) n ≤ n + length (x ∷ xs)) [ true ↦ omega arith | false ↦ later_within n (depart_from (n + 1) xs) (length xs) (from_within (n + 1) xs) ]

-- the departure is a step of the schedule, or its end
pub departure_within : (xs : List Activity) → departure xs ≤ length xs
departure_within xs = omega (arith, from_within 0 xs)
