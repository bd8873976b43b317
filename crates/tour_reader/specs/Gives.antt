-- Reading in steps, of which the first that fails gives the fault.
use Rattle.std.specs.Prelude.{◌≡◌, ◌≢◌, Option, Some, None, Result, Ok, Err, MatchResult, ℕ}
use Rattle.tour_reader.specs.declared.field.Field.{Field}
use Rattle.tour_reader.specs.declared.fault.TourFault.{TourFault}
use Rattle.tour_reader.specs.declared.fault.TourFault.TheVariants.{Memory, BadValue}

-- one step after another
infixl 10 ◌>>=◌
abbrev pub ◌>>=◌ : {A B : Type 0} → Result A TourFault → (A → Result B TourFault) → Result B TourFault
(Ok x) >>= f = f x
(Err fault) >>= f = Err fault

-- what a field's value stands for, where it stands for something
abbrev pub good : {A : Type 0} → Field → Option ℕ → Option A → Result A TourFault
good field stop None = Err (BadValue field stop)
good field stop (Some x) = Ok x

-- what a function answered, seen by view, is what reading gives, unless memory ran out
abbrev pub Gives : {X Y : Type 0} → (X → Y) → Result X TourFault → Result Y TourFault → Type 0
Gives view result read = MatchResult result (λ x. read ≡ Ok (view x)) (λ fault. fault ≢ Memory → read ≡ Err fault)
