-- What a state of a book is: of the root, and of each successor.
use Rattle.std.proofs.Common.{◌≡◌, ℕ, ◌≤◌, Bool}
use Rattle.std.specs.Prelude.{All}
use Rattle.duty_core.specs.declared.params.RestWay.{RestWay}
use Rattle.duty_core.specs.declared.limits.TheConstants.{DAY_MINUTES}
use Rattle.canada_rules.specs.declared.state.CanadaState.{CanadaState}
use Rattle.canada_rules.specs.Machine.{ca_may, IsCanadaState}

-- A state of the book with these parameters at this minute: its cycle is the book's, and no day of it has more duty than minutes.
pub record IsStateOf (berth : Bool) (way : RestWay) (cycle start : ℕ) (s : CanadaState) (at : ℕ) : Type 0 where
  pub counts : IsCanadaState (ca_may berth way) way start s at
  pub of_cycle : s.calendar.cycle.cycle ≡ cycle
  pub within : All (λ n. n ≤ DAY_MINUTES) s.calendar.cycle.sums
