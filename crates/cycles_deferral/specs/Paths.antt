-- Paths of the two machines along the minutes of a history: `day` tells the number of the day of each place.
use Rattle.std.specs.Prelude.{◌≡◌, ℕ, ◌+◌, ◌-◌, ◌*◌, ◌≤◌, Bool, ℤ, pos, ◌-ℤ◌, List, [], ◌∷◌, ◌++◌, replicate, Option, Some, Contains, nat_lt}
use Rattle.std.specs.Option.{option_to_list}
use Rattle.duty_core.specs.declared.activity.Activity.{Activity}
use Rattle.duty_core.specs.declared.activity.Activity.TheVariants.{Off}
use Rattle.duty_core.specs.declared.mark.Mark.{Mark}
use Rattle.duty_core.specs.declared.mark.Mark.TheVariants.{DeferDay}
use Rattle.duty_core.specs.declared.limits.TheConstants.{DAY_MINUTES}
use Rattle.duty_core.specs.History.{pad_days}
use Rattle.cycles_deferral.specs.declared.days.CanadaDays.{CanadaDays}
use Rattle.cycles_deferral.specs.declared.cycle.CycleCount.{CycleCount}
use Rattle.cycles_deferral.specs.DayMachine.{days_after}
use Rattle.cycles_deferral.specs.CycleMachine.{cycle_after}

-- the minutes of rest before and after a history, and a history as the rules see it: what duty_core says of every Canadian book
abbrev pub ca_pads : ℕ
ca_pads = pad_days * DAY_MINUTES

abbrev pub ca_padding : List Activity
ca_padding = replicate ca_pads Off

abbrev pub ca_padded : List Activity → List Activity
ca_padded h = (ca_padding ++ h) ++ ca_padding

-- The numbers of the days of places: each day is as long as a day, and two days have passed where a history begins.
pub record AreDays (day : ℕ → ℕ) : Type 0 where
  pub on : (i : ℕ) → day i ≤ day (i + 1)
  pub by_one : (i : ℕ) → day (i + 1) ≤ day i + 1
  pub whole : (i : ℕ) → day (i + DAY_MINUTES) ≡ day i + 1
  pub later : 2 ≤ day (ca_pads - 1)

-- the place begins its day
abbrev pub begins : (ℕ → ℕ) → ℕ → Bool
begins day n = nat_lt (day (n - 1)) (day n)

-- the date of a day with this number, and of the day of a place
abbrev pub date_of : ℕ → ℤ
date_of number = pos number -ℤ pos (pad_days + 1)

-- The days s, at place n, are led to t by the minutes xs, and choose these marks.
abbrev pub TakesDays : (ℕ → ℕ) → CanadaDays → ℕ → List Activity → List Mark → CanadaDays → Type 0
TakesDays day s n [] marks t = (marks ≡ []) × (s ≡ t)
TakesDays day s n (x ∷ xs) marks t =
    (u : CanadaDays) × (m : Option Mark) × (later : List Mark) × (days_after s x (begins day n) (date_of (day n)) ≡ Some (u, m)) × (marks ≡ option_to_list m ++ later) × TakesDays day u (n + 1) xs later t

-- The counts s, at place n, are led to t by the minutes xs.
abbrev pub TakesCycle : (ℕ → ℕ) → CycleCount → ℕ → List Activity → CycleCount → Type 0
TakesCycle day s n [] t = s ≡ t
TakesCycle day s n (x ∷ xs) t = (u : CycleCount) × (cycle_after s x (begins day n) ≡ Some u) × TakesCycle day u (n + 1) xs t

-- each mark defers a day
abbrev pub AreDeferrals : List Mark → Type 0
AreDeferrals marks = (m : Mark) → Contains marks m → (date : ℤ) × (m ≡ DeferDay date)
