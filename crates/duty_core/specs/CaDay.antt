-- The Canadian rules of a day, after SOR/2005-313, section 12, as facts of a padded history p and a place i of it. A unit is a minute.
use Rattle.std.specs.Prelude.{◌≡◌, ℕ, ◌+◌, ◌≤◌, List}
use Rattle.duty_core.specs.declared.activity.Activity.{Activity}
use Rattle.duty_core.specs.declared.activity.Activity.TheVariants.{Drive}
use Rattle.duty_core.specs.declared.limits.TheConstants.{CA_DAY_DRIVING_LIMIT, CA_DAY_DUTY_LIMIT}
use Rattle.duty_core.specs.History.{unit_at}
use Rattle.duty_core.specs.Day.{IsFirstOfDays}
use Rattle.duty_core.specs.Counting.{driving, duty}

-- CA-DAY13: at a unit of driving, that unit counted, driving since the first place of the day is at most the limit.
abbrev pub MeetsCaDay13 : (ℕ → ℕ) → List Activity → ℕ → Type 0
MeetsCaDay13 day p i = unit_at p i ≡ Drive → (from : ℕ) → IsFirstOfDays day 1 i from → driving p from (i + 1) ≤ CA_DAY_DRIVING_LIMIT

-- CA-DAY14: at a unit of driving, that unit counted, duty since the first place of the day is at most the limit.
abbrev pub MeetsCaDay14 : (ℕ → ℕ) → List Activity → ℕ → Type 0
MeetsCaDay14 day p i = unit_at p i ≡ Drive → (from : ℕ) → IsFirstOfDays day 1 i from → duty p from (i + 1) ≤ CA_DAY_DUTY_LIMIT
