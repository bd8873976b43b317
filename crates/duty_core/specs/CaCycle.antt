-- The Canadian rules of a fortnight and of a cycle, after SOR/2005-313, sections 24 to 28, as facts of a padded history p and a place i of it. A unit is a minute.
use Rattle.std.specs.Prelude.{◌≡◌, ℕ, ◌+◌, ◌-◌, ◌≤◌, List, nat_eq, if◌then◌else◌}
use Rattle.duty_core.specs.declared.activity.Activity.{Activity}
use Rattle.duty_core.specs.declared.activity.Activity.TheVariants.{Drive}
use Rattle.duty_core.specs.declared.limits.TheConstants.{CA_DAY_OFF, CA_DAY_OFF_WITHIN, CA_CYCLE_1, CA_CYCLE_2, CA_CYCLE_1_DAYS, CA_CYCLE_1_LIMIT, CA_CYCLE_1_RESET, CA_CYCLE_2_DAYS, CA_CYCLE_2_LIMIT, CA_CYCLE_2_RESET, CA_WITHOUT_DAY_OFF_LIMIT}
use Rattle.duty_core.specs.History.{unit_at}
use Rattle.duty_core.specs.Stretch.{HoldsRest}
use Rattle.duty_core.specs.Counting.{duty, IsLastEnd, IsDaysBase}

-- CA-24IN14: the 20,160 minutes before a unit of driving hold 1,440 consecutive minutes of rest.
abbrev pub MeetsCa24in14 : List Activity → ℕ → Type 0
MeetsCa24in14 p i = unit_at p i ≡ Drive → HoldsRest CA_DAY_OFF p (i - CA_DAY_OFF_WITHIN) i

-- the number of days of a cycle
abbrev pub cycle_days : ℕ → ℕ
cycle_days cycle = if nat_eq cycle CA_CYCLE_1 then CA_CYCLE_1_DAYS else CA_CYCLE_2_DAYS

-- the rest after which a cycle begins anew
abbrev pub cycle_reset : ℕ → ℕ
cycle_reset cycle = if nat_eq cycle CA_CYCLE_1 then CA_CYCLE_1_RESET else CA_CYCLE_2_RESET

-- the greatest duty in a cycle
abbrev pub cycle_limit : ℕ → ℕ
cycle_limit cycle = if nat_eq cycle CA_CYCLE_1 then CA_CYCLE_1_LIMIT else CA_CYCLE_2_LIMIT

-- CA-CYCLE: at a unit of driving, that unit counted, duty in the days of the cycle up to this day, since the last reset, is at most the limit.
abbrev pub MeetsCaCycle : ℕ → (ℕ → ℕ) → List Activity → ℕ → Type 0
MeetsCaCycle cycle day p i =
    unit_at p i ≡ Drive → (from : ℕ) → IsDaysBase day (cycle_days cycle) (cycle_reset cycle) p i from → duty p from (i + 1) ≤ cycle_limit cycle

-- CA-70WITHOUT24: in cycle 2, at a unit of driving, that unit counted, duty since the last rest run of at least 1,440 is at most the limit.
abbrev pub MeetsCa70without24 : ℕ → List Activity → ℕ → Type 0
MeetsCa70without24 cycle p i =
    cycle ≡ CA_CYCLE_2 → unit_at p i ≡ Drive → (from : ℕ) → IsLastEnd CA_DAY_OFF p i from → duty p from (i + 1) ≤ CA_WITHOUT_DAY_OFF_LIMIT
