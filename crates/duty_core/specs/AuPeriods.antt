-- The counted periods of Australia, after the Heavy Vehicle (Fatigue Management) National Regulation, Schedule 1, standard hours, solo, as facts of a padded history p and a place i of it. A unit is a quarter of an hour.
use Rattle.std.specs.Prelude.{◌≡◌, ℕ, ◌+◌, ◌-◌, ◌≤◌, true, List}
use Rattle.duty_core.specs.declared.activity.Activity.{Activity}
use Rattle.duty_core.specs.declared.limits.TheConstants.{AU_SHORT_START, AU_LONG_START, AU_5H30_PERIOD, AU_5H30_DUTY, AU_8H_PERIOD, AU_8H_DUTY, AU_11H_PERIOD, AU_11H_DUTY, AU_24H_PERIOD, AU_24H_DUTY, AU_24H_REST, AU_7D_PERIOD, AU_7D_DUTY, AU_7D_REST, AU_14D_PERIOD, AU_14D_DUTY}
use Rattle.duty_core.specs.Activity.{works}
use Rattle.duty_core.specs.History.{unit_at}
use Rattle.duty_core.specs.Stretch.{IsRest, HoldsRest}
use Rattle.duty_core.specs.Counting.{duty}

-- a start: a duty unit, preceded by so many rest units
pub record IsStart (rested : ℕ) (p : List Activity) (i : ℕ) : Type 0 where
  pub works_there : works (unit_at p i) ≡ true
  pub there : rested ≤ i
  pub rest : IsRest p (i - rested) i

-- a duty unit, preceded by a rest unit
abbrev pub IsShortStart : List Activity → ℕ → Type 0
IsShortStart p i = IsStart AU_SHORT_START p i

-- a duty unit, preceded by seven hours of rest
abbrev pub IsLongStart : List Activity → ℕ → Type 0
IsLongStart p i = IsStart AU_LONG_START p i

-- AU-5H30: the units from a short start on hold at most so much duty; so the next five.
abbrev pub MeetsAu5h30 : List Activity → ℕ → Type 0
MeetsAu5h30 p i = IsShortStart p i → duty p i (i + AU_5H30_PERIOD) ≤ AU_5H30_DUTY

-- AU-8H
abbrev pub MeetsAu8h : List Activity → ℕ → Type 0
MeetsAu8h p i = IsShortStart p i → duty p i (i + AU_8H_PERIOD) ≤ AU_8H_DUTY

-- AU-11H
abbrev pub MeetsAu11h : List Activity → ℕ → Type 0
MeetsAu11h p i = IsShortStart p i → duty p i (i + AU_11H_PERIOD) ≤ AU_11H_DUTY

-- AU-24H, from a long start on
abbrev pub MeetsAu24h : List Activity → ℕ → Type 0
MeetsAu24h p i = IsLongStart p i → duty p i (i + AU_24H_PERIOD) ≤ AU_24H_DUTY

-- AU-7D
abbrev pub MeetsAu7d : List Activity → ℕ → Type 0
MeetsAu7d p i = IsLongStart p i → duty p i (i + AU_7D_PERIOD) ≤ AU_7D_DUTY

-- AU-14D
abbrev pub MeetsAu14d : List Activity → ℕ → Type 0
MeetsAu14d p i = IsLongStart p i → duty p i (i + AU_14D_PERIOD) ≤ AU_14D_DUTY

-- AU-24H-REST: the units from a long start on hold seven consecutive hours of rest.
abbrev pub MeetsAu24hRest : List Activity → ℕ → Type 0
MeetsAu24hRest p i = IsLongStart p i → HoldsRest AU_24H_REST p i (i + AU_24H_PERIOD)

-- AU-7D-REST: the units from a long start on hold twenty-four consecutive hours of rest.
abbrev pub MeetsAu7dRest : List Activity → ℕ → Type 0
MeetsAu7dRest p i = IsLongStart p i → HoldsRest AU_7D_REST p i (i + AU_7D_PERIOD)
