-- The machine of the counted periods, and what its state is of a history.
use Rattle.std.specs.Prelude.{ℕ, ◌-◌, List, [], ◌∷◌, nat_le, if◌then◌else◌}
use Rattle.duty_core.specs.declared.limits.TheConstants.{AU_SHORT_START, AU_LONG_START, AU_5H30_PERIOD, AU_5H30_DUTY, AU_8H_PERIOD, AU_8H_DUTY, AU_11H_PERIOD, AU_11H_DUTY, AU_24H_PERIOD, AU_24H_DUTY, AU_24H_REST, AU_7D_PERIOD, AU_7D_DUTY, AU_7D_REST, AU_14D_PERIOD, AU_14D_DUTY}
use Rattle.duty_core.specs.Counting.{duty}
use Rattle.allowance.specs.declared.limit.Limit.{Limit}
use Rattle.allowance.specs.declared.limit.Need.{Need}
use Rattle.allowance.specs.Allow.{Held, spent, passed, added, needed, settled}

abbrev pub at_most : ℕ → ℕ → Limit
at_most units duty = record { units = units; duty = duty }

abbrev pub at_least : ℕ → ℕ → Need
at_least units rest = record { units = units; rest = rest }

abbrev pub short_limits : List Limit
short_limits = at_most AU_5H30_PERIOD AU_5H30_DUTY ∷ at_most AU_8H_PERIOD AU_8H_DUTY ∷ at_most AU_11H_PERIOD AU_11H_DUTY ∷ []

abbrev pub long_limits : List Limit
long_limits = at_most AU_24H_PERIOD AU_24H_DUTY ∷ at_most AU_7D_PERIOD AU_7D_DUTY ∷ at_most AU_14D_PERIOD AU_14D_DUTY ∷ []

-- the needs of a period that began with the last unit
abbrev pub day_need : Need
day_need = at_least (AU_24H_PERIOD - 1) AU_24H_REST

abbrev pub week_need : Need
week_need = at_least (AU_7D_PERIOD - 1) AU_7D_REST

abbrev pub added_all : Held → List Limit → Held
added_all h [] = h
added_all h (p ∷ ps) = added_all (added h p) ps

-- with the limits of the periods that begin with the next unit, if it is duty
abbrev pub begun_short : Held → Held
begun_short h = if nat_le AU_SHORT_START h.run then added_all h short_limits else h

abbrev pub begun : Held → Held
begun h = if nat_le AU_LONG_START h.run then added_all (begun_short h) long_limits else begun_short h

-- and their needs, after that unit, where so much rest stood before it
abbrev pub with_needs : ℕ → Held → Held
with_needs run h = if nat_le AU_LONG_START run then needed (needed h day_need) week_need else h

abbrev pub after_duty : Held → Held
after_duty h = with_needs h.run (spent (begun h))

abbrev pub after_rest : Held → Held
after_rest h = settled (passed h) AU_7D_REST

-- nothing has begun, and there was rest before
abbrev pub start_held : Held
start_held = record { limits = []; needs = []; run = AU_7D_REST }
