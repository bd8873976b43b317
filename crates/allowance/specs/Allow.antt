-- What the units to come may hold: limits on duty, needs of rest, and the run of rest in progress.
use Rattle.std.specs.Prelude.{ℕ, ◌+◌, ◌-◌, ◌<◌, ◌≤◌, min, Bool, not, ◌&&◌, List, [], ◌∷◌, ◌++◌, map, filter, replicate, All, nat_lt, nat_le, nat_eq, if◌then◌else◌}
use Rattle.std.specs.List.{list_all, list_any}
use Rattle.duty_core.specs.declared.activity.Activity.{Activity}
use Rattle.duty_core.specs.declared.activity.Activity.TheVariants.{Off}
use Rattle.duty_core.specs.Stretch.{HoldsRest}
use Rattle.duty_core.specs.Counting.{duty}
use Rattle.duty_core.specs.Implies.{Limit as CoreLimit}
use Rattle.allowance.specs.declared.limit.Limit.{Limit}
use Rattle.allowance.specs.declared.limit.Need.{Need}
use Rattle.allowance.specs.declared.limit.TheConstants.{RUN_LIMIT}

-- what allowances are seen as
pub record Held : Type 0 where
  pub limits : List Limit
  pub needs : List Need
  pub run : ℕ

-- the limit as the base crate names it
abbrev pub core : Limit → CoreLimit
core limit = record { units = limit.units; duty = limit.duty }

-- the units to come, followed by rest for good, keep the limit
abbrev pub KeepsLimit : List Activity → Limit → Type 0
KeepsLimit future limit = duty future 0 limit.units ≤ limit.duty

-- They meet the need, where `run` rest units stand before them: a stretch of rest that is long enough lies in these and the next ones.
abbrev pub MeetsNeed : ℕ → List Activity → Need → Type 0
MeetsNeed run future need = HoldsRest need.rest (replicate run Off ++ future) 0 (run + need.units)

-- the next units may be these, followed by rest for good
pub record Allows (h : Held) (future : List Activity) : Type 0 where
  pub limits : All (KeepsLimit future) h.limits
  pub needs : All (MeetsNeed h.run future) h.needs

-- a limit that some units break
abbrev pub IsOpenLimit : Limit → Type 0
IsOpenLimit limit = limit.duty < limit.units

-- a need that is not met yet, and can be
pub record IsOpenNeed (run : ℕ) (need : Need) : Type 0 where
  pub waits : run < need.rest
  pub can : need.rest ≤ run + need.units
  pub fits : need.rest ≤ RUN_LIMIT

-- what is true of all allowances
pub record IsHeld (h : Held) : Type 0 where
  pub limits : All IsOpenLimit h.limits
  pub needs : All (IsOpenNeed h.run) h.needs

-- one unit less, and one duty unit less
abbrev pub spent_limit : Limit → Limit
spent_limit p = record { units = p.units - 1; duty = p.duty - 1 }

abbrev pub passed_limit : Limit → Limit
passed_limit p = record { units = p.units - 1; duty = p.duty }

abbrev pub passed_need : Need → Need
passed_need n = record { units = n.units - 1; rest = n.rest }

abbrev pub is_open : Limit → Bool
is_open p = nat_lt p.duty p.units

abbrev pub waits : ℕ → Need → Bool
waits run n = nat_lt run n.rest

-- the next unit may be duty
abbrev pub may_spend : Held → Bool
may_spend h = list_all (λ p. nat_lt 0 p.duty) h.limits && list_all (λ n. nat_lt n.rest n.units) h.needs

-- after one duty unit
abbrev pub spent : Held → Held
spent h = record { limits = map spent_limit h.limits; needs = map passed_need h.needs; run = 0 }

-- the length of the run in progress after one rest unit more
abbrev pub one_more : ℕ → ℕ
one_more run = min (run + 1) RUN_LIMIT

-- After one rest unit: limits that no units break any more leave, and so do needs that are met.
abbrev pub passed : Held → Held
passed h = record {
  limits = filter is_open (map passed_limit h.limits);
  needs = filter (waits (one_more h.run)) (map passed_need h.needs);
  run = one_more h.run;
}

-- at most a.duty in the next a.units give at most b.duty in the next b.units
abbrev pub implies : Limit → Limit → Bool
implies a b = nat_le (a.duty + (b.units - a.units)) b.duty

-- With one more limit: it is left out where no units break it or a kept one implies it, and those that it implies leave.
abbrev pub added_limits : List Limit → Limit → List Limit
added_limits ps p = if is_open p then (if list_any (λ q. implies q p) ps then ps else filter (λ q. not (implies p q)) ps ++ p ∷ []) else ps

abbrev pub added : Held → Limit → Held
added h p = record h { limits = added_limits h.limits p }

-- the need m asks for as much rest as n, and no later
abbrev pub gives : Need → Need → Bool
gives m n = nat_eq m.rest n.rest && nat_le m.units n.units

-- with one more need, which is left out where a kept one gives it
abbrev pub needed_needs : List Need → Need → List Need
needed_needs ns n = if list_any (λ m. gives m n) ns then ns else ns ++ n ∷ []

abbrev pub needed : Held → Need → Held
needed h n = record h { needs = needed_needs h.needs n }

-- a run in progress of more than `longest` units counts as one of so many
abbrev pub settled : Held → ℕ → Held
settled h longest = record h { run = min h.run longest }

-- nothing is asked, and no rest is in progress
abbrev pub no_limits : Held
no_limits = record { limits = []; needs = []; run = 0 }

-- the tests of IsOpenNeed and IsHeld
abbrev pub is_open_need : ℕ → Need → Bool
is_open_need run n = (nat_lt run n.rest && nat_le n.rest (run + n.units)) && nat_le n.rest RUN_LIMIT

abbrev pub is_held : Held → Bool
is_held h = list_all is_open h.limits && list_all (is_open_need h.run) h.needs
