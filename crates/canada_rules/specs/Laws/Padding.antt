-- The rest before a history of Canada, its minutes, and its days.
use Rattle.std.proofs.Common.{◌≡◌, ℕ, ◌+◌, ◌≤◌, Bool, true, List, length, refl, ◌∙◌, arith}
use Rattle.std.proofs.lemmas.List.{length-replicate}
use Rattle.std.proofs.lemmas.Int.{ints}
use Rattle.duty_core.specs.declared.activity.Activity.{Activity}
use Rattle.duty_core.specs.declared.activity.Activity.TheVariants.{Off}
use Rattle.duty_core.specs.declared.params.RestWay.{RestWay}
use Rattle.duty_core.specs.declared.params.RestWay.TheVariants.{Split}
use Rattle.duty_core.specs.declared.params.Params.TheVariants.{Canada}
use Rattle.duty_core.specs.declared.limits.TheConstants.{PADDING_MINUTES, DAY_MINUTES}
use Rattle.duty_core.specs.History.{pad_days, pad_units, padding}
use Rattle.rule_core.specs.Laws.Guard.{IsBehind}
use Rattle.sleeper_split.specs.Laws.Places.{IsOfMinutes}
use Rattle.cycles_deferral.specs.Paths.{ca_pads, begins, date_of}
use Rattle.cycles_deferral.specs.Laws.CountryDays.{ca_day, begins_at}
use Rattle.canada_rules.specs.Machine.{begins_day, ca_date}

pub pads_are : ca_pads ≡ PADDING_MINUTES
unfolding pad_days
pads_are = refl

pub units_are : (berth : Bool) (way : RestWay) (cycle start : ℕ) → pad_units (Canada berth way cycle start) ≡ PADDING_MINUTES
unfolding pad_days
units_are berth way cycle start = refl

-- a unit of the book is a minute
pub ca_minutes : (berth : Bool) (way : RestWay) (cycle start : ℕ) → IsOfMinutes (Canada berth way cycle start)
ca_minutes berth way cycle start = record { units = refl; pads = units_are berth way cycle start }

pub length_padding : (berth : Bool) (way : RestWay) (cycle start : ℕ) → length (padding (Canada berth way cycle start)) ≡ PADDING_MINUTES
length_padding berth way cycle start = length-replicate (pad_units (Canada berth way cycle start)) Off ∙ units_are berth way cycle start

-- the minute after some units
pub after_is : (berth : Bool) (way : RestWay) (cycle start first : ℕ) (p : List Activity) (at : ℕ) → IsBehind (Canada berth way cycle start) first p at → at + PADDING_MINUTES ≡ first + length p
after_is berth way cycle start first p at e = let l = units_are berth way cycle start in omega arith

-- a place begins its day exactly where its minute does
pub place_begins : (start first i at : ℕ) → start ≤ DAY_MINUTES → 1 ≤ i → at + PADDING_MINUTES ≡ first + i → begins (ca_day start first) i ≡ begins_day start at
place_begins start first i at l some e = begins_at true Split 1 start first i at some (let p = pads_are in omega arith) l

date_is : (start first i at : ℕ) → at + PADDING_MINUTES ≡ first + i → date_of (ca_day start first i) ≡ ca_date start at
unfolding pad_days
date_is start first i at e = omega (arith, ints)

-- the date of a place's day is that of its minute
pub place_date : (start first i at : ℕ) → at + PADDING_MINUTES ≡ first + i → date_of (ca_day start first i) ≡ ca_date start at
place_date start first i at e = date_is start first i at e
