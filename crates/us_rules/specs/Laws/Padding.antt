-- The rest before a history of the United States, and its minutes.
use Rattle.std.proofs.Common.{◌≡◌, ℕ, ◌+◌, Bool, List, length, refl, ◌∙◌, arith}
use Rattle.std.proofs.lemmas.List.{length-replicate}
use Rattle.duty_core.specs.declared.activity.Activity.{Activity}
use Rattle.duty_core.specs.declared.activity.Activity.TheVariants.{Off}
use Rattle.duty_core.specs.declared.params.Params.TheVariants.{UsProperty}
use Rattle.duty_core.specs.declared.limits.TheConstants.{PADDING_MINUTES}
use Rattle.duty_core.specs.History.{pad_days, pad_units, padding}
use Rattle.rule_core.specs.Laws.Guard.{IsBehind}
use Rattle.sleeper_split.specs.Laws.Places.{IsOfMinutes}

pub us_pads : (berth : Bool) (days day_start : ℕ) → pad_units (UsProperty berth days day_start) ≡ PADDING_MINUTES
unfolding pad_days
us_pads berth days day_start = refl

-- a unit of the book is a minute
pub us_minutes : (berth : Bool) (days day_start : ℕ) → IsOfMinutes (UsProperty berth days day_start)
us_minutes berth days day_start = record { units = refl; pads = us_pads berth days day_start }

pub length_padding : (berth : Bool) (days day_start : ℕ) → length (padding (UsProperty berth days day_start)) ≡ PADDING_MINUTES
length_padding berth days day_start = length-replicate (pad_units (UsProperty berth days day_start)) Off ∙ us_pads berth days day_start

-- the minute after some units
pub us_after : (berth : Bool) (days day_start first : ℕ) (p : List Activity) (at : ℕ) → IsBehind (UsProperty berth days day_start) first p at → at + PADDING_MINUTES ≡ first + length p
us_after berth days day_start first p at e = let l = us_pads berth days day_start in omega arith

pub after_us : (berth : Bool) (days day_start first : ℕ) (p : List Activity) (at : ℕ) → at + PADDING_MINUTES ≡ first + length p → IsBehind (UsProperty berth days day_start) first p at
after_us berth days day_start first p at e = let l = us_pads berth days day_start in omega arith
