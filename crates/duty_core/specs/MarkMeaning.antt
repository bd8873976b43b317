-- What a mark stands for in a padded history p, whose history begins at the minute `first`.
use Rattle.std.specs.Prelude.{ℕ, ◌<◌, ℤ, List}
use Rattle.duty_core.specs.declared.activity.Activity.{Activity}
use Rattle.duty_core.specs.declared.mark.Mark.{Mark}
use Rattle.duty_core.specs.declared.mark.Mark.TheVariants.{SplitRest, DeferDay}
use Rattle.duty_core.specs.declared.params.Params.{Params}
use Rattle.duty_core.specs.declared.limits.TheConstants.{CA_LOST_LIMIT}
use Rattle.duty_core.specs.RestRun.{IsRun}
use Rattle.duty_core.specs.Day.{day_number, IsNumberOfDay}
use Rattle.duty_core.specs.Marks.{IsMinuteOf}
use Rattle.duty_core.specs.LostMinutes.{lost}

-- a mark of the minute `at` names a rest run of p
pub record NamesRun (params : Params) (first : ℕ) (p : List Activity) (at : ℕ) : Type 0 where
  pub from : ℕ
  pub to : ℕ
  pub minute : IsMinuteOf params first at from
  pub run : IsRun p from to

-- a day loses more minutes than a day may that is in no deferral
pub record IsLostDay (day : ℕ → ℕ) (p : List Activity) (date : ℤ) : Type 0 where
  pub number : ℕ
  pub numbered : IsNumberOfDay date number
  pub least : CA_LOST_LIMIT < lost day p number

-- the mark stands for something in p: a rest run, or a day that loses too many minutes
abbrev pub StandsIn : Params → ℕ → List Activity → Mark → Type 0
StandsIn params first p (SplitRest at) = NamesRun params first p at
StandsIn params first p (DeferDay date) = IsLostDay (day_number params first) p date
