-- What is asked of one mark, of one rest run and of the rest that a padded history p ends with, where rest is deferred.
use Rattle.std.specs.Prelude.{◌≡◌, ℕ, ◌+◌, ◌<◌, ◌≤◌, true, false, List}
use Rattle.duty_core.specs.declared.activity.Activity.{Activity}
use Rattle.duty_core.specs.declared.mark.Mark.{Mark}
use Rattle.duty_core.specs.declared.mark.Mark.TheVariants.{SplitRest, DeferDay}
use Rattle.duty_core.specs.declared.params.Params.{Params}
use Rattle.duty_core.specs.Activity.{rests}
use Rattle.duty_core.specs.History.{unit_at}
use Rattle.duty_core.specs.Day.{IsNumberOfDay}
use Rattle.duty_core.specs.Deferral.{IsCaDeferral}
use Rattle.rule_readings.specs.declared.padded.RestRun.{RestRun}

-- From place `from` on all is rest, and before it stands duty, or nothing.
pub record IsOpenRest (p : List Activity) (from : ℕ) : Type 0 where
  pub rest : (k : ℕ) → from ≤ k → rests (unit_at p k) ≡ true
  pub starts : (k : ℕ) → k + 1 ≡ from → rests (unit_at p k) ≡ false

-- The run has at least so many units, and one from place `begin` up to place `end`.
pub record HasRunIn (least begin end : ℕ) (run : RestRun) : Type 0 where
  pub long : run.from + least ≤ run.to
  pub early : run.from < end
  pub late : begin < run.to

-- the mark defers the day with this number
abbrev pub DefersDay : ℕ → Mark → Type 0
DefersDay number (SplitRest at) = ⊥
DefersDay number (DeferDay day) = IsNumberOfDay day number

-- the mark, if it defers a day, stands for a deferral
abbrev pub MeetsMark : Params → (ℕ → ℕ) → List Activity → List Mark → Mark → Type 0
MeetsMark params day p marks (SplitRest at) = Unit {0}
MeetsMark params day p marks (DeferDay date) = IsCaDeferral params day p marks date
