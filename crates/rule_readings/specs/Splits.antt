-- What is asked of one mark, where rest is split.
use Rattle.std.specs.Prelude.{ℕ, List}
use Rattle.duty_core.specs.declared.activity.Activity.{Activity}
use Rattle.duty_core.specs.declared.mark.Mark.{Mark}
use Rattle.duty_core.specs.declared.mark.Mark.TheVariants.{SplitRest, DeferDay}
use Rattle.duty_core.specs.declared.params.Params.{Params}
use Rattle.duty_core.specs.UsRules.{IsUsSplit}
use Rattle.duty_core.specs.CaShift.{IsCaSplit}

-- the mark, if it splits a rest, names a run that may be split and is all in the berth, under the way `split`
abbrev pub MeetsSplitMark : Params → ℕ → List Activity → Mark → Type 0
MeetsSplitMark params first p (SplitRest at) = IsCaSplit params first p at
MeetsSplitMark params first p (DeferDay date) = Unit {0}

-- the mark names what it may in the United States: a run that may be split
abbrev pub IsUsMark : Params → ℕ → List Activity → Mark → Type 0
IsUsMark params first p (SplitRest at) = IsUsSplit params first p at
IsUsMark params first p (DeferDay day) = ⊥
