-- The successors of a state, by the counts of split rests that are left.
use Rattle.std.proofs.Common.{ℕ, Bool}
use Rattle.std.specs.Prelude.{Option, None, Some}
use Rattle.duty_core.specs.declared.activity.Activity.{Activity}
use Rattle.duty_core.specs.declared.mark.Mark.{Mark}
use Rattle.rule_core.specs.declared.nexts.Next.{Next}
use Rattle.rule_core.specs.declared.nexts.Nexts.{Nexts}
use Rattle.rule_core.specs.Reach.{listed}
use Rattle.sleeper_split.specs.declared.count.SplitCount.{SplitCount}
use Rattle.us_rules.specs.declared.state.BreakCount.{BreakCount}
use Rattle.us_rules.specs.declared.state.WeekCount.{WeekCount}
use Rattle.us_rules.specs.declared.state.UsState.{UsState}
use Rattle.us_rules.specs.Machine.{us_made, first_of, goes_on}

-- # Successors

abbrev pub next_with : Option SplitCount → BreakCount → WeekCount → Option Mark → Option (Next UsState)
next_with None rest_break week mark = None
next_with (Some s) rest_break week mark = Some (record { state = us_made s rest_break week; mark = mark })

-- # Many units

-- the first of three that is there
abbrev pub first_next : Nexts UsState → Option UsState
first_next n = first_of (listed n)

-- the state with the mark
abbrev pub with_mark : Option Mark → Option UsState → Option (Next UsState)
with_mark mark None = None
with_mark mark (Some s) = Some (record { state = s; mark = mark })

-- where more units lead a successor
abbrev pub onward : Bool → ℕ → ℕ → Option (Next UsState) → ℕ → Activity → ℕ → Option (Next UsState)
onward berth days day_start None at x n = None
onward berth days day_start (Some t) at x n = with_mark t.mark (goes_on berth days day_start (Some t.state) at x n)
