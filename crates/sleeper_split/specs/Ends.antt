-- How the run in progress may end at a unit, as the counts after that unit.
use Rattle.std.specs.Prelude.{Bool, true, cond, Option, None, Some, nat_eq}
use Rattle.duty_core.specs.declared.activity.Activity.{Activity}
use Rattle.duty_core.specs.Activity.{rests, drives}
use Rattle.sleeper_split.specs.declared.rule.SplitRule.{SplitRule}
use Rattle.sleeper_split.specs.declared.count.SplitCount.{SplitCount}
use Rattle.sleeper_split.specs.declared.ends.Ends.{Ends}
use Rattle.sleeper_split.specs.Machine.{after_rest, after_duty, end_undeclared, end_split, end_full, run_of}
use Rattle.sleeper_split.specs.Choices.{sleeps}

abbrev pub ends_made : Option SplitCount → Option SplitCount → Option SplitCount → Ends
ends_made plain split full = record { plain = plain; split = split; full = full }

-- the unit of duty after what a run left, where it keeps the limits
abbrev pub duty_after : (SplitCount → Bool) → Activity → Option SplitCount → Option SplitCount
duty_after ok x None = None
duty_after ok x (Some s) = cond (cond (drives x) (ok (after_duty (drives x) s)) true) (Some (after_duty (drives x) s)) None

-- the ends of the run in progress at a unit; `may` tells whether rests may be split, and `ok` whether a count keeps the limits at a unit of driving
abbrev pub ends_of : SplitRule → Bool → (SplitCount → Bool) → SplitCount → Activity → Ends
ends_of rule may ok s x = cond (rests x) (ends_made (Some (after_rest (sleeps x) s)) None None)
    (cond (nat_eq (run_of s) 0) (ends_made (duty_after ok x (Some s)) None None)
    (ends_made (duty_after ok x (end_undeclared rule s)) (cond may (duty_after ok x (end_split rule s)) None) (duty_after ok x (end_full rule s))))
