-- The kinds of units that are counted.
use Rattle.std.specs.Prelude.{Bool, true, false}
use Rattle.duty_core.specs.declared.activity.Activity.{Activity}
use Rattle.duty_core.specs.declared.activity.Activity.TheVariants.{Drive, Serve, Wait, Off, Berth}
use Rattle.duty_core.specs.Activity.{drives, works, rests}
use Rattle.timeline.specs.declared.kind.CountOf.{CountOf}
use Rattle.timeline.specs.declared.kind.CountOf.TheVariants.{Driving, Duty, Rest, Sleeper}

-- whether the activity is rest in the sleeper berth
abbrev pub sleeps : Activity → Bool
sleeps Drive = false
sleeps Serve = false
sleeps Wait = false
sleeps Off = false
sleeps Berth = true

-- which activities are of the kind
abbrev pub test_of : CountOf → Activity → Bool
test_of Driving = drives
test_of Duty = works
test_of Rest = rests
test_of Sleeper = sleeps
