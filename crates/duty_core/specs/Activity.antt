-- The kinds of activity.
use Rattle.std.specs.Prelude.{Bool, true, false}
use Rattle.duty_core.specs.declared.activity.Activity.{Activity}
use Rattle.duty_core.specs.declared.activity.Activity.TheVariants.{Drive, Serve, Wait, Off, Berth}

-- whether the activity is rest
abbrev pub rests : Activity → Bool
rests Drive = false
rests Serve = false
rests Wait = false
rests Off = true
rests Berth = true

-- whether the activity is duty
abbrev pub works : Activity → Bool
works Drive = true
works Serve = true
works Wait = true
works Off = false
works Berth = false

-- whether the activity is driving
abbrev pub drives : Activity → Bool
drives Drive = true
drives Serve = false
drives Wait = false
drives Off = false
drives Berth = false

-- whether the activity does nothing of the tour
abbrev pub idles : Activity → Bool
idles Drive = false
idles Serve = false
idles Wait = true
idles Off = true
idles Berth = true
