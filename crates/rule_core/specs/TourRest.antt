-- The rest that a schedule of the tour may hold.
use Rattle.std.specs.Prelude.{cond}
use Rattle.duty_core.specs.declared.activity.Activity.{Activity}
use Rattle.duty_core.specs.declared.activity.Activity.TheVariants.{Off, Berth}
use Rattle.duty_core.specs.declared.params.Params.{Params}
use Rattle.duty_core.specs.Params.{has_berth}

-- the tour's rest: in the berth where the truck has one
abbrev pub tour_rest : Params → Activity
tour_rest params = cond (has_berth params) Berth Off
