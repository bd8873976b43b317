-- What a state is: of the root, and of each successor.
use Rattle.std.proofs.Common.{◌≡◌, ℕ, ◌<◌, ◌≤◌}
use Rattle.duty_core.specs.declared.params.RestWay.{RestWay}
use Rattle.day_sums.specs.Sums.{today}
use Rattle.cycles_deferral.specs.DayMachine.{IsCanadaDays}
use Rattle.cycles_deferral.specs.CycleMachine.{IsCycleCount}
use Rattle.canada_rules.specs.declared.state.Calendar.{Calendar}
use Rattle.canada_rules.specs.Machine.{day_so_far, IsDayDuty, IsSeen}

-- what is kept of a calendar
pub record IsCalendar (way : RestWay) (start : ℕ) (c : Calendar) (at : ℕ) : Type 0 where
  pub day : IsDayDuty start c.day at
  pub days : IsCanadaDays c.days
  pub rest_way : c.days.way ≡ way
  pub seen : 0 < c.days.yesterday.short → IsSeen start c.days at
  pub cycle : IsCycleCount c.cycle
  pub fits : today c.cycle.sums ≤ day_so_far start at
