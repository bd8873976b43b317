-- Many equal units: only the first of them may choose a mark, so that a state has one successor by each later one at most.
use Rattle.std.proofs.Common.{◌≡◌, true, false, ◌⊎◌}
use Rattle.duty_core.specs.declared.activity.Activity.{Activity}
use Rattle.duty_core.specs.Activity.{rests}
use Rattle.sleeper_split.specs.Machine.{run_of}
use Rattle.us_rules.specs.declared.state.UsState.{UsState}

-- The state goes on by this activity without a choice: in rest, or in duty with no run of rest in progress.
abbrev pub IsSteady : UsState → Activity → Type 0
IsSteady s x = (rests x ≡ true) ⊎ ((rests x ≡ false) × (run_of s.split ≡ 0))
