use Rattle.std.proofs.Common.{◌≡◌, ◌+◌, ◌*◌, ◌<◌, ◌≤◌, ℕ, List, length, ap, arith}
use Rattle.duty_core.specs.declared.activity.Activity.{Activity}
use Rattle.duty_core.specs.declared.limits.TheConstants.{LONGEST_HISTORY, MINUTE_LIMIT}
use Rattle.duty_core.specs.declared.params.Params.{Params}
use Rattle.duty_core.specs.History.{IsTimed}
use Rattle.duty_core.specs.Params.{unit_minutes}
use Rattle.rule_books.proofs.histories.replayed.Goals as goal

-- where a unit is a minute, any minute begins one
timed_in_minutes : (params : Params) (first : ℕ) (h : List Activity) → unit_minutes params ≡ 1
    → length h ≤ LONGEST_HISTORY → first + length h < MINUTE_LIMIT → IsTimed params first h
timed_in_minutes params first h unit long ends =
    let begins : unit_minutes params * first ≡ 1 * first = ap (λ u. u * first) unit in
    let lasts : unit_minutes params * length h ≡ 1 * length h = ap (λ u. u * length h) unit in
    record { begins = record { units = first; whole = omega arith }; long = long; ends = omega arith }

pub replay-requires : goal.replay-requires
replay-requires g c = record { timed = timed_in_minutes _ _ _ c.requires.unit (omega arith) (omega arith) }
