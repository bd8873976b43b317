use Rattle.std.proofs.Common.{◌≡◌, true, false, length, arith}
use Rattle.rule_readings.proofs.DayNumbers.{lost_late, day_small}
use Rattle.rule_readings.proofs.deferral.is_deferral.Goals as goal

-- no place has so late a day, so nothing is lost there
pub returns-then-number-ge-DAY_LIMIT : goal.returns-then-number-ge-DAY_LIMIT
returns-then-number-ge-DAY_LIMIT c =
    let v = c.len-places.ensures.value in
    let b = c.len-places.ensures.bound in
    let s = day_small c.args.history.now.scope.params c.args.history.now.scope.first (length c.args.history.now.padded.now) c.requires.minutes (omega arith) in
    let h = lost_late c.args.history.now.scope.params c.args.history.now.scope.first c.args.history.now.padded.now c.args.number (omega arith) in (
      λ t. absurd (let z : false ≡ true = t in cc),
      λ d. absurd (let l = d.least in omega arith),
    )
