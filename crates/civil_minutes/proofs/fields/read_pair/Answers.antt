use Rattle.std.proofs.Common.{◌+◌, ◌*◌, arith}
use Rattle.std.specs.Int.{IsInRange}
use Rattle.std.proofs.lemmas.Result.{err_from_is_err_and}
use Rattle.civil_minutes.proofs.StopPlaces.{lacks_units, lacks_units_no_digit, lacks_units_out_of_range}
use Rattle.civil_minutes.proofs.fields.read_pair.Goals as goal
use Rattle.civil_minutes.proofs.fields.read_pair.Goals.{then-value-high-via-then-value-high, then-value-high-via-else-value-high+then-value-low}

pub returns-in_err-value-clause-bad : goal.returns-in_err-value-clause-bad
returns-in_err-value-clause-bad c =
    let read = c.in_ok-tens.ensures.value in
    let lacks = c.in_err-value.ensures.bad in
    let p = err_from_is_err_and c.from_residual-in_err-value.result c.from_residual-in_err-value.ensures.1 in
    rw (p.1, p.2, lacks.0) (lacks_units c.args.text.now c.args.place c.args.low c.args.high c.in_ok-tens.field-0 c.requires.order read.0 (omega arith) (omega arith) read.1 (lacks_units_no_digit c.args.text.now c.args.place c.args.low c.args.high lacks.1))

pub returns-then-value-high-clause-bad : goal.returns-then-value-high-clause-bad
returns-then-value-high-clause-bad c =
    let first = c.in_ok-tens.ensures.value in
    let second = c.in_ok-value.ensures.value in
    let out : ¬ (IsInRange c.args.low c.args.high (10 * c.in_ok-tens.field-0 + c.in_ok-value.field-0)) =
    λ range. elim c.then-value-high.branch [
      | then-value-high-via-then-value-high w ↦ omega (arith, range)
      | then-value-high-via-else-value-high+then-value-low w ↦ omega (arith, range)
    ] in
    lacks_units c.args.text.now c.args.place c.args.low c.args.high c.in_ok-tens.field-0 c.requires.order first.0 (omega arith) (omega arith) first.1
    (lacks_units_out_of_range c.args.text.now c.args.place c.args.low c.args.high c.in_ok-tens.field-0 c.in_ok-value.field-0 c.requires.two_digits first.0 second.0 first.1 second.1 out)
