use Rattle.std.proofs.Common.{◌≡◌, sym, arith, length}
use Rattle.csv.specs.Records.{fields_of}
use Rattle.duty_log.proofs.FieldFacts.{has_field, all_fields}
use Rattle.duty_log.proofs.fields.three_fields.Goals as goal

pub returns-in_err-get : goal.returns-in_err-get
returns-in_err-get c =
    let three : length (fields_of c.args.record.now) ≡ 3 = omega arith in
    absurd (has_field _ 0 three (omega arith) (sym c.in_err-get.ensures.value))

pub returns-in_err-get-2 : goal.returns-in_err-get-2
returns-in_err-get-2 c =
    let three : length (fields_of c.args.record.now) ≡ 3 = omega arith in
    absurd (has_field _ 1 three (omega arith) (sym c.in_err-get-2.ensures.value))

pub returns-in_err-get-3 : goal.returns-in_err-get-3
returns-in_err-get-3 c =
    let three : length (fields_of c.args.record.now) ≡ 3 = omega arith in
    absurd (has_field _ 2 three (omega arith) (sym c.in_err-get-3.ensures.value))

pub returns : goal.returns
returns c =
    let three : length (fields_of c.args.record.now) ≡ 3 = omega arith in
    all_fields _ _ _ _ three c.in_ok-get.ensures.value c.in_ok-get-2.ensures.value c.in_ok-get-3.ensures.value
