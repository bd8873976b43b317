use Rattle.std.proofs.Common.{◌∙◌, length, ap}
use Rattle.civil_minutes.specs.Laws.TimeOfLaws.{read_time}
use Rattle.cert_text.specs.Text.Reading.{time_is}
use Rattle.std.specs.Result.{result_ok}
use Rattle.cert_text.proofs.TimeRead.{time_read}
use Rattle.cert_text.proofs.text.marks.time.Goals as goal

pub returns-in-Ok-clause-value : goal.returns-in-Ok-clause-value
returns-in-Ok-clause-value c =
    let e = read_time c.split_at.result.0.now c.read_minute.result c.read_minute.ensures.time c.read_minute.ensures.bad in
    time_read c.args.bytes.now c.split_at.result.0.now c.split_at.result.1.now c.read_minute.result c.if-bytes-lt16.false c.split_at.ensures.front c.split_at.ensures.back e
    ∙ ap (λ r. time_is (length c.args.bytes.now) c.split_at.result.1.now (result_ok r)) c.in-Ok.is

pub returns-in-Err-clause-value : goal.returns-in-Err-clause-value
returns-in-Err-clause-value c =
    let e = read_time c.split_at.result.0.now c.read_minute.result c.read_minute.ensures.time c.read_minute.ensures.bad in
    time_read c.args.bytes.now c.split_at.result.0.now c.split_at.result.1.now c.read_minute.result c.if-bytes-lt16.false c.split_at.ensures.front c.split_at.ensures.back e
    ∙ ap (λ r. time_is (length c.args.bytes.now) c.split_at.result.1.now (result_ok r)) c.in-Err.is
