use Rattle.std.proofs.Common.{◌∙◌}
use Rattle.duty_log.proofs.LoopFacts.{fresh}
use Rattle.duty_log.proofs.read.reader_of.Goals as goal

pub returns : goal.returns
returns c =
    let made = c.from_reader.ensures in
    fresh c.from_reader.result c.args.bytes.now
    (rw (c.flexible.ensures, c.has_headers.ensures) at made.config ∙ c.new.ensures.config)
    (rw c.flexible.ensures at made.flexible)
    (rw (c.flexible.ensures, c.has_headers.ensures) at made.trim ∙ c.new.ensures.trim)
    (rw (c.flexible.ensures, c.has_headers.ensures) at made.has_headers)
    made.headers made.state made.source
