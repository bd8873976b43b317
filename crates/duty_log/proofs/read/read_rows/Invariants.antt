use Rattle.duty_log.specs.Records.{records_left}
use Rattle.duty_log.proofs.LoopFacts.{IsUnderWay}
use Rattle.duty_log.proofs.read.read_rows.Given as goal

abbrev pub invariant-loop-record : goal.invariant-loop-record
invariant-loop-record l = IsUnderWay l.params l.start l.record-iterator.rdr l.record-iterator.left (record { rows = l.rows; span = l.before; units = l.timeline }) (records_left l.fn.reader)
