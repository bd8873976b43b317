use Rattle.std.proofs.Common.{Ok, Err}
use Rattle.duty_log.specs.Laws.LogLaws.{only_answer}
use Rattle.duty_log.proofs.LoopFacts.{as_records, err_follows, ok_follows}
use Rattle.duty_log.proofs.read.read_log.Goals as goal

pub returns-clause-log : goal.returns-clause-log
returns-clause-log c =
    ok_follows c.read_records.result _ _ (λ units told. as_records c.args.bytes.now c.args.params c.args.start c.reader_of.result (Ok units) c.if-bytes-gt-LOG_LIMIT.false c.reader_of.ensures told) c.read_records.ensures.log

pub returns-clause-fault : goal.returns-clause-fault
returns-clause-fault c =
    err_follows c.read_records.result _ _ (λ fault told not_memory. as_records c.args.bytes.now c.args.params c.args.start c.reader_of.result (Err fault) c.if-bytes-gt-LOG_LIMIT.false c.reader_of.ensures (told not_memory)) c.read_records.ensures.fault

pub returns-clause-only : goal.returns-clause-only
returns-clause-only c = only_answer c.args.bytes.now c.args.params c.args.start c.read_records.result (returns-clause-log c) (returns-clause-fault c)
