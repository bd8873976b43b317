use Rattle.std.proofs.Common.{◌≡◌, inl, true, Ok, Err}
use Rattle.csv.specs.Records.{fields_of}
use Rattle.duty_log.proofs.RecordFacts.{mapped_ok, read_ends, read_moves}
use Rattle.duty_log.proofs.LoopFacts.{err_follows, headed, headless, misnamed, ok_follows}
use Rattle.duty_log.proofs.read.read_records.Goals as goal
use Rattle.duty_log.proofs.read.read_records.Goals.{then-not-found-via-then-not-found, then-not-found-via-else-not-found+then-not-is_header}

pub returns-then-not-found-clause-fault : goal.returns-then-not-found-clause-fault
returns-then-not-found-clause-fault c not_memory =
    let is = mapped_ok c.read_byte_record.result c.in_ok-found.found c.in_ok-found.ensures.cases in
    let read = rw is at c.read_byte_record.ensures.reads in
    elim c.then-not-found.branch [
      | then-not-found-via-then-not-found w ↦
          headless c.args.params c.args.start c.args.reader
          (read_ends c.args.reader c.read_byte_record.new.self (fields_of c.read_byte_record.new.row) c.requires (rw w.if-not-found.true at (read c.requires.untrimmed c.requires.ready)))
      | then-not-found-via-else-not-found+then-not-is_header w ↦
          let moves = read_moves c.args.reader c.read_byte_record.new.self (fields_of c.read_byte_record.new.row) c.requires (inl (rw is at (c.read_byte_record.ensures.ready c.requires.untrimmed))) (rw is at c.read_byte_record.ensures.flexible) (rw w.if-not-found.false at (read c.requires.untrimmed c.requires.ready)) in
          misnamed c.args.params c.args.start c.args.reader c.read_byte_record.new.self (fields_of c.read_byte_record.new.row) moves
          (λ e. let named : w.is_header.result ≡ true = w.is_header.ensures.1 e in cc (w.if-not-is_header.true))
    ]

pub read_rows-requires : goal.read_rows-requires
read_rows-requires c =
    let is = mapped_ok c.read_byte_record.result c.in_ok-found.found c.in_ok-found.ensures.cases in
    let read = rw is at c.read_byte_record.ensures.reads in
    let moves = read_moves c.args.reader c.read_byte_record.new.self (fields_of c.read_byte_record.new.row) c.requires (inl (rw is at (c.read_byte_record.ensures.ready c.requires.untrimmed))) (rw is at c.read_byte_record.ensures.flexible) (rw c.if-not-found.false at (read c.requires.untrimmed c.requires.ready)) in
    moves.between

pub returns-clause-log : goal.returns-clause-log
returns-clause-log c =
    let is = mapped_ok c.read_byte_record.result c.in_ok-found.found c.in_ok-found.ensures.cases in
    let read = rw is at c.read_byte_record.ensures.reads in
    let moves = read_moves c.args.reader c.read_byte_record.new.self (fields_of c.read_byte_record.new.row) c.requires (inl (rw is at (c.read_byte_record.ensures.ready c.requires.untrimmed))) (rw is at c.read_byte_record.ensures.flexible) (rw c.if-not-found.false at (read c.requires.untrimmed c.requires.ready)) in
    ok_follows c.read_rows.result _ _ (λ units told. headed c.args.params c.args.start c.args.reader c.read_byte_record.new.self (fields_of c.read_byte_record.new.row) (Ok units) moves (c.is_header.ensures.0 c.if-not-is_header.false) told) c.read_rows.ensures.log

pub returns-clause-fault : goal.returns-clause-fault
returns-clause-fault c =
    let is = mapped_ok c.read_byte_record.result c.in_ok-found.found c.in_ok-found.ensures.cases in
    let read = rw is at c.read_byte_record.ensures.reads in
    let moves = read_moves c.args.reader c.read_byte_record.new.self (fields_of c.read_byte_record.new.row) c.requires (inl (rw is at (c.read_byte_record.ensures.ready c.requires.untrimmed))) (rw is at c.read_byte_record.ensures.flexible) (rw c.if-not-found.false at (read c.requires.untrimmed c.requires.ready)) in
    err_follows c.read_rows.result _ _ (λ fault told not_memory. headed c.args.params c.args.start c.args.reader c.read_byte_record.new.self (fields_of c.read_byte_record.new.row) (Err fault) moves (c.is_header.ensures.0 c.if-not-is_header.false) (told not_memory)) c.read_rows.ensures.fault
