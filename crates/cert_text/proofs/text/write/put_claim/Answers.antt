use Rattle.std.proofs.Common.{codes, length}
use Rattle.std.proofs.lemmas.Result.{on_ok_weaker}
use Rattle.cert_text.specs.Text.Spelling.{kind_line, target_line, schedule_lines, number_line}
use Rattle.cert_text.proofs.Puts.{five_pieces}
use Rattle.cert_text.proofs.text.write.put_claim.Goals as goal

pub returns : goal.returns
returns c =
    on_ok_weaker c.put_number_line.result (λ is. five_pieces c.args.out.now.items (codes "duty-cert 1\n") (kind_line c.args.cert.now.kind) (target_line c.args.cert.now.target) (schedule_lines c.args.cert.now.schedule) (number_line (codes "marks ") (length c.args.cert.now.marks))
    c.put.new.out.items c.put_kind.new.out.items c.put_target.new.out.items c.put_schedule.new.out.items c.put_number_line.new.out.items
    c.in_ok-put.ensures c.in_ok-put_kind.ensures c.in_ok-put_target.ensures (rw c.items.ensures at c.in_ok-put_schedule.ensures) (rw c.items-2.ensures at is)) c.put_number_line.ensures
