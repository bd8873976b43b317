use Rattle.std.proofs.Common.{sym, subst}
use Rattle.cert_text.specs.Text.Laws.CertTextLaws.{cert_takes}
use Rattle.cert_text.specs.Text.BadLine.{IsBadLine}
use Rattle.cert_text.proofs.FirstBad.{bad_line}
use Rattle.cert_text.proofs.ReadOnce.{start_low, one_cert, not_left}
use Rattle.cert_text.proofs.text.read.read_cert.Goals as goal

pub returns-in-Ok-clause-found : goal.returns-in-Ok-clause-found
returns-in-Ok-clause-found c = cert_takes c.args.tour.now.params c.args.bytes.now c.in-Ok.cert (start_low c.args.tour.now.params c.requires.params) c.in-Ok.ensures

pub returns-in-Ok-clause-only : goal.returns-in-Ok-clause-only
returns-in-Ok-clause-only c = λ cert form text. one_cert c.args.tour.now.params c.args.bytes.now c.in-Ok.cert cert (start_low c.args.tour.now.params c.requires.params) c.in-Ok.ensures form text

pub returns-in-Err-Left-clause-only : goal.returns-in-Err-Left-clause-only
returns-in-Err-Left-clause-only c = λ cert form text. absurd (not_left c.args.tour.now.params c.args.bytes.now c.in-Err-Left.left cert (start_low c.args.tour.now.params c.requires.params) (rw c.in-Err-Left.field-0-is at c.in-Err-Left.ensures) form text)

pub returns-in-Err-Left-clause-bad : goal.returns-in-Err-Left-clause-bad
returns-in-Err-Left-clause-bad c =
    subst (λ n. IsBadLine c.args.tour.now.params c.args.bytes.now n) (sym c.line_of.ensures) (bad_line c.args.tour.now.params c.args.bytes.now c.in-Err-Left.left (start_low c.args.tour.now.params c.requires.params) (rw c.in-Err-Left.field-0-is at c.in-Err-Left.ensures))
