use Rattle.std.specs.Option.{option_copied}
use Rattle.std.proofs.Common.{arith}
use Rattle.label_state.specs.Layers.{label_layers}
use Rattle.cert_text.specs.Text.Form.{IsCertForm}
use Rattle.tour_plan.proofs.Proven.{proven_few, proven_solves}
use Rattle.tour_plan.proofs.certificate.bytes_of.Given.{Over}
use Rattle.tour_plan.proofs.certificate.bytes_of.Goals as goal
use Rattle.tour_plan.proofs.certificate.bytes_of.Goals.{In_ok-cert}

pub refute-requires-clause-few : goal.refute-requires-clause-few
refute-requires-clause-few g c =
    let tour = c.args.tour.now in
    let log = c.args.log.now in
    let book = c.args.book.now in
    proven_few tour c.requires.tour log (g.B.RuleBook.machine book) (option_copied c.args.best) (label_layers c.args.layers.now) c.requires.proven

-- the certificate has a text
form_of : (g : Over) (c : In_ok-cert g) → IsCertForm c.args.tour.now.params c.in_ok-cert.cert
form_of g c =
    let tour = c.args.tour.now in
    let log = c.args.log.now in
    let book = c.args.book.now in
    let few = c.requires.few in
    c.in_ok-cert.ensures.form
    (proven_solves tour log (g.B.RuleBook.machine book) (option_copied c.args.best) (label_layers c.args.layers.now) c.requires.short c.requires.proven)
    (omega arith)

pub write_cert-requires-clause-form : goal.write_cert-requires-clause-form
write_cert-requires-clause-form g c = form_of g (goal.at.write_cert-requires-clause-form g c).In_ok-cert

-- its text is not too long, since it has as few labels as the layers
pub returns : goal.returns
returns g c =
    let form = form_of g (goal.at.returns g c).In_ok-cert in
    let tells = c.in_ok-cert.ensures.tells in
    let labels = c.in_ok-cert.ensures.labels in
    let few = c.requires.few in
    let text = c.in_ok-bytes.ensures in (
      c.in_ok-cert.cert,
      record {
        is = (text, form, c.in_ok-cert.ensures.valid c.args.log.now c.requires.proven);
        kind = tells.kind;
        short = c.cert_texts_fit.ensures c.args.tour.now.params c.in_ok-cert.cert c.in_ok-bytes.bytes.items form text (omega (arith, labels));
      },
      tells.schedule,
      tells.marks,
    )
