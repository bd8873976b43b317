use Rattle.std.proofs.Common.{◌≡◌, ◌<◌, length, None, Some, ◌∙◌, ap, sym, subst}
use Rattle.std.specs.Prelude.{sum_by}
use Rattle.rule_core.specs.declared.numbers.TheConstants.{NUMBER_LIMIT}
use Rattle.tour_model.specs.Schedule.{duration}
use Rattle.label_state.specs.Layers.{label_layers, label_count}
use Rattle.cert_text.specs.declared.cert.CertKind.TheVariants.{Shortest}
use Rattle.cert_text.specs.Cert.{acts_of_runs, AreLayersOf}
use Rattle.std.specs.Option.{option_copied}
use Rattle.cert_text.specs.Text.Form.{IsCertForm}
use Rattle.refutation.specs.Refutes.{IsSolved}
use Rattle.refutation.specs.Runs.{AreMaximal}
use Rattle.refutation.proofs.FormLaws.{same_count, same_kept, kept_form, ok_both, ok_more}
use Rattle.refutation.proofs.certificate.refute.Goals as goal

pub returns-in-None-clause-labels : goal.returns-in-None-clause-labels
returns-in-None-clause-labels g c =
    ap (λ ls. sum_by length ls) c.infeasible.ensures.layers ∙ same_count (g.B.RuleBook.machine c.args.book.now).state_of c.args.tour.now 0 c.in_ok-layers.layers (label_layers c.args.layers.now) c.in_ok-layers.ensures.written ∙ same_kept c.args.layers.now

pub returns-in-None-clause-form : goal.returns-in-None-clause-form
returns-in-None-clause-form g c =
    let made = c.infeasible.ensures in
    kept_form (g.B.RuleBook.machine c.args.book.now) c.args.tour.now None (option_copied c.args.best) c.args.layers.now c.infeasible.result c.requires.tour (g.met.B.RuleBook.laws c.args.book.now).text c.in_ok-layers.ensures.few c.requires.labels
    (record {
      kind = made.kind;
      target = made.target;
      schedule = ap (λ rs. acts_of_runs rs) made.schedule;
      marks = made.marks;
      layers = subst (λ ls. AreLayersOf (g.B.RuleBook.machine c.args.book.now).state_of c.args.tour.now 0 ls (label_layers c.args.layers.now)) (sym made.layers) c.in_ok-layers.ensures.written;
    })
    (subst (λ rs. AreMaximal None rs) (sym made.schedule) tt) (ap (λ o. option_copied o) c.in-None.is)

pub returns-in-Some-clause-labels : goal.returns-in-Some-clause-labels
returns-in-Some-clause-labels g c =
    ok_more (λ cert. cert.layers ≡ c.in_ok-layers.layers) (λ cert. sum_by length cert.layers ≡ label_count c.args.layers.now) c.shortest.result
    (λ cert e. ap (λ ls. sum_by length ls) e ∙ same_count (g.B.RuleBook.machine c.args.book.now).state_of c.args.tour.now 0 c.in_ok-layers.layers (label_layers c.args.layers.now) c.in_ok-layers.ensures.written ∙ same_kept c.args.layers.now) c.shortest.ensures.layers

pub returns-in-Some-clause-form : goal.returns-in-Some-clause-form
returns-in-Some-clause-form g c =
    let state_of = (g.B.RuleBook.machine c.args.book.now).state_of in
    let best = c.in-Some.best.now in
    let made = c.shortest.ensures in
    let pieces = ok_both (λ cert. cert.kind ≡ Shortest) _ c.shortest.result made.kind
    (ok_both (λ cert. cert.target ≡ Some (duration best.steps)) _ c.shortest.result made.target
    (ok_both (λ cert. acts_of_runs cert.schedule ≡ best.steps) _ c.shortest.result made.schedule
    (ok_both (λ cert. AreMaximal None cert.schedule) _ c.shortest.result made.runs
    (ok_both (λ cert. cert.marks ≡ best.marks) (λ cert. cert.layers ≡ c.in_ok-layers.layers) c.shortest.result made.marks made.layers)))) in
    ok_more _ (λ cert. IsSolved c.args.tour.now (option_copied c.args.best) → label_count c.args.layers.now < NUMBER_LIMIT → IsCertForm c.args.tour.now.params cert) c.shortest.result
    (λ cert p. kept_form (g.B.RuleBook.machine c.args.book.now) c.args.tour.now (Some best) (option_copied c.args.best) c.args.layers.now cert c.requires.tour (g.met.B.RuleBook.laws c.args.book.now).text c.in_ok-layers.ensures.few c.requires.labels
    (record {
      kind = p.0;
      target = p.1.0;
      schedule = p.1.1.0;
      marks = p.1.1.1.1.0;
      layers = subst (λ ls. AreLayersOf state_of c.args.tour.now 0 ls (label_layers c.args.layers.now)) (sym p.1.1.1.1.1) c.in_ok-layers.ensures.written;
    })
    p.1.1.1.0 (ap (λ o. option_copied o) c.in-Some.is)) pieces
