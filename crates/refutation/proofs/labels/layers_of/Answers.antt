use Rattle.std.proofs.Common.{◌+◌, ◌<◌, length, ap, ◌∙◌, subst, sym, arith}
use Rattle.std.proofs.lemmas.List.{length_push}
use Rattle.rule_core.specs.Reach.{IsOneOf}
use Rattle.label_state.specs.Layers.{labels_of}
use Rattle.cert_text.specs.Cert.{AreLabelsOf}
use Rattle.refutation.proofs.LayersLaws.{layers_more}
use Rattle.refutation.proofs.labels.layers_of.Goals as goal

pub layer_of-requires : goal.layer_of-requires
layer_of-requires g c l o =
    subst (λ at. (g.B.RuleBook.machine c.args.book.now).is_state l.state at) (sym c.minute_at.ensures)
    (c.requires.states c.loop-step.step l (subst (λ layer. IsOneOf (labels_of layer) l) c.layer.ensures o))

pub loop-step-preserved : goal.loop-step-preserved
loop-step-preserved g c =
    let lt : c.loop-step.step < length c.args.layers.now = omega arith in
    record {
      written = layers_more (g.B.RuleBook.machine c.args.book.now).state_of c.args.tour.now c.args.layers.now c.loop-step.step c.layer.result.now c.loop-step.list c.push.new.self c.in_ok-layer.layer
          lt c.layer.ensures c.loop-step.invariant.written c.loop-step.invariant.long
          (subst (λ at. AreLabelsOf (g.B.RuleBook.machine c.args.book.now).state_of at c.in_ok-layer.layer (labels_of c.layer.result.now)) c.minute_at.ensures c.in_ok-layer.ensures) c.in_ok-push.ensures.ok;
      long = ap length c.in_ok-push.ensures.ok ∙ (length_push c.loop-step.list c.in_ok-layer.layer ∙ ap (λ n. n + 1) c.loop-step.invariant.long);
    }
