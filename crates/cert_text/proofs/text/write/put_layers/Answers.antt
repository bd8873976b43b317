use Rattle.std.proofs.Common.{◌≡◌, ◌+◌, ◌++◌, ◌∷◌, [], length, ap, sym, ◌∙◌, append_assoc, take, arith}
use Rattle.std.proofs.lemmas.List.{take_more, length-take}
use Rattle.cert_text.specs.Text.Spelling.{layer_lines, layers_lines}
use Rattle.cert_text.proofs.Puts.{layers_lines_more}
use Rattle.cert_text.proofs.text.write.put_layers.Goals as goal

pub loop-step-preserved : goal.loop-step-preserved
loop-step-preserved c =
    let i = c.loop-step.step in
    let layers = c.args.layers.now in
    let x = c.index-layers-step.result in
    let one = take_more layers i x c.loop-step-test.true ∙ ap (λ y. take i layers ++ y ∷ []) (sym c.index-layers-step.is) in
    let few : 0 + length (take i layers) ≡ i = omega (arith, length-take i layers, c.loop-step-test.true) in
    let more = layers_lines_more 0 (take i layers) x ∙ ap (λ k. layers_lines 0 (take i layers) ++ layer_lines k x) few in
    rw (one, more) (c.in_ok-put_layer.ensures ∙ ap (λ t. t ++ layer_lines i x) c.loop-step.invariant ∙ append_assoc c.args.out.now.items (layers_lines 0 (take i layers)) (layer_lines i x))
