use Rattle.std.proofs.Common.{◌<◌, length, sym, subst}
use Rattle.label_state.specs.declared.layers.TheConstants.{LAYER_LIMIT}
use Rattle.label_state.specs.Plain.{plain, AreHeld}
use Rattle.label_state.proofs.LayersLaws.{pushed_held}
use Rattle.label_state.proofs.layers.Layers.push_layer.Goals as goal

pub invariant_of-self-2 : goal.invariant_of-self-2
invariant_of-self-2 g c =
    subst (λ vs. AreHeld (plain vs) c.self.inside.kept c.self.inside.by_progress) (sym c.in_ok-push.ensures.items)
    (pushed_held c.self.inside.layers.items c.new.result c.self.inside.kept c.self.inside.by_progress c.new.ensures.items (subst (λ ls. length ls < LAYER_LIMIT) (sym c.self.view_is) c.requires) c.self.invariant)
