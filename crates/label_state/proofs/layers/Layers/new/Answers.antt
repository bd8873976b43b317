use Rattle.std.proofs.Common.{[], refl, sym, subst, arith}
use Rattle.label_state.specs.Plain.{plain, AreHeld}
use Rattle.label_state.proofs.BucketSteps.{held_none}
use Rattle.label_state.proofs.layers.Layers.new.Goals as goal

pub invariant_of-result : goal.invariant_of-result
invariant_of-result g c =
    subst (λ vs. AreHeld (plain vs) 0 c.new-2.result) (sym c.new.ensures.items)
    (subst (λ bs. AreHeld [] 0 bs) (sym c.new-2.ensures) (record { counted = record { counted = refl; few_labels = omega arith; few_layers = omega arith }; placed = held_none }))
