use Rattle.std.proofs.Common.{◌≡◌, ◌<◌, true, false, sym, ◌∙◌, subst, arith}
use Rattle.label_state.specs.Layers.{last_layer}
use Rattle.label_dominance.specs.Offers.{AreAheadBelow}
use Rattle.label_dominance.proofs.OfferLaws.{below_kept}
use Rattle.label_dominance.proofs.dominance.offer_to.Goals as goal
use Rattle.label_dominance.proofs.dominance.offer_to.Goals.{then-ahead, else-ahead}

pub returns-clause-ahead : goal.returns-clause-ahead
returns-clause-ahead g c =
    let ahead = (g.B.RuleBook.machine c.args.book.now).ahead in
    let k = c.args.kept in
    let own : ahead k.label.state ≡ true → k.label.progress < c.max.result = (λ y. elim c.if-ahead.branch [
      | then-ahead w ↦ omega arith
      | else-ahead w ↦ absurd (let z : true ≡ false = sym y ∙ (sym c.ahead.ensures ∙ w.if-ahead.false) in cc)
    ]) in
    subst (λ ls. AreAheadBelow ahead c.max.result (last_layer ls)) (sym c.in_ok-keep.ensures.ok)
    (below_kept ahead c.args.ahead_end.now c.max.result c.args.layers.now k c.requires.some c.requires.ahead (omega arith) own)
