use Rattle.std.proofs.Common.{◌≡◌, true, sym, ◌∙◌, refl, arith}
use Rattle.std.proofs.lemmas.Bool.{true≢false}
use Rattle.rule_core.specs.declared.roots.Root.{Root}
use Rattle.rule_core.specs.Laws.OneOf.{one_of_item}
use Rattle.rule_core.proofs.PrunedLaws.{none_more, none_of_all}
use Rattle.rule_core.proofs.pruned.is_covered.Goals as goal

pub covers-requires-clause-a : goal.covers-requires-clause-a
covers-requires-clause-a g c = c.requires.roots c.root-item.result (one_of_item c.args.roots.now c.loop-root.root-index c.root-item.result c.loop-root-test.true c.root-item.is)

pub returns-then-covers : goal.returns-then-covers
returns-then-covers g c = (
  λ _. (c.root-item.result, one_of_item c.args.roots.now c.loop-root.root-index c.root-item.result c.loop-root-test.true c.root-item.is, sym c.covers.ensures ∙ c.if-covers.true),
  λ _. refl,
)

pub loop-root-preserved : goal.loop-root-preserved
loop-root-preserved g c =
    none_more (λ (root : Root g.row.B-State.Denot). (g.B.RuleBook.machine c.args.book.now).covers root.state c.args.state.now c.args.at ≡ true) c.args.roots.now c.loop-root.root-index c.root-item.result
    c.loop-root-test.true c.root-item.is c.loop-root.invariant (λ e. true≢false (sym (c.covers.ensures ∙ e) ∙ c.if-covers.false))

pub returns : goal.returns
returns g c = (
  λ e. absurd (true≢false (sym e)),
  λ o. absurd (none_of_all (λ (root : Root g.row.B-State.Denot). (g.B.RuleBook.machine c.args.book.now).covers root.state c.args.state.now c.args.at ≡ true) c.args.roots.now c.loop-root.root-index
      (omega arith) c.loop-root.invariant o.0 o.1 o.2),
)
