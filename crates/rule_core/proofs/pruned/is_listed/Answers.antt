use Rattle.std.proofs.Common.{◌≡◌, sym, ◌∙◌, subst, refl, arith}
use Rattle.std.proofs.lemmas.Bool.{true≢false}
use Rattle.std.proofs.lemmas.Bool.Decides.{Decides-eqb}
use Rattle.std.proofs.lemmas.Slice.Eq.{slice_eq-Decides}
use Rattle.rule_core.specs.Reach.{IsOneOf}
use Rattle.rule_core.specs.Laws.OneOf.{one_of_item}
use Rattle.rule_core.proofs.PrunedLaws.{none_more, none_of_all}
use Rattle.rule_core.proofs.pruned.is_listed.Goals as goal

pub returns-then-eq : goal.returns-then-eq
returns-then-eq c =
    let same = (slice_eq-Decides Decides-eqb _ _ _ c.eq.ensures).0 c.if-eq.true in
    let is : c.list-item.result ≡ c.args.numbers.now = sym c.items.ensures ∙ same ∙ c.items-in-loop-list.ensures in (
      λ _. subst (IsOneOf c.args.lists.now) is (one_of_item c.args.lists.now c.loop-list.list-index c.list-item.result c.loop-list-test.true c.list-item.is),
      λ _. refl,
    )

pub loop-list-preserved : goal.loop-list-preserved
loop-list-preserved c =
    none_more (λ list. list ≡ c.args.numbers.now) c.args.lists.now c.loop-list.list-index c.list-item.result c.loop-list-test.true c.list-item.is c.loop-list.invariant
    (λ e. true≢false (sym ((slice_eq-Decides Decides-eqb _ _ _ c.eq.ensures).1 (c.items.ensures ∙ e ∙ sym c.items-in-loop-list.ensures)) ∙ c.if-eq.false))

pub returns : goal.returns
returns c = (
  λ e. absurd (true≢false (sym e)),
  λ o. absurd (none_of_all (λ list. list ≡ c.args.numbers.now) c.args.lists.now c.loop-list.list-index (omega arith) c.loop-list.invariant c.args.numbers.now o refl),
)
