use Rattle.std.proofs.Common.{◌≡◌, ◌↔◌, Bool, true, false, IsTrue, List, [], ◌∷◌, sym, ◌∙◌, refl, subst, arith, inl}
use Rattle.std.proofs.lemmas.Bool.{true≢false}
use Rattle.rule_core.specs.declared.nexts.Next.{Next}
use Rattle.rule_core.specs.declared.roots.Root.{Root}
use Rattle.rule_core.specs.Reach.{IsOneOf}
use Rattle.rule_core.specs.Laws.OneOf.{one_of_item}
use Rattle.rule_core.proofs.PrunedLaws.{none_more, none_of_all}
use Rattle.rule_core.proofs.over_log.goes_on.Goals as goal

pub advance-requires-clause-state : goal.advance-requires-clause-state
advance-requires-clause-state g c = c.requires.states c.root-item.result (one_of_item c.args.roots.now c.loop-root.root-index c.root-item.result c.loop-root-test.true c.root-item.is)

-- a list that is told to be not empty has a first element
first_of : {X : Type 0} (xs all : List X) (b : Bool) → xs ≡ all → IsTrue b ↔ (xs ≡ []) → b ≡ false → (x : X) × IsOneOf all x
first_of [] all b is told e = absurd (true≢false (sym (told.1 refl) ∙ e))
first_of (x ∷ xs) all b is told e = (x, subst (λ ys. IsOneOf ys x) is (inl refl))

-- one that is told to be empty has none
none_of : {X : Type 0} (xs all : List X) (b : Bool) → xs ≡ all → IsTrue b ↔ (xs ≡ []) → b ≡ true → (x : X) × IsOneOf all x → ⊥
none_of xs all b is told e o = subst (λ ys. IsOneOf ys o.0) (sym is ∙ told.0 e) o.1

pub returns-then-not-is_empty : goal.returns-then-not-is_empty
returns-then-not-is_empty g c =
    let o = first_of _ ((g.B.RuleBook.machine c.args.book.now).advances c.root-item.result.state c.args.at c.args.act c.args.n) c.is_empty.result c.in_ok-nexts.ensures.nexts c.is_empty.ensures c.if-not-is_empty.true in (
      λ _. (c.root-item.result, one_of_item c.args.roots.now c.loop-root.root-index c.root-item.result c.loop-root-test.true c.root-item.is, o.0, o.1),
      λ _. refl,
    )

pub loop-root-preserved : goal.loop-root-preserved
loop-root-preserved g c =
    none_more (λ (root : Root g.row.B-State.Denot). (next : Next g.row.B-State.Denot) × IsOneOf ((g.B.RuleBook.machine c.args.book.now).advances root.state c.args.at c.args.act c.args.n) next) c.args.roots.now
    c.loop-root.root-index c.root-item.result c.loop-root-test.true c.root-item.is c.loop-root.invariant
    (none_of _ ((g.B.RuleBook.machine c.args.book.now).advances c.root-item.result.state c.args.at c.args.act c.args.n) c.is_empty.result c.in_ok-nexts.ensures.nexts c.is_empty.ensures c.if-not-is_empty.false)

pub returns : goal.returns
returns g c = (
  λ e. absurd (true≢false (sym e)),
  λ o. absurd (none_of_all (λ (root : Root g.row.B-State.Denot). (next : Next g.row.B-State.Denot) × IsOneOf ((g.B.RuleBook.machine c.args.book.now).advances root.state c.args.at c.args.act c.args.n) next)
      c.args.roots.now c.loop-root.root-index (omega arith) c.loop-root.invariant o.0 o.1 (o.2, o.3)),
)
