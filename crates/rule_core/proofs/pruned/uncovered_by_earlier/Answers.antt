use Rattle.std.proofs.Common.{◌≡◌, ◌++◌, [], ◌∷◌, true, length, sym, subst, ◌∙◌, arith}
use Rattle.std.proofs.lemmas.Bool.{true≢false}
use Rattle.std.proofs.lemmas.List.{map-id}
use Rattle.std.proofs.lemmas.Iterator.Adapters.{YieldsList-from_vec}
use Rattle.std.proofs.lemmas.Iterator.Consumers.{YieldsList-turn, YieldsList-end}
use Rattle.rule_core.specs.declared.roots.Root.{Root}
use Rattle.rule_core.specs.Laws.OneOf.{one_of_item}
use Rattle.rule_core.specs.Reach.{IsOneOf}
use Rattle.rule_core.specs.Replay.{AreRootStates, IsCoveredByRoot}
use Rattle.rule_core.specs.Pruned.{ArePruned, AreApart}
use Rattle.rule_core.proofs.PrunedLaws.{pruned_kept, pruned_left, apart_more, states_more}
use Rattle.rule_core.proofs.pruned.uncovered_by_earlier.Given.{Over}
use Rattle.rule_core.proofs.pruned.uncovered_by_earlier.Goals as goal
use Rattle.rule_core.proofs.pruned.uncovered_by_earlier.Goals.{In-Some}

-- this iteration's root has a state of the minute
state_here : (g : Over) (c : In-Some g) → (g.B.RuleBook.machine c.args.book.now).is_state c.in-Some.root.state c.args.at
state_here g c =
    let xs = c.into_vec-roots.result.items in
    let i = c.into_iter-root-iterator.ensures.into_iter_gives in
    let t = YieldsList-turn (YieldsList-from_vec {s = c.into_iter-root-iterator.result} xs i.0 (omega arith)) c.loop-root.yielded c.loop-root.root-iterator c.loop-root.yielded_by c.next.result c.next.new.self c.in-Some.root c.in-Some.is c.next.ensures.steps in
    c.requires.states c.in-Some.root (subst (λ ys. IsOneOf ys c.in-Some.root) c.into_vec-roots.ensures (one_of_item xs (length c.loop-root.yielded) c.in-Some.root t.0 t.1))

pub is_covered-requires-clause-state : goal.is_covered-requires-clause-state
is_covered-requires-clause-state g c = state_here g (goal.at.is_covered-requires-clause-state g c).In-Some

pub loop-root-preserved-then-is_covered : goal.loop-root-preserved-then-is_covered
loop-root-preserved-then-is_covered g c =
    let m = g.B.RuleBook.machine c.args.book.now in
    let before = c.loop-root.invariant in
    let p = subst (λ ks. IsCoveredByRoot (λ a b. m.covers a b c.args.at) ks c.in-Some.root.state) c.items.ensures (c.is_covered.ensures.0 c.if-is_covered.true) in
    record {
      can = tt;
      finite = tt;
      kept = pruned_left (λ a b. m.covers a b c.args.at ≡ true) c.loop-root.yielded c.loop-root.kept c.in-Some.root p.0 p.1 p.2 before.kept;
      apart = before.apart;
      states = before.states;
    }

pub loop-root-preserved : goal.loop-root-preserved
loop-root-preserved g c =
    let m = g.B.RuleBook.machine c.args.book.now in
    let here = state_here g (goal.at.loop-root-preserved g c).In-Some in
    let before = c.loop-root.invariant in
    let none : (r : Root g.row.B-State.Denot) → IsOneOf c.loop-root.kept r → m.covers r.state c.in-Some.root.state c.args.at ≡ true → ⊥ =
    λ r o h. true≢false (sym (c.is_covered.ensures.1 (subst (λ ks. IsCoveredByRoot (λ a b. m.covers a b c.args.at) ks c.in-Some.root.state) (sym c.items.ensures) (r, o, h))) ∙ c.if-is_covered.false) in
    let e : _ ≡ c.loop-root.kept ++ c.in-Some.root ∷ [] = c.in_ok-push.ensures.ok in
    record {
      can = tt;
      finite = tt;
      kept = subst (λ ks. ArePruned (λ a b. m.covers a b c.args.at ≡ true) (c.loop-root.yielded ++ c.in-Some.root ∷ []) ks) (sym e)
          (pruned_kept (λ a b. m.covers a b c.args.at ≡ true) c.loop-root.yielded c.loop-root.kept c.in-Some.root ((g.met.B.RuleBook.laws c.args.book.now).covers_itself c.in-Some.root.state c.args.at here) before.kept);
      apart = subst (λ ks. AreApart (λ a b. m.covers a b c.args.at ≡ true) ks) (sym e)
          (apart_more (λ a b. m.covers a b c.args.at ≡ true) c.loop-root.kept c.in-Some.root none before.apart);
      states = subst (AreRootStates m c.args.at) (sym e) (states_more m c.args.at c.loop-root.kept c.in-Some.root here before.states);
    }

pub returns : goal.returns
returns g c =
    let xs = c.into_vec-roots.result.items in
    let i = c.into_iter-root-iterator.ensures.into_iter_gives in
    let t = YieldsList-end (YieldsList-from_vec {s = c.into_iter-root-iterator.result} xs i.0 (omega arith)) c.loop-root.yielded c.loop-root.root-iterator c.loop-root.yielded_by c.next.result c.next.new.self c.in-None.is c.next.ensures.steps in
    let whole : c.loop-root.yielded ≡ xs = sym (map-id c.loop-root.yielded) ∙ t.0 in
    record {
      kept = subst (λ ys. ArePruned (λ a b. (g.B.RuleBook.machine c.args.book.now).covers a b c.args.at ≡ true) ys c.loop-root.kept) (whole ∙ c.into_vec-roots.ensures) c.loop-root.invariant.kept;
      apart = c.loop-root.invariant.apart;
    }
