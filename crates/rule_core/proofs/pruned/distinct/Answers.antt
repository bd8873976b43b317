use Rattle.std.proofs.Common.{◌≡◌, ◌++◌, [], ◌∷◌, length, sym, subst, ap, ◌∙◌, refl, arith}
use Rattle.std.specs.Prelude.{map}
use Rattle.std.proofs.lemmas.Bool.{true≢false}
use Rattle.std.proofs.lemmas.List.{map-id}
use Rattle.std.proofs.lemmas.Iterator.Adapters.{YieldsList-from_vec}
use Rattle.std.proofs.lemmas.Iterator.Consumers.{YieldsList-turn, YieldsList-end}
use Rattle.rule_core.specs.declared.roots.Root.{Root}
use Rattle.rule_core.specs.Laws.OneOf.{one_of_item}
use Rattle.rule_core.specs.Reach.{IsOneOf}
use Rattle.rule_core.specs.Replay.{AreRootStates}
use Rattle.rule_core.specs.Pruned.{ArePruned, AreApart}
use Rattle.rule_core.proofs.PrunedLaws.{pruned_kept, pruned_left, apart_more, states_more, listed_more, one_listed, none_listed}
use Rattle.rule_core.proofs.pruned.distinct.Given.{Over}
use Rattle.rule_core.proofs.pruned.distinct.Goals as goal
use Rattle.rule_core.proofs.pruned.distinct.Goals.{In-Some}

-- this iteration's root has a state of the minute
state_here : (g : Over) (c : In-Some g) → (g.B.RuleBook.machine c.args.book.now).is_state c.in-Some.root.state c.args.at
state_here g c =
    let xs = c.into_vec-roots.result.items in
    let i = c.into_iter-root-iterator.ensures.into_iter_gives in
    let t = YieldsList-turn (YieldsList-from_vec {s = c.into_iter-root-iterator.result} xs i.0 (omega arith)) c.loop-root.yielded c.loop-root.root-iterator c.loop-root.yielded_by c.next.result c.next.new.self c.in-Some.root c.in-Some.is c.next.ensures.steps in
    c.requires.states c.in-Some.root (subst (λ ys. IsOneOf ys c.in-Some.root) c.into_vec-roots.ensures (one_of_item xs (length c.loop-root.yielded) c.in-Some.root t.0 t.1))

pub write_state-requires : goal.write_state-requires
write_state-requires g c = record { state = state_here g (goal.at.write_state-requires g c).In-Some }

pub loop-root-preserved-then-is_listed : goal.loop-root-preserved-then-is_listed
loop-root-preserved-then-is_listed g c =
    let m = g.B.RuleBook.machine c.args.book.now in
    let here = state_here g (goal.at.loop-root-preserved-then-is_listed g c).In-Some in
    let before = c.loop-root.invariant in
    let numbers : c.write_state.new.out ≡ m.numbers c.in-Some.root.state c.args.at =
    c.in_ok-write_state.ensures.ok ∙ ap (λ ns. ns ++ m.numbers c.in-Some.root.state c.args.at) c.new-numbers.ensures in
    let o = subst (λ ns. IsOneOf (map (λ (r : Root g.row.B-State.Denot). m.numbers r.state c.args.at) c.loop-root.kept) ns) numbers
    (subst (λ ls. IsOneOf ls c.write_state.new.out) (c.deref.ensures.value ∙ before.listed) (c.is_listed.ensures.0 c.if-is_listed.true)) in
    let p = one_listed m (g.met.B.RuleBook.laws c.args.book.now).text c.args.at c.loop-root.kept c.in-Some.root before.states here o in
    record {
      can = tt;
      finite = tt;
      kept = pruned_left (λ a b. a ≡ b) c.loop-root.yielded c.loop-root.kept c.in-Some.root p.0 p.1 p.2 before.kept;
      apart = before.apart;
      states = before.states;
      listed = before.listed;
    }

pub loop-root-preserved : goal.loop-root-preserved
loop-root-preserved g c =
    let m = g.B.RuleBook.machine c.args.book.now in
    let here = state_here g (goal.at.loop-root-preserved g c).In-Some in
    let before = c.loop-root.invariant in
    let numbers : c.write_state.new.out ≡ m.numbers c.in-Some.root.state c.args.at =
    c.in_ok-write_state.ensures.ok ∙ ap (λ ns. ns ++ m.numbers c.in-Some.root.state c.args.at) c.new-numbers.ensures in
    let none : IsOneOf (map (λ (r : Root g.row.B-State.Denot). m.numbers r.state c.args.at) c.loop-root.kept) (m.numbers c.in-Some.root.state c.args.at) → ⊥ =
    λ o. true≢false (sym (c.is_listed.ensures.1 (subst (λ ls. IsOneOf ls c.write_state.new.out) (sym (c.deref.ensures.value ∙ before.listed))
    (subst (λ ns. IsOneOf (map (λ (r : Root g.row.B-State.Denot). m.numbers r.state c.args.at) c.loop-root.kept) ns) (sym numbers) o))) ∙ c.if-is_listed.false) in
    let e : _ ≡ c.loop-root.kept ++ c.in-Some.root ∷ [] = c.in_ok-push-2.ensures.ok in
    record {
      can = tt;
      finite = tt;
      kept = subst (λ ks. ArePruned (λ a b. a ≡ b) (c.loop-root.yielded ++ c.in-Some.root ∷ []) ks) (sym e) (pruned_kept (λ a b. a ≡ b) c.loop-root.yielded c.loop-root.kept c.in-Some.root refl before.kept);
      apart = subst (λ ks. AreApart (λ a b. a ≡ b) ks) (sym e) (apart_more (λ a b. a ≡ b) c.loop-root.kept c.in-Some.root (none_listed m c.args.at c.loop-root.kept c.in-Some.root none) before.apart);
      states = subst (AreRootStates m c.args.at) (sym e) (states_more m c.args.at c.loop-root.kept c.in-Some.root here before.states);
      listed = listed_more (λ (r : Root g.row.B-State.Denot). m.numbers r.state c.args.at) c.loop-root.kept c.in-Some.root c.loop-root.lists.items c.push.new.self.items c.write_state.new.out
          c.in_ok-push.ensures.items before.listed numbers ∙ ap (map (λ (r : Root g.row.B-State.Denot). m.numbers r.state c.args.at)) (sym e);
    }

pub returns-clause-kept : goal.returns-clause-kept
returns-clause-kept g c =
    let xs = c.into_vec-roots.result.items in
    let i = c.into_iter-root-iterator.ensures.into_iter_gives in
    let t = YieldsList-end (YieldsList-from_vec {s = c.into_iter-root-iterator.result} xs i.0 (omega arith)) c.loop-root.yielded c.loop-root.root-iterator c.loop-root.yielded_by c.next.result c.next.new.self c.in-None.is c.next.ensures.steps in
    let whole : c.loop-root.yielded ≡ xs = sym (map-id c.loop-root.yielded) ∙ t.0 in
    subst (λ ys. ArePruned (λ a b. a ≡ b) ys c.loop-root.kept) (whole ∙ c.into_vec-roots.ensures) c.loop-root.invariant.kept
