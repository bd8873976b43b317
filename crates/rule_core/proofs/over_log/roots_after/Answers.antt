use Rattle.std.proofs.Common.{◌≡◌, length, sym, subst, ◌∙◌, arith}
use Rattle.std.proofs.lemmas.List.{map-id}
use Rattle.std.proofs.lemmas.Iterator.Adapters.{YieldsList-from_vec}
use Rattle.std.proofs.lemmas.Iterator.Consumers.{YieldsList-turn, YieldsList-end}
use Rattle.rule_core.specs.Laws.OneOf.{one_of_item}
use Rattle.rule_core.specs.Reach.{IsOneOf}
use Rattle.rule_core.specs.Replay.{roots_over}
use Rattle.rule_core.proofs.ReplayLaws.{roots_more}
use Rattle.rule_core.proofs.over_log.roots_after.Goals as goal

-- this iteration's root is one of those given
pub advance-requires-clause-state : goal.advance-requires-clause-state
advance-requires-clause-state g c =
    let xs = c.into_vec-roots.result.items in
    let i = c.into_iter-root-iterator.ensures.into_iter_gives in
    let t = YieldsList-turn (YieldsList-from_vec {s = c.into_iter-root-iterator.result} xs i.0 (omega arith)) c.loop-root.yielded c.loop-root.root-iterator c.loop-root.yielded_by c.next.result c.next.new.self c.in-Some.root c.in-Some.is c.next.ensures.steps in
    c.requires.states c.in-Some.root (subst (λ ys. IsOneOf ys c.in-Some.root) c.into_vec-roots.ensures (one_of_item xs (length c.loop-root.yielded) c.in-Some.root t.0 t.1))

pub loop-root-preserved : goal.loop-root-preserved
loop-root-preserved g c = record {
  can = tt;
  finite = tt;
  grown = roots_more (g.B.RuleBook.machine c.args.book.now) c.args.at c.args.act c.args.n c.loop-root.yielded c.loop-root.after c.push_nexts.new.roots c.in-Some.root _
      c.loop-root.invariant.grown c.in_ok-nexts.ensures.nexts c.in_ok-push_nexts.ensures.ok;
}

pub returns : goal.returns
returns g c =
    let xs = c.into_vec-roots.result.items in
    let i = c.into_iter-root-iterator.ensures.into_iter_gives in
    let t = YieldsList-end (YieldsList-from_vec {s = c.into_iter-root-iterator.result} xs i.0 (omega arith)) c.loop-root.yielded c.loop-root.root-iterator c.loop-root.yielded_by c.next.result c.next.new.self c.in-None.is c.next.ensures.steps in
    let whole : c.loop-root.yielded ≡ xs = sym (map-id c.loop-root.yielded) ∙ t.0 in
    subst (λ ys. c.loop-root.after ≡ roots_over (g.B.RuleBook.machine c.args.book.now) c.args.at c.args.act c.args.n ys) c.into_vec-roots.ensures
    (subst (λ ys. c.loop-root.after ≡ roots_over (g.B.RuleBook.machine c.args.book.now) c.args.at c.args.act c.args.n ys) whole c.loop-root.invariant.grown)
