use Rattle.std.proofs.Common.{length, sym, subst, ◌∙◌, arith}
use Rattle.std.proofs.lemmas.List.{map-id}
use Rattle.std.proofs.lemmas.Iterator.Adapters.{YieldsList-from_vec}
use Rattle.std.proofs.lemmas.Iterator.Consumers.{YieldsList-turn, YieldsList-end}
use Rattle.rule_core.specs.Reach.{listed, IsOneOf}
use Rattle.rule_core.specs.Laws.OneOf.{one_of_item}
use Rattle.cert_checker.specs.Followed.{AreAfter}
use Rattle.cert_checker.proofs.FollowLaws.{after_more}
use Rattle.cert_checker.proofs.follow.held_after.Goals as goal
use Rattle.cert_checker.proofs.follow.held_after.Goals.{In-Some}

-- this iteration's state is one of those given
one_of : (g : _) (c : In-Some g) → IsOneOf c.args.held.items c.in-Some.one
one_of g c =
    let xs = c.args.held.items in
    let i = c.into_iter-one-iterator.ensures.into_iter_gives in
    let t = YieldsList-turn (YieldsList-from_vec {s = c.into_iter-one-iterator.result} xs i.0 (omega arith)) c.loop-one.yielded c.loop-one.one-iterator c.loop-one.yielded_by c.next.result c.next.new.self c.in-Some.one c.in-Some.is c.next.ensures.steps in
    one_of_item xs (length c.loop-one.yielded) c.in-Some.one t.0 t.1

pub step-requires-clause-state : goal.step-requires-clause-state
step-requires-clause-state g c = c.requires.states c.in-Some.one (one_of g (goal.at.step-requires-clause-state g c).In-Some)

pub push_nexts-requires : goal.push_nexts-requires
push_nexts-requires g c = c.requires.within c.in-Some.one (one_of g (goal.at.push_nexts-requires g c).In-Some)

pub loop-one-preserved : goal.loop-one-preserved
loop-one-preserved g c = record {
  can = tt;
  finite = tt;
  after = after_more (g.B.RuleBook.machine c.args.book.now).nexts c.args.at c.args.act c.args.marks.now c.loop-one.yielded c.in-Some.one (listed c.in_ok-nexts.nexts) c.loop-one.after.items c.push_nexts.new.held.items
      c.loop-one.invariant.after c.in_ok-nexts.ensures.nexts c.in_ok-push_nexts.ensures.ok;
}

pub returns : goal.returns
returns g c =
    let xs = c.args.held.items in
    let i = c.into_iter-one-iterator.ensures.into_iter_gives in
    let t = YieldsList-end (YieldsList-from_vec {s = c.into_iter-one-iterator.result} xs i.0 (omega arith)) c.loop-one.yielded c.loop-one.one-iterator c.loop-one.yielded_by c.next.result c.next.new.self c.in-None.is c.next.ensures.steps in
    subst (λ ys. AreAfter (g.B.RuleBook.machine c.args.book.now).nexts c.args.at c.args.act c.args.marks.now ys c.loop-one.after.items) (sym (map-id c.loop-one.yielded) ∙ t.0) c.loop-one.invariant.after
