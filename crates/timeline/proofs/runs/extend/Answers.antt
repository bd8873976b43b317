use Rattle.std.proofs.Common.{◌≡◌, ◌-◌, length, rules, subst}
use Rattle.timeline.specs.Runs.{EndsIn, EndsOther}
use Rattle.timeline.proofs.Grow.{grown, pushed}
use Rattle.timeline.proofs.runs.extend.Goals as goal

pub returns-then-continues-clause-runs : goal.returns-then-continues-clause-runs
returns-then-continues-clause-runs c =
    let runs = c.args.runs.now.items in
    let last : c.len-last.result - 1 ≡ length runs - 1 = search rules in
    let ends : EndsIn c.args.act runs = subst (λ xs. EndsIn c.args.act xs) c.deref.ensures.value c.if-continues.ensures in
    (grown runs (c.len-last.result - 1) c.index_mut.result.now c.args.act c.args.from c.args.to last ends c.index_mut.ensures.value c.requires.runs c.requires.thereafter c.requires.some).whole

pub returns-then-continues-clause-units : goal.returns-then-continues-clause-units
returns-then-continues-clause-units c =
    let runs = c.args.runs.now.items in
    let last : c.len-last.result - 1 ≡ length runs - 1 = search rules in
    let ends : EndsIn c.args.act runs = subst (λ xs. EndsIn c.args.act xs) c.deref.ensures.value c.if-continues.ensures in
    (grown runs (c.len-last.result - 1) c.index_mut.result.now c.args.act c.args.from c.args.to last ends c.index_mut.ensures.value c.requires.runs c.requires.thereafter c.requires.some).units

pub returns-clause-runs : goal.returns-clause-runs
returns-clause-runs c =
    let other : EndsOther c.args.act c.args.runs.now.items = subst (λ xs. EndsOther c.args.act xs) c.deref.ensures.value c.if-continues.ensures in
    rw c.in_ok-push.ensures.items ((pushed c.args.runs.now.items c.args.act c.args.from c.args.to other c.requires.runs c.requires.thereafter c.requires.some).whole)

pub returns-clause-units : goal.returns-clause-units
returns-clause-units c =
    let other : EndsOther c.args.act c.args.runs.now.items = subst (λ xs. EndsOther c.args.act xs) c.deref.ensures.value c.if-continues.ensures in
    rw c.in_ok-push.ensures.items ((pushed c.args.runs.now.items c.args.act c.args.from c.args.to other c.requires.runs c.requires.thereafter c.requires.some).units)
