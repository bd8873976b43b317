-- The end that is returned is the label's bound, so it is the value of the function that gives it.
use Rattle.std.proofs.Common.{rules}
use Rattle.us_bound.specs.Laws.ShiftLaws.{bound_at}
use Rattle.us_bound.proofs.EndLaws.{astray, some_end, no_end}
use Rattle.us_bound.proofs.ends.label_end.Goals as goal

pub returns-then-not-idles-clause-value : goal.returns-then-not-idles-clause-value
returns-then-not-idles-clause-value c = λ berth e. bound_at c.args.work.now.tour.now berth c.args.table.now.horizon c.args.step c.args.progress c.args.state.now c.args.step (search (rules, astray))

pub returns-in-Some-clause-value : goal.returns-in-Some-clause-value
returns-in-Some-clause-value c = λ berth e. bound_at c.args.work.now.tour.now berth c.args.table.now.horizon c.args.step c.args.progress c.args.state.now c.in-Some.end (search (rules, some_end))

pub returns-in-None-clause-value : goal.returns-in-None-clause-value
returns-in-None-clause-value c = λ berth e. bound_at c.args.work.now.tour.now berth c.args.table.now.horizon c.args.step c.args.progress c.args.state.now c.max.result (search (rules, no_end))
