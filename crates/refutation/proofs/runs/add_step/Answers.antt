use Rattle.std.proofs.Common.{◌≡◌, ◌+◌, arith, rules}
use Rattle.refutation.proofs.RunsLaws.{first_so_far, longer_so_far, more_so_far}
use Rattle.refutation.proofs.runs.add_step.Goals as goal

pub returns-in_default-clause-maximal : goal.returns-in_default-clause-maximal
returns-in_default-clause-maximal c = first_so_far c.args.runs.now c.args.last (record { count = 1; act = c.args.act }) c.in_default.is (omega arith)

pub returns-then-eq-clause-maximal : goal.returns-then-eq-clause-maximal
returns-then-eq-clause-maximal c =
    let same : c.in-Some.run'.act ≡ c.args.act = search rules in
    longer_so_far c.args.runs.now c.args.last c.in-Some.run' (record { count = c.in-Some.run'.count + 1; act = c.args.act }) c.in-Some.is same (omega arith)

pub returns-clause-maximal : goal.returns-clause-maximal
returns-clause-maximal c =
    let other : c.in-Some.run'.act ≡ c.args.act → ⊥ = search rules in
    more_so_far c.args.runs.now c.push.new.self c.args.last c.in-Some.run' (record { count = 1; act = c.args.act }) c.in-Some.is c.in_ok-push.ensures.ok other (omega arith)
