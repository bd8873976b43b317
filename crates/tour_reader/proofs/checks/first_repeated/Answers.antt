use Rattle.std.proofs.Common.{[], sym, ◌∙◌}
use Rattle.tour_reader.specs.Checks.{stop_names, first_repeated}
use Rattle.tour_reader.proofs.CheckFacts.{names_more, names_stop}
use Rattle.tour_reader.proofs.checks.first_repeated.Goals as goal

pub returns-then-not-branch : goal.returns-then-not-branch
returns-then-not-branch c =
    let told = sym c.if-not-branch.true ∙ c.in_ok-insert.ensures.added in
    rw c.items-then-not-branch.ensures (names_stop c.loop-stop.names.keys c.args.stops.now c.loop-stop.stop-index c.stop-item.result c.items.result.now (first_repeated [] (stop_names c.args.stops.now)) c.loop-stop-test.true c.stop-item.is c.items.ensures told c.loop-stop.invariant)

pub loop-stop-preserved : goal.loop-stop-preserved
loop-stop-preserved c =
    let told = sym c.if-not-branch.false ∙ c.in_ok-insert.ensures.added in
    names_more c.loop-stop.names.keys c.insert.new.self.keys c.args.stops.now c.loop-stop.stop-index c.stop-item.result c.items.result (first_repeated [] (stop_names c.args.stops.now)) c.loop-stop-test.true c.stop-item.is c.items.ensures told c.in_ok-insert.ensures.keys c.loop-stop.invariant
