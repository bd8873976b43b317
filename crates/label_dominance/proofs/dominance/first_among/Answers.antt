use Rattle.std.proofs.Common.{get_or, sym, ◌∙◌}
use Rattle.cert_text.specs.CoverLists.Planning.{problem_of, state_at}
use Rattle.label_dominance.proofs.OfferLaws.{read_there, state_there, none_more, found_at}
use Rattle.label_dominance.proofs.dominance.first_among.Goals as goal

pub stands_for-requires-clause-a : goal.stands_for-requires-clause-a
stands_for-requires-clause-a g c =
    let layer = c.args.layer.now in
    let place = get_or c.args.places.now c.loop-place.place-index 0 in
    let there = read_there layer place c.in_ok-kept.kept.now c.in_ok-kept.ensures.lookup.0 c.in_ok-kept.ensures.lookup.1 in
    state_there (state_at c.args.tour.now (g.B.RuleBook.machine c.args.book.now)) c.args.step layer place c.in_ok-kept.kept.now c.requires.layer there

pub stands_for-requires-clause-keeps_up : goal.stands_for-requires-clause-keeps_up
stands_for-requires-clause-keeps_up g c =
    let layer = c.args.layer.now in
    let place = get_or c.args.places.now c.loop-place.place-index 0 in
    let there = read_there layer place c.in_ok-kept.kept.now c.in_ok-kept.ensures.lookup.0 c.in_ok-kept.ensures.lookup.1 in
    c.requires.keep_up c.loop-place.place-index c.in_ok-kept.kept.now c.loop-place-test.true there

pub returns-then-stands_for : goal.returns-then-stands_for
returns-then-stands_for g c =
    let layer = c.args.layer.now in
    let place = get_or c.args.places.now c.loop-place.place-index 0 in
    let there = read_there layer place c.in_ok-kept.kept.now c.in_ok-kept.ensures.lookup.0 c.in_ok-kept.ensures.lookup.1 in
    found_at (problem_of c.args.tour.now (g.B.RuleBook.machine c.args.book.now)) c.args.step layer c.args.places.now c.args.label.now c.loop-place.place-index c.in_ok-kept.kept.now c.requires.rising there c.loop-place.invariant (sym c.stands_for.ensures ∙ c.if-stands_for.true)

pub loop-place-preserved : goal.loop-place-preserved
loop-place-preserved g c =
    let layer = c.args.layer.now in
    let place = get_or c.args.places.now c.loop-place.place-index 0 in
    let there = read_there layer place c.in_ok-kept.kept.now c.in_ok-kept.ensures.lookup.0 c.in_ok-kept.ensures.lookup.1 in
    none_more (problem_of c.args.tour.now (g.B.RuleBook.machine c.args.book.now)) c.args.step layer c.args.places.now c.args.label.now c.loop-place.place-index c.in_ok-kept.kept.now there c.loop-place.invariant (sym c.stands_for.ensures ∙ c.if-stands_for.false)
