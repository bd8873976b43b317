use Rattle.std.proofs.Common.{◌∙◌, arith}
use Rattle.std.proofs.lemmas.List.{length-map}
use Rattle.cert_checker.specs.Places.{plain}
use Rattle.cert_checker.proofs.PlaceLaws.{placed_first, placed_none, placed_some, placed_all}
use Rattle.cert_checker.proofs.listing.places_of.Goals as goal

pub loop-place-init : goal.loop-place-init
loop-place-init g c = placed_first c.args.labels.now (plain c.in_ok-lists.lists.items) (length-map c.in_ok-lists.lists.items (λ v. v.items) ∙ c.in_ok-lists.ensures)

pub loop-place-preserved-in_default : goal.loop-place-preserved-in_default
loop-place-preserved-in_default g c =
    placed_none c.args.labels.now c.loop-place.place c.index-labels-place.result (plain c.loop-place.lists.items) c.loop-place-test.true c.index-labels-place.is c.in_default.is c.loop-place.invariant

pub put_place-requires : goal.put_place-requires
put_place-requires g c =
    let same = c.loop-place.invariant.same in
    let long = length-map c.loop-place.lists.items (λ v. v.items) in
    let lt = c.loop-place-test.true in
    omega arith

pub loop-place-preserved : goal.loop-place-preserved
loop-place-preserved g c =
    placed_some c.args.labels.now c.loop-place.place c.index-labels-place.result c.in-Some.label (plain c.loop-place.lists.items) (plain c.put_place.new.lists.items) c.loop-place-test.true c.index-labels-place.is c.in-Some.is c.in_ok-put_place.ensures.ok c.loop-place.invariant

pub returns : goal.returns
returns g c = placed_all c.args.labels.now c.loop-place.place (plain c.loop-place.lists.items) c.loop-place-test.false c.loop-place.invariant
