use Rattle.cert_checker.specs.Places.{plain}
use Rattle.cert_checker.proofs.PlaceLaws.{ArePlacedTo}
use Rattle.cert_checker.proofs.listing.places_of.Given as goal

abbrev pub invariant-loop-place : goal.invariant-loop-place
invariant-loop-place g l = ArePlacedTo l.labels l.place (plain l.lists.items)
