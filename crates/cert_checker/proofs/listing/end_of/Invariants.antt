use Rattle.cert_checker.specs.Places.{HaveDoneLess}
use Rattle.cert_checker.proofs.listing.end_of.Given as goal

abbrev pub invariant-loop-label : goal.invariant-loop-label
invariant-loop-label g l = HaveDoneLess l.labels l.label-index l.end
