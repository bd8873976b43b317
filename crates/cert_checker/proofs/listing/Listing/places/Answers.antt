use Rattle.std.proofs.Common.{◌≡◌, ◌<◌, length, sym, subst, arith}
use Rattle.cert_checker.specs.Places.{HasPlaces}
use Rattle.cert_checker.proofs.PlaceLaws.{has_places}
use Rattle.cert_checker.proofs.listing.Listing.places.Goals as goal

pub returns : goal.returns
returns g c =
    let os = c.self.inside.labels.items in
    let vs = c.self.inside.places.items in
    let e = c.len.ensures in
    let same : c.len.result ≡ length vs = omega arith in
    let some : 0 < length os = subst (λ ys. 0 < length ys) (sym c.self.view_is) c.requires in
    subst (λ ys. HasPlaces ys c.args.progress c.as_slice.result.now) c.self.view_is
    (subst (λ ps. HasPlaces os c.args.progress ps) (sym c.as_slice.ensures.value) (has_places os vs c.args.progress c.len.result c.index.result.now c.self.invariant.0 some same c.index.ensures))
