use Rattle.std.proofs.Common.{◌≡◌, true, false, refl, get_or}
use Rattle.std.proofs.lemmas.List.{get_or_default}
use Rattle.rule_core.specs.Laws.OneOf.{one_of-get_or}
use Rattle.cert_text.specs.CoverLists.Planning.{problem_of}
use Rattle.cert_checker.proofs.LabelLaws.{not_so}
use Rattle.cert_checker.proofs.PlaceLaws.{place_covers, places_more, no_places}
use Rattle.cert_checker.proofs.covered.is_any_better.Goals as goal

pub returns-then-is_better_at : goal.returns-then-is_better_at
returns-then-is_better_at g c =
    let problem = problem_of c.args.terms.now.tour.now (g.B.RuleBook.machine c.args.terms.now.book.now) in
    let l = c.args.asked.now in (
      (λ _. place_covers problem c.args.step c.args.labels.now c.args.places.now (get_or c.args.places.now c.loop-place.place-index 0) l (one_of-get_or c.args.places.now c.loop-place.place-index 0 c.loop-place-test.true)
          (c.is_better_at.ensures.0 c.if-is_better_at.true)),
      (λ _. refl),
    )

pub loop-place-preserved : goal.loop-place-preserved
loop-place-preserved g c =
    let problem = problem_of c.args.terms.now.tour.now (g.B.RuleBook.machine c.args.terms.now.book.now) in
    let l = c.args.asked.now in
    let place = get_or c.args.places.now c.loop-place.place-index 0 in
    places_more problem c.args.step c.args.labels.now c.args.places.now c.loop-place.place-index place l c.loop-place-test.true (get_or_default c.args.places.now c.loop-place.place-index 0 place c.loop-place-test.true) c.loop-place.invariant
    (not_so c.is_better_at.result c.is_better_at.ensures c.if-is_better_at.false)

pub returns : goal.returns
returns g c =
    let problem = problem_of c.args.terms.now.tour.now (g.B.RuleBook.machine c.args.terms.now.book.now) in
    let l = c.args.asked.now in
    ((λ t. absurd (let f : false ≡ true = t in cc)), (λ h. absurd (no_places problem c.args.step c.args.labels.now c.args.places.now c.loop-place.place-index l c.loop-place-test.false c.loop-place.invariant h)))
