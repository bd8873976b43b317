use Rattle.std.proofs.Common.{◌≡◌, true, false, refl, sym, length, take, ap, subst, arith}
use Rattle.tour_model.specs.declared.label.Label.{Label}
use Rattle.cert_text.specs.CoverLists.Planning.{problem_of, minute_of}
use Rattle.cert_text.specs.CoverLists.Cover.{IsCovered}
use Rattle.cert_checker.specs.Parsed.{AreStatesIn}
use Rattle.cert_checker.specs.Places.{labels_at}
use Rattle.cert_checker.proofs.LabelLaws.{states_before, not_so}
use Rattle.cert_checker.proofs.PlaceLaws.{covered_none, covered_there, none_placed_more, none_there}
use Rattle.cert_checker.proofs.covered.is_covered_before.Goals as goal

pub returns-then-count-eq0 : goal.returns-then-count-eq0
returns-then-count-eq0 g c =
    let problem = problem_of c.args.terms.now.tour.now (g.B.RuleBook.machine c.args.terms.now.book.now) in
    let l = c.args.asked.now in
    ((λ t. absurd (let f : false ≡ true = t in cc)), (λ h. absurd (covered_none problem c.args.step c.args.labels.now c.args.count l c.if-count-eq0.true h)))

pub is_any_better-requires : goal.is_any_better-requires
is_any_better-requires g c =
    let is_state : g.row.B-State.Denot → Type 0 = λ s. (g.B.RuleBook.machine c.args.terms.now.book.now).is_state s (minute_of c.args.terms.now.tour.now c.args.step) in
    record {
      tour = c.requires.asked.tour;
      few = c.requires.asked.few;
      labels = states_before is_state c.items.result.now c.args.count (subst (λ os. AreStatesIn is_state os) (sym c.items.ensures) c.requires.asked.labels);
      asked = c.requires.asked.asked;
    }

pub returns-then-is_any_better : goal.returns-then-is_any_better
returns-then-is_any_better g c =
    let problem = problem_of c.args.terms.now.tour.now (g.B.RuleBook.machine c.args.terms.now.book.now) in
    let l = c.args.asked.now in
    let places = c.places-places.result.now in (
      (λ _. covered_there problem c.args.step (take c.args.count c.args.labels.now) places l
          (subst (λ os. IsCovered problem c.args.step (labels_at (take c.args.count os) places) l) c.items.ensures (c.is_any_better.ensures.0 c.if-is_any_better.true))),
      (λ _. refl),
    )

pub loop-progress-preserved : goal.loop-progress-preserved
loop-progress-preserved g c =
    let problem = problem_of c.args.terms.now.tour.now (g.B.RuleBook.machine c.args.terms.now.book.now) in
    let l = c.args.asked.now in
    let places = c.places-places.result.now in
    none_placed_more problem c.args.step c.args.labels.now c.args.count l l.progress c.loop-progress.progress places c.places-places.ensures
    (subst (λ os. IsCovered problem c.args.step (labels_at (take c.args.count os) places) l → ⊥) c.items.ensures (not_so c.is_any_better.result c.is_any_better.ensures c.if-is_any_better.false))
    c.loop-progress.invariant

pub returns : goal.returns
returns g c =
    let problem = problem_of c.args.terms.now.tour.now (g.B.RuleBook.machine c.args.terms.now.book.now) in
    let l = c.args.asked.now in
    let far = c.loop-progress-test.false in
    let end = c.min-progress-end.ensures in
    let sum = c.saturating_add-end.ensures in
    let fits = c.progress_end.type_inv in
    let progress : c.asked.inside.progress ≡ l.progress = ap (λ (x : Label g.row.B-State.Denot). x.progress) c.asked.view_is in
    let long : length c.items-2.result.now ≡ length c.args.labels.now = ap length c.items-2.ensures in (
      (λ t. absurd (let f : false ≡ true = t in cc)),
      (λ h. absurd (none_there problem c.args.step c.args.labels.now c.args.count l c.progress_end.result c.loop-progress.progress c.requires.count c.progress_end.ensures (omega arith) c.loop-progress.invariant h)),
    )
