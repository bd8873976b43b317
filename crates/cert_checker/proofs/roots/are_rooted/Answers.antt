use Rattle.std.proofs.Common.{◌≡◌, true, false, refl, sym, ◌∙◌, subst, arith}
use Rattle.std.proofs.lemmas.List.{take_all}
use Rattle.rule_core.specs.declared.roots.Root.{Root}
use Rattle.rule_core.specs.Reach.{IsOneOf}
use Rattle.rule_core.specs.Laws.OneOf.{one_of_item}
use Rattle.cert_text.specs.CoverLists.Problem.{root_label}
use Rattle.cert_text.specs.CoverLists.Planning.{problem_of}
use Rattle.cert_text.specs.CoverLists.Cover.{IsCovered}
use Rattle.cert_checker.specs.Parsed.{there}
use Rattle.cert_checker.proofs.LabelLaws.{each_more}
use Rattle.cert_checker.proofs.roots.are_rooted.Goals as goal

pub is_covered-requires : goal.is_covered-requires
is_covered-requires g c = record {
  tour = c.requires.tour;
  few = omega arith;
  labels = c.requires.labels;
  asked = c.requires.roots c.root-item.result (one_of_item c.args.roots.now c.loop-root.root-index c.root-item.result c.loop-root-test.true c.root-item.is);
}

pub returns-then-not-is_covered : goal.returns-then-not-is_covered
returns-then-not-is_covered g c = (
  (λ t. absurd (let f : false ≡ true = t in cc)),
  (λ h. sym c.if-not-is_covered.true ∙ c.is_covered.ensures.1 (h c.root-item.result (one_of_item c.args.roots.now c.loop-root.root-index c.root-item.result c.loop-root-test.true c.root-item.is))),
)

pub loop-root-preserved : goal.loop-root-preserved
loop-root-preserved g c =
    let problem = problem_of c.args.terms.now.tour.now (g.B.RuleBook.machine c.args.terms.now.book.now) in
    each_more (λ (r : Root g.row.B-State.Denot). IsCovered problem 0 (there c.args.labels.now) (root_label r.state)) c.args.roots.now c.loop-root.root-index c.root-item.result c.loop-root-test.true c.root-item.is c.loop-root.invariant
    (c.is_covered.ensures.0 c.if-not-is_covered.false)

pub returns : goal.returns
returns g c = ((λ _ r o. c.loop-root.invariant r (subst (λ ys. IsOneOf ys r) (sym (take_all c.loop-root.root-index c.args.roots.now c.loop-root-test.false)) o)), (λ _. refl))
