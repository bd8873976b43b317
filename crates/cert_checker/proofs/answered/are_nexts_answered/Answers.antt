use Rattle.std.proofs.Common.{◌≡◌, true, false, sym, ◌∙◌}
use Rattle.cert_text.specs.CoverLists.Planning.{problem_by}
use Rattle.cert_checker.specs.Parsed.{there}
use Rattle.cert_checker.proofs.AnsweredLaws.{answered_three, three_answered}
use Rattle.cert_checker.proofs.answered.are_nexts_answered.Goals as goal

pub returns-then-not-is_next_answered : goal.returns-then-not-is_next_answered
returns-then-not-is_next_answered g c =
    let problem = problem_by c.args.terms.now.tour.now (g.B.RuleBook.machine c.args.terms.now.book.now) (g.K.LabelBound.bounds c.args.terms.now.bound.now).bound in
    ((λ t. absurd (let f : false ≡ true = t in cc)), (λ h. sym c.if-not-is_next_answered.true ∙ c.is_next_answered.ensures.1 (answered_three problem c.args.terms.now.target c.args.step (there c.args.labels.now) c.args.made c.args.nexts.now h).a))

pub returns-then-not-is_next_answered-2 : goal.returns-then-not-is_next_answered-2
returns-then-not-is_next_answered-2 g c =
    let problem = problem_by c.args.terms.now.tour.now (g.B.RuleBook.machine c.args.terms.now.book.now) (g.K.LabelBound.bounds c.args.terms.now.bound.now).bound in
    ((λ t. absurd (let f : false ≡ true = t in cc)), (λ h. sym c.if-not-is_next_answered-2.true ∙ c.is_next_answered-2.ensures.1 (answered_three problem c.args.terms.now.target c.args.step (there c.args.labels.now) c.args.made c.args.nexts.now h).b))

pub returns : goal.returns
returns g c =
    let problem = problem_by c.args.terms.now.tour.now (g.B.RuleBook.machine c.args.terms.now.book.now) (g.K.LabelBound.bounds c.args.terms.now.bound.now).bound in (
      (λ t. three_answered problem c.args.terms.now.target c.args.step (there c.args.labels.now) c.args.made c.args.nexts.now (c.is_next_answered.ensures.0 c.if-not-is_next_answered.false) (c.is_next_answered-2.ensures.0 c.if-not-is_next_answered-2.false) (c.is_next_answered-3.ensures.0 t)),
      (λ h. c.is_next_answered-3.ensures.1 (answered_three problem c.args.terms.now.target c.args.step (there c.args.labels.now) c.args.made c.args.nexts.now h).c),
    )
