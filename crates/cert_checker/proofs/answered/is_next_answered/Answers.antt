use Rattle.std.proofs.Common.{sym, subst, refl, inl, Decides}
use Rattle.std.specs.Option.{option_to_list}
use Rattle.rule_core.specs.Reach.{IsOneOf}
use Rattle.cert_text.specs.CoverLists.Planning.{problem_by}
use Rattle.cert_checker.specs.Parsed.{there}
use Rattle.cert_checker.specs.Made.{AreStatesAnswered}
use Rattle.cert_checker.proofs.AnsweredLaws.{one_answered}
use Rattle.cert_checker.proofs.answered.is_next_answered.Goals as goal

pub is_state_answered-requires-clause-state : goal.is_state_answered-requires-clause-state
is_state_answered-requires-clause-state g c =
    c.requires.state c.in-Some.next (subst (λ o. IsOneOf (option_to_list o) c.in-Some.next) (sym c.in-Some.is) (inl refl))

pub returns-in-Some : goal.returns-in-Some
returns-in-Some g c =
    let problem = problem_by c.args.terms.now.tour.now (g.B.RuleBook.machine c.args.terms.now.book.now) (g.K.LabelBound.bounds c.args.terms.now.bound.now).bound in
    subst (λ o. Decides c.is_state_answered.result (AreStatesAnswered problem c.args.terms.now.target c.args.step (there c.args.labels.now) c.args.made (option_to_list o))) (sym c.in-Some.is)
    (one_answered problem c.args.terms.now.target c.args.step (there c.args.labels.now) c.args.made c.in-Some.next c.is_state_answered.result c.is_state_answered.ensures)
