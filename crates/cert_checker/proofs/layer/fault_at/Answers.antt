use Rattle.std.proofs.Common.{take, sym, subst, IfOk}
use Rattle.std.specs.Prelude.{MatchOption}
use Rattle.cert_text.specs.CoverLists.Planning.{problem_by, state_at}
use Rattle.cert_checker.specs.Parsed.{there}
use Rattle.cert_checker.specs.Conditions.{Passes, FailsBy}
use Rattle.cert_checker.proofs.layer.fault_at.Goals as goal

pub fault_of-requires-clause-next : goal.fault_of-requires-clause-next
fault_of-requires-clause-next g c = record { by = c.requires.terms; few = c.requires.step; state = c.requires.state c.in-Some.label c.in-Some.is; next = c.requires.next }

pub returns-in-Some : goal.returns-in-Some
returns-in-Some g c =
    let problem = problem_by c.args.terms.now.tour.now (g.B.RuleBook.machine c.args.terms.now.book.now) (g.K.LabelBound.bounds c.args.terms.now.bound.now).bound in
    let is_state = state_at c.args.terms.now.tour.now (g.B.RuleBook.machine c.args.terms.now.book.now) in
    subst (λ l. IfOk c.fault_of.result (λ o. MatchOption o (Passes problem is_state c.args.terms.now.target c.args.step (there (take c.args.place c.args.labels.now)) (there c.args.next.now) l) (FailsBy problem is_state c.args.terms.now.target c.args.step (there (take c.args.place c.args.labels.now)) (there c.args.next.now) l)))
    (sym c.in-Some.is) c.fault_of.ensures
