use Rattle.std.proofs.Common.{refl, sym, inl, subst}
use Rattle.cert_text.specs.CoverLists.Planning.{problem_by}
use Rattle.cert_text.specs.CoverLists.Cover.{IsPrunedAt}
use Rattle.cert_checker.specs.Parsed.{there}
use Rattle.cert_checker.specs.Made.{made_label}
use Rattle.cert_checker.proofs.LabelLaws.{not_so}
use Rattle.cert_checker.proofs.AnsweredLaws.{unpruned_covered}
use Rattle.cert_checker.proofs.answered.is_state_answered.Goals as goal

pub bound-bound-requires-clause-asks : goal.bound-bound-requires-clause-asks
bound-bound-requires-clause-asks g c =
    c.requires.bound.asked c.args.step c.args.made.progress c.args.state.now c.requires.step c.requires.made.within c.requires.state

pub returns-then-is_pruned : goal.returns-then-is_pruned
returns-then-is_pruned g c =
    ((λ _. inl (subst (IsPrunedAt c.args.terms.now.target c.args.made.depart) c.bound-bound.ensures (c.is_pruned.ensures.0 c.if-is_pruned.true))), (λ _. refl))

pub is_covered-requires : goal.is_covered-requires
is_covered-requires g c = record { tour = c.requires.tour; few = c.requires.step; labels = c.requires.labels; asked = c.requires.state }

pub returns : goal.returns
returns g c =
    let problem = problem_by c.args.terms.now.tour.now (g.B.RuleBook.machine c.args.terms.now.book.now) (g.K.LabelBound.bounds c.args.terms.now.bound.now).bound in
    let off = not_so c.is_pruned.result c.is_pruned.ensures c.if-is_pruned.false in
    unpruned_covered problem c.args.terms.now.target c.args.step (there c.args.labels.now) (made_label c.args.made c.args.state.now) c.is_covered.result
    (λ p. off (subst (IsPrunedAt c.args.terms.now.target c.args.made.depart) (sym c.bound-bound.ensures) p)) c.is_covered.ensures
