use Rattle.std.proofs.Common.{◌+◌, ◌<◌, arith, Decides}
use Rattle.tour_model.specs.Word.{word_length}
use Rattle.cert_text.specs.CoverLists.Problem.{successors_of}
use Rattle.cert_text.specs.CoverLists.Planning.{problem_by}
use Rattle.cert_checker.specs.Parsed.{there}
use Rattle.cert_checker.specs.Conditions.{AreAnswered, IsAnsweredFor}
use Rattle.cert_checker.proofs.ParsedLaws.{ok_also}
use Rattle.cert_checker.proofs.label.is_answered_for.Goals as goal

pub returns : goal.returns
returns g c =
    let problem = problem_by c.args.terms.now.tour.now (g.B.RuleBook.machine c.args.terms.now.book.now) (g.K.LabelBound.bounds c.args.terms.now.bound.now).bound in
    let whole = c.requires.next.by.goal in
    let less : c.args.label.now.progress < word_length c.args.terms.now.tour.now = omega arith in
    ok_also c.are_answered.result (λ b. Decides b (AreAnswered problem c.args.terms.now.target (c.args.step + 1) (there c.args.next.now) (successors_of problem c.args.step c.args.label.now)))
    (λ b. Decides b (IsAnsweredFor problem c.args.terms.now.target c.args.step (there c.args.next.now) c.args.label.now)) (λ b d. ((λ t unfinished. d.0 t), (λ h. d.1 (h less)))) c.are_answered.ensures
