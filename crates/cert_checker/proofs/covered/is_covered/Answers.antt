use Rattle.std.proofs.Common.{◌≡◌, length, ap, subst, arith, Decides}
use Rattle.std.proofs.lemmas.List.{take_all}
use Rattle.cert_text.specs.CoverLists.Planning.{problem_of}
use Rattle.cert_text.specs.CoverLists.Cover.{IsCovered}
use Rattle.cert_checker.specs.Parsed.{there}
use Rattle.cert_checker.proofs.covered.is_covered.Goals as goal

pub returns : goal.returns
returns g c =
    let problem = problem_of c.args.terms.now.tour.now (g.B.RuleBook.machine c.args.terms.now.book.now) in
    let l = c.args.asked.now in
    let all : length c.items-count.result.now ≡ length c.args.labels.now = ap length c.items-count.ensures in
    subst (λ os. Decides c.is_covered_before.result (IsCovered problem c.args.step (there os) l)) (take_all (length c.items-count.result.now) c.args.labels.now (omega arith)) c.is_covered_before.ensures
