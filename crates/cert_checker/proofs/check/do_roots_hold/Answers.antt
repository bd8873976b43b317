use Rattle.std.proofs.Common.{◌≡◌, Decides, subst}
use Rattle.tour_model.specs.Word.{word_length}
use Rattle.cert_text.specs.CoverLists.Planning.{problem_of}
use Rattle.cert_checker.specs.Parsed.{there}
use Rattle.cert_checker.specs.Conditions.{layer_of}
use Rattle.cert_checker.specs.Rooted.{AreRooted}
use Rattle.cert_checker.proofs.LabelLaws.{read_is}
use Rattle.cert_checker.proofs.check.do_roots_hold.Goals as goal

pub returns : goal.returns
returns g c =
    let problem = problem_of c.args.terms.now.tour.now (g.B.RuleBook.machine c.args.terms.now.book.now) in
    let tour = c.args.terms.now.tour.now in
    let cert = c.args.cert.now in
    let state_of = (g.B.RuleBook.machine c.args.terms.now.book.now).state_of in
    let read : c.in_ok-labels.labels ≡ layer_of state_of tour (word_length tour) cert.layers 0 = read_is state_of tour c.args.terms.now.goal 0 c.items.result.now cert.layers c.in_ok-labels.labels c.in_ok-labels.ensures.labels c.requires.terms.goal c.items.ensures in
    subst (λ os. Decides c.are_rooted.result (AreRooted problem (there os) c.args.roots.now)) read
    (subst (λ rs. Decides c.are_rooted.result (AreRooted problem (there c.in_ok-labels.labels) rs)) c.items-2.ensures c.are_rooted.ensures)
