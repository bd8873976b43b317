use Rattle.std.proofs.Common.{◌≡◌, ◌+◌, [], ◌∷◌, ◌++◌, append-nil, sym, ap, ◌∙◌, subst}
use Rattle.std.specs.Option.{option_to_list}
use Rattle.rule_core.specs.Reach.{idle_list}
use Rattle.rule_core.specs.Book.{IsBook}
use Rattle.tour_model.specs.Word.{word_length}
use Rattle.cert_text.specs.CoverLists.Problem.{grown_by, successors_of}
use Rattle.cert_text.specs.CoverLists.Planning.{problem_of, state_at}
use Rattle.label_extend.specs.Growths.{AreGrownAt}
use Rattle.label_extend.specs.Laws.GrowthLaws.{successors_built, finished_none, grown_label}
use Rattle.label_extend.proofs.extend.successors.Goals as goal
use Rattle.label_extend.proofs.extend.successors.Goals.{in-Some+in_ok-push_by-4, in_default}

pub returns : goal.returns
returns g c =
    let book = c.args.book.now in
    let tour = c.args.tour.now in
    let m = g.B.RuleBook.machine book in
    let law = subst (λ params. IsBook params m) c.requires.params (g.met.B.RuleBook.laws book) in
    let problem = problem_of tour m in
    let first = c.idles-first.result.first in
    let tries = ap idle_list (sym c.idles-first.ensures) in
    let exact : c.match-second.list ≡ successors_of problem c.args.step c.args.label.now =
    elim c.match-second.branch [
      | in-Some+in_ok-push_by-4 w ↦ successors_built problem c.args.step c.args.label.now first (w.in-Some.second ∷ []) c.new-list.result c.push_by.new.list c.push_by-2.new.list c.push_by-3.new.list c.match-second.list
          (tries ∙ ap (λ o. first ∷ option_to_list o) w.in-Some.is) c.new-list.ensures c.in_ok-push_by.ensures.ok c.in_ok-push_by-2.ensures.ok c.in_ok-push_by-3.ensures.ok
          (w.list-is ∙ (w.in_ok-push_by-4.ensures.ok ∙ ap (λ ys. c.push_by-3.new.list ++ ys) (sym (append-nil (grown_by problem c.args.step c.args.label.now w.in-Some.second)))))
      | in_default w ↦ successors_built problem c.args.step c.args.label.now first [] c.new-list.result c.push_by.new.list c.push_by-2.new.list c.push_by-3.new.list c.match-second.list
          (tries ∙ ap (λ o. first ∷ option_to_list o) w.in_default.is) c.new-list.ensures c.in_ok-push_by.ensures.ok c.in_ok-push_by-2.ensures.ok c.in_ok-push_by-3.ensures.ok
          (w.list-is ∙ sym (append-nil c.push_by-3.new.list))
    ] in
    record {
      exact = exact;
      labels = λ h. subst (AreGrownAt (state_at tour m) (word_length tour) (c.args.step + 1)) (sym exact)
          (grown_label tour m law c.requires.tour c.args.step c.args.label.now h);
      finished = λ e. exact ∙ finished_none tour m c.args.step c.args.label.now e;
    }
