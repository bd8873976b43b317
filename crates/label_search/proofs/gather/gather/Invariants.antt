use Rattle.std.proofs.Common.{◌+◌, take}
use Rattle.tour_model.specs.Word.{word_length}
use Rattle.cert_text.specs.CoverLists.Planning.{problem_of, state_at}
use Rattle.label_search.specs.Searching.{AreLabelsAt}
use Rattle.label_search.proofs.GatherLaws.{IsGathering}
use Rattle.label_search.proofs.gather.gather.Given as goal

abbrev pub invariant-loop-index : goal.invariant-loop-index
invariant-loop-index g l = record {
  gathered : IsGathering (problem_of l.tour (g.B.RuleBook.machine l.book)) l.limit l.step l.layer (take l.index l.layer) l.list.items;
  labels : AreLabelsAt (state_at l.tour (g.B.RuleBook.machine l.book)) (word_length l.tour) (l.step + 1) l.list.items;
}
