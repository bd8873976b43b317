use Rattle.tour_model.specs.Word.{word_length}
use Rattle.cert_text.specs.CoverLists.Planning.{state_at}
use Rattle.label_search.specs.Searching.{AreLabelsAt}
use Rattle.label_search.proofs.GatherLaws.{IsRooting}
use Rattle.label_search.proofs.gather.root_labels.Given as goal

abbrev pub invariant-loop-index : goal.invariant-loop-index
invariant-loop-index g l = record {
  rooted : IsRooting l.roots l.index l.list.items;
  labels : AreLabelsAt (state_at l.tour (g.B.RuleBook.machine l.book)) (word_length l.tour) 0 l.list.items;
}
