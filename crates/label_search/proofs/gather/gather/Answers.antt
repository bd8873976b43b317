use Rattle.std.proofs.Common.{◌+◌, subst, arith}
use Rattle.rule_core.specs.Book.{IsBook}
use Rattle.rule_core.specs.Laws.OneOf.{one_of_item}
use Rattle.tour_model.specs.Word.{word_length}
use Rattle.cert_text.specs.CoverLists.Problem.{successors_of}
use Rattle.cert_text.specs.CoverLists.Planning.{problem_of, state_at}
use Rattle.cert_text.specs.CoverLists.Laws.ProblemOf.{word_few}
use Rattle.label_extend.specs.Laws.GrowthLaws.{grown_label}
use Rattle.label_search.proofs.GatherLaws.{gathering_more, gathered_sorted, labels_gathered, labels_permuted, labels_small}
use Rattle.label_search.proofs.gather.gather.Goals as goal

pub gather_from-requires-clause-label : goal.gather_from-requires-clause-label
gather_from-requires-clause-label g c = c.requires.layer c.index-layer-index.result (one_of_item c.args.layer.now c.loop-index.index c.index-layer-index.result c.loop-index-test.true c.index-layer-index.is)

pub loop-index-preserved : goal.loop-index-preserved
loop-index-preserved g c =
    let book = c.args.book.now in
    let tour = c.args.tour.now in
    let m = g.B.RuleBook.machine book in
    let law = subst (λ params. IsBook params m) c.requires.params (g.met.B.RuleBook.laws book) in
    let problem = problem_of tour m in
    let is_state = state_at tour m in
    let x = c.index-layer-index.result in
    let here = c.requires.layer x (one_of_item c.args.layer.now c.loop-index.index x c.loop-index-test.true c.index-layer-index.is) in
    let grown = grown_label tour m law c.requires.tour c.args.step x.label here in
    record {
      gathered = gathering_more problem c.args.limit c.args.step c.args.layer.now c.loop-index.list.items c.gather_from.new.list.items c.loop-index.index x c.loop-index-test.true c.index-layer-index.is
          c.loop-index.invariant.gathered c.in_ok-gather_from.ensures.ok;
      labels = labels_gathered problem c.args.limit (c.args.step + 1) c.loop-index.index (successors_of problem c.args.step x.label) c.loop-index.list.items c.gather_from.new.list.items is_state (word_length tour)
          c.loop-index.invariant.labels grown c.in_ok-gather_from.ensures.ok;
    }

pub put_in_order-requires : goal.put_in_order-requires
put_in_order-requires g c = record {
  small = labels_small (state_at c.args.tour.now (g.B.RuleBook.machine c.args.book.now)) (word_length c.args.tour.now) (c.args.step + 1) c.loop-index.list.items (let few = word_few c.args.tour.now c.requires.tour in omega arith) (omega arith) c.loop-index.invariant.labels;
}

pub returns-clause-gathered : goal.returns-clause-gathered
returns-clause-gathered g c =
    let book = c.args.book.now in
    let problem = problem_of c.args.tour.now (g.B.RuleBook.machine book) in
    gathered_sorted problem c.args.limit c.args.step c.args.layer.now c.loop-index.list.items c.put_in_order.new.list.items c.loop-index.index c.loop-index-test.false c.loop-index.invariant.gathered c.in_ok-put_in_order.ensures.same

pub returns-clause-labels : goal.returns-clause-labels
returns-clause-labels g c =
    labels_permuted (state_at c.args.tour.now (g.B.RuleBook.machine c.args.book.now)) (word_length c.args.tour.now) (c.args.step + 1) c.loop-index.list.items c.put_in_order.new.list.items c.in_ok-put_in_order.ensures.same c.loop-index.invariant.labels
