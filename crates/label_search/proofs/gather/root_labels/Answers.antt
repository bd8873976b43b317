use Rattle.std.proofs.Common.{◌≡◌, ◌+◌, sym, subst, arith, refl}
use Rattle.std.specs.Prelude.{None}
use Rattle.duty_core.specs.declared.activity.Activity.TheVariants.{Off}
use Rattle.rule_core.specs.Laws.OneOf.{one_of_item}
use Rattle.tour_model.specs.Word.{word_length}
use Rattle.label_state.specs.declared.kept.Kept.{Kept}
use Rattle.cert_text.specs.CoverLists.Problem.{root_label}
use Rattle.cert_text.specs.CoverLists.Planning.{minute_of, state_at}
use Rattle.label_search.specs.Searching.{AreLabelsAt}
use Rattle.label_search.proofs.GatherLaws.{IsRooting, rooting_more, rooted_whole, first_ordered, first_label, labels_push}
use Rattle.label_search.proofs.gather.root_labels.Goals as goal

pub loop-index-preserved : goal.loop-index-preserved
loop-index-preserved g c =
    let is_state = state_at c.args.tour.now (g.B.RuleBook.machine c.args.book.now) in
    let goal_length = word_length c.args.tour.now in
    let x = c.index-roots-index.result in
    let s = c.in_ok-copy.field-0 in
    let k : Kept _ = record { label = root_label s; parent = c.loop-index.index; act = Off; mark = None } in
    let e : c.args.tour.now.start ≡ minute_of c.args.tour.now 0 = omega arith in
    let here = subst (λ t. (g.B.RuleBook.machine c.args.book.now).is_state t (minute_of c.args.tour.now 0)) (sym c.in_ok-copy.ensures.same)
    (subst ((g.B.RuleBook.machine c.args.book.now).is_state x.state) e (c.requires.roots x (one_of_item c.args.roots.now c.loop-index.index x c.loop-index-test.true c.index-roots-index.is))) in
    let list = c.loop-index.list.items in
    record {
      rooted = subst (λ ys. IsRooting c.args.roots.now (c.loop-index.index + 1) ys) (sym c.in_ok-push.ensures.items)
          (rooting_more c.args.roots.now list c.loop-index.index x s k c.loop-index-test.true c.index-roots-index.is c.in_ok-copy.ensures.same refl c.loop-index.invariant.rooted);
      labels = subst (AreLabelsAt is_state goal_length 0) (sym c.in_ok-push.ensures.items) (labels_push is_state goal_length 0 list k c.loop-index.invariant.labels (first_label is_state goal_length s here));
    }

pub returns-clause-first : goal.returns-clause-first
returns-clause-first g c = rooted_whole c.args.roots.now c.loop-index.list.items c.loop-index.index c.loop-index-test.false c.loop-index.invariant.rooted

pub returns-clause-ordered : goal.returns-clause-ordered
returns-clause-ordered g c = first_ordered c.args.roots.now c.loop-index.list.items c.loop-index.invariant.rooted.first
