use Rattle.std.proofs.Common.{◌+◌, ◌-◌, ◌<◌, ◌≤◌, refl, sym, ◌∙◌, ap, subst, arith}
use Rattle.std.specs.Prelude.{None, vec_len}
use Rattle.rule_core.specs.Book.{IsBook}
use Rattle.rule_core.specs.Reach.{IsOneOf}
use Rattle.tour_model.specs.Layer.{layer_at}
use Rattle.tour_model.specs.Word.{word_length}
use Rattle.cert_text.specs.CoverLists.Planning.{problem_of, state_at, IsLogState}
use Rattle.cert_text.specs.CoverLists.Laws.ProblemOf.{word_some}
use Rattle.label_state.specs.Layers.{label_count}
use Rattle.label_search.specs.Sound.{IsFirstLayer, IsSound}
use Rattle.label_search.specs.Searched.{layers_of, IsAnswer, IsWithin}
use Rattle.label_search.specs.Searching.{AreLabelsAt, AreGathered, AddsLayer, IsBestOf}
use Rattle.label_search.proofs.FillLaws.{adds_some}
use Rattle.label_search.proofs.SearchLaws.{some_by, none_by, searching_first, searching_more, searched_covers}
use Rattle.label_search.proofs.AnswerLaws.{ended_answer, spent_answer, ended_within, ended_layers}
use Rattle.label_search.proofs.by_layers.search.Goals as goal
use Rattle.label_search.proofs.by_layers.search.Goals.{In_ok-next}

-- what is gathered from this step's layer
gathered_of : (g : _) (c : In_ok-next g) → AreGathered (problem_of c.args.tour.now (g.B.RuleBook.machine c.args.book.now))
    c.loop-alloc.best.limit c.loop-alloc.step (layer_at c.loop-alloc.layers c.loop-alloc.step) c.in_ok-next.next.items
gathered_of g c =
    let problem = problem_of c.args.tour.now (g.B.RuleBook.machine c.args.book.now) in
    subst (λ ys. AreGathered problem c.loop-alloc.best.limit c.loop-alloc.step ys c.in_ok-next.next.items) c.layer.ensures c.in_ok-next.ensures.gathered

pub loop-alloc-init : goal.loop-alloc-init
loop-alloc-init g c =
    let book = c.args.book.now in
    let tour = c.args.tour.now in
    let problem = problem_of tour (g.B.RuleBook.machine book) in
    let goes : 1 ≤ word_length tour = (let s = word_some tour c.requires.tour in omega arith) in
    searching_first problem c.args.roots.now (state_at tour (g.B.RuleBook.machine book)) c.args.budget (record { limit = c.in_ok-first_limit.field-0; place = None }) c.in_ok-first.first.items c.add_layer.new.layers goes refl
    c.in_ok-first.ensures.first c.in_ok-first.ensures.labels
    (subst (λ ls. AddsLayer problem c.args.budget c.in_ok-first.first.items ls c.add_layer.new.layers) c.new-layers.ensures c.in_ok-add_layer.ensures.ok)

pub gather-requires-clause-layer : goal.gather-requires-clause-layer
gather-requires-clause-layer g c k o = c.loop-alloc.invariant.labels c.loop-alloc.step k (subst (λ ys. IsOneOf ys k) c.layer.ensures o)

pub returns-then-is_empty-clause-sound : goal.returns-then-is_empty-clause-sound
returns-then-is_empty-clause-sound g c =
    let book = c.args.book.now in
    let problem = problem_of c.args.tour.now (g.B.RuleBook.machine book) in
    subst (IsSound problem c.args.roots.now) (sym (ap layers_of c.ended.ensures ∙ ended_layers c.loop-alloc.best.place c.loop-alloc.layers)) c.loop-alloc.invariant.sound

pub returns-then-is_empty-clause-first : goal.returns-then-is_empty-clause-first
returns-then-is_empty-clause-first g c =
    let book = c.args.book.now in
    let problem = problem_of c.args.tour.now (g.B.RuleBook.machine book) in
    subst (λ ls. IsFirstLayer problem c.args.roots.now c.args.budget (layer_at ls 0)) (sym (ap layers_of c.ended.ensures ∙ ended_layers c.loop-alloc.best.place c.loop-alloc.layers)) c.loop-alloc.invariant.rooted

pub returns-then-is_empty-clause-within : goal.returns-then-is_empty-clause-within
returns-then-is_empty-clause-within g c =
    let lt : label_count c.loop-alloc.layers < c.args.budget = omega arith in
    subst (IsWithin c.args.budget) (sym c.ended.ensures) (ended_within c.args.budget c.loop-alloc.best.place c.loop-alloc.layers lt)

pub returns-then-is_empty-clause-answer : goal.returns-then-is_empty-clause-answer
returns-then-is_empty-clause-answer g c log l h =
    let book = c.args.book.now in
    let tour = c.args.tour.now in
    let roots = c.args.roots.now in
    let m = g.B.RuleBook.machine book in
    let law = subst (λ params. IsBook params m) c.requires.params (g.met.B.RuleBook.laws book) in
    let problem = problem_of tour m in
    let is_state = state_at tour m in
    let lt : label_count c.loop-alloc.layers < c.args.budget = omega arith in
    let none = none_by c.in_ok-next.next.items (vec_len c.in_ok-next.next) c.is_empty.result (omega arith) c.is_empty.ensures c.if-is_empty.true in
    let s = c.loop-alloc.invariant in
    let best = c.loop-alloc.best in
    let covers = searched_covers problem roots is_state c.args.budget c.loop-alloc.step c.in_ok-first_limit.field-0 best c.loop-alloc.layers c.in_ok-next.next.items s lt (gathered_of g (goal.at.returns-then-is_empty-clause-answer g c).In_ok-next) none in
    subst (λ a. IsAnswer problem is_state tour log (IsLogState tour log m) roots c.args.budget a) (sym c.ended.ensures)
    (ended_answer tour log m law c.requires.tour l roots h c.args.budget c.in_ok-first_limit.field-0 best.limit best.place c.loop-alloc.layers s.sound c.in_ok-first_limit.ensures s.found s.unfound covers)

pub add_layer-requires-in-loop-alloc-clause-labels : goal.add_layer-requires-in-loop-alloc-clause-labels
add_layer-requires-in-loop-alloc-clause-labels g c =
    subst (λ n. AreLabelsAt (state_at c.args.tour.now (g.B.RuleBook.machine c.args.book.now)) (word_length c.args.tour.now) n c.in_ok-next.next.items) (sym c.loop-alloc.invariant.depth) c.in_ok-next.ensures.labels

pub loop-alloc-smaller : goal.loop-alloc-smaller
loop-alloc-smaller g c =
    let book = c.args.book.now in
    let problem = problem_of c.args.tour.now (g.B.RuleBook.machine book) in
    let lt : label_count c.loop-alloc.layers < c.args.budget = omega arith in
    let some = some_by c.in_ok-next.next.items (vec_len c.in_ok-next.next) c.is_empty.result (omega arith) c.is_empty.ensures c.if-is_empty.false in
    let more = adds_some problem c.args.budget c.in_ok-next.next.items c.loop-alloc.layers c.add_layer-in-loop-alloc.new.layers c.in_ok-add_layer-2.ensures.ok lt some in
    let r : c.args.budget - label_count c.add_layer-in-loop-alloc.new.layers < c.args.budget - label_count c.loop-alloc.layers = omega arith in r

pub loop-alloc-preserved : goal.loop-alloc-preserved
loop-alloc-preserved g c =
    let book = c.args.book.now in
    let tour = c.args.tour.now in
    let problem = problem_of tour (g.B.RuleBook.machine book) in
    let step = c.loop-alloc.step in
    let new = c.add_layer-in-loop-alloc.new.layers in
    let lt : label_count c.loop-alloc.layers < c.args.budget = omega arith in
    let some = some_by c.in_ok-next.next.items (vec_len c.in_ok-next.next) c.is_empty.result (omega arith) c.is_empty.ensures c.if-is_empty.false in
    let best = subst (λ n. IsBestOf n (step + 1) (layer_at new (step + 1)) c.loop-alloc.best c.best_of-best.result) c.word_len-goal.ensures
    (subst (λ ys. IsBestOf c.word_len-goal.result (step + 1) ys c.loop-alloc.best c.best_of-best.result) c.layer-in-loop-alloc.ensures c.best_of-best.ensures) in
    searching_more problem c.args.roots.now (state_at tour (g.B.RuleBook.machine book)) c.args.budget step c.in_ok-first_limit.field-0 c.loop-alloc.best c.best_of-best.result c.loop-alloc.layers new c.in_ok-next.next.items
    c.loop-alloc.invariant lt (gathered_of g (goal.at.loop-alloc-preserved g c).In_ok-next) c.in_ok-next.ensures.labels some c.in_ok-add_layer-2.ensures.ok best

pub returns-clause-answer : goal.returns-clause-answer
returns-clause-answer g c log l h =
    let book = c.args.book.now in
    let tour = c.args.tour.now in
    let m = g.B.RuleBook.machine book in
    let law = subst (λ params. IsBook params m) c.requires.params (g.met.B.RuleBook.laws book) in
    let full : c.args.budget ≤ label_count c.loop-alloc.layers = omega arith in
    spent_answer tour log m law c.requires.tour l c.args.roots.now h c.args.budget c.loop-alloc.step c.in_ok-first_limit.field-0 c.loop-alloc.best c.loop-alloc.layers c.in_ok-first_limit.ensures c.loop-alloc.invariant full
