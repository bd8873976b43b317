use Rattle.std.proofs.Common.{◌≡◌, ◌+◌, ◌<◌, length, ◌∙◌, ap, subst, arith}
use Rattle.std.specs.Prelude.{MatchOption}
use Rattle.std.proofs.lemmas.List.{length-map}
use Rattle.tour_model.specs.Layer.{layer_at}
use Rattle.tour_model.specs.Word.{word_length}
use Rattle.cert_text.specs.CoverLists.Planning.{problem_by, state_at, minute_of}
use Rattle.cert_checker.specs.Parsed.{label_of, there}
use Rattle.cert_checker.specs.Conditions.{PassUpTo, IsFirstFault}
use Rattle.cert_checker.proofs.LabelLaws.{lines_more, read_is, layers_more, layers_whole}
use Rattle.cert_checker.proofs.layers.first_label.Goals as goal

pub loop-step-init : goal.loop-step-init
loop-step-init g c = record {
  line = omega arith;
  small = omega arith;
  read = read_is (g.B.RuleBook.machine c.args.terms.now.book.now).state_of c.args.terms.now.tour.now c.args.terms.now.goal 0 c.items-layers.result.now c.args.layers.now c.in_ok-labels.labels c.in_ok-labels.ensures.labels c.requires.terms.goal c.items-layers.ensures;
  states = c.in_ok-labels.ensures.states;
  within = c.in_ok-labels.ensures.within;
  pass = λ step lt. absurd (omega arith);
}

pub loop-step-preserved : goal.loop-step-preserved
loop-step-preserved g c =
    let problem = problem_by c.args.terms.now.tour.now (g.B.RuleBook.machine c.args.terms.now.book.now) (g.K.LabelBound.bounds c.args.terms.now.bound.now).bound in
    let is_state = state_at c.args.terms.now.tour.now (g.B.RuleBook.machine c.args.terms.now.book.now) in
    let state_of = (g.B.RuleBook.machine c.args.terms.now.book.now).state_of in
    let tour = c.args.terms.now.tour.now in
    let layers = c.args.layers.now in
    let step = c.loop-step.step in
    let os = c.loop-step.labels in
    let next = c.in_ok-next.next in
    let all : length c.items-layers.result.now ≡ length layers = ap length c.items-layers.ensures in
    let lt : step < length layers = omega arith in
    let more = lines_more layers step lt in
    let few = c.requires.labels step in
    let n : length os ≡ length (layer_at layers step) = ap length c.loop-step.invariant.read ∙ length-map (layer_at layers step) (label_of state_of (word_length tour) (minute_of tour step)) in
    let v : length c.items.result.now ≡ length os = ap length c.items.ensures in
    let line = c.loop-step.invariant.line in
    let small = c.loop-step.invariant.small in
    let read = read_is state_of tour c.args.terms.now.goal (step + 1) c.items-layers.result.now layers next c.in_ok-next.ensures.labels c.requires.terms.goal c.items-layers.ensures in
    let pass = subst (λ o. MatchOption o (PassUpTo problem is_state c.args.terms.now.target step os (there next) (length os)) (IsFirstFault problem is_state c.args.terms.now.target step os (there next))) c.in_default.is c.in_ok-fault.ensures in
    record {
      line = omega arith;
      small = omega arith;
      read = read;
      states = c.in_ok-next.ensures.states;
      within = c.in_ok-next.ensures.within;
      pass = layers_more problem is_state state_of tour c.args.terms.now.target layers step os next c.loop-step.invariant.pass c.loop-step.invariant.read read pass;
    }

pub returns : goal.returns
returns g c =
    let problem = problem_by c.args.terms.now.tour.now (g.B.RuleBook.machine c.args.terms.now.book.now) (g.K.LabelBound.bounds c.args.terms.now.bound.now).bound in
    let is_state = state_at c.args.terms.now.tour.now (g.B.RuleBook.machine c.args.terms.now.book.now) in
    let all : length c.items-layers.result.now ≡ length c.args.layers.now = ap length c.items-layers.ensures in
    layers_whole problem is_state (g.B.RuleBook.machine c.args.terms.now.book.now).state_of c.args.terms.now.tour.now c.args.terms.now.target c.args.layers.now c.loop-step.step (length c.args.layers.now) (omega arith) c.loop-step.invariant.pass
