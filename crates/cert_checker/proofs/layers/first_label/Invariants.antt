use Rattle.std.proofs.Common.{◌≡◌, ◌+◌, ◌*◌, ◌≤◌}
use Rattle.tour_model.specs.Word.{word_length}
use Rattle.cert_text.specs.CoverLists.Planning.{problem_by, state_at, minute_of}
use Rattle.cert_checker.specs.Parsed.{AreStatesIn, AreWithin}
use Rattle.cert_checker.specs.Conditions.{LayersPass, layer_of, lines_before}
use Rattle.cert_checker.proofs.layers.first_label.Given as goal

abbrev pub invariant-loop-step : goal.invariant-loop-step
invariant-loop-step g l = record {
  line : l.line ≡ l.first + lines_before l.fn.layers l.step;
  small : l.line ≤ l.first + l.step * 1000000;
  read : l.labels ≡ layer_of (g.B.RuleBook.machine l.terms.book.now).state_of l.terms.tour.now (word_length l.terms.tour.now) l.fn.layers l.step;
  states : AreStatesIn (λ s. (g.B.RuleBook.machine l.terms.book.now).is_state s (minute_of l.terms.tour.now l.step)) l.labels;
  within : AreWithin l.terms.goal l.labels;
  pass : LayersPass (problem_by l.terms.tour.now (g.B.RuleBook.machine l.terms.book.now) (g.K.LabelBound.bounds l.terms.bound.now).bound) (state_at l.terms.tour.now (g.B.RuleBook.machine l.terms.book.now)) (g.B.RuleBook.machine l.terms.book.now).state_of l.terms.tour.now l.terms.target l.fn.layers l.step;
}
