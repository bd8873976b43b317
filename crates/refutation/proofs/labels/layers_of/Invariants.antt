use Rattle.std.proofs.Common.{◌≡◌, length, take}
use Rattle.label_state.specs.Layers.{label_layers}
use Rattle.cert_text.specs.Cert.{AreLayersOf}
use Rattle.refutation.proofs.labels.layers_of.Given as goal

abbrev pub invariant-loop-step : goal.invariant-loop-step
invariant-loop-step g l = record {
  written : AreLayersOf (g.B.RuleBook.machine l.book).state_of l.tour 0 l.list (label_layers (take l.step l.layers));
  long : length l.list ≡ l.step;
}
