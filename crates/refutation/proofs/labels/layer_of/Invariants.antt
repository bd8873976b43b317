use Rattle.std.proofs.Common.{take}
use Rattle.label_state.specs.Layers.{labels_of}
use Rattle.cert_text.specs.Cert.{AreLabelsOf}
use Rattle.refutation.proofs.labels.layer_of.Given as goal

abbrev pub invariant-loop-kept : goal.invariant-loop-kept
invariant-loop-kept g l = AreLabelsOf (g.B.RuleBook.machine l.book).state_of l.at l.labels (labels_of (take l.kept-index l.layer))
