use Rattle.std.proofs.Common.{◌≡◌, take}
use Rattle.cert_checker.specs.Parsed.{labels_of}
use Rattle.cert_checker.proofs.parse.read_labels.Given as goal

abbrev pub invariant-loop-label : goal.invariant-loop-label
invariant-loop-label g l = l.list.items ≡ labels_of (g.B.RuleBook.machine l.book).state_of l.goal l.at (take l.label-index l.labels)
