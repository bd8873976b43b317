use Rattle.std.proofs.Common.{◌≡◌, ◌++◌, take}
use Rattle.cert_text.specs.Text.Spelling.{layers_lines}
use Rattle.cert_text.proofs.text.write.put_layers.Given as goal

abbrev pub invariant-loop-step : goal.invariant-loop-step
invariant-loop-step l = l.out.items ≡ l.fn.out.items ++ layers_lines 0 (take l.step l.layers)
