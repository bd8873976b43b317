use Rattle.std.proofs.Common.{◌≡◌, ◌-◌, ◌+◌, List}
use Rattle.cert_text.specs.declared.cert.CertLabel.{CertLabel}
use Rattle.cert_text.specs.Text.Reading.{repeat_at, layer_at, layers_at}
use Rattle.cert_text.proofs.Loop.{with_front}
use Rattle.cert_text.proofs.text.layers.layers.Given as goal

abbrev pub invariant-loop-step : goal.invariant-loop-step
invariant-loop-step l = with_front l.layers (repeat_at (λ (l : List CertLabel). l) layer_at (λ s l. s + 1) (l.count - l.step) l.step l.rest) ≡ layers_at l.count l.bytes
