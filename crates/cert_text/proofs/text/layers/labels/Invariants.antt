use Rattle.std.proofs.Common.{◌≡◌, ℕ, ◌-◌}
use Rattle.cert_text.specs.declared.cert.CertLabel.{CertLabel}
use Rattle.cert_text.specs.Text.Reading.{repeat_at, label_at, labels_at}
use Rattle.cert_text.proofs.Loop.{with_front}
use Rattle.cert_text.proofs.text.layers.labels.Given as goal

abbrev pub invariant-loop : goal.invariant-loop
invariant-loop l = with_front l.labels (repeat_at (λ (l : CertLabel). l) (λ (s : ℕ). label_at) (λ s l. s) (l.count - l.counter) 0 l.rest) ≡ labels_at l.count l.bytes
