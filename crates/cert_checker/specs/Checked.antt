-- What it means that bytes are a certificate of a tour after a log, and what a check of them finds.
use Rattle.std.specs.Prelude.{◌≡◌, ℕ, List, Some}
use Rattle.duty_core.specs.declared.activity.Activity.{Activity}
use Rattle.tour_model.specs.declared.tour.Tour.{Tour}
use Rattle.tour_model.specs.Schedule.{IsInfeasible}
use Rattle.cert_text.specs.declared.cert.Cert.{Cert}
use Rattle.cert_text.specs.declared.cert.CertKind.TheVariants.{Shortest, Infeasible}
use Rattle.cert_text.specs.Cert.{IsValidCert}
use Rattle.cert_text.specs.Text.Form.{IsCertForm}
use Rattle.cert_text.specs.Text.Spelling.{IsCertText}
use Rattle.cert_text.specs.Text.BadLine.{IsBadLine}
use Rattle.cert_checker.specs.declared.verdict.Reason.{Reason}
use Rattle.cert_checker.specs.declared.verdict.Reason.TheVariants as reason
use Rattle.cert_checker.specs.declared.verdict.Verdict.{Verdict}
use Rattle.cert_checker.specs.declared.verdict.Verdict.TheVariants as verdict
use Rattle.rule_books.specs.Books.{book_for}
use Rattle.cert_checker.specs.Verdicts.{IsVerdict, IsFirstFailure, IsOwnShortest}

-- The certificate is valid for the tour after the log, by the rule book of the tour's parameters.
abbrev pub IsValidFor : Tour → List Activity → Cert → Type 0
IsValidFor tour log cert = IsValidCert tour log (book_for tour.params) cert

-- What a verdict says of a certificate of the tour after the log, by that book.
abbrev pub IsVerdictFor : Tour → List Activity → Cert → Verdict → Type 0
IsVerdictFor tour log cert = IsVerdict tour log (book_for tour.params) cert

-- The bytes are the text of this certificate, and it is valid.
abbrev pub IsCertificate : Tour → List Activity → List ℕ → Cert → Type 0
IsCertificate tour log bytes cert = IsCertText tour.params cert bytes × IsCertForm tour.params cert × IsValidFor tour log cert

-- The bytes are the text of no certificate, and this line, counted from 1, is the first bad one.
pub record IsNoText (tour : Tour) (bytes : List ℕ) (line : ℕ) : Type 0 where
  pub none : (cert : Cert) → IsCertText tour.params cert bytes → IsCertForm tour.params cert → ⊥
  pub bad : IsBadLine tour.params bytes line

-- The bytes are the text of this certificate, and this is the first line at which a condition fails, and the first that fails there.
pub record IsFaultyText (tour : Tour) (log : List Activity) (bytes : List ℕ) (line : ℕ) (why : Reason) : Type 0 where
  pub cert : Cert
  pub text : IsCertText tour.params cert bytes
  pub form : IsCertForm tour.params cert
  pub first : IsFirstFailure tour log (book_for tour.params) cert (record { line = line; reason = why })

-- The line and the reason tell why the bytes are no certificate.
abbrev pub IsWhy : Tour → List Activity → List ℕ → ℕ → Reason → Type 0
IsWhy tour log bytes line reason.Grammar = IsNoText tour bytes line
IsWhy tour log bytes line why = IsFaultyText tour log bytes line why

-- What a check of the bytes finds.
abbrev pub IsCheck : Tour → List Activity → List ℕ → Verdict → Type 0
IsCheck tour log bytes (verdict.Shortest steps) = (cert : Cert) × IsCertificate tour log bytes cert × (cert.kind ≡ Shortest) × (cert.target ≡ Some steps)
IsCheck tour log bytes verdict.Infeasible = (cert : Cert) × IsCertificate tour log bytes cert × (cert.kind ≡ Infeasible)
IsCheck tour log bytes (verdict.Rejected line why) = ((cert : Cert) → IsCertificate tour log bytes cert → ⊥) × IsWhy tour log bytes line why

-- What follows from a verdict on the bytes: the certificate of which they are the text has a schedule that is a shortest one and takes so many steps, or there is no solution.
abbrev pub Follows : Tour → List Activity → List ℕ → Verdict → Type 0
Follows tour log bytes (verdict.Shortest steps) = (cert : Cert) → IsCertificate tour log bytes cert → IsOwnShortest tour log cert steps
Follows tour log bytes verdict.Infeasible = IsInfeasible tour log
Follows tour log bytes (verdict.Rejected line why) = Unit {0}
