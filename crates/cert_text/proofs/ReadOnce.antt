-- One certificate at most has the text.
use Rattle.std.proofs.Common.{◌≡◌, ℕ, ◌<◌, List, Ok, Err, sym, ◌∙◌}
use Rattle.duty_core.specs.declared.params.Params.{Params}
use Rattle.duty_core.specs.Day.{day_start}
use Rattle.duty_core.specs.Laws.BookFacts.{starts_in_day}
use Rattle.tour_model.specs.Tour.{IsParams}
use Rattle.cert_text.specs.declared.cert.Cert.{Cert}
use Rattle.cert_text.specs.Text.Form.{IsCertForm}
use Rattle.cert_text.specs.Text.Spelling.{IsCertText}
use Rattle.cert_text.specs.Text.Reading.{cert_at}
use Rattle.cert_text.specs.Text.Laws.CertTextLaws.{cert_again}

-- a day of a tour begins before midnight
pub start_low : (params : Params) → IsParams params → day_start params < 1440
start_low params is = starts_in_day params is

pub one_cert : (params : Params) (bytes : List ℕ) (found cert : Cert) → day_start params < 1440 → cert_at params bytes ≡ Ok found → IsCertForm params cert → IsCertText params cert bytes → found ≡ cert
one_cert params bytes found cert low e form text =
    let again = cert_again params bytes cert low form text in
    let same : Ok found ≡ Ok cert = sym e ∙ again in cc

pub not_left : (params : Params) (bytes : List ℕ) (left : ℕ) (cert : Cert) → day_start params < 1440 → cert_at params bytes ≡ Err left → IsCertForm params cert → IsCertText params cert bytes → ⊥
not_left params bytes left cert low e form text =
    let again = cert_again params bytes cert low form text in
    let same : Err left ≡ Ok cert = sym e ∙ again in cc
