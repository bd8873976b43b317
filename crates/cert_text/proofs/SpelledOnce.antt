-- A certificate is spelled once.
use Rattle.std.proofs.Common.{◌≡◌, ℕ, ◌<◌, List, [], ◌∷◌, ◌++◌, codes, Ok, sym, ap, subst, ◌∙◌}
use Rattle.civil_minutes.specs.Time.{IsTimeText}
use Rattle.civil_minutes.proofs.TimeTexts.{one_text}
use Rattle.duty_core.specs.declared.mark.Mark.{Mark}
use Rattle.duty_core.specs.declared.params.Params.{Params}
use Rattle.duty_core.specs.Day.{day_start}
use Rattle.cert_text.specs.declared.cert.Cert.{Cert}
use Rattle.cert_text.specs.Text.Form.{IsCertForm}
use Rattle.cert_text.specs.Text.Spelling.{mark_word, IsMarkLine, AreMarkLines, claim_lines, cover_lines, IsCertText}
use Rattle.cert_text.specs.Text.Laws.MarkTextLaws.{one_minute}
use Rattle.cert_text.specs.Text.Laws.CertTextLaws.{cert_again}

one_mark_line : (params : Params) (mark : Mark) (a b : List ℕ) → IsMarkLine params mark a → IsMarkLine params mark b → a ≡ b
one_mark_line params mark a b h k =
    let at = one_minute params mark k.at h.at k.minute h.minute in
    let time = one_text h.time k.time h.at h.time_is (subst (λ n. IsTimeText k.time n) at k.time_is) in
    h.spelled ∙ ap (λ (t : List ℕ). codes "m " ++ (mark_word mark ++ (t ++ codes "\n"))) time ∙ sym k.spelled

one_mark_text : (params : Params) (marks : List Mark) (a b : List ℕ) → AreMarkLines params marks a → AreMarkLines params marks b → a ≡ b
one_mark_text params [] a b h k = h ∙ sym k
one_mark_text params (mark ∷ marks) a b h k =
    let line = one_mark_line params mark h.0 k.0 h.3 k.3 in
    let rest = one_mark_text params marks h.1 k.1 h.4 k.4 in
    h.2 ∙ ap (λ (l : List ℕ). l ++ h.1) line ∙ ap (λ (r : List ℕ). k.0 ++ r) rest ∙ sym k.2

-- a certificate has at most one text
pub one_cert_text : (params : Params) (cert : Cert) (a b : List ℕ) → IsCertText params cert a → IsCertText params cert b → a ≡ b
one_cert_text params cert a b h k =
    h.spelled ∙ ap (λ (m : List ℕ). claim_lines cert ++ (m ++ cover_lines cert.layers)) (one_mark_text params cert.marks h.marks k.marks h.mark_lines k.mark_lines) ∙ sym k.spelled

-- a text is that of at most one certificate
pub one_cert_of : (params : Params) (a b : Cert) (text : List ℕ) → day_start params < 1440 → IsCertForm params a → IsCertForm params b → IsCertText params a text → IsCertText params b text → a ≡ b
one_cert_of params a b text low form form' is is' =
    let same : Ok a ≡ Ok b = sym (cert_again params text a low form is) ∙ cert_again params text b low form' is' in cc
