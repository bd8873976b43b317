-- The first bad line of a text.
use Rattle.std.specs.Prelude.{◌≡◌, ℕ, zero, suc, ◌<◌, ◌≤◌, ◌==◌, List, [], ◌++◌, codes}
use Rattle.std.specs.List.{count_by}
use Rattle.duty_core.specs.declared.params.Params.{Params}
use Rattle.cert_text.specs.declared.cert.Cert.{Cert}
use Rattle.cert_text.specs.declared.text.fault.CertFault.{CertFault}
use Rattle.cert_text.specs.declared.text.fault.CertFault.TheVariants as fault
use Rattle.cert_text.specs.Text.Form.{IsCertForm}
use Rattle.cert_text.specs.Text.Spelling.{IsCertText}

-- how many LFs there are
abbrev pub line_feeds : List ℕ → ℕ
line_feeds bytes = count_by (λ b. b == 10) bytes

-- a line: bytes without an LF, and an LF after them
pub record IsLine (line : List ℕ) : Type 0 where
  pub words : List ℕ
  pub one : line_feeds words ≡ 0
  pub ended : line ≡ words ++ codes "\n"

-- so many lines, one after the other
abbrev pub AreLines : ℕ → List ℕ → Type 0
AreLines zero text = text ≡ []
AreLines (suc n) text = (line : List ℕ) × (rest : List ℕ) × (text ≡ line ++ rest) × IsLine line × AreLines n rest

-- The text of some certificate begins with the first so many lines of the bytes. A last line without its LF is none of them.
pub record BeginsCert (params : Params) (bytes : List ℕ) (n : ℕ) : Type 0 where
  pub lines : List ℕ
  pub thereafter : List ℕ
  pub are_lines : AreLines n lines
  pub parts : bytes ≡ lines ++ thereafter
  pub cert : Cert
  pub rest : List ℕ
  pub form : IsCertForm params cert
  pub text : IsCertText params cert (lines ++ rest)

-- The line is the least, counted from 1, such that no certificate's text begins with the lines up to it.
pub record IsBadLine (params : Params) (bytes : List ℕ) (line : ℕ) : Type 0 where
  pub some : 1 ≤ line
  pub before : (n : ℕ) → n < line → BeginsCert params bytes n
  pub bad : BeginsCert params bytes line → ⊥

-- what a fault says of the bytes
abbrev pub IsFault : Params → List ℕ → CertFault → Type 0
IsFault params bytes (fault.Bad line) = IsBadLine params bytes line
IsFault params bytes fault.Memory = Unit {0}
