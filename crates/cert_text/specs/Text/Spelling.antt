-- The text of a certificate: its lines, each of words with one space between them, and an LF after each.
use Rattle.std.specs.Prelude.{◌≡◌, ℕ, ◌+◌, pos, List, [], ◌∷◌, ◌++◌, length, codes, Option, None, Some}
use Rattle.std.specs.Fmt.{decimal}
use Rattle.std.specs.List.{flat_map}
use Rattle.civil_minutes.specs.Time.{IsTimeText}
use Rattle.duty_core.specs.declared.activity.Activity.{Activity}
use Rattle.duty_core.specs.declared.activity.Activity.TheVariants.{Drive, Serve, Wait, Off, Berth}
use Rattle.duty_core.specs.declared.mark.Mark.{Mark}
use Rattle.duty_core.specs.declared.mark.Mark.TheVariants.{SplitRest, DeferDay}
use Rattle.duty_core.specs.declared.params.Params.{Params}
use Rattle.duty_core.specs.Marks.{mark_minute}
use Rattle.cert_text.specs.declared.cert.Cert.{Cert}
use Rattle.cert_text.specs.declared.cert.CertKind.{CertKind}
use Rattle.cert_text.specs.declared.cert.CertKind.TheVariants.{Shortest, Infeasible}
use Rattle.cert_text.specs.declared.cert.CertLabel.{CertLabel}
use Rattle.cert_text.specs.declared.cert.StepRun.{StepRun}

-- the letter of an activity
abbrev pub letter : Activity → List ℕ
letter Drive = codes "D"
letter Serve = codes "S"
letter Wait = codes "W"
letter Off = codes "O"
letter Berth = codes "B"

-- a line of a word and a number
abbrev pub number_line : List ℕ → ℕ → List ℕ
number_line word n = word ++ (decimal n ++ codes "\n")

-- the kind of a certificate
abbrev pub kind_line : CertKind → List ℕ
kind_line Shortest = codes "kind shortest\n"
kind_line Infeasible = codes "kind infeasible\n"

-- a number, or a dash where there is none
abbrev pub number_or_dash : Option ℕ → List ℕ
number_or_dash None = codes "-"
number_or_dash (Some n) = decimal n

-- the target
abbrev pub target_line : Option ℕ → List ℕ
target_line target = codes "target " ++ (number_or_dash target ++ codes "\n")

-- a run: so many steps of an activity
abbrev pub run_line : StepRun → List ℕ
run_line run = codes "r " ++ (decimal run.count ++ (codes " " ++ (letter run.act ++ codes "\n")))

-- the word of a mark
abbrev pub mark_word : Mark → List ℕ
mark_word (SplitRest at) = codes "split "
mark_word (DeferDay day) = codes "defer "

-- the line of a mark: its word, and the time of its minute, which is the first one of its rest run or of its day
pub record IsMarkLine (params : Params) (mark : Mark) (line : List ℕ) : Type 0 where
  pub at : ℕ
  pub minute : pos at ≡ mark_minute params mark
  pub time : List ℕ
  pub time_is : IsTimeText time at
  pub spelled : line ≡ codes "m " ++ (mark_word mark ++ (time ++ codes "\n"))

-- the lines of marks
abbrev pub AreMarkLines : Params → List Mark → List ℕ → Type 0
AreMarkLines params [] text = text ≡ []
AreMarkLines params (mark ∷ more) text =
    (line : List ℕ) × (rest : List ℕ) × (text ≡ line ++ rest) × IsMarkLine params mark line × AreMarkLines params more rest

-- a number of a state
abbrev pub state_number : ℕ → List ℕ
state_number n = codes " " ++ decimal n

-- a label: its departure, its progress, and the numbers of its state
abbrev pub label_line : CertLabel → List ℕ
label_line label =
    codes "l " ++ (number_or_dash label.depart ++ (codes " " ++ (decimal label.progress ++ (flat_map state_number label.numbers ++ codes "\n"))))

-- the head line of a layer: its step and the number of its labels
abbrev pub layer_head : ℕ → ℕ → List ℕ
layer_head step count = codes "layer " ++ (decimal step ++ (codes " " ++ (decimal count ++ codes "\n")))

-- the layer of a step: its head line, and then its labels
abbrev pub layer_lines : ℕ → List CertLabel → List ℕ
layer_lines step layer = layer_head step (length layer) ++ flat_map label_line layer

-- the layers from this step on
abbrev pub layers_lines : ℕ → List (List CertLabel) → List ℕ
layers_lines step [] = []
layers_lines step (layer ∷ more) = layer_lines step layer ++ layers_lines (step + 1) more

-- the schedule, as runs
abbrev pub schedule_lines : List StepRun → List ℕ
schedule_lines schedule = number_line (codes "schedule ") (length schedule) ++ flat_map run_line schedule

-- the text up to the number of the marks
abbrev pub claim_lines : Cert → List ℕ
claim_lines cert =
    codes "duty-cert 1\n" ++ (kind_line cert.kind ++ (target_line cert.target ++ (schedule_lines cert.schedule ++ number_line (codes "marks ") (length cert.marks))))

-- the text after the marks
abbrev pub cover_lines : List (List CertLabel) → List ℕ
cover_lines layers = number_line (codes "layers ") (length layers) ++ (layers_lines 0 layers ++ codes "end\n")

-- The bytes are the text of the certificate, for a tour of these parameters.
pub record IsCertText (params : Params) (cert : Cert) (text : List ℕ) : Type 0 where
  pub marks : List ℕ
  pub mark_lines : AreMarkLines params cert.marks marks
  pub spelled : text ≡ claim_lines cert ++ (marks ++ cover_lines cert.layers)
