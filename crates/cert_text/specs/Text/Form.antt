-- The certificates that have a text: the bounds of what they hold.
use Rattle.std.specs.Prelude.{◌≡◌, ◌≢◌, ℕ, ◌+◌, ◌<◌, ◌≤◌, pos, List, [], ◌∷◌, length, Option, None, Some, IfSome}
use Rattle.std.specs.List.{AllByRecursion}
use Rattle.civil_minutes.specs.declared.century.TheConstants.{MINUTES_OF_CENTURY}
use Rattle.duty_core.specs.declared.activity.Activity.{Activity}
use Rattle.duty_core.specs.declared.mark.Mark.{Mark}
use Rattle.duty_core.specs.declared.params.Params.{Params}
use Rattle.duty_core.specs.Marks.{mark_minute}
use Rattle.rule_core.specs.declared.numbers.TheConstants.{NUMBER_LIMIT, MOST_NUMBERS}
use Rattle.cert_text.specs.declared.cert.Cert.{Cert}
use Rattle.cert_text.specs.declared.cert.CertKind.{CertKind}
use Rattle.cert_text.specs.declared.cert.CertKind.TheVariants.{Shortest, Infeasible}
use Rattle.cert_text.specs.declared.cert.CertLabel.{CertLabel}
use Rattle.cert_text.specs.declared.cert.StepRun.{StepRun}

-- a run of at least one step, of another activity than the run before it
pub record IsRunForm (before : Option Activity) (run : StepRun) : Type 0 where
  pub some : 1 ≤ run.count
  pub few : run.count < NUMBER_LIMIT
  pub other : before ≢ Some run.act

-- runs after one of this activity, each of another activity than its neighbours
abbrev pub AreRunForms : Option Activity → List StepRun → Type 0
AreRunForms before [] = Unit {0}
AreRunForms before (run ∷ more) = IsRunForm before run × AreRunForms (Some run.act) more

-- a mark's minute, which is of the years 2000 to 2099 and not before `least`
pub record IsMarkForm (params : Params) (least : ℕ) (mark : Mark) : Type 0 where
  pub at : ℕ
  pub minute : pos at ≡ mark_minute params mark
  pub late : least ≤ at
  pub century : at < MINUTES_OF_CENTURY

-- marks from this minute on, each later than the one before
abbrev pub AreMarkForms : Params → ℕ → List Mark → Type 0
AreMarkForms params least [] = Unit {0}
AreMarkForms params least (mark ∷ more) = (form : IsMarkForm params least mark) × AreMarkForms params (form.at + 1) more

-- a label of few numbers, all of them below the limit
pub record IsLabelForm (label : CertLabel) : Type 0 where
  pub depart : IfSome label.depart (λ d. d < NUMBER_LIMIT)
  pub progress : label.progress < NUMBER_LIMIT
  pub few : length label.numbers ≤ MOST_NUMBERS
  pub numbers : AllByRecursion (λ n. n < NUMBER_LIMIT) label.numbers

-- a layer of few labels
pub record IsLayerForm (layer : List CertLabel) : Type 0 where
  pub few : length layer < NUMBER_LIMIT
  pub labels : AllByRecursion IsLabelForm layer

-- what a certificate of its kind holds: a target, runs and marks where it has a schedule, and none of them where it has none
abbrev pub IsClaimForm : Params → CertKind → Option ℕ → List StepRun → List Mark → Type 0
IsClaimForm params Shortest target schedule marks =
    (steps : ℕ) × (target ≡ Some steps) × (1 ≤ steps) × (steps < NUMBER_LIMIT)
    × (length schedule < NUMBER_LIMIT) × AreRunForms None schedule
    × (length marks < NUMBER_LIMIT) × AreMarkForms params 0 marks
IsClaimForm params Infeasible target schedule marks = (target ≡ None) × (schedule ≡ []) × (marks ≡ [])

-- A certificate that has a text, for a tour of these parameters.
pub record IsCertForm (params : Params) (cert : Cert) : Type 0 where
  pub claim : IsClaimForm params cert.kind cert.target cert.schedule cert.marks
  pub few : length cert.layers < NUMBER_LIMIT
  pub layers : AllByRecursion IsLayerForm cert.layers
