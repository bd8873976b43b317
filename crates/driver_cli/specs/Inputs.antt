-- The files of a tour and a log, which each command reads first, and the answers to what is wrong with them.
use Rattle.std.specs.Prelude.{◌≡◌, ◌⊎◌, ℕ, ◌+◌, ◌*◌, ◌<◌, List, [], length, take, Ok, Err}
use Rattle.duty_core.specs.declared.activity.Activity.{Activity}
use Rattle.duty_core.specs.declared.rule.Rule.{Rule}
use Rattle.duty_core.specs.Params.{unit_minutes}
use Rattle.duty_core.specs.RuleBooks.{rules_of, Keeps}
use Rattle.rule_core.specs.Replay.{IsFirstUnlawful}
use Rattle.tour_model.specs.declared.tour.Tour.{Tour}
use Rattle.tour_model.specs.Schedule.{log_start}
use Rattle.tour_reader.specs.declared.fault.TourFault.{TourFault}
use Rattle.duty_log.specs.declared.fault.LogFault.{LogFault}
use Rattle.outside.specs.Outside.{Bytes}
use Rattle.rule_readings.specs.Broken.{AreBroken}
use Rattle.tour_plan.specs.Planned.{IsLawfulLog}
use Rattle.driver_cli.specs.declared.answer.Status.{Status}
use Rattle.driver_cli.specs.declared.answer.Status.TheVariants.{Refused, LogUnlawful, ReadFault}
use Rattle.driver_cli.specs.Given.{GivesTour, GivesLog}
use Rattle.text_parts.specs.Parts.{IsText}
use Rattle.driver_cli.specs.Sides.{ReadSide, IsUnfailed, IsUnread}
use Rattle.driver_cli.specs.Texts.{read_fault_text, tour_refused_text, log_refused_text, unlawful_text}

-- ReadFault: the fetch of the tour's file failed.
pub record TourUnread (tour_name : Bytes) (r : ReadSide) (text : Bytes) : Type 0 where
  pub unread : IsUnread r tour_name
  pub told : text ≡ read_fault_text tour_name

-- Refused: the tour's file gives a fault.
pub record TourRefused (tour_name : Bytes) (r : ReadSide) (text : Bytes) : Type 0 where
  pub fault : TourFault
  pub given : GivesTour r.files tour_name (Err fault)
  pub unfailed : IsUnfailed r
  pub told : text ≡ tour_refused_text fault

-- ReadFault: the tour is good, and the fetch of the log's file failed.
pub record LogUnread (tour_name log_name : Bytes) (r : ReadSide) (text : Bytes) : Type 0 where
  pub tour : Tour
  pub tour_given : GivesTour r.files tour_name (Ok tour)
  pub unread : IsUnread r log_name
  pub told : text ≡ read_fault_text log_name

-- Refused: the tour is good, and the log's file gives a fault.
pub record LogRefused (tour_name log_name : Bytes) (r : ReadSide) (text : Bytes) : Type 0 where
  pub tour : Tour
  pub tour_given : GivesTour r.files tour_name (Ok tour)
  pub fault : LogFault
  pub given : GivesLog r.files log_name tour (Err fault)
  pub unfailed : IsUnfailed r
  pub told : text ≡ log_refused_text fault

-- The files give this tour and this log.
pub record AreGiven (tour_name log_name : Bytes) (r : ReadSide) (tour : Tour) (log : List Activity) : Type 0 where
  pub tour_given : GivesTour r.files tour_name (Ok tour)
  pub log_given : GivesLog r.files log_name tour (Ok log)

-- They do, and no fetch failed.
pub record AreRead (tour_name log_name : Bytes) (r : ReadSide) (tour : Tour) (log : List Activity) : Type 0 where
  pub given : AreGiven tour_name log_name r tour log
  pub unfailed : IsUnfailed r

-- They are read, and the log is lawful.
pub record AreLawful (tour_name log_name : Bytes) (r : ReadSide) (tour : Tour) (log : List Activity) : Type 0 where
  pub read : AreRead tour_name log_name r tour log
  pub lawful : IsLawfulLog tour log

-- the civil minute at which a unit of the log begins
abbrev pub log_minute : Tour → List Activity → ℕ → ℕ
log_minute tour log unit = log_start tour log + unit_minutes tour.params * unit

-- The units of the log up to this one break these rules of the book with no marks, in the book's order.
abbrev pub AreBrokenUpTo : Tour → List Activity → ℕ → List Rule → Type 0
AreBrokenUpTo tour log unit rules = AreBroken (Keeps tour.params (log_start tour log) (take (unit + 1) log) []) (rules_of tour.params) rules

-- LogUnlawful: the log breaks a rule, this unit is the first at which it does, and these are the rules that are broken up to it: one at least.
pub record IsUnlawful (tour : Tour) (log : List Activity) (text : Bytes) : Type 0 where
  pub unit : ℕ
  pub first : IsFirstUnlawful tour.params (log_start tour log) log unit
  pub rules : List Rule
  pub broken : AreBrokenUpTo tour log unit rules
  pub some : 0 < length rules
  pub told : IsText (unlawful_text (log_minute tour log unit) rules) text

-- The same of a log that was read.
pub record LogIsUnlawful (tour_name log_name : Bytes) (r : ReadSide) (text : Bytes) : Type 0 where
  pub tour : Tour
  pub log : List Activity
  pub read : AreRead tour_name log_name r tour log
  pub unlawful : IsUnlawful tour log text

-- The answers that come before the log is judged.
abbrev pub InputAnswers : Bytes → Bytes → ReadSide → Status → Bytes → Type 0
InputAnswers tour_name log_name r Refused text = TourRefused tour_name r text ⊎ LogRefused tour_name log_name r text
InputAnswers tour_name log_name r ReadFault text = TourUnread tour_name r text ⊎ LogUnread tour_name log_name r text
InputAnswers tour_name log_name r status text = ⊥

-- The answers that come before a lawful log is known.
abbrev pub LawfulAnswers : Bytes → Bytes → ReadSide → Status → Bytes → Type 0
LawfulAnswers tour_name log_name r Refused text = TourRefused tour_name r text ⊎ LogRefused tour_name log_name r text
LawfulAnswers tour_name log_name r ReadFault text = TourUnread tour_name r text ⊎ LogUnread tour_name log_name r text
LawfulAnswers tour_name log_name r LogUnlawful text = LogIsUnlawful tour_name log_name r text
LawfulAnswers tour_name log_name r status text = ⊥

-- What reading the two files leaves where memory runs out: no fetch failed, or that of one of them did.
abbrev pub InputsLeave : Bytes → Bytes → ReadSide → Type 0
InputsLeave tour_name log_name r = IsUnfailed r ⊎ (IsUnread r tour_name ⊎ IsUnread r log_name)
