-- What fetching and reading the files of a command gives.
use Rattle.std.specs.Prelude.{◌≡◌, ◌⊎◌, ◌*◌, ℕ, ◌≤◌, List, length, Result, Ok, Err, Vec}
use Rattle.std.specs.declared.alloc.Global.{Global}
use Rattle.duty_core.specs.declared.activity.Activity.{Activity}
use Rattle.duty_core.specs.declared.limits.TheConstants.{LONGEST_LOG}
use Rattle.duty_core.specs.Params.{unit_minutes}
use Rattle.tour_model.specs.declared.tour.Tour.{Tour}
use Rattle.tour_model.specs.Tour.{IsTour}
use Rattle.tour_reader.specs.declared.fault.TourFault.{TourFault}
use Rattle.duty_log.specs.declared.fault.LogFault.{LogFault}
use Rattle.outside.specs.Outside.{Bytes}
use Rattle.driver_cli.specs.declared.answer.Status.{Status}
use Rattle.driver_cli.specs.declared.answer.Status.TheVariants.{ReadFault, Refused}
use Rattle.driver_cli.specs.declared.answer.Halt.{Halt}
use Rattle.driver_cli.specs.declared.answer.Halt.TheVariants.{Answered, Memory}
use Rattle.driver_cli.specs.declared.fetch.Inputs.{Inputs}
use Rattle.driver_cli.specs.Given.{BeginsWith, GivesTour, GivesLog}
use Rattle.driver_cli.specs.Inputs.{AreRead, InputAnswers, InputsLeave}
use Rattle.driver_cli.specs.Sides.{ReadSide, IsUnfailed, IsUnread}
use Rattle.driver_cli.specs.Texts.{read_fault_text, tour_refused_text, log_refused_text}

-- The file of that name could not be read, and that is answered.
pub record IsFileFault (name : Bytes) (r : ReadSide) (status : Status) (text : Bytes) : Type 0 where
  pub is : status ≡ ReadFault
  pub unread : IsUnread r name
  pub told : text ≡ read_fault_text name

-- The first bytes of a file were fetched; or that failed and is answered; or memory ran out, before or after such a failure.
abbrev pub IsFetched : Bytes → ℕ → ReadSide → Result (Vec ℕ Global) Halt → Type 0
IsFetched name limit r (Ok bytes) = BeginsWith r.files name limit bytes.items × IsUnfailed r
IsFetched name limit r (Err (Answered a)) = IsFileFault name r a.status a.text
IsFetched name limit r (Err Memory) = IsUnfailed r ⊎ IsUnread r name

-- The tour's file gives a fault, and that is answered.
pub record IsTourFault (name : Bytes) (r : ReadSide) (status : Status) (text : Bytes) : Type 0 where
  pub is : status ≡ Refused
  pub fault : TourFault
  pub given : GivesTour r.files name (Err fault)
  pub unfailed : IsUnfailed r
  pub told : text ≡ tour_refused_text fault

-- The tour was read; or an answer tells why not; or memory ran out.
abbrev pub IsTourFetched : Bytes → ReadSide → Result Tour Halt → Type 0
IsTourFetched name r (Ok tour) = IsTour tour × GivesTour r.files name (Ok tour) × IsUnfailed r
IsTourFetched name r (Err (Answered a)) = IsFileFault name r a.status a.text ⊎ IsTourFault name r a.status a.text
IsTourFetched name r (Err Memory) = IsUnfailed r ⊎ IsUnread r name

-- The log's file gives a fault, and that is answered.
pub record IsLogFault (tour : Tour) (name : Bytes) (r : ReadSide) (status : Status) (text : Bytes) : Type 0 where
  pub is : status ≡ Refused
  pub fault : LogFault
  pub given : GivesLog r.files name tour (Err fault)
  pub unfailed : IsUnfailed r
  pub told : text ≡ log_refused_text fault

-- A log is no longer than one may be.
abbrev pub IsShortLog : Tour → List Activity → Type 0
IsShortLog tour log = unit_minutes tour.params * length log ≤ LONGEST_LOG

-- The log was read; or an answer tells why not; or memory ran out.
abbrev pub IsLogFetched : Tour → Bytes → ReadSide → Result (List Activity) Halt → Type 0
IsLogFetched tour name r (Ok log) = IsShortLog tour log × GivesLog r.files name tour (Ok log) × IsUnfailed r
IsLogFetched tour name r (Err (Answered a)) = IsFileFault name r a.status a.text ⊎ IsLogFault tour name r a.status a.text
IsLogFetched tour name r (Err Memory) = IsUnfailed r ⊎ IsUnread r name

-- Both were read; or an answer tells why not; or memory ran out.
abbrev pub AreInputsFetched : Bytes → Bytes → ReadSide → Result Inputs Halt → Type 0
AreInputsFetched tour_name log_name r (Ok inputs) = IsTour inputs.tour × IsShortLog inputs.tour inputs.log × AreRead tour_name log_name r inputs.tour inputs.log
AreInputsFetched tour_name log_name r (Err (Answered a)) = InputAnswers tour_name log_name r a.status a.text
AreInputsFetched tour_name log_name r (Err Memory) = InputsLeave tour_name log_name r
