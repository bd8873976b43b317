-- What the files of a tour, a log and a certificate give.
use Rattle.std.specs.Prelude.{◌≡◌, ℕ, ◌+◌, List, Option, Some, IfSome, Result}
use Rattle.duty_core.specs.declared.activity.Activity.{Activity}
use Rattle.tour_model.specs.declared.tour.Tour.{Tour}
use Rattle.tour_reader.specs.declared.fault.TourFault.{TourFault}
use Rattle.tour_reader.specs.declared.form.TheConstants.{TOUR_LIMIT}
use Rattle.tour_reader.specs.Tour.{tour_of}
use Rattle.duty_log.specs.declared.fault.LogFault.{LogFault}
use Rattle.duty_log.specs.declared.read.TheConstants.{LOG_LIMIT}
use Rattle.duty_log.specs.Log.{ReadsLog}
use Rattle.cert_text.specs.declared.text.limits.TheConstants.{CERT_LIMIT}
use Rattle.outside.specs.Outside.{Bytes, Files, start_of}

-- The file of that name begins with these bytes, which are all that it has or so many. Where the desk does not tell its files, nothing is said.
abbrev pub BeginsWith : Option Files → Bytes → ℕ → Bytes → Type 0
BeginsWith files name limit bytes = IfSome files (λ files. start_of files name limit ≡ Some bytes)

-- The file of that name gives this tour or fault: its first 1,000,001 bytes read as it. Where the desk does not tell its files, some bytes do.
pub record GivesTour (files : Option Files) (name : Bytes) (answer : Result Tour TourFault) : Type 0 where
  pub bytes : Bytes
  pub start : BeginsWith files name (TOUR_LIMIT + 1) bytes
  pub reads : tour_of bytes ≡ answer

-- The file of that name gives this log or fault, for that tour: its first 4,000,001 bytes read as it.
pub record GivesLog (files : Option Files) (name : Bytes) (tour : Tour) (answer : Result (List Activity) LogFault) : Type 0 where
  pub bytes : Bytes
  pub start : BeginsWith files name (LOG_LIMIT + 1) bytes
  pub reads : ReadsLog bytes tour.params tour.start answer

-- The first 1,010,000,001 bytes of the file of that name are these.
abbrev pub GivesCert : Option Files → Bytes → Bytes → Type 0
GivesCert files name bytes = BeginsWith files name (CERT_LIMIT + 1) bytes
