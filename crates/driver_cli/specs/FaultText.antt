-- The texts of what is wrong with a tour or a log: the fault's name, and what it is about.
use Rattle.std.specs.Prelude.{ℕ, List, [], ◌++◌, codes, map, Option, None, Some}
use Rattle.std.specs.Fmt.{decimal}
use Rattle.tour_reader.specs.declared.fault.TourFault.{TourFault}
use Rattle.tour_reader.specs.declared.fault.TourFault.TheVariants as tour
use Rattle.tour_reader.specs.Fields.{key}
use Rattle.duty_log.specs.declared.fault.LogFault.{LogFault}
use Rattle.duty_log.specs.declared.fault.LogFault.TheVariants as log
use Rattle.text_parts.specs.Parts.{printable}

-- the number of the stop, where the fault is one of a stop
abbrev pub stop_text : Option ℕ → List ℕ
stop_text None = []
stop_text (Some number) = codes " stop " ++ decimal number

-- of a fault of a tour
abbrev pub tour_fault_text : TourFault → List ℕ
tour_fault_text tour.TooBig = codes "TooBig"
tour_fault_text tour.NotJson = codes "NotJson"
tour_fault_text (tour.Missing field stop) = codes "Missing " ++ key field ++ stop_text stop
tour_fault_text (tour.Unknown name stop) = codes "Unknown " ++ map printable name ++ stop_text stop
tour_fault_text (tour.BadValue field stop) = codes "BadValue " ++ key field ++ stop_text stop
tour_fault_text tour.NoStops = codes "NoStops"
tour_fault_text tour.TooManyStops = codes "TooManyStops"
tour_fault_text (tour.DuplicateStop name) = codes "DuplicateStop " ++ name
tour_fault_text (tour.BeyondHorizon stop) = codes "BeyondHorizon " ++ decimal stop
tour_fault_text tour.Memory = codes "Memory"

-- of a fault of a log
abbrev pub log_fault_text : LogFault → List ℕ
log_fault_text log.TooBig = codes "TooBig"
log_fault_text log.BadHeader = codes "BadHeader"
log_fault_text (log.NotCsv row) = codes "NotCsv " ++ decimal row
log_fault_text (log.BadTime row) = codes "BadTime " ++ decimal row
log_fault_text (log.BadStatus row) = codes "BadStatus " ++ decimal row
log_fault_text (log.Empty row) = codes "Empty " ++ decimal row
log_fault_text (log.Gap row) = codes "Gap " ++ decimal row
log_fault_text (log.NotOnUnit row) = codes "NotOnUnit " ++ decimal row
log_fault_text (log.TooLong row) = codes "TooLong " ++ decimal row
log_fault_text log.EndsElsewhere = codes "EndsElsewhere"
log_fault_text log.Memory = codes "Memory"
