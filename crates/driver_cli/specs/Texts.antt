-- The other texts that the planner sends: each line ends with a line feed.
use Rattle.std.specs.Prelude.{ℕ, List, [], ◌∷◌, ◌++◌, flat_map, codes}
use Rattle.std.specs.Fmt.{decimal}
use Rattle.duty_core.specs.declared.rule.Rule.{Rule}
use Rattle.duty_core.specs.RuleNames.{rule_name}
use Rattle.tour_reader.specs.declared.fault.TourFault.{TourFault}
use Rattle.duty_log.specs.declared.fault.LogFault.{LogFault}
use Rattle.cert_checker.specs.declared.verdict.Reason.{Reason}
use Rattle.cert_checker.specs.declared.verdict.Reason.TheVariants.{TooBig, Grammar, Serves, Length, Lawful, Root, State, Finished, Repeated, Successor}
use Rattle.driver_cli.specs.FaultText.{tour_fault_text, log_fault_text}
use Rattle.text_parts.specs.Parts.{Part, Said, Time, clock_text}

-- of words that are no command
abbrev pub usage_text : List ℕ
usage_text = codes "usage: driver plan TOUR LOG CERT [--budget N]\n       driver check TOUR LOG CERT\n       driver audit TOUR LOG\n       driver graph TOUR LOG\n       driver make N TOUR LOG\n"

-- `read fault` and the file's name as it was given
abbrev pub read_fault_text : List ℕ → List ℕ
read_fault_text name = codes "read fault " ++ name ++ codes "\n"

-- `write fault` and the file's name as it was given
abbrev pub write_fault_text : List ℕ → List ℕ
write_fault_text name = codes "write fault " ++ name ++ codes "\n"

-- of a tour that has this fault
abbrev pub tour_refused_text : TourFault → List ℕ
tour_refused_text fault = codes "tour refused: " ++ tour_fault_text fault ++ codes "\n"

-- of a log that has this fault
abbrev pub log_refused_text : LogFault → List ℕ
log_refused_text fault = codes "log refused: " ++ log_fault_text fault ++ codes "\n"

-- a space and its name for each rule, in their order
abbrev pub rule_words : List Rule → List ℕ
rule_words rules = flat_map (λ (rule : Rule). codes " " ++ rule_name rule) rules

-- of a log that is unlawful in the unit that begins at this minute, and up to it breaks these rules
abbrev pub unlawful_text : ℕ → List Rule → List Part
unlawful_text at rules = Said (codes "log unlawful at ") ∷ Time at ∷ Said (codes ":") ∷ Said (rule_words rules) ∷ Said (codes "\n") ∷ []

-- of a lawful log
abbrev pub lawful_text : List ℕ
lawful_text = codes "lawful\n"

-- of a tour that no schedule serves lawfully
abbrev pub infeasible_text : List ℕ
infeasible_text = codes "infeasible\n"

-- `spent` and the budget of labels
abbrev pub spent_text : ℕ → List ℕ
spent_text budget = codes "spent " ++ decimal budget ++ codes "\n"

-- `made N stops K` of a made tour and the number of its stops
abbrev pub made_text : ℕ → ℕ → List ℕ
made_text number stops = codes "made " ++ decimal number ++ codes " stops " ++ decimal stops ++ codes "\n"

-- of a made tour whose shortest schedules take so many minutes
abbrev pub made_shortest_text : ℕ → ℕ → ℕ → List ℕ
made_shortest_text number stops minutes = made_text number stops ++ codes "shortest " ++ clock_text minutes ++ codes "\n"

-- of a made tour that no schedule serves lawfully
abbrev pub made_infeasible_text : ℕ → ℕ → List ℕ
made_infeasible_text number stops = made_text number stops ++ infeasible_text

-- of a made tour for which the budget of labels is spent
abbrev pub made_spent_text : ℕ → ℕ → ℕ → List ℕ
made_spent_text number stops budget = made_text number stops ++ spent_text budget

-- of a valid certificate whose schedule takes so many minutes
abbrev pub accepted_shortest_text : ℕ → List ℕ
accepted_shortest_text minutes = codes "accepted shortest " ++ clock_text minutes ++ codes "\n"

-- of a valid certificate that there is no schedule
abbrev pub accepted_infeasible_text : List ℕ
accepted_infeasible_text = codes "accepted infeasible\n"

-- the word of a reason
abbrev pub reason_text : Reason → List ℕ
reason_text TooBig = codes "TOOBIG"
reason_text Grammar = codes "GRAMMAR"
reason_text Serves = codes "SERVES"
reason_text Length = codes "LENGTH"
reason_text Lawful = codes "LAWFUL"
reason_text Root = codes "ROOT"
reason_text State = codes "STATE"
reason_text Finished = codes "FINISHED"
reason_text Repeated = codes "REPEATED"
reason_text Successor = codes "SUCCESSOR"

-- of a certificate that fails first at this line, for this reason
abbrev pub rejected_text : ℕ → Reason → List ℕ
rejected_text line reason = codes "rejected line " ++ decimal line ++ codes ": " ++ reason_text reason ++ codes "\n"
