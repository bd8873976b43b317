-- The names of the rules, as texts tell them.
use Rattle.std.specs.Prelude.{ℕ, List, codes}
use Rattle.duty_core.specs.declared.rule.Rule.{Rule}
use Rattle.duty_core.specs.declared.rule.Rule.TheVariants.{UsWindow14, UsDrive11, UsBreak8, UsWeek, UsPair, CaDay13, CaDay14, CaShift13, CaShift14, CaElapsed16, CaOff10, CaDefer, CaPair, Ca24in14, CaCycle, Ca70without24, Au5h30, Au8h, Au11h, Au24h, Au24hRest, Au7d, Au7dRest, Au14d, Au14dNights}

abbrev pub rule_name : Rule → List ℕ
rule_name UsWindow14 = codes "US-WINDOW14"
rule_name UsDrive11 = codes "US-DRIVE11"
rule_name UsBreak8 = codes "US-BREAK8"
rule_name UsWeek = codes "US-WEEK"
rule_name UsPair = codes "US-PAIR"
rule_name CaDay13 = codes "CA-DAY13"
rule_name CaDay14 = codes "CA-DAY14"
rule_name CaShift13 = codes "CA-SHIFT13"
rule_name CaShift14 = codes "CA-SHIFT14"
rule_name CaElapsed16 = codes "CA-ELAPSED16"
rule_name CaOff10 = codes "CA-OFF10"
rule_name CaDefer = codes "CA-DEFER"
rule_name CaPair = codes "CA-PAIR"
rule_name Ca24in14 = codes "CA-24IN14"
rule_name CaCycle = codes "CA-CYCLE"
rule_name Ca70without24 = codes "CA-70WITHOUT24"
rule_name Au5h30 = codes "AU-5H30"
rule_name Au8h = codes "AU-8H"
rule_name Au11h = codes "AU-11H"
rule_name Au24h = codes "AU-24H"
rule_name Au24hRest = codes "AU-24H-REST"
rule_name Au7d = codes "AU-7D"
rule_name Au7dRest = codes "AU-7D-REST"
rule_name Au14d = codes "AU-14D"
rule_name Au14dNights = codes "AU-14D-NIGHTS"
