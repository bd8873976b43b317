-- The successors of a state, by the counts of split rests that are left.
use Rattle.std.specs.Prelude.{Option, None, Some}
use Rattle.duty_core.specs.declared.mark.Mark.{Mark}
use Rattle.rule_core.specs.declared.nexts.Next.{Next}
use Rattle.sleeper_split.specs.declared.count.SplitCount.{SplitCount}
use Rattle.canada_rules.specs.declared.state.Calendar.{Calendar}
use Rattle.canada_rules.specs.declared.state.CanadaState.{CanadaState}
use Rattle.canada_rules.specs.Machine.{ca_made}

abbrev pub next_with : Option SplitCount → Calendar → Option Mark → Option (Next CanadaState)
next_with None calendar mark = None
next_with (Some s) calendar mark = Some (record { state = ca_made s calendar; mark = mark })
