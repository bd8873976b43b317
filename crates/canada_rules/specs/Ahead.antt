-- Where resting in place of anything else is safe.
use Rattle.std.proofs.Common.{Bool}
use Rattle.sleeper_split.specs.declared.rule.TheConstants.SplitRule.{CANADA}
use Rattle.sleeper_split.specs.Covers.{is_ahead}
use Rattle.canada_rules.specs.declared.state.CanadaState.{CanadaState}

-- What the counts of split rests say of it: what is counted by days is never better for duty.
abbrev pub ca_ahead : Bool → CanadaState → Bool
ca_ahead may s = is_ahead CANADA may s.split
