-- The book of Canada as one value.
use Rattle.std.specs.Prelude.{ℕ, Bool, cond, None, Some}
use Rattle.duty_core.specs.declared.activity.Activity.TheVariants.{Wait}
use Rattle.duty_core.specs.declared.params.RestWay.{RestWay}
use Rattle.duty_core.specs.declared.params.Params.TheVariants.{Canada}
use Rattle.rule_core.specs.declared.nexts.Idles.{Idles}
use Rattle.rule_core.specs.Machine.{Machine}
use Rattle.sleeper_split.specs.Covers.{own_rest}
use Rattle.canada_rules.specs.declared.state.CanadaState.{CanadaState}
use Rattle.canada_rules.specs.Machine.{ca_may, root_state, ca_nexts, ca_advances}
use Rattle.canada_rules.specs.BookStates.{IsStateOf}
use Rattle.canada_rules.specs.Covers.{covers_state}
use Rattle.canada_rules.specs.Ahead.{ca_ahead}
use Rattle.canada_rules.specs.Numbers.{ca_numbers, ca_state_of}

-- the tour's own rest, and waiting where resting may be worse
abbrev pub ca_idles : Bool → RestWay → CanadaState → Idles
ca_idles berth way s = record { first = own_rest berth; second = cond (ca_ahead (ca_may berth way) s) None (Some Wait) }

abbrev pub ca_book : Bool → RestWay → ℕ → ℕ → Machine CanadaState
ca_book berth way cycle start = record {
  params = Canada berth way cycle start;
  is_state = λ s at. IsStateOf berth way cycle start s at;
  root = λ first. root_state way cycle;
  nexts = ca_nexts (ca_may berth way) start;
  advances = ca_advances (ca_may berth way) start;
  covers = covers_state (ca_may berth way) start;
  idles = ca_idles berth way;
  ahead = ca_ahead (ca_may berth way);
  numbers = λ s at. ca_numbers s;
  state_of = ca_state_of (ca_may berth way) way cycle start;
}
