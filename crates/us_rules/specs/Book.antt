-- The book of the United States as one value.
use Rattle.std.specs.Prelude.{ℕ, Bool}
use Rattle.duty_core.specs.declared.params.Params.TheVariants.{UsProperty}
use Rattle.rule_core.specs.Machine.{Machine}
use Rattle.us_rules.specs.declared.state.UsState.{UsState}
use Rattle.us_rules.specs.Machine.{root_state, us_nexts, us_advances, IsUsState, us_covers, us_ahead, us_idles}
use Rattle.us_rules.specs.Numbers.{us_numbers, us_state_of}

abbrev pub us_book : Bool → ℕ → ℕ → Machine UsState
us_book berth days day_start = record {
  params = UsProperty berth days day_start;
  is_state = λ s at. IsUsState berth days day_start s at;
  root = λ first. root_state days;
  nexts = us_nexts berth days day_start;
  advances = us_advances berth days day_start;
  covers = us_covers berth days day_start;
  idles = us_idles berth;
  ahead = us_ahead berth;
  numbers = λ s at. us_numbers s;
  state_of = us_state_of berth days day_start;
}
