-- The book of Australia as one value.
use Rattle.std.specs.Prelude.{false}
use Rattle.duty_core.specs.declared.params.Params.TheVariants.{Hvnl}
use Rattle.rule_core.specs.Machine.{Machine}
use Rattle.hvnl_rules.specs.declared.state.HvnlState.{HvnlState}
use Rattle.hvnl_rules.specs.Machine.{root_state, hvnl_nexts, hvnl_advances, hvnl_idles, IsHvnlState}
use Rattle.hvnl_rules.specs.Covers.{covers_state}
use Rattle.hvnl_rules.specs.Numbers.{hvnl_numbers, hvnl_state_of}

abbrev pub hvnl_book : Machine HvnlState
hvnl_book = record {
  params = Hvnl;
  is_state = λ s at. IsHvnlState s at;
  root = λ first. root_state;
  nexts = hvnl_nexts;
  advances = hvnl_advances;
  covers = covers_state;
  idles = λ s. hvnl_idles;
  ahead = λ s. false;
  numbers = hvnl_numbers;
  state_of = hvnl_state_of;
}
