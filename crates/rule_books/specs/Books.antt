-- The rule book of a tour's parameters.
use Rattle.duty_core.specs.declared.params.Params.{Params}
use Rattle.duty_core.specs.declared.params.Params.TheVariants.{UsProperty, Canada, Hvnl}
use Rattle.rule_core.specs.Machine.{Machine}
use Rattle.us_rules.specs.declared.state.UsState.{UsState}
use Rattle.us_rules.specs.Book.{us_book}
use Rattle.canada_rules.specs.declared.state.CanadaState.{CanadaState}
use Rattle.canada_rules.specs.Book.{ca_book}
use Rattle.hvnl_rules.specs.declared.state.HvnlState.{HvnlState}
use Rattle.hvnl_rules.specs.Book.{hvnl_book}

-- what the book of these parameters remembers of a history
abbrev pub StateFor : Params → Type 0
StateFor (UsProperty berth days day_start) = UsState
StateFor (Canada berth way cycle day_start) = CanadaState
StateFor Hvnl = HvnlState

-- the rule book of these parameters
abbrev pub book_for : (params : Params) → Machine (StateFor params)
book_for (UsProperty berth days day_start) = us_book berth days day_start
book_for (Canada berth way cycle day_start) = ca_book berth way cycle day_start
book_for Hvnl = hvnl_book
