use Rattle.std.proofs.Common.{refl}
use Rattle.rule_books.proofs.us_tests.covers_where_less_is_driven.Goals as goal

-- each minute is a unit
pub root-requires-clause-begins : goal.root-requires-clause-begins
root-requires-clause-begins g c = record { units = 13762440; whole = refl }
