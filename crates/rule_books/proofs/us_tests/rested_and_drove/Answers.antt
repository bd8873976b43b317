use Rattle.std.proofs.Common.{refl}
use Rattle.rule_books.proofs.us_tests.rested_and_drove.Goals as goal

-- each minute is a unit
pub root-requires-clause-begins : goal.root-requires-clause-begins
root-requires-clause-begins c = record { units = 13762440; whole = refl }
