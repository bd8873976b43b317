-- The book of Canada has the laws of a book.
use Rattle.std.proofs.Common.{ℕ, ◌≤◌, Bool, refl}
use Rattle.duty_core.specs.declared.limits.TheConstants.{DAY_MINUTES}
use Rattle.duty_core.specs.declared.params.RestWay.{RestWay}
use Rattle.duty_core.specs.declared.params.Params.TheVariants.{Canada}
use Rattle.rule_core.specs.Book.{IsBook}
use Rattle.canada_rules.specs.Machine.{ca_may}
use Rattle.canada_rules.specs.Book.{ca_book}
use Rattle.canada_rules.specs.Laws.BookStates.{root_is_state_of}
use Rattle.canada_rules.specs.Laws.Exact.{is_may, ca_exact}
use Rattle.canada_rules.specs.Laws.Single.{ca_refuses}
use Rattle.canada_rules.specs.Laws.Advance.{ca_advances_reach, ca_advances_all}
use Rattle.canada_rules.specs.Laws.Covers.{ca_covers_itself}
use Rattle.canada_rules.specs.Laws.Idle.{ca_lasting, ca_ahead_law, ca_idles_allowed, ca_idles_cover}
use Rattle.canada_rules.specs.Laws.Better.{ca_better_covers}
use Rattle.canada_rules.specs.Laws.NumberLaws.{ca_numbers_read, ca_numbers_told, ca_numbers_few}

pub ca_laws : (berth : Bool) (way : RestWay) (cycle start : ℕ) → start ≤ DAY_MINUTES → IsBook (Canada berth way cycle start) (ca_book berth way cycle start)
ca_laws berth way cycle start begins = record {
  params_are = refl;
  root_is_state = λ first b. root_is_state_of berth way cycle start first;
  exact = λ first h marks timed. ca_exact berth way cycle start first h marks begins timed;
  refuses = λ first h marks s x timed r. ca_refuses berth way cycle start first h marks s x begins timed r;
  advances_reach = λ s at x n t i o. ca_advances_reach (ca_may berth way) way start n s at x t (is_may berth way) i.counts o;
  advances_all = λ s at x n marks u i r. ca_advances_all (ca_may berth way) way start n s at x marks u (is_may berth way) i.counts r;
  lasts = ca_lasting berth way cycle start;
  covers_itself = λ s at i. ca_covers_itself (ca_may berth way) start s at;
  idles_allowed = λ s at y i. ca_idles_allowed berth way cycle start s y;
  idles_cover = λ s at x n t i some long. ca_idles_cover berth way cycle start s at x n t i;
  better_covers = λ first h k marks others a b. ca_better_covers berth way cycle start first h k marks others a b begins;
  rests = ca_ahead_law berth way cycle start;
  text = record {
    numbers_read = λ s at. ca_numbers_read berth way cycle start s at;
    numbers_told = λ ns s at. ca_numbers_told berth way cycle start ns s at;
    numbers_few = λ s at. ca_numbers_few berth way cycle start s at;
  };
}
