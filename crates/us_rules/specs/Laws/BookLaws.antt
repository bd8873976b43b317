-- The book of the United States has the laws of a book.
use Rattle.std.proofs.Common.{ℕ, ◌<◌, ◌≤◌, Bool, refl}
use Rattle.duty_core.specs.declared.params.Params.TheVariants.{UsProperty}
use Rattle.rule_core.specs.Book.{IsBook}
use Rattle.us_rules.specs.Book.{us_book}
use Rattle.us_rules.specs.Laws.States.{root_is_us_state}
use Rattle.us_rules.specs.Laws.Exact.{us_exact}
use Rattle.us_rules.specs.Laws.Single.{us_refuses}
use Rattle.us_rules.specs.Laws.Advance.{us_advances_reach, us_advances_all}
use Rattle.us_rules.specs.Laws.Lasting.{us_covers_itself, us_lasting, us_ahead_law, us_idles_allowed, us_idles_cover}
use Rattle.us_rules.specs.Laws.Better.{us_better_covers}
use Rattle.us_rules.specs.Laws.NumberLaws.{us_numbers_read, us_numbers_told, us_numbers_few}

pub us_laws : (berth : Bool) (days day_start : ℕ) → 0 < days → days ≤ 8 → IsBook (UsProperty berth days day_start) (us_book berth days day_start)
us_laws berth days day_start some few = record {
  params_are = refl;
  root_is_state = λ first begins. root_is_us_state berth days day_start first;
  exact = λ first h marks timed. us_exact berth days day_start first h marks some timed;
  refuses = λ first h marks s x timed r. us_refuses berth days day_start first h marks s x some timed r;
  advances_reach = λ s at x n t i. us_advances_reach berth days day_start n s at x t;
  advances_all = λ s at x n marks u i. us_advances_all berth days day_start n s at x marks u;
  lasts = us_lasting berth days day_start some;
  covers_itself = λ s at i. us_covers_itself berth days day_start s at;
  idles_allowed = λ s at y i. us_idles_allowed berth days day_start s y;
  idles_cover = λ s at x n t i one long. us_idles_cover berth days day_start s at x n t some i;
  better_covers = λ first h k marks others a b. us_better_covers berth days day_start first h k marks others a b some;
  rests = us_ahead_law berth days day_start some;
  text = record {
    numbers_read = λ s at. us_numbers_read berth days day_start s at;
    numbers_told = λ ns s at. us_numbers_told berth days day_start ns s at;
    numbers_few = λ s at. us_numbers_few berth days day_start s at few;
  };
}
