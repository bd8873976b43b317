-- The book of Australia has the laws of a book.
use Rattle.std.proofs.Common.{◌+◌, ◌*◌, length, refl}
use Rattle.duty_core.specs.declared.params.Params.TheVariants.{Hvnl}
use Rattle.duty_core.specs.Params.{unit_minutes}
use Rattle.rule_core.specs.Book.{IsBook}
use Rattle.hvnl_rules.specs.Book.{hvnl_book}
use Rattle.hvnl_rules.specs.Laws.Steps.{root_is_state, next_is_state, hvnl_advances_reach, hvnl_advances_all}
use Rattle.hvnl_rules.specs.Laws.Single.{hvnl_refuses}
use Rattle.hvnl_rules.specs.Laws.Exact.{hvnl_exact}
use Rattle.hvnl_rules.specs.Laws.Covers.{hvnl_covers_itself, hvnl_covers_on, hvnl_simulation, hvnl_idles_allowed, hvnl_idles_cover}
use Rattle.hvnl_rules.specs.Laws.Better.{hvnl_better_covers}
use Rattle.hvnl_rules.specs.Laws.NumberLaws.{better_timed, never, hvnl_numbers_read, hvnl_numbers_told, hvnl_numbers_few}

pub hvnl_laws : IsBook Hvnl hvnl_book
hvnl_laws = record {
  params_are = refl;
  root_is_state = λ first begins. root_is_state first;
  exact = λ first h marks timed. hvnl_exact first h marks timed;
  refuses = λ first h marks s x timed r. hvnl_refuses first h marks s x timed r;
  advances_reach = λ s at x n t i. hvnl_advances_reach n s at x t;
  advances_all = λ s at x n marks u i. hvnl_advances_all n s at x marks u;
  lasts = record {
    next_is_state = λ s at x n. next_is_state s at x n;
    covers_on = λ a b c at i j k. hvnl_covers_on a b c at;
    simulation = λ a b at x n i j h allowed. hvnl_simulation a b at x n j h;
  };
  covers_itself = λ s at i. hvnl_covers_itself s at;
  idles_allowed = λ s at y i. hvnl_idles_allowed y;
  idles_cover = λ s at x n t i some long idle allowed o. hvnl_idles_cover s at x n t idle allowed o;
  better_covers = λ first h k marks others a b timed g r q. hvnl_better_covers first h marks k others a b (first + unit_minutes Hvnl * length h) timed (better_timed first h marks k others timed g) g r q;
  rests = record {
    ahead_stays = λ a at i e. never e;
    ahead_rests = λ a at x n i e. never e;
  };
  text = record {
    numbers_read = λ s at i. hvnl_numbers_read s at i;
    numbers_told = λ ns s at e. hvnl_numbers_told ns s at e;
    numbers_few = λ s at i. hvnl_numbers_few s at i;
  };
}
