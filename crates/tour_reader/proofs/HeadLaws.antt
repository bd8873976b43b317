-- What holds of each head that is read.
use Rattle.std.proofs.Common.{◌≡◌, ℕ, ◌+◌, ◌*◌, ◌/◌, ◌%◌, ◌<◌, ◌≤◌, ◌==◌, ◌&&◌, length, slice_index, nat_lt, eqb, zero, suc, get_or, List, [], ◌∷◌, Option, Some, None, Ok, IfSome, IfOk, Contains, option_and_then, refl, sym, subst, arith}
use Rattle.std.proofs.lemmas.Bool.{eqb-true}
use Rattle.std.proofs.lemmas.Map.Views.{Contains-from_any}
use Rattle.std.proofs.lemmas.Result.{IfOk-weaker}
use Rattle.serde_json.specs.Data.{Data}
use Rattle.duty_core.specs.declared.params.Params.{Params}
use Rattle.duty_core.specs.declared.params.Params.TheVariants as params
use Rattle.duty_core.specs.Params.{BookUnit, InMinutes, InQuarters, minutes_in, terms_of, BeginsUnit}
use Rattle.duty_core.specs.declared.limits.TheConstants.{DAY_MINUTES}
use Rattle.tour_model.specs.declared.limits.TheConstants.{FEWEST_DAYS, MOST_DAYS, MOST_CYCLE, EARLIEST_START, LATEST_START}
use Rattle.tour_model.specs.Tour.{IsParams, grids_in, grids_of}
use Rattle.tour_reader.specs.declared.field.Field.{Field}
use Rattle.tour_reader.specs.declared.field.Field.TheVariants as field
use Rattle.tour_reader.specs.declared.book.Book.{Book}
use Rattle.tour_reader.specs.declared.book.Book.TheVariants.{Us, Canada, Hvnl}
use Rattle.tour_reader.specs.declared.head.Head.{Head}
use Rattle.tour_reader.specs.Fields.{with_fields}
use Rattle.tour_reader.specs.Books.{book_unit, fields_of, grids_of_book, unit_of_book, berth_of, day_start_of, way_named, us_params, canada_params, params_of}
use Rattle.tour_reader.specs.Gives.{◌>>=◌, good}
use Rattle.tour_reader.specs.Values.{number_of, whole_of, text_of, within}
use Rattle.civil_minutes.specs.TimeOf.{time_of}
use Rattle.tour_reader.specs.Times.{pair_of, minutes_of, clock_of}
use Rattle.civil_minutes.specs.Laws.TimeOfLaws.{parts, lt_from}
use Rattle.tour_reader.specs.Head.{book_of, one_of, grid_of, on_unit, start_of, head_in, head_of}
use Rattle.tour_reader.proofs.Holds.{any_some, if_holds, guard_holds, then_holds, within_holds, any_ok, good_holds, bind_holds}

-- what holds of each head
pub record IsHead (head : Head) : Type 0 where
  pub params : IsParams head.params
  pub grid : Contains (grids_of head.params) head.grid
  pub whole_start : BeginsUnit head.params head.start
  pub not_early : EARLIEST_START ≤ head.start
  pub not_late : head.start ≤ LATEST_START

-- the parameters are some of the book
record FitsBook (book : Book) (params : Params) : Type 0 where
  pub is : IsParams params
  pub unit : (terms_of params).unit ≡ book_unit book

-- where a day may begin, and how many days are counted
abbrev IsDayStart : ℕ → Type 0
IsDayStart at = at < DAY_MINUTES

abbrev AreDays : ℕ → Type 0
AreDays days = (FEWEST_DAYS ≤ days) × (days ≤ MOST_DAYS)

abbrev IsCycle : ℕ → Type 0
IsCycle cycle = (1 ≤ cycle) × (cycle ≤ MOST_CYCLE)

minutes_within : (hour minute : Option ℕ) → IfSome (minutes_of hour minute) IsDayStart
minutes_within None minute = tt
minutes_within (Some hour) None = tt
minutes_within (Some hour) (Some minute) = if_holds IsDayStart _ (hour * 60 + minute) (λ b.
    let p = parts (nat_lt hour 24) (nat_lt minute 60) b in
    let h : hour < 24 = lt_from _ _ p.0 in
    let m : minute < 60 = lt_from _ _ p.1 in
    omega arith)

clock_within : (text : List ℕ) → IfSome (clock_of text) IsDayStart
unfolding clock_of
clock_within text =
    let hour = pair_of (slice_index text 0) (slice_index text 1) in
    let minute = pair_of (slice_index text 3) (slice_index text 4) in
    guard_holds IsDayStart ((length text == 5) && (slice_index text 2 == 58)) (minutes_of hour minute) (λ _. minutes_within hour minute)

day_start_within : (form : Data) → IfOk (day_start_of form) IsDayStart
unfolding day_start_of
day_start_within form = good_holds IsDayStart field.DayStart None (option_and_then clock_of (text_of field.DayStart form)) (then_holds (λ _. Unit {0}) IsDayStart clock_of (text_of field.DayStart form) (any_some _) (λ text _. clock_within text))

pub whole_within : (field : Field) (low high : ℕ) (form : Data) → IfSome (whole_of field low high form) (λ n. (low ≤ n) × (n ≤ high))
whole_within field low high form = then_holds (λ _. Unit {0}) (λ n. (low ≤ n) × (n ≤ high)) (within low high) (number_of field form) (any_some _) (λ n _. within_holds low high n)

us_fits : (form : Data) → IfOk (us_params form) (FitsBook Us)
unfolding us_params
us_fits form =
    bind_holds (λ _. Unit {0}) (FitsBook Us) (berth_of form) (λ berth. good field.Days None (whole_of field.Days FEWEST_DAYS MOST_DAYS form) >>= λ days. day_start_of form >>= λ day_start. Ok (params.UsProperty berth days day_start)) (any_ok _) (λ berth _.
    bind_holds AreDays (FitsBook Us) (good field.Days None (whole_of field.Days FEWEST_DAYS MOST_DAYS form)) (λ days. day_start_of form >>= λ day_start. Ok (params.UsProperty berth days day_start))
    (good_holds AreDays field.Days None (whole_of field.Days FEWEST_DAYS MOST_DAYS form) (whole_within field.Days FEWEST_DAYS MOST_DAYS form)) (λ days counted.
    bind_holds IsDayStart (FitsBook Us) (day_start_of form) (λ day_start. Ok (params.UsProperty berth days day_start)) (day_start_within form) (λ day_start begins.
    record { is = (counted.0, counted.1, begins); unit = refl })))

canada_fits : (form : Data) → IfOk (canada_params form) (FitsBook Canada)
unfolding canada_params
canada_fits form =
    let way_is = good field.Rest None (option_and_then way_named (text_of field.Rest form)) in
    let cycle_is = good field.Cycle None (whole_of field.Cycle 1 MOST_CYCLE form) in
    bind_holds (λ _. Unit {0}) (FitsBook Canada) (berth_of form) (λ berth. way_is >>= λ way. cycle_is >>= λ cycle. day_start_of form >>= λ day_start. Ok (params.Canada berth way cycle day_start)) (any_ok _) (λ berth _.
    bind_holds (λ _. Unit {0}) (FitsBook Canada) way_is (λ way. cycle_is >>= λ cycle. day_start_of form >>= λ day_start. Ok (params.Canada berth way cycle day_start)) (any_ok _) (λ way _.
    bind_holds IsCycle (FitsBook Canada) cycle_is (λ cycle. day_start_of form >>= λ day_start. Ok (params.Canada berth way cycle day_start))
    (good_holds IsCycle field.Cycle None (whole_of field.Cycle 1 MOST_CYCLE form) (whole_within field.Cycle 1 MOST_CYCLE form)) (λ cycle counted.
    bind_holds IsDayStart (FitsBook Canada) (day_start_of form) (λ day_start. Ok (params.Canada berth way cycle day_start)) (day_start_within form) (λ day_start begins.
    record { is = (counted.0, counted.1, begins); unit = refl }))))

params_fit : (book : Book) (form : Data) → IfOk (params_of book form) (FitsBook book)
params_fit Us form = us_fits form
params_fit Canada form = canada_fits form
params_fit Hvnl form = record { is = tt; unit = refl }

abbrev IsGridOf : Book → ℕ → Type 0
IsGridOf book grid = Contains (grids_of_book book) grid

grid_fits : (book : Book) (form : Data) → IfOk (good field.Grid None (grid_of book form)) (IsGridOf book)
unfolding grid_of
grid_fits book form = good_holds (IsGridOf book) field.Grid None (option_and_then (one_of (grids_of_book book)) (number_of field.Grid form))
    (then_holds (λ _. Unit {0}) (IsGridOf book) (one_of (grids_of_book book)) (number_of field.Grid form) (any_some _) (λ n _.
    if_holds (IsGridOf book) _ n (λ b. Contains-from_any {eq = λ q m. eqb m q} (λ x y e. sym (eqb-true y x e)) n (grids_of_book book) b)))

record IsStartOf (book : Book) (at : ℕ) : Type 0 where
  pub on_unit : at % unit_of_book book ≡ 0
  pub not_early : EARLIEST_START ≤ at
  pub not_late : at ≤ LATEST_START

start_fits : (book : Book) (form : Data) → IfOk (good field.Start None (start_of book form)) (IsStartOf book)
unfolding start_of
start_fits book form = good_holds (IsStartOf book) field.Start None (option_and_then (on_unit (unit_of_book book)) (option_and_then (within EARLIEST_START LATEST_START) (option_and_then time_of (text_of field.Start form))))
    (then_holds (λ at. (EARLIEST_START ≤ at) × (at ≤ LATEST_START)) (IsStartOf book) (on_unit (unit_of_book book)) (option_and_then (within EARLIEST_START LATEST_START) (option_and_then time_of (text_of field.Start form)))
    (then_holds (λ _. Unit {0}) (λ at. (EARLIEST_START ≤ at) × (at ≤ LATEST_START)) (within EARLIEST_START LATEST_START) (option_and_then time_of (text_of field.Start form)) (any_some _) (λ at _. within_holds EARLIEST_START LATEST_START at))
    (λ at p. if_holds (IsStartOf book) _ at (λ b. record { on_unit = eqb-true _ _ b; not_early = p.0; not_late = p.1 })))

whole_units : (u : BookUnit) (at : ℕ) → at % minutes_in u ≡ 0 → at ≡ minutes_in u * (at / minutes_in u)
whole_units InMinutes at whole = omega arith
whole_units InQuarters at whole = omega arith

made_head : (book : Book) (grid start : ℕ) (params : Params) → IsGridOf book grid → IsStartOf book start → FitsBook book params → IsHead (record { params = params; grid = grid; start = start })
made_head book grid start params g s p = record {
  params = p.is;
  grid = subst (λ u. Contains (grids_in u) grid) (sym p.unit) g;
  whole_start = record { units = start / unit_of_book book; whole = subst (λ u. start ≡ minutes_in u * (start / unit_of_book book)) (sym p.unit) (whole_units (book_unit book) start s.on_unit) };
  not_early = s.not_early;
  not_late = s.not_late;
}

head_in_holds : (book : Book) (form : Data) → IfOk (head_in book form) IsHead
unfolding head_in
head_in_holds book form =
    let grid_is = good field.Grid None (grid_of book form) in
    let start_is = good field.Start None (start_of book form) in
    bind_holds (IsGridOf book) IsHead grid_is (λ grid. start_is >>= λ start. params_of book form >>= λ params. Ok (record { params = params; grid = grid; start = start })) (grid_fits book form) (λ grid g.
    bind_holds (IsStartOf book) IsHead start_is (λ start. params_of book form >>= λ params. Ok (record { params = params; grid = grid; start = start })) (start_fits book form) (λ start s.
    bind_holds (FitsBook book) IsHead (params_of book form) (λ params. Ok (record { params = params; grid = grid; start = start })) (params_fit book form) (λ params p. made_head book grid start params g s p)))

pub head_holds : (form : Data) → IfOk (head_of form) IsHead
unfolding head_of
head_holds form =
    bind_holds (λ _. Unit {0}) IsHead (book_of form) (λ book. with_fields (fields_of book) None form >>= λ whole. head_in book whole) (any_ok _) (λ book _.
    bind_holds (λ _. Unit {0}) IsHead (with_fields (fields_of book) None form) (λ whole. head_in book whole) (any_ok _) (λ whole _. head_in_holds book whole))

-- ---- the grid

-- one of the grids of all books
pub data IsGrid : ℕ → Type 0 where
  one : IsGrid 1
  five : IsGrid 5
  fifteen : IsGrid 15
  thirty : IsGrid 30

of_four : (k grid : ℕ) → k < 4 → get_or (1 ∷ 5 ∷ 15 ∷ 30 ∷ []) k grid ≡ grid → IsGrid grid
of_four zero grid lt is = subst IsGrid is one
of_four (suc zero) grid lt is = subst IsGrid is five
of_four (suc (suc zero)) grid lt is = subst IsGrid is fifteen
of_four (suc (suc (suc zero))) grid lt is = subst IsGrid is thirty
of_four (suc (suc (suc (suc k)))) grid lt is = absurd (omega arith)

of_two : (k grid : ℕ) → k < 2 → get_or (15 ∷ 30 ∷ []) k grid ≡ grid → IsGrid grid
of_two zero grid lt is = subst IsGrid is fifteen
of_two (suc zero) grid lt is = subst IsGrid is thirty
of_two (suc (suc k)) grid lt is = absurd (omega arith)

grid_in : (u : BookUnit) (grid : ℕ) → Contains (grids_in u) grid → IsGrid grid
grid_in InMinutes grid (k, lt, is) = of_four k grid lt is
grid_in InQuarters grid (k, lt, is) = of_two k grid lt is

pub is_grid : (params : Params) (grid : ℕ) → Contains (grids_of params) grid → IsGrid grid
is_grid params = grid_in (terms_of params).unit

-- what holds at each of the grids holds at one of them
pub at_grid : (P : ℕ → Type 0) → P 1 → P 5 → P 15 → P 30 → (grid : ℕ) → IsGrid grid → P grid
at_grid P a b c d grid one = a
at_grid P a b c d grid five = b
at_grid P a b c d grid fifteen = c
at_grid P a b c d grid thirty = d

pub some_grid : (head : Head) → IsHead head → 0 < head.grid
some_grid head h = at_grid (λ grid. 0 < grid) (omega arith) (omega arith) (omega arith) (omega arith) head.grid (is_grid head.params head.grid h.grid)

-- a head that is read has a grid
pub grid_holds : (book : Book) (form : Data) → IfOk (head_in book form) (λ head. 0 < head.grid)
grid_holds book form = IfOk-weaker (head_in book form) IsHead (λ head. 0 < head.grid) some_grid (head_in_holds book form)
