-- Days and cycles of a Canadian book: the numbers of its days, where they begin, and its rules.
use Rattle.std.proofs.Common.{◌≡◌, ◌↔◌, ℕ, ◌+◌, ◌-◌, ◌*◌, ◌/◌, ◌%◌, ◌<◌, ◌≤◌, Bool, true, false, List, [], Some, refl, sym, ◌∙◌, arith, inl, inr}
use Rattle.std.specs.Prelude.{nat_lt, ℤ, Contains, ◌==◌}
use Rattle.std.proofs.lemmas.Bool.{cases_eq}
use Rattle.std.proofs.lemmas.Bool.Decides.{nat_tests}
use Rattle.std.proofs.lemmas.Int.{ints}
use Rattle.duty_core.specs.declared.activity.Activity.{Activity}
use Rattle.duty_core.specs.declared.mark.Mark.{Mark}
use Rattle.duty_core.specs.declared.mark.Mark.TheVariants.{SplitRest, DeferDay}
use Rattle.duty_core.specs.declared.params.Params.{Params}
use Rattle.duty_core.specs.declared.params.Params.TheVariants.{Canada}
use Rattle.duty_core.specs.declared.params.RestWay.{RestWay}
use Rattle.duty_core.specs.declared.params.RestWay.TheVariants.{Split, Defer}
use Rattle.duty_core.specs.declared.rule.Rule.TheVariants.{CaOff10, CaDefer, Ca24in14, CaCycle, Ca70without24}
use Rattle.duty_core.specs.declared.limits.TheConstants.{DAY_MINUTES, CA_LOST_LIMIT}
use Rattle.duty_core.specs.History.{pad_days}
use Rattle.duty_core.specs.Laws.Day.{day_at}
use Rattle.duty_core.specs.Day.{day_number}
use Rattle.duty_core.specs.Laws.DayLaws.{number_of_day}
use Rattle.duty_core.specs.CaShift.{MeetsCaPair}
use Rattle.duty_core.specs.LostMinutes.{lost}
use Rattle.duty_core.specs.Deferral.{IsDeferWay}
use Rattle.duty_core.specs.Marks.{AreInOrder}
use Rattle.duty_core.specs.RuleBooks.{Keeps}
use Rattle.cycles_deferral.specs.declared.days.CanadaDays.{CanadaDays}
use Rattle.cycles_deferral.specs.declared.cycle.CycleCount.{CycleCount}
use Rattle.cycles_deferral.specs.DayMachine.{fresh_days}
use Rattle.cycles_deferral.specs.CycleMachine.{fresh_cycle}
use Rattle.cycles_deferral.specs.Paths.{ca_pads, ca_padded, AreDays, begins, date_of, TakesDays, TakesCycle, AreDeferrals}
use Rattle.cycles_deferral.specs.Laws.DaysExact.{days_exact_split, days_exact_defer}
use Rattle.cycles_deferral.specs.Laws.CycleExact.{cycle_exact}

-- # The days of a book

-- the day of a place, where a day begins `start` minutes after midnight
abbrev pub ca_day : ℕ → ℕ → ℕ → ℕ
ca_day start first i = (first + 1 * i + (DAY_MINUTES - start)) / DAY_MINUTES

day_on : (start first i : ℕ) → ca_day start first i ≤ ca_day start first (i + 1)
day_on start first i = omega arith

day_by_one : (start first i : ℕ) → ca_day start first (i + 1) ≤ ca_day start first i + 1
day_by_one start first i = omega arith

day_whole : (start first i : ℕ) → ca_day start first (i + DAY_MINUTES) ≡ ca_day start first i + 1
day_whole start first i = omega arith

day_later : (start first : ℕ) → 2 ≤ ca_day start first (ca_pads - 1)
unfolding pad_days
day_later start first = omega arith

-- the numbers of the days of a Canadian book are such
pub are_days : (berth : Bool) (way : RestWay) (cycle start first : ℕ) → AreDays (day_number (Canada berth way cycle start) first)
are_days berth way cycle start first = record { on = day_on start first; by_one = day_by_one start first; whole = day_whole start first; later = day_later start first }

-- the date of a place's day is told by its number
pub date_at : (berth : Bool) (way : RestWay) (cycle start first i : ℕ) → start ≤ DAY_MINUTES → day_at (Canada berth way cycle start) first i ≡ date_of (day_number (Canada berth way cycle start) first i)
date_at berth way cycle start first i l = let n = number_of_day (Canada berth way cycle start) first i l in omega (arith, ints)

day_begins : (start first n at : ℕ) → 1 ≤ n → at + ca_pads ≡ first + n → start ≤ DAY_MINUTES → nat_lt (ca_day start first (n - 1)) (ca_day start first n) ≡ ((at + (DAY_MINUTES - start)) % DAY_MINUTES == 0)
unfolding pad_days
day_begins start first n at some e l = elim (cases_eq ((at + (DAY_MINUTES - start)) % DAY_MINUTES) 0) [
  | inl q ↦ (let m : ca_day start first (n - 1) < ca_day start first n = omega arith in let a : nat_lt (ca_day start first (n - 1)) (ca_day start first n) ≡ true = grind (arith, nat_tests) in let b : ((at + (DAY_MINUTES - start)) % DAY_MINUTES == 0) ≡ true = grind (arith, nat_tests) in a ∙ sym b)
  | inr q ↦ (let m : ca_day start first n ≤ ca_day start first (n - 1) = omega arith in let a : nat_lt (ca_day start first (n - 1)) (ca_day start first n) ≡ false = grind (arith, nat_tests) in let b : ((at + (DAY_MINUTES - start)) % DAY_MINUTES == 0) ≡ false = grind (arith, nat_tests) in a ∙ sym b)
]

-- a place begins its day exactly where its minute, less the day's start, is a number of whole days
pub begins_at : (berth : Bool) (way : RestWay) (cycle start first n at : ℕ) → 1 ≤ n → at + ca_pads ≡ first + n → start ≤ DAY_MINUTES →
    begins (day_number (Canada berth way cycle start) first) n ≡ ((at + (DAY_MINUTES - start)) % DAY_MINUTES == 0)
begins_at berth way cycle start first n at some e l = day_begins start first n at some e l

-- # The rules of a book

-- what a list of marks without deferrals says of the two rules
pub record NoDeferral (marks : List Mark) : Type 0 where
  pub none : (date : ℤ) → Contains marks (DeferDay date) → ⊥

-- Under `split` a book's rules of daily rest say that no day is deferred, and each keeps its limit.
pub split_rules : (berth : Bool) (cycle start first : ℕ) (h : List Activity) (marks : List Mark) →
    (Keeps (Canada berth Split cycle start) first h marks CaOff10 × Keeps (Canada berth Split cycle start) first h marks CaDefer)
    ↔ (NoDeferral marks × ((j : ℕ) → lost (day_number (Canada berth Split cycle start) first) (ca_padded h) j ≤ CA_LOST_LIMIT))
split_rules berth cycle start first h marks = (
  (λ k.
      let none : (date : ℤ) → Contains marks (DeferDay date) → ⊥ = λ date c. absurd (let w = (k.1 date c).defer_way in let z : Some Split ≡ Some Defer = w in cc) in (
        record { none = none },
        (λ j. elim (k.0 j) [ inr l ↦ l | inl d ↦ elim d [ inl m ↦ absurd (none m.day m.marked) | inr m ↦ absurd (let i = m.2 in none i.day i.marked) ] ]),
      )),
  (λ k. ((λ j. inr (k.1 j)), (λ date c. absurd (k.0.none date c)))),
)

-- Under `split` the days take a history exactly where it keeps CA-OFF10 and CA-DEFER, with any marks that defer no day.
pub split_days : (berth : Bool) (cycle start first : ℕ) (h : List Activity) (marks : List Mark) → NoDeferral marks →
    ((t : CanadaDays) × TakesDays (day_number (Canada berth Split cycle start) first) (fresh_days Split) ca_pads h [] t)
    ↔ (Keeps (Canada berth Split cycle start) first h marks CaOff10 × Keeps (Canada berth Split cycle start) first h marks CaDefer)
split_days berth cycle start first h marks none =
    let params : Params = Canada berth Split cycle start in
    let e = days_exact_split (day_number params first) (are_days berth Split cycle start first) params h [] in
    let r = split_rules berth cycle start first h marks in (
      (λ t. r.1 (none, (e.0 t).1)),
      (λ k. e.1 (refl, (r.0 k).1)),
    )

-- Under `defer` a mark that may stand in a book defers a day.
pub pair_deferrals : (params : Params) (first : ℕ) (p : List Activity) (marks : List Mark) → IsDeferWay params → MeetsCaPair params first p marks → AreDeferrals marks
pair_deferrals params first p marks way pair (DeferDay date) c = (date, refl)
pair_deferrals params first p marks way pair (SplitRest at) c = absurd (let s = (pair.splits at c).split_way in let z : Some Split ≡ Some Defer = sym s ∙ way in cc)

-- Under `defer` the days take a history with these marks exactly where these are marks of deferrals, in order, with which it keeps CA-OFF10 and CA-DEFER.
pub defer_days : (berth : Bool) (cycle start first : ℕ) (h : List Activity) (marks : List Mark) →
    ((t : CanadaDays) × TakesDays (day_number (Canada berth Defer cycle start) first) (fresh_days Defer) ca_pads h marks t)
    ↔ (AreDeferrals marks × AreInOrder (Canada berth Defer cycle start) marks
    × Keeps (Canada berth Defer cycle start) first h marks CaOff10 × Keeps (Canada berth Defer cycle start) first h marks CaDefer)
defer_days berth cycle start first h marks =
    days_exact_defer (day_number (Canada berth Defer cycle start) first) (are_days berth Defer cycle start first) (Canada berth Defer cycle start) refl h marks

-- The counts take a history exactly where it keeps CA-24IN14, CA-CYCLE and CA-70WITHOUT24, with any marks.
pub cycle_rules : (berth : Bool) (way : RestWay) (cycle start first : ℕ) (h : List Activity) (marks : List Mark) →
    ((t : CycleCount) × TakesCycle (day_number (Canada berth way cycle start) first) (fresh_cycle cycle) ca_pads h t)
    ↔ (Keeps (Canada berth way cycle start) first h marks Ca24in14 × Keeps (Canada berth way cycle start) first h marks CaCycle × Keeps (Canada berth way cycle start) first h marks Ca70without24)
cycle_rules berth way cycle start first h marks =
    let e = cycle_exact (day_number (Canada berth way cycle start) first) (are_days berth way cycle start first) cycle h in (
      (λ t. let k = e.0 t in ((λ i. (k i).0), (λ i. (k i).1), (λ i. (k i).2))),
      (λ k. e.1 (λ i. (k.0 i, k.1 i, k.2 i))),
    )
