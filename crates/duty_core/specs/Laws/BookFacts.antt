-- What has to be proved of one book after another. The other laws of a book follow from these facts and from the terms of its parameters.
use Rattle.std.proofs.Common.{◌≡◌, ℕ, ◌+◌, ◌<◌, ◌≤◌, Bool, true, List, [], Option, None, Some, refl, sym, ◌∙◌, subst, arith}
use Rattle.std.specs.Prelude.{ℤ, Contains}
use Rattle.std.proofs.lemmas.Option.{none-some}
use Rattle.duty_core.specs.declared.activity.Activity.{Activity}
use Rattle.duty_core.specs.declared.mark.Mark.{Mark}
use Rattle.duty_core.specs.declared.mark.Mark.TheVariants.{SplitRest, DeferDay}
use Rattle.duty_core.specs.declared.params.Params.{Params}
use Rattle.duty_core.specs.declared.params.Params.TheVariants.{UsProperty, Canada, Hvnl}
use Rattle.duty_core.specs.declared.params.RestWay.{RestWay}
use Rattle.duty_core.specs.declared.params.RestWay.TheVariants.{Split, Defer}
use Rattle.duty_core.specs.declared.rule.Rule.TheVariants.{UsPair, CaOff10, CaDefer, CaPair}
use Rattle.duty_core.specs.declared.limits.TheConstants.{CA_LOST_LIMIT, DAY_MINUTES}
use Rattle.duty_core.specs.Params.{InMinutes, terms_of, has_berth, BeginsUnit, AreGoodParams}
use Rattle.duty_core.specs.History.{padded}
use Rattle.duty_core.specs.Day.{day_start, day_number}
use Rattle.duty_core.specs.Marks.{AreMarks, IsDeferred}
use Rattle.duty_core.specs.LostMinutes.{lost}
use Rattle.duty_core.specs.UsRules.{MeetsUsPair}
use Rattle.duty_core.specs.CaShift.{MeetsCaPair}
use Rattle.duty_core.specs.Deferral.{IsDeferWay, MeetsCaOff10, MeetsCaDefer}
use Rattle.duty_core.specs.MarkMeaning.{StandsIn}
use Rattle.duty_core.specs.RuleBooks.{KeepsAll}
use Rattle.duty_core.specs.Laws.MarkListLaws.{no_member}
use Rattle.duty_core.specs.Laws.FrontLaws.{day_has_number}

-- # Days

-- a day begins where a unit may begin
pub begins_whole : (params : Params) → BeginsUnit params (day_start params)
begins_whole (UsProperty berth days start) = record { units = start; whole = omega arith }
begins_whole (Canada berth way cycle start) = record { units = start; whole = omega arith }
begins_whole Hvnl = record { units = 0; whole = refl }

-- and before midnight
pub starts_in_day : (params : Params) → AreGoodParams params → day_start params < DAY_MINUTES
starts_in_day (UsProperty berth days start) good = good.2
starts_in_day (Canada berth way cycle start) good = good.2
starts_in_day Hvnl good = omega arith

-- # Marks

-- a book with marks counts minutes
pub marked_in_minutes : (params : Params) (marks : List Mark) (m : Mark) → AreMarks params marks → Contains marks m → (terms_of params).unit ≡ InMinutes
marked_in_minutes (UsProperty berth days start) marks m h c = refl
marked_in_minutes (Canada berth way cycle start) marks m h c = refl
marked_in_minutes Hvnl marks m h c = absurd (no_member m (subst (λ l. Contains l m) h c))

-- What the marks of a lawful history tell of it, where p is the history after it was padded.
pub record AreTrue (params : Params) (first : ℕ) (p : List Activity) (marks : List Mark) : Type 0 where
  -- each mark stands for something in p, and the day after a deferred day loses little
  pub stands : (m : Mark) → Contains marks m → StandsIn params first p m
  pub next_day : (i : ℕ) → IsDeferred marks i → lost (day_number params first) p (i + 1) ≤ CA_LOST_LIMIT
  -- a rest is split in a truck with a berth, and never under the way `defer`
  pub split_berth : (at : ℕ) → Contains marks (SplitRest at) → has_berth params ≡ true
  pub split_way : (at : ℕ) → Contains marks (SplitRest at) → IsDeferWay params → ⊥
  -- a day is deferred under the way `defer` alone, and there each day that is in no deferral loses little
  pub defer_way : (date : ℤ) → Contains marks (DeferDay date) → IsDeferWay params
  pub deferred : IsDeferWay params → (j : ℕ) → MeetsCaOff10 (day_number params first) p (IsDeferred marks) j

us_stands : (params : Params) (first : ℕ) (p : List Activity) (marks : List Mark) → MeetsUsPair params first p marks → (m : Mark) → Contains marks m → StandsIn params first p m
us_stands params first p marks g (SplitRest at) c = let s = g.splits at c in record { from = s.from; to = s.run.to; minute = s.minute; run = s.run.run }
us_stands params first p marks g (DeferDay day) c = absurd (g.none_deferred day c)

-- where no way is stated, as in the United States
us_true : (params : Params) (first : ℕ) (p : List Activity) (marks : List Mark) → (terms_of params).way ≡ None → MeetsUsPair params first p marks → AreTrue params first p marks
us_true params first p marks none g = record {
  stands = us_stands params first p marks g;
  next_day = λ i d. absurd (g.none_deferred d.day d.marked);
  split_berth = λ at c. (g.splits at c).run.berthed;
  split_way = λ at c d. none-some Defer (sym none ∙ d);
  defer_way = λ date c. absurd (g.none_deferred date c);
  deferred = λ d j. absurd (none-some Defer (sym none ∙ d));
}

ca_stands : (params : Params) (first : ℕ) (p : List Activity) (marks : List Mark) → MeetsCaPair params first p marks → MeetsCaDefer params (day_number params first) p marks → (m : Mark) → Contains marks m → StandsIn params first p m
ca_stands params first p marks g f (SplitRest at) c = let s = g.splits at c in record { from = s.from; to = s.run.to; minute = s.minute; run = s.run.run }
ca_stands params first p marks g f (DeferDay day) c = let s = f day c in record { number = s.number; numbered = s.numbered; least = s.defers.least }

ca_next_day : (params : Params) (first : ℕ) (p : List Activity) (marks : List Mark) → MeetsCaDefer params (day_number params first) p marks → (i : ℕ) → IsDeferred marks i → lost (day_number params first) p (i + 1) ≤ CA_LOST_LIMIT
ca_next_day params first p marks f i d =
    let s = f d.day d.marked in
    let e : s.number ≡ i = day_has_number d.day s.number i s.numbered d.numbered in
    let a = s.defers.least in
    let b = s.defers.both in
    subst (λ n. lost (day_number params first) p (n + 1) ≤ CA_LOST_LIMIT) e (omega arith)

split_no_defer : (way : Option RestWay) → way ≡ Some Split → way ≡ Some Defer → ⊥
split_no_defer way s d = let e : Some Split ≡ Some Defer = sym s ∙ d in cc

-- where a way is stated, as in Canada
ca_true : (params : Params) (first : ℕ) (p : List Activity) (marks : List Mark) → ((j : ℕ) → MeetsCaOff10 (day_number params first) p (IsDeferred marks) j) → MeetsCaDefer params (day_number params first) p marks →
    MeetsCaPair params first p marks → AreTrue params first p marks
ca_true params first p marks o f g = record {
  stands = ca_stands params first p marks g f;
  next_day = ca_next_day params first p marks f;
  split_berth = λ at c. (g.splits at c).run.berthed;
  split_way = λ at c d. split_no_defer (terms_of params).way (g.splits at c).split_way d;
  defer_way = λ date c. (f date c).defer_way;
  deferred = λ d j. o j;
}

-- where there are no marks, as in Australia
unmarked_true : (params : Params) (first : ℕ) (p : List Activity) (marks : List Mark) → (terms_of params).way ≡ None → marks ≡ [] → AreTrue params first p marks
unmarked_true params first p marks none e =
    let no : (m : Mark) → Contains marks m → ⊥ = λ m c. no_member m (subst (λ l. Contains l m) e c) in
    record {
      stands = λ m c. absurd (no m c);
      next_day = λ i d. absurd (no (DeferDay d.day) d.marked);
      split_berth = λ at c. absurd (no (SplitRest at) c);
      split_way = λ at c d. no (SplitRest at) c;
      defer_way = λ date c. absurd (no (DeferDay date) c);
      deferred = λ d j. absurd (none-some Defer (sym none ∙ d));
    }

-- the rules of the marks, in a book
pub us_pairs : (berth : Bool) (days start first : ℕ) (h : List Activity) (marks : List Mark) → KeepsAll (UsProperty berth days start) first h marks → MeetsUsPair (UsProperty berth days start) first (padded (UsProperty berth days start) h) marks
us_pairs berth days start first h marks k = k.rules 4 UsPair (omega arith)

ca_off10 : (berth : Bool) (way : RestWay) (cycle start first : ℕ) (h : List Activity) (marks : List Mark) → KeepsAll (Canada berth way cycle start) first h marks →
    (j : ℕ) → MeetsCaOff10 (day_number (Canada berth way cycle start) first) (padded (Canada berth way cycle start) h) (IsDeferred marks) j
ca_off10 berth way cycle start first h marks k = k.rules 5 CaOff10 (omega arith)

ca_defers : (berth : Bool) (way : RestWay) (cycle start first : ℕ) (h : List Activity) (marks : List Mark) → KeepsAll (Canada berth way cycle start) first h marks →
    MeetsCaDefer (Canada berth way cycle start) (day_number (Canada berth way cycle start) first) (padded (Canada berth way cycle start) h) marks
ca_defers berth way cycle start first h marks k = k.rules 6 CaDefer (omega arith)

pub ca_pairs : (berth : Bool) (way : RestWay) (cycle start first : ℕ) (h : List Activity) (marks : List Mark) → KeepsAll (Canada berth way cycle start) first h marks →
    MeetsCaPair (Canada berth way cycle start) first (padded (Canada berth way cycle start) h) marks
ca_pairs berth way cycle start first h marks k = k.rules 7 CaPair (omega arith)

pub are_true : (params : Params) (first : ℕ) (h : List Activity) (marks : List Mark) → KeepsAll params first h marks → AreTrue params first (padded params h) marks
are_true (UsProperty berth days start) first h marks k = us_true _ first _ marks refl (us_pairs berth days start first h marks k)
are_true (Canada berth way cycle start) first h marks k =
    ca_true _ first _ marks (ca_off10 berth way cycle start first h marks k) (ca_defers berth way cycle start first h marks k) (ca_pairs berth way cycle start first h marks k)
are_true Hvnl first h marks k = unmarked_true Hvnl first (padded Hvnl h) marks refl k.marks_of_book
