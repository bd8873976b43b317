-- What the reading of each rule looks at in a padded history p: a place, and the value there. All of it is counted as the rule itself counts.
use Rattle.std.specs.Prelude.{◌≡◌, ℕ, ◌+◌, ◌-◌, ◌*◌, ◌<◌, ◌≤◌, List, length}
use Rattle.duty_core.specs.declared.activity.Activity.{Activity}
use Rattle.duty_core.specs.declared.mark.Mark.{Mark}
use Rattle.duty_core.specs.declared.params.Params.{Params}
use Rattle.duty_core.specs.declared.params.Params.TheVariants.{Hvnl}
use Rattle.duty_core.specs.declared.rule.Rule.{Rule}
use Rattle.duty_core.specs.declared.rule.Rule.TheVariants.{UsPair, CaOff10, CaDefer, CaPair, Au14dNights}
use Rattle.duty_core.specs.declared.limits.TheConstants.{AU_LONG_START, AU_14D_PERIOD}
use Rattle.duty_core.specs.Params.{unit_minutes, BeginsUnit}
use Rattle.duty_core.specs.History.{pad_units}
use Rattle.duty_core.specs.Counting.{duty}
use Rattle.duty_core.specs.Day.{day_number}
use Rattle.duty_core.specs.Marks.{IsSplitAt, IsDeferred}
use Rattle.duty_core.specs.DeclaredRest.{IsSplitRest, IsNextDeclared}
use Rattle.duty_core.specs.LostMinutes.{lost}
use Rattle.duty_core.specs.Deferral.{IsInDeferral}
use Rattle.duty_core.specs.AuPeriods.{IsStart}
use Rattle.duty_core.specs.AuNights.{HasNights}
use Rattle.rule_readings.specs.declared.scope.Span.{Span}
use Rattle.rule_readings.specs.declared.scope.Scope.{Scope}
use Rattle.rule_readings.specs.declared.measure.Measure.{Measure}
use Rattle.rule_readings.specs.declared.measure.Measure.TheVariants.{Nothing, AtDriving, PairSum, Loss, DeferredLoss, PeriodDuty, PeriodRest, PeriodNights}
use Rattle.rule_readings.specs.declared.measure.Asked.{Asked}
use Rattle.rule_readings.specs.Asked.{asked_of, order_of}
use Rattle.rule_readings.specs.AuCounts.{rest_of, IsLongestRest}
use Rattle.rule_readings.specs.Best.{IsNoBetter}
use Rattle.rule_readings.specs.CaDays.{BeginsDay}
use Rattle.rule_readings.specs.CaHistory.{IsByMinutes}
use Rattle.rule_readings.specs.Counts.{HasDays, IsCountAt}

-- place k is one of the span
pub record IsIn (span : Span) (k : ℕ) : Type 0 where
  pub from : span.from ≤ k
  pub to : k < span.to

-- a place of the span lies from place `from` up to place `to`, without `to`
pub record Meets (span : Span) (from to : ℕ) : Type 0 where
  pub place : ℕ
  pub inside : IsIn span place
  pub after : from ≤ place
  pub before : place < to

-- a place of the span lies in the day with this number
pub record MeetsDay (span : Span) (day : ℕ → ℕ) (number : ℕ) : Type 0 where
  pub place : ℕ
  pub inside : IsIn span place
  pub of_day : day place ≡ number

-- # Places of the schedule

-- what the rule counts at a place of the schedule
pub record IsPlannedCount (span : Span) (Count : ℕ → ℕ → Type 0) (i n : ℕ) : Type 0 where
  pub planned : IsIn span i
  pub count : Count i n

-- # Pairs of rests

-- A split rest begins at the place, the next declared rest has ended, and together they have so many units.
pub record IsPairSum (full : ℕ) (p : List Activity) (Marked : ℕ → Type 0) (i n : ℕ) : Type 0 where
  pub to : ℕ
  pub split : IsSplitRest full p Marked i to
  pub from_next : ℕ
  pub to_next : ℕ
  pub next : IsNextDeclared full p Marked i to from_next to_next
  pub sum : n ≡ (to - i) + (to_next - from_next)

-- # Days

-- The place is the first one of its day, and a place of the span lies in that day.
pub record BeginsDayOf (span : Span) (day : ℕ → ℕ) (i : ℕ) : Type 0 where
  pub begins : BeginsDay day (day i) i
  pub there : MeetsDay span day (day i)

-- The place is the first one of a day with a unit of the schedule that is in no deferral, and so much of that day is lost.
pub record IsLoss (span : Span) (day : ℕ → ℕ) (p : List Activity) (Deferred : ℕ → Type 0) (i n : ℕ) : Type 0 where
  pub planned : BeginsDayOf span day i
  pub free : IsInDeferral Deferred (day i) → ⊥
  pub counted : n ≡ lost day p (day i)

-- The place is the first one of a deferred day with a unit of the history, and so much of that day and of the next is lost.
pub record IsDeferredLoss (span : Span) (day : ℕ → ℕ) (p : List Activity) (Deferred : ℕ → Type 0) (i n : ℕ) : Type 0 where
  pub there : BeginsDayOf span day i
  pub deferred : Deferred (day i)
  pub counted : n ≡ lost day p (day i) + lost day p (day i + 1)

-- # Counted periods

-- A period of so many units, with a unit of the schedule, begins at the place, where so much rest stands before it.
pub record IsPeriod (span : Span) (rested units : ℕ) (p : List Activity) (i : ℕ) : Type 0 where
  pub start : IsStart rested p i
  pub planned : Meets span i (i + units)

-- its duty, in minutes
pub record IsPeriodDuty (span : Span) (rested units : ℕ) (p : List Activity) (i n : ℕ) : Type 0 where
  pub period : IsPeriod span rested units p i
  pub counted : n ≡ unit_minutes Hvnl * duty p i (i + units)

-- the longest stretch of rest inside, in minutes
pub record IsPeriodRest (span : Span) (rested units : ℕ) (p : List Activity) (i n : ℕ) : Type 0 where
  pub period : IsPeriod span rested units p i
  pub rest : ℕ
  pub longest : IsLongestRest p i (i + units) rest
  pub counted : n ≡ unit_minutes Hvnl * rest

-- how many of its nights have a break
pub record IsPeriodNights (span : Span) (rested units first : ℕ) (p : List Activity) (i n : ℕ) : Type 0 where
  pub period : IsPeriod span rested units p i
  pub broken : HasNights n first p i units
  pub most : (least : ℕ) → HasNights least first p i units → least ≤ n

-- # Measures

-- what is looked at: the value n at place i
abbrev pub IsMeasured : Measure → Scope → List Activity → List Mark → ℕ → ℕ → Type 0
IsMeasured Nothing s p marks i n = ⊥
IsMeasured (AtDriving amount since) s p marks i n = IsPlannedCount s.planned (IsCountAt amount since (day_number s.params s.first) p (IsSplitAt s.params s.first marks)) i n
IsMeasured (PairSum full) s p marks i n = IsPairSum full p (IsSplitAt s.params s.first marks) i n
IsMeasured Loss s p marks i n = IsLoss s.planned (day_number s.params s.first) p (IsDeferred marks) i n
IsMeasured DeferredLoss s p marks i n = IsDeferredLoss s.history (day_number s.params s.first) p (IsDeferred marks) i n
IsMeasured (PeriodDuty start units) s p marks i n = IsPeriodDuty s.planned (rest_of start) units p i n
IsMeasured (PeriodRest units) s p marks i n = IsPeriodRest s.planned AU_LONG_START units p i n
IsMeasured PeriodNights s p marks i n = IsPeriodNights s.planned AU_LONG_START AU_14D_PERIOD s.first p i n

-- what the rule's reading looks at
abbrev pub IsValue : Scope → List Activity → List Mark → Rule → ℕ → ℕ → Type 0
IsValue s p marks rule i n = IsMeasured (asked_of s.params rule).measure s p marks i n

-- the value is within the limit: at most it, or at least it where the least value is told
abbrev pub MeetsAsked : Asked → ℕ → Type 0
MeetsAsked asked n = IsNoBetter (order_of asked.measure) asked.limit n

-- what is wanted of a book and of a history, so that a measure can be taken
abbrev pub IsAskable : Params → ℕ → Measure → Type 0
IsAskable params first (AtDriving amount since) = HasDays since
IsAskable params first (PairSum full) = full ≤ pad_units params
IsAskable params first Loss = IsByMinutes params first
IsAskable params first DeferredLoss = IsByMinutes params first
IsAskable params first (PeriodDuty start units) = units ≤ AU_14D_PERIOD
IsAskable params first (PeriodRest units) = units ≤ AU_14D_PERIOD
IsAskable params first PeriodNights = BeginsUnit Hvnl first
IsAskable params first _ = Unit {0}

-- all places of p are looked at
pub record IsWhole (s : Scope) (p : List Activity) : Type 0 where
  pub history : s.history ≡ record { from = 0; to = length p }
  pub planned : s.planned ≡ record { from = 0; to = length p }

-- A rule asks nothing but that its values are within its limit, unless it asks of marks, of each day or of nights that follow each other.
abbrev pub IsAskedAtPlaces : Rule → Type 0
IsAskedAtPlaces UsPair = ⊥
IsAskedAtPlaces CaOff10 = ⊥
IsAskedAtPlaces CaDefer = ⊥
IsAskedAtPlaces CaPair = ⊥
IsAskedAtPlaces Au14dNights = ⊥
IsAskedAtPlaces _ = Unit {0}
