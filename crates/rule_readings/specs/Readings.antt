-- The readings of a history that ends with a schedule: for each rule of the book, in its order, what it counts, its limit, and the minute.
use Rattle.std.specs.Prelude.{◌≡◌, ℕ, ◌+◌, ◌<◌, List, Option, MatchOption, IfSome, All, map, length}
use Rattle.duty_core.specs.declared.activity.Activity.{Activity}
use Rattle.duty_core.specs.declared.mark.Mark.{Mark}
use Rattle.duty_core.specs.declared.params.Params.{Params}
use Rattle.duty_core.specs.declared.rule.Rule.{Rule}
use Rattle.duty_core.specs.History.{pad_units, padded}
use Rattle.duty_core.specs.Marks.{IsMinuteOf}
use Rattle.duty_core.specs.RuleBooks.{rules_of}
use Rattle.rule_readings.specs.declared.reading.Reading.{Reading}
use Rattle.rule_readings.specs.declared.scope.Scope.{Scope}
use Rattle.rule_readings.specs.declared.best.Order.{Order}
use Rattle.rule_readings.specs.Best.{IsNoBetter, IsBestFirst}
use Rattle.rule_readings.specs.Asked.{asked_of, order_of}
use Rattle.rule_readings.specs.Values.{IsValue}

-- The history h begins at the minute `first`, and its units from number `from` on are the schedule. Both are spans of the padded history.
abbrev pub scope_of : Params → ℕ → List Activity → ℕ → Scope
scope_of params first h from =
    record {
      params = params;
      first = first;
      history = record { from = pad_units params; to = pad_units params + length h };
      planned = record { from = pad_units params + from; to = pad_units params + length h };
    }

-- p is the padded history of the scope
pub record IsScope (s : Scope) (p : List Activity) : Type 0 where
  pub history : List Activity
  pub from : ℕ
  pub made : p ≡ padded s.params history
  pub whole : s ≡ scope_of s.params s.first history from

-- The reading tells the best value that the rule looks at, its limit, and the minute of the first place with that value.
pub record IsReading (s : Scope) (p : List Activity) (marks : List Mark) (rule : Rule) (reading : Reading) : Type 0 where
  pub place : ℕ
  pub minute : IsMinuteOf s.params s.first reading.at place
  pub best : IsBestFirst (order_of (asked_of s.params rule).measure) (IsValue s p marks rule) place reading.used
  pub limit : reading.limit ≡ (asked_of s.params rule).limit

-- the value is within the limit: at most it, or at least it where the least value is told
abbrev pub IsWithin : Order → ℕ → ℕ → Type 0
IsWithin order limit used = IsNoBetter order limit used

-- the reading of the rule, where it looks at anything
abbrev pub IsReadingFound : Scope → List Activity → List Mark → Rule → Option Reading → Type 0
IsReadingFound s p marks rule found = MatchOption found ((i n : ℕ) → IsValue s p marks rule i n → ⊥) (IsReading s p marks rule)

-- the readings of the history h with these marks, which begins at the minute `first` and is planned from its unit number `from` on
pub record AreReadings (params : Params) (first : ℕ) (h : List Activity) (from : ℕ) (marks : List Mark) (readings : List (Rule × Option Reading)) : Type 0 where
  pub rules : map (λ (line : Rule × Option Reading). line.0) readings ≡ rules_of params
  pub each : All (λ (line : Rule × Option Reading). IsReadingFound (scope_of params first h from) (padded params h) marks line.0 line.1) readings

-- each reading's minute is before the minute `end`
abbrev pub AreTimedBefore : ℕ → List (Rule × Option Reading) → Type 0
AreTimedBefore end readings = All (λ (line : Rule × Option Reading). IfSome line.1 (λ reading. reading.at < end)) readings
