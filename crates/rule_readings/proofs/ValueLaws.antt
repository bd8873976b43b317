-- What readings look at: it lies inside the history, and there is one value at a place.
use Rattle.std.proofs.Common.{◌≡◌, ℕ, ◌+◌, ◌-◌, ◌*◌, ◌<◌, ◌≤◌, true, false, List, ◌++◌, Option, Some, None, IfSome, length, get_or, sym, ◌∙◌, ap, subst, arith, length-append, inl, inr}
use Rattle.std.specs.Prelude.{All}
use Rattle.std.proofs.lemmas.Bool.{cases_lt}
use Rattle.std.proofs.lemmas.List.{length-replicate}
use Rattle.duty_core.specs.declared.activity.Activity.{Activity}
use Rattle.duty_core.specs.declared.activity.Activity.TheVariants.{Off}
use Rattle.duty_core.specs.declared.mark.Mark.{Mark}
use Rattle.duty_core.specs.declared.params.Params.{Params}
use Rattle.duty_core.specs.declared.rule.Rule.{Rule}
use Rattle.duty_core.specs.declared.limits.TheConstants.{DAY_MINUTES, PADDING_MINUTES}
use Rattle.duty_core.specs.Activity.{rests}
use Rattle.duty_core.specs.Params.{unit_minutes}
use Rattle.duty_core.specs.History.{unit_at, pad_units, padding, padded}
use Rattle.duty_core.specs.Day.{day_number}
use Rattle.duty_core.specs.DeclaredRest.{IsSplitRest}
use Rattle.duty_core.specs.Laws.ExistLaws.{padding_rest}
use Rattle.duty_core.specs.Laws.HistoryLaws.{unit_at-after, unit_at-past}
use Rattle.duty_core.specs.Marks.{IsMinuteOf, IsSplitAt}
use Rattle.duty_core.specs.Laws.PrefixLaws.{no_duty}
use Rattle.duty_core.specs.RestRun.{IsRun}
use Rattle.rule_readings.specs.declared.reading.Reading.{Reading}
use Rattle.rule_readings.specs.declared.scope.Span.{Span}
use Rattle.rule_readings.specs.declared.scope.Scope.{Scope}
use Rattle.rule_readings.specs.declared.measure.Measure.{Measure}
use Rattle.rule_readings.specs.declared.measure.Measure.TheVariants.{Nothing, AtDriving, PairSum, Loss, DeferredLoss, PeriodDuty, PeriodRest, PeriodNights}
use Rattle.rule_readings.specs.Asked.{asked_of}
use Rattle.rule_readings.specs.AuCounts.{IsLongestRest}
use Rattle.rule_readings.specs.Values.{BeginsDayOf, IsPlannedCount, IsPeriod, IsPeriodRest, IsPeriodNights, IsMeasured, IsAskable}
use Rattle.rule_readings.specs.Readings.{scope_of, IsScope, IsReadingFound, AreTimedBefore}
use Rattle.rule_readings.proofs.Books.{book_unit}
use Rattle.rule_readings.proofs.CountLaws.{count_once}
use Rattle.rule_readings.proofs.DeclaredRuns.{minute_is}
use Rattle.rule_readings.proofs.PairSums.{one_pair_sum}

-- # One value at a place

longest_once : (p : List Activity) (from to n m : ℕ) → IsLongestRest p from to n → IsLongestRest p from to m → n ≡ m
longest_once p from to n m h g = let x = h.longest m g.held in let y = g.longest n h.held in omega arith

period_rest_once : (span : Span) (rested units : ℕ) (p : List Activity) (i n m : ℕ) → IsPeriodRest span rested units p i n → IsPeriodRest span rested units p i m → n ≡ m
period_rest_once span rested units p i n m h g = let e = longest_once p i (i + units) h.rest g.rest h.longest g.longest in let x = h.counted in let y = g.counted in omega arith

nights_once : (span : Span) (rested units first : ℕ) (p : List Activity) (i n m : ℕ) → IsPeriodNights span rested units first p i n → IsPeriodNights span rested units first p i m → n ≡ m
nights_once span rested units first p i n m h g = let x = h.most m g.broken in let y = g.most n h.broken in omega arith

pub one_value : (measure : Measure) (s : Scope) (p : List Activity) (marks : List Mark) (i n m : ℕ) → IsMeasured measure s p marks i n → IsMeasured measure s p marks i m → n ≡ m
one_value Nothing s p marks i n m h g = absurd h
one_value (AtDriving amount since) s p marks i n m h g = count_once amount since (day_number s.params s.first) p (IsSplitAt s.params s.first marks) i n m h.count g.count
one_value (PairSum full) s p marks i n m h g = one_pair_sum full p (IsSplitAt s.params s.first marks) i n m h g
one_value Loss s p marks i n m h g = h.counted ∙ sym g.counted
one_value DeferredLoss s p marks i n m h g = h.counted ∙ sym g.counted
one_value (PeriodDuty start units) s p marks i n m h g = h.counted ∙ sym g.counted
one_value (PeriodRest units) s p marks i n m h g = period_rest_once s.planned _ units p i n m h g
one_value PeriodNights s p marks i n m h g = nights_once s.planned _ _ s.first p i n m h g

-- # Where values are

-- the history with rest after it is at least as long as what it ends with
long_enough : (params : Params) (h : List Activity) → pad_units params + length h ≤ length (padded params h)
long_enough params h = omega (arith, length-append (padding params ++ h) (padding params), length-append (padding params) h, length-replicate (pad_units params) Off)

-- the day of a place of the span begins no later
day_inside : (span : Span) (day : ℕ → ℕ) (i : ℕ) → BeginsDayOf span day i → i < span.to
day_inside span day i h =
    let k = h.there.place in
    let e = h.there.of_day in
    let l = h.begins.first k (omega arith) in
    let m = h.there.inside.to in
    omega arith

period_inside : (span : Span) (rested units : ℕ) (p : List Activity) (i : ℕ) → IsPeriod span rested units p i → i < span.to
period_inside span rested units p i h = let l = h.planned.after in let m = h.planned.inside.to in omega arith

-- a run of the padded history ends at a place of the history
run_before : (params : Params) (h : List Activity) (a b : ℕ) → IsRun (padded params h) a b → b < pad_units params + length h
run_before params h a b r = elim (cases_lt b (pad_units params + length h)) [
  | inl l ↦ l
  | inr l ↦ absurd (
      let m : length (padding params ++ h) ≤ b = omega (arith, length-append (padding params) h, length-replicate (pad_units params) Off) in
      let z : true ≡ false = sym (ap rests (unit_at-after (padding params ++ h) (pad_units params) b m)) ∙ r.ended in cc)
]

pub run_inside : (p : List Activity) (a b : ℕ) → IsRun p a b → b < length p
run_inside p a b r = elim (cases_lt b (length p)) [ inl l ↦ l | inr l ↦ absurd (let z : true ≡ false = sym (ap rests (unit_at-past p b l)) ∙ r.ended in cc) ]

-- values lie before place `end`, where the schedule, the history and all runs do
pub value_before : (measure : Measure) (s : Scope) (p : List Activity) (marks : List Mark) (end : ℕ) → s.planned.to ≤ end → s.history.to ≤ end → ((a b : ℕ) → IsRun p a b → b < end) → (i n : ℕ) → IsMeasured measure s p marks i n → i < end
value_before Nothing s p marks end l m r i n g = absurd g
value_before (AtDriving amount since) s p marks end l m r i n g = let k = g.planned.to in omega arith
value_before (PairSum full) s p marks end l m r i n g = let k = g.split.run.some in let o = r i g.to g.split.run in omega arith
value_before Loss s p marks end l m r i n g = let k = day_inside s.planned (day_number s.params s.first) i g.planned in omega arith
value_before DeferredLoss s p marks end l m r i n g = let k = day_inside s.history (day_number s.params s.first) i g.there in omega arith
value_before (PeriodDuty start units) s p marks end l m r i n g = let k = period_inside s.planned _ _ p i g.period in omega arith
value_before (PeriodRest units) s p marks end l m r i n g = let k = period_inside s.planned _ _ p i g.period in omega arith
value_before PeriodNights s p marks end l m r i n g = let k = period_inside s.planned _ _ p i g.period in omega arith

-- those of a history lie in it
value_of_history : (measure : Measure) (params : Params) (first from : ℕ) (h : List Activity) (marks : List Mark) (i n : ℕ) → IsMeasured measure (scope_of params first h from) (padded params h) marks i n → i < pad_units params + length h
value_of_history measure params first from h marks i n g = value_before measure (scope_of params first h from) (padded params h) marks (pad_units params + length h) (omega arith) (omega arith) (run_before params h) i n g

-- the same of a scope
in_scope : (measure : Measure) (s : Scope) (p : List Activity) (marks : List Mark) (h : IsScope s p) (i n : ℕ) → IsMeasured measure s p marks i n → IsMeasured measure (scope_of s.params s.first h.history h.from) (padded s.params h.history) marks i n
in_scope measure s p marks h i n v = subst (λ t. IsMeasured measure t (padded s.params h.history) marks i n) h.whole (subst (λ q. IsMeasured measure s q marks i n) h.made v)

pub all_inside : (measure : Measure) (s : Scope) (p : List Activity) (marks : List Mark) → IsScope s p → (i n : ℕ) → IsMeasured measure s p marks i n → i < length p
all_inside measure s p marks h i n v =
    let l = value_of_history measure s.params s.first h.from h.history marks i n (in_scope measure s p marks h i n v) in
    let m : pad_units s.params + length h.history ≤ length p = subst (λ q. pad_units s.params + length h.history ≤ length q) (sym h.made) (long_enough s.params h.history) in
    omega arith

-- # Their minutes lie in the years that are told

-- the places of the history, and those of a day that holds one of them
late_place : (params : Params) (first i : ℕ) → pad_units params ≤ i → PADDING_MINUTES ≤ first + unit_minutes params * i
late_place params first i l = elim (book_unit params) [
  | inl h ↦ (let e = h.padding in let a = ap (λ u. u * i) h.unit in omega arith)
  | inr h ↦ (let e = h.padding in let a = ap (λ u. u * i) h.unit in omega arith)
]

late_day : (params : Params) (first i k : ℕ) → DAY_MINUTES ≤ first → pad_units params ≤ k → day_number params first k ≡ day_number params first i → PADDING_MINUTES ≤ first + unit_minutes params * i
late_day params first i k e l d = elim (book_unit params) [
  | inl h ↦ (let p = h.padding in let a = ap (λ u. u * i) h.unit in let b = ap (λ u. u * k) h.unit in omega arith)
  | inr h ↦ (let p = h.padding in let a = ap (λ u. u * i) h.unit in let b = ap (λ u. u * k) h.unit in omega arith)
]

-- no split rest begins in the padding before the history
late_split : (params : Params) (full : ℕ) (h : List Activity) (Marked : ℕ → Type 0) (i to : ℕ) → full ≤ pad_units params → IsSplitRest full (padded params h) Marked i to → pad_units params ≤ i
late_split params full h Marked i to l s = elim (cases_lt i (pad_units params)) [
  | inr m ↦ m
  | inl m ↦ elim (cases_lt 0 i) [
    | inl o ↦ absurd (let z : true ≡ false = sym (padding_rest params h (i - 1) (omega arith) (omega arith)) ∙ s.run.starts (i - 1) (omega arith) in cc)
    | inr o ↦ (let a = s.short in absurd (let z : true ≡ false = sym (padding_rest params h to (omega arith) (omega arith)) ∙ s.run.ended in cc))
  ]
]

-- nor a counted period
late_period : (params : Params) (span : Span) (rested units : ℕ) (h : List Activity) (i : ℕ) → IsPeriod span rested units (padded params h) i → pad_units params ≤ i
late_period params span rested units h i g = elim (cases_lt i (pad_units params)) [
  | inr m ↦ m
  | inl m ↦ absurd (no_duty (unit_at (padded params h) i) (padding_rest params h i (omega arith) m) g.start.works_there)
]

late_begin : (params : Params) (first : ℕ) (span : Span) (i : ℕ) → DAY_MINUTES ≤ first → pad_units params ≤ span.from → BeginsDayOf span (day_number params first) i → PADDING_MINUTES ≤ first + unit_minutes params * i
late_begin params first span i e l h = let m = h.there.inside.from in late_day params first i h.there.place e (omega arith) h.there.of_day

late_planned : (params : Params) (first : ℕ) (span : Span) (Count : ℕ → ℕ → Type 0) (i n : ℕ) → pad_units params ≤ span.from → IsPlannedCount span Count i n → PADDING_MINUTES ≤ first + unit_minutes params * i
late_planned params first span Count i n l h = let m = h.planned.from in late_place params first i (omega arith)

late_value : (measure : Measure) (params : Params) (first from : ℕ) (h : List Activity) (marks : List Mark) (i n : ℕ) → DAY_MINUTES ≤ first → IsAskable params first measure → IsMeasured measure (scope_of params first h from) (padded params h) marks i n →
    PADDING_MINUTES ≤ first + unit_minutes params * i
late_value Nothing params first from h marks i n e l g = absurd g
late_value (AtDriving amount since) params first from h marks i n e l g = late_planned params first (scope_of params first h from).planned _ i n (omega arith) g
late_value (PairSum full) params first from h marks i n e l g = late_place params first i (late_split params full h (IsSplitAt params first marks) i g.to l g.split)
late_value Loss params first from h marks i n e l g = late_begin params first (scope_of params first h from).planned i e (omega arith) g.planned
late_value DeferredLoss params first from h marks i n e l g = late_begin params first (scope_of params first h from).history i e (omega arith) g.there
late_value (PeriodDuty start units) params first from h marks i n e l g = late_place params first i (late_period params (scope_of params first h from).planned _ _ h i g.period)
late_value (PeriodRest units) params first from h marks i n e l g = late_place params first i (late_period params (scope_of params first h from).planned _ _ h i g.period)
late_value PeriodNights params first from h marks i n e l g = late_place params first i (late_period params (scope_of params first h from).planned _ _ h i g.period)

pub all_late : (measure : Measure) (s : Scope) (p : List Activity) (marks : List Mark) → IsScope s p → DAY_MINUTES ≤ s.first → IsAskable s.params s.first measure → (i n : ℕ) → IsMeasured measure s p marks i n → PADDING_MINUTES ≤ s.first + unit_minutes s.params * i
all_late measure s p marks h e l i n v = late_value measure s.params s.first h.from h.history marks i n e l (in_scope measure s p marks h i n v)

-- the minute of a place before the end is before the minute of the end
minute_before : (params : Params) (first i len at : ℕ) → i < pad_units params + len → IsMinuteOf params first at i → at < first + unit_minutes params * len
minute_before params first i len at l m =
    let e = (minute_is params first i at).0 m in
    elim (book_unit params) [
      | inl h ↦ (let p = h.padding in let a = ap (λ u. u * i) h.unit in let b = ap (λ u. u * len) h.unit in omega arith)
      | inr h ↦ (let p = h.padding in let a = ap (λ u. u * i) h.unit in let b = ap (λ u. u * len) h.unit in omega arith)
    ]

found_before : (params : Params) (first from : ℕ) (h : List Activity) (marks : List Mark) (rule : Rule) (found : Option Reading) → IsReadingFound (scope_of params first h from) (padded params h) marks rule found →
    IfSome found (λ reading. reading.at < first + unit_minutes params * length h)
found_before params first from h marks rule None g = tt
found_before params first from h marks rule (Some reading) g = minute_before params first g.place (length h) reading.at (value_of_history (asked_of params rule).measure params first from h marks g.place reading.used g.best.there) g.minute

-- the readings tell minutes before the end of the history
pub readings_before : (params : Params) (first from : ℕ) (h : List Activity) (marks : List Mark) (readings : List (Rule × Option Reading)) →
    All (λ (line : Rule × Option Reading). IsReadingFound (scope_of params first h from) (padded params h) marks line.0 line.1) readings → AreTimedBefore (first + unit_minutes params * length h) readings
readings_before params first from h marks readings g k d l = found_before params first from h marks (get_or readings k d).0 (get_or readings k d).1 (g k d l)
