-- When one history is plainly better than another of the same length, whatever comes next. Here p and q are the histories up to now, after their padding, with no rest after them. A run of rest that they end with is in progress and no declared rest yet.
use Rattle.std.specs.Prelude.{◌≡◌, ℕ, ◌+◌, ◌-◌, ◌<◌, ◌≤◌, ◌⊎◌, max, Bool, true, List, [], ◌∷◌, ◌++◌, length, Contains}
use Rattle.duty_core.specs.declared.activity.Activity.{Activity}
use Rattle.duty_core.specs.declared.activity.Activity.TheVariants.{Serve}
use Rattle.duty_core.specs.declared.mark.Mark.{Mark}
use Rattle.duty_core.specs.declared.params.Params.{Params}
use Rattle.duty_core.specs.declared.params.Params.TheVariants.{UsProperty, Canada, Hvnl}
use Rattle.duty_core.specs.declared.limits.TheConstants.{US_FULL_REST, US_RESTART, CA_FULL_REST, CA_DAY_OFF, CA_CYCLE_2, AU_SHORT_START, AU_LONG_START, AU_5H30_PERIOD, AU_5H30_DUTY, AU_8H_PERIOD, AU_8H_DUTY, AU_11H_PERIOD, AU_11H_DUTY, AU_24H_PERIOD, AU_24H_DUTY, AU_24H_REST, AU_7D_PERIOD, AU_7D_DUTY, AU_7D_REST, AU_14D_PERIOD, AU_14D_DUTY}
use Rattle.duty_core.specs.Params.{has_berth}
use Rattle.duty_core.specs.History.{pad_units, padding}
use Rattle.duty_core.specs.RestRun.{EndsIn}
use Rattle.duty_core.specs.Stretch.{IsRest, IsStill, IsBerth, HoldsBerth, HoldsRest}
use Rattle.duty_core.specs.Day.{IsFirstOfDays, day_number}
use Rattle.duty_core.specs.Counting.{driving, duty, IsLastEnd, IsDaysBase}
use Rattle.duty_core.specs.Marks.{IsSplitAt, IsDeferred}
use Rattle.duty_core.specs.DeclaredRest.{IsDeclared, IsWaiting}
use Rattle.duty_core.specs.Base.{IsBase, elapsed}
use Rattle.duty_core.specs.UsRules.{IsLastBreak}
use Rattle.duty_core.specs.LostMinutes.{lost}
use Rattle.duty_core.specs.CaCycle.{cycle_days, cycle_reset}
use Rattle.duty_core.specs.AuPeriods.{IsStart, IsLongStart}
use Rattle.duty_core.specs.AuNights.{IsNightOf, HasBreakBy}
use Rattle.duty_core.specs.RuleBooks.{week_days, cycle_of, KeepsAll}
use Rattle.duty_core.specs.Implies.{Limit, Implies}

-- # United States and Canada

-- The run in progress is at least as long, and in a truck with a berth it is all Berth from the first unit of the history on. The first `pad` units of p are its padding, into which the run of a history that is rest throughout reaches: nothing is asked of them.
pub record IsRunBetter (pad : ℕ) (berth : Bool) (p q : List Activity) : Type 0 where
  pub long : (n k : ℕ) → EndsIn p n → EndsIn q k → k ≤ n
  pub all_berth : berth ≡ true → (n : ℕ) → EndsIn p n → IsBerth p (max pad (length p - n)) (length p)

-- Now counts run from place `base`: where no declared rest has ended, from the first one.
abbrev pub IsBaseNow : ℕ → List Activity → (ℕ → Type 0) → ℕ → ℕ → Type 0
IsBaseNow full p Marked base omitted =
    IsBase full p Marked (length p) base omitted ⊎ (((a b : ℕ) → IsDeclared full p Marked a b → ⊥) × (base ≡ 0) × (omitted ≡ 0))

-- driving, duty and elapsed time since the base are no more
pub record IsBaseBetter (full : ℕ) (p : List Activity) (Marked : ℕ → Type 0) (q : List Activity) (Other : ℕ → Type 0) : Type 0 where
  pub less_driving : (a u b v : ℕ) → IsBaseNow full p Marked a u → IsBaseNow full q Other b v → driving p a (length p) ≤ driving q b (length q)
  pub less_duty : (a u b v : ℕ) → IsBaseNow full p Marked a u → IsBaseNow full q Other b v → duty p a (length p) ≤ duty q b (length q)
  pub less_elapsed : (a u b v : ℕ) → IsBaseNow full p Marked a u → IsBaseNow full q Other b v → elapsed a u (length p) ≤ elapsed b v (length q)

-- no split rest waits
abbrev pub NoneWaits : ℕ → List Activity → (ℕ → Type 0) → Type 0
NoneWaits full p Marked = (a b : ℕ) → IsWaiting full p Marked (length p) a b → ⊥

-- A split rest waits in both: that of p is at least as long, each stretch of Berth in that of q is matched, and driving, duty and elapsed time since it are no more.
pub record BothWait (full : ℕ) (p : List Activity) (Marked : ℕ → Type 0) (q : List Activity) (Other : ℕ → Type 0) : Type 0 where
  pub a : ℕ
  pub b : ℕ
  pub c : ℕ
  pub d : ℕ
  pub waits : IsWaiting full p Marked (length p) a b
  pub other_waits : IsWaiting full q Other (length q) c d
  pub long : d - c ≤ b - a
  pub berth : (n : ℕ) → HoldsBerth n q c d → HoldsBerth n p a b
  pub less_driving : driving p b (length p) ≤ driving q d (length q)
  pub less_duty : duty p b (length p) ≤ duty q d (length q)
  pub less_elapsed : length p - b ≤ length q - d

-- the rest in progress, the counts since the base, and the split rest that waits
pub record IsShiftBetter (full pad : ℕ) (berth : Bool) (p : List Activity) (Marked : ℕ → Type 0) (q : List Activity) (Other : ℕ → Type 0) : Type 0 where
  pub run : IsRunBetter pad berth p q
  pub base : IsBaseBetter full p Marked q Other
  pub waiting : (NoneWaits full p Marked × NoneWaits full q Other) ⊎ BothWait full p Marked q Other

-- For each number of days that a rule looks at, and each smaller one down to this day alone, the duty of these days since the last restart is no more.
abbrev pub AreDaysBetter : (ℕ → ℕ) → ℕ → ℕ → List Activity → List Activity → Type 0
AreDaysBetter day days restart p q =
    (n a b : ℕ) → 1 ≤ n → n ≤ days → IsDaysBase day n restart p (length p) a → IsDaysBase day n restart q (length q) b → duty p a (length p) ≤ duty q b (length q)

pub record IsUsBetter (params : Params) (first : ℕ) (p : List Activity) (marks : List Mark) (q : List Activity) (others : List Mark) : Type 0 where
  pub shift : IsShiftBetter US_FULL_REST (pad_units params) (has_berth params) p (IsSplitAt params first marks) q (IsSplitAt params first others)
  -- driving since the last break is no more, and the stretch without driving that the history ends with is at least as long
  pub unbroken : (a b : ℕ) → IsLastBreak p (length p) a → IsLastBreak q (length q) b → driving p a (length p) ≤ driving q b (length q)
  pub still : (n : ℕ) → n ≤ length q → IsStill q (length q - n) (length q) → IsStill p (length p - n) (length p)
  pub week : AreDaysBetter (day_number params first) (week_days params) US_RESTART p q

-- driving and duty of today are no more
pub record IsDayBetter (day : ℕ → ℕ) (p q : List Activity) : Type 0 where
  pub less_driving : (a : ℕ) → IsFirstOfDays day 1 (length p) a → driving p a (length p) ≤ driving q a (length q)
  pub less_duty : (a : ℕ) → IsFirstOfDays day 1 (length p) a → duty p a (length p) ≤ duty q a (length q)

-- Lost minutes of day j are no more, both where rest follows for good and where one minute of duty follows.
pub record IsLostBetter (day : ℕ → ℕ) (p q : List Activity) (j : ℕ) : Type 0 where
  pub at_rest : lost day p j ≤ lost day q j
  pub at_duty : lost day (p ++ Serve ∷ []) j ≤ lost day (q ++ Serve ∷ []) j

-- no mark defers the day before today or the day before that one
abbrev pub NoneDeferred : List Mark → ℕ → Type 0
NoneDeferred marks today = (j : ℕ) → IsDeferred marks j → (j + 1 ≡ today) ⊎ (j + 2 ≡ today) → ⊥

-- 1,440 consecutive minutes of rest end at place `to` for the last time so far
pub record IsLastDayOff (p : List Activity) (to : ℕ) : Type 0 where
  pub there : CA_DAY_OFF ≤ to
  pub rest : IsRest p (to - CA_DAY_OFF) to
  pub before : to ≤ length p
  pub last : (b : ℕ) → CA_DAY_OFF ≤ b → IsRest p (b - CA_DAY_OFF) b → b ≤ length p → b ≤ to

pub record IsCaBetter (params : Params) (first : ℕ) (p : List Activity) (marks : List Mark) (q : List Activity) (others : List Mark) : Type 0 where
  pub shift : IsShiftBetter CA_FULL_REST (pad_units params) (has_berth params) p (IsSplitAt params first marks) q (IsSplitAt params first others)
  pub day : IsDayBetter (day_number params first) p q
  pub today : IsLostBetter (day_number params first) p q (day_number params first (length p))
  pub yesterday : (j : ℕ) → j + 1 ≡ day_number params first (length p) → IsLostBetter (day_number params first) p q j
  pub none_deferred : NoneDeferred marks (day_number params first (length p))
  pub no_other_deferred : NoneDeferred others (day_number params first (length q))
  -- the time since the last 1,440 consecutive minutes of rest is no more
  pub day_off : (a b : ℕ) → IsLastDayOff p a → IsLastDayOff q b → length p - a ≤ length q - b
  pub cycle : AreDaysBetter (day_number params first) (cycle_days (cycle_of params)) (cycle_reset (cycle_of params)) p q
  -- in cycle 2 duty since the last such run that has ended is no more
  pub without : cycle_of params ≡ CA_CYCLE_2 → (a b : ℕ) → IsLastEnd CA_DAY_OFF p (length p) a → IsLastEnd CA_DAY_OFF q (length q) b → duty p a (length p) ≤ duty q b (length q)

-- # Australia

-- a kind of counted period: from a start after so much rest on, its units, and the number that its rule names
pub record Period : Type 0 where
  pub rested : ℕ
  pub units : ℕ
  pub asked : ℕ

-- the kinds of period that limit duty
abbrev pub duty_periods : List Period
duty_periods =
    record { rested = AU_SHORT_START; units = AU_5H30_PERIOD; asked = AU_5H30_DUTY }
    ∷ record { rested = AU_SHORT_START; units = AU_8H_PERIOD; asked = AU_8H_DUTY }
    ∷ record { rested = AU_SHORT_START; units = AU_11H_PERIOD; asked = AU_11H_DUTY }
    ∷ record { rested = AU_LONG_START; units = AU_24H_PERIOD; asked = AU_24H_DUTY }
    ∷ record { rested = AU_LONG_START; units = AU_7D_PERIOD; asked = AU_7D_DUTY }
    ∷ record { rested = AU_LONG_START; units = AU_14D_PERIOD; asked = AU_14D_DUTY }
    ∷ []

-- the kinds of period that ask for consecutive rest
abbrev pub rest_periods : List Period
rest_periods =
    record { rested = AU_LONG_START; units = AU_24H_PERIOD; asked = AU_24H_REST }
    ∷ record { rested = AU_LONG_START; units = AU_7D_PERIOD; asked = AU_7D_REST }
    ∷ []

-- a period of p, which so many units are left of
pub record IsOpenPeriod (p : List Activity) (kind : Period) (start left : ℕ) : Type 0 where
  pub starts : IsStart kind.rested p start
  pub ends : left + length p ≡ start + kind.units
  pub open_yet : 0 < left

-- what a period of p still allows: the units and the duty that are left of it
pub record IsOpenLimit (p : List Activity) (limit : Limit) : Type 0 where
  pub kind : Period
  pub of_book : Contains duty_periods kind
  pub start : ℕ
  pub period : IsOpenPeriod p kind start limit.units
  pub duty_left : limit.duty + duty p start (length p) ≡ kind.asked

-- a period of p waits for so many consecutive rest units in the units that are left of it
pub record IsOpenNeed (p : List Activity) (rest left : ℕ) : Type 0 where
  pub kind : Period
  pub of_book : Contains rest_periods kind
  pub asks : kind.asked ≡ rest
  pub start : ℕ
  pub period : IsOpenPeriod p kind start left
  pub waits : HoldsRest rest p start (length p) → ⊥

-- a period of fourteen days is open in both, and each of its nights with a break in q, counting no later rest, has one in p
pub record AreNightsBetter (first : ℕ) (p q : List Activity) (start : ℕ) : Type 0 where
  pub other : IsLongStart q start
  pub breaks : (m : ℕ) → IsNightOf first start AU_14D_PERIOD m → HasBreakBy (length q) q m → HasBreakBy (length p) p m

pub record IsAuBetter (first : ℕ) (p q : List Activity) : Type 0 where
  -- the runs in progress are equal, or both as long as the longest rest that a rule looks at
  pub run : (n k : ℕ) → EndsIn p n → EndsIn q k → (n ≡ k) ⊎ ((AU_7D_REST ≤ n) × (AU_7D_REST ≤ k))
  -- each open limit is implied by one of q
  pub limits : (limit : Limit) → IsOpenLimit p limit → (o : Limit) × IsOpenLimit q o × Implies o limit
  -- for each rest that a period waits for, one of q waits for as much in no more units
  pub needs : (rest left : ℕ) → IsOpenNeed p rest left → (o : ℕ) × (o ≤ left) × IsOpenNeed q rest o
  pub nights : (start : ℕ) → IsLongStart p start → length p < start + AU_14D_PERIOD → AreNightsBetter first p q start

-- # All books

-- the conditions of the book
abbrev pub IsBetterSoFar : Params → ℕ → List Activity → List Mark → List Activity → List Mark → Type 0
IsBetterSoFar (UsProperty berth days start) first p marks q others = IsUsBetter (UsProperty berth days start) first p marks q others
IsBetterSoFar (Canada berth way cycle start) first p marks q others = IsCaBetter (Canada berth way cycle start) first p marks q others
IsBetterSoFar Hvnl first p marks q others = IsAuBetter first p q

-- The history h with its marks is plainly better than k with its own: both are lawful, of one length and first minute, and no count of h is worse.
pub record IsPlainlyBetter (params : Params) (first : ℕ) (h : List Activity) (marks : List Mark) (k : List Activity) (others : List Mark) : Type 0 where
  pub same_length : length h ≡ length k
  pub lawful : KeepsAll params first h marks
  pub other_lawful : KeepsAll params first k others
  pub better : IsBetterSoFar params first (padding params ++ h) marks (padding params ++ k) others
