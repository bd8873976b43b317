-- Which count may stand for which, whatever comes next.
use Rattle.std.specs.Prelude.{◌-◌, ◌≡◌, ℕ, ◌+◌, ◌<◌, ◌≤◌, ◌⊎◌, min, Bool, true, false, not, cond, Option, None, Some, nat_eq, nat_le, ◌&&◌, ◌||◌}
use Rattle.duty_core.specs.declared.activity.Activity.{Activity}
use Rattle.duty_core.specs.declared.activity.Activity.TheVariants.{Drive, Serve, Wait, Off, Berth}
use Rattle.duty_core.specs.declared.limits.TheConstants.{COUNT_LIMIT, US_PAIR_BERTH}
use Rattle.sleeper_split.specs.declared.rule.BerthRule.{BerthRule}
use Rattle.sleeper_split.specs.declared.rule.BerthRule.TheVariants.{SevenInOne, AllOfNext}
use Rattle.sleeper_split.specs.declared.rule.SplitRule.{SplitRule}
use Rattle.sleeper_split.specs.declared.count.Used.{Used}
use Rattle.sleeper_split.specs.declared.count.OpenRun.{OpenRun}
use Rattle.sleeper_split.specs.declared.count.WaitingRest.{WaitingRest}
use Rattle.sleeper_split.specs.declared.count.SplitCount.{SplitCount}
use Rattle.sleeper_split.specs.Machine.{IsSplitCount, IsWithin, after_duty, has_pair_berth, has_split_berth, may_pair, without_run}
use Rattle.sleeper_split.specs.Exact.{IsSplitRule}

-- # What is asked of a rule and of a count

-- the least time in the berth is no more than a full rest
abbrev pub IsBerthWithin : BerthRule → ℕ → Type 0
IsBerthWithin SevenInOne full = US_PAIR_BERTH ≤ full
IsBerthWithin AllOfNext full = Unit {0}

-- the limits, where a rule has them, are counts
abbrev pub AreLimits : Option Used → Type 0
AreLimits None = Unit {0}
AreLimits (Some l) = (l.driving ≤ COUNT_LIMIT) × (l.duty ≤ COUNT_LIMIT) × (l.elapsed ≤ COUNT_LIMIT)

-- A full rest all in the berth makes a pair with each split rest, and no pair is shorter than a full rest.
pub record IsPairRule (rule : SplitRule) : Type 0 where
  pub split : IsSplitRule rule
  pub least : 0 < rule.least
  pub shorter : rule.least ≤ rule.full
  pub pairs : rule.pair ≤ rule.full + rule.least
  pub owed : rule.full ≤ rule.pair
  pub berth : IsBerthWithin rule.berth rule.full
  pub limits : AreLimits rule.limits

-- a split rest that waits is one of the rule, where rests may be split
abbrev pub WaitsWell : SplitRule → Bool → Option WaitingRest → Type 0
WaitsWell rule may None = Unit {0}
WaitsWell rule may (Some w) = (may ≡ true) × (rule.least ≤ w.long) × (w.long < rule.full)

-- a count of the rule
pub record IsCountOf (rule : SplitRule) (may : Bool) (s : SplitCount) : Type 0 where
  pub is_count : IsSplitCount s
  pub waits : WaitsWell rule may s.waiting

-- what a schedule may hold: duty, and the tour's own rest
abbrev pub allowed : Bool → Activity → Bool
allowed berth Drive = true
allowed berth Serve = true
allowed berth Wait = true
allowed berth Off = not berth
allowed berth Berth = berth

-- the tour's own rest
abbrev pub own_rest : Bool → Activity
own_rest berth = cond berth Berth Off

-- one of the counts stands at its limit, where a rule has limits: nothing may be driven as long as they count
abbrev pub IsSpent : Option Used → Used → Type 0
IsSpent None u = ⊥
IsSpent (Some l) u = (l.driving ≤ u.driving) ⊎ (l.duty ≤ u.duty) ⊎ (l.elapsed ≤ u.elapsed)

-- and so it is whatever rest is left out of them
abbrev pub IsWorn : Option Used → Used → Type 0
IsWorn None u = ⊥
IsWorn (Some l) u = (l.driving ≤ u.driving) ⊎ (l.duty ≤ u.duty)

-- A test of a count that is passed by each count with no more used since the base, and by none that has driven where the base was spent.
pub record IsMonotone (rule : SplitRule) (ok : SplitCount → Bool) : Type 0 where
  pub less : (s t : SplitCount) → IsWithin s.base t.base → ok t ≡ true → ok s ≡ true
  pub spent : (s : SplitCount) → IsSpent rule.limits s.base → ok (after_duty true s) ≡ true → ⊥

-- # The relation

-- a split rest of this length makes a pair with each rest that may be its second
abbrev pub enough : SplitRule → ℕ
enough rule = rule.pair - rule.least

-- the length of a split rest, as far as it serves
abbrev pub serving : SplitRule → ℕ → ℕ
serving rule long = min long (enough rule)

-- its time in the berth is enough for each pair, or is not asked for
abbrev pub IsBerthEnough : BerthRule → WaitingRest → Type 0
IsBerthEnough SevenInOne w = US_PAIR_BERTH ≤ w.berth
IsBerthEnough AllOfNext w = Unit {0}

-- the time in the berth of the split rest w serves where that of v does
abbrev pub IsBerthNoWorse : BerthRule → WaitingRest → WaitingRest → Type 0
IsBerthNoWorse SevenInOne w v = min v.berth US_PAIR_BERTH ≤ w.berth
IsBerthNoWorse AllOfNext w v = Unit {0}

-- the time in the berth of the run r serves where that of q does
abbrev pub IsDeep : BerthRule → OpenRun → OpenRun → Type 0
IsDeep SevenInOne r q = (min q.stretch US_PAIR_BERTH ≤ r.stretch) × (min q.longest US_PAIR_BERTH ≤ r.longest)
IsDeep AllOfNext r q = (r.stretch ≡ r.long) ⊎ ((r.long ≡ q.long) × (r.stretch ≡ q.stretch))

-- the run may end as a full rest once it is one: none waits, or it is all in the berth, or there is time enough in the berth for a pair
abbrev pub IsReady : BerthRule → Option WaitingRest → OpenRun → Type 0
IsReady k None r = Unit {0}
IsReady k (Some w) r = (r.stretch ≡ r.long) ⊎ (has_pair_berth k w r ≡ true)

-- the split rests that wait, and the run r in progress after the first one
abbrev pub IsWaitNoWorse : SplitRule → OpenRun → Option WaitingRest → Option WaitingRest → Type 0
IsWaitNoWorse rule r None v = Unit {0}
IsWaitNoWorse rule r (Some w) None = (enough rule ≤ w.long) × IsBerthEnough rule.berth w × IsReady rule.berth (Some w) r
IsWaitNoWorse rule r (Some w) (Some v) = (serving rule v.long ≤ w.long) × IsBerthNoWorse rule.berth w v

-- Since the base: no count of u is more than that of v, or v is spent and allows nothing more.
abbrev pub IsNoMore : Option Used → Used → Used → Type 0
IsNoMore limits u v = IsSpent limits v ⊎ IsWithin u v

-- Since the last rest: the same, where these may become counts since the base. They do so without a rest, and only where rests may be split.
abbrev pub IsLastNoMore : Option Used → Bool → Used → Used → Type 0
IsLastNoMore limits may u v = (may ≡ false) ⊎ IsWorn limits v ⊎ IsWithin u v

-- a is no worse than b, number by number
pub record IsNoWorse (rule : SplitRule) (may : Bool) (a b : SplitCount) : Type 0 where
  pub run : b.run.long ≤ a.run.long
  -- the berth serves, or there is nothing that it could serve for
  pub deep : IsDeep rule.berth a.run b.run ⊎ ((may ≡ false) × (a.waiting ≡ None))
  -- the runs are equal, or that of a may end as a full rest once it is one
  pub keeps : (a.run.long ≡ b.run.long) ⊎ IsReady rule.berth a.waiting a.run
  pub less_base : IsNoMore rule.limits a.base b.base
  pub less_last : IsLastNoMore rule.limits may a.last b.last
  pub waiting : IsWaitNoWorse rule a.run a.waiting b.waiting

-- a's run in progress is a full rest that may end as one
pub record IsFresher (rule : SplitRule) (a : SplitCount) : Type 0 where
  pub long : rule.full ≤ a.run.long
  pub pair : may_pair rule a.waiting a.run ≡ true

-- the run as a split rest that waits
abbrev pub as_waiting : OpenRun → WaitingRest
as_waiting r = record { long = r.long; berth = r.longest }

-- The run r, as a split rest, is no worse than the one that waits in b and b's run in progress together. Where none waits in b, it makes a pair with each second rest.
abbrev pub IsOwed : SplitRule → OpenRun → Used → Option WaitingRest → SplitCount → Type 0
IsOwed rule r used None b = (enough rule + b.run.long ≤ r.long) × IsBerthEnough rule.berth (as_waiting r) × IsNoMore rule.limits used b.base
IsOwed rule r used (Some v) b = (serving rule v.long + b.run.long ≤ r.long) × IsBerthNoWorse rule.berth (as_waiting r) v × IsNoMore rule.limits used b.base

-- a's run in progress may still be declared as a split rest, as b's was
pub record IsOwing (rule : SplitRule) (may : Bool) (a b : SplitCount) : Type 0 where
  pub allows : may ≡ true
  pub least : rule.least ≤ a.run.long
  pub berth : has_split_berth rule.berth a.run ≡ true
  pub pair : may_pair rule a.waiting a.run ≡ true
  pub owed : IsOwed rule a.run (without_run a) b.waiting b

-- a may stand for b
abbrev pub Covers : SplitRule → Bool → SplitCount → SplitCount → Type 0
Covers rule may a b = IsFresher rule a ⊎ IsNoWorse rule may a b ⊎ IsOwing rule may a b

-- # The same as tests

abbrev pub is_within : Used → Used → Bool
is_within u v = nat_le u.driving v.driving && (nat_le u.duty v.duty && nat_le u.elapsed v.elapsed)

abbrev pub is_spent : Option Used → Used → Bool
is_spent None u = false
is_spent (Some l) u = nat_le l.driving u.driving || (nat_le l.duty u.duty || nat_le l.elapsed u.elapsed)

abbrev pub is_worn : Option Used → Used → Bool
is_worn None u = false
is_worn (Some l) u = nat_le l.driving u.driving || nat_le l.duty u.duty

abbrev pub is_no_more : Option Used → Used → Used → Bool
is_no_more limits u v = is_spent limits v || is_within u v

abbrev pub is_last_no_more : Option Used → Bool → Used → Used → Bool
is_last_no_more limits may u v = not may || (is_worn limits v || is_within u v)

abbrev pub waits_none : Option WaitingRest → Bool
waits_none None = true
waits_none (Some w) = false

abbrev pub is_berth_no_worse : BerthRule → WaitingRest → WaitingRest → Bool
is_berth_no_worse SevenInOne w v = nat_le (min v.berth US_PAIR_BERTH) w.berth
is_berth_no_worse AllOfNext w v = true

abbrev pub is_berth_enough : BerthRule → WaitingRest → Bool
is_berth_enough SevenInOne w = nat_le US_PAIR_BERTH w.berth
is_berth_enough AllOfNext w = true

abbrev pub is_ready : BerthRule → Option WaitingRest → OpenRun → Bool
is_ready k None r = true
is_ready k (Some w) r = nat_eq r.stretch r.long || has_pair_berth k w r

abbrev pub is_wait_no_worse : SplitRule → OpenRun → Option WaitingRest → Option WaitingRest → Bool
is_wait_no_worse rule r None v = true
is_wait_no_worse rule r (Some w) None = nat_le (enough rule) w.long && (is_berth_enough rule.berth w && is_ready rule.berth (Some w) r)
is_wait_no_worse rule r (Some w) (Some v) = nat_le (serving rule v.long) w.long && is_berth_no_worse rule.berth w v

abbrev pub is_deep : BerthRule → OpenRun → OpenRun → Bool
is_deep SevenInOne r q = nat_le (min q.stretch US_PAIR_BERTH) r.stretch && nat_le (min q.longest US_PAIR_BERTH) r.longest
is_deep AllOfNext r q = nat_eq r.stretch r.long || (nat_eq r.long q.long && nat_eq r.stretch q.stretch)

abbrev pub is_no_worse : SplitRule → Bool → SplitCount → SplitCount → Bool
is_no_worse rule may a b =
    nat_le b.run.long a.run.long
    && ((is_deep rule.berth a.run b.run || (not may && waits_none a.waiting))
    && ((nat_eq a.run.long b.run.long || is_ready rule.berth a.waiting a.run)
    && (is_no_more rule.limits a.base b.base && (is_last_no_more rule.limits may a.last b.last && is_wait_no_worse rule a.run a.waiting b.waiting))))

abbrev pub is_fresher : SplitRule → SplitCount → Bool
is_fresher rule a = nat_le rule.full a.run.long && may_pair rule a.waiting a.run

abbrev pub is_owed : SplitRule → OpenRun → Used → Option WaitingRest → SplitCount → Bool
is_owed rule r used None b = nat_le (enough rule + b.run.long) r.long && (is_berth_enough rule.berth (as_waiting r) && is_no_more rule.limits used b.base)
is_owed rule r used (Some v) b = nat_le (serving rule v.long + b.run.long) r.long && (is_berth_no_worse rule.berth (as_waiting r) v && is_no_more rule.limits used b.base)

abbrev pub is_owing : SplitRule → Bool → SplitCount → SplitCount → Bool
is_owing rule may a b = may && (nat_le rule.least a.run.long && (has_split_berth rule.berth a.run && (may_pair rule a.waiting a.run && is_owed rule a.run (without_run a) b.waiting b)))

abbrev pub covers_count : SplitRule → Bool → SplitCount → SplitCount → Bool
covers_count rule may a b = is_fresher rule a || (is_no_worse rule may a b || is_owing rule may a b)

-- # Rest in place of anything else

-- a run that may hold Off does no harm: it needs no berth to pair or to be split
abbrev pub is_free : SplitRule → Bool → BerthRule → SplitCount → Bool
is_free rule may SevenInOne s = true
is_free rule may AllOfNext s = not may || nat_le rule.full s.run.long

-- resting in place of anything else is safe
abbrev pub is_ahead : SplitRule → Bool → SplitCount → Bool
is_ahead rule may s = nat_eq s.run.stretch s.run.long || (waits_none s.waiting && is_free rule may rule.berth s)
