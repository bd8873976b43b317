-- The counts of a history for full rests, split rests and pairs, unit by unit.
use Rattle.std.specs.Prelude.{◌≡◌, ℕ, ◌+◌, ◌-◌, ◌<◌, ◌≤◌, ◌⊎◌, min, max, Bool, true, cond, Option, None, Some, nat_eq, nat_lt, nat_le, ◌&&◌, ◌||◌, if◌then◌else◌}
use Rattle.duty_core.specs.declared.limits.TheConstants.{COUNT_LIMIT, PADDING_MINUTES, US_PAIR_BERTH}
use Rattle.sleeper_split.specs.declared.rule.BerthRule.{BerthRule}
use Rattle.sleeper_split.specs.declared.rule.BerthRule.TheVariants.{SevenInOne, AllOfNext}
use Rattle.sleeper_split.specs.declared.rule.SplitRule.{SplitRule}
use Rattle.sleeper_split.specs.declared.count.Used.{Used}
use Rattle.sleeper_split.specs.declared.count.OpenRun.{OpenRun}
use Rattle.sleeper_split.specs.declared.count.WaitingRest.{WaitingRest}
use Rattle.sleeper_split.specs.declared.count.Since.{Since}
use Rattle.sleeper_split.specs.declared.count.Since.TheVariants.{Driving, Duty, Elapsed}
use Rattle.sleeper_split.specs.declared.count.SplitCount.{SplitCount}

-- # Values

-- counts from one place on
pub record IsUsed (u : Used) : Type 0 where
  pub works : u.driving ≤ u.duty
  pub bounded_duty : u.duty ≤ COUNT_LIMIT
  pub bounded : u.elapsed ≤ COUNT_LIMIT

-- the rest run in progress
pub record IsOpenRun (r : OpenRun) : Type 0 where
  pub ends : r.stretch ≤ r.longest
  pub inside : r.longest ≤ r.long
  pub bounded : r.long ≤ COUNT_LIMIT

-- no count of u is more than that of v
pub record IsWithin (u v : Used) : Type 0 where
  pub less_driving : u.driving ≤ v.driving
  pub less_duty : u.duty ≤ v.duty
  pub less_elapsed : u.elapsed ≤ v.elapsed

-- a split rest that waits
abbrev pub IsWaitingRest : Option WaitingRest → Type 0
IsWaitingRest None = Unit {0}
IsWaitingRest (Some w) = (w.berth ≤ w.long) × (w.long ≤ COUNT_LIMIT)

-- What each value keeps. The run in progress lies after the last full or split rest, and so does the base where none waits.
pub record IsSplitCount (s : SplitCount) : Type 0 where
  pub is_run : IsOpenRun s.run
  pub is_base : IsUsed s.base
  pub is_last : IsUsed s.last
  pub later : IsWithin s.last s.base
  pub thereafter : s.run.long ≤ s.last.elapsed
  pub is_waiting : IsWaitingRest s.waiting
  pub alone : s.waiting ≡ None → s.base ≡ s.last

-- the count with these parts
abbrev pub made : OpenRun → Used → Used → Option WaitingRest → SplitCount
made run base last waiting = record { run = run; base = base; last = last; waiting = waiting }

abbrev pub no_run : OpenRun
no_run = record { long = 0; stretch = 0; longest = 0 }

abbrev pub none_used : Used
none_used = record { driving = 0; duty = 0; elapsed = 0 }

-- the time of the rest before a history
abbrev pub passed : Used
passed = record { driving = 0; duty = 0; elapsed = PADDING_MINUTES }

-- after the rest before a history, which is the run in progress
abbrev pub fresh_count : SplitCount
fresh_count = made (record { long = PADDING_MINUTES; stretch = 0; longest = 0 }) passed passed None

-- # Units

-- one more, up to the greatest count
abbrev pub one_more : ℕ → ℕ
one_more n = min (n + 1) COUNT_LIMIT

-- one more unit of rest
abbrev pub longer : Bool → OpenRun → OpenRun
longer berth r = record {
  long = one_more r.long;
  stretch = cond berth (one_more r.stretch) 0;
  longest = max r.longest (cond berth (one_more r.stretch) 0);
}

abbrev pub rested : Used → Used
rested u = record { driving = u.driving; duty = u.duty; elapsed = one_more u.elapsed }

abbrev pub after_rest : Bool → SplitCount → SplitCount
after_rest berth s = made (longer berth s.run) (rested s.base) (rested s.last) s.waiting

-- one more unit of duty, driving or not
abbrev pub worked : Bool → Used → Used
worked drive u = record {
  driving = cond drive (one_more u.driving) u.driving;
  duty = one_more u.duty;
  elapsed = one_more u.elapsed;
}

abbrev pub after_duty : Bool → SplitCount → SplitCount
after_duty drive s = made no_run (worked drive s.base) (worked drive s.last) s.waiting

-- # Where the run in progress ends

-- the berth of the pair that the run would make with the split rest w
abbrev pub has_pair_berth : BerthRule → WaitingRest → OpenRun → Bool
has_pair_berth SevenInOne w r = nat_le US_PAIR_BERTH w.berth || nat_le US_PAIR_BERTH r.longest
has_pair_berth AllOfNext w r = nat_eq r.stretch r.long

-- the pair condition of the split rest that waits, if any, and the run
abbrev pub may_pair : SplitRule → Option WaitingRest → OpenRun → Bool
may_pair rule None r = true
may_pair rule (Some w) r = nat_le rule.pair (w.long + r.long) && has_pair_berth rule.berth w r

-- the berth of a split rest
abbrev pub has_split_berth : BerthRule → OpenRun → Bool
has_split_berth SevenInOne r = true
has_split_berth AllOfNext r = nat_eq r.stretch r.long

-- the run is neither a full nor a split rest
abbrev pub end_undeclared : SplitRule → SplitCount → Option SplitCount
end_undeclared rule s = if nat_lt s.run.long rule.full then Some (made no_run s.base s.last s.waiting) else None

-- the run may be a split rest
abbrev pub may_split : SplitRule → SplitCount → Bool
may_split rule s = nat_le rule.least s.run.long && (nat_lt s.run.long rule.full && (has_split_berth rule.berth s.run && may_pair rule s.waiting s.run))

-- counts since the last rest, without the run that ends
abbrev pub without_run : SplitCount → Used
without_run s = record { driving = s.last.driving; duty = s.last.duty; elapsed = s.last.elapsed - s.run.long }

-- the run is a split rest, which waits: counts run from the rest before it, without its own time
abbrev pub split_count : SplitCount → SplitCount
split_count s = made no_run (without_run s) none_used (Some (record { long = s.run.long; berth = s.run.longest }))

abbrev pub end_split : SplitRule → SplitCount → Option SplitCount
end_split rule s = if may_split rule s then Some (split_count s) else None

-- the run is a full rest
abbrev pub rested_count : SplitCount
rested_count = made no_run none_used none_used None

abbrev pub end_full : SplitRule → SplitCount → Option SplitCount
end_full rule s = if nat_le rule.full s.run.long && may_pair rule s.waiting s.run then Some rested_count else None

-- # Where there is no such end

-- the run is not all in the berth, and so is no split rest
abbrev pub IsNoSplitBerth : BerthRule → OpenRun → Type 0
IsNoSplitBerth SevenInOne r = ⊥
IsNoSplitBerth AllOfNext r = r.stretch < r.long

-- the split rest w and the run have too little time in the berth for a pair
abbrev pub IsNoPairBerth : BerthRule → WaitingRest → OpenRun → Type 0
IsNoPairBerth SevenInOne w r = (w.berth < US_PAIR_BERTH) × (r.longest < US_PAIR_BERTH)
IsNoPairBerth AllOfNext w r = r.stretch < r.long

-- a split rest waits, and it and the run fail the pair condition
abbrev pub IsNoPair : SplitRule → Option WaitingRest → OpenRun → Type 0
IsNoPair rule None r = ⊥
IsNoPair rule (Some w) r = (w.long + r.long < rule.pair) ⊎ IsNoPairBerth rule.berth w r

-- the run is too short, or a full rest, or not in the berth where that is asked, or no pair with the one that waits
abbrev pub IsNoSplit : SplitRule → SplitCount → Type 0
IsNoSplit rule s = (s.run.long < rule.least) ⊎ (rule.full ≤ s.run.long) ⊎ IsNoSplitBerth rule.berth s.run ⊎ IsNoPair rule s.waiting s.run

-- the run is shorter than a full rest, or no pair with the one that waits
abbrev pub IsNoFull : SplitRule → SplitCount → Type 0
IsNoFull rule s = (s.run.long < rule.full) ⊎ IsNoPair rule s.waiting s.run

-- # What is read

abbrev pub used_of : Since → SplitCount → ℕ
used_of Driving s = s.base.driving
used_of Duty s = s.base.duty
used_of Elapsed s = s.base.elapsed

abbrev pub run_of : SplitCount → ℕ
run_of s = s.run.long
