-- Which histories the counts allow: those whose split rests are such, and make pairs, and that keep the limits at each unit of driving.
use Rattle.std.specs.Prelude.{ℕ, ◌+◌, ◌-◌, ◌<◌, ◌≤◌, ◌⊎◌, Bool, List, Contains, AllPairs}
use Rattle.duty_core.specs.declared.activity.Activity.{Activity}
use Rattle.duty_core.specs.declared.limits.TheConstants.{PADDING_MINUTES, US_PAIR_BERTH}
use Rattle.duty_core.specs.Stretch.{IsBerth, HoldsBerth}
use Rattle.duty_core.specs.DeclaredRest.{ArePairedAt, IsSplittable}
use Rattle.sleeper_split.specs.declared.rule.BerthRule.{BerthRule}
use Rattle.sleeper_split.specs.declared.rule.BerthRule.TheVariants.{SevenInOne, AllOfNext}
use Rattle.sleeper_split.specs.declared.rule.SplitRule.{SplitRule}

-- what a rule must be for the counts to follow it: a full rest is some rest, and no more than the rest before a history
pub record IsSplitRule (rule : SplitRule) : Type 0 where
  pub some : 0 < rule.full
  pub padded : rule.full ≤ PADDING_MINUTES

-- the time in the berth of the rests from a to b and from c to d serves for a pair
abbrev pub IsPairBerth : BerthRule → List Activity → ℕ → ℕ → ℕ → ℕ → Type 0
IsPairBerth SevenInOne p a b c d = HoldsBerth US_PAIR_BERTH p a b ⊎ HoldsBerth US_PAIR_BERTH p c d
IsPairBerth AllOfNext p a b c d = IsBerth p c d

-- the rests from a to b and from c to d are a pair
pub record IsPairOf (rule : SplitRule) (p : List Activity) (a b c d : ℕ) : Type 0 where
  pub sum : rule.pair ≤ (b - a) + (d - c)
  pub berth : IsPairBerth rule.berth p a b c d

-- the time in the berth of the rest from a to b serves for a split rest
abbrev pub IsSplitBerth : BerthRule → List Activity → ℕ → ℕ → Type 0
IsSplitBerth SevenInOne p a b = Unit {0}
IsSplitBerth AllOfNext p a b = IsBerth p a b

-- a run that may be split begins at place `from`, where `may` tells whether rests may be split at all
pub record MaySplit (rule : SplitRule) (may : Bool) (p : List Activity) (from : ℕ) : Type 0 where
  pub run : IsSplittable rule.least rule.full may p from
  pub berth : IsSplitBerth rule.berth p from run.to

-- Split rests begin at the places `starts`: each may be one, each makes a pair with the next declared rest, and the limit holds at each place.
pub record KeepsSplits (rule : SplitRule) (may : Bool) (Holds : List Activity → (ℕ → Type 0) → ℕ → Type 0) (p : List Activity) (starts : List ℕ) : Type 0 where
  pub order : AllPairs (λ a b. a < b) starts
  pub splits : (a : ℕ) → Contains starts a → MaySplit rule may p a
  pub pairs : (d : ℕ) → ArePairedAt rule.full (IsPairOf rule p) p (Contains starts) d
  pub limits : (i : ℕ) → Holds p (Contains starts) i
