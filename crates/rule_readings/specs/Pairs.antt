-- Pairs of rests of a padded history p, and the rests that may be split.
use Rattle.std.specs.Prelude.{◌≡◌, ℕ, ◌+◌, ◌-◌, ◌<◌, ◌≤◌, ◌⊎◌, true, List, Option, MatchOption}
use Rattle.duty_core.specs.declared.activity.Activity.{Activity}
use Rattle.duty_core.specs.declared.params.Params.{Params}
use Rattle.duty_core.specs.Params.{has_berth}
use Rattle.duty_core.specs.Stretch.{HoldsBerth, IsBerth}
use Rattle.duty_core.specs.Marks.{IsMinuteOf}
use Rattle.duty_core.specs.RestRun.{IsRun}
use Rattle.duty_core.specs.DeclaredRest.{IsSplitRest, IsNextDeclared}
use Rattle.rule_readings.specs.declared.padded.RestRun.{RestRun}
use Rattle.rule_readings.specs.declared.pairs.PairBerth.{PairBerth}
use Rattle.rule_readings.specs.declared.pairs.PairBerth.TheVariants.{InEither, AllOfSecond}
use Rattle.rule_readings.specs.declared.pairs.PairTerms.{PairTerms}

-- the rests from a to b and from c to d have what is asked of the berth
abbrev pub HasPairBerth : PairBerth → List Activity → ℕ → ℕ → ℕ → ℕ → Type 0
HasPairBerth (InEither least) p a b c d = HoldsBerth least p a b ⊎ HoldsBerth least p c d
HasPairBerth AllOfSecond p a b c d = IsBerth p c d

-- the rests from a to b and from c to d are a pair: long enough together, and with what is asked of the berth
pub record IsPair (terms : PairTerms) (p : List Activity) (a b c d : ℕ) : Type 0 where
  pub sum : terms.least ≤ (b - a) + (d - c)
  pub berth : HasPairBerth terms.berth p a b c d

-- where the run from c to d is the next declared rest after a split rest, the two are a pair
abbrev pub IsPairedRun : ℕ → (ℕ → ℕ → ℕ → ℕ → Type 0) → List Activity → (ℕ → Type 0) → ℕ → ℕ → Type 0
IsPairedRun full Pair p Marked c d = (a b : ℕ) → IsSplitRest full p Marked a b → IsNextDeclared full p Marked a b c d → Pair a b c d

-- A mark of the minute `at` names the run from `from` to `to`, which may be split: at least so long, shorter than full, in a truck with a berth.
pub record NamesSplit (params : Params) (first least full : ℕ) (p : List Activity) (at from to : ℕ) : Type 0 where
  pub minute : IsMinuteOf params first at from
  pub run : IsRun p from to
  pub long : from + least ≤ to
  pub short : to < from + full
  pub berthed : has_berth params ≡ true

-- the run that such a mark names, where there is one
abbrev pub IsSplitFound : Params → ℕ → ℕ → ℕ → List Activity → ℕ → Option RestRun → Type 0
IsSplitFound params first least full p at found =
    MatchOption found ((from to : ℕ) → NamesSplit params first least full p at from to → ⊥) (λ run. NamesSplit params first least full p at run.from run.to)
