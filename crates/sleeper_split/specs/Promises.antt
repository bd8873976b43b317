-- The laws of the counts in the two countries.
use Rattle.std.specs.Prelude.{true, ◌≡◌, ◌↔◌, ℕ, ◌+◌, ◌<◌, ◌≤◌, Bool, List, ◌++◌, length, replicate, Contains, nat_le, ◌&&◌}
use Rattle.duty_core.specs.declared.activity.Activity.{Activity}
use Rattle.duty_core.specs.declared.activity.Activity.TheVariants.{Off}
use Rattle.duty_core.specs.declared.limits.TheConstants.{COUNT_LIMIT, US_FULL_REST, US_WINDOW_LIMIT, US_DRIVING_LIMIT, CA_FULL_REST, CA_SHIFT_DRIVING_LIMIT, CA_SHIFT_DUTY_LIMIT, CA_ELAPSED_LIMIT}
use Rattle.duty_core.specs.Stretch.{IsRest}
use Rattle.duty_core.specs.UsRules.{MeetsUsWindow14, MeetsUsDrive11}
use Rattle.duty_core.specs.CaShift.{MeetsCaShift13, MeetsCaShift14, MeetsCaElapsed16}
use Rattle.sleeper_split.specs.declared.rule.TheConstants.SplitRule.{US, CANADA}
use Rattle.sleeper_split.specs.declared.rule.SplitRule.{SplitRule}
use Rattle.sleeper_split.specs.declared.count.Since.TheVariants.{Driving, Duty, Elapsed}
use Rattle.sleeper_split.specs.declared.count.SplitCount.{SplitCount}
use Rattle.sleeper_split.specs.Machine.{fresh_count, used_of}
use Rattle.sleeper_split.specs.Choices.{Choice, choices, Declares}
use Rattle.sleeper_split.specs.Tracks.{Tracks}
use Rattle.sleeper_split.specs.Exact.{KeepsSplits}
use Rattle.sleeper_split.specs.Covers.{IsPairRule, IsCountOf, IsMonotone, allowed, own_rest, Covers, is_ahead}
use Rattle.duty_core.specs.PlainlyBetter.{IsShiftBetter}

-- the count keeps the limits at a unit of driving
abbrev pub us_keeps : SplitCount → Bool
us_keeps s = nat_le (used_of Elapsed s) US_WINDOW_LIMIT && nat_le (used_of Driving s) US_DRIVING_LIMIT

abbrev pub canada_keeps : SplitCount → Bool
canada_keeps s = nat_le (used_of Driving s) CA_SHIFT_DRIVING_LIMIT && (nat_le (used_of Duty s) CA_SHIFT_DUTY_LIMIT && nat_le (used_of Elapsed s) CA_ELAPSED_LIMIT)

-- the limits at a place
abbrev pub MeetsUsShift : List Activity → (ℕ → Type 0) → ℕ → Type 0
MeetsUsShift p Marked i = MeetsUsWindow14 p Marked i × MeetsUsDrive11 p Marked i

abbrev pub MeetsCanadaShift : List Activity → (ℕ → Type 0) → ℕ → Type 0
MeetsCanadaShift p Marked i = MeetsCaShift13 p Marked i × (MeetsCaShift14 p Marked i × MeetsCaElapsed16 p Marked i)

-- a history with rest before and after it
abbrev pub with_rest : ℕ → List Activity → List Activity
with_rest n h = (replicate n Off ++ h) ++ replicate n Off

abbrev pub IsUsExact : Type 0
IsUsExact = (may : Bool) (n : ℕ) (h : List Activity) (starts : List ℕ) → US_FULL_REST ≤ n → n + length h < COUNT_LIMIT →
    ((t : SplitCount) × Declares US may us_keeps fresh_count n h starts t) ↔ KeepsSplits US may MeetsUsShift (with_rest n h) starts

abbrev pub IsCanadaExact : Type 0
IsCanadaExact = (may : Bool) (n : ℕ) (h : List Activity) (starts : List ℕ) → CA_FULL_REST ≤ n → n + length h < COUNT_LIMIT →
    ((t : SplitCount) × Declares CANADA may canada_keeps fresh_count n h starts t) ↔ KeepsSplits CANADA may MeetsCanadaShift (with_rest n h) starts

abbrev pub IsUsTracked : Type 0
IsUsTracked = (may : Bool) (ok : SplitCount → Bool) (n : ℕ) (h : List Activity) (starts : List ℕ) (t : SplitCount) → US_FULL_REST ≤ n → n + length h < COUNT_LIMIT →
    Declares US may ok fresh_count n h starts t → Tracks US (replicate n Off ++ h) (Contains starts) t

abbrev pub IsCanadaTracked : Type 0
IsCanadaTracked = (may : Bool) (ok : SplitCount → Bool) (n : ℕ) (h : List Activity) (starts : List ℕ) (t : SplitCount) → CA_FULL_REST ≤ n → n + length h < COUNT_LIMIT →
    Declares CANADA may ok fresh_count n h starts t → Tracks CANADA (replicate n Off ++ h) (Contains starts) t

abbrev pub IsToldOnce : Type 0
IsToldOnce = (rule : SplitRule) (may : Bool) (ok : SplitCount → Bool) (s : SplitCount) (i : ℕ) (h : List Activity) (starts : List ℕ) (t u : SplitCount) → 0 < rule.full →
    Declares rule may ok s i h starts t → Declares rule may ok s i h starts u → t ≡ u

-- # Counts that may stand for others

abbrev pub IsPairRules : Type 0
IsPairRules = IsPairRule US × IsPairRule CANADA

abbrev pub IsReflexive : Type 0
IsReflexive = (rule : SplitRule) (may : Bool) (a : SplitCount) → Covers rule may a a

abbrev pub IsTransitive : Type 0
IsTransitive = (rule : SplitRule) (may : Bool) (a b c : SplitCount) → IsPairRule rule → IsCountOf rule may a → Covers rule may a b → Covers rule may b c → Covers rule may a c

-- where rests may be split there is a berth
abbrev pub IsSplitByBerth : Bool → Bool → Type 0
IsSplitByBerth may berth = may ≡ true → berth ≡ true

abbrev pub IsLasting : Type 0
IsLasting = (rule : SplitRule) (may berth : Bool) (ok : SplitCount → Bool) (a b : SplitCount) (x : Activity) (c : Choice) → IsPairRule rule → IsMonotone rule ok → IsCountOf rule may a → IsSplitByBerth may berth → allowed berth x ≡ true →
    Covers rule may a b → Contains (choices rule may ok b x) c → (d : Choice) × Contains (choices rule may ok a x) d × Covers rule may d.count c.count

abbrev pub IsSafeToRest : Type 0
IsSafeToRest = (rule : SplitRule) (may berth : Bool) (ok : SplitCount → Bool) (s : SplitCount) (x : Activity) (c : Choice) → IsPairRule rule → IsCountOf rule may s → IsSplitByBerth may berth → is_ahead rule may s ≡ true → allowed berth x ≡ true →
    Contains (choices rule may ok s x) c → (d : Choice) × Contains (choices rule may ok s (own_rest berth)) d × (is_ahead rule may d.count ≡ true) × Covers rule may d.count c.count

-- Split rests of the histories p and q, after their padding, begin at the places m and o. The first `pad` units of p are its padding, which is rest.
abbrev pub IsBetterCovered : Type 0
IsBetterCovered = (rule : SplitRule) (may berth : Bool) (pad : ℕ) (p : List Activity) (m : List ℕ) (q : List Activity) (o : List ℕ) (a b : SplitCount) → IsSplitByBerth may berth → IsCountOf rule may a → IsCountOf rule may b →
    Tracks rule p (Contains m) a → Tracks rule q (Contains o) b → IsRest p 0 pad → IsShiftBetter rule.full pad berth p (Contains m) q (Contains o) → Covers rule may a b
