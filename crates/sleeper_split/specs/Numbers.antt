-- The numbers by which the counts of split rests are written down, and which numbers are those of some counts.
use Rattle.std.specs.Prelude.{ℕ, ◌+◌, Bool, true, List, [], ◌∷◌, Option, None, Some, nat_eq, nat_le, ◌&&◌, ◌||◌, not, if◌then◌else◌, slice_index_or}
use Rattle.duty_core.specs.declared.limits.TheConstants.{COUNT_LIMIT}
use Rattle.sleeper_split.specs.declared.rule.SplitRule.{SplitRule}
use Rattle.sleeper_split.specs.declared.count.Used.{Used}
use Rattle.sleeper_split.specs.declared.count.OpenRun.{OpenRun}
use Rattle.sleeper_split.specs.declared.count.WaitingRest.{WaitingRest}
use Rattle.sleeper_split.specs.declared.count.SplitCount.{SplitCount}
use Rattle.sleeper_split.specs.Machine.{made}
use Rattle.sleeper_split.specs.Covers.{is_within, waits_none}

-- # The numbers

-- a split rest that waits as two numbers, and two zeros where none waits
abbrev pub waiting_long : Option WaitingRest → ℕ
waiting_long None = 0
waiting_long (Some w) = w.long

abbrev pub waiting_berth : Option WaitingRest → ℕ
waiting_berth None = 0
waiting_berth (Some w) = w.berth

abbrev pub waiting_of : ℕ → ℕ → Option WaitingRest
waiting_of long berth = if nat_eq long 0 && nat_eq berth 0 then None else Some (record { long = long; berth = berth })

-- The run in progress, the counts since the base and since the last rest, and the rest that waits.
abbrev pub split_numbers : SplitCount → List ℕ
split_numbers s =
    s.run.long ∷ s.run.stretch ∷ s.run.longest
    ∷ s.base.driving ∷ s.base.duty ∷ s.base.elapsed
    ∷ s.last.driving ∷ s.last.duty ∷ s.last.elapsed
    ∷ waiting_long s.waiting ∷ waiting_berth s.waiting
    ∷ []

-- the number at a place
abbrev pub item : List ℕ → ℕ → ℕ
item ns i = slice_index_or ns i 0

-- what the three numbers from this place on count
abbrev pub used_at : List ℕ → ℕ → Used
used_at ns i = record { driving = item ns i; duty = item ns (i + 1); elapsed = item ns (i + 2) }

-- the counts whose numbers the first of these would be
abbrev pub split_of : List ℕ → SplitCount
split_of ns = made (record { long = item ns 0; stretch = item ns 1; longest = item ns 2 }) (used_at ns 3) (used_at ns 6) (waiting_of (item ns 9) (item ns 10))

-- # What counts are, as a test

abbrev pub is_used : Used → Bool
is_used u = nat_le u.driving u.duty && (nat_le u.duty COUNT_LIMIT && nat_le u.elapsed COUNT_LIMIT)

abbrev pub is_open_run : OpenRun → Bool
is_open_run r = nat_le r.stretch r.longest && (nat_le r.longest r.long && nat_le r.long COUNT_LIMIT)

abbrev pub is_waiting_rest : Option WaitingRest → Bool
is_waiting_rest None = true
is_waiting_rest (Some w) = nat_le w.berth w.long && nat_le w.long COUNT_LIMIT

abbrev pub same_used : Used → Used → Bool
same_used u v = nat_eq u.driving v.driving && (nat_eq u.duty v.duty && nat_eq u.elapsed v.elapsed)

abbrev pub is_split_count : SplitCount → Bool
is_split_count s =
    is_open_run s.run && (is_used s.base && (is_used s.last && (is_within s.last s.base && (nat_le s.run.long s.last.elapsed
    && (is_waiting_rest s.waiting && (not (waits_none s.waiting) || same_used s.base s.last))))))

abbrev pub waits_well : SplitRule → Bool → Option WaitingRest → Bool
waits_well rule may None = true
waits_well rule may (Some w) = may && (nat_le rule.least w.long && (nat_le w.long rule.full && not (nat_eq w.long rule.full)))

-- counts of the rule, where `may` tells whether rests may be split
abbrev pub is_count : SplitRule → Bool → SplitCount → Bool
is_count rule may s = is_split_count s && waits_well rule may s.waiting
