-- A state is written as its numbers, and read back from just these.
use Rattle.std.proofs.Common.{◌≡◌, ℕ, ◌+◌, ◌<◌, ◌≤◌, Bool, true, List, ◌∷◌, ◌++◌, length, drop, refl, sym, ◌∙◌, ap, subst, arith, inl, inr}
use Rattle.std.specs.Prelude.{None, Some, nat_eq, nat_le, ◌&&◌, if◌then◌else◌, All}
use Rattle.std.specs.Bool.{Decides}
use Rattle.std.proofs.lemmas.Bool.{cases_Bool, and_parts}
use Rattle.std.proofs.lemmas.Bool.Decides.{Decides-like, Decides-and}
use Rattle.std.proofs.lemmas.List.Elements.{All-append, All-weaker, All-from_recursion, recursion_from_All}
use Rattle.std.proofs.lemmas.List.{length-drop}
use Rattle.duty_core.specs.declared.limits.TheConstants.{DAY_MINUTES, COUNT_LIMIT, US_BREAK, US_UNBROKEN_LIMIT, US_RESTART}
use Rattle.rule_core.specs.declared.numbers.TheConstants.{MOST_NUMBERS, NUMBER_LIMIT}
use Rattle.day_sums.specs.Sums.{IsDays, AreSums, today, are_within}
use Rattle.day_sums.specs.Laws.Within.{within_decides}
use Rattle.sleeper_split.specs.declared.rule.TheConstants.SplitRule.{US}
use Rattle.sleeper_split.specs.Covers.{WaitsWell}
use Rattle.sleeper_split.specs.Numbers.{split_numbers, split_of, is_count}
use Rattle.sleeper_split.specs.Laws.NumberLaws.{le_decides, eq_decides, count_decides, let_through, split_again, split_told, split_small, fronts_are}
use Rattle.us_rules.specs.declared.numbers.TheConstants.{COUNTS}
use Rattle.us_rules.specs.declared.state.BreakCount.{BreakCount}
use Rattle.us_rules.specs.declared.state.WeekCount.{WeekCount}
use Rattle.us_rules.specs.declared.state.UsState.{UsState}
use Rattle.us_rules.specs.Machine.{us_made, day_so_far, IsUsState}
use Rattle.us_rules.specs.Numbers.{us_numbers, state_by, holds_break_week, is_us_state, us_state_of}

-- # The test

-- the counts of breaks and of the week
record IsHeld (day_start : ℕ) (c : BreakCount) (w : WeekCount) (at : ℕ) : Type 0 where
  still : c.still ≤ US_BREAK
  driven : c.driven ≤ US_UNBROKEN_LIMIT
  rest : w.rest ≤ US_RESTART
  day : today w.sums ≤ day_so_far day_start at

held_decides : (day_start : ℕ) (c : BreakCount) (w : WeekCount) (at : ℕ) → Decides (holds_break_week day_start c w at) (IsHeld day_start c w at)
held_decides day_start c w at =
    let day : Bool = nat_le (today w.sums) (day_so_far day_start at) in
    Decides-like (holds_break_week day_start c w at) (λ p. record { still = p.0; driven = p.1.0; rest = p.1.1.0; day = p.1.1.1 }) (λ r. (r.still, (r.driven, (r.rest, r.day))))
    (Decides-and (nat_le c.still US_BREAK) (nat_le c.driven US_UNBROKEN_LIMIT && (nat_le w.rest US_RESTART && day)) (le_decides c.still US_BREAK)
    (Decides-and (nat_le c.driven US_UNBROKEN_LIMIT) (nat_le w.rest US_RESTART && day) (le_decides c.driven US_UNBROKEN_LIMIT)
    (Decides-and (nat_le w.rest US_RESTART) day (le_decides w.rest US_RESTART) (le_decides (today w.sums) (day_so_far day_start at)))))

pub state_decides : (berth : Bool) (days day_start : ℕ) (s : UsState) (at : ℕ) → Decides (is_us_state berth days day_start s at) (IsUsState berth days day_start s at)
state_decides berth days day_start s at =
    let held : Bool = holds_break_week day_start s.rest_break s.week at in
    Decides-like (is_us_state berth days day_start s at)
    (λ p. record { split = p.0; days_counted = p.1.0; within = p.1.1.0; still = p.1.1.1.still; driven = p.1.1.1.driven; rest = p.1.1.1.rest; day = p.1.1.1.day })
    (λ r. (r.split, (r.days_counted, (r.within, record { still = r.still; driven = r.driven; rest = r.rest; day = r.day }))))
    (Decides-and (is_count US berth s.split) (nat_eq (length s.week.sums) days && (are_within s.week.sums && held)) (count_decides US berth s.split)
    (Decides-and (nat_eq (length s.week.sums) days) (are_within s.week.sums && held) (eq_decides (length s.week.sums) days)
    (Decides-and (are_within s.week.sums) held (within_decides s.week.sums) (held_decides day_start s.rest_break s.week at))))

-- # Numbers of states

state_again : (berth : Bool) (s : UsState) → WaitsWell US berth s.split.waiting → state_by (us_numbers s) ≡ s
state_again berth s h = ap (λ c. us_made c s.rest_break s.week) (split_again US berth s.split (s.rest_break.still ∷ s.rest_break.driven ∷ s.week.rest ∷ s.week.sums) (omega arith) h)

numbers_again : (ns : List ℕ) → 14 ≤ length ns → us_numbers (state_by ns) ≡ ns
numbers_again ns l = ap (λ xs. split_numbers (split_of ns) ++ xs) (fronts_are 3 11 ns l) ∙ split_told ns (omega arith)

-- # Read and written

numbers_long : (s : UsState) → length (us_numbers s) ≡ COUNTS + length s.week.sums
numbers_long s = omega arith

pub us_numbers_read : (berth : Bool) (days day_start : ℕ) (s : UsState) (at : ℕ) → IsUsState berth days day_start s at → us_state_of berth days day_start (us_numbers s) at ≡ Some s
us_numbers_read berth days day_start s at i =
    let e = state_again berth s i.split.waits in
    let l : nat_eq (length (us_numbers s)) (COUNTS + days) ≡ true = (eq_decides (length (us_numbers s)) (COUNTS + days)).1 (numbers_long s ∙ ap (λ n. COUNTS + n) i.days_counted) in
    let t : is_us_state berth days day_start (state_by (us_numbers s)) at ≡ true = subst (λ u. is_us_state berth days day_start u at ≡ true) (sym e) ((state_decides berth days day_start s at).1 i) in
    rw l (rw t (ap (λ u. Some u) e))

pub us_numbers_told : (berth : Bool) (days day_start : ℕ) (ns : List ℕ) (s : UsState) (at : ℕ) → us_state_of berth days day_start ns at ≡ Some s → IsUsState berth days day_start s at × (us_numbers s ≡ ns)
us_numbers_told berth days day_start ns s at h =
    let r = let_through (nat_eq (length ns) (COUNTS + days) && is_us_state berth days day_start (state_by ns) at) (state_by ns) s h in
    let b = and_parts (nat_eq (length ns) (COUNTS + days)) (is_us_state berth days day_start (state_by ns) at) r.0 in
    let l = (eq_decides (length ns) (COUNTS + days)).0 b.0 in (
      subst (λ u. IsUsState berth days day_start u at) r.1 ((state_decides berth days day_start (state_by ns) at).0 b.1),
      ap us_numbers (sym r.1) ∙ numbers_again ns (omega arith),
    )

pub us_numbers_few : (berth : Bool) (days day_start : ℕ) (s : UsState) (at : ℕ) → days ≤ 8 → IsUsState berth days day_start s at → (length (us_numbers s) ≤ MOST_NUMBERS) × All (λ n. n < NUMBER_LIMIT) (us_numbers s)
us_numbers_few berth days day_start s at few i =
    let rest : List ℕ = s.rest_break.still ∷ s.rest_break.driven ∷ s.week.rest ∷ s.week.sums in
    let k1 = i.still in let k2 = i.driven in let k3 = i.rest in
    let n = i.days_counted in (
      omega (arith, numbers_long s),
      All-append (λ m. m < NUMBER_LIMIT) (split_numbers s.split) rest
          (All-weaker (λ m. m ≤ COUNT_LIMIT) (λ m. m < NUMBER_LIMIT) (λ m h. omega arith) (split_numbers s.split) (split_small s.split i.split.is_count))
          (All-from_recursion (λ m. m < NUMBER_LIMIT) rest (omega arith, (omega arith, (omega arith, recursion_from_All (λ m. m < NUMBER_LIMIT) s.week.sums (All-weaker (λ m. m ≤ DAY_MINUTES) (λ m. m < NUMBER_LIMIT) (λ m h. omega arith) s.week.sums i.within))))),
    )

-- # What is read of a slice

pub no_sums : (berth : Bool) (days day_start : ℕ) (ns : List ℕ) (at : ℕ) → IsDays days → (AreSums (drop 14 ns) → ⊥) → None ≡ us_state_of berth days day_start ns at
no_sums berth days day_start ns at d h =
    let test : Bool = nat_eq (length ns) (COUNTS + days) && is_us_state berth days day_start (state_by ns) at in
    elim (cases_Bool test) [
      | inr e ↦ rw e refl
      | inl e ↦
          let b = and_parts (nat_eq (length ns) (COUNTS + days)) (is_us_state berth days day_start (state_by ns) at) e in
          let i = (state_decides berth days day_start (state_by ns) at).0 b.1 in
          absurd (h (record { days = subst IsDays (sym i.days_counted) d; within = i.within }))
    ]

pub held_state : (berth : Bool) (days day_start : ℕ) (ns : List ℕ) (at : ℕ) → length ns ≡ COUNTS + days → is_count US berth (split_of ns) ≡ true → AreSums (drop 14 ns) →
    (if holds_break_week day_start (state_by ns).rest_break (state_by ns).week at then Some (state_by ns) else None) ≡ us_state_of berth days day_start ns at
held_state berth days day_start ns at l c s =
    let a : nat_eq (length ns) (COUNTS + days) ≡ true = (eq_decides (length ns) (COUNTS + days)).1 l in
    let b : nat_eq (length (drop 14 ns)) days ≡ true = (eq_decides (length (drop 14 ns)) days).1 (omega (arith, length-drop 14 ns)) in
    let w : are_within (drop 14 ns) ≡ true = (within_decides (drop 14 ns)).1 s.within in
    rw a (rw c (rw b (rw w refl)))
