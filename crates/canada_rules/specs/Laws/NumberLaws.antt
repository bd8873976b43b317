-- A state is written as its numbers, and read back from just these.
use Rattle.std.proofs.Common.{◌≡◌, ◌↔◌, ℕ, ◌+◌, ◌<◌, ◌≤◌, Bool, true, false, List, ◌∷◌, ◌++◌, length, drop, refl, sym, ◌∙◌, ap, subst, arith, ◌⊎◌, inl, inr}
use Rattle.std.specs.Prelude.{Option, None, Some, IsSome, IfSome, nat_eq, nat_lt, nat_le, not, ◌&&◌, ◌||◌, if◌then◌else◌, All}
use Rattle.std.specs.Bool.{Decides, then_some}
use Rattle.std.proofs.lemmas.Bool.{cases_Bool, cases_eq, and_parts}
use Rattle.std.proofs.lemmas.Bool.Decides.{nat_tests, Decides-like, Decides-and, Decides-or}
use Rattle.std.proofs.lemmas.List.Elements.{All-append, All-weaker, All-from_recursion, recursion_from_All}
use Rattle.duty_core.specs.declared.limits.TheConstants.{DAY_MINUTES, COUNT_LIMIT, CA_BLOCK_LEAST, CA_CYCLE_1, CA_CYCLE_2, CA_CYCLE_2_RESET}
use Rattle.duty_core.specs.declared.params.RestWay.{RestWay}
use Rattle.duty_core.specs.declared.params.RestWay.TheVariants.{Split, Defer}
use Rattle.duty_core.specs.CaCycle.{cycle_days, cycle_reset}
use Rattle.rule_core.specs.declared.numbers.TheConstants.{MOST_NUMBERS, NUMBER_LIMIT}
use Rattle.day_sums.specs.Sums.{IsDays, AreSums, today, are_within}
use Rattle.day_sums.specs.Laws.Within.{within_decides}
use Rattle.sleeper_split.specs.declared.rule.TheConstants.SplitRule.{CANADA}
use Rattle.sleeper_split.specs.declared.count.SplitCount.{SplitCount}
use Rattle.sleeper_split.specs.Covers.{WaitsWell}
use Rattle.sleeper_split.specs.Numbers.{split_numbers, item, split_of, is_count}
use Rattle.sleeper_split.specs.Laws.NumberLaws.{le_decides, eq_decides, same_decides, count_decides, let_through, then_if, split_again, split_told, split_small, fronts, fronts_are}
use Rattle.cycles_deferral.specs.declared.days.TheConstants.{NEEDED_LIMIT}
use Rattle.cycles_deferral.specs.declared.days.DayCount.{DayCount}
use Rattle.cycles_deferral.specs.declared.days.CanadaDays.{CanadaDays}
use Rattle.cycles_deferral.specs.declared.cycle.TheConstants.{SINCE_LIMIT, WITHOUT_LIMIT}
use Rattle.cycles_deferral.specs.declared.cycle.CycleCount.{CycleCount}
use Rattle.cycles_deferral.specs.DayMachine.{IsDayCount, IsShortOf, IsCanadaDays, lost_limit, day_count, days_made}
use Rattle.cycles_deferral.specs.CycleMachine.{IsCycleCount, cycle_made}
use Rattle.canada_rules.specs.declared.numbers.TheConstants.{COUNTS}
use Rattle.canada_rules.specs.declared.state.Calendar.{Calendar}
use Rattle.canada_rules.specs.declared.state.CanadaState.{CanadaState}
use Rattle.canada_rules.specs.Machine.{ca_may, day_made, calendar_made, ca_made, day_so_far, IsDayDuty, IsSeen}
use Rattle.canada_rules.specs.Laws.States.{so_far_most}
use Rattle.canada_rules.specs.BookStates.{IsStateOf}
use Rattle.canada_rules.specs.Numbers.{flag, ca_numbers, days_of, cycle_of, state_by, is_day_count, is_short_of, is_days, are_days, is_cycle_count, is_cycle, is_seen, fits_day, are_numbers, ca_state_of}

-- # The test

under_decides : (a b : ℕ) → Decides (nat_lt a b) (a < b)
under_decides a b = ((λ h. grind (arith, nat_tests)), (λ h. grind (arith, nat_tests)))

then_decides : {P Q : Type 0} (a b : Bool) → Decides a P → Decides b Q → Decides (not a || b) (P → Q)
then_decides true b h k = ((λ e p. k.0 e), (λ f. k.1 (f (h.0 refl))))
then_decides false b h k = ((λ e p. absurd (let z : false ≡ true = h.1 p in cc)), (λ f. refl))

short_decides : (rest today yesterday : ℕ) → Decides (is_short_of rest today yesterday) (IsShortOf rest today yesterday)
short_decides rest today yesterday =
    let long : Bool = nat_le CA_BLOCK_LEAST rest && (nat_le rest NEEDED_LIMIT && (nat_eq today 0 && nat_eq yesterday 0)) in
    let short : Bool = nat_lt rest CA_BLOCK_LEAST && nat_le (today + yesterday) rest in
    Decides-like (long || short)
    (λ p. elim p [ inl u ↦ inl (u.0, u.1.0, u.1.1.0, u.1.1.1) | inr u ↦ inr (u.0, u.1) ])
    (λ p. elim p [ inl u ↦ inl (u.0, (u.1, (u.2, u.3))) | inr u ↦ inr (u.0, u.1) ])
    (Decides-or long short
    (Decides-and (nat_le CA_BLOCK_LEAST rest) (nat_le rest NEEDED_LIMIT && (nat_eq today 0 && nat_eq yesterday 0)) (le_decides CA_BLOCK_LEAST rest)
    (Decides-and (nat_le rest NEEDED_LIMIT) (nat_eq today 0 && nat_eq yesterday 0) (le_decides rest NEEDED_LIMIT)
    (Decides-and (nat_eq today 0) (nat_eq yesterday 0) (eq_decides today 0) (eq_decides yesterday 0))))
    (Decides-and (nat_lt rest CA_BLOCK_LEAST) (nat_le (today + yesterday) rest) (under_decides rest CA_BLOCK_LEAST) (le_decides (today + yesterday) rest)))

day_count_decides : (limit : ℕ) (c : DayCount) → Decides (is_day_count limit c) (IsDayCount limit c)
day_count_decides limit c = Decides-like (is_day_count limit c) (λ p. record { few = p.0; bounded = p.1 }) (λ r. (r.few, r.bounded))
    (Decides-and (nat_le c.lost limit) (nat_le c.longest NEEDED_LIMIT) (le_decides c.lost limit) (le_decides c.longest NEEDED_LIMIT))

pub days_decides : (s : CanadaDays) → Decides (is_days s) (IsCanadaDays s)
days_decides s =
    let limit : ℕ = lost_limit s.way in
    let run : Bool = is_short_of s.rest s.today.short s.yesterday.short in
    Decides-like (is_days s) (λ p. record { minutes = p.0; count_today = p.1.0; count_yesterday = p.1.1.0; lost_before = p.1.1.1.0; run = p.1.1.1.1 }) (λ r. (r.minutes, (r.count_today, (r.count_yesterday, (r.lost_before, r.run)))))
    (Decides-and (nat_le s.minute DAY_MINUTES) (is_day_count limit s.today && (is_day_count limit s.yesterday && (nat_le s.before limit && run))) (le_decides s.minute DAY_MINUTES)
    (Decides-and (is_day_count limit s.today) (is_day_count limit s.yesterday && (nat_le s.before limit && run)) (day_count_decides limit s.today)
    (Decides-and (is_day_count limit s.yesterday) (nat_le s.before limit && run) (day_count_decides limit s.yesterday)
    (Decides-and (nat_le s.before limit) run (le_decides s.before limit) (short_decides s.rest s.today.short s.yesterday.short)))))

pub cycle_count_decides : (s : CycleCount) → Decides (is_cycle_count s) (IsCycleCount s)
cycle_count_decides s =
    let asked : Bool = nat_eq s.cycle CA_CYCLE_2 || nat_eq s.without 0 in
    Decides-like (is_cycle_count s) (λ p. record { days_counted = p.0; rests_most = p.1.0; since_most = p.1.1.0; without_most = p.1.1.1.0; no_without = p.1.1.1.1 }) (λ r. (r.days_counted, (r.rests_most, (r.since_most, (r.without_most, r.no_without)))))
    (Decides-and (nat_eq (length s.sums) (cycle_days s.cycle)) (nat_le s.rest (cycle_reset s.cycle) && (nat_le s.since SINCE_LIMIT && (nat_le s.without WITHOUT_LIMIT && asked))) (eq_decides (length s.sums) (cycle_days s.cycle))
    (Decides-and (nat_le s.rest (cycle_reset s.cycle)) (nat_le s.since SINCE_LIMIT && (nat_le s.without WITHOUT_LIMIT && asked)) (le_decides s.rest (cycle_reset s.cycle))
    (Decides-and (nat_le s.since SINCE_LIMIT) (nat_le s.without WITHOUT_LIMIT && asked) (le_decides s.since SINCE_LIMIT)
    (Decides-and (nat_le s.without WITHOUT_LIMIT) asked (le_decides s.without WITHOUT_LIMIT)
    (Decides-or (nat_eq s.cycle CA_CYCLE_2) (nat_eq s.without 0) (eq_decides s.cycle CA_CYCLE_2) (eq_decides s.without 0))))))

-- # What the minute asks

record IsFitting (start : ℕ) (c : Calendar) (at : ℕ) : Type 0 where
  day : IsDayDuty start c.day at
  seen : 0 < c.days.yesterday.short → IsSeen start c.days at
  fits : today c.cycle.sums ≤ day_so_far start at

seen_decides : (start : ℕ) (s : CanadaDays) (at : ℕ) → Decides (is_seen (day_so_far start at) s) (0 < s.yesterday.short → IsSeen start s at)
seen_decides start s at =
    let so_far : ℕ = day_so_far start at in
    let both : Bool = nat_eq s.minute so_far && nat_le s.today.longest s.rest in
    then_decides (nat_lt 0 s.yesterday.short) both (under_decides 0 s.yesterday.short)
    (Decides-like both (λ p. record { minutes = p.0; longest = p.1 }) (λ r. (r.minutes, r.longest)) (Decides-and (nat_eq s.minute so_far) (nat_le s.today.longest s.rest) (eq_decides s.minute so_far) (le_decides s.today.longest s.rest)))

fits_decides : (start : ℕ) (c : Calendar) (at : ℕ) → Decides (fits_day (day_so_far start at) c) (IsFitting start c at)
fits_decides start c at =
    let so_far : ℕ = day_so_far start at in
    let seen : Bool = is_seen so_far c.days in
    let fits : Bool = nat_le (today c.cycle.sums) so_far in
    Decides-like (fits_day so_far c) (λ p. record { day = record { some = p.0; fits = p.1.0 }; seen = p.1.1.0; fits = p.1.1.1 }) (λ r. (r.day.some, (r.day.fits, (r.seen, r.fits))))
    (Decides-and (nat_le c.day.driving c.day.duty) (nat_le c.day.duty so_far && (seen && fits)) (le_decides c.day.driving c.day.duty)
    (Decides-and (nat_le c.day.duty so_far) (seen && fits) (le_decides c.day.duty so_far)
    (Decides-and seen fits (seen_decides start c.days at) (le_decides (today c.cycle.sums) so_far))))

-- # Numbers of states

flag_again : (b : Bool) → nat_eq (flag b) 1 ≡ b
flag_again true = refl
flag_again false = refl

flag_few : (b : Bool) → flag b ≤ 1
flag_few true = omega arith
flag_few false = omega arith

flag_told : (n : ℕ) → n ≤ 1 → flag (nat_eq n 1) ≡ n
flag_told n l = elim (cases_eq n 1) [
  | inl e ↦ (let b : nat_eq n 1 ≡ true = (eq_decides n 1).1 e in ap flag b ∙ sym e)
  | inr e ↦ (let b : nat_eq n 1 ≡ false = grind (arith, nat_tests) in ap flag b ∙ (let z : 0 ≡ n = omega arith in z))
]

-- the numbers after those of the counts of split rests
abbrev after_split : CanadaState → List ℕ
after_split s = drop 11 (ca_numbers s)

-- the state with these counts of split rests, way, flag and cycle
abbrev state_with : CanadaState → SplitCount → RestWay → Bool → ℕ → CanadaState
state_with s split way reaches cycle =
    let d : CanadaDays = s.calendar.days in
    let c : CycleCount = s.calendar.cycle in
    ca_made split (calendar_made s.calendar.day (days_made way d.minute d.rest d.today d.yesterday d.before reaches) (cycle_made cycle c.rest c.sums c.since c.without))

state_again : (may : Bool) (way : RestWay) (cycle : ℕ) (s : CanadaState) → WaitsWell CANADA may s.split.waiting → s.calendar.days.way ≡ way → s.calendar.cycle.cycle ≡ cycle → state_by way cycle (ca_numbers s) ≡ s
state_again may way cycle s h w c =
    let reaches : Bool = nat_eq (flag s.calendar.days.reaches) 1 in
    ap (λ v. state_with s v way reaches cycle) (split_again CANADA may s.split (after_split s) (omega arith) h)
    ∙ (ap (λ v. state_with s s.split v reaches cycle) (sym w)
    ∙ (ap (λ v. state_with s s.split s.calendar.days.way v cycle) (flag_again s.calendar.days.reaches)
    ∙ ap (λ v. state_with s s.split s.calendar.days.way s.calendar.days.reaches v) (sym c)))

numbers_again : (way : RestWay) (cycle : ℕ) (ns : List ℕ) → 26 ≤ length ns → item ns 22 ≤ 1 → ca_numbers (state_by way cycle ns) ≡ ns
numbers_again way cycle ns l f =
    let rest = λ (r : ℕ). item ns 11 ∷ item ns 12 ∷ item ns 13 ∷ item ns 14 ∷ item ns 15 ∷ item ns 16 ∷ item ns 17 ∷ item ns 18 ∷ item ns 19 ∷ item ns 20 ∷ item ns 21 ∷ r ∷ fronts 23 3 ns in
    ap (λ xs. split_numbers (split_of ns) ++ xs) (ap rest (flag_told (item ns 22) f) ∙ fronts_are 15 11 ns l) ∙ split_told ns (omega arith)

-- # Read and written

all_true : (a b c d e : Bool) → a ≡ true → b ≡ true → c ≡ true → d ≡ true → e ≡ true → (a && (b && (c && (d && e)))) ≡ true
all_true a b c d e p q r s t = rw p (rw q (rw r (rw s t)))

each_true : (a b c d e : Bool) → (a && (b && (c && (d && e)))) ≡ true → (a ≡ true) × (b ≡ true) × (c ≡ true) × (d ≡ true) × (e ≡ true)
each_true a b c d e h =
    let p = and_parts a (b && (c && (d && e))) h in
    let q = and_parts b (c && (d && e)) p.1 in
    let r = and_parts c (d && e) q.1 in
    let s = and_parts d e r.1 in
    (p.0, q.0, r.0, s.0, s.1)

when_true : (b : Bool) (s t : CanadaState) → b ≡ true → s ≡ t → (if b then Some s else None) ≡ Some t
when_true b s t h e = rw h (ap (λ u. Some u) e)

numbers_long : (s : CanadaState) → length (ca_numbers s) ≡ COUNTS + length s.calendar.cycle.sums
numbers_long s = omega arith

pub ca_numbers_read : (berth : Bool) (way : RestWay) (cycle start : ℕ) (s : CanadaState) (at : ℕ) → IsStateOf berth way cycle start s at → ca_state_of (ca_may berth way) way cycle start (ca_numbers s) at ≡ Some s
ca_numbers_read berth way cycle start s at i =
    let may : Bool = ca_may berth way in
    let k = i.counts in
    let ns : List ℕ = ca_numbers s in
    let e : state_by way cycle ns ≡ s = state_again may way cycle s k.split.waits k.rest_way i.of_cycle in
    let a : nat_le COUNTS (length ns) ≡ true = (le_decides COUNTS (length ns)).1 (let l = numbers_long s in omega arith) in
    let b : is_count CANADA may (split_of ns) ≡ true = ap (λ u. is_count CANADA may u.split) e ∙ (count_decides CANADA may s.split).1 k.split in
    let c : are_days way ns ≡ true = (Decides-and (is_days (days_of way ns)) (nat_le (item ns 22) 1) (same_decides (is_days (days_of way ns))) (le_decides (item ns 22) 1)).1
    (ap (λ u. is_days u.calendar.days) e ∙ (days_decides s.calendar.days).1 k.days, flag_few s.calendar.days.reaches) in
    let d : is_cycle (cycle_of cycle ns) ≡ true = ap (λ u. is_cycle u.calendar.cycle) e ∙ (Decides-and (is_cycle_count s.calendar.cycle) (are_within s.calendar.cycle.sums) (cycle_count_decides s.calendar.cycle) (within_decides s.calendar.cycle.sums)).1 (k.cycle, i.within) in
    let f : fits_day (day_so_far start at) (state_by way cycle ns).calendar ≡ true = ap (λ u. fits_day (day_so_far start at) u.calendar) e ∙ (fits_decides start s.calendar at).1 (record { day = k.day; seen = k.seen; fits = k.fits }) in
    when_true (are_numbers may way cycle start ns at) (state_by way cycle ns) s
    (all_true (nat_le COUNTS (length ns)) (is_count CANADA may (split_of ns)) (are_days way ns) (is_cycle (cycle_of cycle ns)) (fits_day (day_so_far start at) (state_by way cycle ns).calendar) a b c d f) e

pub ca_numbers_told : (berth : Bool) (way : RestWay) (cycle start : ℕ) (ns : List ℕ) (s : CanadaState) (at : ℕ) → ca_state_of (ca_may berth way) way cycle start ns at ≡ Some s → IsStateOf berth way cycle start s at × (ca_numbers s ≡ ns)
ca_numbers_told berth way cycle start ns s at h =
    let may : Bool = ca_may berth way in
    let t : CanadaState = state_by way cycle ns in
    let r = let_through (are_numbers may way cycle start ns at) t s h in
    let b = each_true (nat_le COUNTS (length ns)) (is_count CANADA may (split_of ns)) (are_days way ns) (is_cycle (cycle_of cycle ns)) (fits_day (day_so_far start at) t.calendar) r.0 in
    let l = (le_decides COUNTS (length ns)).0 b.0 in
    let d = and_parts (is_days (days_of way ns)) (nat_le (item ns 22) 1) b.2 in
    let c = and_parts (is_cycle_count (cycle_of cycle ns)) (are_within (drop 26 ns)) b.3 in
    let f = (fits_decides start t.calendar at).0 b.4 in
    let made : IsStateOf berth way cycle start t at = record {
      counts = record {
        split = (count_decides CANADA may (split_of ns)).0 b.1;
        day = f.day;
        days = (days_decides (days_of way ns)).0 d.0;
        rest_way = refl;
        seen = f.seen;
        cycle = (cycle_count_decides (cycle_of cycle ns)).0 c.0;
        fits = f.fits;
      };
      of_cycle = refl;
      within = (within_decides (drop 26 ns)).0 c.1;
    } in (
      subst (λ u. IsStateOf berth way cycle start u at) r.1 made,
      ap ca_numbers (sym r.1) ∙ numbers_again way cycle ns (omega arith) ((le_decides (item ns 22) 1).0 d.1),
    )

-- # Few, and small

small_lost : (way : RestWay) → lost_limit way ≤ DAY_MINUTES
small_lost Split = omega arith
small_lost Defer = omega arith

small_reset : (cycle : ℕ) → cycle_reset cycle ≤ CA_CYCLE_2_RESET
small_reset cycle = elim (cases_Bool (nat_eq cycle CA_CYCLE_1)) [ inl e ↦ rw e (omega arith) | inr e ↦ rw e (omega arith) ]

few_days : (cycle : ℕ) → cycle_days cycle ≤ 14
few_days cycle = elim (cases_Bool (nat_eq cycle CA_CYCLE_1)) [ inl e ↦ rw e (omega arith) | inr e ↦ rw e (omega arith) ]

counted_days : (cycle : ℕ) → IsDays (cycle_days cycle)
counted_days cycle = elim (cases_Bool (nat_eq cycle CA_CYCLE_1)) [ inl e ↦ rw e (inl refl) | inr e ↦ rw e (inr (inr refl)) ]

small_short : (rest today yesterday : ℕ) → IsShortOf rest today yesterday → (rest ≤ NEEDED_LIMIT) × (today ≤ NEEDED_LIMIT) × (yesterday ≤ NEEDED_LIMIT)
small_short rest today yesterday h = elim h [
  | inl u ↦ (let a = u.1 in let b = u.2 in let c = u.3 in (omega arith, omega arith, omega arith))
  | inr u ↦ (let a = u.0 in let b = u.1 in (omega arith, omega arith, omega arith))
]

pub ca_numbers_few : (berth : Bool) (way : RestWay) (cycle start : ℕ) (s : CanadaState) (at : ℕ) → IsStateOf berth way cycle start s at → (length (ca_numbers s) ≤ MOST_NUMBERS) × All (λ n. n < NUMBER_LIMIT) (ca_numbers s)
ca_numbers_few berth way cycle start s at i =
    let k = i.counts in
    let far = so_far_most start at in
    let d1 = k.day.some in let d2 = k.day.fits in
    let days = k.days in
    let limit = small_lost s.calendar.days.way in
    let m1 = days.minutes in
    let t1 = days.count_today.few in let t2 = days.count_today.bounded in
    let y1 = days.count_yesterday.few in let y2 = days.count_yesterday.bounded in
    let before = days.lost_before in
    let short = small_short s.calendar.days.rest s.calendar.days.today.short s.calendar.days.yesterday.short days.run in
    let s0 = short.0 in let s1 = short.1 in let s2 = short.2 in
    let f = flag_few s.calendar.days.reaches in
    let reset = small_reset s.calendar.cycle.cycle in
    let c1 = k.cycle.rests_most in let c2 = k.cycle.since_most in let c3 = k.cycle.without_most in
    let n = k.cycle.days_counted in
    let few = few_days s.calendar.cycle.cycle in
    let long = numbers_long s in (
      omega arith,
      All-append (λ m. m < NUMBER_LIMIT) (split_numbers s.split) (after_split s)
          (All-weaker (λ m. m ≤ COUNT_LIMIT) (λ m. m < NUMBER_LIMIT) (λ m h. omega arith) (split_numbers s.split) (split_small s.split k.split.is_count))
          (All-from_recursion (λ m. m < NUMBER_LIMIT) (after_split s) (omega arith, (omega arith, (omega arith, (omega arith, (omega arith, (omega arith, (omega arith, (omega arith, (omega arith, (omega arith, (omega arith, (omega arith, (omega arith, (omega arith, (omega arith, recursion_from_All (λ m. m < NUMBER_LIMIT) s.calendar.cycle.sums (All-weaker (λ m. m ≤ DAY_MINUTES) (λ m. m < NUMBER_LIMIT) (λ m h. omega arith) s.calendar.cycle.sums i.within))))))))))))))))),
    )

-- # What is read of a slice

-- what a call of parts gives, where a test tells whether there is a value with them
found_by : {A P : Type 0} (o : Option A) (v : A) (b : Bool) → Decides b P → (IsSome o ↔ P) → IfSome o (λ s. s ≡ v) → o ≡ (if b then Some v else None)
found_by None v b d i f = elim (cases_Bool b) [ inl e ↦ absurd (let z : false ≡ true = i.1 (d.0 e) in cc) | inr e ↦ rw e refl ]
found_by (Some x) v b d i f = let e : b ≡ true = d.1 (i.0 refl) in rw e (ap (λ u. Some u) f)

pub days_found : (o : Option CanadaDays) (s : CanadaDays) → (IsSome o ↔ IsCanadaDays s) → IfSome o (λ d. d ≡ s) → o ≡ (if is_days s then Some s else None)
days_found o s i f = found_by o s (is_days s) (days_decides s) i f

pub cycle_found : (o : Option CycleCount) (s : CycleCount) → AreSums s.sums → (IsSome o ↔ IsCycleCount s) → IfSome o (λ c. c ≡ s) → o ≡ (if is_cycle s then Some s else None)
cycle_found o s sums i f =
    let both = Decides-and (is_cycle_count s) (are_within s.sums) (cycle_count_decides s) (within_decides s.sums) in
    found_by o s (is_cycle s) (Decides-like (is_cycle s) (λ p. p.0) (λ c. (c, sums.within)) both) i f

pub no_cycle : (s : CycleCount) → (AreSums s.sums → ⊥) → None ≡ (if is_cycle s then Some s else None)
no_cycle s h = elim (cases_Bool (is_cycle s)) [
  | inr e ↦ rw e refl
  | inl e ↦
      let b = and_parts (is_cycle_count s) (are_within s.sums) e in
      let c = (cycle_count_decides s).0 b.0 in
      absurd (h (record { days = subst IsDays (sym c.days_counted) (counted_days s.cycle); within = (within_decides s.sums).0 b.1 }))
]

one_false : (a b c d e : Bool) (s : CanadaState) → (a ≡ false) ⊎ (b ≡ false) ⊎ (c ≡ false) ⊎ (d ≡ false) → None ≡ (if a && (b && (c && (d && e))) then Some s else None)
one_false false b c d e s h = refl
one_false true false c d e s h = refl
one_false true true false d e s h = refl
one_false true true true false e s h = refl
one_false true true true true e s h = absurd (elim h [
  | inl z ↦ (let y : true ≡ false = z in cc)
  | inr k ↦ elim k [
    | inl z ↦ (let y : true ≡ false = z in cc)
    | inr l ↦ elim l [
      | inl z ↦ (let y : true ≡ false = z in cc)
      | inr z ↦ (let y : true ≡ false = z in cc)
    ]
  ]
])

-- no state has these numbers
pub no_state : (may : Bool) (way : RestWay) (cycle start : ℕ) (ns : List ℕ) (at : ℕ) → (nat_le COUNTS (length ns) ≡ false) ⊎ (is_count CANADA may (split_of ns) ≡ false) ⊎ (are_days way ns ≡ false) ⊎ (is_cycle (cycle_of cycle ns) ≡ false) →
    None ≡ ca_state_of may way cycle start ns at
no_state may way cycle start ns at h = one_false (nat_le COUNTS (length ns)) (is_count CANADA may (split_of ns)) (are_days way ns) (is_cycle (cycle_of cycle ns)) (fits_day (day_so_far start at) (state_by way cycle ns).calendar) (state_by way cycle ns) h

last_true : (a b c d e : Bool) (s : CanadaState) → a ≡ true → b ≡ true → c ≡ true → d ≡ true → (if e then Some s else None) ≡ (if a && (b && (c && (d && e))) then Some s else None)
last_true a b c d e s p q r t = rw p (rw q (rw r (rw t refl)))

pub state_found : (may : Bool) (way : RestWay) (cycle start : ℕ) (ns : List ℕ) (at : ℕ) → COUNTS ≤ length ns → is_count CANADA may (split_of ns) ≡ true → are_days way ns ≡ true → is_cycle (cycle_of cycle ns) ≡ true →
    (if fits_day (day_so_far start at) (state_by way cycle ns).calendar then Some (state_by way cycle ns) else None) ≡ ca_state_of may way cycle start ns at
state_found may way cycle start ns at l b c d =
    last_true (nat_le COUNTS (length ns)) (is_count CANADA may (split_of ns)) (are_days way ns) (is_cycle (cycle_of cycle ns)) (fits_day (day_so_far start at) (state_by way cycle ns).calendar) (state_by way cycle ns)
    ((le_decides COUNTS (length ns)).1 l) b c d

-- a state by its parts
pub parts_made : (way : RestWay) (cycle : ℕ) (ns : List ℕ) (split : SplitCount) (days : CanadaDays) (count : CycleCount) → split_of ns ≡ split → days_of way ns ≡ days → cycle_of cycle ns ≡ count →
    ca_made split (calendar_made (day_made (item ns 11) (item ns 12)) days count) ≡ state_by way cycle ns
parts_made way cycle ns split days count s d c =
    ap (λ v. ca_made v (calendar_made (day_made (item ns 11) (item ns 12)) days count)) (sym s)
    ∙ (ap (λ v. ca_made (split_of ns) (calendar_made (day_made (item ns 11) (item ns 12)) v count)) (sym d)
    ∙ ap (λ v. ca_made (split_of ns) (calendar_made (day_made (item ns 11) (item ns 12)) (days_of way ns) v)) (sym c))

-- a state whose numbers these are, where it fits in the day
pub reads_state : (may : Bool) (way : RestWay) (cycle start : ℕ) (ns : List ℕ) (at : ℕ) (s : CanadaState) (fits : Bool) → COUNTS ≤ length ns → is_count CANADA may (split_of ns) ≡ true → are_days way ns ≡ true → is_cycle (cycle_of cycle ns) ≡ true →
    s ≡ state_by way cycle ns → fits ≡ fits_day (day_so_far start at) s.calendar → then_some fits s ≡ ca_state_of may way cycle start ns at
reads_state may way cycle start ns at s fits l b c d e f =
    then_if fits s ∙ (ap (λ v. if v then Some s else None) f
    ∙ (ap (λ (u : CanadaState). if fits_day (day_so_far start at) u.calendar then Some u else None) e ∙ state_found may way cycle start ns at l b c d))

-- days by what is counted of today and of yesterday
pub days_read : (way : RestWay) (ns : List ℕ) (today yesterday : DayCount) (o : Option CanadaDays) → today ≡ day_count (item ns 15) (item ns 16) (item ns 17) → yesterday ≡ day_count (item ns 18) (item ns 19) (item ns 20) →
    (IsSome o ↔ IsCanadaDays (days_made way (item ns 13) (item ns 14) today yesterday (item ns 21) (nat_eq (item ns 22) 1))) → IfSome o (λ s. s ≡ days_made way (item ns 13) (item ns 14) today yesterday (item ns 21) (nat_eq (item ns 22) 1)) →
    o ≡ (if is_days (days_of way ns) then Some (days_of way ns) else None)
days_read way ns today yesterday o a b i g =
    let made = λ (u v : DayCount). days_made way (item ns 13) (item ns 14) u v (item ns 21) (nat_eq (item ns 22) 1) in
    subst (λ (s : CanadaDays). o ≡ (if is_days s then Some s else None)) (ap (λ u. made u yesterday) a ∙ ap (λ v. made (day_count (item ns 15) (item ns 16) (item ns 17)) v) b)
    (days_found o (made today yesterday) i g)

-- counts of a cycle by the sums of their days
pub cycle_read : (cycle : ℕ) (ns : List ℕ) (sums : List ℕ) (o : Option CycleCount) → sums ≡ drop 26 ns → AreSums sums →
    (IsSome o ↔ IsCycleCount (cycle_made cycle (item ns 23) sums (item ns 24) (item ns 25))) → IfSome o (λ s. s ≡ cycle_made cycle (item ns 23) sums (item ns 24) (item ns 25)) → o ≡ (if is_cycle (cycle_of cycle ns) then Some (cycle_of cycle ns) else None)
cycle_read cycle ns sums o b there i g =
    subst (λ (s : CycleCount). o ≡ (if is_cycle s then Some s else None)) (ap (λ v. cycle_made cycle (item ns 23) v (item ns 24) (item ns 25)) b)
    (cycle_found o (cycle_made cycle (item ns 23) sums (item ns 24) (item ns 25)) there i g)
