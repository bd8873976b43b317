-- Where one history is plainly better than another, its counts of a cycle may stand for those of the other.
use Rattle.std.proofs.Common.{◌≡◌, ℕ, ◌+◌, ◌-◌, ◌<◌, ◌≤◌, ◌⊎◌, Bool, true, false, List, length, sym, ◌∙◌, ap, subst, arith, inl, inr, zero, suc}
use Rattle.std.proofs.lemmas.Bool.{cases_lt}
use Rattle.duty_core.specs.declared.activity.Activity.{Activity}
use Rattle.duty_core.specs.declared.limits.TheConstants.{CA_CYCLE_2, CA_DAY_OFF}
use Rattle.duty_core.specs.Laws.RunLaws.{run_inside}
use Rattle.duty_core.specs.Counting.{duty, IsLastEnd, CountsInDays, IsDaysBase}
use Rattle.duty_core.specs.Laws.CountLaws.{count_none}
use Rattle.duty_core.specs.Activity.{works}
use Rattle.duty_core.specs.CaCycle.{cycle_days, cycle_reset}
use Rattle.duty_core.specs.PlainlyBetter.{AreDaysBetter, IsLastDayOff}
use Rattle.day_sums.specs.Sums.{first_days, rolled, cleared}
use Rattle.day_sums.specs.Laws.SumLaws.{first_none, first_rolled, first_cleared, rolled_cleared}
use Rattle.day_sums.specs.Counted.{IsDutyOfDays, AreDaySums, turned}
use Rattle.cycles_deferral.specs.declared.cycle.CycleCount.{CycleCount}
use Rattle.cycles_deferral.specs.Paths.{AreDays, begins}
use Rattle.cycles_deferral.specs.Laws.Tracks.{days_up_to}
use Rattle.cycles_deferral.specs.Counts.{HasWithout, Counts}
use Rattle.cycles_deferral.specs.Laws.Counts.{is_turn}
use Rattle.cycles_deferral.specs.CycleCovers.{CycleCovers}
use Rattle.cycles_deferral.specs.Laws.BetterDays.{RestsLonger}

-- # Duty, from the next minute's day on

-- at the next minute, w is the duty of so many days since the last restart
record IsDutyNow (day : ℕ → ℕ) (days restart : ℕ) (p : List Activity) (w : ℕ) : Type 0 where
  from : ℕ
  base : IsDaysBase day days restart p (length p) from
  count : duty p from (length p) ≡ w

duty_none : (p : List Activity) → duty p (length p) (length p) ≡ 0
duty_none p = ap (duty p (length p)) (let z : length p ≡ length p + 0 = omega arith in z) ∙ count_none works p (length p)

-- the places that count at the last minute count at the next one, in as many days, or one more where a day begins
now_counts : (day : ℕ → ℕ) (restart : ℕ) (p : List Activity) (n m k : ℕ) → 0 < length p → day (length p) + n ≡ day (length p - 1) + m → CountsInDays day n restart p (length p - 1) k → CountsInDays day m restart p (length p) k
now_counts day restart p n m k some e h = let b = h.before in record {
  before = omega arith;
  inside = let i = h.inside in omega arith;
  after = λ a c r l. let o = run_inside p a c r.run in h.after a c r (omega arith);
}

then_counts : (day : ℕ → ℕ) (restart : ℕ) (p : List Activity) (n m k : ℕ) → 0 < length p → day (length p) + n ≡ day (length p - 1) + m → k < length p → CountsInDays day m restart p (length p) k → CountsInDays day n restart p (length p - 1) k
then_counts day restart p n m k some e l h = record {
  before = omega arith;
  inside = let i = h.inside in omega arith;
  after = λ a c r o. h.after a c r (omega arith);
}

duty_now : (day : ℕ → ℕ) (restart : ℕ) (p : List Activity) (n m w : ℕ) → 0 < length p → day (length p) + n ≡ day (length p - 1) + m → IsDutyOfDays day n restart p w → IsDutyNow day m restart p w
duty_now day restart p n m w some e h =
    let b = h.base.counts.before in
    record {
      from = h.from;
      base = record {
        counts = now_counts day restart p n m h.from some e h.base.counts;
        first = λ k c. elim (cases_lt k (length p)) [
          | inl l ↦ h.base.first k (then_counts day restart p n m k some e l c)
          | inr l ↦ omega arith
        ];
      };
      count = h.count;
    }

duty_anew : (day : ℕ → ℕ) → AreDays day → (restart : ℕ) (p : List Activity) → 0 < length p → day (length p) ≡ day (length p - 1) + 1 → IsDutyNow day 1 restart p 0
duty_anew day days restart p some e = record {
  from = length p;
  base = record {
    counts = record { before = omega arith; inside = omega arith; after = λ a c r l. l };
    first = λ k c. elim (cases_lt k (length p)) [
      | inl l ↦ absurd (let i = c.inside in let u = days_up_to day days k (length p - 1) (omega arith) in omega arith)
      | inr l ↦ l
    ];
  };
  count = duty_none p;
}

-- the sums of the next minute's day say so
sums_turned : (day : ℕ → ℕ) → AreDays day → (restart : ℕ) (p : List Activity) (new : Bool) (sums : List ℕ) (n : ℕ) → 0 < length p → ((new ≡ true) × (day (length p) ≡ day (length p - 1) + 1)) ⊎ ((new ≡ false) × (day (length p) ≡ day (length p - 1))) →
    AreDaySums day restart p sums → 0 < n → n ≤ length sums → IsDutyNow day n restart p (first_days n (turned new sums))
sums_turned day days restart p true sums zero some t h pos l = absurd (omega arith)
sums_turned day days restart p true sums (suc zero) some t h pos l =
    let e : day (length p) ≡ day (length p - 1) + 1 = elim t [ inl k ↦ k.1 | inr k ↦ absurd (let z : true ≡ false = k.0 in cc) ] in
    let f : first_days 1 (rolled sums) ≡ 0 = first_rolled 0 sums (omega arith) ∙ first_none sums in
    subst (IsDutyNow day 1 restart p) (sym f) (duty_anew day days restart p some e)
sums_turned day days restart p true sums (suc (suc n)) some t h pos l =
    let e : day (length p) ≡ day (length p - 1) + 1 = elim t [ inl k ↦ k.1 | inr k ↦ absurd (let z : true ≡ false = k.0 in cc) ] in
    let f : first_days (suc (suc n)) (rolled sums) ≡ first_days (suc n) sums = first_rolled (suc n) sums l in
    subst (IsDutyNow day (suc (suc n)) restart p) (sym f) (duty_now day restart p (suc n) (suc (suc n)) (first_days (suc n) sums) some (omega arith) (h (suc n) (omega arith) (omega arith)))
sums_turned day days restart p false sums n some t h pos l =
    let e : day (length p) ≡ day (length p - 1) = elim t [ inl k ↦ absurd (let z : false ≡ true = k.0 in cc) | inr k ↦ k.1 ] in
    duty_now day restart p n n (first_days n sums) some (omega arith) (h n pos l)

turned_zeros : (new : Bool) (sums : List ℕ) (n : ℕ) → sums ≡ cleared sums → first_days n (turned new sums) ≡ 0
turned_zeros true sums n e = ap (first_days n) (rolled_cleared sums e) ∙ first_cleared n (rolled sums)
turned_zeros false sums n e = ap (first_days n) e ∙ first_cleared n sums

-- # Plainly better

-- what is compared of two histories of one length, after their padding
pub record IsCycleBetter (cycle : ℕ) (day : ℕ → ℕ) (p q : List Activity) : Type 0 where
  pub same_length : length p ≡ length q
  pub run : RestsLonger p q
  pub sums : AreDaysBetter day (cycle_days cycle) (cycle_reset cycle) p q
  pub day_off : (a b : ℕ) → IsLastDayOff p a → IsLastDayOff q b → length p - a ≤ length q - b
  pub duty_less : cycle ≡ CA_CYCLE_2 → (a b : ℕ) → IsLastEnd CA_DAY_OFF p (length p) a → IsLastEnd CA_DAY_OFF q (length q) b → duty p a (length p) ≤ duty q b (length q)

without_better : (p q : List Activity) (v w : ℕ) → HasWithout p v → HasWithout q w → ((a b : ℕ) → IsLastEnd CA_DAY_OFF p (length p) a → IsLastEnd CA_DAY_OFF q (length q) b → duty p a (length p) ≤ duty q b (length q)) → v ≤ w
without_better p q v w h g l =
    let a = h.count in
    let b = g.count in
    let c = l h.to g.to h.last g.last in
    omega arith

sums_better : (day : ℕ → ℕ) → AreDays day → (p q : List Activity) (a b : CycleCount) → Counts day p a → Counts day q b → a.cycle ≡ b.cycle → IsCycleBetter b.cycle day p q → (k : ℕ) → k ≤ length b.sums →
    first_days k (turned (begins day (length p)) a.sums) ≤ first_days k (turned (begins day (length p)) b.sums)
sums_better day days p q a b h g e better zero l = let z = first_none (turned (begins day (length p)) a.sums) in omega arith
sums_better day days p q a b h g e better (suc k) l =
    let new : Bool = begins day (length p) in
    let reset : ℕ = cycle_reset b.cycle in
    let same : cycle_reset a.cycle ≡ reset = ap cycle_reset e in
    let da = h.days_counted in
    let db = g.days_counted in
    let dd : cycle_days a.cycle ≡ cycle_days b.cycle = ap cycle_days e in
    let r = better.run h.run g.run h.tracked.ends g.tracked.ends in
    let n = better.same_length in
    elim (cases_lt h.run (cycle_reset a.cycle)) [
      | inr long ↦ (let z = turned_zeros new a.sums (suc k) (h.tracked.rested long) in omega arith)
      | inl short ↦ (
          let x : IsDutyNow day (suc k) (cycle_reset a.cycle) p (first_days (suc k) (turned new a.sums)) = sums_turned day days (cycle_reset a.cycle) p new a.sums (suc k) h.tracked.some (is_turn day days p h.tracked.some) (h.tracked.sums_are short) (omega arith) (omega arith) in
          let y : IsDutyNow day (suc k) reset q (first_days (suc k) (turned new b.sums)) = subst (λ i. IsDutyNow day (suc k) reset q (first_days (suc k) (turned (begins day i) b.sums))) (sym n)
          (sums_turned day days reset q (begins day (length q)) b.sums (suc k) g.tracked.some (is_turn day days q g.tracked.some) (g.tracked.sums_are (omega arith)) (omega arith) l) in
          let u = x.count in
          let v = y.count in
          let m = better.sums (suc k) x.from y.from (omega arith) (omega arith) (subst (λ z. IsDaysBase day (suc k) z p (length p) x.from) same x.base) y.base in
          omega arith)
    ]

-- The counts of the better history may stand for those of the other.
pub cycle_better : (day : ℕ → ℕ) → AreDays day → (p q : List Activity) (a b : CycleCount) → Counts day p a → Counts day q b → a.cycle ≡ b.cycle → IsCycleBetter b.cycle day p q → CycleCovers (begins day (length p)) a b
cycle_better day days p q a b h g e better =
    let new : Bool = begins day (length p) in
    let r = better.run h.run g.run h.tracked.ends g.tracked.ends in
    let ca = h.capped in
    let cb = g.capped in
    let same : cycle_reset a.cycle ≡ cycle_reset b.cycle = ap cycle_reset e in
    let dd : cycle_days a.cycle ≡ cycle_days b.cycle = ap cycle_days e in
    let da = h.days_counted in
    let db = g.days_counted in
    let sa = h.since_is in
    let sb = g.since_is in
    let o = better.day_off h.day_off g.day_off h.is_day_off g.is_day_off in
    record {
      same_cycle = e;
      rested = omega arith;
      same_days = omega arith;
      left = λ n l. let m = sums_better day days p q a b h g e better n l in omega arith;
      since_no_more = omega arith;
      without_no_more = elim h.no_without [
        | inr none ↦ omega arith
        | inl two ↦ elim (cases_lt h.run CA_DAY_OFF) [
          | inr long ↦ (let z = h.without_none long in omega arith)
          | inl short ↦ (let two_b : b.cycle ≡ CA_CYCLE_2 = sym e ∙ two in without_better p q a.without b.without (h.without_is two short) (g.without_is two_b (omega arith)) (better.duty_less two_b))
        ]
      ];
    }
