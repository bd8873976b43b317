-- What the counts of a cycle say of the history so far: p, after its padding.
use Rattle.std.proofs.Common.{◌≡◌, ℕ, ◌+◌, ◌-◌, ◌<◌, ◌≤◌, min, Bool, true, false, cond, not, List, [], ◌∷◌, ◌++◌, length, drop, refl, sym, ◌∙◌, ap, subst, arith, inl, inr}
use Rattle.std.specs.Prelude.{count_by, nat_eq, nat_lt}
use Rattle.std.proofs.lemmas.Bool.{cases_lt, cases_eq, cond-true, cond-false}
use Rattle.std.proofs.lemmas.Bool.Decides.{nat_tests}
use Rattle.duty_core.specs.declared.activity.Activity.{Activity}
use Rattle.duty_core.specs.declared.limits.TheConstants.{CA_CYCLE_2, CA_CYCLE_2_RESET, CA_DAY_OFF}
use Rattle.duty_core.specs.Activity.{rests, works}
use Rattle.duty_core.specs.History.{unit_at}
use Rattle.duty_core.specs.Laws.HistoryLaws.{alike_back, alike_append, unit_at-last}
use Rattle.duty_core.specs.RestRun.{IsLongRun}
use Rattle.duty_core.specs.RestRun.{EndsIn}
use Rattle.duty_core.specs.Laws.RunLaws.{ends_rest, run_inside, run_ends, run_is_open, no_run_at_rest, long_alike}
use Rattle.duty_core.specs.Counting.{duty, IsLastEnd}
use Rattle.duty_core.specs.Laws.CountLaws.{count_more, count_none}
use Rattle.duty_core.specs.Laws.LostLaws.{works_is}
use Rattle.duty_core.specs.CaCycle.{cycle_days, cycle_reset}
use Rattle.duty_core.specs.Stretch.{IsRest}
use Rattle.duty_core.specs.PlainlyBetter.{IsLastDayOff}
use Rattle.day_sums.specs.Sums.{cleared}
use Rattle.day_sums.specs.Laws.SumLaws.{length-added, length-cleared}
use Rattle.day_sums.specs.Counted.{TracksDays, turned, after_rest}
use Rattle.day_sums.specs.Laws.Counted.{IsTurn, length-turned, tracks_duty, tracks_rest}
use Rattle.cycles_deferral.specs.declared.cycle.TheConstants.{SINCE_LIMIT, WITHOUT_LIMIT}
use Rattle.cycles_deferral.specs.declared.cycle.CycleCount.{CycleCount}
use Rattle.cycles_deferral.specs.CycleMachine.{cycle_rested, cycle_worked}
use Rattle.cycles_deferral.specs.Paths.{AreDays, begins}
use Rattle.cycles_deferral.specs.Laws.LostSteps.{length_more, rest_front, rest_last, rest_less}
use Rattle.cycles_deferral.specs.Laws.Tracks.{days_up_to}
use Rattle.cycles_deferral.specs.Counts.{HasWithout, Counts}

-- a reset is a day off, and a cycle has days
pub reset_long : (cycle : ℕ) → CA_DAY_OFF ≤ cycle_reset cycle
reset_long cycle = elim (cases_eq cycle 1) [ inl e ↦ grind (arith, nat_tests) | inr e ↦ grind (arith, nat_tests) ]

pub reset_few : (cycle : ℕ) → cycle_reset cycle ≤ CA_CYCLE_2_RESET
reset_few cycle = elim (cases_eq cycle 1) [ inl e ↦ grind (arith, nat_tests) | inr e ↦ grind (arith, nat_tests) ]

pub days_some : (cycle : ℕ) → 0 < cycle_days cycle
days_some cycle = elim (cases_eq cycle 1) [ inl e ↦ grind (arith, nat_tests) | inr e ↦ grind (arith, nat_tests) ]

-- # A new day

pub is_turn : (day : ℕ → ℕ) → AreDays day → (p : List Activity) → 0 < length p → IsTurn day p (begins day (length p))
is_turn day days p some =
    let n : ℕ = length p in
    let a = days.on (n - 1) in
    let b = days.by_one (n - 1) in
    let z : day (n - 1 + 1) ≡ day n = ap day (let z : n - 1 + 1 ≡ n = omega arith in z) in
    elim (cases_lt (day (n - 1)) (day n)) [
      | inl lt ↦ inl (grind (arith, nat_tests), omega arith)
      | inr le ↦ inr (grind (arith, nat_tests), omega arith)
    ]

-- # The day off at one more minute

-- the last day off stays, where none ends with the minute
day_off_stays : (p : List Activity) (x : Activity) (e : ℕ) → ((c : ℕ) → CA_DAY_OFF ≤ c → length p < c → c ≤ length (p ++ x ∷ []) → IsRest (p ++ x ∷ []) (c - CA_DAY_OFF) c → ⊥) → IsLastDayOff p e → IsLastDayOff (p ++ x ∷ []) e
day_off_stays p x e none h =
    let n = length_more p x in
    let i = h.before in
    let t = h.there in
    record {
      there = t;
      before = omega arith;
      rest = λ k a b. rest_front p x k (omega arith) ∙ h.rest k a b;
      last = λ c l g m. elim (cases_lt (length p) c) [ inl lt ↦ absurd (none c l lt m g) | inr le ↦ h.last c l (λ k a b. rest_less p x k (g k a b)) le ];
    }

day_off_at_duty : (p : List Activity) (x : Activity) (e : ℕ) → rests x ≡ false → IsLastDayOff p e → IsLastDayOff (p ++ x ∷ []) e
day_off_at_duty p x e r = let n = length_more p x in day_off_stays p x e (λ c l lt most g. let z : true ≡ false = sym (g (length p) (omega arith) lt) ∙ (rest_last p x ∙ r) in cc)

day_off_at_rest : (p : List Activity) (x : Activity) (e run : ℕ) → run + 1 < CA_DAY_OFF → EndsIn p run → IsLastDayOff p e → IsLastDayOff (p ++ x ∷ []) e
day_off_at_rest p x e run l ends h =
    let n = length_more p x in
    let i = h.before in
    let t = h.there in
    let k : ℕ = length p - run - 1 in
    day_off_stays p x e (λ c least lt most g. let z : true ≡ false = sym (rest_less p x k (g k (omega arith) (omega arith))) ∙ ends.starts k (omega arith) in cc) h

day_off_now : (p : List Activity) (run : ℕ) → CA_DAY_OFF ≤ run → EndsIn p run → IsLastDayOff p (length p)
day_off_now p run l ends = let t = ends.there in record {
  there = omega arith;
  before = omega arith;
  rest = λ k a b. ends.rest k (omega arith) b;
  last = λ c m g o. o;
}

-- # Duty at one more minute

no_work : (x : Activity) → rests x ≡ true → works x ≡ false
no_work x r = works_is x ∙ ap not r

is_work : (x : Activity) → rests x ≡ false → works x ≡ true
is_work x r = works_is x ∙ ap not r

duty_alike : (p : List Activity) (x : Activity) (from : ℕ) → duty (p ++ x ∷ []) from (length p) ≡ duty p from (length p)
duty_alike p x from = ap (λ (u : List Activity). count_by works (drop from u)) (sym ((alike_append p (x ∷ [])).fronts (length p) (omega arith)))

pub duty_more : (p : List Activity) (x : Activity) (from : ℕ) → from ≤ length p → duty (p ++ x ∷ []) from (length (p ++ x ∷ [])) ≡ duty p from (length p) + cond (works x) 1 0
duty_more p x from l =
    let q : List Activity = p ++ x ∷ [] in
    let n : ℕ = length p - from in
    let len = length_more p x in
    let end : length q ≡ from + (n + 1) = omega arith in
    let mid : from + n ≡ length p = omega arith in
    ap (duty q from) end
    ∙ (count_more works q from n refl
    ∙ (ap (λ m. duty q from m + cond (works (unit_at q m)) 1 0) mid
    ∙ (ap (λ m. m + cond (works (unit_at q (length p))) 1 0) (duty_alike p x from) ∙ ap (λ (u : Activity). duty p from (length p) + cond (works u) 1 0) (unit_at-last p x))))

duty_none : (p : List Activity) → duty p (length p) (length p) ≡ 0
duty_none p = ap (duty p (length p)) (let z : length p ≡ length p + 0 = omega arith in z) ∙ count_none works p (length p)

-- where no long run ends, the last one that did stays
last_end_on : (p : List Activity) (x : Activity) (to : ℕ) → ((a : ℕ) → IsLongRun CA_DAY_OFF (p ++ x ∷ []) a (length p) → ⊥) → IsLastEnd CA_DAY_OFF p (length p) to → IsLastEnd CA_DAY_OFF (p ++ x ∷ []) (length (p ++ x ∷ [])) to
last_end_on p x to none h =
    let n = length_more p x in
    let i = run_inside p h.from to h.rest.run in
    record {
      from = h.from;
      rest = long_alike (alike_append p (x ∷ [])) i h.rest;
      before = omega arith;
      last = λ a b g l.
          let o = run_inside (p ++ x ∷ []) a b g.run in
          elim (cases_lt b (length p)) [
            | inl lt ↦ h.last a b (long_alike (alike_back (alike_append p (x ∷ []))) lt g) (omega arith)
            | inr le ↦ absurd (none a (let q : b ≡ length p = omega arith in subst (IsLongRun CA_DAY_OFF (p ++ x ∷ []) a) q g))
          ];
    }

without_at_rest : (p : List Activity) (x : Activity) (w : ℕ) → rests x ≡ true → HasWithout p w → HasWithout (p ++ x ∷ []) w
without_at_rest p x w r h =
    let b = h.last.before in
    let z : cond {A = ℕ} (works x) 1 0 ≡ 0 = ap (λ (b : Bool). cond {A = ℕ} b 1 0) (no_work x r) in
    let d = duty_more p x h.to b in
    let c = h.count in
    record { to = h.to; last = last_end_on p x h.to (λ a g. no_run_at_rest p x a r g.run) h.last; count = omega arith }

without_at_duty : (p : List Activity) (x : Activity) (run w : ℕ) → rests x ≡ false → run < CA_DAY_OFF → EndsIn p run → HasWithout p w → HasWithout (p ++ x ∷ []) (min (w + 1) WITHOUT_LIMIT)
without_at_duty p x run w r l ends h =
    let b = h.last.before in
    let z : cond {A = ℕ} (works x) 1 0 ≡ 1 = ap (λ (b : Bool). cond {A = ℕ} b 1 0) (is_work x r) in
    let d = duty_more p x h.to b in
    let c = h.count in
    record {
      to = h.to;
      last = last_end_on p x h.to (λ a g. let u = run_is_open p (x ∷ []) run a ends g.run in let v = g.long in omega arith) h.last;
      count = omega arith;
    }

without_anew : (p : List Activity) (x : Activity) (run : ℕ) → rests x ≡ false → CA_DAY_OFF ≤ run → EndsIn p run → HasWithout (p ++ x ∷ []) 1
without_anew p x run r l ends =
    let n = length_more p x in
    let t = ends.there in
    let z : cond {A = ℕ} (works x) 1 0 ≡ 1 = ap (λ (b : Bool). cond {A = ℕ} b 1 0) (is_work x r) in
    let d = duty_more p x (length p) (omega arith) in
    let e = duty_none p in
    record {
      to = length p;
      last = record {
        from = length p - run;
        rest = record { run = run_ends p x run r (omega arith) ends; long = omega arith };
        before = omega arith;
        last = λ a b g m. let o = run_inside (p ++ x ∷ []) a b g.run in omega arith;
      };
      count = omega arith;
    }

-- # The counts at one more minute

capped_rest : (cycle run rest : ℕ) (sums : List ℕ) → rest ≡ min run (cycle_reset cycle) → after_rest (cycle_reset cycle) (run + 1) sums ≡ after_rest (cycle_reset cycle) (rest + 1) sums
capped_rest cycle run rest sums e = elim (cases_lt (run + 1) (cycle_reset cycle)) [
  | inl l ↦ (let m : rest + 1 < cycle_reset cycle = omega arith in cond-true (nat_lt (run + 1) (cycle_reset cycle)) sums (cleared sums) (grind (arith, nat_tests)) ∙ sym (cond-true (nat_lt (rest + 1) (cycle_reset cycle)) sums (cleared sums) (grind (arith, nat_tests))))
  | inr l ↦ (let m : cycle_reset cycle ≤ rest + 1 = omega arith in cond-false (nat_lt (run + 1) (cycle_reset cycle)) sums (cleared sums) (grind (arith, nat_tests)) ∙ sym (cond-false (nat_lt (rest + 1) (cycle_reset cycle)) sums (cleared sums) (grind (arith, nat_tests))))
]

length_after_rest : (restart run : ℕ) (sums : List ℕ) → length (after_rest restart run sums) ≡ length sums
length_after_rest restart run sums = elim (cases_lt run restart) [
  | inl l ↦ ap length (cond-true (nat_lt run restart) sums (cleared sums) (grind (arith, nat_tests)))
  | inr l ↦ ap length (cond-false (nat_lt run restart) sums (cleared sums) (grind (arith, nat_tests))) ∙ length-cleared sums
]

-- the two numbers of the day off at one more minute of rest
rested_value : ℕ → ℕ → ℕ → ℕ
rested_value rest a b = cond (nat_lt (rest + 1) CA_DAY_OFF) a b

rested_short : (rest a b : ℕ) → rest + 1 < CA_DAY_OFF → rested_value rest a b ≡ a
unfolding rested_value
rested_short rest a b l = cond-true (nat_lt (rest + 1) CA_DAY_OFF) a b (grind (arith, nat_tests))

rested_long : (rest a b : ℕ) → CA_DAY_OFF ≤ rest + 1 → rested_value rest a b ≡ b
unfolding rested_value
rested_long rest a b l = cond-false (nat_lt (rest + 1) CA_DAY_OFF) a b (grind (arith, nat_tests))

pub counts_rested : (day : ℕ → ℕ) → AreDays day → (p : List Activity) (x : Activity) (s : CycleCount) → rests x ≡ true → Counts day p s → Counts day (p ++ x ∷ []) (cycle_rested s (begins day (length p)))
unfolding rested_value
counts_rested day days p x s r h =
    let reset : ℕ = cycle_reset s.cycle in
    let long = reset_long s.cycle in
    let some = days_some s.cycle in
    let n = length_more p x in
    let new : Bool = begins day (length p) in
    let sums : List ℕ = turned new s.sums in
    let c = h.capped in
    let len = h.days_counted in
    let ends = ends_rest p x h.run r h.tracked.ends in
    let tracked : TracksDays day reset (p ++ x ∷ []) (h.run + 1) (after_rest reset (s.rest + 1) sums) = subst (TracksDays day reset (p ++ x ∷ []) (h.run + 1)) (capped_rest s.cycle h.run s.rest sums c)
    (tracks_rest day reset p x new h.run s.sums r (omega arith) (days_up_to day days) (is_turn day days p h.tracked.some) h.tracked) in
    let counted : length (after_rest reset (s.rest + 1) sums) ≡ cycle_days s.cycle = length_after_rest reset (s.rest + 1) sums ∙ (length-turned new s.sums ∙ len) in
    elim (cases_lt (h.run + 1) CA_DAY_OFF) [
      | inl l ↦ (
          let f : s.rest + 1 < CA_DAY_OFF = omega arith in
          let a = rested_short s.rest (min (s.since + 1) SINCE_LIMIT) 0 f in
          let b = rested_short s.rest s.without 0 f in
          let i = h.is_day_off.before in
          let q = h.since_is in
          record {
            run = h.run + 1;
            tracked = tracked;
            capped = omega arith;
            days_counted = counted;
            day_off = h.day_off;
            is_day_off = day_off_at_rest p x h.day_off h.run l h.tracked.ends h.is_day_off;
            since_is = a ∙ (omega arith);
            without_is = λ two m. subst (HasWithout (p ++ x ∷ [])) (sym b) (without_at_rest p x s.without r (h.without_is two (omega arith)));
            without_none = λ m. absurd (omega arith);
            no_without = elim h.no_without [ inl two ↦ inl two | inr none ↦ inr (b ∙ none) ];
          })
      | inr l ↦ (
          let f : CA_DAY_OFF ≤ s.rest + 1 = omega arith in
          let a = rested_long s.rest (min (s.since + 1) SINCE_LIMIT) 0 f in
          let b = rested_long s.rest s.without 0 f in
          record {
            run = h.run + 1;
            tracked = tracked;
            capped = omega arith;
            days_counted = counted;
            day_off = length (p ++ x ∷ []);
            is_day_off = day_off_now (p ++ x ∷ []) (h.run + 1) l ends;
            since_is = a ∙ (omega arith);
            without_is = λ two m. absurd (omega arith);
            without_none = λ m. b;
            no_without = inr b;
          })
    ]

pub counts_worked : (day : ℕ → ℕ) → AreDays day → (p : List Activity) (x : Activity) (s : CycleCount) → rests x ≡ false → Counts day p s → Counts day (p ++ x ∷ []) (cycle_worked s (begins day (length p)))
counts_worked day days p x s r h =
    let reset : ℕ = cycle_reset s.cycle in
    let long = reset_long s.cycle in
    let some = days_some s.cycle in
    let n = length_more p x in
    let new : Bool = begins day (length p) in
    let len = h.days_counted in
    let i = h.is_day_off.before in
    let q = h.since_is in
    record {
      run = 0;
      tracked = tracks_duty day reset p x new h.run s.sums (omega arith) r (omega arith) (days_up_to day days) (is_turn day days p h.tracked.some) h.tracked;
      capped = omega arith;
      days_counted = length-added 1 (turned new s.sums) ∙ (length-turned new s.sums ∙ len);
      day_off = h.day_off;
      is_day_off = day_off_at_duty p x h.day_off r h.is_day_off;
      since_is = omega arith;
      without_is = λ two m. subst (HasWithout (p ++ x ∷ [])) (sym (cond-true (nat_eq s.cycle CA_CYCLE_2) (min (s.without + 1) WITHOUT_LIMIT) 0 (grind (arith, nat_tests)))) (elim (cases_lt h.run CA_DAY_OFF) [
        | inl l ↦ without_at_duty p x h.run s.without r l h.tracked.ends (h.without_is two l)
        | inr l ↦ (let z = h.without_none l in subst (HasWithout (p ++ x ∷ [])) (let y : 1 ≡ min (s.without + 1) WITHOUT_LIMIT = omega arith in y) (without_anew p x h.run r l h.tracked.ends))
      ]);
      without_none = λ m. absurd (omega arith);
      no_without = elim (cases_eq s.cycle CA_CYCLE_2) [
        | inl two ↦ inl two
        | inr other ↦ inr (cond-false (nat_eq s.cycle CA_CYCLE_2) (min (s.without + 1) WITHOUT_LIMIT) 0 (grind (arith, nat_tests)))
      ];
    }
