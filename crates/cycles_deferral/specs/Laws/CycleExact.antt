-- The counts of a cycle take a history exactly where each minute of driving keeps the rules of the cycle and of the fortnight.
use Rattle.std.proofs.Common.{◌≡◌, ◌↔◌, ℕ, ◌+◌, ◌-◌, ◌<◌, ◌≤◌, ◌⊎◌, min, Bool, true, false, cond, ◌&&◌, List, [], ◌∷◌, ◌++◌, length, refl, sym, ◌∙◌, ap, subst, arith, append_assoc, append-nil, inl, inr}
use Rattle.std.specs.Prelude.{nat_eq, nat_lt, nat_le, Option, None, Some, replicate, sum}
use Rattle.std.proofs.lemmas.Bool.{cases_eq, cases_Bool, cond-true, cond-false}
use Rattle.std.proofs.lemmas.Bool.Decides.{nat_tests}
use Rattle.std.proofs.lemmas.List.{take_all, length-replicate}
use Rattle.duty_core.specs.declared.activity.Activity.{Activity}
use Rattle.duty_core.specs.declared.activity.Activity.TheVariants.{Drive, Serve, Wait, Off, Berth}
use Rattle.duty_core.specs.declared.limits.TheConstants.{CA_CYCLE_2, CA_DAY_OFF, CA_WITHOUT_DAY_OFF_LIMIT}
use Rattle.duty_core.specs.Activity.{rests, drives}
use Rattle.duty_core.specs.Laws.HistoryLaws.{unit_at-last, not_driving, IsRule, holds_more, holds_before, holds_after, holds_padding}
use Rattle.duty_core.specs.Laws.RunLaws.{ends_padding, run_inside}
use Rattle.duty_core.specs.Counting.{duty, IsLastEnd, IsDaysBase}
use Rattle.duty_core.specs.Laws.UniqueLaws.{last_end_unique}
use Rattle.duty_core.specs.Laws.RuleLaws.{ca_24in14_is_rule, ca_cycle_is_rule, ca_70without24_is_rule}
use Rattle.duty_core.specs.PlainlyBetter.{IsLastDayOff}
use Rattle.duty_core.specs.CaCycle.{MeetsCa24in14, cycle_days, cycle_reset, cycle_limit, MeetsCaCycle, MeetsCa70without24}
use Rattle.day_sums.specs.Sums.{first_days}
use Rattle.day_sums.specs.Counted.{IsDutyOfDays}
use Rattle.day_sums.specs.Laws.Counted.{tracks_start, duty_is}
use Rattle.cycles_deferral.specs.declared.cycle.TheConstants.{SINCE_LIMIT, WITHOUT_LIMIT}
use Rattle.cycles_deferral.specs.declared.cycle.CycleCount.{CycleCount}
use Rattle.cycles_deferral.specs.CycleMachine.{fresh_cycle, cycle_rested, cycle_worked, keeps_day_off, keeps_cycle, cycle_ok, cycle_after}
use Rattle.cycles_deferral.specs.Paths.{ca_pads, ca_padding, ca_padded, AreDays, begins, TakesCycle}
use Rattle.cycles_deferral.specs.Laws.LostSteps.{length_more, rest_front, rest_less}
use Rattle.cycles_deferral.specs.Counts.{HasWithout, Counts}
use Rattle.cycles_deferral.specs.Laws.Counts.{reset_long, reset_few, days_some, counts_rested, counts_worked}
use Rattle.cycles_deferral.specs.Laws.DaysExact.{pads_long, length_padding}

-- # The rules of a cycle, at a place

abbrev pub KeepsCycle : ℕ → (ℕ → ℕ) → List Activity → ℕ → Type 0
KeepsCycle cycle day p i = MeetsCa24in14 p i × MeetsCaCycle cycle day p i × MeetsCa70without24 cycle p i

pub cycle_is_rule : (cycle : ℕ) (day : ℕ → ℕ) → IsRule (KeepsCycle cycle day)
cycle_is_rule cycle day = record {
  local = λ p q n i g l h. (ca_24in14_is_rule.local p q n i g l h.0, (ca_cycle_is_rule cycle day).local p q n i g l h.1, (ca_70without24_is_rule cycle).local p q n i g l h.2);
  idle = λ p i r. (ca_24in14_is_rule.idle p i r, (ca_cycle_is_rule cycle day).idle p i r, (ca_70without24_is_rule cycle).idle p i r);
}

-- # At a minute of driving

-- the fortnight before it holds a day off
day_off_sound : (p : List Activity) (e since : ℕ) → IsLastDayOff p e → since ≡ min (length p - e) SINCE_LIMIT → nat_lt since SINCE_LIMIT ≡ true → MeetsCa24in14 (p ++ Drive ∷ []) (length p)
day_off_sound p e since h s ok d =
    let l : since < SINCE_LIMIT = grind (arith, nat_tests) in
    let t = h.there in
    let i = h.before in
    record {
      at = e - CA_DAY_OFF;
      after = omega arith;
      before = omega arith;
      rest = λ k a b. rest_front p Drive k (omega arith) ∙ h.rest k a (omega arith);
    }

day_off_complete : (p : List Activity) (e since : ℕ) → IsLastDayOff p e → since ≡ min (length p - e) SINCE_LIMIT → MeetsCa24in14 (p ++ Drive ∷ []) (length p) → nat_lt since SINCE_LIMIT ≡ true
day_off_complete p e since h s g =
    let r = g (unit_at-last p Drive) in
    let a = r.after in
    let b = r.before in
    let t = h.there in
    let i = h.before in
    let c = h.last (r.at + CA_DAY_OFF) (omega arith) (λ k x y. rest_less p Drive k (r.rest k (omega arith) y)) b in
    let l : since < SINCE_LIMIT = omega arith in
    grind (arith, nat_tests)

-- the duty of the days of the cycle is the sum
record HasSum (cycle : ℕ) (day : ℕ → ℕ) (q : List Activity) (i w : ℕ) : Type 0 where
  from : ℕ
  base : IsDaysBase day (cycle_days cycle) (cycle_reset cycle) q i from
  all : (f : ℕ) → IsDaysBase day (cycle_days cycle) (cycle_reset cycle) q i f → duty q f (i + 1) ≡ w

has_sum : (day : ℕ → ℕ) (p : List Activity) (x : Activity) (t : CycleCount) → Counts day (p ++ x ∷ []) t → t.rest ≡ 0 → HasSum t.cycle day (p ++ x ∷ []) (length p) (sum t.sums)
has_sum day p x t k z =
    let q : List Activity = p ++ x ∷ [] in
    let days : ℕ = cycle_days t.cycle in
    let reset : ℕ = cycle_reset t.cycle in
    let long = reset_long t.cycle in
    let some = days_some t.cycle in
    let n = k.days_counted in
    let c = k.capped in
    let len = length_more p x in
    let d : IsDutyOfDays day days reset q (first_days days t.sums) = k.tracked.sums_are (omega arith) days some (omega arith) in
    let whole : first_days days t.sums ≡ sum t.sums = ap sum (take_all days t.sums (omega arith)) in
    let last : length q - 1 ≡ length p = omega arith in
    let end : length q ≡ length p + 1 = omega arith in
    record {
      from = d.from;
      base = subst (λ i. IsDaysBase day days reset q i d.from) last d.base;
      all = λ f b. subst (λ j. duty q f j ≡ sum t.sums) end (duty_is day reset q days f (first_days days t.sums) d (subst (λ i. IsDaysBase day days reset q i f) (sym last) b) ∙ whole);
    }

-- a last end at the last place is one at the end
end_at : (p : List Activity) (x : Activity) (to : ℕ) → IsLastEnd CA_DAY_OFF (p ++ x ∷ []) (length p) to → IsLastEnd CA_DAY_OFF (p ++ x ∷ []) (length (p ++ x ∷ [])) to
end_at p x to h =
    let n = length_more p x in
    let b = h.before in
    record { from = h.from; rest = h.rest; before = omega arith; last = λ a c g l. let i = run_inside (p ++ x ∷ []) a c g.run in h.last a c g (omega arith) }

end_back : (p : List Activity) (x : Activity) (to : ℕ) → IsLastEnd CA_DAY_OFF (p ++ x ∷ []) (length (p ++ x ∷ [])) to → IsLastEnd CA_DAY_OFF (p ++ x ∷ []) (length p) to
end_back p x to h =
    let n = length_more p x in
    let i = run_inside (p ++ x ∷ []) h.from to h.rest.run in
    record { from = h.from; rest = h.rest; before = omega arith; last = λ a c g l. h.last a c g (omega arith) }

without_sound : (p : List Activity) (x : Activity) (w : ℕ) → HasWithout (p ++ x ∷ []) w → w ≤ CA_WITHOUT_DAY_OFF_LIMIT → (from : ℕ) → IsLastEnd CA_DAY_OFF (p ++ x ∷ []) (length p) from → duty (p ++ x ∷ []) from (length p + 1) ≤ CA_WITHOUT_DAY_OFF_LIMIT
without_sound p x w h l from b =
    let q : List Activity = p ++ x ∷ [] in
    let same : from ≡ h.to = last_end_unique CA_DAY_OFF q (length q) from h.to (end_at p x from b) h.last in
    let n = length_more p x in
    let c = h.count in
    let e : duty q from (length p + 1) ≡ duty q h.to (length q) = ap (λ f. duty q f (length p + 1)) same ∙ ap (duty q h.to) (let z : length p + 1 ≡ length q = omega arith in z) in
    omega arith

without_complete : (p : List Activity) (x : Activity) (w : ℕ) → HasWithout (p ++ x ∷ []) w → ((from : ℕ) → IsLastEnd CA_DAY_OFF (p ++ x ∷ []) (length p) from → duty (p ++ x ∷ []) from (length p + 1) ≤ CA_WITHOUT_DAY_OFF_LIMIT) → w ≤ CA_WITHOUT_DAY_OFF_LIMIT
without_complete p x w h g =
    let q : List Activity = p ++ x ∷ [] in
    let n = length_more p x in
    let c = h.count in
    let a = g h.to (end_back p x h.to h.last) in
    let e : duty q h.to (length p + 1) ≡ duty q h.to (length q) = ap (duty q h.to) (let z : length p + 1 ≡ length q = omega arith in z) in
    omega arith

without_of : (day : ℕ → ℕ) (q : List Activity) (t : CycleCount) → Counts day q t → t.rest ≡ 0 → t.cycle ≡ CA_CYCLE_2 → HasWithout q t.without
without_of day q t k z two = let long = reset_long t.cycle in let c = k.capped in k.without_is two (omega arith)

-- in the other cycle nothing is counted
none_without : (s : CycleCount) (new : Bool) → (s.cycle ≡ CA_CYCLE_2 → ⊥) → (cycle_worked s new).without ≡ 0
none_without s new no_two = cond-false (nat_eq s.cycle CA_CYCLE_2) (min (s.without + 1) WITHOUT_LIMIT) 0 (grind (arith, nat_tests))

-- the test of a minute of driving, of plain numbers
driving_means : (since total limit without : ℕ) → (nat_lt since SINCE_LIMIT && (nat_le total limit && nat_le without CA_WITHOUT_DAY_OFF_LIMIT)) ≡ true →
    (nat_lt since SINCE_LIMIT ≡ true) × (total ≤ limit) × (without ≤ CA_WITHOUT_DAY_OFF_LIMIT)
driving_means since total limit without ok = (grind (arith, nat_tests), grind (arith, nat_tests), grind (arith, nat_tests))

driving_sound : (day : ℕ → ℕ) → AreDays day → (p : List Activity) (s : CycleCount) → Counts day p s → (keeps_day_off s && keeps_cycle (cycle_worked s (begins day (length p)))) ≡ true → KeepsCycle s.cycle day (p ++ Drive ∷ []) (length p)
driving_sound day days p s h ok =
    let t : CycleCount = cycle_worked s (begins day (length p)) in
    let k : Counts day (p ++ Drive ∷ []) t = counts_worked day days p Drive s refl h in
    let m = driving_means s.since (sum t.sums) (cycle_limit s.cycle) t.without ok in
    let b = m.1 in
    let w = has_sum day p Drive t k refl in (
      day_off_sound p h.day_off s.since h.is_day_off h.since_is m.0,
      (λ d from e. let z = w.all from e in omega arith),
      (λ two d from e. without_sound p Drive t.without (without_of day (p ++ Drive ∷ []) t k refl two) m.2 from e),
    )

both_true : (a b : Bool) → a ≡ true → b ≡ true → (a && b) ≡ true
both_true a b x y = grind (arith, nat_tests)

upto_true : (a b : ℕ) → a ≤ b → nat_le a b ≡ true
upto_true a b l = grind (arith, nat_tests)

driving_complete : (day : ℕ → ℕ) → AreDays day → (p : List Activity) (s : CycleCount) → Counts day p s → KeepsCycle s.cycle day (p ++ Drive ∷ []) (length p) → (keeps_day_off s && keeps_cycle (cycle_worked s (begins day (length p)))) ≡ true
driving_complete day days p s h g =
    let q : List Activity = p ++ Drive ∷ [] in
    let t : CycleCount = cycle_worked s (begins day (length p)) in
    let k : Counts day q t = counts_worked day days p Drive s refl h in
    let d = unit_at-last p Drive in
    let w = has_sum day p Drive t k refl in
    let z = w.all w.from w.base in
    let l = g.1 d w.from w.base in
    let m : t.without ≤ CA_WITHOUT_DAY_OFF_LIMIT = elim (cases_eq s.cycle CA_CYCLE_2) [
      | inl two ↦ without_complete p Drive t.without (without_of day q t k refl two) (g.2 two d)
      | inr other ↦ (let y = none_without s (begins day (length p)) other in omega arith)
    ] in
    both_true (keeps_day_off s) (keeps_cycle t) (day_off_complete p h.day_off s.since h.is_day_off h.since_is g.0)
    (both_true (nat_le (sum t.sums) (cycle_limit s.cycle)) (nat_le t.without CA_WITHOUT_DAY_OFF_LIMIT) (upto_true (sum t.sums) (cycle_limit s.cycle) (omega arith)) (upto_true t.without CA_WITHOUT_DAY_OFF_LIMIT m))

-- # At any minute

idle_keeps : (cycle : ℕ) (day : ℕ → ℕ) (p : List Activity) (x : Activity) → drives x ≡ false → KeepsCycle cycle day (p ++ x ∷ []) (length p)
idle_keeps cycle day p x e = ((λ d. absurd (not_driving p x e d)), (λ d. absurd (not_driving p x e d)), (λ two d. absurd (not_driving p x e d)))

-- the test of a minute of duty says exactly that the rules hold at it
ok_sound : (day : ℕ → ℕ) → AreDays day → (p : List Activity) (x : Activity) (s : CycleCount) → Counts day p s → cycle_ok s x (begins day (length p)) ≡ true → KeepsCycle s.cycle day (p ++ x ∷ []) (length p)
ok_sound day days p Drive s h ok = driving_sound day days p s h ok
ok_sound day days p Serve s h ok = idle_keeps s.cycle day p Serve refl
ok_sound day days p Wait s h ok = idle_keeps s.cycle day p Wait refl
ok_sound day days p Off s h ok = idle_keeps s.cycle day p Off refl
ok_sound day days p Berth s h ok = idle_keeps s.cycle day p Berth refl

ok_complete : (day : ℕ → ℕ) → AreDays day → (p : List Activity) (x : Activity) (s : CycleCount) → Counts day p s → KeepsCycle s.cycle day (p ++ x ∷ []) (length p) → cycle_ok s x (begins day (length p)) ≡ true
ok_complete day days p Drive s h g = driving_complete day days p s h g
ok_complete day days p Serve s h g = refl
ok_complete day days p Wait s h g = refl
ok_complete day days p Off s h g = refl
ok_complete day days p Berth s h g = refl

rest_keeps : (cycle : ℕ) (day : ℕ → ℕ) (p : List Activity) (x : Activity) → rests x ≡ true → KeepsCycle cycle day (p ++ x ∷ []) (length p)
rest_keeps cycle day p x r = (cycle_is_rule cycle day).idle (p ++ x ∷ []) (length p) (ap rests (unit_at-last p x) ∙ r)

-- # One more minute

-- the counts go on, and the history keeps the rules so far
pub record CycleGoesOn (day : ℕ → ℕ) (p : List Activity) (x : Activity) (cycle : ℕ) (got : Option CycleCount) : Type 0 where
  pub counts : CycleCount
  pub is : got ≡ Some counts
  pub counted : Counts day (p ++ x ∷ []) counts
  pub same_cycle : counts.cycle ≡ cycle
  pub lawful : (i : ℕ) → KeepsCycle cycle day (p ++ x ∷ []) i

-- or there are none, and the rules are broken at the minute
pub cycle_step : (day : ℕ → ℕ) → AreDays day → (p : List Activity) (x : Activity) (s : CycleCount) → Counts day p s → ((i : ℕ) → KeepsCycle s.cycle day p i) →
    CycleGoesOn day p x s.cycle (cycle_after s x (begins day (length p))) ⊎ ((cycle_after s x (begins day (length p)) ≡ None) × (KeepsCycle s.cycle day (p ++ x ∷ []) (length p) → ⊥))
cycle_step day days p x s h old =
    let new : Bool = begins day (length p) in
    let rested : Option CycleCount = Some (cycle_rested s new) in
    let worked : Option CycleCount = cond (cycle_ok s x new) (Some (cycle_worked s new)) None in
    let rule = cycle_is_rule s.cycle day in
    elim (cases_Bool (rests x)) [
      | inl r ↦ inl (record {
        counts = cycle_rested s new;
        is = cond-true (rests x) rested worked r;
        counted = counts_rested day days p x s r h;
        same_cycle = refl;
        lawful = holds_more (KeepsCycle s.cycle day) p x rule old (rest_keeps s.cycle day p x r);
      })
      | inr r ↦ (
          let e : cycle_after s x new ≡ worked = cond-false (rests x) rested worked r in
          elim (cases_Bool (cycle_ok s x new)) [
            | inl ok ↦ inl (record {
              counts = cycle_worked s new;
              is = e ∙ cond-true (cycle_ok s x new) (Some (cycle_worked s new)) None ok;
              counted = counts_worked day days p x s r h;
              same_cycle = refl;
              lawful = holds_more (KeepsCycle s.cycle day) p x rule old (ok_sound day days p x s h ok);
            })
            | inr no_ok ↦ inr (
              e ∙ cond-false (cycle_ok s x new) (Some (cycle_worked s new)) None no_ok,
              λ g. let z : true ≡ false = sym (ok_complete day days p x s h g) ∙ no_ok in absurd (let z = z in cc),
            )
          ])
    ]

-- # Paths

-- where a path leads
pub record CycleLeads (day : ℕ → ℕ) (cycle : ℕ) (q : List Activity) (t : CycleCount) : Type 0 where
  pub counted : Counts day q t
  pub same_cycle : t.cycle ≡ cycle
  pub lawful : (i : ℕ) → KeepsCycle cycle day q i

some_same : (a b : CycleCount) (o : Option CycleCount) → o ≡ Some a → o ≡ Some b → a ≡ b
some_same a b o h k = cc

none_some : (a : CycleCount) (o : Option CycleCount) → o ≡ None → o ≡ Some a → ⊥
none_some a o h k = cc

pub cycle_sound : (day : ℕ → ℕ) → AreDays day → (cycle : ℕ) (xs p : List Activity) (n : ℕ) (s t : CycleCount) → n ≡ length p → CycleLeads day cycle p s → TakesCycle day s n xs t → CycleLeads day cycle (p ++ xs) t
cycle_sound day days cycle [] p n s t e h r = subst (λ q. CycleLeads day cycle q t) (sym (append-nil p)) (subst (CycleLeads day cycle p) r h)
cycle_sound day days cycle (x ∷ xs) p n s t e h r =
    let is : cycle_after s x (begins day (length p)) ≡ Some r.0 = ap (λ i. cycle_after s x (begins day i)) (sym e) ∙ r.1 in
    elim (cycle_step day days p x s h.counted (subst (λ c. (i : ℕ) → KeepsCycle c day p i) (sym h.same_cycle) h.lawful)) [
      | inl g ↦ (
          let q = some_same g.counts r.0 (cycle_after s x (begins day (length p))) g.is is in
          let k : CycleLeads day cycle (p ++ x ∷ []) r.0 = subst (CycleLeads day cycle (p ++ x ∷ [])) q (record {
            counted = g.counted;
            same_cycle = g.same_cycle ∙ h.same_cycle;
            lawful = subst (λ c. (i : ℕ) → KeepsCycle c day (p ++ x ∷ []) i) h.same_cycle g.lawful;
          }) in
          subst (λ v. CycleLeads day cycle v t) (append_assoc p (x ∷ []) xs) (cycle_sound day days cycle xs (p ++ x ∷ []) (n + 1) r.0 t (let z = length_more p x in omega arith) k r.2))
      | inr g ↦ absurd (none_some r.0 (cycle_after s x (begins day (length p))) g.0 is)
    ]

pub cycle_complete : (day : ℕ → ℕ) → AreDays day → (cycle : ℕ) (xs p : List Activity) (n : ℕ) (s : CycleCount) → n ≡ length p → CycleLeads day cycle p s → ((i : ℕ) → KeepsCycle cycle day (p ++ xs) i) →
    (t : CycleCount) × TakesCycle day s n xs t
cycle_complete day days cycle [] p n s e h k = (s, refl)
cycle_complete day days cycle (x ∷ xs) p n s e h k =
    let v = p ++ x ∷ [] in
    let kv : (i : ℕ) → KeepsCycle cycle day (v ++ xs) i = subst (λ q. (i : ℕ) → KeepsCycle cycle day q i) (sym (append_assoc p (x ∷ []) xs)) k in
    elim (cycle_step day days p x s h.counted (subst (λ c. (i : ℕ) → KeepsCycle c day p i) (sym h.same_cycle) h.lawful)) [
      | inl g ↦ (
          let l : CycleLeads day cycle v g.counts = record {
            counted = g.counted;
            same_cycle = g.same_cycle ∙ h.same_cycle;
            lawful = subst (λ c. (i : ℕ) → KeepsCycle c day v i) h.same_cycle g.lawful;
          } in
          let q = cycle_complete day days cycle xs v (n + 1) g.counts (let z = length_more p x in omega arith) l kv in
          (q.0, (g.counts, ap (λ i. cycle_after s x (begins day i)) e ∙ g.is, q.1)))
      | inr g ↦ absurd (g.1 (subst (λ c. KeepsCycle c day v (length p)) (sym h.same_cycle) (holds_before (KeepsCycle cycle day) v xs (cycle_is_rule cycle day) kv (length p))))
    ]

-- # The rest before a history

pub leads_fresh : (day : ℕ → ℕ) (cycle : ℕ) → CycleLeads day cycle ca_padding (fresh_cycle cycle)
leads_fresh day cycle =
    let l = pads_long in
    let n : length ca_padding ≡ ca_pads = length_padding in
    let few = reset_few cycle in
    let ends = ends_padding ca_pads in
    record {
      counted = record {
        run = ca_pads;
        tracked = tracks_start day (cycle_reset cycle) ca_pads ca_padding (replicate (cycle_days cycle) 0) (omega arith) (omega arith) ends (ap (λ m. replicate m 0) (sym (length-replicate (cycle_days cycle) 0)));
        capped = omega arith;
        days_counted = length-replicate (cycle_days cycle) 0;
        day_off = length ca_padding;
        is_day_off = record { there = omega arith; before = omega arith; rest = λ k a b. ends.rest k (omega arith) b; last = λ c a g b. b };
        since_is = omega arith;
        without_is = λ two m. absurd (omega arith);
        without_none = λ m. refl;
        no_without = inr refl;
      };
      same_cycle = refl;
      lawful = holds_padding (KeepsCycle cycle day) ca_pads (cycle_is_rule cycle day);
    }

-- what the counts say at the end of a path
pub cycle_leads : (day : ℕ → ℕ) → AreDays day → (cycle : ℕ) (h : List Activity) (t : CycleCount) → TakesCycle day (fresh_cycle cycle) ca_pads h t → CycleLeads day cycle (ca_padding ++ h) t
cycle_leads day days cycle h t r = cycle_sound day days cycle h ca_padding ca_pads (fresh_cycle cycle) t (sym length_padding) (leads_fresh day cycle) r

-- The counts take a history exactly where, rest before and after it, each minute of driving keeps CA-24IN14, CA-CYCLE and CA-70WITHOUT24.
pub cycle_exact : (day : ℕ → ℕ) → AreDays day → (cycle : ℕ) (h : List Activity) →
    ((t : CycleCount) × TakesCycle day (fresh_cycle cycle) ca_pads h t)
    ↔ ((i : ℕ) → MeetsCa24in14 (ca_padded h) i × MeetsCaCycle cycle day (ca_padded h) i × MeetsCa70without24 cycle (ca_padded h) i)
cycle_exact day days cycle h = (
  (λ r. holds_after (KeepsCycle cycle day) (ca_padding ++ h) ca_pads (cycle_is_rule cycle day) (cycle_leads day days cycle h r.0 r.1).lawful),
  (λ k. cycle_complete day days cycle h ca_padding ca_pads (fresh_cycle cycle) (sym length_padding) (leads_fresh day cycle)
      (holds_before (KeepsCycle cycle day) (ca_padding ++ h) ca_padding (cycle_is_rule cycle day) k)),
)

-- # One path, and its fronts

-- the minutes of a history lead to one value
pub cycle_once : (day : ℕ → ℕ) (s : CycleCount) (n : ℕ) (xs : List Activity) (t u : CycleCount) → TakesCycle day s n xs t → TakesCycle day s n xs u → t ≡ u
cycle_once day s n [] t u h g = sym h ∙ g
cycle_once day s n (x ∷ xs) t u h g =
    let e = some_same h.0 g.0 (cycle_after s x (begins day n)) h.1 g.1 in
    cycle_once day g.0 (n + 1) xs t u (subst (λ v. TakesCycle day v (n + 1) xs t) e h.2) g.2

-- the front of a path is a path, and so is the rest
pub cycle_front : (day : ℕ → ℕ) (s : CycleCount) (n : ℕ) (xs ys : List Activity) (t : CycleCount) → TakesCycle day s n (xs ++ ys) t → (u : CycleCount) × TakesCycle day s n xs u × TakesCycle day u (n + length xs) ys t
cycle_front day s n [] ys t h = (s, refl, subst (λ i. TakesCycle day s i ys t) (let z : n ≡ n + 0 = omega arith in z) h)
cycle_front day s n (x ∷ xs) ys t h =
    let k = cycle_front day h.0 (n + 1) xs ys t h.2 in
    (k.0, (h.0, h.1, k.1), subst (λ i. TakesCycle day k.0 i ys t) (let z : n + 1 + length xs ≡ n + length (x ∷ xs) = omega arith in z) k.2)

-- and two such parts are a path
pub cycle_join : (day : ℕ → ℕ) (s : CycleCount) (n : ℕ) (xs ys : List Activity) (u t : CycleCount) → TakesCycle day s n xs u → TakesCycle day u (n + length xs) ys t → TakesCycle day s n (xs ++ ys) t
cycle_join day s n [] ys u t h g = subst (λ v. TakesCycle day v n ys t) (sym h) (subst (λ i. TakesCycle day u i ys t) (let z : n + 0 ≡ n = omega arith in z) g)
cycle_join day s n (x ∷ xs) ys u t h g = (h.0, h.1, cycle_join day h.0 (n + 1) xs ys u t h.2 (subst (λ i. TakesCycle day u i ys t) (let z : n + length (x ∷ xs) ≡ n + 1 + length xs = omega arith in z) g))
