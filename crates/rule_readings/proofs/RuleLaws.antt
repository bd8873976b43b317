-- A rule that is kept has its values within its limit, and a rule that is asked at places is kept where they are.
use Rattle.std.proofs.Common.{◌≡◌, ℕ, ◌+◌, ◌*◌, ◌<◌, ◌≤◌, Bool, true, false, List, length, max, refl, sym, ap, subst, arith, inl, inr, zero, suc, eq-eqb}
use Rattle.std.specs.Prelude.{nat_eq, if◌then◌else◌}
use Rattle.std.proofs.lemmas.Bool.{cases_lt, cases_Bool, eqb-true}
use Rattle.duty_core.specs.declared.activity.Activity.{Activity}
use Rattle.duty_core.specs.declared.mark.Mark.{Mark}
use Rattle.duty_core.specs.declared.params.Params.TheVariants.{Hvnl}
use Rattle.duty_core.specs.declared.rule.Rule.{Rule}
use Rattle.duty_core.specs.declared.rule.Rule.TheVariants.{UsWindow14, UsDrive11, UsBreak8, UsWeek, UsPair, CaDay13, CaDay14, CaShift13, CaShift14, CaElapsed16, CaOff10, CaDefer, CaPair, Ca24in14, CaCycle, Ca70without24, Au5h30, Au8h, Au11h, Au24h, Au24hRest, Au7d, Au7dRest, Au14d, Au14dNights}
use Rattle.duty_core.specs.declared.limits.TheConstants.{CA_BOTH_LOST_LIMIT, CA_CYCLE_2, CA_DAY_OFF, CA_WITHOUT_DAY_OFF_LIMIT, AU_14D_NIGHTS}
use Rattle.duty_core.specs.Activity.{rests}
use Rattle.duty_core.specs.Params.{unit_minutes}
use Rattle.duty_core.specs.History.{unit_at}
use Rattle.duty_core.specs.Stretch.{HoldsRest}
use Rattle.duty_core.specs.Counting.{duty}
use Rattle.duty_core.specs.Day.{day_number}
use Rattle.duty_core.specs.LostMinutes.{lost}
use Rattle.duty_core.specs.AuPeriods.{IsStart}
use Rattle.duty_core.specs.Laws.FrontLaws.{day_has_number}
use Rattle.duty_core.specs.Laws.HistoryLaws.{unit_at-past}
use Rattle.duty_core.specs.Laws.PrefixLaws.{no_duty}
use Rattle.duty_core.specs.Marks.{IsSplitAt}
use Rattle.duty_core.specs.RuleBooks.{KeepsPadded, cycle_of}
use Rattle.rule_readings.specs.declared.measure.Amount.{Amount}
use Rattle.rule_readings.specs.declared.measure.Amount.TheVariants.{Duty}
use Rattle.rule_readings.specs.declared.measure.Since.{Since}
use Rattle.rule_readings.specs.declared.measure.Since.TheVariants.{Rest}
use Rattle.rule_readings.specs.declared.measure.Measure.{Measure}
use Rattle.rule_readings.specs.declared.measure.Measure.TheVariants.{Nothing, AtDriving}
use Rattle.rule_readings.specs.declared.scope.Scope.{Scope}
use Rattle.rule_readings.specs.Asked.{asked_of, order_of}
use Rattle.rule_readings.specs.Best.{IsNoBetter}
use Rattle.rule_readings.specs.CaHistory.{IsPadded}
use Rattle.rule_readings.specs.Values.{IsIn, IsPeriod, IsPeriodDuty, IsPeriodRest, IsMeasured, IsValue, MeetsAsked, IsAskedAtPlaces, IsWhole}
use Rattle.rule_readings.proofs.AuRest.{IsLongestYet, longest_none, longest_rest_more, longest_duty_more}
use Rattle.rule_readings.proofs.CountLaws.{AreCountsWithin, counts_kept, counts_back}
use Rattle.rule_readings.proofs.DayOff.{day_off_back, day_off_from, day_off_there}

-- # Counts at units of driving

-- what is counted of the scope's history
abbrev AreWithin : Amount → Since → Scope → List Activity → List Mark → ℕ → Type 0
AreWithin amount since s p marks limit = AreCountsWithin amount since (day_number s.params s.first) p (IsSplitAt s.params s.first marks) limit

kept : (amount : Amount) (since : Since) (limit : ℕ) (s : Scope) (p : List Activity) (marks : List Mark) (i n : ℕ) → AreWithin amount since s p marks limit → IsMeasured (AtDriving amount since) s p marks i n → n ≤ limit
kept amount since limit s p marks i n k g = counts_kept amount since (day_number s.params s.first) p (IsSplitAt s.params s.first marks) limit s.planned i n k g

-- each place is one of the scope's schedule
abbrev pub IsAll : Scope → List Activity → Type 0
IsAll s p = (i : ℕ) → i < length p → IsIn s.planned i

pub whole_is_all : (s : Scope) (p : List Activity) → IsWhole s p → IsAll s p
whole_is_all s p w = λ i l. subst (λ span. IsIn span i) (sym w.planned) (record { from = omega arith; to = l })

-- each value is within the limit
abbrev AreMet : Measure → ℕ → Scope → List Activity → List Mark → Type 0
AreMet measure limit s p marks = (i n : ℕ) → IsMeasured measure s p marks i n → IsNoBetter (order_of measure) limit n

met : (amount : Amount) (since : Since) (limit : ℕ) (s : Scope) (p : List Activity) (marks : List Mark) → IsAll s p → AreMet (AtDriving amount since) limit s p marks → AreWithin amount since s p marks limit
met amount since limit s p marks all h = counts_back amount since (day_number s.params s.first) p (IsSplitAt s.params s.first marks) limit s.planned all h

-- # In cycle 2

abbrev second : Bool → Measure
second cycle_2 = if cycle_2 then AtDriving Duty (Rest CA_DAY_OFF) else Nothing

second_kept : (limit : ℕ) (s : Scope) (p : List Activity) (marks : List Mark) (cycle_2 : Bool) (i n : ℕ) → (cycle_2 ≡ true → AreWithin Duty (Rest CA_DAY_OFF) s p marks limit) → IsMeasured (second cycle_2) s p marks i n →
    IsNoBetter (order_of (second cycle_2)) limit n
second_kept limit s p marks true i n k g = kept Duty (Rest CA_DAY_OFF) limit s p marks i n (k refl) g
second_kept limit s p marks false i n k g = absurd g

-- # Counted periods

pub start_inside : (rested : ℕ) (p : List Activity) (i : ℕ) → IsStart rested p i → i < length p
start_inside rested p i s = elim (cases_lt i (length p)) [ inl l ↦ l | inr l ↦ absurd (no_duty (unit_at p i) (ap rests (unit_at-past p i l)) s.works_there) ]

period_there : (s : Scope) (rested units : ℕ) (p : List Activity) (i : ℕ) → IsAll s p → 0 < units → IsStart rested p i → IsPeriod s.planned rested units p i
period_there s rested units p i all some t = record { start = t; planned = record { place = i; inside = all i (start_inside rested p i t); after = omega arith; before = omega arith } }

duty_kept : (s : Scope) (rested units quarters : ℕ) (p : List Activity) (i n : ℕ) → (IsStart rested p i → duty p i (i + units) ≤ quarters) → IsPeriodDuty s.planned rested units p i n → n ≤ unit_minutes Hvnl * quarters
duty_kept s rested units quarters p i n k g = let l = k g.period.start in let e = g.counted in omega arith

duty_met : (s : Scope) (rested units quarters : ℕ) (p : List Activity) → IsAll s p → 0 < units → ((i n : ℕ) → IsPeriodDuty s.planned rested units p i n → n ≤ unit_minutes Hvnl * quarters) →
    (i : ℕ) → IsStart rested p i → duty p i (i + units) ≤ quarters
duty_met s rested units quarters p all some h i t =
    let l = h i (unit_minutes Hvnl * duty p i (i + units)) (record { period = period_there s rested units p i all some t; counted = refl }) in
    omega arith

-- there is a longest stretch of rest
longest_there : (p : List Activity) (from units : ℕ) → (run : ℕ) × (most : ℕ) × IsLongestYet p from (from + units) run most
longest_there p from zero = (0, 0, subst (λ to. IsLongestYet p from to 0 0) (omega arith) (longest_none p from))
longest_there p from (suc units) =
    let y = longest_there p from units in
    let to = from + units in
    let e : to + 1 ≡ from + suc units = omega arith in
    elim (cases_Bool (rests (unit_at p to))) [
      | inl r ↦ (y.0 + 1, max y.1 (y.0 + 1), subst (λ end. IsLongestYet p from end (y.0 + 1) (max y.1 (y.0 + 1))) e (longest_rest_more p from to y.0 y.1 (y.0 + 1) (max y.1 (y.0 + 1)) r refl refl y.2))
      | inr r ↦ (0, max y.1 0, subst (λ end. IsLongestYet p from end 0 (max y.1 0)) e (longest_duty_more p from to y.0 y.1 0 (max y.1 0) r refl refl y.2))
    ]

rest_kept : (s : Scope) (rested units quarters : ℕ) (p : List Activity) (i n : ℕ) → (IsStart rested p i → HoldsRest quarters p i (i + units)) → IsPeriodRest s.planned rested units p i n → unit_minutes Hvnl * quarters ≤ n
rest_kept s rested units quarters p i n k g = let l = g.longest.longest quarters (k g.period.start) in let e = g.counted in omega arith

rest_met : (s : Scope) (rested units quarters : ℕ) (p : List Activity) → IsAll s p → 0 < units → ((i n : ℕ) → IsPeriodRest s.planned rested units p i n → unit_minutes Hvnl * quarters ≤ n) →
    (i : ℕ) → IsStart rested p i → HoldsRest quarters p i (i + units)
rest_met s rested units quarters p all some h i t =
    let y = longest_there p i units in
    let most = y.1 in
    let l = h i (unit_minutes Hvnl * most) (record { period = period_there s rested units p i all some t; rest = most; longest = y.2.longest; counted = refl }) in
    let b = y.2.longest.held.before in
    record { at = y.2.longest.held.at; after = y.2.longest.held.after; before = omega arith; rest = λ k x z. y.2.longest.held.rest k x (omega arith) }

-- # Rules

pub kept_within : (s : Scope) (p : List Activity) (marks : List Mark) (rule : Rule) (i n : ℕ) → KeepsPadded s.params s.first p marks rule → IsValue s p marks rule i n → MeetsAsked (asked_of s.params rule) n
kept_within s p marks UsWindow14 i n k g = kept _ _ _ s p marks i n k g
kept_within s p marks UsDrive11 i n k g = kept _ _ _ s p marks i n k g
kept_within s p marks UsBreak8 i n k g = kept _ _ _ s p marks i n (λ j d f u c. k j d f c.0) g
kept_within s p marks UsWeek i n k g = kept _ _ _ s p marks i n (λ j d f u c. k j d f c.0) g
kept_within s p marks UsPair i n k g = (let l = (k.pairs g.to_next i g.to g.from_next g.split g.next).sum in let e = g.sum in omega arith)
kept_within s p marks CaDay13 i n k g = kept _ _ _ s p marks i n (λ j d f u c. k j d f c.0) g
kept_within s p marks CaDay14 i n k g = kept _ _ _ s p marks i n (λ j d f u c. k j d f c.0) g
kept_within s p marks CaShift13 i n k g = kept _ _ _ s p marks i n k g
kept_within s p marks CaShift14 i n k g = kept _ _ _ s p marks i n k g
kept_within s p marks CaElapsed16 i n k g = kept _ _ _ s p marks i n k g
kept_within s p marks CaOff10 i n k g = elim (k (day_number s.params s.first i)) [ inl d ↦ absurd (g.free d) | inr l ↦ (let e = g.counted in omega arith) ]
kept_within s p marks CaDefer i n k g = (
    let day = day_number s.params s.first in
    let d = k g.deferred.day g.deferred.marked in
    let e = day_has_number g.deferred.day d.number (day i) d.numbered g.deferred.numbered in
    let l : lost day p (day i) + lost day p (day i + 1) ≤ CA_BOTH_LOST_LIMIT = subst (λ j. lost day p j + lost day p (j + 1) ≤ CA_BOTH_LOST_LIMIT) e d.defers.both in
    let c = g.counted in
    omega arith)
kept_within s p marks CaPair i n k g = (let l = (k.pairs g.to_next i g.to g.from_next g.split g.next).sum in let e = g.sum in omega arith)
kept_within s p marks Ca24in14 i n k g = kept _ _ _ s p marks i n (λ j d f u c. let l = day_off_back p j f d c.0 (k j d) in let e = c.1 in omega arith) g
kept_within s p marks CaCycle i n k g = kept _ _ _ s p marks i n (λ j d f u c. k j d f c.0) g
kept_within s p marks Ca70without24 i n k g = second_kept CA_WITHOUT_DAY_OFF_LIMIT s p marks (nat_eq (cycle_of s.params) CA_CYCLE_2) i n (λ e j d f u c. k j (eqb-true (cycle_of s.params) CA_CYCLE_2 e) d f c.0) g
kept_within s p marks Au5h30 i n k g = duty_kept s _ _ _ p i n (k i) g
kept_within s p marks Au8h i n k g = duty_kept s _ _ _ p i n (k i) g
kept_within s p marks Au11h i n k g = duty_kept s _ _ _ p i n (k i) g
kept_within s p marks Au24h i n k g = duty_kept s _ _ _ p i n (k i) g
kept_within s p marks Au24hRest i n k g = rest_kept s _ _ _ p i n (k i) g
kept_within s p marks Au7d i n k g = duty_kept s _ _ _ p i n (k i) g
kept_within s p marks Au7dRest i n k g = rest_kept s _ _ _ p i n (k i) g
kept_within s p marks Au14d i n k g = duty_kept s _ _ _ p i n (k i) g
kept_within s p marks Au14dNights i n k g = g.most AU_14D_NIGHTS (k i g.period.start).0

pub within_keeps : (s : Scope) (p : List Activity) (marks : List Mark) (rule : Rule) → IsPadded s.params p → IsAskedAtPlaces rule → IsAll s p → ((i n : ℕ) → IsValue s p marks rule i n → MeetsAsked (asked_of s.params rule) n) →
    KeepsPadded s.params s.first p marks rule
within_keeps s p marks UsWindow14 w y all h = met _ _ _ s p marks all h
within_keeps s p marks UsDrive11 w y all h = met _ _ _ s p marks all h
within_keeps s p marks UsBreak8 w y all h = λ i d f c. met _ _ _ s p marks all h i d f 0 (c, refl)
within_keeps s p marks UsWeek w y all h = λ i d f c. met _ _ _ s p marks all h i d f 0 (c, refl)
within_keeps s p marks CaDay13 w y all h = λ i d f c. met _ _ _ s p marks all h i d f 0 (c, refl)
within_keeps s p marks CaDay14 w y all h = λ i d f c. met _ _ _ s p marks all h i d f 0 (c, refl)
within_keeps s p marks CaShift13 w y all h = met _ _ _ s p marks all h
within_keeps s p marks CaShift14 w y all h = met _ _ _ s p marks all h
within_keeps s p marks CaElapsed16 w y all h = met _ _ _ s p marks all h
within_keeps s p marks Ca24in14 w y all h = λ i d. (
    let e = day_off_there s.params p w i d in
    let b = e.1.before in
    let l = met _ _ _ s p marks all h i d e.0 0 (e.1, refl) in
    day_off_from p i e.0 e.1 (omega arith))
within_keeps s p marks CaCycle w y all h = λ i d f c. met _ _ _ s p marks all h i d f 0 (c, refl)
within_keeps s p marks Ca70without24 w y all h = λ i two d f c. (
    let is : nat_eq (cycle_of s.params) CA_CYCLE_2 ≡ true = eq-eqb (cycle_of s.params) CA_CYCLE_2 two in
    let g : AreMet (second true) CA_WITHOUT_DAY_OFF_LIMIT s p marks = subst (λ b. AreMet (second b) CA_WITHOUT_DAY_OFF_LIMIT s p marks) is h in
    met _ _ _ s p marks all g i d f 0 (c, refl))
within_keeps s p marks Au5h30 w y all h = duty_met s _ _ _ p all (omega arith) h
within_keeps s p marks Au8h w y all h = duty_met s _ _ _ p all (omega arith) h
within_keeps s p marks Au11h w y all h = duty_met s _ _ _ p all (omega arith) h
within_keeps s p marks Au24h w y all h = duty_met s _ _ _ p all (omega arith) h
within_keeps s p marks Au24hRest w y all h = rest_met s _ _ _ p all (omega arith) h
within_keeps s p marks Au7d w y all h = duty_met s _ _ _ p all (omega arith) h
within_keeps s p marks Au7dRest w y all h = rest_met s _ _ _ p all (omega arith) h
within_keeps s p marks Au14d w y all h = duty_met s _ _ _ p all (omega arith) h
within_keeps s p marks _ w y all h = absurd y

-- a rule that is none of these is asked at places
pub asked_at_places : (rule : Rule) → (rule ≡ UsPair → ⊥) → (rule ≡ CaOff10 → ⊥) → (rule ≡ CaDefer → ⊥) → (rule ≡ CaPair → ⊥) → (rule ≡ Au14dNights → ⊥) → IsAskedAtPlaces rule
asked_at_places UsPair a b c d e = a refl
asked_at_places CaOff10 a b c d e = b refl
asked_at_places CaDefer a b c d e = c refl
asked_at_places CaPair a b c d e = d refl
asked_at_places Au14dNights a b c d e = e refl
asked_at_places _ a b c d e = tt
