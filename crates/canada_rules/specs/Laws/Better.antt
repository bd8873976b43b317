-- A state that a history reaches may stand for each one that a history reaches which is plainly worse.
use Rattle.std.proofs.Common.{◌≡◌, ℕ, ◌+◌, ◌-◌, ◌*◌, ◌<◌, ◌≤◌, Bool, true, false, List, [], ◌∷◌, ◌++◌, length, take, drop, sym, ◌∙◌, ap, subst, arith, append_assoc, append-nil, length-append, inl, inr}
use Rattle.std.specs.Prelude.{Contains, count_by}
use Rattle.std.proofs.lemmas.Bool.{cases_lt}
use Rattle.std.proofs.lemmas.Bool.Decides.{nat_tests}
use Rattle.std.proofs.lemmas.List.{take_all}
use Rattle.duty_core.specs.declared.activity.Activity.{Activity}
use Rattle.duty_core.specs.declared.mark.Mark.{Mark}
use Rattle.duty_core.specs.declared.params.RestWay.{RestWay}
use Rattle.duty_core.specs.declared.params.RestWay.TheVariants.{Split, Defer}
use Rattle.duty_core.specs.declared.params.Params.TheVariants.{Canada}
use Rattle.duty_core.specs.declared.limits.TheConstants.{PADDING_MINUTES, DAY_MINUTES}
use Rattle.duty_core.specs.Activity.{drives, works}
use Rattle.duty_core.specs.History.{pad_units, padding, IsTimed}
use Rattle.duty_core.specs.Day.{IsFirstOfDays}
use Rattle.duty_core.specs.Counting.{driving, duty}
use Rattle.duty_core.specs.Marks.{IsSplitAt}
use Rattle.duty_core.specs.Laws.ExistLaws.{padding_before}
use Rattle.duty_core.specs.Laws.UniqueLaws.{first_of_days_unique}
use Rattle.duty_core.specs.PlainlyBetter.{IsDayBetter, IsCaBetter, IsPlainlyBetter}
use Rattle.rule_core.specs.Laws.ReachLaws.{reached_state}
use Rattle.sleeper_split.specs.declared.rule.TheConstants.SplitRule.{CANADA}
use Rattle.sleeper_split.specs.Laws.Growth.{contains_none}
use Rattle.sleeper_split.specs.Laws.MarkedTracks.{tracks_marked}
use Rattle.sleeper_split.specs.Tracks.{Tracks}
use Rattle.sleeper_split.specs.Laws.ExactLaws.{split_tracks}
use Rattle.sleeper_split.specs.Laws.CountryLaws.{canada_rule}
use Rattle.sleeper_split.specs.Laws.BetterLaws.{better_covers}
use Rattle.cycles_deferral.specs.Paths.{begins}
use Rattle.cycles_deferral.specs.DayMachine.{days_begun}
use Rattle.cycles_deferral.specs.DayCovers.{DaysCover}
use Rattle.cycles_deferral.specs.CycleCovers.{CycleCovers}
use Rattle.cycles_deferral.specs.Laws.CountryDays.{ca_day}
use Rattle.cycles_deferral.specs.Laws.BetterLaws.{AreAmong, days_stand_for_worse, cycle_stands_for_worse}
use Rattle.canada_rules.specs.declared.state.DayDuty.{DayDuty}
use Rattle.canada_rules.specs.declared.state.CanadaState.{CanadaState}
use Rattle.canada_rules.specs.Machine.{ca_fits, ca_may, begins_day, day_made, day_begun, day_after, ca_nexts, root_state, IsCanadaState}
use Rattle.canada_rules.specs.Laws.Padding.{units_are, length_padding, place_begins}
use Rattle.canada_rules.specs.Laws.DayGuard.{TracksDay, day_is_guard, tracks_day_root}
use Rattle.rule_core.specs.Laws.Guard.{led}
use Rattle.canada_rules.specs.Laws.Paths.{AreNamed, CaReaches, IsCaPath}
use Rattle.canada_rules.specs.Laws.Exact.{short_history, root_path, path_splits, path_days, path_cycle, path_same}
use Rattle.canada_rules.specs.Laws.States.{root_is_ca_state, next_is_ca_state}
use Rattle.canada_rules.specs.Covers.{covers_state}
use Rattle.canada_rules.specs.Laws.Covers.{DayCovers, state_decides, may_means}

-- # What a path tells

abbrev RootPath : Bool → RestWay → ℕ → ℕ → ℕ → List Activity → List Mark → CanadaState → Type 0
RootPath berth way cycle start first h marks s = IsCaPath (ca_may berth way) way start first (root_state way cycle) first PADDING_MINUTES h marks s

path_among : (way : RestWay) (first : ℕ) (starts : List ℕ) (deferred marks : List Mark) → AreNamed way first starts deferred marks → AreAmong deferred marks
path_among Split first starts deferred marks n m c = absurd (contains_none m (subst (λ l. Contains l m) n.0 c))
path_among Defer first starts deferred marks n m c = subst (λ l. Contains l m) (sym n.1) c

led_day : (berth : Bool) (way : RestWay) (cycle start first : ℕ) (xs p : List Activity) (d : DayDuty) (at : ℕ) → start ≤ DAY_MINUTES → at + PADDING_MINUTES ≡ first + length p → TracksDay start first p d →
    TracksDay start first (p ++ xs) (led (day_after start) d at xs)
led_day berth way cycle start first [] p d at least e t = subst (λ q. TracksDay start first q d) (sym (append-nil p)) t
led_day berth way cycle start first (x ∷ xs) p d at least e t =
    let units = units_are berth way cycle start in
    let n : length (p ++ x ∷ []) ≡ length p + 1 = omega (arith, length-append p (x ∷ [])) in
    subst (λ q. TracksDay start first q (led (day_after start) (day_after start d at x) (at + 1) xs)) (append_assoc p (x ∷ []) xs)
    (led_day berth way cycle start first xs (p ++ x ∷ []) (day_after start d at x) (at + 1) least (omega arith) ((day_is_guard berth way cycle start first least).on p d at x (omega arith) t))

-- # The day

counted : (test : Activity → Bool) (p : List Activity) (from n : ℕ) → count_by test (drop from p) ≡ n → count_by test (drop from (take (length p) p)) ≡ n
counted test p from n e = ap (λ (l : List Activity). count_by test (drop from l)) (take_all (length p) p (omega arith)) ∙ e

day_better : (start first : ℕ) (p q : List Activity) (c d : DayDuty) (at : ℕ) → start ≤ DAY_MINUTES → at + PADDING_MINUTES ≡ first + length p → length p ≡ length q → TracksDay start first p c → TracksDay start first q d →
    IsDayBetter (ca_day start first) p q → DayCovers (day_begun (begins_day start at) c) (day_begun (begins_day start at) d)
day_better start first p q c d at least e long h k better =
    let some = h.some in
    let same = place_begins start first (length p) at least some e in
    elim (cases_lt (ca_day start first (length p - 1)) (ca_day start first (length p))) [
      | inl l ↦ (
          let b : begins_day start at ≡ true = sym same ∙ (let z : begins (ca_day start first) (length p) ≡ true = grind (arith, nat_tests) in z) in
          subst (λ v. DayCovers (day_begun v c) (day_begun v d)) (sym b) (inr (record { driving = omega arith; duty = omega arith })))
      | inr l ↦ (
          let b : begins_day start at ≡ false = sym same ∙ (let z : begins (ca_day start first) (length p) ≡ false = grind (arith, nat_tests) in z) in
          let one : ca_day start first (length p - 1) ≡ ca_day start first (length p) = omega arith in
          let first_of : (f : ℕ) → IsFirstOfDays (ca_day start first) 1 (length p - 1) f → IsFirstOfDays (ca_day start first) 1 (length p) f = (λ f g. record {
            inside = subst (λ n. n < ca_day start first f + 1) one g.inside;
            first = λ j m. g.first j (subst (λ n. n < ca_day start first j + 1) (sym one) m);
          }) in
          let base = first_of h.from h.base in
          let other : IsFirstOfDays (ca_day start first) 1 (length p - 1) k.from = subst (λ n. IsFirstOfDays (ca_day start first) 1 (n - 1) k.from) (sym long) k.base in
          let from : k.from ≡ h.from = first_of_days_unique (ca_day start first) 1 (length p) k.from h.from (first_of k.from other) base in
          let u = better.less_driving h.from base in
          let v = better.less_duty h.from base in
          let du = counted drives p h.from c.driving h.drove in
          let dv = counted works p h.from c.duty h.worked in
          let eu : driving q h.from (length q) ≡ d.driving = subst (λ f. driving q f (length q) ≡ d.driving) from (counted drives q k.from d.driving k.drove) in
          let ev : duty q h.from (length q) ≡ d.duty = subst (λ f. duty q f (length q) ≡ d.duty) from (counted works q k.from d.duty k.worked) in
          subst (λ v. DayCovers (day_begun v c) (day_begun v d)) (sym b) (inr (record { driving = omega arith; duty = omega arith })))
    ]

-- # States

-- what a history reaches is a state
pub state_of_history : (berth : Bool) (way : RestWay) (cycle start first : ℕ) (h : List Activity) (marks : List Mark) (s : CanadaState) → CaReaches (ca_may berth way) start (root_state way cycle) first h marks s →
    IsCanadaState (ca_may berth way) way start s (first + 1 * length h)
state_of_history berth way cycle start first h marks s r =
    let may : Bool = ca_may berth way in
    reached_state 1 (λ u m. IsCanadaState may way start u m) (ca_nexts may start) (λ u m x n i o. next_is_ca_state may way start u m x n i o) h (root_state way cycle) first marks s (root_is_ca_state may way cycle start first) r

other_timed : (berth : Bool) (way : RestWay) (cycle start first : ℕ) (h k : List Activity) → length h ≡ length k → IsTimed (Canada berth way cycle start) first h → IsTimed (Canada berth way cycle start) first k
other_timed berth way cycle start first h k e t = record { begins = t.begins; long = let l = t.long in omega arith; ends = let l = t.ends in omega arith }

path_tracks : (berth : Bool) (way : RestWay) (cycle start first : ℕ) (h : List Activity) (marks : List Mark) (s : CanadaState) → start ≤ DAY_MINUTES → IsTimed (Canada berth way cycle start) first h →
    RootPath berth way cycle start first h marks s → Tracks CANADA (padding (Canada berth way cycle start) ++ h) (IsSplitAt (Canada berth way cycle start) first marks) s.split
path_tracks berth way cycle start first h marks s least timed q =
    let params = Canada berth way cycle start in
    let pads = units_are berth way cycle start in
    let same = path_same berth way cycle start first h marks s least timed q in
    tracks_marked CANADA (padding params ++ h) (Contains q.starts) (IsSplitAt params first marks) s.split (λ a m. same.marks a m) (λ a m. same.back a m)
    (split_tracks CANADA (ca_may berth way) ca_fits (pad_units params) h q.starts s.split canada_rule (omega arith) (short_history berth way cycle start first h timed) (path_splits berth way cycle start first h marks s q))

path_day : (berth : Bool) (way : RestWay) (cycle start first : ℕ) (h : List Activity) (marks : List Mark) (s : CanadaState) → start ≤ DAY_MINUTES →
    RootPath berth way cycle start first h marks s → TracksDay start first (padding (Canada berth way cycle start) ++ h) s.calendar.day
path_day berth way cycle start first h marks s least q =
    let l = length_padding berth way cycle start in
    subst (TracksDay start first (padding (Canada berth way cycle start) ++ h)) (sym q.led_day)
    (led_day berth way cycle start first h (padding (Canada berth way cycle start)) (day_made 0 0) first least (omega arith) (tracks_day_root berth way cycle start first))

pub ca_better_covers : (berth : Bool) (way : RestWay) (cycle start first : ℕ) (h k : List Activity) (marks others : List Mark) (a b : CanadaState) → start ≤ DAY_MINUTES → IsTimed (Canada berth way cycle start) first h →
    IsPlainlyBetter (Canada berth way cycle start) first h marks k others → CaReaches (ca_may berth way) start (root_state way cycle) first h marks a → CaReaches (ca_may berth way) start (root_state way cycle) first k others b →
    covers_state (ca_may berth way) start a b (first + 1 * length h) ≡ true
ca_better_covers berth way cycle start first h k marks others a b least timed g r s =
    let params = Canada berth way cycle start in
    let may : Bool = ca_may berth way in
    let p : List Activity = padding params ++ h in
    let q : List Activity = padding params ++ k in
    let at : ℕ = first + 1 * length h in
    let e = g.same_length in
    let pads = length_padding berth way cycle start in
    let better : IsCaBetter params first p marks q others = g.better in
    let x = root_path berth way cycle start first h marks a least r in
    let y = root_path berth way cycle start first k others b least s in
    let i = state_of_history berth way cycle start first h marks a r in
    let j = state_of_history berth way cycle start first k others b s in
    let lp : length p ≡ PADDING_MINUTES + length h = omega (arith, length-append (padding params) h) in
    let lq : length q ≡ PADDING_MINUTES + length k = omega (arith, length-append (padding params) k) in
    let there : at + PADDING_MINUTES ≡ first + length p = omega arith in
    let long : length p ≡ length q = omega arith in
    let new : begins (ca_day start first) (length p) ≡ begins_day start at = place_begins start first (length p) at least (omega arith) there in
    let days : DaysCover (days_begun (begins (ca_day start first) (length p)) a.calendar.days) (days_begun (begins (ca_day start first) (length p)) b.calendar.days) =
    days_stand_for_worse berth way cycle start first h k x.deferred y.deferred marks others a.calendar.days b.calendar.days
    (path_days way start first h x.deferred a.calendar.days x.days) (path_days way start first k y.deferred b.calendar.days y.days)
    (path_among way first x.starts x.deferred marks x.named) (path_among way first y.starts y.deferred others y.named) e better in
    let counts : CycleCovers (begins (ca_day start first) (length p)) a.calendar.cycle b.calendar.cycle =
    cycle_stands_for_worse berth way cycle start first h k marks others a.calendar.cycle b.calendar.cycle (path_cycle cycle start first h a.calendar.cycle x.cycle) (path_cycle cycle start first k b.calendar.cycle y.cycle) e better in
    (state_decides may start a b at).1 (record {
      split = better_covers CANADA may berth (pad_units params) p (IsSplitAt params first marks) q (IsSplitAt params first others) a.split b.split (may_means berth way) i.split j.split
          (path_tracks berth way cycle start first h marks a least timed x) (path_tracks berth way cycle start first k others b least (other_timed berth way cycle start first h k e timed) y) (padding_before params h) better.shift;
      day = day_better start first p q a.calendar.day b.calendar.day at least there long (path_day berth way cycle start first h marks a least x) (path_day berth way cycle start first k others b least y) better.day;
      days = subst (λ v. DaysCover (days_begun v a.calendar.days) (days_begun v b.calendar.days)) new days;
      cycle = subst (λ v. CycleCovers v a.calendar.cycle b.calendar.cycle) new counts;
    })
