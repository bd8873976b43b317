-- A history with its marks reaches one state, and a unit chooses a mark only where it is first possible.
use Rattle.std.proofs.Common.{◌≡◌, ◌↔◌, ℕ, ◌+◌, ◌-◌, ◌*◌, ◌<◌, ◌≤◌, Bool, true, false, List, [], ◌∷◌, ◌++◌, length, refl, sym, ◌∙◌, ap, subst, arith, length-append, inl, inr}
use Rattle.std.specs.Prelude.{None, Some, replicate, Contains, nat_lt}
use Rattle.std.proofs.lemmas.Bool.Decides.{nat_tests}
use Rattle.std.proofs.lemmas.Bool.{and_parts, cases_lt}
use Rattle.std.proofs.lemmas.List.Elements.{Contains-append_right}
use Rattle.duty_core.specs.declared.activity.Activity.{Activity}
use Rattle.duty_core.specs.declared.activity.Activity.TheVariants.{Off}
use Rattle.duty_core.specs.declared.mark.Mark.{Mark}
use Rattle.duty_core.specs.declared.mark.Mark.TheVariants.{SplitRest}
use Rattle.duty_core.specs.declared.params.RestWay.{RestWay}
use Rattle.duty_core.specs.declared.params.RestWay.TheVariants.{Split, Defer}
use Rattle.duty_core.specs.declared.params.Params.TheVariants.{Canada}
use Rattle.duty_core.specs.declared.limits.TheConstants.{CA_FULL_REST, PADDING_MINUTES, DAY_MINUTES}
use Rattle.duty_core.specs.Activity.{rests}
use Rattle.duty_core.specs.History.{unit_at, pad_units, padding, IsTimed}
use Rattle.duty_core.specs.Laws.HistoryLaws.{unit_at-append, unit_at-replicate, unit_at-after}
use Rattle.duty_core.specs.RestRun.{IsRun}
use Rattle.duty_core.specs.RestRun.{EndsIn}
use Rattle.duty_core.specs.RuleBooks.{KeepsAll}
use Rattle.rule_core.specs.declared.nexts.Next.{Next}
use Rattle.rule_core.specs.Reach.{IsOneOf}
use Rattle.rule_core.specs.Refusal.{IsRefused}
use Rattle.rule_core.specs.Laws.RefusalLaws.{IsSingle, refused_exactly, refused_at_unit}
use Rattle.sleeper_split.specs.declared.rule.TheConstants.SplitRule.{CANADA}
use Rattle.sleeper_split.specs.declared.count.SplitCount.{SplitCount}
use Rattle.sleeper_split.specs.Machine.{fresh_count, run_of, may_split}
use Rattle.sleeper_split.specs.Choices.{Choice, Declares}
use Rattle.sleeper_split.specs.Laws.Growth.{contains_head}
use Rattle.sleeper_split.specs.Laws.ChoiceLaws.{IsChoice, declares_once}
use Rattle.sleeper_split.specs.Tracks.{Tracks}
use Rattle.sleeper_split.specs.Laws.ExactLaws.{split_tracks}
use Rattle.sleeper_split.specs.Laws.CountryLaws.{canada_rule}
use Rattle.cycles_deferral.specs.DayMachine.{fresh_days}
use Rattle.cycles_deferral.specs.CycleMachine.{fresh_cycle}
use Rattle.cycles_deferral.specs.Laws.DaysExact.{days_once}
use Rattle.cycles_deferral.specs.Laws.CycleExact.{cycle_once}
use Rattle.cycles_deferral.specs.Laws.CountryDays.{ca_day}
use Rattle.canada_rules.specs.declared.state.CanadaState.{CanadaState}
use Rattle.canada_rules.specs.Machine.{ca_fits, ca_may, begins_day, ca_date, calendar_made, ca_made, mark_of, ca_nexts, root_state, ca_advances}
use Rattle.canada_rules.specs.Laws.Padding.{ca_minutes, units_are, length_padding}
use Rattle.canada_rules.specs.Laws.CalendarSteps.{after_means, days_way, split_unmarked}
use Rattle.canada_rules.specs.Laws.Paths.{AreNamed, CaReaches, IsCaPath, next_means, ca_choice}
use Rattle.sleeper_split.specs.Laws.Places.{minute_means, HaveMinutes, places_once}
use Rattle.canada_rules.specs.Laws.Exact.{has_rules, short_history, starts_have, root_path, path_splits, path_keeps_splits, is_may, ca_exact}
use Rattle.canada_rules.specs.Laws.Advance.{ca_advances_reach, ca_advances_all}
use Rattle.canada_rules.specs.Laws.Better.{state_of_history}
use Rattle.canada_rules.specs.Book.{ca_book}

-- the places of a path have minutes
path_has : (berth : Bool) (way : RestWay) (cycle start first : ℕ) (h : List Activity) (marks : List Mark) (u : CanadaState) → IsTimed (Canada berth way cycle start) first h →
    (q : IsCaPath (ca_may berth way) way start first (root_state way cycle) first PADDING_MINUTES h marks u) → HaveMinutes first q.starts
path_has berth way cycle start first h marks u timed q = starts_have berth way cycle start first h q.starts (path_keeps_splits berth way cycle start first h marks u timed q).splits

-- one list of marks names one list of places
one_named : (way : RestWay) (first : ℕ) (xs ys : List ℕ) (deferred others marks : List Mark) → AreNamed way first xs deferred marks → AreNamed way first ys others marks → HaveMinutes first xs → HaveMinutes first ys → xs ≡ ys
one_named Split first xs ys deferred others marks h g a b = places_once first xs ys a b (sym h.1 ∙ g.1)
one_named Defer first xs ys deferred others marks h g a b = h.0 ∙ sym g.0

same_state : (s t : CanadaState) → s.split ≡ t.split → s.calendar.day ≡ t.calendar.day → s.calendar.days ≡ t.calendar.days → s.calendar.cycle ≡ t.calendar.cycle → s ≡ t
same_state s t e f g h =
    ap (λ u. ca_made u s.calendar) e
    ∙ (ap (λ v. ca_made t.split (calendar_made v s.calendar.days s.calendar.cycle)) f
    ∙ (ap (λ v. ca_made t.split (calendar_made t.calendar.day v s.calendar.cycle)) g ∙ ap (λ v. ca_made t.split (calendar_made t.calendar.day t.calendar.days v)) h))

pub ca_one : (berth : Bool) (way : RestWay) (cycle start first : ℕ) (h : List Activity) (marks : List Mark) (s t : CanadaState) → start ≤ DAY_MINUTES → IsTimed (Canada berth way cycle start) first h →
    CaReaches (ca_may berth way) start (root_state way cycle) first h marks s → CaReaches (ca_may berth way) start (root_state way cycle) first h marks t → s ≡ t
ca_one berth way cycle start first h marks s t least timed r q =
    let may : Bool = ca_may berth way in
    let a = root_path berth way cycle start first h marks s least r in
    let b = root_path berth way cycle start first h marks t least q in
    let one : a.starts ≡ b.starts =
    one_named way first a.starts b.starts a.deferred b.deferred marks a.named b.named (path_has berth way cycle start first h marks s timed a) (path_has berth way cycle start first h marks t timed b) in
    same_state s t
    (declares_once CANADA may ca_fits fresh_count PADDING_MINUTES h b.starts s.split t.split (omega arith) (subst (λ l. Declares CANADA may ca_fits fresh_count PADDING_MINUTES h l s.split) one a.declares) b.declares)
    (a.led_day ∙ sym b.led_day)
    (days_once (ca_day start first) (fresh_days way) PADDING_MINUTES h a.deferred b.deferred s.calendar.days t.calendar.days a.days b.days).0
    (cycle_once (ca_day start first) (fresh_cycle cycle) PADDING_MINUTES h s.calendar.cycle t.calendar.cycle a.cycle b.cycle)

-- # The mark of a split rest

-- a run in progress has not ended
open_run : (p : List Activity) (n from to run : ℕ) → EndsIn p run → from ≡ length p - run → IsRun (p ++ replicate n Off) from to → ⊥
open_run p n from to run h e r = let l = h.there in let s = r.some in elim (cases_lt to (length p)) [
  | inl k ↦ (let z : true ≡ false = sym (ap rests (unit_at-append p (replicate n Off) to k) ∙ h.rest to (omega arith) k) ∙ r.ended in cc)
  | inr k ↦ (let z : true ≡ false = sym (ap rests (unit_at-after p n to k)) ∙ r.ended in cc)
]

-- a short run in progress begins after the padding
run_after : (berth : Bool) (way : RestWay) (cycle start : ℕ) (h : List Activity) (run : ℕ) → EndsIn (padding (Canada berth way cycle start) ++ h) run → run < PADDING_MINUTES → run ≤ length h
run_after berth way cycle start h run e l = elim (cases_lt (length h) run) [
  | inr m ↦ m
  | inl m ↦
      let pads : List Activity = padding (Canada berth way cycle start) in
      let len = length_padding berth way cycle start in
      let long : length (pads ++ h) ≡ PADDING_MINUTES + length h = omega (arith, length-append pads h) in
      let k : ℕ = length (pads ++ h) - run - 1 in
      let inside : k < length pads = omega arith in
      let rest : rests (unit_at (pads ++ h) k) ≡ true = ap rests (unit_at-append pads h k inside ∙ unit_at-replicate (pad_units (Canada berth way cycle start)) k) in
      absurd (let z : true ≡ false = sym rest ∙ e.starts k (omega arith) in cc)
]

bare : (split : Bool) (start : ℕ) (m : Mark) → split ≡ false → mark_of split start None ≡ Some m → ⊥
bare split start m f e = let z : None ≡ Some m = sym (ap (λ b. mark_of b start None) f) ∙ e in cc

is_marked : (split : Bool) (start : ℕ) (m : Mark) → split ≡ true → mark_of split start None ≡ Some m → m ≡ SplitRest start
is_marked split start m f e = let z : Some (SplitRest start) ≡ Some m = sym (ap (λ b. mark_of b start None) f) ∙ e in cc

below : (a b : ℕ) → nat_lt a b ≡ true → a < b
below a b h = grind (arith, nat_tests)

is_short : (s : SplitCount) → may_split CANADA s ≡ true → run_of s < CA_FULL_REST
is_short s h = below (run_of s) CA_FULL_REST (and_parts _ _ (and_parts _ _ h).1).0

last_in : (marks : List Mark) (m : Mark) → Contains (marks ++ m ∷ []) m
last_in marks m = Contains-append_right marks (m ∷ []) m (contains_head m [])

-- a mark that is chosen is that of a run shorter than a full rest
chosen_split : (may : Bool) (s : SplitCount) (x : Activity) (c : Choice) (start : ℕ) (m : Mark) → IsChoice CANADA may ca_fits s x c → mark_of c.split start None ≡ Some m → (run_of s < CA_FULL_REST) × (m ≡ SplitRest start)
chosen_split may s x c start m k e = elim k [
  | inl r ↦ absurd (bare c.split start m (sym (ap (λ (d : Choice). d.split) r.is)) e)
  | inr l ↦ elim l [
    | inl r ↦ absurd (bare c.split start m (sym (ap (λ (d : Choice). d.split) r.is)) e)
    | inr n ↦ elim n [
      | inl r ↦ (is_short s r.passes, is_marked c.split start m (sym (ap (λ (d : Choice). d.split) r.is)) e)
      | inr r ↦ absurd (bare c.split start m (sym (ap (λ (d : Choice). d.split) r.is)) e)
    ]
  ]
]

split_chosen : (berth : Bool) (cycle start first : ℕ) (h : List Activity) (marks : List Mark) (s : CanadaState) (x : Activity) (n : Next CanadaState) (m : Mark) → start ≤ DAY_MINUTES → IsTimed (Canada berth Split cycle start) first h →
    s.calendar.days.way ≡ Split → CaReaches (ca_may berth Split) start (root_state Split cycle) first h marks s → IsOneOf (ca_nexts (ca_may berth Split) start s (first + 1 * length h) x) n → n.mark ≡ Some m →
    KeepsAll (Canada berth Split cycle start) first h (marks ++ m ∷ []) → ⊥
split_chosen berth cycle start first h marks s x n m least timed way r o e lawful =
    let params = Canada berth Split cycle start in
    let may : Bool = ca_may berth Split in
    let p : List Activity = padding params ++ h in
    let at : ℕ = first + 1 * length h in
    let pads = units_are berth Split cycle start in
    let len = length_padding berth Split cycle start in
    let long : length p ≡ PADDING_MINUTES + length h = omega (arith, length-append (padding params) h) in
    let q = root_path berth Split cycle start first h marks s least r in
    let t : Tracks CANADA p (Contains q.starts) s.split = split_tracks CANADA may ca_fits (pad_units params) h q.starts s.split canada_rule (omega arith) (short_history berth Split cycle start first h timed) (path_splits berth Split cycle start first h marks s q) in
    let k = next_means may start s at x n o in
    let a = after_means start s.calendar at x k.got k.calendar in
    let none : k.got.1 ≡ None = split_unmarked s.calendar.days x (begins_day start at) (ca_date start at) k.got.0.days k.got.1 way a.days in
    let mark : mark_of k.by.split (at - run_of s.split) None ≡ Some m = sym (ap (mark_of k.by.split (at - run_of s.split)) none) ∙ (ap (λ (v : Next CanadaState). v.mark) k.is ∙ e) in
    let c = chosen_split may s.split x k.by (at - run_of s.split) m (ca_choice may s.split x k.by k.chosen) mark in
    let run : run_of s.split ≡ t.run = (elim t.state [ inl f ↦ (let z = f.counted in let y = c.0 in absurd (omega arith)) | inr f ↦ f.counted ]) in
    let pair = (has_rules berth Split cycle start first h (marks ++ m ∷ []) lawful).pair in
    let named = pair.splits (at - run_of s.split) (subst (Contains (marks ++ m ∷ [])) c.1 (last_in marks m)) in
    let minute = minute_means (Canada berth Split cycle start) first (at - run_of s.split) named.from (ca_minutes berth Split cycle start) named.minute in
    let there = t.ends.there in
    let small = c.0 in
    let thereafter = run_after berth Split cycle start h t.run t.ends (omega arith) in
    open_run p (pad_units params) named.from named.run.to t.run t.ends (omega arith) named.run.run

-- # The mark of a deferral

longer : (marks : List Mark) (m : Mark) → marks ≡ marks ++ m ∷ [] → ⊥
longer marks m e = let l : length marks ≡ length (marks ++ m ∷ []) = ap length e in let a = length-append marks (m ∷ []) in omega arith

-- a history has one list of deferrals
defer_chosen : (berth : Bool) (cycle start first : ℕ) (h : List Activity) (marks : List Mark) (s : CanadaState) (m : Mark) → start ≤ DAY_MINUTES → IsTimed (Canada berth Defer cycle start) first h →
    CaReaches (ca_may berth Defer) start (root_state Defer cycle) first h marks s → KeepsAll (Canada berth Defer cycle start) first h (marks ++ m ∷ []) → ⊥
defer_chosen berth cycle start first h marks s m least timed r lawful =
    let w = (ca_exact berth Defer cycle start first h (marks ++ m ∷ []) least timed).1 lawful in
    let a = root_path berth Defer cycle start first h marks s least r in
    let b = root_path berth Defer cycle start first h (marks ++ m ∷ []) w.0 least w.1 in
    let one = days_once (ca_day start first) (fresh_days Defer) PADDING_MINUTES h a.deferred b.deferred s.calendar.days w.0.calendar.days a.days b.days in
    longer marks m (a.named.1 ∙ (one.1 ∙ sym b.named.1))

-- # Both

-- days keep their way along a path
pub root_way : (may : Bool) (way : RestWay) (start first : ℕ) (xs : List Activity) (s : CanadaState) (at : ℕ) (marks : List Mark) (u : CanadaState) → s.calendar.days.way ≡ way → CaReaches may start s at xs marks u → u.calendar.days.way ≡ way
root_way may way start first [] s at marks u w r = sym (ap (λ (v : CanadaState). v.calendar.days.way) r.0) ∙ w
root_way may way start first (x ∷ xs) s at marks u w r =
    let k = next_means may start s at x r.0 r.1 in
    let a = after_means start s.calendar at x k.got k.calendar in
    let here : r.0.state.calendar.days.way ≡ way =
    sym (ap (λ (n : Next CanadaState). n.state.calendar.days.way) k.is) ∙ (days_way s.calendar.days x (begins_day start at) (ca_date start at) k.got.0.days k.got.1 a.days ∙ w) in
    root_way may way start first xs r.0.state (at + 1) r.2 u here r.4

-- with a mark that a unit chooses the history before the unit is not lawful
pub ca_chosen : (berth : Bool) (way : RestWay) (cycle start first : ℕ) (h : List Activity) (marks : List Mark) (s : CanadaState) (x : Activity) (n : Next CanadaState) (m : Mark) → start ≤ DAY_MINUTES → IsTimed (Canada berth way cycle start) first h →
    CaReaches (ca_may berth way) start (root_state way cycle) first h marks s → IsOneOf (ca_nexts (ca_may berth way) start s (first + 1 * length h) x) n → n.mark ≡ Some m →
    KeepsAll (Canada berth way cycle start) first h (marks ++ m ∷ []) → ⊥
ca_chosen berth Split cycle start first h marks s x n m least timed r o e lawful =
    split_chosen berth cycle start first h marks s x n m least timed (root_way (ca_may berth Split) Split start first h (root_state Split cycle) first marks s refl r) r o e lawful
ca_chosen berth Defer cycle start first h marks s x n m least timed r o e lawful = defer_chosen berth cycle start first h marks s m least timed r lawful

pub ca_single : (berth : Bool) (way : RestWay) (cycle start first : ℕ) → start ≤ DAY_MINUTES → IsSingle (Canada berth way cycle start) (ca_book berth way cycle start) first
ca_single berth way cycle start first least = record {
  exact = λ h marks timed. ca_exact berth way cycle start first h marks least timed;
  one = λ h marks s t timed r q. ca_one berth way cycle start first h marks s t least timed r q;
  chosen = λ h marks s x n m timed r o e lawful. ca_chosen berth way cycle start first h marks s x n m least timed r o e lawful;
}

-- A state that a history reaches has no successors exactly where no marks help the unit.
pub ca_refuses : (berth : Bool) (way : RestWay) (cycle start first : ℕ) (h : List Activity) (marks : List Mark) (s : CanadaState) (x : Activity) → start ≤ DAY_MINUTES → IsTimed (Canada berth way cycle start) first (h ++ x ∷ []) →
    CaReaches (ca_may berth way) start (root_state way cycle) first h marks s →
    (ca_nexts (ca_may berth way) start s (first + 1 * length h) x ≡ []) ↔ IsRefused (Canada berth way cycle start) first h marks (x ∷ [])
ca_refuses berth way cycle start first h marks s x least timed r =
    refused_at_unit (Canada berth way cycle start) (ca_book berth way cycle start) first h marks s x (ca_single berth way cycle start first least) timed r

-- Many equal units lead it to nothing exactly where no marks help them.
pub ca_refuses_units : (berth : Bool) (way : RestWay) (cycle start first : ℕ) (h : List Activity) (marks : List Mark) (s : CanadaState) (x : Activity) (n : ℕ) → start ≤ DAY_MINUTES → IsTimed (Canada berth way cycle start) first (h ++ replicate n x) →
    CaReaches (ca_may berth way) start (root_state way cycle) first h marks s →
    (ca_advances (ca_may berth way) start s (first + 1 * length h) x n ≡ []) ↔ IsRefused (Canada berth way cycle start) first h marks (replicate n x)
ca_refuses_units berth way cycle start first h marks s x n least timed r =
    let may : Bool = ca_may berth way in
    let at : ℕ = first + 1 * length h in
    refused_exactly (Canada berth way cycle start) (ca_book berth way cycle start) first h marks s (replicate n x) (λ t. ca_advances may start t at x n) (ca_single berth way cycle start first least)
    (λ earlier t q.
    let i = state_of_history berth way cycle start first h earlier t q in
    record {
      reached = λ v. ca_advances_reach may way start n t at x v (is_may berth way) i;
      all = λ ms u. ca_advances_all may way start n t at x ms u (is_may berth way) i;
    }) timed r
