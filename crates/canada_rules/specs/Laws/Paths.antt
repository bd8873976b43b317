-- A path of the book's machine is a path of the counts of split rests, one of the days, and one of the cycle, that the rules of a day let pass.
use Rattle.std.proofs.Common.{◌≡◌, ℕ, ◌+◌, ◌-◌, ◌≤◌, Bool, true, false, List, [], ◌∷◌, ◌++◌, refl, sym, ◌∙◌, ap, subst, arith, inl, inr}
use Rattle.std.specs.Prelude.{Option, None, Some, map, Contains}
use Rattle.std.specs.Option.{option_to_list}
use Rattle.std.proofs.lemmas.List.{map-append}
use Rattle.duty_core.specs.declared.activity.Activity.{Activity}
use Rattle.duty_core.specs.declared.mark.Mark.{Mark}
use Rattle.duty_core.specs.declared.params.RestWay.{RestWay}
use Rattle.duty_core.specs.declared.params.RestWay.TheVariants.{Split, Defer}
use Rattle.duty_core.specs.declared.limits.TheConstants.{PADDING_MINUTES, DAY_MINUTES}
use Rattle.rule_core.specs.declared.nexts.Next.{Next}
use Rattle.rule_core.specs.Reach.{IsOneOf, Reaches}
use Rattle.rule_core.specs.Laws.OneOf.{one_of-map, one_of_map, contains_of, of_contains}
use Rattle.rule_core.specs.Laws.Guard.{Passes, led}
use Rattle.sleeper_split.specs.declared.rule.TheConstants.SplitRule.{CANADA}
use Rattle.sleeper_split.specs.declared.count.SplitCount.{SplitCount}
use Rattle.sleeper_split.specs.Machine.{run_of}
use Rattle.sleeper_split.specs.Choices.{Choice, choices, declared, Declares}
use Rattle.sleeper_split.specs.Laws.ChoiceLaws.{IsChoice, choice_cases, choice_run}
use Rattle.sleeper_split.specs.Laws.Places.{mark_at, named_choice}
use Rattle.cycles_deferral.specs.declared.days.CanadaDays.{CanadaDays}
use Rattle.cycles_deferral.specs.declared.cycle.CycleCount.{CycleCount}
use Rattle.cycles_deferral.specs.DayMachine.{days_after}
use Rattle.cycles_deferral.specs.CycleMachine.{cycle_after}
use Rattle.cycles_deferral.specs.Paths.{begins, date_of, TakesDays, TakesCycle}
use Rattle.cycles_deferral.specs.Laws.CountryDays.{ca_day}
use Rattle.canada_rules.specs.declared.state.Calendar.{Calendar}
use Rattle.canada_rules.specs.declared.state.CanadaState.{CanadaState}
use Rattle.canada_rules.specs.Machine.{ca_fits, begins_day, ca_date, day_after, day_ok, calendar_made, calendar_after, mark_of, ca_next, nexts_with, ca_nexts}
use Rattle.canada_rules.specs.Laws.Padding.{place_begins, place_date}
use Rattle.canada_rules.specs.Laws.CalendarSteps.{after_means, means_after, days_way, split_unmarked}

-- # Successors

with_means : (o : Option (Calendar × Option Mark)) (start : ℕ) (cs : List Choice) (n : Next CanadaState) → IsOneOf (nexts_with o start cs) n → (r : Calendar × Option Mark) × (o ≡ Some r) × IsOneOf (map (ca_next r start) cs) n
with_means None start cs n h = absurd h
with_means (Some r) start cs n h = (r, refl, h)

-- what a successor comes by
pub record IsCaNext (may : Bool) (start : ℕ) (s : CanadaState) (at : ℕ) (x : Activity) (n : Next CanadaState) : Type 0 where
  pub got : Calendar × Option Mark
  pub calendar : calendar_after start s.calendar at x ≡ Some got
  pub by : Choice
  pub chosen : Contains (choices CANADA may ca_fits s.split x) by
  pub is : ca_next got (at - run_of s.split) by ≡ n

pub next_means : (may : Bool) (start : ℕ) (s : CanadaState) (at : ℕ) (x : Activity) (n : Next CanadaState) → IsOneOf (ca_nexts may start s at x) n → IsCaNext may start s at x n
next_means may start s at x n o =
    let w = with_means (calendar_after start s.calendar at x) (at - run_of s.split) (choices CANADA may ca_fits s.split x) n o in
    let k = one_of-map (ca_next w.0 (at - run_of s.split)) (choices CANADA may ca_fits s.split x) n w.2 in
    record { got = w.0; calendar = w.1; by = k.0; chosen = contains_of (choices CANADA may ca_fits s.split x) k.0 k.1; is = k.2 }

pub means_next : (may : Bool) (start : ℕ) (s : CanadaState) (at : ℕ) (x : Activity) (r : Calendar × Option Mark) (c : Choice) → calendar_after start s.calendar at x ≡ Some r → Contains (choices CANADA may ca_fits s.split x) c →
    IsOneOf (ca_nexts may start s at x) (ca_next r (at - run_of s.split) c)
means_next may start s at x r c e h =
    subst (λ o. IsOneOf (nexts_with o (at - run_of s.split) (choices CANADA may ca_fits s.split x)) (ca_next r (at - run_of s.split) c)) (sym e)
    (one_of_map (ca_next r (at - run_of s.split)) (choices CANADA may ca_fits s.split x) c (of_contains (choices CANADA may ca_fits s.split x) c h))

pub ca_choice : (may : Bool) (s : SplitCount) (x : Activity) (c : Choice) → Contains (choices CANADA may ca_fits s x) c → IsChoice CANADA may ca_fits s x c
ca_choice may s x c h = choice_cases CANADA may ca_fits s x c (omega arith) h

-- where rests may not be split none is declared
pub none_declared : (may : Bool) (s : SplitCount) (x : Activity) (c : Choice) → may ≡ false → IsChoice CANADA may ca_fits s x c → c.split ≡ false
none_declared may s x c never h = elim h [
  | inl r ↦ sym (ap (λ (d : Choice). d.split) r.is)
  | inr k ↦ elim k [
    | inl r ↦ sym (ap (λ (d : Choice). d.split) r.is)
    | inr m ↦ elim m [
      | inl r ↦ absurd (let z : true ≡ false = sym r.allowed ∙ never in cc)
      | inr r ↦ sym (ap (λ (d : Choice). d.split) r.is)
    ]
  ]
]

-- # Marks

-- Under `split` the marks are those of runs that begin at these places, and under `defer` those of deferrals.
abbrev pub AreNamed : RestWay → ℕ → List ℕ → List Mark → List Mark → Type 0
AreNamed Split first starts deferred marks = (deferred ≡ []) × (marks ≡ map (mark_at first) starts)
AreNamed Defer first starts deferred marks = (starts ≡ []) × (marks ≡ deferred)

pub named_same : (way : RestWay) (first : ℕ) (starts : List ℕ) (deferred marks others : List Mark) → AreNamed way first starts deferred marks → AreNamed way first starts deferred others → marks ≡ others
named_same Split first starts deferred marks others h g = h.1 ∙ sym g.1
named_same Defer first starts deferred marks others h g = h.1 ∙ sym g.1

-- one more choice
named_more : (way : RestWay) (first at i run : ℕ) (split : Bool) (m o : Option Mark) (marks later deferred : List Mark) (starts : List ℕ) → at + PADDING_MINUTES ≡ first + i → run ≤ i →
    (way ≡ Split → m ≡ None) → (way ≡ Defer → split ≡ false) → marks ≡ option_to_list o ++ later → o ≡ mark_of split (at - run) m → AreNamed way first starts deferred later →
    AreNamed way first (declared split (i - run) ++ starts) (option_to_list m ++ deferred) marks
named_more Split first at i run split m o marks later deferred starts e l none bare k q n =
    let z : m ≡ None = none refl in (
      ap (λ p. option_to_list p ++ deferred) z ∙ n.0,
      k ∙ (ap (λ p. option_to_list p ++ later) (q ∙ ap (mark_of split (at - run)) z) ∙ (ap (λ ms. ms ++ later) (named_choice split first at i run e l)
          ∙ (ap (λ ms. map (mark_at first) (declared split (i - run)) ++ ms) n.1 ∙ sym (map-append (mark_at first) (declared split (i - run)) starts)))),
    )
named_more Defer first at i run split m o marks later deferred starts e l none bare k q n =
    let z : split ≡ false = bare refl in (
      ap (λ b. declared b (i - run) ++ starts) z ∙ n.0,
      k ∙ (ap (λ p. option_to_list p ++ later) (q ∙ ap (λ b. mark_of b (at - run) m) z) ∙ ap (λ ms. option_to_list m ++ ms) n.1),
    )

-- # Paths

-- Rests may be split only where the tour rests so.
abbrev pub IsMay : Bool → RestWay → Type 0
IsMay may way = way ≡ Defer → may ≡ false

-- what a path of the machine comes by; the first unit stands at place i
pub record IsCaPath (may : Bool) (way : RestWay) (start first : ℕ) (s : CanadaState) (at i : ℕ) (xs : List Activity) (marks : List Mark) (u : CanadaState) : Type 0 where
  pub starts : List ℕ
  pub deferred : List Mark
  pub named : AreNamed way first starts deferred marks
  pub declares : Declares CANADA may ca_fits s.split i xs starts u.split
  pub days : TakesDays (ca_day start first) s.calendar.days i xs deferred u.calendar.days
  pub cycle : TakesCycle (ca_day start first) s.calendar.cycle i xs u.calendar.cycle
  pub day : Passes 1 (day_ok start) (day_after start) s.calendar.day at xs
  pub led_day : u.calendar.day ≡ led (day_after start) s.calendar.day at xs

abbrev pub CaReaches : Bool → ℕ → CanadaState → ℕ → List Activity → List Mark → CanadaState → Type 0
CaReaches may start s at xs marks u = Reaches 1 (ca_nexts may start) s at xs marks u

nothing_named : (way : RestWay) (first : ℕ) (marks : List Mark) → marks ≡ [] → AreNamed way first [] [] marks
nothing_named Split first marks e = (refl, e)
nothing_named Defer first marks e = (refl, e)

pub ca_path : (may : Bool) (way : RestWay) (start first : ℕ) (xs : List Activity) (s : CanadaState) (at i : ℕ) (marks : List Mark) (u : CanadaState) →
    IsMay may way → start ≤ DAY_MINUTES → s.calendar.days.way ≡ way → 1 ≤ i → at + PADDING_MINUTES ≡ first + i → run_of s.split ≤ i →
    CaReaches may start s at xs marks u → IsCaPath may way start first s at i xs marks u
ca_path may way start first [] s at i marks u allowed least w some e l r = record {
  starts = [];
  deferred = [];
  named = nothing_named way first marks r.1;
  declares = (ap (λ (v : CanadaState). v.split) r.0, refl);
  days = (refl, ap (λ (v : CanadaState). v.calendar.days) r.0);
  cycle = ap (λ (v : CanadaState). v.calendar.cycle) r.0;
  day = tt;
  led_day = sym (ap (λ (v : CanadaState). v.calendar.day) r.0);
}
ca_path may way start first (x ∷ xs) s at i marks u allowed least w some e l r =
    let k = next_means may start s at x r.0 r.1 in
    let es : k.by.count ≡ r.0.state.split = ap (λ (n : Next CanadaState). n.state.split) k.is in
    let ec : k.got.0 ≡ r.0.state.calendar = ap (λ (n : Next CanadaState). n.state.calendar) k.is in
    let em : r.0.mark ≡ mark_of k.by.split (at - run_of s.split) k.got.1 = sym (ap (λ (n : Next CanadaState). n.mark) k.is) in
    let a = after_means start s.calendar at x k.got k.calendar in
    let choice = ca_choice may s.split x k.by k.chosen in
    let run : run_of k.by.count ≤ i + 1 = choice_run CANADA may ca_fits s.split x k.by i choice l in
    let w1 : k.got.0.days.way ≡ way = days_way s.calendar.days x (begins_day start at) (ca_date start at) k.got.0.days k.got.1 a.days ∙ w in
    let new : begins (ca_day start first) i ≡ begins_day start at = place_begins start first i at least some e in
    let date : date_of (ca_day start first i) ≡ ca_date start at = place_date start first i at e in
    let q = ca_path may way start first xs r.0.state (at + 1) (i + 1) r.2 u allowed least (subst (λ (c : Calendar). c.days.way ≡ way) ec w1) (omega arith) (omega arith) (subst (λ c. run_of c ≤ i + 1) es run) r.4 in
    record {
      starts = declared k.by.split (i - run_of s.split) ++ q.starts;
      deferred = option_to_list k.got.1 ++ q.deferred;
      named = named_more way first at i (run_of s.split) k.by.split k.got.1 r.0.mark marks r.2 q.deferred q.starts e l
          (λ z. split_unmarked s.calendar.days x (begins_day start at) (ca_date start at) k.got.0.days k.got.1 (w ∙ z) a.days) (λ z. none_declared may s.split x k.by (allowed z) choice) r.3 em q.named;
      declares = (k.by, k.chosen, q.starts, refl, subst (λ c. Declares CANADA may ca_fits c (i + 1) xs q.starts u.split) (sym es) q.declares);
      days = (
        k.got.0.days,
        k.got.1,
        q.deferred,
        ap (λ b. days_after s.calendar.days x b (date_of (ca_day start first i))) new ∙ (ap (days_after s.calendar.days x (begins_day start at)) date ∙ a.days),
        refl,
        subst (λ (c : Calendar). TakesDays (ca_day start first) c.days (i + 1) xs q.deferred u.calendar.days) (sym ec) q.days,
      );
      cycle = (k.got.0.cycle, ap (cycle_after s.calendar.cycle x) new ∙ a.cycle, subst (λ (c : Calendar). TakesCycle (ca_day start first) c.cycle (i + 1) xs u.calendar.cycle) (sym ec) q.cycle);
      day = (a.ok, subst (λ d. Passes 1 (day_ok start) (day_after start) d (at + 1) xs) (ap (λ (c : Calendar). c.day) (sym ec) ∙ a.day) q.day);
      led_day = q.led_day ∙ ap (λ d. led (day_after start) d (at + 1) xs) (ap (λ (c : Calendar). c.day) (sym ec) ∙ a.day);
    }

-- a path that parts come to
pub record IsJoined (may : Bool) (way : RestWay) (start first : ℕ) (s : CanadaState) (at : ℕ) (xs : List Activity) (starts : List ℕ) (deferred : List Mark) : Type 0 where
  pub state : CanadaState
  pub marks : List Mark
  pub reached : CaReaches may start s at xs marks state
  pub named : AreNamed way first starts deferred marks

pub path_ca : (may : Bool) (way : RestWay) (start first : ℕ) (xs : List Activity) (s : CanadaState) (at i : ℕ) (starts : List ℕ) (deferred : List Mark) (t : SplitCount) (d : CanadaDays) (c : CycleCount) →
    IsMay may way → start ≤ DAY_MINUTES → s.calendar.days.way ≡ way → 1 ≤ i → at + PADDING_MINUTES ≡ first + i → run_of s.split ≤ i →
    Declares CANADA may ca_fits s.split i xs starts t → TakesDays (ca_day start first) s.calendar.days i xs deferred d → TakesCycle (ca_day start first) s.calendar.cycle i xs c →
    Passes 1 (day_ok start) (day_after start) s.calendar.day at xs → IsJoined may way start first s at xs starts deferred
path_ca may way start first [] s at i starts deferred t d c allowed least w some e l p q r b = record {
  state = s;
  marks = [];
  reached = (refl, refl);
  named = subst (λ ks. AreNamed way first ks deferred []) (sym p.1) (subst (λ ms. AreNamed way first [] ms []) (sym q.0) (nothing_named way first [] refl));
}
path_ca may way start first (x ∷ xs) s at i starts deferred t d c allowed least w some e l p q r b =
    let k : Choice = p.0 in
    let new : begins (ca_day start first) i ≡ begins_day start at = place_begins start first i at least some e in
    let date : date_of (ca_day start first i) ≡ ca_date start at = place_date start first i at e in
    let days : days_after s.calendar.days x (begins_day start at) (ca_date start at) ≡ Some (q.0, q.1) =
    sym (ap (λ b. days_after s.calendar.days x b (date_of (ca_day start first i))) new ∙ ap (days_after s.calendar.days x (begins_day start at)) date) ∙ q.3 in
    let cycle : cycle_after s.calendar.cycle x (begins_day start at) ≡ Some r.0 = sym (ap (cycle_after s.calendar.cycle x) new) ∙ r.1 in
    let got : Calendar × Option Mark = (calendar_made (day_after start s.calendar.day at x) q.0 r.0, q.1) in
    let after = means_after start s.calendar at x q.0 q.1 r.0 b.0 days cycle in
    let n : Next CanadaState = ca_next got (at - run_of s.split) k in
    let choice = ca_choice may s.split x k p.1 in
    let run : run_of k.count ≤ i + 1 = choice_run CANADA may ca_fits s.split x k i choice l in
    let w1 : q.0.way ≡ way = days_way s.calendar.days x (begins_day start at) (ca_date start at) q.0 q.1 days ∙ w in
    let more = path_ca may way start first xs n.state (at + 1) (i + 1) p.2 q.2 t d c allowed least w1 (omega arith) (omega arith) run p.4 q.5 r.2 b.1 in
    let named : AreNamed way first (declared k.split (i - run_of s.split) ++ p.2) (option_to_list q.1 ++ q.2) (option_to_list n.mark ++ more.marks) =
    named_more way first at i (run_of s.split) k.split q.1 n.mark (option_to_list n.mark ++ more.marks) more.marks q.2 p.2 e l
    (λ z. split_unmarked s.calendar.days x (begins_day start at) (ca_date start at) q.0 q.1 (w ∙ z) days) (λ z. none_declared may s.split x k (allowed z) choice) refl refl more.named in
    record {
      state = more.state;
      marks = option_to_list n.mark ++ more.marks;
      reached = (n, means_next may start s at x got k after p.1, more.marks, refl, more.reached);
      named = subst (λ ks. AreNamed way first ks deferred (option_to_list n.mark ++ more.marks)) (sym p.3)
          (subst (λ ms. AreNamed way first (declared k.split (i - run_of s.split) ++ p.2) ms (option_to_list n.mark ++ more.marks)) (sym q.4) named);
    }
