-- A state that a history reaches covers each state that a plainly worse history reaches.
use Rattle.std.proofs.Common.{◌≡◌, ℕ, ◌+◌, ◌-◌, ◌*◌, ◌<◌, ◌≤◌, true, false, List, [], ◌∷◌, ◌++◌, length, min, sym, ◌∙◌, ap, subst, arith, length-append, append_assoc, append-nil, inl, inr}
use Rattle.std.specs.Prelude.{Some}
use Rattle.std.proofs.lemmas.Bool.{cases_lt, and_parts}
use Rattle.std.proofs.lemmas.Bool.Decides.{nat_tests}
use Rattle.std.proofs.lemmas.List.{length-replicate}
use Rattle.duty_core.specs.declared.activity.Activity.{Activity}
use Rattle.duty_core.specs.declared.activity.Activity.TheVariants.{Off}
use Rattle.duty_core.specs.declared.mark.Mark.{Mark}
use Rattle.duty_core.specs.declared.params.Params.TheVariants.{Hvnl}
use Rattle.duty_core.specs.declared.limits.TheConstants.{DAY_MINUTES, AU_7D_REST, AU_14D_PERIOD, AU_NIGHT_BEFORE, AU_NIGHT_AFTER}
use Rattle.duty_core.specs.Params.{unit_minutes}
use Rattle.duty_core.specs.Activity.{works}
use Rattle.duty_core.specs.History.{pad_units, padding, unit_at, IsTimed}
use Rattle.duty_core.specs.Laws.HistoryLaws.{unit_at-past, unit_at-replicate}
use Rattle.duty_core.specs.RestRun.{EndsIn}
use Rattle.duty_core.specs.Laws.RunLaws.{ends_padding, ends_rest, ends_duty}
use Rattle.duty_core.specs.AuNights.{IsNightOf}
use Rattle.duty_core.specs.PlainlyBetter.{IsAuBetter, IsPlainlyBetter}
use Rattle.allowance.specs.declared.limit.Limit.{Limit}
use Rattle.allowance.specs.Allow.{may_spend, implies}
use Rattle.allowance.specs.Laws.AllowLaws.{rests-works}
use Rattle.rule_core.specs.Reach.{IsOneOf}
use Rattle.hvnl_rules.specs.declared.state.HvnlState.{HvnlState}
use Rattle.hvnl_rules.specs.Laws.Ended.{Rests}
use Rattle.hvnl_rules.specs.Counted.{begun, at_most}
use Rattle.hvnl_rules.specs.Nights.{minutes, begins_in, ends_in, nights_ok, pushed}
use Rattle.hvnl_rules.specs.Laws.Dates.{IsMinuteAt, date_midnight}
use Rattle.hvnl_rules.specs.Machine.{root_state, hvnl_step}
use Rattle.hvnl_rules.specs.Laws.Exact.{TracksBook, HvnlReaches, book_start, book_rest, book_duty, minute_on}
use Rattle.hvnl_rules.specs.Laws.Steps.{next_means, step_cases}
use Rattle.hvnl_rules.specs.Covers.{covers_state}
use Rattle.hvnl_rules.specs.Laws.Covers.{IsCovered, covers_means, implies_means, implies_from, gives_from}
use Rattle.hvnl_rules.specs.Laws.Stands.{one_held, Stands, stands_rest, stands_duty}

-- The run in progress as the rules of the books tell it.
pub record Ends (p : List Activity) : Type 0 where
  pub run : ℕ
  pub ends : EndsIn p run

-- what a path leads to
pub record IsLed (first : ℕ) (p : List Activity) (s : HvnlState) : Type 0 where
  pub tracks : TracksBook first p s
  pub stands : Stands p s.held
  pub ends : Ends p

led_on : (first units at : ℕ) (p : List Activity) (x : Activity) (s t : HvnlState) → first ≡ 15 * units → IsMinuteAt first (length p) at → IsLed first p s → hvnl_step s at x ≡ Some t → IsLed first (p ++ x ∷ []) t
led_on first units at p x s t f e l h = elim (step_cases s at x t h) [
  | inl c ↦ subst (IsLed first (p ++ x ∷ [])) c.2 (record {
    tracks = book_duty first units at p x s f c.0 e c.1 l.tracks;
    stands = stands_duty p x s.held c.0 ((and_parts (may_spend (begun s.held)) (nights_ok (at + minutes 1) (pushed at s.held.run s.nights)) c.1).0) l.tracks.counted l.stands;
    ends = record { run = 0; ends = ends_duty p x (rests-works x true c.0) };
  })
  | inr c ↦ subst (IsLed first (p ++ x ∷ [])) c.1 (record {
    tracks = book_rest first units at p x s f c.0 e l.tracks;
    stands = stands_rest p x s.held c.0 l.tracks.counted l.stands;
    ends = record { run = l.ends.run + 1; ends = ends_rest p x l.ends.run (rests-works x false c.0) l.ends.ends };
  })
]

path_led : (first units at : ℕ) (p xs : List Activity) (s : HvnlState) (marks : List Mark) (u : HvnlState) → first ≡ 15 * units → IsMinuteAt first (length p) at → IsLed first p s → HvnlReaches s at xs marks u → IsLed first (p ++ xs) u
path_led first units at p [] s marks u f e l r = subst (λ q. IsLed first q u) (sym (append-nil p)) (subst (IsLed first p) r.0 l)
path_led first units at p (x ∷ xs) s marks u f e l r =
    let m = next_means s at x r.0 r.1 in
    subst (λ q. IsLed first q u) (append_assoc p (x ∷ []) xs)
    (path_led first units (at + unit_minutes Hvnl) (p ++ x ∷ []) xs r.0.state r.2 u f (minute_on first at p x e) (led_on first units at p x s r.0.state f e l m.0) r.4)

no_duty_yet : (i : ℕ) → works (unit_at (padding Hvnl) i) ≡ true → ⊥
no_duty_yet i w = let z : false ≡ true = sym (elim (cases_lt i (length (padding Hvnl))) [ inl l ↦ ap works (unit_at-replicate (pad_units Hvnl) i) | inr l ↦ ap works (unit_at-past (padding Hvnl) i l) ]) ∙ w in absurd (cc)

led_start : (first : ℕ) → IsLed first (padding Hvnl) root_state
led_start first = record {
  tracks = book_start first;
  stands = record {
    limits = record { only = λ q o. absurd o; each = λ u d o. absurd (no_duty_yet o.start o.period.starts.works_there) };
    needs = record { only = λ n o. absurd o; each = λ rest left o. absurd (no_duty_yet o.start o.period.starts.works_there) };
  };
  ends = record { run = pad_units Hvnl; ends = ends_padding (pad_units Hvnl) };
}

pub reached_led : (first : ℕ) (h : List Activity) (marks : List Mark) (s : HvnlState) → IsTimed Hvnl first h → HvnlReaches root_state first h marks s → IsLed first (padding Hvnl ++ h) s
reached_led first h marks s timed r = path_led first timed.begins.units first (padding Hvnl) h root_state marks s timed.begins.whole (omega (arith, length-replicate (pad_units Hvnl) Off)) (led_start first) r

-- the state tells the run in progress, up to the longest rest that a rule looks at
run_told : (p : List Activity) (run n : ℕ) → Rests AU_7D_REST p run → EndsIn p n → run ≡ min n AU_7D_REST
run_told p run n r e =
    let few = r.few in
    let there = e.there in
    elim (cases_lt n AU_7D_REST) [
      | inr l ↦
          let a = (r.tells AU_7D_REST (omega arith)).1 (record { there = omega arith; rest = λ k i j. e.rest k (omega arith) j }) in
          omega arith
      | inl l ↦
          let a = (r.tells n (omega arith)).1 (record { there = omega arith; rest = λ k i j. e.rest k i j }) in
          elim (cases_lt n run) [
            | inr b ↦ omega arith
            | inl b ↦
                let g = (r.tells (n + 1) (omega arith)).0 (omega arith) in
                let t = g.there in
                absurd (let z : true ≡ false = sym (g.rest (length p - (n + 1)) (omega arith) (omega arith)) ∙ e.starts (length p - (n + 1)) (omega arith) in cc)
          ]
    ]

-- # Plainly better

module _ (first : ℕ) (p q : List Activity) (a b : HvnlState) (same : length p ≡ length q) (l : IsLed first p a) (m : IsLed first q b) (g : IsAuBetter first p q) where
  run_same : a.held.run ≡ b.held.run
  run_same =
      let x = run_told p a.held.run l.ends.run l.tracks.counted.rested l.ends.ends in
      let y = run_told q b.held.run m.ends.run m.tracks.counted.rested m.ends.ends in
      elim (g.run l.ends.run m.ends.run l.ends.ends m.ends.ends) [ inl e ↦ omega arith | inr e ↦ (let u = e.0 in let v = e.1 in omega arith) ]

  limit_given : (r : Limit) → r.duty < r.units → IsOneOf a.held.limits r → (k : Limit) × IsOneOf b.held.limits k × (implies k r ≡ true)
  limit_given r open_r o =
      let f = g.limits (record { units = r.units; duty = r.duty }) (l.stands.limits.only r o) in
      let i = f.2 in
      elim (m.stands.limits.each f.0.units f.0.duty (record { kind = f.1.kind; of_book = f.1.of_book; start = f.1.start; period = f.1.period; duty_left = f.1.duty_left })) [
        | inl c ↦ absurd (omega arith)
        | inr k ↦ (let j = implies_means k.0 (at_most f.0.units f.0.duty) k.2 in (k.0, k.1, implies_from k.0 r (omega arith)))
      ]

  start_there : (s : ℕ) → IsOneOf a.nights.starts s → IsOneOf b.nights.starts s
  start_there s o =
      let i = l.tracks.nights.each_start s o in
      let r = i.1.running in
      let n = g.nights i.0 i.1.long r in
      m.tracks.nights.all_starts i.0 s (record { long = n.other; minute = i.1.minute; running = omega arith })

  date_there : (d s : ℕ) → IsOneOf b.nights.dates d → IsOneOf a.nights.starts s → begins_in d s ≡ true → ends_in d s ≡ true → IsOneOf a.nights.dates d
  date_there d s o t x y =
      let i = l.tracks.nights.each_start s t in
      let e = i.1.minute in
      let n = g.nights i.0 i.1.long i.1.running in
      let k = m.tracks.nights.each_date d o in
      let at = k.1.at in
      let begins : s + minutes AU_NIGHT_BEFORE ≤ DAY_MINUTES * d = grind (arith, nat_tests) in
      let ends : DAY_MINUTES * d + minutes AU_NIGHT_AFTER ≤ s + minutes AU_14D_PERIOD = grind (arith, nat_tests) in
      let night : IsNightOf first i.0 AU_14D_PERIOD k.0 = record { midnight = date_midnight first k.0 d at; begins = omega arith; ends = omega arith } in
      l.tracks.nights.all_dates k.0 d i.0 s (record { at = at; broken = n.breaks k.0 night k.1.broken }) i.1 night

  better_covered : (at : ℕ) → IsCovered a b at
  better_covered at = record {
    held = record {
      run = inl (inl run_same);
      limits = λ r o. limit_given r (one_held a.held.limits r l.tracks.counted.held.limits o) o;
      needs = λ n o.
          let w = g.needs n.rest n.units (l.stands.needs.only n o) in
          let k = m.stands.needs.each n.rest w.0 w.2 in
          let u = w.1 in
          let v = k.3 in
          (k.0, k.1, inl (gives_from k.0 n k.2 (omega arith)));
    };
    nights = λ s o. inr (
      s,
      start_there s o,
      record {
        last = omega arith;
        first = omega arith;
        nights = λ d t x. (let c = and_parts (begins_in d s) (ends_in d s) x in (x, date_there d s t o c.0 c.1));
      },
    );
  }

-- Each state that h reaches covers each state that k reaches, where h is plainly better than k.
pub hvnl_better_covers : (first : ℕ) (h : List Activity) (marks : List Mark) (k : List Activity) (others : List Mark) (a b : HvnlState) (at : ℕ) → IsTimed Hvnl first h → IsTimed Hvnl first k →
    IsPlainlyBetter Hvnl first h marks k others → HvnlReaches root_state first h marks a → HvnlReaches root_state first k others b → covers_state a b at ≡ true
hvnl_better_covers first h marks k others a b at t u g r q =
    let len = g.same_length in
    (covers_means a b at).1 (better_covered first (padding Hvnl ++ h) (padding Hvnl ++ k) a b (omega (arith, length-append (padding Hvnl) h, length-append (padding Hvnl) k)) (reached_led first h marks a t r) (reached_led first k others b u q) g.better at)
