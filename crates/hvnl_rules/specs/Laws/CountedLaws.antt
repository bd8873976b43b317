-- One more unit of the counted periods.
use Rattle.std.proofs.Common.{◌≡◌, ◌↔◌, ℕ, ◌+◌, ◌-◌, ◌<◌, ◌≤◌, Bool, true, false, cond, List, [], ◌∷◌, ◌++◌, length, refl, sym, ◌∙◌, ap, subst, arith, append_assoc, append-nil, ◌⊎◌, inl, inr}
use Rattle.std.specs.Prelude.{min, map, All, nat_le, count_by, take}
use Rattle.std.proofs.Math.Seq.{get_or-append_seam, drop-append_seam}
use Rattle.std.proofs.lemmas.Bool.{cases_lt}
use Rattle.std.proofs.lemmas.Bool.Decides.{nat_tests}
use Rattle.std.proofs.lemmas.List.{drop-take, length-replicate, get_or-append-add}
use Rattle.std.proofs.lemmas.List.Elements.{All-nil, All-cons, All-head, All-tail, All-push, All-map, All-filter}
use Rattle.std.specs.List.{list_any}
use Rattle.duty_core.specs.declared.activity.Activity.{Activity}
use Rattle.duty_core.specs.declared.activity.Activity.TheVariants.{Off}
use Rattle.duty_core.specs.declared.params.Params.TheVariants.{Hvnl}
use Rattle.duty_core.specs.declared.limits.TheConstants.{AU_SHORT_START, AU_LONG_START, AU_5H30_PERIOD, AU_5H30_DUTY, AU_8H_PERIOD, AU_8H_DUTY, AU_11H_PERIOD, AU_11H_DUTY, AU_24H_PERIOD, AU_24H_DUTY, AU_24H_REST, AU_7D_PERIOD, AU_7D_DUTY, AU_7D_REST, AU_14D_PERIOD, AU_14D_DUTY}
use Rattle.duty_core.specs.Activity.{rests, works}
use Rattle.duty_core.specs.History.{pad_days, pad_units, padding, unit_at}
use Rattle.duty_core.specs.Laws.HistoryLaws.{unit_at-append, unit_at-replicate, length-one_more}
use Rattle.duty_core.specs.Stretch.{HoldsRest}
use Rattle.duty_core.specs.Counting.{duty}
use Rattle.duty_core.specs.AuPeriods.{IsStart}
use Rattle.allowance.specs.declared.limit.Limit.{Limit}
use Rattle.allowance.specs.declared.limit.Need.{Need}
use Rattle.allowance.specs.Allow.{Held, Allows, KeepsLimit, MeetsNeed, IsHeld, waits, may_spend, spent, passed, added, needed_needs, needed, passed_need, one_more, gives}
use Rattle.allowance.specs.Laws.AllowLaws.{rests-works, meets_ahead, meets_duty, allows_duty, allows_rest, allows_none, allows_added, allows_needed, allows_settled, held_spent, held_passed, held_added, held_needed, held_settled}
use Rattle.hvnl_rules.specs.Laws.Ended.{IsRestedBefore, rested_append, rested_front, Rests, rests_more, rests_none}
use Rattle.hvnl_rules.specs.Laws.Counted.{IsShortKept, IsLongKept, IsCountedBefore, Tracks}
use Rattle.hvnl_rules.specs.Counted.{at_most, at_least, short_limits, long_limits, day_need, week_need, added_all, begun_short, begun, with_needs, after_duty, after_rest, start_held}

-- the duty from the end of p on
duty_at_end : (p q : List Activity) (n : ℕ) → duty (p ++ q) (length p) (length p + n) ≡ duty q 0 n
duty_at_end p q n = ap (count_by works) (drop-take (length p) n (p ++ q) ∙ ap (take n) (drop-append_seam p q))

-- a need of the period that begins with this duty unit, seen from the next unit
holds_from_start : (p : List Activity) (x : Activity) (xs : List Activity) (n q : ℕ) → works x ≡ true → 0 < q → q < n → q ≤ AU_7D_REST → HoldsRest q (p ++ x ∷ xs) (length p) (length p + n) ↔ MeetsNeed 0 xs (passed_need (at_least n q))
holds_from_start p x xs n q w a b few =
    let m = meets_duty x xs 0 (at_least n q) w (record { waits = a; can = omega arith; fits = omega arith }) in
    let u = meets_ahead 0 (x ∷ xs) (at_least n q) in (
      (λ h. (m.0 (u.1 (
          let e = h.after in
          let f = h.before in
          record {
            end = h.at + q - length p;
            within = omega arith;
            long = omega arith;
            rested = λ k c d. sym (ap rests (get_or-append-add p (x ∷ xs) k Off)) ∙ h.rest (length p + k) (omega arith) (omega arith);
          }))).1),
      (λ h.
          let g = u.0 (m.1 (b, h)) in
          let e = g.within in
          let f = g.long in
          record {
            at = length p + g.end - q;
            after = omega arith;
            before = omega arith;
            rest = λ k c d.
                let same : length p + (k - length p) ≡ k = omega arith in
                ap (λ i. rests (unit_at (p ++ x ∷ xs) i)) (sym same) ∙ (ap rests (get_or-append-add p (x ∷ xs) (k - length p) Off) ∙ g.rested (k - length p) (omega arith) (omega arith));
          }),
    )

short_kept : (p q : List Activity) → IsShortKept (p ++ q) (length p) ↔ All (KeepsLimit q) short_limits
short_kept p q =
    let a = duty_at_end p q AU_5H30_PERIOD in
    let b = duty_at_end p q AU_8H_PERIOD in
    let c = duty_at_end p q AU_11H_PERIOD in
    let K = KeepsLimit q in
    let l : Limit = at_most AU_5H30_PERIOD AU_5H30_DUTY in
    let m : Limit = at_most AU_8H_PERIOD AU_8H_DUTY in
    let n : Limit = at_most AU_11H_PERIOD AU_11H_DUTY in (
      (λ h. All-cons K l (m ∷ n ∷ []) (subst (λ d. d ≤ AU_5H30_DUTY) a h.half_past_five) (All-cons K m (n ∷ []) (subst (λ d. d ≤ AU_8H_DUTY) b h.eight_hours) (All-cons K n [] (subst (λ d. d ≤ AU_11H_DUTY) c h.eleven_hours) (All-nil K)))),
      (λ h.
          let t = All-tail K l (m ∷ n ∷ []) h in
          record {
            half_past_five = subst (λ d. d ≤ AU_5H30_DUTY) (sym a) (All-head K l (m ∷ n ∷ []) h);
            eight_hours = subst (λ d. d ≤ AU_8H_DUTY) (sym b) (All-head K m (n ∷ []) t);
            eleven_hours = subst (λ d. d ≤ AU_11H_DUTY) (sym c) (All-head K n [] (All-tail K m (n ∷ []) t));
          }),
    )

-- the two needs, from the next unit on
pub record MeetsNew (xs : List Activity) : Type 0 where
  pub day : MeetsNeed 0 xs day_need
  pub week : MeetsNeed 0 xs week_need

long_kept : (p : List Activity) (x : Activity) (xs : List Activity) → works x ≡ true → IsLongKept (p ++ x ∷ xs) (length p) ↔ (All (KeepsLimit (x ∷ xs)) long_limits × MeetsNew xs)
long_kept p x xs w =
    let q = x ∷ xs in
    let a = duty_at_end p q AU_24H_PERIOD in
    let b = duty_at_end p q AU_7D_PERIOD in
    let c = duty_at_end p q AU_14D_PERIOD in
    let d = holds_from_start p x xs AU_24H_PERIOD AU_24H_REST w (omega arith) (omega arith) (omega arith) in
    let e = holds_from_start p x xs AU_7D_PERIOD AU_7D_REST w (omega arith) (omega arith) (omega arith) in
    let K = KeepsLimit q in
    let l : Limit = at_most AU_24H_PERIOD AU_24H_DUTY in
    let m : Limit = at_most AU_7D_PERIOD AU_7D_DUTY in
    let n : Limit = at_most AU_14D_PERIOD AU_14D_DUTY in (
      (λ h. (All-cons K l (m ∷ n ∷ []) (subst (λ d. d ≤ AU_24H_DUTY) a h.day) (All-cons K m (n ∷ []) (subst (λ d. d ≤ AU_7D_DUTY) b h.week) (All-cons K n [] (subst (λ d. d ≤ AU_14D_DUTY) c h.fortnight) (All-nil K))), record { day = d.0 h.day_rest; week = e.0 h.week_rest })),
      (λ g.
          let h = g.0 in
          let t = All-tail K l (m ∷ n ∷ []) h in
          record {
            day = subst (λ d. d ≤ AU_24H_DUTY) (sym a) (All-head K l (m ∷ n ∷ []) h);
            week = subst (λ d. d ≤ AU_7D_DUTY) (sym b) (All-head K m (n ∷ []) t);
            fortnight = subst (λ d. d ≤ AU_14D_DUTY) (sym c) (All-head K n [] (All-tail K m (n ∷ []) t));
            day_rest = d.1 g.1.day;
            week_rest = e.1 g.1.week;
          }),
    )

-- what is asked of the periods that begin with the next unit
record AsksNext (p : List Activity) (x : Activity) (xs : List Activity) : Type 0 where
  short : IsRestedBefore p AU_SHORT_START (length p) → All (KeepsLimit (x ∷ xs)) short_limits
  far : IsRestedBefore p AU_LONG_START (length p) → All (KeepsLimit (x ∷ xs)) long_limits × MeetsNew xs

pub starts_at : (n : ℕ) (p : List Activity) (x : Activity) (xs : List Activity) → works x ≡ true → IsRestedBefore p n (length p) → IsStart n (p ++ x ∷ xs) (length p)
starts_at n p x xs w r =
    let g = rested_append p (x ∷ xs) n (length p) (omega arith) r in
    record { works_there = ap works (get_or-append_seam p x xs Off) ∙ w; there = r.there; rest = λ k a b. g.rest k (omega arith) b }

pub starts_means : (n : ℕ) (p : List Activity) (x : Activity) (xs : List Activity) → IsStart n (p ++ x ∷ xs) (length p) → (works x ≡ true) × IsRestedBefore p n (length p)
starts_means n p x xs s =
    let t = s.there in
    let g : IsRestedBefore (p ++ x ∷ xs) n (length p) = record { there = t; rest = λ k a b. s.rest k (omega arith) b } in
    (sym (ap works (get_or-append_seam p x xs Off)) ∙ s.works_there, rested_front p (x ∷ xs) n (length p) (omega arith) g)

before_step : (p : List Activity) (x : Activity) (xs : List Activity) → IsCountedBefore (length p + 1) (p ++ x ∷ xs) ↔ (IsCountedBefore (length p) (p ++ x ∷ xs) × (works x ≡ true → AsksNext p x xs))
before_step p x xs = (
  (λ h. (
    record { short_starts = λ i l s. h.short_starts i (omega arith) s; long_starts = λ i l s. h.long_starts i (omega arith) s },
    (λ w. record {
      short = λ r. (short_kept p (x ∷ xs)).0 (h.short_starts (length p) (omega arith) (starts_at AU_SHORT_START p x xs w r));
      far = λ r. (long_kept p x xs w).0 (h.long_starts (length p) (omega arith) (starts_at AU_LONG_START p x xs w r));
    }),
  )),
  (λ h. record {
    short_starts = λ i l s. elim (cases_lt i (length p)) [
      | inl lt ↦ h.0.short_starts i lt s
      | inr le ↦
          let same : i ≡ length p = omega arith in
          let m = starts_means AU_SHORT_START p x xs (subst (IsStart AU_SHORT_START (p ++ x ∷ xs)) same s) in
          subst (IsShortKept (p ++ x ∷ xs)) (sym same) ((short_kept p (x ∷ xs)).1 ((h.1 m.0).short m.1))
    ];
    long_starts = λ i l s. elim (cases_lt i (length p)) [
      | inl lt ↦ h.0.long_starts i lt s
      | inr le ↦
          let same : i ≡ length p = omega arith in
          let m = starts_means AU_LONG_START p x xs (subst (IsStart AU_LONG_START (p ++ x ∷ xs)) same s) in
          subst (IsLongKept (p ++ x ∷ xs)) (sym same) ((long_kept p x xs m.0).1 ((h.1 m.0).far m.1))
    ];
  }),
)

before_snoc : (p : List Activity) (x : Activity) (xs : List Activity) → IsCountedBefore (length (p ++ x ∷ [])) ((p ++ x ∷ []) ++ xs) ↔ (IsCountedBefore (length p) (p ++ x ∷ xs) × (works x ≡ true → AsksNext p x xs))
before_snoc p x xs =
    subst (λ l. IsCountedBefore (length (p ++ x ∷ [])) l ↔ (IsCountedBefore (length p) (p ++ x ∷ xs) × (works x ≡ true → AsksNext p x xs))) (sym (append_assoc p (x ∷ []) xs))
    (subst (λ b. IsCountedBefore b (p ++ x ∷ xs) ↔ (IsCountedBefore (length p) (p ++ x ∷ xs) × (works x ≡ true → AsksNext p x xs))) (sym (length-one_more p x)) (before_step p x xs))

-- # Limits and needs of the periods that begin

added_all_allows : (ps : List Limit) (h : Held) (xs : List Activity) → Allows (added_all h ps) xs ↔ (Allows h xs × All (KeepsLimit xs) ps)
added_all_allows [] h xs = ((λ a. (a, All-nil (KeepsLimit xs))), (λ a. a.0))
added_all_allows (p ∷ ps) h xs =
    let q = added_all_allows ps (added h p) xs in
    let a = allows_added h p xs in (
      (λ k. let b = q.0 k in let c = a.0 b.0 in (c.0, All-cons (KeepsLimit xs) p ps c.1 b.1)),
      (λ k. q.1 (a.1 (k.0, All-head (KeepsLimit xs) p ps k.1), All-tail (KeepsLimit xs) p ps k.1)),
    )

added_all_held : (ps : List Limit) (h : Held) → IsHeld h → IsHeld (added_all h ps)
added_all_held [] h i = i
added_all_held (p ∷ ps) h i = added_all_held ps (added h p) (held_added h p i)

added_all_run : (ps : List Limit) (h : Held) → (added_all h ps).run ≡ h.run
added_all_run [] h = refl
added_all_run (p ∷ ps) h = added_all_run ps (added h p)

added_all_needs : (ps : List Limit) (h : Held) → (added_all h ps).needs ≡ h.needs
added_all_needs [] h = refl
added_all_needs (p ∷ ps) h = added_all_needs ps (added h p)

-- limits that are added where a test holds
when_held : (b : Bool) (ps : List Limit) (h : Held) → IsHeld h → IsHeld (cond b (added_all h ps) h)
when_held true ps h i = added_all_held ps h i
when_held false ps h i = i

when_needs : (b : Bool) (ps : List Limit) (h : Held) → (cond b (added_all h ps) h).needs ≡ h.needs
when_needs true ps h = added_all_needs ps h
when_needs false ps h = refl

when_allows : (b : Bool) (ps : List Limit) (h : Held) (xs : List Activity) → Allows (cond b (added_all h ps) h) xs ↔ (Allows h xs × (b ≡ true → All (KeepsLimit xs) ps))
when_allows true ps h xs = let a = added_all_allows ps h xs in ((λ k. let b = a.0 k in (b.0, λ e. b.1)), (λ k. a.1 (k.0, k.1 refl)))
when_allows false ps h xs = ((λ k. (k, λ e. absurd (cc))), (λ k. k.0))

pub begun_held : (h : Held) → IsHeld h → IsHeld (begun h)
begun_held h i = when_held (nat_le AU_LONG_START h.run) long_limits (begun_short h) (when_held (nat_le AU_SHORT_START h.run) short_limits h i)

pub begun_needs : (h : Held) → (begun h).needs ≡ h.needs
begun_needs h = when_needs (nat_le AU_LONG_START h.run) long_limits (begun_short h) ∙ when_needs (nat_le AU_SHORT_START h.run) short_limits h

begun_allows : (h : Held) (xs : List Activity) → Allows (begun h) xs ↔ (Allows h xs × (AU_SHORT_START ≤ h.run → All (KeepsLimit xs) short_limits) × (AU_LONG_START ≤ h.run → All (KeepsLimit xs) long_limits))
begun_allows h xs =
    let s = when_allows (nat_le AU_SHORT_START h.run) short_limits h xs in
    let f = when_allows (nat_le AU_LONG_START h.run) long_limits (begun_short h) xs in (
      (λ k. let b = f.0 k in let c = s.0 b.0 in (c.0, (λ l. c.1 (grind (arith, nat_tests))), (λ l. b.1 (grind (arith, nat_tests))))),
      (λ k. f.1 (s.1 (k.0, λ e. k.1 (grind (arith, nat_tests))), λ e. k.2 (grind (arith, nat_tests)))),
    )

needs_cases : (run : ℕ) (h : Held) → ((AU_LONG_START ≤ run) × (with_needs run h ≡ needed (needed h day_need) week_need)) ⊎ ((run < AU_LONG_START) × (with_needs run h ≡ h))
needs_cases run h = elim (cases_lt run AU_LONG_START) [ inl lt ↦ inr (lt, grind (arith, nat_tests)) | inr le ↦ inl (le, grind (arith, nat_tests)) ]

pub needs_held : (run : ℕ) (h : Held) → h.run ≡ 0 → IsHeld h → IsHeld (with_needs run h)
needs_held run h z i = elim (needs_cases run h) [
  | inl c ↦ subst IsHeld (sym c.1) (held_needed (needed h day_need) week_need (held_needed h day_need i (record { waits = omega arith; can = omega arith; fits = omega arith })) (record { waits = omega arith; can = omega arith; fits = omega arith }))
  | inr c ↦ subst IsHeld (sym c.1) i
]

pub needs_run : (run : ℕ) (h : Held) → (with_needs run h).run ≡ h.run
needs_run run h = elim (needs_cases run h) [ inl c ↦ ap (λ g. g.run) c.1 | inr c ↦ ap (λ g. g.run) c.1 ]

-- one more need of at most so much rest
needed_short : (ns : List Need) (n : Need) → n.rest ≤ AU_7D_REST → All (λ m. m.rest ≤ AU_7D_REST) ns → All (λ m. m.rest ≤ AU_7D_REST) (needed_needs ns n)
needed_short ns n l a = elim (list_any (λ m. gives m n) ns) as (λ b. All (λ m. m.rest ≤ AU_7D_REST) (cond b ns (ns ++ n ∷ []))) [
  | true ↦ a
  | false ↦ All-push (λ m. m.rest ≤ AU_7D_REST) ns n a l
]

pub needs_short : (run : ℕ) (h : Held) → All (λ m. m.rest ≤ AU_7D_REST) h.needs → All (λ m. m.rest ≤ AU_7D_REST) (with_needs run h).needs
needs_short run h a = elim (needs_cases run h) [
  | inl c ↦ subst (λ g. All (λ m. m.rest ≤ AU_7D_REST) g.needs) (sym c.1) (needed_short (needed_needs h.needs day_need) week_need (omega arith) (needed_short h.needs day_need (omega arith) a))
  | inr c ↦ subst (λ g. All (λ m. m.rest ≤ AU_7D_REST) g.needs) (sym c.1) a
]

needs_allows : (run : ℕ) (h : Held) (xs : List Activity) → h.run ≡ 0 → Allows (with_needs run h) xs ↔ (Allows h xs × (AU_LONG_START ≤ run → MeetsNew xs))
needs_allows run h xs z = elim (needs_cases run h) [
  | inl c ↦ subst (λ g. Allows g xs ↔ (Allows h xs × (AU_LONG_START ≤ run → MeetsNew xs))) (sym c.1)
      (let a = allows_needed h day_need xs in
      let b = allows_needed (needed h day_need) week_need xs in (
        (λ k. let d = b.0 k in let e = a.0 d.0 in (e.0, λ l. record { day = subst (λ r. MeetsNeed r xs day_need) z e.1; week = subst (λ r. MeetsNeed r xs week_need) z d.1 })),
        (λ k. let m = k.1 c.0 in b.1 (a.1 (k.0, subst (λ r. MeetsNeed r xs day_need) (sym z) m.day), subst (λ r. MeetsNeed r xs week_need) (sym z) m.week)),
      ))
  | inr c ↦ subst (λ g. Allows g xs ↔ (Allows h xs × (AU_LONG_START ≤ run → MeetsNew xs))) (sym c.1) ((λ k. (k, λ l. absurd (let d = c.0 in omega arith))), (λ k. k.0))
]

-- # One more unit

pub passed_short : (h : Held) → All (λ n. n.rest ≤ AU_7D_REST) h.needs → All (λ n. n.rest ≤ AU_7D_REST) (passed h).needs
passed_short h a = All-filter (waits (one_more h.run)) (λ n. n.rest ≤ AU_7D_REST) (map passed_need h.needs) (All-map (λ n. n.rest ≤ AU_7D_REST) passed_need h.needs a)

rest_run : (run : ℕ) → run ≤ AU_7D_REST → min (one_more run) AU_7D_REST ≡ min (run + 1) AU_7D_REST
rest_run run l = omega arith

pub tracks_rest : (p : List Activity) (h : Held) (x : Activity) → works x ≡ false → Tracks p h → Tracks (p ++ x ∷ []) (after_rest h)
tracks_rest p h x w t =
    let i = held_passed h t.held in
    let s = passed_short h t.short in
    record {
      held = held_settled (passed h) AU_7D_REST i s;
      rested = subst (Rests AU_7D_REST (p ++ x ∷ [])) (sym (rest_run h.run t.rested.few)) (rests_more AU_7D_REST p x h.run (rests-works x false w) t.rested);
      short = s;
      limits = λ xs.
          let b = before_snoc p x xs in
          let a = allows_rest h x xs w t.held in
          let d = allows_settled (passed h) AU_7D_REST xs i s in
          let l = t.limits (x ∷ xs) in (
            (λ k. d.0 (a.0 (l.0 ((b.0 k).0)))),
            (λ k. b.1 (l.1 (a.1 (d.1 k)), λ v. absurd (let z : false ≡ true = sym w ∙ v in cc))),
          );
    }

-- what the state asks of a duty unit and what follows
pub duty_allows : (p : List Activity) (h : Held) (x : Activity) (xs : List Activity) → works x ≡ true → Tracks p h →
    IsCountedBefore (length (p ++ x ∷ [])) ((p ++ x ∷ []) ++ xs) ↔ ((may_spend (begun h) ≡ true) × Allows (after_duty h) xs)
duty_allows p h x xs w t =
    let b = before_snoc p x xs in
    let a = allows_duty (begun h) x xs w (begun_held h t.held) in
    let g = begun_allows h (x ∷ xs) in
    let n = needs_allows h.run (spent (begun h)) xs refl in
    let l = t.limits (x ∷ xs) in
    let one = t.rested.tells AU_SHORT_START (omega arith) in
    let far = t.rested.tells AU_LONG_START (omega arith) in (
      (λ k.
          let c = b.0 k in
          let d = c.1 w in
          let e = a.0 (g.1 (l.0 c.0, (λ r. d.short (one.0 r)), (λ r. (d.far (far.0 r)).0))) in
          (e.0, n.1 (e.1, λ r. (d.far (far.0 r)).1))),
      (λ k.
          let c = n.0 k.1 in
          let d = g.0 (a.1 (k.0, c.0)) in
          b.1 (l.1 d.0, λ v. record { short = λ r. d.1 (one.1 r); far = λ r. (d.2 (far.1 r), c.1 (far.1 r)) })),
    )

pub tracks_duty : (p : List Activity) (h : Held) (x : Activity) → works x ≡ true → may_spend (begun h) ≡ true → Tracks p h → Tracks (p ++ x ∷ []) (after_duty h)
tracks_duty p h x w e t = record {
  held = needs_held h.run (spent (begun h)) refl (held_spent (begun h) (begun_held h t.held) e);
  rested = subst (Rests AU_7D_REST (p ++ x ∷ [])) (sym (needs_run h.run (spent (begun h)))) (rests_none AU_7D_REST p x (rests-works x true w));
  short = needs_short h.run (spent (begun h)) (All-map (λ n. n.rest ≤ AU_7D_REST) passed_need (begun h).needs (subst (All (λ n. n.rest ≤ AU_7D_REST)) (sym (begun_needs h)) t.short));
  limits = λ xs. let d = duty_allows p h x xs w t in ((λ k. (d.0 k).1), (λ k. d.1 (e, k)));
}

-- # The start

pub padding_long : pad_units Hvnl ≡ 2688
unfolding pad_days
padding_long = refl

pub no_start : (xs : List Activity) (i : ℕ) → i < length (padding Hvnl) → works (unit_at (padding Hvnl ++ xs) i) ≡ true → ⊥
no_start xs i l d = let e : false ≡ true = sym (ap works (unit_at-append (padding Hvnl) xs i l ∙ unit_at-replicate (pad_units Hvnl) i)) ∙ d in absurd (cc)

pub tracks_start : Tracks (padding Hvnl) start_held
tracks_start = record {
  held = record { limits = All-nil _; needs = All-nil _ };
  rested = record {
    few = omega arith;
    tells = λ n l. (
      (λ a. record { there = let m = padding_long in omega (arith, length-replicate (pad_units Hvnl) Off); rest = λ k a b. ap rests (unit_at-replicate (pad_units Hvnl) k) }),
      (λ r. l),
    );
  };
  short = All-nil _;
  limits = λ xs. (
    (λ k. record { limits = All-nil _; needs = All-nil _ }),
    (λ k. record {
      short_starts = λ i l s. absurd (no_start xs i l s.works_there);
      long_starts = λ i l s. absurd (no_start xs i l s.works_there);
    }),
  );
}

pub counted_means : (p : List Activity) (h : Held) → Tracks p h → IsCountedBefore (length p) p
counted_means p h t = subst (IsCountedBefore (length p)) (append-nil p) ((t.limits []).1 (allows_none h t.held))

-- fewer periods
pub before_fewer : (b c : ℕ) (p : List Activity) → b ≤ c → IsCountedBefore c p → IsCountedBefore b p
before_fewer b c p l h = record { short_starts = λ i m s. h.short_starts i (omega arith) s; long_starts = λ i m s. h.long_starts i (omega arith) s }
