-- What the nights' state is of a history, unit by unit.
use Rattle.std.proofs.Common.{◌≡◌, ◌↔◌, ℕ, ◌+◌, ◌-◌, ◌*◌, ◌/◌, ◌<◌, ◌≤◌, true, false, not, ◌&&◌, cond, List, [], ◌∷◌, ◌++◌, length, refl, sym, ◌∙◌, ap, subst, arith, ◌⊎◌, inl, inr}
use Rattle.std.specs.Prelude.{nat_le, nat_lt}
use Rattle.std.specs.List.{list_any}
use Rattle.std.proofs.lemmas.Bool.{cases_lt, and_parts, and_from, or_cases, or_left, or_right}
use Rattle.std.proofs.lemmas.Bool.Decides.{nat_tests}
use Rattle.duty_core.specs.declared.activity.Activity.{Activity}
use Rattle.duty_core.specs.declared.params.Params.TheVariants.{Hvnl}
use Rattle.duty_core.specs.declared.limits.TheConstants.{DAY_MINUTES, AU_LONG_START, AU_14D_PERIOD, AU_NIGHT_BEFORE, AU_NIGHT_AFTER, AU_NIGHT_REST, AU_NIGHT_LONG_REST, AU_7D_REST}
use Rattle.duty_core.specs.Activity.{rests, works}
use Rattle.duty_core.specs.History.{unit_at, pad_units}
use Rattle.duty_core.specs.Laws.HistoryLaws.{unit_at-append, unit_at-last, unit_at-past, length-one_more}
use Rattle.duty_core.specs.Stretch.{IsRest}
use Rattle.duty_core.specs.AuPeriods.{IsStart, IsLongStart}
use Rattle.duty_core.specs.AuNights.{IsNightOf, IsInside, IsAcross, HasBreakBy}
use Rattle.allowance.specs.Laws.AllowLaws.{rests-works}
use Rattle.rule_core.specs.Reach.{IsOneOf}
use Rattle.rule_core.specs.Laws.OneOf.{one_of-append, one_of-append_left, one_of-append_right}
use Rattle.hvnl_rules.specs.Laws.Ended.{IsRestedBefore, Rests}
use Rattle.hvnl_rules.specs.Laws.CountedLaws.{padding_long, starts_at, starts_means}
use Rattle.hvnl_rules.specs.Nights.{Nights, minutes, is_running, begins_in, ends_in, lies_in, is_dated, today, is_rested, dated, pushed, running, still_open}
use Rattle.hvnl_rules.specs.Laws.Dates.{IsMinuteAt, IsDateAt, place_of, place_date, dated_one, one_any, one_filter, filter_one}

-- a period of p that begins at place i, at this minute, and is not over at place `bound`
pub record IsOpen (first bound : ℕ) (p : List Activity) (i start : ℕ) : Type 0 where
  pub long : IsLongStart p i
  pub minute : IsMinuteAt first i start
  pub running : bound < i + AU_14D_PERIOD

-- The night of the date, whose midnight is place m, has a break in p, counting no later rest.
pub record IsBroken (first : ℕ) (p : List Activity) (m date : ℕ) : Type 0 where
  pub at : IsDateAt first m date
  pub broken : HasBreakBy (length p) p m

-- The nights' state is that of the units p, for the periods that are not over at place `bound`.
pub record TracksNights (first bound : ℕ) (p : List Activity) (n : Nights) : Type 0 where
  -- there is no duty in the padding
  pub past : (i : ℕ) → works (unit_at p i) ≡ true → pad_units Hvnl ≤ i
  pub each_start : (s : ℕ) → IsOneOf n.starts s → (i : ℕ) × IsOpen first bound p i s
  pub all_starts : (i s : ℕ) → IsOpen first bound p i s → IsOneOf n.starts s
  pub each_date : (d : ℕ) → IsOneOf n.dates d → (m : ℕ) × IsBroken first p m d
  pub all_dates : (m d i s : ℕ) → IsBroken first p m d → IsOpen first bound p i s → IsNightOf first i AU_14D_PERIOD m → IsOneOf n.dates d

-- # One more unit

-- a stretch of p is one of p with one more unit, and back
pub rest_on : (p q : List Activity) (from to : ℕ) → to ≤ length p → IsRest p from to → IsRest (p ++ q) from to
rest_on p q from to l h = λ k a b. ap rests (unit_at-append p q k (omega arith)) ∙ h k a b

pub rest_back : (p q : List Activity) (from to : ℕ) → to ≤ length p → IsRest (p ++ q) from to → IsRest p from to
rest_back p q from to l h = λ k a b. sym (ap rests (unit_at-append p q k (omega arith))) ∙ h k a b

pub broken_on : (p q : List Activity) (by m : ℕ) → by ≤ length p → HasBreakBy by p m → HasBreakBy by (p ++ q) m
broken_on p q by m l h = let o = h.over in record { from = h.from; to = h.to; over = h.over; rest = rest_on p q h.from h.to (omega arith) h.rest; lies = h.lies }

pub broken_back : (p q : List Activity) (by m : ℕ) → by ≤ length p → HasBreakBy by (p ++ q) m → HasBreakBy by p m
broken_back p q by m l h = let o = h.over in record { from = h.from; to = h.to; over = h.over; rest = rest_back p q h.from h.to (omega arith) h.rest; lies = h.lies }

broken_later : (p : List Activity) (by later m : ℕ) → by ≤ later → HasBreakBy by p m → HasBreakBy later p m
broken_later p by later m l h = record { from = h.from; to = h.to; over = let o = h.over in omega arith; rest = h.rest; lies = h.lies }

-- a break is some rest
long_break : (m from to : ℕ) → IsInside m from to ⊎ IsAcross m from to → from + AU_NIGHT_REST ≤ to
long_break m from to h = elim h [ inl a ↦ a.long | inr b ↦ (let l = b.long in omega arith) ]

broken_more : (first : ℕ) (p : List Activity) (x : Activity) (m d : ℕ) → IsBroken first p m d → IsBroken first (p ++ x ∷ []) m d
broken_more first p x m d h = record { at = h.at; broken = broken_later (p ++ x ∷ []) (length p) (length (p ++ x ∷ [])) m (omega (arith, length-one_more p x)) (broken_on p (x ∷ []) (length p) m (omega arith) h.broken) }

pub start_on : (p : List Activity) (x : Activity) (n i : ℕ) → i < length p → IsStart n p i → IsStart n (p ++ x ∷ []) i
start_on p x n i l h = record { works_there = ap works (unit_at-append p (x ∷ []) i l) ∙ h.works_there; there = h.there; rest = rest_on p (x ∷ []) (i - n) i (omega arith) h.rest }

start_back : (p : List Activity) (x : Activity) (n i : ℕ) → i < length p → IsStart n (p ++ x ∷ []) i → IsStart n p i
start_back p x n i l h = record { works_there = sym (ap works (unit_at-append p (x ∷ []) i l)) ∙ h.works_there; there = h.there; rest = rest_back p (x ∷ []) (i - n) i (omega arith) h.rest }

pub start_inside : (p : List Activity) (n i : ℕ) → IsStart n p i → i < length p
start_inside p n i h = elim (cases_lt i (length p)) [ inl l ↦ l | inr l ↦ absurd (let z : false ≡ true = sym (ap works (unit_at-past p i l)) ∙ h.works_there in cc) ]

-- a start of p with one more unit is one of p, or the last unit
pub start_cases : (p : List Activity) (x : Activity) (n i : ℕ) → IsStart n (p ++ x ∷ []) i → IsStart n p i ⊎ ((i ≡ length p) × (works x ≡ true) × IsRestedBefore p n (length p))
start_cases p x n i h = elim (cases_lt i (length p)) [
  | inl l ↦ inl (start_back p x n i l h)
  | inr l ↦
      let inside = start_inside (p ++ x ∷ []) n i h in
      let same : i ≡ length p = omega (arith, length-one_more p x) in
      let m = starts_means n p x [] (subst (IsStart n (p ++ x ∷ [])) same h) in
      inr (same, m.0, m.1)
]

open_on : (first bound : ℕ) (p : List Activity) (x : Activity) (i s : ℕ) → IsOpen first bound p i s → IsOpen first bound (p ++ x ∷ []) i s
open_on first bound p x i s h = record { long = start_on p x AU_LONG_START i (start_inside p AU_LONG_START i h.long) h.long; minute = h.minute; running = h.running }

past_on : (p : List Activity) (x : Activity) → pad_units Hvnl ≤ length p → ((i : ℕ) → works (unit_at p i) ≡ true → pad_units Hvnl ≤ i) → (i : ℕ) → works (unit_at (p ++ x ∷ []) i) ≡ true → pad_units Hvnl ≤ i
past_on p x l h i w = elim (cases_lt i (length p)) [ inl a ↦ h i (sym (ap works (unit_at-append p (x ∷ []) i a)) ∙ w) | inr a ↦ omega arith ]

one_minute : (first i s r : ℕ) → IsMinuteAt first i s → IsMinuteAt first i r → s ≡ r
one_minute first i s r a b = omega arith

one_place : (first m k d : ℕ) → IsDateAt first m d → IsDateAt first k d → m ≡ k
one_place first m k d a b = omega arith

-- # A duty unit

-- a break of p with one duty unit more is one of p
broken_duty : (first : ℕ) (p : List Activity) (x : Activity) (m d : ℕ) → works x ≡ true → IsBroken first (p ++ x ∷ []) m d → IsBroken first p m d
broken_duty first p x m d w h =
    let b = h.broken in
    let o = b.over in
    let g = long_break m b.from b.to b.lies in
    elim (cases_lt (length p) b.to) [
      | inl l ↦ absurd (let z : true ≡ false = sym (b.rest (length p) (omega (arith, length-one_more p x)) l) ∙ (ap rests (unit_at-last p x) ∙ rests-works x true w) in cc)
      | inr l ↦ record { at = h.at; broken = record { from = b.from; to = b.to; over = l; rest = rest_back p (x ∷ []) b.from b.to l b.rest; lies = b.lies } }
    ]

pub push_cases : (at run : ℕ) (n : Nights) → ((AU_LONG_START ≤ run) × (pushed at run n ≡ record n { starts = n.starts ++ at ∷ [] })) ⊎ ((run < AU_LONG_START) × (pushed at run n ≡ n))
push_cases at run n = elim (cases_lt run AU_LONG_START) [ inl lt ↦ inr (lt, grind (arith, nat_tests)) | inr le ↦ inl (le, grind (arith, nat_tests)) ]

pub push_dates : (at run : ℕ) (n : Nights) → (pushed at run n).dates ≡ n.dates
push_dates at run n = elim (push_cases at run n) [ inl c ↦ ap (λ k. k.dates) c.1 | inr c ↦ ap (λ k. k.dates) c.1 ]

pub pushed_tracks : (first at run : ℕ) (p : List Activity) (x : Activity) (n : Nights) → works x ≡ true → pad_units Hvnl ≤ length p → IsMinuteAt first (length p) at → Rests AU_7D_REST p run →
    TracksNights first (length p) p n → TracksNights first (length p) (p ++ x ∷ []) (pushed at run n)
pushed_tracks first at run p x n w pad e r t =
    let b : ℕ = length p in
    let far = r.tells AU_LONG_START (omega arith) in
    record {
      past = past_on p x pad t.past;
      each_start = elim (push_cases at run n) [
        | inl c ↦ subst (λ k. (s : ℕ) → IsOneOf k.starts s → (i : ℕ) × IsOpen first b (p ++ x ∷ []) i s) (sym c.1) (λ s o. elim (one_of-append n.starts (at ∷ []) s o) [
          | inl a ↦ (let q = t.each_start s a in (q.0, open_on first b p x q.0 s q.1))
          | inr a ↦ elim a [ inl f ↦ (b, record { long = starts_at AU_LONG_START p x [] w (far.0 c.0); minute = subst (IsMinuteAt first b) f e; running = omega arith }) | inr z ↦ absurd z ]
        ])
        | inr c ↦ subst (λ k. (s : ℕ) → IsOneOf k.starts s → (i : ℕ) × IsOpen first b (p ++ x ∷ []) i s) (sym c.1) (λ s o. (let q = t.each_start s o in (q.0, open_on first b p x q.0 s q.1)))
      ];
      all_starts = λ i s h. elim (start_cases p x AU_LONG_START i h.long) [
        | inl l ↦
            let o = t.all_starts i s (record { long = l; minute = h.minute; running = h.running }) in
            elim (push_cases at run n) [
              | inl c ↦ subst (λ k. IsOneOf k.starts s) (sym c.1) (one_of-append_left n.starts (at ∷ []) s o)
              | inr c ↦ subst (λ k. IsOneOf k.starts s) (sym c.1) o
            ]
        | inr l ↦
            let same = l.0 in
            let f = h.minute in
            elim (push_cases at run n) [
              | inl c ↦ subst (λ k. IsOneOf k.starts s) (sym c.1) (one_of-append_right n.starts (at ∷ []) s (inl (omega arith)))
              | inr c ↦ absurd (let g = far.1 l.2 in let d = c.0 in omega arith)
            ]
      ];
      each_date = λ d o. (let q = t.each_date d (subst (λ ds. IsOneOf ds d) (push_dates at run n) o) in (q.0, broken_more first p x q.0 d q.1));
      all_dates = λ m d i s k h l. subst (λ ds. IsOneOf ds d) (sym (push_dates at run n)) (
          let old = broken_duty first p x m d w k in
          elim (start_cases p x AU_LONG_START i h.long) [
            | inl a ↦ t.all_dates m d i s old (record { long = a; minute = h.minute; running = h.running }) l
            | inr a ↦ absurd (
                let same = a.0 in
                let g = old.broken in
                let o = g.over in
                elim g.lies [ inl u ↦ (let y = u.begins in let z = u.long in omega arith) | inr u ↦ (let y = u.ends in omega arith) ])
          ]);
    }

-- # A rest unit

pub dated_cases : (at run : ℕ) (n : Nights) → ((is_rested at run (today at) ≡ true) × (is_dated n.dates (today at) ≡ false) × (dated at run n ≡ record n { dates = n.dates ++ today at ∷ [] }))
    ⊎ ((dated at run n ≡ n) × (is_rested at run (today at) ≡ true → is_dated n.dates (today at) ≡ true))
dated_cases at run n = elim (is_rested at run (today at)) as (λ b. is_rested at run (today at) ≡ b →
    ((b ≡ true) × (is_dated n.dates (today at) ≡ false) × (cond (b && not (is_dated n.dates (today at))) (record n { dates = n.dates ++ today at ∷ [] }) n ≡ record n { dates = n.dates ++ today at ∷ [] }))
    ⊎ ((cond (b && not (is_dated n.dates (today at))) (record n { dates = n.dates ++ today at ∷ [] }) n ≡ n) × (b ≡ true → is_dated n.dates (today at) ≡ true))) [
      | true ↦ λ e. elim (is_dated n.dates (today at)) as (λ c.
          ((true ≡ true) × (c ≡ false) × (cond (not c) (record n { dates = n.dates ++ today at ∷ [] }) n ≡ record n { dates = n.dates ++ today at ∷ [] }))
          ⊎ ((cond (not c) (record n { dates = n.dates ++ today at ∷ [] }) n ≡ n) × (true ≡ true → c ≡ true))) [
            | true ↦ inr (refl, λ z. refl)
            | false ↦ inl (refl, refl, refl)
          ]
      | false ↦ λ e. inr (refl, λ z. absurd (cc))
    ] refl

pub dated_starts : (at run : ℕ) (n : Nights) → (dated at run n).starts ≡ n.starts
dated_starts at run n = elim (dated_cases at run n) [ inl c ↦ ap (λ k. k.starts) c.2 | inr c ↦ ap (λ k. k.starts) c.0 ]

-- what the test means: a break ends with the unit, inside the night of the date or over its midnight
rested_means : (at run d : ℕ) → is_rested at run d ≡ true → ((AU_NIGHT_REST ≤ run) × (DAY_MINUTES * d + minutes AU_NIGHT_REST ≤ at + minutes (1 + AU_NIGHT_BEFORE)) × (at + minutes 1 ≤ DAY_MINUTES * d + minutes AU_NIGHT_AFTER))
    ⊎ ((AU_NIGHT_LONG_REST ≤ run) × (at + minutes 1 < DAY_MINUTES * d + minutes AU_NIGHT_LONG_REST))
rested_means at run d e =
    let A = nat_le AU_NIGHT_REST run in
    let B = nat_le (DAY_MINUTES * d + minutes AU_NIGHT_REST) (at + minutes (1 + AU_NIGHT_BEFORE)) in
    let C = nat_le (at + minutes 1) (DAY_MINUTES * d + minutes AU_NIGHT_AFTER) in
    let D = nat_le AU_NIGHT_LONG_REST run in
    let E = nat_lt (at + minutes 1) (DAY_MINUTES * d + minutes AU_NIGHT_LONG_REST) in
    elim (or_cases (A && (B && C)) (D && E) e) [
      | inl a ↦ (let p = and_parts A (B && C) a in let q = and_parts B C p.1 in let u = p.0 in let v = q.0 in let w = q.1 in inl (grind (arith, nat_tests), grind (arith, nat_tests), grind (arith, nat_tests)))
      | inr a ↦ (let p = and_parts D E a in let u = p.0 in let v = p.1 in inr (grind (arith, nat_tests), grind (arith, nat_tests)))
    ]

inside_rested : (at run d : ℕ) → AU_NIGHT_REST ≤ run → DAY_MINUTES * d + minutes AU_NIGHT_REST ≤ at + minutes (1 + AU_NIGHT_BEFORE) → at + minutes 1 ≤ DAY_MINUTES * d + minutes AU_NIGHT_AFTER → is_rested at run d ≡ true
inside_rested at run d a b c =
    let A = nat_le AU_NIGHT_REST run in
    let B = nat_le (DAY_MINUTES * d + minutes AU_NIGHT_REST) (at + minutes (1 + AU_NIGHT_BEFORE)) in
    let C = nat_le (at + minutes 1) (DAY_MINUTES * d + minutes AU_NIGHT_AFTER) in
    or_left (A && (B && C)) (nat_le AU_NIGHT_LONG_REST run && nat_lt (at + minutes 1) (DAY_MINUTES * d + minutes AU_NIGHT_LONG_REST)) (and_from A (B && C) (grind (arith, nat_tests)) (and_from B C (grind (arith, nat_tests)) (grind (arith, nat_tests))))

across_rested : (at run d : ℕ) → AU_NIGHT_LONG_REST ≤ run → at + minutes 1 < DAY_MINUTES * d + minutes AU_NIGHT_LONG_REST → is_rested at run d ≡ true
across_rested at run d a b =
    let D = nat_le AU_NIGHT_LONG_REST run in
    let E = nat_lt (at + minutes 1) (DAY_MINUTES * d + minutes AU_NIGHT_LONG_REST) in
    or_right (nat_le AU_NIGHT_REST run && (nat_le (DAY_MINUTES * d + minutes AU_NIGHT_REST) (at + minutes (1 + AU_NIGHT_BEFORE)) && nat_le (at + minutes 1) (DAY_MINUTES * d + minutes AU_NIGHT_AFTER))) (D && E) (and_from D E (grind (arith, nat_tests)) (grind (arith, nat_tests)))

-- the midnight of today
today_place : (first units at b : ℕ) → first ≡ 15 * units → pad_units Hvnl ≤ b → IsMinuteAt first b at → (m : ℕ) × IsDateAt first m (today at) × (m ≤ b) × (b < m + 96)
today_place first units at b f pad e =
    let z = padding_long in
    let low : DAY_MINUTES * (at / DAY_MINUTES) ≤ at = omega arith in
    let high : at < DAY_MINUTES * (at / DAY_MINUTES) + DAY_MINUTES = omega arith in
    (place_of units (today at), place_date first units (today at) f (omega arith), omega arith, omega arith)

-- and only it lies so
today_is : (first at b m d : ℕ) → IsMinuteAt first b at → IsDateAt first m d → m ≤ b → b < m + 96 → d ≡ today at
today_is first at b m d e f l h = omega arith

-- the test gives a break
rested_breaks : (first units at run : ℕ) (p : List Activity) (x : Activity) → first ≡ 15 * units → pad_units Hvnl ≤ length p → IsMinuteAt first (length p) at → Rests AU_7D_REST (p ++ x ∷ []) run →
    is_rested at run (today at) ≡ true → (m : ℕ) × IsBroken first (p ++ x ∷ []) m (today at)
rested_breaks first units at run p x f pad e r yes_rested =
    let q : List Activity = p ++ x ∷ [] in
    let len = length-one_more p x in
    let k = today_place first units at (length p) f pad e in
    let da = k.1 in
    let lo = k.2 in
    let hi = k.3 in (
      k.0,
      record {
        at = k.1;
        broken = elim (rested_means at run (today at) yes_rested) [
          | inl h ↦
              let a = h.1 in
              let b = h.2 in
              let s = (r.tells AU_NIGHT_REST (omega arith)).0 h.0 in
              let t = s.there in
              record { from = length q - AU_NIGHT_REST; to = length q; over = omega arith; rest = λ j u v. s.rest j (omega arith) v; lies = inl (record { begins = omega arith; ends = omega arith; long = omega arith }) }
          | inr h ↦
              let a = h.1 in
              let s = (r.tells AU_NIGHT_LONG_REST (omega arith)).0 h.0 in
              let t = s.there in
              record { from = length q - AU_NIGHT_LONG_REST; to = length q; over = omega arith; rest = λ j u v. s.rest j (omega arith) v; lies = inr (record { begins = omega arith; ends = omega arith; long = omega arith }) }
        ];
      },
    )

-- a break of p with one unit more is one of p, or ends with that unit and passes the test
rested_before : (q : List Activity) (from n : ℕ) → from + n ≤ length q → IsRest q from (length q) → IsRestedBefore q n (length q)
rested_before q from n l h = record { there = omega arith; rest = λ k a b. h k (omega arith) b }

broken_rest : (first at run : ℕ) (p : List Activity) (x : Activity) (m d : ℕ) → IsMinuteAt first (length p) at → Rests AU_7D_REST (p ++ x ∷ []) run → IsBroken first (p ++ x ∷ []) m d →
    IsBroken first p m d ⊎ ((d ≡ today at) × (is_rested at run (today at) ≡ true))
broken_rest first at run p x m d e r h =
    let q : List Activity = p ++ x ∷ [] in
    let len = length-one_more p x in
    let b = h.broken in
    let o = b.over in
    let da = h.at in
    let g = long_break m b.from b.to b.lies in
    elim (cases_lt (length p) b.to) [
      | inr l ↦ inl (record { at = h.at; broken = record { from = b.from; to = b.to; over = l; rest = rest_back p (x ∷ []) b.from b.to l b.rest; lies = b.lies } })
      | inl l ↦
          let same : b.to ≡ length q = omega arith in
          let whole : IsRest q b.from (length q) = subst (IsRest q b.from) same b.rest in
          elim b.lies [
            | inl u ↦
                let a = u.begins in
                let c = u.ends in
                let y = u.long in
                let run_is = (r.tells AU_NIGHT_REST (omega arith)).1 (rested_before q b.from AU_NIGHT_REST (omega arith) whole) in
                let now = today_is first at (length p) m d e h.at (omega arith) (omega arith) in
                inr (now, inside_rested at run (today at) run_is (omega arith) (omega arith))
            | inr u ↦
                let a = u.begins in
                let c = u.ends in
                let y = u.long in
                let run_is = (r.tells AU_NIGHT_LONG_REST (omega arith)).1 (rested_before q b.from AU_NIGHT_LONG_REST (omega arith) whole) in
                elim (cases_lt (length q) (m + AU_NIGHT_LONG_REST)) [
                  | inl near ↦
                      let now = today_is first at (length p) m d e h.at (omega arith) (omega arith) in
                      inr (now, across_rested at run (today at) run_is (omega arith))
                  | inr far ↦ inl (record {
                    at = h.at;
                    broken = record {
                      from = b.from;
                      to = length p;
                      over = omega arith;
                      rest = rest_back p (x ∷ []) b.from (length p) (omega arith) (λ k s t. b.rest k s (omega arith));
                      lies = inr (record { begins = a; ends = omega arith; long = omega arith });
                    };
                  })
                ]
          ]
    ]

pub dated_tracks : (first units at run : ℕ) (p : List Activity) (x : Activity) (n : Nights) → first ≡ 15 * units → works x ≡ false → pad_units Hvnl ≤ length p → IsMinuteAt first (length p) at → Rests AU_7D_REST (p ++ x ∷ []) run →
    TracksNights first (length p) p n → TracksNights first (length p) (p ++ x ∷ []) (dated at run n)
dated_tracks first units at run p x n f w pad e r t =
    let b : ℕ = length p in
    let same = dated_starts at run n in
    let long_back : (i : ℕ) → IsLongStart (p ++ x ∷ []) i → IsLongStart p i = (λ i h. elim (start_cases p x AU_LONG_START i h) [ inl l ↦ l | inr l ↦ absurd (let z : false ≡ true = sym w ∙ l.1 in cc) ]) in
    record {
      past = past_on p x pad t.past;
      each_start = λ s o. (let q = t.each_start s (subst (λ ss. IsOneOf ss s) same o) in (q.0, open_on first b p x q.0 s q.1));
      all_starts = λ i s h. subst (λ ss. IsOneOf ss s) (sym same) (t.all_starts i s (record { long = long_back i h.long; minute = h.minute; running = h.running }));
      each_date = elim (dated_cases at run n) [
        | inl c ↦ subst (λ k. (d : ℕ) → IsOneOf k.dates d → (m : ℕ) × IsBroken first (p ++ x ∷ []) m d) (sym c.2) (λ d o. elim (one_of-append n.dates (today at ∷ []) d o) [
          | inl a ↦ (let q = t.each_date d a in (q.0, broken_more first p x q.0 d q.1))
          | inr a ↦ elim a [ inl g ↦ subst (λ d. (m : ℕ) × IsBroken first (p ++ x ∷ []) m d) g (rested_breaks first units at run p x f pad e r c.0) | inr z ↦ absurd z ]
        ])
        | inr c ↦ subst (λ k. (d : ℕ) → IsOneOf k.dates d → (m : ℕ) × IsBroken first (p ++ x ∷ []) m d) (sym c.0) (λ d o. (let q = t.each_date d o in (q.0, broken_more first p x q.0 d q.1)))
      ];
      all_dates = λ m d i s k h l.
          let old : IsOpen first b p i s = record { long = long_back i h.long; minute = h.minute; running = h.running } in
          elim (dated_cases at run n) [
            | inl c ↦ subst (λ k. IsOneOf k.dates d) (sym c.2) (elim (broken_rest first at run p x m d e r k) [
              | inl a ↦ one_of-append_left n.dates (today at ∷ []) d (t.all_dates m d i s a old l)
              | inr a ↦ one_of-append_right n.dates (today at ∷ []) d (inl (sym a.0))
            ])
            | inr c ↦ subst (λ k. IsOneOf k.dates d) (sym c.0) (elim (broken_rest first at run p x m d e r k) [
              | inl a ↦ t.all_dates m d i s a old l
              | inr a ↦ subst (IsOneOf n.dates) (sym a.0) (dated_one n.dates (today at) (c.1 a.1))
            ])
          ];
    }

-- # Periods that are over leave

running_means : (first i s at b : ℕ) → IsMinuteAt first i s → IsMinuteAt first b at → (is_running at s ≡ true) ↔ (b < i + AU_14D_PERIOD)
running_means first i s at b e f = ((λ h. let l : at < s + minutes AU_14D_PERIOD = grind (arith, nat_tests) in omega arith), (λ h. let l : at < s + minutes AU_14D_PERIOD = omega arith in grind (arith, nat_tests)))

lies_means : (first i s m d : ℕ) → IsMinuteAt first i s → IsDateAt first m d → IsNightOf first i AU_14D_PERIOD m → lies_in d s ≡ true
lies_means first i s m d e f h =
    let a = h.begins in
    let b = h.ends in
    let l : s + minutes AU_NIGHT_BEFORE ≤ DAY_MINUTES * d = omega arith in
    let r : DAY_MINUTES * d + minutes AU_NIGHT_AFTER ≤ s + minutes AU_14D_PERIOD = omega arith in
    and_from (begins_in d s) (ends_in d s) (grind (arith, nat_tests)) (grind (arith, nat_tests))

pub open_tracks : (first at bound later : ℕ) (p : List Activity) (n : Nights) → IsMinuteAt first later at → bound ≤ later → TracksNights first bound p n → TracksNights first later p (still_open at n)
open_tracks first at bound later p n e l t =
    let ss : List ℕ = running at n.starts in
    let each : (s : ℕ) → IsOneOf ss s → (i : ℕ) × IsOpen first later p i s = (λ s o.
    let q = filter_one (is_running at) n.starts s o in
    let g = t.each_start s q.0 in
    (g.0, record { long = g.1.long; minute = g.1.minute; running = (running_means first g.0 s at later g.1.minute e).0 q.1 })) in
    let all : (i s : ℕ) → IsOpen first later p i s → IsOneOf ss s = (λ i s h.
    let r = h.running in
    one_filter (is_running at) n.starts s ((running_means first i s at later h.minute e).1 h.running) (t.all_starts i s (record { long = h.long; minute = h.minute; running = omega arith }))) in
    record {
      past = t.past;
      each_start = each;
      all_starts = all;
      each_date = λ d o. t.each_date d ((filter_one (λ date. list_any (lies_in date) ss) n.dates d o).0);
      all_dates = λ m d i s k h g.
          let r = h.running in
          one_filter (λ date. list_any (lies_in date) ss) n.dates d (one_any (lies_in d) ss s (all i s h) (lies_means first i s m d h.minute k.at g))
          (t.all_dates m d i s k (record { long = h.long; minute = h.minute; running = omega arith }) g);
    }
