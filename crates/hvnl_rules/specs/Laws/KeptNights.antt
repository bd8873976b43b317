-- Which periods have their nights, and how that goes on.
use Rattle.std.proofs.Common.{◌≡◌, ℕ, zero, suc, ◌+◌, ◌-◌, ◌*◌, ◌<◌, ◌≤◌, Bool, true, ◌&&◌, cond, List, [], ◌∷◌, refl, sym, ◌∙◌, ap, subst, arith, ◌⊎◌, inl, inr}
use Rattle.std.specs.Prelude.{min, count_by, nat_lt, nat_le}
use Rattle.std.specs.List.{list_any}
use Rattle.std.proofs.lemmas.Bool.{cases_Bool, cases_lt, and_parts, and_from, or_cases, or_left, or_right}
use Rattle.std.proofs.lemmas.Bool.Decides.{nat_tests}
use Rattle.duty_core.specs.declared.limits.TheConstants.{DAY_MINUTES, AU_14D_PERIOD, AU_14D_NIGHTS, AU_NIGHT_BEFORE, AU_NIGHT_AFTER, AU_NIGHT_REST, AU_NIGHT_LONG_REST}
use Rattle.rule_core.specs.Reach.{IsOneOf}
use Rattle.rule_core.specs.Laws.OneOf.{one_of-append, one_of-append_left, one_of-append_right}
use Rattle.hvnl_rules.specs.Nights.{Nights, minutes, is_running, begins_in, ends_in, lies_in, dates_from, first_date, end_date, period_dates, is_dated, is_safe, has_four, is_pair, has_two, has_nights, next_break, past_period, today, is_rested, dated, running, still_open}
use Rattle.hvnl_rules.specs.Laws.Dates.{dated_one, one_dated, any_one, one_any, one_filter, dates_one, one_dates, count_cons}
use Rattle.hvnl_rules.specs.Laws.NightLaws.{dated_cases}

-- # The nights of a period

pub night_in : (d s : ℕ) → lies_in d s ≡ true → (first_date s ≤ d) × (d < end_date s)
night_in d s e =
    let c = and_parts (begins_in d s) (ends_in d s) e in
    let x = c.0 in
    let y = c.1 in
    let begins : s + minutes AU_NIGHT_BEFORE ≤ DAY_MINUTES * d = grind (arith, nat_tests) in
    let ends : DAY_MINUTES * d + minutes AU_NIGHT_AFTER ≤ s + minutes AU_14D_PERIOD = grind (arith, nat_tests) in
    (omega arith, omega arith)

pub in_night : (d s : ℕ) → first_date s ≤ d → d < end_date s → lies_in d s ≡ true
in_night d s a b =
    let begins : s + minutes AU_NIGHT_BEFORE ≤ DAY_MINUTES * d = omega arith in
    let ends : DAY_MINUTES * d + minutes AU_NIGHT_AFTER ≤ s + minutes AU_14D_PERIOD = omega arith in
    and_from (begins_in d s) (ends_in d s) (grind (arith, nat_tests)) (grind (arith, nat_tests))

-- # Counting the dates of two periods

count_one : (u : ℕ → Bool) (d m c : ℕ) → c ≤ d → d < c + m → u d ≡ true → 1 + count_by u (dates_from (d + 1) (c + m - (d + 1))) ≤ count_by u (dates_from c m)
count_one u d zero c a b e = absurd (omega arith)
count_one u d (suc m) c a b e =
    let f = count_cons u c (dates_from (c + 1) m) in
    elim (cases_lt c d) [
      | inl l ↦
          let q = count_one u d m (c + 1) (omega arith) (omega arith) e in
          let same : c + 1 + m - (d + 1) ≡ c + suc m - (d + 1) = omega arith in
          let r = ap (λ n. count_by u (dates_from (d + 1) n)) same in
          omega arith
      | inr l ↦
          let same : c ≡ d = omega arith in
          let one : cond {A = ℕ} (u c) 1 0 ≡ 1 = ap (λ b. cond {A = ℕ} b 1 0) (ap u same ∙ e) in
          let left : c + suc m - (d + 1) ≡ m = omega arith in
          let r = ap (λ n. count_by u (dates_from (d + 1) n)) left in
          let s = ap (λ k. count_by u (dates_from (k + 1) m)) same in
          omega arith
    ]

-- Where each date that passes here is one that passes there, no more pass here than there.
count_within : (t u : ℕ → Bool) (n d m c : ℕ) → ((k : ℕ) → d ≤ k → k < d + n → t k ≡ true → (c ≤ k) × (k < c + m) × (u k ≡ true)) → count_by t (dates_from d n) ≤ count_by u (dates_from c m)
count_within t u zero d m c h = omega arith
count_within t u (suc n) d m c h =
    let a = count_cons t d (dates_from (d + 1) n) in
    elim (cases_Bool (t d)) [
      | inl y ↦
          let g = h d (omega arith) (omega arith) y in
          let f = count_one u d m c g.0 g.1 g.2 in
          let lo = g.0 in
          let hi = g.1 in
          let q = count_within t u n (d + 1) (c + m - (d + 1)) (d + 1) (λ k i j e. let r = h k (omega arith) (omega arith) e in let top = r.1 in (i, omega arith, r.2)) in
          let one : cond {A = ℕ} (t d) 1 0 ≡ 1 = ap (λ b. cond {A = ℕ} b 1 0) y in
          omega arith
      | inr z ↦
          let q = count_within t u n (d + 1) m c (λ k i j e. h k (omega arith) (omega arith) e) in
          let none : cond {A = ℕ} (t d) 1 0 ≡ 0 = ap (λ b. cond {A = ℕ} b 1 0) z in
          omega arith
    ]

-- # Periods that have their nights

-- Where each safe night of the period s is a safe night of t, t has its nights if s has.
pub nights_moved : (so to : ℕ) (ds es : List ℕ) (s t : ℕ) → ((d : ℕ) → first_date s ≤ d → d < end_date s → is_safe so ds d ≡ true → (first_date t ≤ d) × (d < end_date t) × (is_safe to es d ≡ true)) →
    has_nights so ds s ≡ true → has_nights to es t ≡ true
nights_moved so to ds es s t h e =
    let c = and_parts (has_four so ds s) (has_two so ds s) e in
    let four = c.0 in
    let least : AU_14D_NIGHTS ≤ count_by (is_safe so ds) (period_dates s) = grind (arith, nat_tests) in
    let less = count_within (is_safe so ds) (is_safe to es) (end_date s - first_date s) (first_date s) (end_date t - first_date t) (first_date t)
    (λ d a b y. let q = h d a (omega arith) y in let lo = q.0 in let hi = q.1 in (lo, omega arith, q.2)) in
    let enough : AU_14D_NIGHTS ≤ count_by (is_safe to es) (period_dates t) = omega arith in
    let g = any_one (is_pair so ds s) (period_dates s) c.1 in
    let p = and_parts (is_safe so ds g.0 && is_safe so ds (g.0 + 1)) (ends_in (g.0 + 1) s) g.2 in
    let q = and_parts (is_safe so ds g.0) (is_safe so ds (g.0 + 1)) p.0 in
    let inside = dates_one (first_date s) (end_date s - first_date s) g.0 g.1 in
    let lo = inside.0 in
    let hi = inside.1 in
    let last = p.1 in
    let ends : DAY_MINUTES * (g.0 + 1) + minutes AU_NIGHT_AFTER ≤ s + minutes AU_14D_PERIOD = grind (arith, nat_tests) in
    let one = h g.0 lo (omega arith) q.0 in
    let two = h (g.0 + 1) (omega arith) (omega arith) q.1 in
    let from = one.0 in
    let before = two.1 in
    let over : DAY_MINUTES * (g.0 + 1) + minutes AU_NIGHT_AFTER ≤ t + minutes AU_14D_PERIOD = omega arith in
    and_from (has_four to es t) (has_two to es t) (grind (arith, nat_tests))
    (one_any (is_pair to es t) (period_dates t) g.0 (one_dates (first_date t) (end_date t - first_date t) g.0 from (omega arith))
    (and_from (is_safe to es g.0 && is_safe to es (g.0 + 1)) (ends_in (g.0 + 1) t) (and_from (is_safe to es g.0) (is_safe to es (g.0 + 1)) one.2 two.2) (grind (arith, nat_tests))))

-- a night of the period that is safe where no break can come any more has one
past_dated : (so : ℕ) (ds : List ℕ) (d s : ℕ) → s + minutes AU_14D_PERIOD < so → d < end_date s → is_safe so ds d ≡ true → is_dated ds d ≡ true
past_dated so ds d s l b e = elim (or_cases (is_dated ds d) (nat_le so (DAY_MINUTES * d + minutes AU_NIGHT_AFTER)) e) [
  | inl y ↦ y
  | inr y ↦ absurd (let m : so ≤ DAY_MINUTES * d + minutes AU_NIGHT_AFTER = grind (arith, nat_tests) in omega arith)
]

-- Where each night of the period s with a break is one of t, and has a break there, t has its nights for good if s has.
pub nights_carried : (so : ℕ) (ds es : List ℕ) (s t : ℕ) → s + minutes AU_14D_PERIOD < so → ((d : ℕ) → IsOneOf ds d → lies_in d s ≡ true → (lies_in d t ≡ true) × IsOneOf es d) → has_nights so ds s ≡ true → has_nights (past_period t) es t ≡ true
nights_carried so ds es s t l h e = nights_moved so (past_period t) ds es s t (λ d a b y.
    let q = h d (dated_one ds d (past_dated so ds d s l b y)) (in_night d s a b) in
    let r = night_in d t q.0 in
    (r.0, r.1, or_left (is_dated es d) (nat_le (past_period t) (DAY_MINUTES * d + minutes AU_NIGHT_AFTER)) (one_dated es d q.1))) e

-- and so it has them whatever comes
pub nights_for_good : (so : ℕ) (ds : List ℕ) (s : ℕ) → has_nights (past_period s) ds s ≡ true → has_nights so ds s ≡ true
nights_for_good so ds s e = nights_moved (past_period s) so ds ds s s (λ d a b y. (a, b, or_left (is_dated ds d) (nat_le so (DAY_MINUTES * d + minutes AU_NIGHT_AFTER)) (past_dated (past_period s) ds d s (omega arith) b y))) e

-- # One more rest unit

-- the date of a rest unit
pub one_of_dated : (at run : ℕ) (n : Nights) (d : ℕ) → IsOneOf (dated at run n).dates d → IsOneOf n.dates d ⊎ ((today at ≡ d) × (is_rested at run (today at) ≡ true))
one_of_dated at run n d o = elim (dated_cases at run n) [
  | inl c ↦ elim (one_of-append n.dates (today at ∷ []) d (subst (λ k. IsOneOf k.dates d) c.2 o)) [ inl y ↦ inl y | inr y ↦ elim y [ inl e ↦ inr (e, c.0) | inr z ↦ absurd z ] ]
  | inr c ↦ inl (subst (λ k. IsOneOf k.dates d) c.0 o)
]

pub dated_keeps : (at run : ℕ) (n : Nights) (d : ℕ) → IsOneOf n.dates d → IsOneOf (dated at run n).dates d
dated_keeps at run n d o = elim (dated_cases at run n) [ inl c ↦ subst (λ k. IsOneOf k.dates d) (sym c.2) (one_of-append_left n.dates (today at ∷ []) d o) | inr c ↦ subst (λ k. IsOneOf k.dates d) (sym c.0) o ]

pub dated_new : (at run : ℕ) (n : Nights) → is_rested at run (today at) ≡ true → IsOneOf (dated at run n).dates (today at)
dated_new at run n e = elim (dated_cases at run n) [
  | inl c ↦ subst (λ k. IsOneOf k.dates (today at)) (sym c.2) (one_of-append_right n.dates (today at ∷ []) (today at) (inl refl))
  | inr c ↦ subst (λ k. IsOneOf k.dates (today at)) (sym c.0) (dated_one n.dates (today at) (c.1 e))
]

-- the night that can get its break with this rest unit at the latest gets it
rested_last : (at more d : ℕ) → AU_NIGHT_REST ≤ more → at + minutes 1 ≤ DAY_MINUTES * d + minutes AU_NIGHT_AFTER → DAY_MINUTES * d + minutes AU_NIGHT_AFTER < at + minutes 2 → (today at ≡ d) × (is_rested at more (today at) ≡ true)
rested_last at more d l a b =
    let same : today at ≡ d = omega arith in
    let P = nat_le (DAY_MINUTES * today at + minutes AU_NIGHT_REST) (at + minutes (1 + AU_NIGHT_BEFORE)) in
    let Q = nat_le (at + minutes 1) (DAY_MINUTES * today at + minutes AU_NIGHT_AFTER) in
    let begins : DAY_MINUTES * today at + minutes AU_NIGHT_REST ≤ at + minutes (1 + AU_NIGHT_BEFORE) = omega arith in
    let ends : at + minutes 1 ≤ DAY_MINUTES * today at + minutes AU_NIGHT_AFTER = omega arith in (
      same,
      or_left (nat_le AU_NIGHT_REST more && (P && Q)) (nat_le AU_NIGHT_LONG_REST more && nat_lt (at + minutes 1) (DAY_MINUTES * today at + minutes AU_NIGHT_LONG_REST))
          (and_from (nat_le AU_NIGHT_REST more) (P && Q) (grind (arith, nat_tests)) (and_from P Q (grind (arith, nat_tests)) (grind (arith, nat_tests)))),
    )

safe_rest : (at run more : ℕ) (n : Nights) (d : ℕ) → min (run + 1) AU_NIGHT_REST ≤ more → is_safe (next_break at run) n.dates d ≡ true → is_safe (next_break (at + minutes 1) more) (dated at more n).dates d ≡ true
safe_rest at run more n d l e =
    let D = is_dated (dated at more n).dates d in
    let S = nat_le (next_break (at + minutes 1) more) (DAY_MINUTES * d + minutes AU_NIGHT_AFTER) in
    elim (or_cases (is_dated n.dates d) (nat_le (next_break at run) (DAY_MINUTES * d + minutes AU_NIGHT_AFTER)) e) [
      | inl y ↦ or_left D S (one_dated (dated at more n).dates d (dated_keeps at more n d (dated_one n.dates d y)))
      | inr y ↦
          let m : next_break at run ≤ DAY_MINUTES * d + minutes AU_NIGHT_AFTER = grind (arith, nat_tests) in
          elim (cases_lt (DAY_MINUTES * d + minutes AU_NIGHT_AFTER) (next_break (at + minutes 1) more)) [
            | inr k ↦ or_right D S (grind (arith, nat_tests))
            | inl k ↦
                let r = rested_last at more d (omega arith) (omega arith) (omega arith) in
                or_left D S (one_dated (dated at more n).dates d (subst (IsOneOf (dated at more n).dates) r.0 (dated_new at more n r.1)))
          ]
    ]

-- with rest that goes on a period has its nights still
pub kept_rest : (at run more : ℕ) (n : Nights) (s : ℕ) → min (run + 1) AU_NIGHT_REST ≤ more → has_nights (next_break at run) n.dates s ≡ true → has_nights (next_break (at + minutes 1) more) (dated at more n).dates s ≡ true
kept_rest at run more n s l e = nights_moved (next_break at run) (next_break (at + minutes 1) more) n.dates (dated at more n).dates s s (λ d a b y. (a, b, safe_rest at run more n d l y)) e

-- # Periods that are over leave

pub date_open : (at : ℕ) (n : Nights) (d s : ℕ) → is_running at s ≡ true → IsOneOf n.starts s → lies_in d s ≡ true → IsOneOf n.dates d → IsOneOf (still_open at n).dates d
date_open at n d s r o e i = one_filter (λ date. list_any (lies_in date) (running at n.starts)) n.dates d (one_any (lies_in d) (running at n.starts) s (one_filter (is_running at) n.starts s r o) e) i

pub kept_open : (at so : ℕ) (n : Nights) (s : ℕ) → is_running at s ≡ true → IsOneOf n.starts s → has_nights so n.dates s ≡ true → has_nights so (still_open at n).dates s ≡ true
kept_open at so n s r o e = nights_moved so so n.dates (still_open at n).dates s s (λ d a b y. (
  a,
  b,
  elim (or_cases (is_dated n.dates d) (nat_le so (DAY_MINUTES * d + minutes AU_NIGHT_AFTER)) y) [
    | inl z ↦ or_left (is_dated (still_open at n).dates d) (nat_le so (DAY_MINUTES * d + minutes AU_NIGHT_AFTER)) (one_dated (still_open at n).dates d (date_open at n d s r o (in_night d s a b) (dated_one n.dates d z)))
    | inr z ↦ or_right (is_dated (still_open at n).dates d) (nat_le so (DAY_MINUTES * d + minutes AU_NIGHT_AFTER)) z
  ],
)) e
