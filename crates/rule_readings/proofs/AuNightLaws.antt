-- The breaks of nights, and the midnights.
use Rattle.std.proofs.Common.{◌≡◌, ℕ, ◌+◌, ◌-◌, ◌*◌, ◌/◌, ◌%◌, ◌<◌, ◌≤◌, ◌⊎◌, List, sym, ◌∙◌, ap, arith, inl, inr}
use Rattle.std.specs.Prelude.{ℤ, pos, negsuc, ◌-ℤ◌, ◌*ℤ◌}
use Rattle.std.proofs.lemmas.Bool.{cases_lt}
use Rattle.std.proofs.lemmas.Int.{ints}
use Rattle.duty_core.specs.declared.activity.Activity.{Activity}
use Rattle.duty_core.specs.declared.limits.TheConstants.{DAY_MINUTES, AU_NIGHT_BEFORE, AU_NIGHT_AFTER, AU_NIGHT_REST, AU_NIGHT_LONG_REST}
use Rattle.duty_core.specs.declared.params.Params.TheVariants.{Hvnl}
use Rattle.duty_core.specs.Params.{unit_minutes, day_units}
use Rattle.duty_core.specs.History.{pad_days}
use Rattle.duty_core.specs.Stretch.{IsRest}
use Rattle.duty_core.specs.AuNights.{IsMidnight, HasBreak}
use Rattle.rule_readings.specs.AuCounts.{IsRestBefore, IsRestAfter, IsLongestRest}
use Rattle.rule_readings.specs.AuNightCounts.{IsLongAcross, IsNextMidnight}

across : (p : List Activity) (m from to before after : ℕ) → from < m → m < to → from + AU_NIGHT_LONG_REST ≤ to → IsRest p from to → IsRestBefore p m AU_NIGHT_LONG_REST before → IsRestAfter p m AU_NIGHT_LONG_REST after → IsLongAcross before after
across p m from to before after b e l h x y =
    let u : (AU_NIGHT_LONG_REST ≤ before) ⊎ (m ≤ from + before) = elim (cases_lt (from + AU_NIGHT_LONG_REST) m) [
      | inl c ↦ inl (let w = x.longest (m - AU_NIGHT_LONG_REST) (λ k a d. h k (omega arith) (omega arith)) (omega arith) in omega arith)
      | inr c ↦ inr (x.longest from (λ k a d. h k a (omega arith)) c)
    ] in
    let v : (AU_NIGHT_LONG_REST ≤ after) ⊎ (to ≤ m + after) = elim (cases_lt (m + AU_NIGHT_LONG_REST) to) [
      | inl c ↦ inl (let w = y.longest (m + AU_NIGHT_LONG_REST) (λ k a d. h k (omega arith) (omega arith)) (omega arith) in omega arith)
      | inr c ↦ inr (y.longest to (λ k a d. h k (omega arith) d) c)
    ] in
    elim u [
      | inl c ↦ elim v [ inl d ↦ record { some_before = omega arith; some_after = omega arith; long = omega arith } | inr d ↦ record { some_before = omega arith; some_after = omega arith; long = omega arith } ]
      | inr c ↦ elim v [ inl d ↦ record { some_before = omega arith; some_after = omega arith; long = omega arith } | inr d ↦ record { some_before = omega arith; some_after = omega arith; long = omega arith } ]
    ]

-- a night has a break inside it, or across its midnight
pub break_cases : (p : List Activity) (m inside before after : ℕ) → IsLongestRest p (m - AU_NIGHT_BEFORE) (m + AU_NIGHT_AFTER) inside → IsRestBefore p m AU_NIGHT_LONG_REST before → IsRestAfter p m AU_NIGHT_LONG_REST after →
    HasBreak p m → (AU_NIGHT_REST ≤ inside) ⊎ IsLongAcross before after
break_cases p m inside before after l b a h =
    let g = h.1 in
    elim g.lies [
      | inl x ↦ (let u = x.begins in let v = x.ends in let w = x.long in inl (l.longest AU_NIGHT_REST (record { at = g.from; after = omega arith; before = omega arith; rest = λ k c d. g.rest k c (omega arith) })))
      | inr x ↦ inr (across p m g.from g.to before after x.begins x.ends x.long g.rest b a)
    ]

pub break_inside : (p : List Activity) (m inside : ℕ) → IsLongestRest p (m - AU_NIGHT_BEFORE) (m + AU_NIGHT_AFTER) inside → AU_NIGHT_REST ≤ inside → HasBreak p m
break_inside p m inside l e =
    let r = l.held in
    let u = r.after in
    let v = r.before in
    (r.at + inside, record { from = r.at; to = r.at + inside; over = omega arith; rest = r.rest; lies = inl (record { begins = omega arith; ends = omega arith; long = omega arith }) })

pub break_across : (p : List Activity) (m before after : ℕ) → IsRestBefore p m AU_NIGHT_LONG_REST before → IsRestAfter p m AU_NIGHT_LONG_REST after → IsLongAcross before after → HasBreak p m
break_across p m before after b a x =
    let t = b.there in
    let u = x.some_before in
    let v = x.some_after in
    let w = x.long in (
      m + after,
      record {
        from = m - before;
        to = m + after;
        over = omega arith;
        rest = λ k c d. elim (cases_lt k m) [ inl e ↦ b.rest k c e | inr e ↦ a.rest k e d ];
        lies = inr (record { begins = omega arith; ends = omega arith; long = omega arith });
      },
    )

-- The days that lie before a midnight, where the history begins so many quarters after a midnight. The padding is whole days.
whole_days : (a k : ℕ) (date : ℤ) → pos a -ℤ pos (k * DAY_MINUTES) ≡ date *ℤ pos DAY_MINUTES → (days : ℕ) × (a ≡ DAY_MINUTES * days)
whole_days a k (pos n) e = (n + k, omega (arith, ints))
whole_days a k (negsuc n) e = (k - (n + 1), omega (arith, ints))

pub midnight_days : (first units m : ℕ) → first ≡ unit_minutes Hvnl * units → IsMidnight first m → (days : ℕ) × (units + m ≡ day_units Hvnl * days)
midnight_days first units m f h =
    let e : unit_minutes Hvnl * (pad_days * day_units Hvnl) ≡ pad_days * DAY_MINUTES = omega arith in
    let d = whole_days (first + unit_minutes Hvnl * m) pad_days h.0 (ap (λ k. pos (first + unit_minutes Hvnl * m) -ℤ pos k) (sym e) ∙ h.1) in
    let g = d.1 in
    (d.0, omega arith)

pub days_midnight : (first units m days : ℕ) → first ≡ unit_minutes Hvnl * units → units + m ≡ day_units Hvnl * days → IsMidnight first m
days_midnight first units m days f h = (pos days -ℤ pos pad_days, omega (arith, ints))

-- midnights lie a day apart
pub midnights_apart : (first units m k : ℕ) → first ≡ unit_minutes Hvnl * units → IsMidnight first m → IsMidnight first k → m < k → m + day_units Hvnl ≤ k
midnights_apart first units m k f a b l =
    let d = midnight_days first units m f a in
    let e = midnight_days first units k f b in
    let u = d.1 in
    let v = e.1 in
    omega arith

-- the midnight after one
pub midnight_after : (first units m : ℕ) → first ≡ unit_minutes Hvnl * units → IsMidnight first m → IsMidnight first (m + day_units Hvnl)
midnight_after first units m f a =
    let d = midnight_days first units m f a in
    let u = d.1 in
    days_midnight first units (m + day_units Hvnl) (d.0 + 1) f (omega arith)

next_day : (first units start place : ℕ) → first ≡ unit_minutes Hvnl * units → start ≡ units → (start + place) % day_units Hvnl ≡ 0 → IsNextMidnight first place place
next_day first units start place f s e = record { midnight = days_midnight first units place ((start + place) / day_units Hvnl) f (omega arith); after = omega arith; near = omega arith }

later_day : (first units start place since m : ℕ) → first ≡ unit_minutes Hvnl * units → start ≡ units → since ≡ (start + place) % day_units Hvnl → 0 < since → m ≡ place + (day_units Hvnl - since) → IsNextMidnight first place m
later_day first units start place since m f s e l h = record { midnight = days_midnight first units m ((start + place) / day_units Hvnl + 1) f (omega arith); after = omega arith; near = omega arith }

whole_units : (first units unit : ℕ) → unit ≡ unit_minutes Hvnl → first ≡ unit_minutes Hvnl * units → first / unit ≡ units
whole_units first units unit e f = ap (λ k. first / k) e ∙ omega arith

-- a place that is a midnight
pub next_now : (first units unit day place : ℕ) → unit ≡ unit_minutes Hvnl → day ≡ day_units Hvnl → first ≡ unit_minutes Hvnl * units → (first / unit + place) % day ≡ 0 → IsNextMidnight first place place
next_now first units unit day place u d f e = next_day first units (first / unit) place f (whole_units first units unit u f) (ap (λ k. (first / unit + place) % k) (sym d) ∙ e)

-- a place that is none, where so many units lie since the last one
pub next_later : (first units unit day place since m : ℕ) → unit ≡ unit_minutes Hvnl → day ≡ day_units Hvnl → first ≡ unit_minutes Hvnl * units → since ≡ (first / unit + place) % day → (since ≡ 0 → ⊥) → m ≡ place + (day - since) → IsNextMidnight first place m
next_later first units unit day place since m u d f e l h = later_day first units (first / unit) place since m f (whole_units first units unit u f) (e ∙ ap (λ k. (first / unit + place) % k) d) (omega arith) (omega arith)
