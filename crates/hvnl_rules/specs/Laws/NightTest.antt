-- What the test of the periods' nights means, and which periods it need not look at.
use Rattle.std.proofs.Common.{◌≡◌, ◌↔◌, ℕ, ◌+◌, ◌-◌, ◌*◌, ◌<◌, ◌≤◌, Bool, true, false, ◌&&◌, List, [], ◌∷◌, ◌++◌, length, get_or, sym, ◌∙◌, ap, subst, arith, inl, inr}
use Rattle.std.specs.Prelude.{max, count_by, nat_le}
use Rattle.std.proofs.lemmas.Bool.{cases_lt, and_parts, and_from, or_cases, or_left, or_right}
use Rattle.std.proofs.lemmas.Bool.Decides.{nat_tests}
use Rattle.std.proofs.lemmas.List.Kept.{AllPairs-from_increasing}
use Rattle.duty_core.specs.declared.activity.Activity.{Activity}
use Rattle.duty_core.specs.declared.params.Params.TheVariants.{Hvnl}
use Rattle.duty_core.specs.declared.limits.TheConstants.{DAY_MINUTES, AU_14D_PERIOD, AU_14D_NIGHTS, AU_NIGHT_BEFORE, AU_NIGHT_AFTER, AU_NIGHT_REST}
use Rattle.duty_core.specs.Params.{day_units}
use Rattle.duty_core.specs.Activity.{rests, works}
use Rattle.duty_core.specs.History.{pad_units}
use Rattle.duty_core.specs.Laws.HistoryLaws.{unit_at-last, unit_at-past, length-one_more}
use Rattle.duty_core.specs.AuNights.{IsNightOf, HasBreakBy, HasBreak, IsBrokenNight, HasNights, HasTwoNights}
use Rattle.allowance.specs.Laws.AllowLaws.{rests-works}
use Rattle.hvnl_rules.specs.Laws.CountedLaws.{padding_long}
use Rattle.hvnl_rules.specs.Nights.{Nights, minutes, ends_in, first_date, end_date, period_dates, is_dated, is_safe, has_four, is_pair, has_two, has_nights, nights_ok}
use Rattle.hvnl_rules.specs.Laws.Dates.{IsMinuteAt, IsDateAt, midnight_date, place_of, place_date, night_means, means_night, dated_one, one_dated, any_one, one_any, all_one, one_all, dates_one, one_dates, IsTested, few_nights, some_nights}
use Rattle.hvnl_rules.specs.Laws.NightLaws.{IsOpen, TracksNights, broken_on}

-- what is asked of the nights from place i on
abbrev pub AreNightsKept : ℕ → List Activity → ℕ → Type 0
AreNightsKept first p i = HasNights AU_14D_NIGHTS first p i AU_14D_PERIOD × HasTwoNights first p i AU_14D_PERIOD

-- # One night

-- rest for good after p breaks the night
safe_break : (p : List Activity) (m : ℕ) → length p + AU_NIGHT_REST ≤ m + AU_NIGHT_AFTER → HasBreak p m
safe_break p m l =
    let from : ℕ = max (length p) (m - AU_NIGHT_BEFORE) in (
      from + AU_NIGHT_REST,
      record {
        from = from;
        to = from + AU_NIGHT_REST;
        over = omega arith;
        rest = λ k a b. ap rests (unit_at-past p k (omega arith));
        lies = inl (record { begins = omega arith; ends = omega arith; long = omega arith });
      },
    )

-- The night of date d is safe exactly where its break is there, or comes with rest for good.
pub safe_means : (first at bound : ℕ) (p : List Activity) (x : Activity) (n : Nights) (m d i s : ℕ) → works x ≡ true → IsMinuteAt first (length (p ++ x ∷ [])) at → TracksNights first bound (p ++ x ∷ []) n →
    IsDateAt first m d → IsOpen first bound (p ++ x ∷ []) i s → IsNightOf first i AU_14D_PERIOD m → (is_safe (at + minutes AU_NIGHT_REST) n.dates d ≡ true) ↔ HasBreak (p ++ x ∷ []) m
safe_means first at bound p x n m d i s w e t a o l =
    let q : List Activity = p ++ x ∷ [] in
    let len = length-one_more p x in
    let test : Bool = nat_le (at + minutes AU_NIGHT_REST) (DAY_MINUTES * d + minutes AU_NIGHT_AFTER) in (
      (λ h. elim (or_cases (is_dated n.dates d) test h) [
        | inl y ↦
            let g = t.each_date d (dated_one n.dates d y) in
            let ga = g.1.at in
            let same : g.0 ≡ m = omega arith in
            (length q, subst (HasBreakBy (length q) q) same g.1.broken)
        | inr y ↦ (let c : at + minutes AU_NIGHT_REST ≤ DAY_MINUTES * d + minutes AU_NIGHT_AFTER = grind (arith, nat_tests) in safe_break q m (omega arith))
      ]),
      (λ h.
          let b = h.1 in
          elim (cases_lt (length q) b.to) [
            | inr z ↦ or_left (is_dated n.dates d) test (one_dated n.dates d (t.all_dates m d i s (record { at = a; broken = record { from = b.from; to = b.to; over = z; rest = b.rest; lies = b.lies } }) o l))
            | inl z ↦
                let after : length q ≤ b.from = (elim (cases_lt b.from (length q)) [
                  | inl y ↦ absurd (let c : true ≡ false = sym (b.rest (length p) (omega arith) (omega arith)) ∙ (ap rests (unit_at-last p x) ∙ rests-works x true w) in cc)
                  | inr y ↦ y
                ]) in
                let near : length q + AU_NIGHT_REST ≤ m + AU_NIGHT_AFTER = (elim b.lies [
                  | inl u ↦ (let f = u.ends in let g = u.long in omega arith)
                  | inr u ↦ (let f = u.begins in omega arith)
                ]) in
                let c : at + minutes AU_NIGHT_REST ≤ DAY_MINUTES * d + minutes AU_NIGHT_AFTER = omega arith in
                or_right (is_dated n.dates d) test (grind (arith, nat_tests))
          ]),
    )

-- # One period

module _ (first units at bound : ℕ) (p : List Activity) (x : Activity) (n : Nights) (i s : ℕ) (f : first ≡ 15 * units) (w : works x ≡ true) (e : IsMinuteAt first (length (p ++ x ∷ [])) at)
    (t : TracksNights first bound (p ++ x ∷ []) n) (o : IsOpen first bound (p ++ x ∷ []) i s) where
  -- a night of the period, as a date that passes the test
  night_tested : (m : ℕ) → IsBrokenNight first (p ++ x ∷ []) i AU_14D_PERIOD m → IsTested first (is_safe (at + minutes AU_NIGHT_REST) n.dates) (first_date s) (end_date s - first_date s) m
  night_tested m b =
      let q : List Activity = p ++ x ∷ [] in
      let pad = t.past i o.long.works_there in
      let nb = b.0.begins in
      let d = midnight_date first m (omega arith) b.0.midnight in
      let lies = night_means first i m d.0 s o.minute d.1 b.0 in
      let lo = lies.0 in
      let hi = lies.1 in
      record {
        date = d.0;
        at = d.1;
        from = lo;
        before = omega arith;
        passes = (safe_means first at bound p x n m d.0 i s w e t d.1 o b.0).1 b.1;
      }

  -- the period begins after the padding, and so do its dates
  dates_after : units ≤ 96 * first_date s + pad_units Hvnl
  dates_after = let pad = t.past i o.long.works_there in let mi = o.minute in let z = padding_long in omega arith

  -- and back
  tested_night : (d : ℕ) → first_date s ≤ d → d < first_date s + (end_date s - first_date s) → is_safe (at + minutes AU_NIGHT_REST) n.dates d ≡ true → IsBrokenNight first (p ++ x ∷ []) i AU_14D_PERIOD (place_of units d)
  tested_night d a b y =
      let l = dates_after in
      let pd = place_date first units d f (omega arith) in
      let night = means_night first i (place_of units d) d s o.minute pd a (omega arith) in
      (night, (safe_means first at bound p x n (place_of units d) d i s w e t pd o night).0 y)

  pub four_means : (has_four (at + minutes AU_NIGHT_REST) n.dates s ≡ true) ↔ HasNights AU_14D_NIGHTS first (p ++ x ∷ []) i AU_14D_PERIOD
  four_means = (
    (λ h.
        let g = some_nights units (is_safe (at + minutes AU_NIGHT_REST) n.dates) (IsBrokenNight first (p ++ x ∷ []) i AU_14D_PERIOD) (first_date s) (end_date s - first_date s) dates_after tested_night in
        let many = g.many in
        let l : AU_14D_NIGHTS ≤ count_by (is_safe (at + minutes AU_NIGHT_REST) n.dates) (period_dates s) = grind (arith, nat_tests) in
        record { nights = g.places; apart = λ k b. g.apart k (k + 1) 0 (omega arith) b; enough = omega arith; broken = g.each }),
    (λ h.
        let a = few_nights first (is_safe (at + minutes AU_NIGHT_REST) n.dates) (first_date s) (end_date s - first_date s) h.nights (AllPairs-from_increasing h.nights h.apart) (λ k d b. night_tested (get_or h.nights k d) (h.broken k d b)) in
        let b = h.enough in
        let l : AU_14D_NIGHTS ≤ count_by (is_safe (at + minutes AU_NIGHT_REST) n.dates) (period_dates s) = omega arith in
        grind (arith, nat_tests)),
  )

  pub two_means : (has_two (at + minutes AU_NIGHT_REST) n.dates s ≡ true) ↔ HasTwoNights first (p ++ x ∷ []) i AU_14D_PERIOD
  two_means = (
    (λ h.
        let g = any_one (is_pair (at + minutes AU_NIGHT_REST) n.dates s) (period_dates s) h in
        let inside = dates_one (first_date s) (end_date s - first_date s) g.0 g.1 in
        let lo = inside.0 in
        let hi = inside.1 in
        let parts = and_parts (is_safe (at + minutes AU_NIGHT_REST) n.dates g.0 && is_safe (at + minutes AU_NIGHT_REST) n.dates (g.0 + 1)) (ends_in (g.0 + 1) s) g.2 in
        let both = and_parts (is_safe (at + minutes AU_NIGHT_REST) n.dates g.0) (is_safe (at + minutes AU_NIGHT_REST) n.dates (g.0 + 1)) parts.0 in
        let last = parts.1 in
        let ends : DAY_MINUTES * (g.0 + 1) + minutes AU_NIGHT_AFTER ≤ s + minutes AU_14D_PERIOD = grind (arith, nat_tests) in
        let l = dates_after in
        let next : place_of units (g.0 + 1) ≡ place_of units g.0 + day_units Hvnl = omega arith in
        record {
          night = place_of units g.0;
          one = tested_night g.0 lo hi both.0;
          next = subst (IsBrokenNight first (p ++ x ∷ []) i AU_14D_PERIOD) next (tested_night (g.0 + 1) (omega arith) (omega arith) both.1);
        }),
    (λ h.
        let a = night_tested h.night h.one in
        let b = night_tested (h.night + day_units Hvnl) h.next in
        let aa = a.at in
        let ba = b.at in
        let same : b.date ≡ a.date + 1 = omega arith in
        let hi = b.before in
        let lo = a.from in
        let ah = a.before in
        let last : DAY_MINUTES * (a.date + 1) + minutes AU_NIGHT_AFTER ≤ s + minutes AU_14D_PERIOD = omega arith in
        one_any (is_pair (at + minutes AU_NIGHT_REST) n.dates s) (period_dates s) a.date (one_dates (first_date s) (end_date s - first_date s) a.date lo ah)
        (and_from (is_safe (at + minutes AU_NIGHT_REST) n.dates a.date && is_safe (at + minutes AU_NIGHT_REST) n.dates (a.date + 1)) (ends_in (a.date + 1) s)
        (and_from (is_safe (at + minutes AU_NIGHT_REST) n.dates a.date) (is_safe (at + minutes AU_NIGHT_REST) n.dates (a.date + 1)) a.passes (subst (λ d. is_safe (at + minutes AU_NIGHT_REST) n.dates d ≡ true) same b.passes)) (grind (arith, nat_tests)))),
  )

-- # All periods

-- The test is passed exactly where the open periods are kept with rest for good.
pub ok_means : (first units at bound : ℕ) (p : List Activity) (x : Activity) (n : Nights) → first ≡ 15 * units → works x ≡ true → IsMinuteAt first (length (p ++ x ∷ [])) at → TracksNights first bound (p ++ x ∷ []) n →
    (nights_ok at n ≡ true) ↔ ((i s : ℕ) → IsOpen first bound (p ++ x ∷ []) i s → AreNightsKept first (p ++ x ∷ []) i)
ok_means first units at bound p x n f w e t = (
  (λ h i s o.
      let b = and_parts (has_four (at + minutes AU_NIGHT_REST) n.dates s) (has_two (at + minutes AU_NIGHT_REST) n.dates s) (all_one (has_nights (at + minutes AU_NIGHT_REST) n.dates) n.starts h s (t.all_starts i s o)) in
      ((four_means first units at bound p x n i s f w e t o).0 b.0, (two_means first units at bound p x n i s f w e t o).0 b.1)),
  (λ h. one_all (has_nights (at + minutes AU_NIGHT_REST) n.dates) n.starts (λ s o.
      let g = t.each_start s o in
      let k = h g.0 s g.1 in
      and_from (has_four (at + minutes AU_NIGHT_REST) n.dates s) (has_two (at + minutes AU_NIGHT_REST) n.dates s) ((four_means first units at bound p x n g.0 s f w e t g.1).1 k.0) ((two_means first units at bound p x n g.0 s f w e t g.1).1 k.1))),
)

-- # Periods that are over

-- a night that is over has its break already
pub decided : (p : List Activity) (m : ℕ) → m + AU_NIGHT_AFTER ≤ length p → HasBreak p m → HasBreakBy (length p) p m
decided p m l h =
    let b = h.1 in
    elim (cases_lt (length p) b.to) [
      | inr z ↦ record { from = b.from; to = b.to; over = z; rest = b.rest; lies = b.lies }
      | inl z ↦ elim b.lies [
        | inl u ↦ absurd (let f = u.ends in omega arith)
        | inr u ↦
            let a = u.begins in
            record { from = m; to = m + AU_NIGHT_REST; over = omega arith; rest = λ k c d. b.rest k (omega arith) (omega arith); lies = inl (record { begins = omega arith; ends = omega arith; long = omega arith }) }
      ]
    ]

over_night : (first : ℕ) (p q : List Activity) (i m : ℕ) → i + AU_14D_PERIOD ≤ length p → IsBrokenNight first p i AU_14D_PERIOD m → IsBrokenNight first (p ++ q) i AU_14D_PERIOD m
over_night first p q i m l b = let c = b.0.ends in (b.0, (length p, broken_on p q (length p) m (omega arith) (decided p m (omega arith) b.1)))

-- so a period that is over stays kept
pub over_kept : (first : ℕ) (p q : List Activity) (i : ℕ) → i + AU_14D_PERIOD ≤ length p → AreNightsKept first p i → AreNightsKept first (p ++ q) i
over_kept first p q i l h = (
  record { nights = h.0.nights; apart = h.0.apart; enough = h.0.enough; broken = λ k d b. over_night first p q i (get_or h.0.nights k d) l (h.0.broken k d b) },
  record { night = h.1.night; one = over_night first p q i h.1.night l h.1.one; next = over_night first p q i (h.1.night + day_units Hvnl) l h.1.next },
)
