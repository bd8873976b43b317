-- The counts of the week mean the rule of sixty or seventy hours.
use Rattle.std.proofs.Common.{◌≡◌, ℕ, ◌+◌, ◌-◌, ◌*◌, ◌/◌, ◌%◌, ◌<◌, ◌≤◌, Bool, true, false, List, [], ◌∷◌, ◌++◌, length, refl, sym, ◌∙◌, ap, subst, arith, min, inl, inr}
use Rattle.std.specs.Prelude.{sum, replicate, nat_le}
use Rattle.std.proofs.lemmas.Bool.{cases_lt, cases_eq}
use Rattle.std.proofs.lemmas.Bool.Decides.{nat_tests}
use Rattle.std.proofs.lemmas.List.{take_all, length-replicate}
use Rattle.duty_core.specs.declared.activity.Activity.{Activity}
use Rattle.duty_core.specs.declared.activity.Activity.TheVariants.{Drive, Serve, Wait, Off, Berth}
use Rattle.duty_core.specs.declared.params.Params.TheVariants.{UsProperty}
use Rattle.duty_core.specs.declared.limits.TheConstants.{DAY_MINUTES, US_RESTART, PADDING_MINUTES}
use Rattle.duty_core.specs.Activity.{rests}
use Rattle.duty_core.specs.History.{pad_units, padding}
use Rattle.duty_core.specs.Laws.HistoryLaws.{unit_at-last, length-one_more}
use Rattle.duty_core.specs.Laws.RunLaws.{ends_padding}
use Rattle.duty_core.specs.Counting.{duty, IsDaysBase}
use Rattle.duty_core.specs.UsRules.{us_week_limit, MeetsUsWeek}
use Rattle.duty_core.specs.Laws.RuleLaws.{us_week_is_rule}
use Rattle.rule_core.specs.Laws.Guard.{not_driving, IsGuard}
use Rattle.day_sums.specs.Sums.{first_days, added, cleared}
use Rattle.day_sums.specs.Laws.SumLaws.{length-added, length-cleared}
use Rattle.day_sums.specs.Counted.{TracksDays, IsDutyOfDays, turned, after_rest}
use Rattle.day_sums.specs.Laws.Counted.{IsTurn, length-turned, tracks_duty, tracks_rest, tracks_start, duty_is}
use Rattle.us_rules.specs.declared.state.WeekCount.{WeekCount}
use Rattle.us_rules.specs.Machine.{week_made, begins_day, week_rested, week_after, week_ok}
use Rattle.us_rules.specs.Laws.Padding.{us_pads, length_padding, us_after}

-- the numbers of the days of places
abbrev pub us_day : ℕ → ℕ → ℕ → ℕ
us_day day_start first i = (first + 1 * i + (DAY_MINUTES - day_start)) / DAY_MINUTES

-- the counts of the units so far
pub record TracksWeek (days day_start first : ℕ) (p : List Activity) (c : WeekCount) : Type 0 where
  pub run : ℕ
  pub tracked : TracksDays (us_day day_start first) US_RESTART p run c.sums
  pub capped : c.rest ≡ min run US_RESTART
  pub counted : length c.sums ≡ days

pub day_on : (day_start first j k : ℕ) → j ≤ k → us_day day_start first j ≤ us_day day_start first k
day_on day_start first j k l = omega arith

-- where a day begins
pub turn : (day_start first : ℕ) (p : List Activity) (at : ℕ) → 0 < length p → at + PADDING_MINUTES ≡ first + length p → IsTurn (us_day day_start first) p (begins_day day_start at)
turn day_start first p at some e = elim (cases_eq ((at + (DAY_MINUTES - day_start)) % DAY_MINUTES) 0) [
  | inl q ↦ inl (grind (arith, nat_tests), omega arith)
  | inr q ↦ inr (grind (arith, nat_tests), omega arith)
]

capped_rest : (run rest : ℕ) (sums : List ℕ) → rest ≡ min run US_RESTART → after_rest US_RESTART (run + 1) sums ≡ after_rest US_RESTART (rest + 1) sums
capped_rest run rest sums e = elim (cases_lt (run + 1) US_RESTART) [
  | inl l ↦ (let m : rest + 1 < US_RESTART = omega arith in grind (arith, nat_tests))
  | inr l ↦ (let m : US_RESTART ≤ rest + 1 = omega arith in grind (arith, nat_tests))
]

pub length-after_rest : (run : ℕ) (sums : List ℕ) → length (after_rest US_RESTART run sums) ≡ length sums
length-after_rest run sums = elim (cases_lt run US_RESTART) [
  | inl l ↦ (let e : after_rest US_RESTART run sums ≡ sums = grind (arith, nat_tests) in ap length e)
  | inr l ↦ (let e : after_rest US_RESTART run sums ≡ cleared sums = grind (arith, nat_tests) in ap length e ∙ length-cleared sums)
]

week_on_rest : (days day_start first : ℕ) (p : List Activity) (c : WeekCount) (at : ℕ) (x : Activity) → 0 < days → at + PADDING_MINUTES ≡ first + length p → rests x ≡ true → TracksWeek days day_start first p c →
    TracksWeek days day_start first (p ++ x ∷ []) (week_rested c.rest (turned (begins_day day_start at) c.sums))
week_on_rest days day_start first p c at x some e r h =
    let new : List ℕ = turned (begins_day day_start at) c.sums in
    let n = h.counted in
    let k = h.capped in
    record {
      run = h.run + 1;
      tracked = subst (TracksDays (us_day day_start first) US_RESTART (p ++ x ∷ []) (h.run + 1)) (capped_rest h.run c.rest new h.capped)
          (tracks_rest (us_day day_start first) US_RESTART p x (begins_day day_start at) h.run c.sums r (omega arith) (day_on day_start first) (turn day_start first p at h.tracked.some e) h.tracked);
      capped = omega arith;
      counted = length-after_rest (c.rest + 1) new ∙ (length-turned (begins_day day_start at) c.sums ∙ h.counted);
    }

week_on_duty : (days day_start first : ℕ) (p : List Activity) (c : WeekCount) (at : ℕ) (x : Activity) → 0 < days → at + PADDING_MINUTES ≡ first + length p → rests x ≡ false → TracksWeek days day_start first p c →
    TracksWeek days day_start first (p ++ x ∷ []) (week_made 0 (added 1 (turned (begins_day day_start at) c.sums)))
week_on_duty days day_start first p c at x some e r h =
    let n = h.counted in
    record {
      run = 0;
      tracked = tracks_duty (us_day day_start first) US_RESTART p x (begins_day day_start at) h.run c.sums (omega arith) r (omega arith) (day_on day_start first) (turn day_start first p at h.tracked.some e) h.tracked;
      capped = omega arith;
      counted = length-added 1 (turned (begins_day day_start at) c.sums) ∙ (length-turned (begins_day day_start at) c.sums ∙ h.counted);
    }

week_goes : (days day_start first : ℕ) (p : List Activity) (c : WeekCount) (at : ℕ) (x : Activity) → 0 < days → at + PADDING_MINUTES ≡ first + length p → TracksWeek days day_start first p c →
    TracksWeek days day_start first (p ++ x ∷ []) (week_after day_start c at x)
week_goes days day_start first p c at Drive some e h = week_on_duty days day_start first p c at Drive some e refl h
week_goes days day_start first p c at Serve some e h = week_on_duty days day_start first p c at Serve some e refl h
week_goes days day_start first p c at Wait some e h = week_on_duty days day_start first p c at Wait some e refl h
week_goes days day_start first p c at Off some e h = week_on_rest days day_start first p c at Off some e refl h
week_goes days day_start first p c at Berth some e h = week_on_rest days day_start first p c at Berth some e refl h

-- the sums of all the days
tracks_sums : (days day_start first : ℕ) (q : List Activity) (c : WeekCount) → 0 < days → c.rest < US_RESTART → TracksWeek days day_start first q c →
    IsDutyOfDays (us_day day_start first) days US_RESTART q (first_days days c.sums)
tracks_sums days day_start first q c some l k = let n = k.counted in let m = k.capped in k.tracked.sums_are (omega arith) days some (omega arith)

-- the duty of the week at a unit of duty
pub record HasWeek (days day_start first : ℕ) (p : List Activity) (i w : ℕ) : Type 0 where
  pub from : ℕ
  pub base : IsDaysBase (us_day day_start first) days US_RESTART p i from
  pub all : (f : ℕ) → IsDaysBase (us_day day_start first) days US_RESTART p i f → duty p f (i + 1) ≡ w

has_week : (days day_start first : ℕ) (p : List Activity) (c : WeekCount) (at : ℕ) → 0 < days → at + PADDING_MINUTES ≡ first + length p → TracksWeek days day_start first p c →
    HasWeek days day_start first (p ++ Drive ∷ []) (length p) (sum (week_after day_start c at Drive).sums)
has_week days day_start first p c at some e h =
    let q : List Activity = p ++ Drive ∷ [] in
    let sums : List ℕ = (week_after day_start c at Drive).sums in
    let k : TracksWeek days day_start first q (week_after day_start c at Drive) = week_on_duty days day_start first p c at Drive some e refl h in
    let n = k.counted in
    let m = k.capped in
    let d : IsDutyOfDays (us_day day_start first) days US_RESTART q (first_days days sums) =
    tracks_sums days day_start first q (week_after day_start c at Drive) some (omega arith) k in
    let whole : first_days days sums ≡ sum sums = ap sum (take_all days sums (omega arith)) in
    let last : length q - 1 ≡ length p = omega (arith, length-one_more p Drive) in
    let end : length q ≡ length p + 1 = length-one_more p Drive in
    record {
      from = d.from;
      base = subst (λ i. IsDaysBase (us_day day_start first) days US_RESTART q i d.from) last d.base;
      all = λ f b. subst (λ j. duty q f j ≡ sum sums) end
          (duty_is (us_day day_start first) US_RESTART q days f (first_days days sums) d (subst (λ i. IsDaysBase (us_day day_start first) days US_RESTART q i f) (sym last) b) ∙ whole);
    }

week_sound : (days day_start first : ℕ) (p : List Activity) (c : WeekCount) (at : ℕ) (x : Activity) → 0 < days → at + PADDING_MINUTES ≡ first + length p → TracksWeek days day_start first p c →
    week_ok days day_start c at x ≡ true → MeetsUsWeek days (us_day day_start first) (p ++ x ∷ []) (length p)
week_sound days day_start first p c at Drive some e h ok d = λ from b.
    let w = has_week days day_start first p c at some e h in
    let l : sum (week_after day_start c at Drive).sums ≤ us_week_limit days = grind (arith, nat_tests) in
    let z = w.all from b in
    omega arith
week_sound days day_start first p c at Serve some e h ok d = absurd (not_driving p Serve refl d)
week_sound days day_start first p c at Wait some e h ok d = absurd (not_driving p Wait refl d)
week_sound days day_start first p c at Off some e h ok d = absurd (not_driving p Off refl d)
week_sound days day_start first p c at Berth some e h ok d = absurd (not_driving p Berth refl d)

is_upto : (a b : ℕ) → a ≤ b → nat_le a b ≡ true
is_upto a b h = grind (arith, nat_tests)

week_complete : (days day_start first : ℕ) (p : List Activity) (c : WeekCount) (at : ℕ) (x : Activity) → 0 < days → at + PADDING_MINUTES ≡ first + length p → TracksWeek days day_start first p c →
    MeetsUsWeek days (us_day day_start first) (p ++ x ∷ []) (length p) → week_ok days day_start c at x ≡ true
week_complete days day_start first p c at Drive some e h g =
    let w = has_week days day_start first p c at some e h in
    let l = g (unit_at-last p Drive) w.from w.base in
    let z = w.all w.from w.base in
    is_upto (sum (week_after day_start c at Drive).sums) (us_week_limit days) (omega arith)
week_complete days day_start first p c at Serve some e h g = refl
week_complete days day_start first p c at Wait some e h g = refl
week_complete days day_start first p c at Off some e h g = refl
week_complete days day_start first p c at Berth some e h g = refl

pub week_is_guard : (berth : Bool) (days day_start first : ℕ) → 0 < days →
    IsGuard (UsProperty berth days day_start) first (MeetsUsWeek days (us_day day_start first)) (TracksWeek days day_start first) (week_ok days day_start) (week_after day_start)
week_is_guard berth days day_start first some = record {
  rule = us_week_is_rule days (us_day day_start first);
  on = λ p c at x e t. week_goes days day_start first p c at x some (us_after berth days day_start first p at e) t;
  sound = λ p c at x e t ok. week_sound days day_start first p c at x some (us_after berth days day_start first p at e) t ok;
  complete = λ p c at x e t g. week_complete days day_start first p c at x some (us_after berth days day_start first p at e) t g;
}

-- the rest before a history
pub tracks_week_root : (berth : Bool) (days day_start first : ℕ) → TracksWeek days day_start first (padding (UsProperty berth days day_start)) (week_made US_RESTART (replicate days 0))
tracks_week_root berth days day_start first =
    let p : List Activity = padding (UsProperty berth days day_start) in
    let len = length_padding berth days day_start in
    let units = us_pads berth days day_start in
    record {
      run = pad_units (UsProperty berth days day_start);
      tracked = tracks_start (us_day day_start first) US_RESTART (pad_units (UsProperty berth days day_start)) p (replicate days 0) (omega arith) (omega arith)
          (ends_padding (pad_units (UsProperty berth days day_start))) (ap (λ n. replicate n 0) (sym (length-replicate days 0)));
      capped = omega arith;
      counted = length-replicate days 0;
    }
