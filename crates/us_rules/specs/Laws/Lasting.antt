-- What covers a state goes on to cover its successors, and where resting is safe it covers all else.
use Rattle.std.proofs.Common.{◌≡◌, ℕ, ◌+◌, ◌-◌, ◌*◌, ◌<◌, Bool, true, false, cond, [], ◌∷◌, refl, sym, subst, ◌⊎◌, inl, inr}
use Rattle.std.specs.Prelude.{None, Some}
use Rattle.std.specs.Option.{option_to_list}
use Rattle.std.proofs.lemmas.Bool.{cases_Bool}
use Rattle.duty_core.specs.declared.activity.Activity.{Activity}
use Rattle.duty_core.specs.declared.activity.Activity.TheVariants.{Drive, Serve, Wait, Off, Berth}
use Rattle.duty_core.specs.declared.params.Params.TheVariants.{UsProperty}
use Rattle.duty_core.specs.Activity.{idles}
use Rattle.duty_core.specs.Params.{allows}
use Rattle.rule_core.specs.declared.nexts.Next.{Next}
use Rattle.rule_core.specs.Reach.{idle_list, IsOneOf, IsAnswered}
use Rattle.rule_core.specs.TourRest.{tour_rest}
use Rattle.rule_core.specs.Book.{IsLasting, IsAheadLaw}
use Rattle.rule_core.specs.Laws.RestLaws.{rest_answers}
use Rattle.sleeper_split.specs.declared.rule.TheConstants.SplitRule.{US}
use Rattle.sleeper_split.specs.Machine.{run_of, after_rest}
use Rattle.sleeper_split.specs.Choices.{Choice, choice, sleeps}
use Rattle.sleeper_split.specs.Covers.{own_rest, allowed}
use Rattle.sleeper_split.specs.Laws.CoverLaws.{choices_cover, rest_choice, choices_ahead, ahead_on}
use Rattle.sleeper_split.specs.Laws.BetterLaws.{us_pair_rule, us_monotone}
use Rattle.us_rules.specs.declared.state.UsState.{UsState}
use Rattle.us_rules.specs.Machine.{us_fits, paused, break_after, break_ok, begins_day, week_rested, week_after, week_ok, us_next, us_nexts, us_advances, IsUsState, us_covers, us_ahead, us_idles}
use Rattle.us_rules.specs.Book.{us_book}
use Rattle.us_rules.specs.Laws.Covers.{UsCovers, BreakCovers, WeekCovers, HasDays, us_covers_decides, us_same, us_over, break_covers_on, break_covers_ok, pause_covers, week_covers_on, week_covers_ok, week_rest_covers}
use Rattle.us_rules.specs.Laws.Paths.{next_means, means_next}
use Rattle.us_rules.specs.Laws.States.{next_is_us_state}
use Rattle.us_rules.specs.Laws.Advance.{us_advances_reach, us_advances_all}
use Rattle.day_sums.specs.Counted.{turned}

-- # Order

pub us_covers_itself : (berth : Bool) (days day_start : ℕ) (s : UsState) (at : ℕ) → us_covers berth days day_start s s at ≡ true
us_covers_itself berth days day_start s at = (us_covers_decides berth days day_start s s at).1 (us_same berth days day_start s at)

pub us_covers_on : (berth : Bool) (days day_start : ℕ) (a b c : UsState) (at : ℕ) → IsUsState berth days day_start a at →
    us_covers berth days day_start a b at ≡ true → us_covers berth days day_start b c at ≡ true → us_covers berth days day_start a c at ≡ true
us_covers_on berth days day_start a b c at i h k =
    (us_covers_decides berth days day_start a c at).1 (us_over berth days day_start a b c at i ((us_covers_decides berth days day_start a b at).0 h) ((us_covers_decides berth days day_start b c at).0 k))

-- # Simulation

has_days : (berth : Bool) (days day_start : ℕ) (s : UsState) (at : ℕ) → 0 < days → IsUsState berth days day_start s at → HasDays days s.week
has_days berth days day_start s at some i = record { counted = i.days_counted; some = some }

-- what a schedule may hold, for the counts of split rests
us_allowed : (berth : Bool) (days day_start : ℕ) (x : Activity) → allows (UsProperty berth days day_start) x ≡ true → allowed berth x ≡ true
us_allowed berth days day_start Drive h = refl
us_allowed berth days day_start Serve h = refl
us_allowed berth days day_start Wait h = refl
us_allowed berth days day_start Off h = h
us_allowed berth days day_start Berth h = h

pub us_simulation : (berth : Bool) (days day_start : ℕ) (a b : UsState) (at : ℕ) (x : Activity) (n : Next UsState) → 0 < days → IsUsState berth days day_start a at → IsUsState berth days day_start b at →
    us_covers berth days day_start a b at ≡ true → allows (UsProperty berth days day_start) x ≡ true → IsOneOf (us_nexts berth days day_start b at x) n →
    IsAnswered (us_nexts berth days day_start a at x) (λ t. us_covers berth days day_start t n.state (at + 1))
us_simulation berth days day_start a b at x n some i j c w o =
    let h = (us_covers_decides berth days day_start a b at).0 c in
    let k = next_means berth days day_start b at x n o in
    let q = choices_cover US berth berth us_fits a.split b.split x k.by us_pair_rule us_monotone i.split (λ e. e) (us_allowed berth days day_start x w) h.split k.chosen in
    let ha = has_days berth days day_start a at some i in
    let hb = has_days berth days day_start b at some j in
    let t : Next UsState = us_next (break_after a.rest_break at x) (week_after day_start a.week at x) (at - run_of a.split) q.0 in
    let there = means_next berth days day_start a at x q.0 (break_covers_ok a.rest_break b.rest_break at x h.rest_break k.unbroken) (week_covers_ok days day_start at a.week b.week x ha hb h.week k.week) q.1 in
    let cover : UsCovers berth days day_start t.state n.state (at + 1) = subst (λ (m : Next UsState). UsCovers berth days day_start t.state m.state (at + 1)) k.is (record {
      split = q.2;
      rest_break = break_covers_on a.rest_break b.rest_break at x h.rest_break;
      week = week_covers_on days day_start at a.week b.week x ha hb h.week;
    }) in
    (t, there, (us_covers_decides berth days day_start t.state n.state (at + 1)).1 cover)

-- # Resting where it is safe

rest_break_ok : (berth : Bool) (s : UsState) (at : ℕ) → break_ok s.rest_break at (own_rest berth) ≡ true
rest_break_ok true s at = refl
rest_break_ok false s at = refl

rest_week_ok : (berth : Bool) (days day_start : ℕ) (s : UsState) (at : ℕ) → week_ok days day_start s.week at (own_rest berth) ≡ true
rest_week_ok true days day_start s at = refl
rest_week_ok false days day_start s at = refl

rest_pauses : (berth : Bool) (s : UsState) (at : ℕ) → break_after s.rest_break at (own_rest berth) ≡ paused s.rest_break
rest_pauses true s at = refl
rest_pauses false s at = refl

rest_weeks : (berth : Bool) (day_start : ℕ) (s : UsState) (at : ℕ) → week_after day_start s.week at (own_rest berth) ≡ week_rested s.week.rest (turned (begins_day day_start at) s.week.sums)
rest_weeks true day_start s at = refl
rest_weeks false day_start s at = refl

-- the successor by rest that comes by a choice
abbrev rest_next : Bool → ℕ → ℕ → UsState → ℕ → Choice → Next UsState
rest_next berth days day_start s at c = us_next (break_after s.rest_break at (own_rest berth)) (week_after day_start s.week at (own_rest berth)) (at - run_of s.split) c

rest_covers_else : (berth : Bool) (days day_start : ℕ) (a : UsState) (at : ℕ) (x : Activity) (n : Next UsState) → 0 < days → IsUsState berth days day_start a at → us_ahead berth a ≡ true →
    allows (UsProperty berth days day_start) x ≡ true → IsOneOf (us_nexts berth days day_start a at x) n →
    (u : Next UsState) × IsOneOf (us_nexts berth days day_start a at (own_rest berth)) u × (us_ahead berth u.state ≡ true) × (us_covers berth days day_start u.state n.state (at + 1) ≡ true)
rest_covers_else berth days day_start a at x n some i h w o =
    let k = next_means berth days day_start a at x n o in
    let q = choices_ahead US berth berth us_fits a.split x k.by us_pair_rule i.split (λ e. e) h (us_allowed berth days day_start x w) k.chosen in
    let u : Next UsState = rest_next berth days day_start a at q.0 in
    let there = means_next berth days day_start a at (own_rest berth) q.0 (rest_break_ok berth a at) (rest_week_ok berth days day_start a at) q.1 in
    let cover : UsCovers berth days day_start u.state n.state (at + 1) = subst (λ (m : Next UsState). UsCovers berth days day_start u.state m.state (at + 1)) k.is (record {
      split = q.3;
      rest_break = subst (λ c. BreakCovers c (break_after a.rest_break at x)) (sym (rest_pauses berth a at)) (pause_covers a.rest_break at x);
      week = subst (λ c. WeekCovers days day_start (at + 1) c (week_after day_start a.week at x)) (sym (rest_weeks berth day_start a at)) (week_rest_covers days day_start at a.week x (has_days berth days day_start a at some i));
    }) in
    (u, there, q.2, (us_covers_decides berth days day_start u.state n.state (at + 1)).1 cover)

pub us_ahead_stays : (berth : Bool) (days day_start : ℕ) (a : UsState) (at : ℕ) → IsUsState berth days day_start a at → us_ahead berth a ≡ true →
    (u : Next UsState) × IsOneOf (us_nexts berth days day_start a at (tour_rest (UsProperty berth days day_start))) u × (us_ahead berth u.state ≡ true)
us_ahead_stays berth days day_start a at i h =
    let c : Choice = choice (after_rest (sleeps (own_rest berth)) a.split) false in (
      rest_next berth days day_start a at c,
      means_next berth days day_start a at (own_rest berth) c (rest_break_ok berth a at) (rest_week_ok berth days day_start a at) (rest_choice US berth berth us_fits a.split),
      ahead_on US berth berth a.split i.split (λ e. e) h,
    )

pub us_ahead_rests : (berth : Bool) (days day_start : ℕ) (a : UsState) (at : ℕ) (x : Activity) (n : Next UsState) → 0 < days → IsUsState berth days day_start a at → us_ahead berth a ≡ true →
    allows (UsProperty berth days day_start) x ≡ true → IsOneOf (us_nexts berth days day_start a at x) n →
    (u : Next UsState) × IsOneOf (us_nexts berth days day_start a at (tour_rest (UsProperty berth days day_start))) u × (us_ahead berth u.state ≡ true) × (us_covers berth days day_start u.state n.state (at + 1) ≡ true)
us_ahead_rests berth days day_start a at x n some i h w o = rest_covers_else berth days day_start a at x n some i h w o

pub us_ahead_law : (berth : Bool) (days day_start : ℕ) → 0 < days →
    IsAheadLaw (UsProperty berth days day_start) (us_book berth days day_start)
us_ahead_law berth days day_start some = record {
  ahead_stays = λ a at i h. us_ahead_stays berth days day_start a at i h;
  ahead_rests = λ a at x n i h w o. us_ahead_rests berth days day_start a at x n some i h w o;
}

pub us_lasting : (berth : Bool) (days day_start : ℕ) → 0 < days →
    IsLasting (UsProperty berth days day_start) (us_book berth days day_start)
us_lasting berth days day_start some = record {
  next_is_state = λ s at x n i o. next_is_us_state berth days day_start s at x n i o;
  covers_on = λ a b c at i j k h l. us_covers_on berth days day_start a b c at i h l;
  simulation = λ a b at x n i j h w o. us_simulation berth days day_start a b at x n some i j h w o;
}

-- # Idle activities

-- the tour's own rest alone, or waiting with it
idles_listed : (berth : Bool) (s : UsState) (y : Activity) → IsOneOf (idle_list (us_idles berth s)) y → (y ≡ own_rest berth) ⊎ (y ≡ Wait)
idles_listed berth s y h = elim h [
  | inl e ↦ inl (sym e)
  | inr t ↦ inr (elim (cases_Bool (us_ahead berth s)) [
    | inl a ↦ absurd (subst (λ b. IsOneOf (option_to_list (cond b None (Some Wait))) y) a t)
    | inr a ↦ (let o : IsOneOf (Wait ∷ []) y = subst (λ b. IsOneOf (option_to_list (cond b None (Some Wait))) y) a t in elim o [ inl e ↦ sym e | inr z ↦ absurd z ])
  ])
]

rest_idles : (berth : Bool) (days day_start : ℕ) → (idles (own_rest berth) ≡ true) × (allows (UsProperty berth days day_start) (own_rest berth) ≡ true)
rest_idles true days day_start = (refl, refl)
rest_idles false days day_start = (refl, refl)

pub us_idles_allowed : (berth : Bool) (days day_start : ℕ) (s : UsState) (y : Activity) → IsOneOf (idle_list (us_idles berth s)) y → (idles y ≡ true) × (allows (UsProperty berth days day_start) y ≡ true)
us_idles_allowed berth days day_start s y h = elim (idles_listed berth s y h) [
  | inl e ↦ subst (λ x. (idles x ≡ true) × (allows (UsProperty berth days day_start) x ≡ true)) (sym e) (rest_idles berth days day_start)
  | inr e ↦ subst (λ x. (idles x ≡ true) × (allows (UsProperty berth days day_start) x ≡ true)) (sym e) (refl, refl)
]

-- the idle activities that a schedule may hold
idles_are : (berth : Bool) (days day_start : ℕ) (x : Activity) → idles x ≡ true → allows (UsProperty berth days day_start) x ≡ true → (x ≡ own_rest berth) ⊎ (x ≡ Wait)
idles_are berth days day_start Drive i a = absurd (let z : false ≡ true = i in cc)
idles_are berth days day_start Serve i a = absurd (let z : false ≡ true = i in cc)
idles_are berth days day_start Wait i a = inr refl
idles_are true days day_start Off i a = absurd (let z : false ≡ true = a in cc)
idles_are false days day_start Off i a = inl refl
idles_are true days day_start Berth i a = inl refl
idles_are false days day_start Berth i a = absurd (let z : false ≡ true = a in cc)

-- where resting is not safe, all of them are tried
idles_tried : (berth : Bool) (s : UsState) (x : Activity) → us_ahead berth s ≡ false → (x ≡ own_rest berth) ⊎ (x ≡ Wait) → IsOneOf (idle_list (us_idles berth s)) x
idles_tried berth s x a h = elim h [
  | inl e ↦ inl (sym e)
  | inr e ↦ inr (subst (λ b. IsOneOf (option_to_list (cond b None (Some Wait))) x) (sym a) (inl (sym e)))
]

pub us_idles_cover : (berth : Bool) (days day_start : ℕ) (s : UsState) (at : ℕ) (x : Activity) (n : ℕ) (t : Next UsState) → 0 < days → IsUsState berth days day_start s at → idles x ≡ true → allows (UsProperty berth days day_start) x ≡ true →
    IsOneOf (us_advances berth days day_start s at x n) t →
    (y : Activity) × IsOneOf (idle_list (us_idles berth s)) y × IsAnswered (us_advances berth days day_start s at y n) (λ u. us_covers berth days day_start u t.state (at + 1 * n))
us_idles_cover berth days day_start s at x n t some i idle w o = elim (cases_Bool (us_ahead berth s)) [
  | inr a ↦ (x, idles_tried berth s x a (idles_are berth days day_start x idle w), (t, o, us_covers_itself berth days day_start t.state (at + 1 * n)))
  | inl a ↦
      let q = rest_answers (UsProperty berth days day_start) (us_book berth days day_start)
      (us_lasting berth days day_start some) (us_ahead_law berth days day_start some) n s s at x (option_to_list t.mark) t.state i i a w (us_covers_itself berth days day_start s at)
      (us_advances_reach berth days day_start n s at x t o) in
      let r = us_advances_all berth days day_start n s at (own_rest berth) q.marks q.state q.reached in
      (own_rest berth, inl refl, (r.0, r.1, subst (λ u. us_covers berth days day_start u t.state (at + 1 * n) ≡ true) (sym r.2) q.covers_it))
]
