-- A state that a history reaches covers each state that a history reaches which is plainly worse.
use Rattle.std.proofs.Common.{◌≡◌, ℕ, ◌+◌, ◌-◌, ◌*◌, ◌<◌, ◌≤◌, Bool, true, List, [], ◌∷◌, ◌++◌, length, drop, sym, ◌∙◌, ap, subst, arith, append_assoc, append-nil, length-append, inl, inr, zero, suc}
use Rattle.std.specs.Prelude.{Contains, count_by, replicate}
use Rattle.std.proofs.lemmas.Bool.{cases_lt}
use Rattle.std.proofs.lemmas.List.{take_all}
use Rattle.duty_core.specs.declared.activity.Activity.{Activity}
use Rattle.duty_core.specs.declared.mark.Mark.{Mark}
use Rattle.duty_core.specs.declared.params.Params.TheVariants.{UsProperty}
use Rattle.duty_core.specs.declared.limits.TheConstants.{US_RESTART, US_BREAK, PADDING_MINUTES}
use Rattle.duty_core.specs.Activity.{drives}
use Rattle.duty_core.specs.History.{pad_units, padding, IsTimed}
use Rattle.duty_core.specs.Laws.HistoryLaws.{length-one_more}
use Rattle.duty_core.specs.RestRun.{EndsIn}
use Rattle.duty_core.specs.Laws.ExistLaws.{padding_before}
use Rattle.duty_core.specs.Stretch.{IsStill}
use Rattle.duty_core.specs.Counting.{driving}
use Rattle.duty_core.specs.Marks.{IsSplitAt}
use Rattle.duty_core.specs.UsRules.{IsLastBreak, us_week_limit}
use Rattle.duty_core.specs.PlainlyBetter.{AreDaysBetter, IsUsBetter, IsPlainlyBetter}
use Rattle.rule_core.specs.Laws.Guard.{IsGuard, led}
use Rattle.rule_core.specs.Laws.ReachLaws.{reached_state}
use Rattle.day_sums.specs.Sums.{LeavesNoLess}
use Rattle.day_sums.specs.Laws.SumLaws.{first_none}
use Rattle.day_sums.specs.Laws.LeftLaws.{leaves_cleared, turned_none}
use Rattle.day_sums.specs.Counted.{turned}
use Rattle.day_sums.specs.Laws.Now.{duty_now}
use Rattle.sleeper_split.specs.declared.rule.TheConstants.SplitRule.{US}
use Rattle.sleeper_split.specs.Machine.{fresh_count}
use Rattle.sleeper_split.specs.Choices.{Declares}
use Rattle.sleeper_split.specs.Tracks.{Tracks}
use Rattle.sleeper_split.specs.Laws.MarkedTracks.{tracks_marked}
use Rattle.sleeper_split.specs.Laws.BetterLaws.{better_covers}
use Rattle.sleeper_split.specs.Laws.ExactLaws.{split_exact, split_tracks}
use Rattle.sleeper_split.specs.Laws.CountryLaws.{us_rule, us_limit}
use Rattle.us_rules.specs.declared.state.BreakCount.{BreakCount}
use Rattle.us_rules.specs.declared.state.WeekCount.{WeekCount}
use Rattle.us_rules.specs.declared.state.UsState.{UsState}
use Rattle.us_rules.specs.Machine.{us_fits, break_made, break_after, break_ok, week_made, begins_day, week_after, week_ok, us_nexts, root_state, IsUsState, us_covers}
use Rattle.us_rules.specs.Laws.Padding.{us_minutes, us_pads, length_padding, after_us}
use Rattle.us_rules.specs.Laws.BreakGuard.{EndsStill, TracksBreak, break_is_guard, tracks_break_root}
use Rattle.us_rules.specs.Laws.WeekGuard.{us_day, TracksWeek, week_is_guard, tracks_week_root, day_on, turn}
use Rattle.us_rules.specs.Laws.Paths.{UsReaches}
use Rattle.us_rules.specs.Laws.Covers.{BreakCovers, WeekCovers, us_covers_decides}
use Rattle.us_rules.specs.Laws.States.{root_is_us_state, next_is_us_state}
use Rattle.sleeper_split.specs.Promises.{MeetsUsShift}
use Rattle.sleeper_split.specs.Laws.SameMarks.{AreSame, same_marks}
use Rattle.us_rules.specs.Laws.Exact.{short_history, starts_have, root_path}

-- # What a state tells of its history

-- where units lead a guard, it tells of them
led_tracks : {C : Type 0} (berth : Bool) (days day_start first : ℕ) (G : List Activity → ℕ → Type 0) (T : List Activity → C → Type 0) (ok : C → ℕ → Activity → Bool) (go : C → ℕ → Activity → C) →
    IsGuard (UsProperty berth days day_start) first G T ok go → (xs p : List Activity) (c : C) (at : ℕ) → at + PADDING_MINUTES ≡ first + length p → T p c → T (p ++ xs) (led go c at xs)
led_tracks berth days day_start first G T ok go d [] p c at e t = subst (λ q. T q c) (sym (append-nil p)) t
led_tracks berth days day_start first G T ok go d (x ∷ xs) p c at e t =
    subst (λ q. T q (led go (go c at x) (at + 1) xs)) (append_assoc p (x ∷ []) xs)
    (led_tracks berth days day_start first G T ok go d xs (p ++ x ∷ []) (go c at x) (at + 1) (omega (arith, length-one_more p x)) (d.on p c at x (after_us berth days day_start first p at e) t))

-- what a state that a history reaches tells of the history and its marks
pub record TellsOf (berth : Bool) (days day_start first : ℕ) (h : List Activity) (marks : List Mark) (s : UsState) : Type 0 where
  pub split : Tracks US (padding (UsProperty berth days day_start) ++ h) (IsSplitAt (UsProperty berth days day_start) first marks) s.split
  pub rest_break : TracksBreak (padding (UsProperty berth days day_start) ++ h) s.rest_break
  pub week : TracksWeek days day_start first (padding (UsProperty berth days day_start) ++ h) s.week

pub tells : (berth : Bool) (days day_start first : ℕ) (h : List Activity) (marks : List Mark) (s : UsState) → 0 < days → IsTimed (UsProperty berth days day_start) first h →
    UsReaches berth days day_start (root_state days) first h marks s → TellsOf berth days day_start first h marks s
tells berth days day_start first h marks s some timed r =
    let params = UsProperty berth days day_start in
    let p : List Activity = padding params ++ h in
    let q = root_path berth days day_start first h marks s r in
    let pads = us_pads berth days day_start in
    let start : first + PADDING_MINUTES ≡ first + length (padding params) = (let l = length_padding berth days day_start in omega arith) in
    let d : Declares US berth us_fits fresh_count (pad_units params) h q.starts s.split = subst (λ n. Declares US berth us_fits fresh_count n h q.starts s.split) (sym pads) q.declares in
    let short = short_history berth days day_start first h timed in
    let t : Tracks US p (Contains q.starts) s.split = split_tracks US berth us_fits (pad_units params) h q.starts s.split us_rule (omega arith) short d in
    let k = (split_exact US berth us_fits MeetsUsShift (pad_units params) h q.starts us_rule us_limit (omega arith) short).0 (s.split, d) in
    let same : AreSame (Contains q.starts) (IsSplitAt params first marks) =
    subst (λ ms. AreSame (Contains q.starts) (IsSplitAt params first ms)) (sym q.named) (same_marks (UsProperty berth days day_start) first q.starts (us_minutes berth days day_start) (starts_have berth days day_start first h q.starts k.splits)) in
    record {
      split = tracks_marked US p (Contains q.starts) (IsSplitAt params first marks) s.split same.marks same.back t;
      rest_break = subst (TracksBreak p) (sym q.led_break)
          (led_tracks berth days day_start first _ TracksBreak break_ok break_after (break_is_guard berth days day_start first) h (padding params) (break_made US_BREAK 0) first start (tracks_break_root berth days day_start));
      week = subst (TracksWeek days day_start first p) (sym q.led_week)
          (led_tracks berth days day_start first _ (TracksWeek days day_start first) (week_ok days day_start) (week_after day_start) (week_is_guard berth days day_start first some) h (padding params) (week_made US_RESTART (replicate days 0)) first start
          (tracks_week_root berth days day_start first));
    }

-- # Breaks

still_of : (p : List Activity) (n : ℕ) → EndsStill p n → IsStill p (length p - n) (length p)
still_of p n h k a b = h k (omega arith) b

of_still : (p : List Activity) (n : ℕ) → n ≤ length p → IsStill p (length p - n) (length p) → EndsStill p n
of_still p n l h k a b = h k (omega arith) b

last_break : (p : List Activity) (c : BreakCount) (h : TracksBreak p c) → IsLastBreak p (length p) h.since.at
last_break p c h = record { ends = h.since.ends; before = h.since.inside; last = h.since.last }

driven_since : (p : List Activity) (c : BreakCount) (h : TracksBreak p c) → driving p h.since.at (length p) ≡ c.driven
driven_since p c h = ap (λ (l : List Activity). count_by drives (drop h.since.at l)) (take_all (length p) p (omega arith)) ∙ h.since.count

break_better : (p q : List Activity) (c d : BreakCount) → length p ≡ length q → TracksBreak p c → TracksBreak q d →
    ((a b : ℕ) → IsLastBreak p (length p) a → IsLastBreak q (length q) b → driving p a (length p) ≤ driving q b (length q)) →
    ((n : ℕ) → n ≤ length q → IsStill q (length q - n) (length q) → IsStill p (length p - n) (length p)) → BreakCovers c d
break_better p q c d e h k unbroken still = record {
  still = let t = k.there in h.longest d.still k.small (omega arith) (of_still p d.still (omega arith) (still d.still k.there (still_of q d.still k.still)));
  driven = let a = driven_since p c h in let b = driven_since q d k in let l = unbroken h.since.at k.since.at (last_break p c h) (last_break q d k) in omega arith;
}

-- # Weeks

days_left : (days day_start first : ℕ) (p q : List Activity) (c d : WeekCount) (at : ℕ) → 0 < days → at + PADDING_MINUTES ≡ first + length p → at + PADDING_MINUTES ≡ first + length q →
    (h : TracksWeek days day_start first p c) (k : TracksWeek days day_start first q d) → h.run < US_RESTART → k.run < US_RESTART → AreDaysBetter (us_day day_start first) days US_RESTART p q →
    LeavesNoLess (us_week_limit days) days (turned (begins_day day_start at) c.sums) (turned (begins_day day_start at) d.sums)
days_left days day_start first p q c d at some e f h k l m better zero n =
    let a = first_none (turned (begins_day day_start at) c.sums) in let b = first_none (turned (begins_day day_start at) d.sums) in omega arith
days_left days day_start first p q c d at some e f h k l m better (suc n) o =
    let hc = h.counted in
    let kc = k.counted in
    let u = duty_now (us_day day_start first) US_RESTART p (begins_day day_start at) h.run c.sums (omega arith) (day_on day_start first) (turn day_start first p at h.tracked.some e) h.tracked l (suc n) (omega arith) (omega arith) in
    let v = duty_now (us_day day_start first) US_RESTART q (begins_day day_start at) k.run d.sums (omega arith) (day_on day_start first) (turn day_start first q at k.tracked.some f) k.tracked m (suc n) (omega arith) (omega arith) in
    let w = better (suc n) u.from v.from (omega arith) o u.base v.base in
    let x = u.count in
    let y = v.count in
    omega arith

week_better : (days day_start first : ℕ) (p q : List Activity) (c d : WeekCount) (at : ℕ) → 0 < days → at + PADDING_MINUTES ≡ first + length p → at + PADDING_MINUTES ≡ first + length q →
    TracksWeek days day_start first p c → TracksWeek days day_start first q d → ((n k : ℕ) → EndsIn p n → EndsIn q k → k ≤ n) → AreDaysBetter (us_day day_start first) days US_RESTART p q → WeekCovers days day_start at c d
week_better days day_start first p q c d at some e f h k long better =
    let l = long h.run k.run h.tracked.ends k.tracked.ends in
    let a = h.capped in
    let b = k.capped in
    record {
      rest = omega arith;
      sums = elim (cases_lt h.run US_RESTART) [
        | inr u ↦ leaves_cleared (us_week_limit days) days (turned (begins_day day_start at) c.sums) (turned (begins_day day_start at) d.sums) (turned_none (begins_day day_start at) c.sums (h.tracked.rested u))
        | inl u ↦ days_left days day_start first p q c d at some e f h k u (omega arith) better
      ];
    }

-- # States

after_all : (berth : Bool) (days day_start first : ℕ) (h : List Activity) → first + 1 * length h + PADDING_MINUTES ≡ first + length (padding (UsProperty berth days day_start) ++ h)
after_all berth days day_start first h = let l = length_padding berth days day_start in omega (arith, length-append (padding (UsProperty berth days day_start)) h)

other_timed : (berth : Bool) (days day_start first : ℕ) (h k : List Activity) → length h ≡ length k → IsTimed (UsProperty berth days day_start) first h → IsTimed (UsProperty berth days day_start) first k
other_timed berth days day_start first h k e t = record { begins = t.begins; long = let l = t.long in omega arith; ends = let l = t.ends in omega arith }

covers_better : (berth : Bool) (days day_start first : ℕ) (h k : List Activity) (marks others : List Mark) (a b : UsState) → 0 < days → IsTimed (UsProperty berth days day_start) first h →
    IsUsState berth days day_start a (first + 1 * length h) → IsUsState berth days day_start b (first + 1 * length h) → IsPlainlyBetter (UsProperty berth days day_start) first h marks k others →
    UsReaches berth days day_start (root_state days) first h marks a → UsReaches berth days day_start (root_state days) first k others b → us_covers berth days day_start a b (first + 1 * length h) ≡ true
covers_better berth days day_start first h k marks others a b some timed i j g r s =
    let params = UsProperty berth days day_start in
    let p : List Activity = padding params ++ h in
    let q : List Activity = padding params ++ k in
    let at : ℕ = first + 1 * length h in
    let e = g.same_length in
    let better : IsUsBetter params first p marks q others = g.better in
    let t = tells berth days day_start first h marks a some timed r in
    let u = tells berth days day_start first k others b some (other_timed berth days day_start first h k e timed) s in
    let there = after_all berth days day_start first h in
    let there_too : at + PADDING_MINUTES ≡ first + length q = (let l = after_all berth days day_start first k in omega arith) in
    let long : length p ≡ length q = omega arith in
    (us_covers_decides berth days day_start a b at).1 (record {
      split = better_covers US berth berth (pad_units params) p (IsSplitAt params first marks) q (IsSplitAt params first others) a.split b.split (λ m. m) i.split j.split t.split u.split (padding_before params h) better.shift;
      rest_break = break_better p q a.rest_break b.rest_break long t.rest_break u.rest_break better.unbroken better.still;
      week = week_better days day_start first p q a.week b.week at some there there_too t.week u.week better.shift.run.long better.week;
    })

-- what a history reaches is a state
state_of_history : (berth : Bool) (days day_start first : ℕ) (h : List Activity) (marks : List Mark) (s : UsState) → UsReaches berth days day_start (root_state days) first h marks s → IsUsState berth days day_start s (first + 1 * length h)
state_of_history berth days day_start first h marks s r =
    reached_state 1 (λ u m. IsUsState berth days day_start u m) (us_nexts berth days day_start) (λ u m x n i o. next_is_us_state berth days day_start u m x n i o) h (root_state days) first marks s (root_is_us_state berth days day_start first) r

pub us_better_covers : (berth : Bool) (days day_start first : ℕ) (h k : List Activity) (marks others : List Mark) (a b : UsState) → 0 < days → IsTimed (UsProperty berth days day_start) first h →
    IsPlainlyBetter (UsProperty berth days day_start) first h marks k others → UsReaches berth days day_start (root_state days) first h marks a → UsReaches berth days day_start (root_state days) first k others b →
    us_covers berth days day_start a b (first + 1 * length h) ≡ true
us_better_covers berth days day_start first h k marks others a b some timed g r s =
    covers_better berth days day_start first h k marks others a b some timed (state_of_history berth days day_start first h marks a r)
    (subst (λ n. IsUsState berth days day_start b (first + 1 * n)) (sym g.same_length) (state_of_history berth days day_start first k others b s)) g r s
