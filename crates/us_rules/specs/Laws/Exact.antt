-- The book is exact: a history is reached from the root by a path that chooses these marks exactly where it keeps every rule with them.
use Rattle.std.proofs.Common.{◌≡◌, ◌↔◌, ℕ, ◌+◌, ◌-◌, ◌<◌, ◌≤◌, Bool, true, false, List, [], ◌∷◌, ◌++◌, length, refl, sym, ◌∙◌, ap, subst, arith, length-append, inl, inr}
use Rattle.std.specs.Prelude.{map, replicate, Contains, All, ℤ}
use Rattle.std.proofs.lemmas.Bool.{cases_lt}
use Rattle.std.proofs.lemmas.List.Elements.{All-cons}
use Rattle.duty_core.specs.declared.activity.Activity.{Activity}
use Rattle.duty_core.specs.declared.mark.Mark.{Mark}
use Rattle.duty_core.specs.declared.mark.Mark.TheVariants.{SplitRest, DeferDay}
use Rattle.duty_core.specs.declared.params.Params.TheVariants.{UsProperty}
use Rattle.duty_core.specs.declared.rule.Rule.{Rule}
use Rattle.duty_core.specs.declared.rule.Rule.TheVariants.{UsWindow14, UsDrive11, UsBreak8, UsWeek, UsPair}
use Rattle.duty_core.specs.declared.limits.TheConstants.{US_FULL_REST, PADDING_MINUTES, COUNT_LIMIT, US_BREAK, US_RESTART}
use Rattle.duty_core.specs.Activity.{rests}
use Rattle.duty_core.specs.History.{unit_at, pad_units, padding, padded, IsTimed}
use Rattle.duty_core.specs.Laws.HistoryLaws.{unit_at-append, unit_at-replicate}
use Rattle.duty_core.specs.Marks.{IsSplitAt}
use Rattle.duty_core.specs.DeclaredRest.{IsSplittable}
use Rattle.duty_core.specs.UsRules.{MeetsUsWindow14, MeetsUsDrive11, MeetsUsBreak8, MeetsUsWeek, IsUsPair, MeetsUsPair}
use Rattle.duty_core.specs.RuleBooks.{Keeps, KeepsAll}
use Rattle.rule_core.specs.Laws.Guard.{guard_exact}
use Rattle.sleeper_split.specs.declared.rule.TheConstants.SplitRule.{US}
use Rattle.sleeper_split.specs.Machine.{fresh_count}
use Rattle.sleeper_split.specs.Choices.{Declares}
use Rattle.sleeper_split.specs.Laws.Alike.{base_marked}
use Rattle.sleeper_split.specs.Exact.{MaySplit, KeepsSplits, IsPairOf}
use Rattle.sleeper_split.specs.Laws.ExactLaws.{split_exact}
use Rattle.sleeper_split.specs.Laws.CountryLaws.{us_rule, us_pair, us_may_split, us_limit}
use Rattle.us_rules.specs.declared.state.UsState.{UsState}
use Rattle.us_rules.specs.Machine.{us_fits, break_made, break_after, break_ok, week_made, week_after, week_ok, root_state}
use Rattle.us_rules.specs.Laws.Padding.{us_minutes, us_pads, length_padding}
use Rattle.us_rules.specs.Laws.BreakGuard.{TracksBreak, break_is_guard, tracks_break_root}
use Rattle.us_rules.specs.Laws.WeekGuard.{us_day, TracksWeek, week_is_guard, tracks_week_root}
use Rattle.us_rules.specs.Laws.Paths.{UsReaches, IsUsPath, us_path, path_us}
use Rattle.sleeper_split.specs.Promises.{MeetsUsShift}
use Rattle.sleeper_split.specs.Laws.SameMarks.{AreSame, same_back, marked_alike, paired_same, same_marks}
use Rattle.sleeper_split.specs.Laws.Places.{mark_at, minute_means, means_minute, contains-map, HaveMinutes, marks_ordered, HasPlace, place_of, marks_again, places_have, places_ordered}

-- # One history, its runs marked in two ways

window_same : (p : List Activity) (Marked Other : ℕ → Type 0) (i : ℕ) → AreSame Marked Other → MeetsUsWindow14 p Marked i → MeetsUsWindow14 p Other i
window_same p Marked Other i g h e base omitted b = h e base omitted (base_marked (marked_alike p Other Marked (i + 1) (same_back g)) (omega arith) b)

driving_same : (p : List Activity) (Marked Other : ℕ → Type 0) (i : ℕ) → AreSame Marked Other → MeetsUsDrive11 p Marked i → MeetsUsDrive11 p Other i
driving_same p Marked Other i g h e base omitted b = h e base omitted (base_marked (marked_alike p Other Marked (i + 1) (same_back g)) (omega arith) b)

-- # Lawful by places

-- what is asked of a padded history, with the places at which its split rests begin
pub record KeepsByPlaces (berth : Bool) (days day_start first : ℕ) (p : List Activity) (marks : List Mark) : Type 0 where
  pub starts : List ℕ
  pub named : marks ≡ map (mark_at first) starts
  pub splits : KeepsSplits US berth MeetsUsShift p starts
  pub unbroken : (i : ℕ) → MeetsUsBreak8 p i
  pub week : (i : ℕ) → MeetsUsWeek days (us_day day_start first) p i

-- a run that may be split begins after the padding
split_after : (berth : Bool) (days day_start : ℕ) (h : List Activity) (a : ℕ) → MaySplit US berth (padded (UsProperty berth days day_start) h) a → PADDING_MINUTES ≤ a
split_after berth days day_start h a s = elim (cases_lt a PADDING_MINUTES) [
  | inr l ↦ l
  | inl l ↦
      let p : List Activity = padded (UsProperty berth days day_start) h in
      let pads : List Activity = padding (UsProperty berth days day_start) in
      let len = length_padding berth days day_start in
      let rest : (k : ℕ) → k < PADDING_MINUTES → rests (unit_at p k) ≡ true =
      (λ k m. let inside : k < length (pads ++ h) = omega (arith, length-append pads h) in
      ap rests (unit_at-append (pads ++ h) pads k inside ∙ (unit_at-append pads h k (omega arith) ∙ unit_at-replicate (pad_units (UsProperty berth days day_start)) k))) in
      let r = s.run.run in
      let short = s.run.short in
      elim (cases_lt 0 a) [
        | inl u ↦ absurd (let z : true ≡ false = sym (rest (a - 1) (omega arith)) ∙ r.starts (a - 1) (omega arith) in cc)
        | inr u ↦ absurd (let z : true ≡ false = sym (rest s.run.to (omega arith)) ∙ r.ended in cc)
      ]
]

pub starts_have : (berth : Bool) (days day_start first : ℕ) (h : List Activity) (starts : List ℕ) → ((a : ℕ) → Contains starts a → MaySplit US berth (padded (UsProperty berth days day_start) h) a) → HaveMinutes first starts
starts_have berth days day_start first h starts s k i = let l = split_after berth days day_start h k (s k i) in omega arith

no_deferral : (first : ℕ) (starts : List ℕ) (day : ℤ) → Contains (map (mark_at first) starts) (DeferDay day) → ⊥
no_deferral first starts day i = let q = contains-map (mark_at first) starts (DeferDay day) i in let z : SplitRest (first + q.0 - PADDING_MINUTES) ≡ DeferDay day = q.2 in cc

-- the five rules of the book
five_rules : (K : Rule → Type 0) → K UsWindow14 → K UsDrive11 → K UsBreak8 → K UsWeek → K UsPair → All K (UsWindow14 ∷ UsDrive11 ∷ UsBreak8 ∷ UsWeek ∷ UsPair ∷ [])
five_rules K a b c d e =
    All-cons K UsWindow14 (UsDrive11 ∷ UsBreak8 ∷ UsWeek ∷ UsPair ∷ []) a
    (All-cons K UsDrive11 (UsBreak8 ∷ UsWeek ∷ UsPair ∷ []) b
    (All-cons K UsBreak8 (UsWeek ∷ UsPair ∷ []) c
    (All-cons K UsWeek (UsPair ∷ []) d
    (All-cons K UsPair [] e (λ k z l. absurd (omega arith))))))

-- marks that name such places keep the book
keeps_of_places : (berth : Bool) (days day_start first : ℕ) (h : List Activity) (starts : List ℕ) → let p = padded (UsProperty berth days day_start) h in
    KeepsSplits US berth MeetsUsShift p starts → ((i : ℕ) → MeetsUsBreak8 p i) → ((i : ℕ) → MeetsUsWeek days (us_day day_start first) p i) →
    KeepsAll (UsProperty berth days day_start) first h (map (mark_at first) starts)
keeps_of_places berth days day_start first h starts k unbroken week =
    let p : List Activity = padded (UsProperty berth days day_start) h in
    let have : HaveMinutes first starts = starts_have berth days day_start first h starts k.splits in
    let same = same_marks (UsProperty berth days day_start) first starts (us_minutes berth days day_start) have in
    let marks : List Mark = map (mark_at first) starts in
    let Marked : ℕ → Type 0 = IsSplitAt (UsProperty berth days day_start) first marks in
    let window : Keeps (UsProperty berth days day_start) first h marks UsWindow14 = (λ i. window_same p (Contains starts) Marked i same (k.limits i).0) in
    let driven : Keeps (UsProperty berth days day_start) first h marks UsDrive11 = (λ i. driving_same p (Contains starts) Marked i same (k.limits i).1) in
    let pair : Keeps (UsProperty berth days day_start) first h marks UsPair = record {
      splits = λ at i.
          let q = contains-map (mark_at first) starts (SplitRest at) i in
          let e : first + q.0 - PADDING_MINUTES ≡ at = (let z : SplitRest (first + q.0 - PADDING_MINUTES) ≡ SplitRest at = q.2 in cc) in
          let l = have q.0 q.1 in
          record { from = q.0; minute = means_minute (UsProperty berth days day_start) first at q.0 (us_minutes berth days day_start) (omega arith); run = (us_may_split berth p q.0).0 (k.splits q.0 q.1) };
      none_deferred = no_deferral first starts;
      pairs = λ d. paired_same US_FULL_REST p (Contains starts) Marked (IsUsPair p) d same (λ a b c s n. (us_pair p a b c d).0 (k.pairs d a b c s n));
    } in
    record {
      marks_of_book = marks_ordered (UsProperty berth days day_start) first starts have k.order;
      rules = five_rules (Keeps (UsProperty berth days day_start) first h marks) window driven unbroken week pair;
    }

-- the places of the marks of a lawful history
marks_placed : (berth : Bool) (days day_start first : ℕ) (p : List Activity) (marks : List Mark) → MeetsUsPair (UsProperty berth days day_start) first p marks → (m : Mark) → Contains marks m → HasPlace first m
marks_placed berth days day_start first p marks h (SplitRest at) i =
    let s = h.splits at i in
    let e = minute_means (UsProperty berth days day_start) first at s.from (us_minutes berth days day_start) s.minute in
    omega arith
marks_placed berth days day_start first p marks h (DeferDay day) i = h.none_deferred day i

-- and what keeps the book names such places
places_of_keeps : (berth : Bool) (days day_start first : ℕ) (h : List Activity) (marks : List Mark) → KeepsAll (UsProperty berth days day_start) first h marks →
    KeepsByPlaces berth days day_start first (padded (UsProperty berth days day_start) h) marks
places_of_keeps berth days day_start first h marks k =
    let p : List Activity = padded (UsProperty berth days day_start) h in
    let window : (i : ℕ) → MeetsUsWindow14 p (IsSplitAt (UsProperty berth days day_start) first marks) i = k.rules 0 UsWindow14 (omega arith) in
    let driven : (i : ℕ) → MeetsUsDrive11 p (IsSplitAt (UsProperty berth days day_start) first marks) i = k.rules 1 UsWindow14 (omega arith) in
    let unbroken : (i : ℕ) → MeetsUsBreak8 p i = k.rules 2 UsWindow14 (omega arith) in
    let week : (i : ℕ) → MeetsUsWeek days (us_day day_start first) p i = k.rules 3 UsWindow14 (omega arith) in
    let pair : MeetsUsPair (UsProperty berth days day_start) first p marks = k.rules 4 UsWindow14 (omega arith) in
    let placed = marks_placed berth days day_start first p marks pair in
    let starts : List ℕ = map (place_of first) marks in
    let named : marks ≡ map (mark_at first) starts = marks_again first marks placed in
    let have : HaveMinutes first starts = places_have first marks placed in
    let same : AreSame (Contains starts) (IsSplitAt (UsProperty berth days day_start) first marks) =
    subst (λ ms. AreSame (Contains starts) (IsSplitAt (UsProperty berth days day_start) first ms)) (sym named) (same_marks (UsProperty berth days day_start) first starts (us_minutes berth days day_start) have) in
    record {
      starts = starts;
      named = named;
      splits = record {
        order = places_ordered (UsProperty berth days day_start) first marks placed k.marks_of_book;
        splits = λ a i.
            let m = same.marks a i in
            let s = pair.splits m.at m.marked in
            let e = minute_means (UsProperty berth days day_start) first m.at a (us_minutes berth days day_start) m.minute in
            let f = minute_means (UsProperty berth days day_start) first m.at s.from (us_minutes berth days day_start) s.minute in
            let one : s.from ≡ a = omega arith in
            (us_may_split berth p a).1 (subst (IsSplittable _ _ berth p) one s.run);
        pairs = λ d. paired_same US_FULL_REST p (IsSplitAt (UsProperty berth days day_start) first marks) (Contains starts) (IsPairOf US p) d (same_back same) (λ a b c s n. (us_pair p a b c d).1 (pair.pairs d a b c s n));
        limits = λ i. (
          window_same p (IsSplitAt (UsProperty berth days day_start) first marks) (Contains starts) i (same_back same) (window i),
          driving_same p (IsSplitAt (UsProperty berth days day_start) first marks) (Contains starts) i (same_back same) (driven i),
        );
      };
      unbroken = unbroken;
      week = week;
    }

-- # Exact

-- the history is short enough to be counted
pub short_history : (berth : Bool) (days day_start first : ℕ) (h : List Activity) → IsTimed (UsProperty berth days day_start) first h → pad_units (UsProperty berth days day_start) + length h < COUNT_LIMIT
short_history berth days day_start first h t = let l = us_pads berth days day_start in let m = t.long in omega arith

pub root_path : (berth : Bool) (days day_start first : ℕ) (h : List Activity) (marks : List Mark) (u : UsState) → UsReaches berth days day_start (root_state days) first h marks u →
    IsUsPath berth days day_start first (root_state days) first PADDING_MINUTES h marks u
root_path berth days day_start first h marks u r = us_path berth days day_start first h (root_state days) first PADDING_MINUTES marks u refl (omega arith) r

us_sound : (berth : Bool) (days day_start first : ℕ) (h : List Activity) (marks : List Mark) → 0 < days → IsTimed (UsProperty berth days day_start) first h →
    (u : UsState) → UsReaches berth days day_start (root_state days) first h marks u → KeepsAll (UsProperty berth days day_start) first h marks
us_sound berth days day_start first h marks some timed u r =
    let params = UsProperty berth days day_start in
    let q = root_path berth days day_start first h marks u r in
    let pads = us_pads berth days day_start in
    let d : Declares US berth us_fits fresh_count (pad_units params) h q.starts u.split = subst (λ n. Declares US berth us_fits fresh_count n h q.starts u.split) (sym pads) q.declares in
    let k = (split_exact US berth us_fits MeetsUsShift (pad_units params) h q.starts us_rule us_limit (omega arith) (short_history berth days day_start first h timed)).0 (u.split, d) in
    let brk = (guard_exact params first MeetsUsBreak8 TracksBreak break_ok break_after (break_is_guard berth days day_start first) (break_made US_BREAK 0) h (tracks_break_root berth days day_start)).0 q.unbroken in
    let week = (guard_exact params first (MeetsUsWeek days (us_day day_start first)) (TracksWeek days day_start first) (week_ok days day_start) (week_after day_start) (week_is_guard berth days day_start first some) (week_made US_RESTART (replicate days 0)) h
    (tracks_week_root berth days day_start first)).0 q.week in
    subst (KeepsAll params first h) (sym q.named) (keeps_of_places berth days day_start first h q.starts k brk week)

us_whole : (berth : Bool) (days day_start first : ℕ) (h : List Activity) (marks : List Mark) → 0 < days → IsTimed (UsProperty berth days day_start) first h →
    KeepsAll (UsProperty berth days day_start) first h marks → (u : UsState) × UsReaches berth days day_start (root_state days) first h marks u
us_whole berth days day_start first h marks some timed l =
    let params = UsProperty berth days day_start in
    let q = places_of_keeps berth days day_start first h marks l in
    let pads = us_pads berth days day_start in
    let k = (split_exact US berth us_fits MeetsUsShift (pad_units params) h q.starts us_rule us_limit (omega arith) (short_history berth days day_start first h timed)).1 q.splits in
    let d : Declares US berth us_fits fresh_count PADDING_MINUTES h q.starts k.0 = subst (λ n. Declares US berth us_fits fresh_count n h q.starts k.0) pads k.1 in
    let brk = (guard_exact params first MeetsUsBreak8 TracksBreak break_ok break_after (break_is_guard berth days day_start first) (break_made US_BREAK 0) h (tracks_break_root berth days day_start)).1 q.unbroken in
    let week = (guard_exact params first (MeetsUsWeek days (us_day day_start first)) (TracksWeek days day_start first) (week_ok days day_start) (week_after day_start) (week_is_guard berth days day_start first some) (week_made US_RESTART (replicate days 0)) h
    (tracks_week_root berth days day_start first)).1 q.week in
    subst (λ ms. (u : UsState) × UsReaches berth days day_start (root_state days) first h ms u) (sym q.named)
    (path_us berth days day_start first h (root_state days) first PADDING_MINUTES q.starts k.0 refl (omega arith) d brk week)

-- A history is reached by a path that chooses these marks exactly where it keeps every rule with them.
pub us_exact : (berth : Bool) (days day_start first : ℕ) (h : List Activity) (marks : List Mark) → 0 < days → IsTimed (UsProperty berth days day_start) first h →
    ((u : UsState) × UsReaches berth days day_start (root_state days) first h marks u) ↔ KeepsAll (UsProperty berth days day_start) first h marks
us_exact berth days day_start first h marks some timed =
    ((λ r. us_sound berth days day_start first h marks some timed r.0 r.1), (λ l. us_whole berth days day_start first h marks some timed l))
