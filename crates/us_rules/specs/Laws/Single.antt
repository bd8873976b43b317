-- A history with its marks reaches one state, and a unit chooses a mark only where it is first possible.
use Rattle.std.proofs.Common.{◌≡◌, ◌↔◌, ℕ, ◌+◌, ◌-◌, ◌*◌, ◌<◌, ◌≤◌, Bool, true, false, List, [], ◌∷◌, ◌++◌, length, sym, ◌∙◌, ap, subst, arith, length-append, inl, inr}
use Rattle.std.specs.Prelude.{None, Some, replicate, Contains, nat_lt}
use Rattle.std.proofs.lemmas.Bool.Decides.{nat_tests}
use Rattle.std.proofs.lemmas.Bool.{and_parts, cases_lt}
use Rattle.std.proofs.lemmas.List.Elements.{Contains-append_right}
use Rattle.duty_core.specs.declared.activity.Activity.{Activity}
use Rattle.duty_core.specs.declared.activity.Activity.TheVariants.{Off}
use Rattle.duty_core.specs.declared.mark.Mark.{Mark}
use Rattle.duty_core.specs.declared.mark.Mark.TheVariants.{SplitRest}
use Rattle.duty_core.specs.declared.params.Params.TheVariants.{UsProperty}
use Rattle.duty_core.specs.declared.rule.Rule.TheVariants.{UsPair}
use Rattle.duty_core.specs.declared.limits.TheConstants.{US_FULL_REST, PADDING_MINUTES}
use Rattle.duty_core.specs.Activity.{rests}
use Rattle.duty_core.specs.History.{unit_at, pad_units, padding, padded, IsTimed}
use Rattle.duty_core.specs.Laws.HistoryLaws.{unit_at-append, unit_at-replicate, unit_at-after}
use Rattle.duty_core.specs.RestRun.{IsRun}
use Rattle.duty_core.specs.RestRun.{EndsIn}
use Rattle.duty_core.specs.UsRules.{MeetsUsPair}
use Rattle.duty_core.specs.RuleBooks.{KeepsAll}
use Rattle.rule_core.specs.declared.nexts.Next.{Next}
use Rattle.rule_core.specs.Reach.{IsOneOf}
use Rattle.rule_core.specs.Refusal.{IsRefused}
use Rattle.rule_core.specs.Laws.RefusalLaws.{IsSingle, refused_exactly, refused_at_unit}
use Rattle.sleeper_split.specs.declared.rule.TheConstants.SplitRule.{US}
use Rattle.sleeper_split.specs.declared.count.SplitCount.{SplitCount}
use Rattle.sleeper_split.specs.Machine.{fresh_count, run_of, may_split}
use Rattle.sleeper_split.specs.Choices.{Choice, Declares}
use Rattle.sleeper_split.specs.Laws.Growth.{contains_head}
use Rattle.sleeper_split.specs.Laws.ChoiceLaws.{IsChoice, declares_once}
use Rattle.sleeper_split.specs.Tracks.{Tracks}
use Rattle.sleeper_split.specs.Laws.ExactLaws.{split_exact, split_tracks}
use Rattle.sleeper_split.specs.Laws.CountryLaws.{us_rule, us_limit}
use Rattle.us_rules.specs.declared.state.UsState.{UsState}
use Rattle.us_rules.specs.Machine.{us_fits, mark_of, us_nexts, us_made, root_state, us_advances}
use Rattle.us_rules.specs.Book.{us_book}
use Rattle.us_rules.specs.Laws.Padding.{us_minutes, us_pads, length_padding}
use Rattle.us_rules.specs.Laws.Paths.{UsReaches, IsUsPath, next_means, us_choice}
use Rattle.sleeper_split.specs.Laws.Places.{minute_means, HaveMinutes, places_once}
use Rattle.us_rules.specs.Laws.Advance.{us_advances_reach, us_advances_all}
use Rattle.sleeper_split.specs.Promises.{MeetsUsShift}
use Rattle.us_rules.specs.Laws.Exact.{short_history, starts_have, root_path, us_exact}

-- a path, as one of the counts alone
split_path : (berth : Bool) (days day_start first : ℕ) (h : List Activity) (marks : List Mark) (u : UsState) (q : IsUsPath berth days day_start first (root_state days) first PADDING_MINUTES h marks u) →
    Declares US berth us_fits fresh_count (pad_units (UsProperty berth days day_start)) h q.starts u.split
split_path berth days day_start first h marks u q = subst (λ n. Declares US berth us_fits fresh_count n h q.starts u.split) (sym (us_pads berth days day_start)) q.declares

-- the places of a path have minutes
path_has : (berth : Bool) (days day_start first : ℕ) (h : List Activity) (marks : List Mark) (u : UsState) → IsTimed (UsProperty berth days day_start) first h →
    (q : IsUsPath berth days day_start first (root_state days) first PADDING_MINUTES h marks u) → HaveMinutes first q.starts
path_has berth days day_start first h marks u timed q =
    let pads = us_pads berth days day_start in
    let k = (split_exact US berth us_fits MeetsUsShift (pad_units (UsProperty berth days day_start)) h q.starts us_rule us_limit (omega arith) (short_history berth days day_start first h timed)).0
    (u.split, split_path berth days day_start first h marks u q) in
    starts_have berth days day_start first h q.starts k.splits

same_state : (s t : UsState) → s.split ≡ t.split → s.rest_break ≡ t.rest_break → s.week ≡ t.week → s ≡ t
same_state s t e f g = ap (λ u. us_made u s.rest_break s.week) e ∙ (ap (λ v. us_made t.split v s.week) f ∙ ap (us_made t.split t.rest_break) g)

pub us_one : (berth : Bool) (days day_start first : ℕ) (h : List Activity) (marks : List Mark) (s t : UsState) → IsTimed (UsProperty berth days day_start) first h →
    UsReaches berth days day_start (root_state days) first h marks s → UsReaches berth days day_start (root_state days) first h marks t → s ≡ t
us_one berth days day_start first h marks s t timed r q =
    let a = root_path berth days day_start first h marks s r in
    let b = root_path berth days day_start first h marks t q in
    let one : a.starts ≡ b.starts = places_once first a.starts b.starts (path_has berth days day_start first h marks s timed a) (path_has berth days day_start first h marks t timed b) (sym a.named ∙ b.named) in
    same_state s t
    (declares_once US berth us_fits fresh_count PADDING_MINUTES h b.starts s.split t.split (omega arith) (subst (λ l. Declares US berth us_fits fresh_count PADDING_MINUTES h l s.split) one a.declares) b.declares)
    (a.led_break ∙ sym b.led_break)
    (a.led_week ∙ sym b.led_week)

-- a run in progress has not ended
open_run : (p : List Activity) (n from to run : ℕ) → EndsIn p run → from ≡ length p - run → IsRun (p ++ replicate n Off) from to → ⊥
open_run p n from to run h e r = let l = h.there in let s = r.some in elim (cases_lt to (length p)) [
  | inl k ↦ (let z : true ≡ false = sym (ap rests (unit_at-append p (replicate n Off) to k) ∙ h.rest to (omega arith) k) ∙ r.ended in cc)
  | inr k ↦ (let z : true ≡ false = sym (ap rests (unit_at-after p n to k)) ∙ r.ended in cc)
]

-- a short run in progress begins after the padding
run_after : (berth : Bool) (days day_start : ℕ) (h : List Activity) (run : ℕ) → EndsIn (padding (UsProperty berth days day_start) ++ h) run → run < PADDING_MINUTES → run ≤ length h
run_after berth days day_start h run e l = elim (cases_lt (length h) run) [
  | inr m ↦ m
  | inl m ↦
      let pads : List Activity = padding (UsProperty berth days day_start) in
      let len = length_padding berth days day_start in
      let long : length (pads ++ h) ≡ PADDING_MINUTES + length h = omega (arith, length-append pads h) in
      let k : ℕ = length (pads ++ h) - run - 1 in
      let inside : k < length pads = omega arith in
      let rest : rests (unit_at (pads ++ h) k) ≡ true = ap rests (unit_at-append pads h k inside ∙ unit_at-replicate (pad_units (UsProperty berth days day_start)) k) in
      absurd (let z : true ≡ false = sym rest ∙ e.starts k (omega arith) in cc)
]

bare : (split : Bool) (start : ℕ) (m : Mark) → split ≡ false → mark_of split start ≡ Some m → ⊥
bare split start m f e = let z : None ≡ Some m = sym (ap (λ b. mark_of b start) f) ∙ e in cc

is_marked : (split : Bool) (start : ℕ) (m : Mark) → split ≡ true → mark_of split start ≡ Some m → m ≡ SplitRest start
is_marked split start m f e = let z : Some (SplitRest start) ≡ Some m = sym (ap (λ b. mark_of b start) f) ∙ e in cc

below : (a b : ℕ) → nat_lt a b ≡ true → a < b
below a b h = grind (arith, nat_tests)

is_short : (s : SplitCount) → may_split US s ≡ true → run_of s < US_FULL_REST
is_short s h = below (run_of s) US_FULL_REST (and_parts _ _ (and_parts _ _ h).1).0

last_in : (marks : List Mark) (m : Mark) → Contains (marks ++ m ∷ []) m
last_in marks m = Contains-append_right marks (m ∷ []) m (contains_head m [])

-- a mark that is chosen is that of a run shorter than a full rest
chosen_split : (berth : Bool) (s : SplitCount) (x : Activity) (c : Choice) (start : ℕ) (m : Mark) → IsChoice US berth us_fits s x c → mark_of c.split start ≡ Some m → (run_of s < US_FULL_REST) × (m ≡ SplitRest start)
chosen_split berth s x c start m k e = elim k [
  | inl r ↦ absurd (bare c.split start m (sym (ap (λ (d : Choice). d.split) r.is)) e)
  | inr l ↦ elim l [
    | inl r ↦ absurd (bare c.split start m (sym (ap (λ (d : Choice). d.split) r.is)) e)
    | inr n ↦ elim n [
      | inl r ↦ (is_short s r.passes, is_marked c.split start m (sym (ap (λ (d : Choice). d.split) r.is)) e)
      | inr r ↦ absurd (bare c.split start m (sym (ap (λ (d : Choice). d.split) r.is)) e)
    ]
  ]
]

-- with a mark that a unit chooses the history before the unit is not lawful
pub us_chosen : (berth : Bool) (days day_start first : ℕ) (h : List Activity) (marks : List Mark) (s : UsState) (x : Activity) (n : Next UsState) (m : Mark) → IsTimed (UsProperty berth days day_start) first h →
    UsReaches berth days day_start (root_state days) first h marks s → IsOneOf (us_nexts berth days day_start s (first + 1 * length h) x) n → n.mark ≡ Some m →
    KeepsAll (UsProperty berth days day_start) first h (marks ++ m ∷ []) → ⊥
us_chosen berth days day_start first h marks s x n m timed r o e lawful =
    let params = UsProperty berth days day_start in
    let p : List Activity = padding params ++ h in
    let at : ℕ = first + 1 * length h in
    let pads = us_pads berth days day_start in
    let len = length_padding berth days day_start in
    let long : length p ≡ PADDING_MINUTES + length h = omega (arith, length-append (padding params) h) in
    let q = root_path berth days day_start first h marks s r in
    let t : Tracks US p (Contains q.starts) s.split = split_tracks US berth us_fits (pad_units params) h q.starts s.split us_rule (omega arith) (short_history berth days day_start first h timed) (split_path berth days day_start first h marks s q) in
    let k = next_means berth days day_start s at x n o in
    let c = chosen_split berth s.split x k.by (at - run_of s.split) m (us_choice berth s.split x k.by k.chosen) (ap (λ (v : Next UsState). v.mark) k.is ∙ e) in
    let run : run_of s.split ≡ t.run = (elim t.state [ inl f ↦ (let z = f.counted in let y = c.0 in absurd (omega arith)) | inr f ↦ f.counted ]) in
    let pair : MeetsUsPair params first (padded params h) (marks ++ m ∷ []) = lawful.rules 4 UsPair (omega arith) in
    let named = pair.splits (at - run_of s.split) (subst (Contains (marks ++ m ∷ [])) c.1 (last_in marks m)) in
    let minute = minute_means (UsProperty berth days day_start) first (at - run_of s.split) named.from (us_minutes berth days day_start) named.minute in
    let there = t.ends.there in
    let small = c.0 in
    let thereafter = run_after berth days day_start h t.run t.ends (omega arith) in
    open_run p (pad_units params) named.from named.run.to t.run t.ends (omega arith) named.run.run

pub us_single : (berth : Bool) (days day_start first : ℕ) → 0 < days → IsSingle (UsProperty berth days day_start) (us_book berth days day_start) first
us_single berth days day_start first some = record {
  exact = λ h marks timed. us_exact berth days day_start first h marks some timed;
  one = λ h marks s t timed r q. us_one berth days day_start first h marks s t timed r q;
  chosen = λ h marks s x n m timed r o e lawful. us_chosen berth days day_start first h marks s x n m timed r o e lawful;
}

-- A state that a history reaches has no successors exactly where no marks help the unit.
pub us_refuses : (berth : Bool) (days day_start first : ℕ) (h : List Activity) (marks : List Mark) (s : UsState) (x : Activity) → 0 < days → IsTimed (UsProperty berth days day_start) first (h ++ x ∷ []) →
    UsReaches berth days day_start (root_state days) first h marks s →
    (us_nexts berth days day_start s (first + 1 * length h) x ≡ []) ↔ IsRefused (UsProperty berth days day_start) first h marks (x ∷ [])
us_refuses berth days day_start first h marks s x some timed r =
    refused_at_unit (UsProperty berth days day_start) (us_book berth days day_start) first h marks s x (us_single berth days day_start first some) timed r

-- Many equal units lead it to nothing exactly where no marks help them.
pub us_refuses_units : (berth : Bool) (days day_start first : ℕ) (h : List Activity) (marks : List Mark) (s : UsState) (x : Activity) (n : ℕ) → 0 < days → IsTimed (UsProperty berth days day_start) first (h ++ replicate n x) →
    UsReaches berth days day_start (root_state days) first h marks s →
    (us_advances berth days day_start s (first + 1 * length h) x n ≡ []) ↔ IsRefused (UsProperty berth days day_start) first h marks (replicate n x)
us_refuses_units berth days day_start first h marks s x n some timed r =
    let at : ℕ = first + 1 * length h in
    refused_exactly (UsProperty berth days day_start) (us_book berth days day_start) first h marks s (replicate n x) (λ t. us_advances berth days day_start t at x n) (us_single berth days day_start first some)
    (λ earlier t q. record { reached = us_advances_reach berth days day_start n t at x; all = us_advances_all berth days day_start n t at x }) timed r
