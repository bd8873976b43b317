-- A path of the book's machine is a path of the counts of split rests that both guards let pass.
use Rattle.std.proofs.Common.{◌≡◌, ℕ, ◌+◌, ◌-◌, ◌≤◌, Bool, true, List, [], ◌∷◌, ◌++◌, refl, sym, ◌∙◌, ap, subst, arith}
use Rattle.std.specs.Prelude.{Option, map, Contains, ◌&&◌}
use Rattle.std.specs.Option.{option_to_list}
use Rattle.std.proofs.lemmas.Bool.{and_parts, and_from}
use Rattle.std.proofs.lemmas.List.{map-append}
use Rattle.duty_core.specs.declared.activity.Activity.{Activity}
use Rattle.duty_core.specs.declared.mark.Mark.{Mark}
use Rattle.duty_core.specs.declared.limits.TheConstants.{PADDING_MINUTES}
use Rattle.rule_core.specs.declared.nexts.Next.{Next}
use Rattle.rule_core.specs.Reach.{IsOneOf, Reaches}
use Rattle.rule_core.specs.Laws.OneOf.{one_of-map, one_of_map, contains_of, of_contains}
use Rattle.rule_core.specs.Laws.Guard.{Passes, led, when_true, true_when}
use Rattle.sleeper_split.specs.declared.rule.TheConstants.SplitRule.{US}
use Rattle.sleeper_split.specs.declared.count.SplitCount.{SplitCount}
use Rattle.sleeper_split.specs.Machine.{run_of}
use Rattle.sleeper_split.specs.Choices.{Choice, choices, declared, Declares}
use Rattle.sleeper_split.specs.Laws.ChoiceLaws.{IsChoice, choice_cases, choice_run}
use Rattle.sleeper_split.specs.Laws.Places.{mark_at, named_choice}
use Rattle.us_rules.specs.declared.state.UsState.{UsState}
use Rattle.us_rules.specs.Machine.{us_fits, break_after, break_ok, week_after, week_ok, mark_of, us_next, us_nexts}

-- # Successors

-- what a successor comes by
pub record IsUsNext (berth : Bool) (days day_start : ℕ) (s : UsState) (at : ℕ) (x : Activity) (n : Next UsState) : Type 0 where
  pub unbroken : break_ok s.rest_break at x ≡ true
  pub week : week_ok days day_start s.week at x ≡ true
  pub by : Choice
  pub chosen : Contains (choices US berth us_fits s.split x) by
  pub is : us_next (break_after s.rest_break at x) (week_after day_start s.week at x) (at - run_of s.split) by ≡ n

pub next_means : (berth : Bool) (days day_start : ℕ) (s : UsState) (at : ℕ) (x : Activity) (n : Next UsState) → IsOneOf (us_nexts berth days day_start s at x) n → IsUsNext berth days day_start s at x n
next_means berth days day_start s at x n o =
    let by = us_next (break_after s.rest_break at x) (week_after day_start s.week at x) (at - run_of s.split) in
    let w = when_true (break_ok s.rest_break at x && week_ok days day_start s.week at x) (map by (choices US berth us_fits s.split x)) n o in
    let b = and_parts (break_ok s.rest_break at x) (week_ok days day_start s.week at x) w.0 in
    let k = one_of-map by (choices US berth us_fits s.split x) n w.1 in
    record { unbroken = b.0; week = b.1; by = k.0; chosen = contains_of (choices US berth us_fits s.split x) k.0 k.1; is = k.2 }

pub means_next : (berth : Bool) (days day_start : ℕ) (s : UsState) (at : ℕ) (x : Activity) (c : Choice) → break_ok s.rest_break at x ≡ true → week_ok days day_start s.week at x ≡ true →
    Contains (choices US berth us_fits s.split x) c →
    IsOneOf (us_nexts berth days day_start s at x) (us_next (break_after s.rest_break at x) (week_after day_start s.week at x) (at - run_of s.split) c)
means_next berth days day_start s at x c b w h =
    let by = us_next (break_after s.rest_break at x) (week_after day_start s.week at x) (at - run_of s.split) in
    true_when (break_ok s.rest_break at x && week_ok days day_start s.week at x) (map by (choices US berth us_fits s.split x)) (by c)
    (and_from (break_ok s.rest_break at x) (week_ok days day_start s.week at x) b w)
    (one_of_map by (choices US berth us_fits s.split x) c (of_contains (choices US berth us_fits s.split x) c h))

pub us_choice : (berth : Bool) (s : SplitCount) (x : Activity) (c : Choice) → Contains (choices US berth us_fits s x) c → IsChoice US berth us_fits s x c
us_choice berth s x c h = choice_cases US berth us_fits s x c (omega arith) h

-- # Marks of places

named_more : (split : Bool) (first at i run : ℕ) (marks later : List Mark) (o : Option Mark) (starts : List ℕ) → at + PADDING_MINUTES ≡ first + i → run ≤ i →
    marks ≡ option_to_list o ++ later → o ≡ mark_of split (at - run) → later ≡ map (mark_at first) starts → marks ≡ map (mark_at first) (declared split (i - run) ++ starts)
named_more split first at i run marks later o starts e l m q n =
    m ∙ (ap (λ p. option_to_list p ++ later) q ∙ (ap (λ ms. ms ++ later) (named_choice split first at i run e l)
    ∙ (ap (λ ms. map (mark_at first) (declared split (i - run)) ++ ms) n ∙ sym (map-append (mark_at first) (declared split (i - run)) starts))))

-- # Paths

-- what a path of the machine comes by; the first unit stands at place i
pub record IsUsPath (berth : Bool) (days day_start first : ℕ) (s : UsState) (at i : ℕ) (xs : List Activity) (marks : List Mark) (u : UsState) : Type 0 where
  pub starts : List ℕ
  pub named : marks ≡ map (mark_at first) starts
  pub declares : Declares US berth us_fits s.split i xs starts u.split
  pub unbroken : Passes 1 break_ok break_after s.rest_break at xs
  pub week : Passes 1 (week_ok days day_start) (week_after day_start) s.week at xs
  pub led_break : u.rest_break ≡ led break_after s.rest_break at xs
  pub led_week : u.week ≡ led (week_after day_start) s.week at xs

abbrev pub UsReaches : Bool → ℕ → ℕ → UsState → ℕ → List Activity → List Mark → UsState → Type 0
UsReaches berth days day_start s at xs marks u = Reaches 1 (us_nexts berth days day_start) s at xs marks u

pub us_path : (berth : Bool) (days day_start first : ℕ) (xs : List Activity) (s : UsState) (at i : ℕ) (marks : List Mark) (u : UsState) → at + PADDING_MINUTES ≡ first + i → run_of s.split ≤ i →
    UsReaches berth days day_start s at xs marks u → IsUsPath berth days day_start first s at i xs marks u
us_path berth days day_start first [] s at i marks u e l r = record {
  starts = [];
  named = r.1;
  declares = (ap (λ v. v.split) r.0, refl);
  unbroken = tt;
  week = tt;
  led_break = sym (ap (λ v. v.rest_break) r.0);
  led_week = sym (ap (λ v. v.week) r.0);
}
us_path berth days day_start first (x ∷ xs) s at i marks u e l r =
    let k = next_means berth days day_start s at x r.0 r.1 in
    let es : k.by.count ≡ r.0.state.split = ap (λ n. n.state.split) k.is in
    let eb : break_after s.rest_break at x ≡ r.0.state.rest_break = ap (λ n. n.state.rest_break) k.is in
    let ew : week_after day_start s.week at x ≡ r.0.state.week = ap (λ n. n.state.week) k.is in
    let em : mark_of k.by.split (at - run_of s.split) ≡ r.0.mark = ap (λ n. n.mark) k.is in
    let run : run_of k.by.count ≤ i + 1 = choice_run US berth us_fits s.split x k.by i (us_choice berth s.split x k.by k.chosen) l in
    let q = us_path berth days day_start first xs r.0.state (at + 1) (i + 1) r.2 u (omega arith) (subst (λ c. run_of c ≤ i + 1) es run) r.4 in
    record {
      starts = declared k.by.split (i - run_of s.split) ++ q.starts;
      named = named_more k.by.split first at i (run_of s.split) marks r.2 r.0.mark q.starts e l r.3 (sym em) q.named;
      declares = (k.by, k.chosen, q.starts, refl, subst (λ c. Declares US berth us_fits c (i + 1) xs q.starts u.split) (sym es) q.declares);
      unbroken = (k.unbroken, subst (λ c. Passes 1 break_ok break_after c (at + 1) xs) (sym eb) q.unbroken);
      week = (k.week, subst (λ c. Passes 1 (week_ok days day_start) (week_after day_start) c (at + 1) xs) (sym ew) q.week);
      led_break = q.led_break ∙ ap (λ c. led break_after c (at + 1) xs) (sym eb);
      led_week = q.led_week ∙ ap (λ c. led (week_after day_start) c (at + 1) xs) (sym ew);
    }

pub path_us : (berth : Bool) (days day_start first : ℕ) (xs : List Activity) (s : UsState) (at i : ℕ) (starts : List ℕ) (t : SplitCount) → at + PADDING_MINUTES ≡ first + i → run_of s.split ≤ i →
    Declares US berth us_fits s.split i xs starts t → Passes 1 break_ok break_after s.rest_break at xs → Passes 1 (week_ok days day_start) (week_after day_start) s.week at xs →
    (u : UsState) × UsReaches berth days day_start s at xs (map (mark_at first) starts) u
path_us berth days day_start first [] s at i starts t e l d b w = (s, (refl, ap (map (mark_at first)) d.1))
path_us berth days day_start first (x ∷ xs) s at i starts t e l d b w =
    let c : Choice = d.0 in
    let n : Next UsState = us_next (break_after s.rest_break at x) (week_after day_start s.week at x) (at - run_of s.split) c in
    let run : run_of c.count ≤ i + 1 = choice_run US berth us_fits s.split x c i (us_choice berth s.split x c d.1) l in
    let q = path_us berth days day_start first xs n.state (at + 1) (i + 1) d.2 t (omega arith) run d.4 b.1 w.1 in (
      q.0,
      (
        n,
        means_next berth days day_start s at x c b.0 w.0 d.1,
        map (mark_at first) d.2,
        ap (map (mark_at first)) d.3 ∙ (map-append (mark_at first) (declared c.split (i - run_of s.split)) d.2 ∙ ap (λ ms. ms ++ map (mark_at first) d.2) (sym (named_choice c.split first at i (run_of s.split) e l))),
        q.1,
      ),
    )
