-- The counts allow exactly the histories whose split rests are such, make pairs, and keep the limits.
use Rattle.std.proofs.Common.{◌≡◌, ◌↔◌, ℕ, ◌+◌, ◌-◌, ◌<◌, ◌≤◌, Bool, true, false, cond, List, [], ◌∷◌, ◌++◌, length, refl, sym, ◌∙◌, ap, subst, arith, length-append, append_assoc, append-nil, inl, inr}
use Rattle.std.specs.Prelude.{nat_lt, nat_le, ◌&&◌, replicate, Contains}
use Rattle.std.proofs.lemmas.Bool.{cases_lt}
use Rattle.std.proofs.lemmas.List.{length-replicate}
use Rattle.std.proofs.lemmas.List.Elements.{Contains-append_right, Contains-append_cases}
use Rattle.duty_core.specs.declared.activity.Activity.{Activity}
use Rattle.duty_core.specs.declared.activity.Activity.TheVariants.{Drive, Serve, Wait, Off, Berth}
use Rattle.duty_core.specs.declared.limits.TheConstants.{COUNT_LIMIT}
use Rattle.duty_core.specs.Activity.{rests, drives}
use Rattle.duty_core.specs.History.{unit_at}
use Rattle.duty_core.specs.RestRun.{IsRun}
use Rattle.duty_core.specs.DeclaredRest.{ArePairedAt}
use Rattle.duty_core.specs.Laws.HistoryLaws.{AreAlike, alike_back, alike_append, unit_at-append, unit_at-last, unit_at-past, unit_at-after, unit_at-replicate, length-one_more}
use Rattle.duty_core.specs.RestRun.{EndsIn}
use Rattle.duty_core.specs.Laws.RunLaws.{ends_padding, ends_rest, ends_duty, run_alike, run_inside, run_ends}
use Rattle.sleeper_split.specs.declared.rule.BerthRule.{BerthRule}
use Rattle.sleeper_split.specs.declared.rule.BerthRule.TheVariants.{SevenInOne, AllOfNext}
use Rattle.sleeper_split.specs.declared.rule.SplitRule.{SplitRule}
use Rattle.sleeper_split.specs.declared.count.OpenRun.{OpenRun}
use Rattle.sleeper_split.specs.declared.count.SplitCount.{SplitCount}
use Rattle.sleeper_split.specs.Machine.{after_rest, after_duty, may_pair, has_split_berth, may_split, split_count, rested_count, fresh_count}
use Rattle.sleeper_split.specs.Choices.{Choice, choice, sleeps, declared, Declares}
use Rattle.sleeper_split.specs.Laws.Alike.{AreMarkedAlike, marked_back, marked_append, split_marked, next_marked, run_of, berth_alike, holds_berth_alike}
use Rattle.sleeper_split.specs.Laws.Growth.{From, contains_none, contains_one, contains_head, contains_tail, from_less, from_append, increasing, from_increasing, run_before, ends_unique, marked_fence}
use Rattle.sleeper_split.specs.Tracks.{IsStretch, Tracks}
use Rattle.sleeper_split.specs.Laws.TrackLaws.{run_counted, none_unmarked, tracks_rest, tracks_undeclared, is_full, tracks_full, is_split, tracks_split, marked_split}
use Rattle.sleeper_split.specs.Laws.Limits.{and_left, and_right, and_both, below, upto, is_below, is_upto, all_means, all_from, pair_means, pair_from}
use Rattle.sleeper_split.specs.Laws.ChoiceLaws.{IsAsSplit, IsChoice, choice_cases, is_choice}
use Rattle.sleeper_split.specs.Exact.{IsSplitRule, IsPairBerth, IsPairOf, IsSplitBerth, MaySplit, KeepsSplits}
use Rattle.sleeper_split.specs.Laws.Exact.{IsLimit}

-- # What is asked at a place

record IsAt (rule : SplitRule) (Holds : List Activity → (ℕ → Type 0) → ℕ → Type 0) (p : List Activity) (Marked : ℕ → Type 0) (i : ℕ) : Type 0 where
  pair : ArePairedAt rule.full (IsPairOf rule p) p Marked i
  limit : Holds p Marked i

pair_berth_alike : (k : BerthRule) (p q : List Activity) (n a b c d : ℕ) → AreAlike p q n → b ≤ n → d ≤ n → IsPairBerth k p a b c d → IsPairBerth k q a b c d
pair_berth_alike SevenInOne p q n a b c d g l m h = elim h [ inl u ↦ inl (holds_berth_alike g l u) | inr u ↦ inr (holds_berth_alike g m u) ]
pair_berth_alike AllOfNext p q n a b c d g l m h = berth_alike g m h

paired_alike : (rule : SplitRule) (p q : List Activity) (Marked Other : ℕ → Type 0) (n i : ℕ) → AreMarkedAlike p Marked q Other n → i < n → ArePairedAt rule.full (IsPairOf rule p) p Marked i → ArePairedAt rule.full (IsPairOf rule q) q Other i
paired_alike rule p q Marked Other n i g l h a b c s x =
    let r = run_of x.next in
    let e = r.some in
    let f = x.last.before in
    let bn : b < n = omega arith in
    let y = h a b c (split_marked (marked_back g) bn s) (next_marked (marked_back g) l x) in
    record { sum = y.sum; berth = pair_berth_alike rule.berth p q n a b c i g.alike (omega arith) (omega arith) y.berth }

paired_idle : (rule : SplitRule) (p : List Activity) (Marked : ℕ → Type 0) (i : ℕ) → rests (unit_at p i) ≡ true → ArePairedAt rule.full (IsPairOf rule p) p Marked i
paired_idle rule p Marked i h a b c s x = let r = run_of x.next in absurd (let z : true ≡ false = sym h ∙ r.ended in cc)

at_alike : (rule : SplitRule) (ok : SplitCount → Bool) (Holds : List Activity → (ℕ → Type 0) → ℕ → Type 0) (p q : List Activity) (Marked Other : ℕ → Type 0) (n i : ℕ) → IsLimit rule ok Holds → AreMarkedAlike p Marked q Other n → i < n → IsAt rule Holds p Marked i → IsAt rule Holds q Other i
at_alike rule ok Holds p q Marked Other n i limit g l h = record { pair = paired_alike rule p q Marked Other n i g l h.pair; limit = limit.local p q Marked Other n i g l h.limit }

not_driving : (p : List Activity) (i : ℕ) → rests (unit_at p i) ≡ true → unit_at p i ≡ Drive → ⊥
not_driving p i h k = let z : true ≡ false = sym h ∙ ap rests k in cc

at_idle : (rule : SplitRule) (ok : SplitCount → Bool) (Holds : List Activity → (ℕ → Type 0) → ℕ → Type 0) (p : List Activity) (Marked : ℕ → Type 0) (i : ℕ) → IsLimit rule ok Holds → rests (unit_at p i) ≡ true → IsAt rule Holds p Marked i
at_idle rule ok Holds p Marked i limit r = record { pair = paired_idle rule p Marked i r; limit = limit.idle p Marked i (not_driving p i r) }

-- # Histories

record IsKept (rule : SplitRule) (may : Bool) (Holds : List Activity → (ℕ → Type 0) → ℕ → Type 0) (p : List Activity) (m : List ℕ) : Type 0 where
  splits : (a : ℕ) → Contains m a → MaySplit rule may p a
  order : From 0 m
  at : (i : ℕ) → IsAt rule Holds p (Contains m) i

split_berth_alike : (k : BerthRule) (p q : List Activity) (n a b : ℕ) → AreAlike p q n → b ≤ n → IsSplitBerth k p a b → IsSplitBerth k q a b
split_berth_alike SevenInOne p q n a b g l h = tt
split_berth_alike AllOfNext p q n a b g l h = berth_alike g l h

splittable_alike : (rule : SplitRule) (may : Bool) (p q : List Activity) (n a : ℕ) → AreAlike p q n → (h : MaySplit rule may p a) → h.run.to < n → MaySplit rule may q a
splittable_alike rule may p q n a g h l = record {
  run = record { to = h.run.to; run = run_alike g l h.run.run; long = h.run.long; short = h.run.short; berthed = h.run.berthed };
  berth = split_berth_alike rule.berth p q n a h.run.to g (omega arith) h.berth;
}

splittable_more : (rule : SplitRule) (may : Bool) (p q : List Activity) (a : ℕ) → MaySplit rule may p a → MaySplit rule may (p ++ q) a
splittable_more rule may p q a h = splittable_alike rule may p (p ++ q) (length p) a (alike_append p q) h (run_inside p a h.run.to h.run.run)

-- one more unit, with the marks that are chosen at it
kept_more : (rule : SplitRule) (may : Bool) (ok : SplitCount → Bool) (Holds : List Activity → (ℕ → Type 0) → ℕ → Type 0) (p : List Activity) (x : Activity) (m o : List ℕ) (r : ℕ) → IsLimit rule ok Holds → EndsIn p r → From (length p - r) o →
    ((a : ℕ) → Contains o a → MaySplit rule may (p ++ x ∷ []) a) → IsAt rule Holds (p ++ x ∷ []) (Contains (m ++ o)) (length p) → IsKept rule may Holds p m → IsKept rule may Holds (p ++ x ∷ []) (m ++ o)
kept_more rule may ok Holds p x m o r limit e f new last h = record {
  splits = λ a i. elim (Contains-append_cases m o a i) [ inl u ↦ splittable_more rule may p (x ∷ []) a (h.splits a u) | inr u ↦ new a u ];
  order = from_append 0 (length p - r) m o h.order (λ a i. let k = (h.splits a i).run in let s = k.run.some in let z = run_before p r a k.to e k.run in omega arith) (omega arith) f;
  at = λ i. elim (cases_lt i (length p)) [
    | inl l ↦ at_alike rule ok Holds p (p ++ x ∷ []) (Contains m) (Contains (m ++ o)) (length p) i limit (marked_fence p (x ∷ []) m o r e f) l (h.at i)
    | inr l ↦ elim (cases_lt (length p) i) [
      | inl k ↦ at_idle rule ok Holds (p ++ x ∷ []) (Contains (m ++ o)) i limit (ap rests (unit_at-past (p ++ x ∷ []) i (let z = length-one_more p x in omega arith)))
      | inr k ↦ (let z : length p ≡ i = omega arith in subst (IsAt rule Holds (p ++ x ∷ []) (Contains (m ++ o))) z last)
    ]
  ];
}

-- what is kept at a unit was so before later units and marks
kept_front : (rule : SplitRule) (may : Bool) (ok : SplitCount → Bool) (Holds : List Activity → (ℕ → Type 0) → ℕ → Type 0) (p q : List Activity) (m o : List ℕ) (r i : ℕ) → IsLimit rule ok Holds → EndsIn p r → From (length p - r) o → i < length p →
    IsKept rule may Holds (p ++ q) (m ++ o) → IsAt rule Holds p (Contains m) i
kept_front rule may ok Holds p q m o r i limit e f l h = at_alike rule ok Holds (p ++ q) p (Contains (m ++ o)) (Contains m) (length p) i limit (marked_back (marked_fence p q m o r e f)) l (h.at i)

-- rest after a history changes nothing
kept_after : (rule : SplitRule) (may : Bool) (ok : SplitCount → Bool) (Holds : List Activity → (ℕ → Type 0) → ℕ → Type 0) (p : List Activity) (m : List ℕ) (n : ℕ) → IsLimit rule ok Holds → IsKept rule may Holds p m → IsKept rule may Holds (p ++ replicate n Off) m
kept_after rule may ok Holds p m n limit h = record {
  splits = λ a i. splittable_more rule may p (replicate n Off) a (h.splits a i);
  order = h.order;
  at = λ i. elim (cases_lt i (length p)) [
    | inl l ↦ at_alike rule ok Holds p (p ++ replicate n Off) (Contains m) (Contains m) (length p) i limit (marked_append p (replicate n Off) (Contains m)) l (h.at i)
    | inr l ↦ at_idle rule ok Holds (p ++ replicate n Off) (Contains m) i limit (ap rests (unit_at-after p n i l))
  ];
}

run_not_after : (p : List Activity) (n a b : ℕ) → IsRun (p ++ replicate n Off) a b → b < length p
run_not_after p n a b h = elim (cases_lt b (length p)) [
  | inl l ↦ l
  | inr l ↦ absurd (let z : true ≡ false = sym (ap rests (unit_at-after p n b l)) ∙ h.ended in cc)
]

kept_before : (rule : SplitRule) (may : Bool) (ok : SplitCount → Bool) (Holds : List Activity → (ℕ → Type 0) → ℕ → Type 0) (p : List Activity) (m : List ℕ) (n : ℕ) → IsLimit rule ok Holds → IsKept rule may Holds (p ++ replicate n Off) m → IsKept rule may Holds p m
kept_before rule may ok Holds p m n limit h = record {
  splits = λ a i. (let k = h.splits a i in splittable_alike rule may (p ++ replicate n Off) p (length p) a (alike_back (alike_append p (replicate n Off))) k (run_not_after p n a k.run.to k.run.run));
  order = h.order;
  at = λ i. elim (cases_lt i (length p)) [
    | inl l ↦ at_alike rule ok Holds (p ++ replicate n Off) p (Contains m) (Contains m) (length p) i limit (marked_back (marked_append p (replicate n Off) (Contains m))) l (h.at i)
    | inr l ↦ at_idle rule ok Holds p (Contains m) i limit (ap rests (unit_at-past p i l))
  ];
}

-- # The limit at the last unit

unit_kind : (p : List Activity) (x : Activity) → (x ≡ Drive → ⊥) → unit_at (p ++ x ∷ []) (length p) ≡ Drive → ⊥
unit_kind p x none h = none (sym (unit_at-last p x) ∙ h)

holds_from : (rule : SplitRule) (ok : SplitCount → Bool) (Holds : List Activity → (ℕ → Type 0) → ℕ → Type 0) (p : List Activity) (x : Activity) (Marked : ℕ → Type 0) (s : SplitCount) → IsLimit rule ok Holds → Tracks rule (p ++ x ∷ []) Marked s → cond (drives x) (ok s) true ≡ true → Holds (p ++ x ∷ []) Marked (length p)
holds_from rule ok Holds p Drive Marked s limit t h = (limit.meant p Marked s t).0 h
holds_from rule ok Holds p Serve Marked s limit t h = limit.idle (p ++ Serve ∷ []) Marked (length p) (unit_kind p Serve (λ e. let z : Serve ≡ Drive = e in cc))
holds_from rule ok Holds p Wait Marked s limit t h = limit.idle (p ++ Wait ∷ []) Marked (length p) (unit_kind p Wait (λ e. let z : Wait ≡ Drive = e in cc))
holds_from rule ok Holds p Off Marked s limit t h = limit.idle (p ++ Off ∷ []) Marked (length p) (unit_kind p Off (λ e. let z : Off ≡ Drive = e in cc))
holds_from rule ok Holds p Berth Marked s limit t h = limit.idle (p ++ Berth ∷ []) Marked (length p) (unit_kind p Berth (λ e. let z : Berth ≡ Drive = e in cc))

holds_means : (rule : SplitRule) (ok : SplitCount → Bool) (Holds : List Activity → (ℕ → Type 0) → ℕ → Type 0) (p : List Activity) (x : Activity) (Marked : ℕ → Type 0) (s : SplitCount) → IsLimit rule ok Holds → Tracks rule (p ++ x ∷ []) Marked s → Holds (p ++ x ∷ []) Marked (length p) → cond (drives x) (ok s) true ≡ true
holds_means rule ok Holds p Drive Marked s limit t h = (limit.meant p Marked s t).1 h
holds_means rule ok Holds p Serve Marked s limit t h = refl
holds_means rule ok Holds p Wait Marked s limit t h = refl
holds_means rule ok Holds p Off Marked s limit t h = refl
holds_means rule ok Holds p Berth Marked s limit t h = refl

-- # A step

-- the run in progress is a full rest
run_full : (rule : SplitRule) (p : List Activity) (Marked : ℕ → Type 0) (s : SplitCount) (t : Tracks rule p Marked s) → rule.full ≤ s.run.long → rule.full ≤ t.run
run_full rule p Marked s t l = elim t.state [ inl f ↦ f.long | inr k ↦ (let e = k.counted in omega arith) ]

ends_counted : (rule : SplitRule) (p : List Activity) (Marked : ℕ → Type 0) (s : SplitCount) (t : Tracks rule p Marked s) → s.run.long < rule.full → EndsIn p s.run.long
ends_counted rule p Marked s t l = subst (EndsIn p) (sym (run_counted t l).counted) t.ends

-- no mark names a place after the last unit
marks_inside : (rule : SplitRule) (p : List Activity) (m : List ℕ) (s : SplitCount) → Tracks rule p (Contains m) s → (k : ℕ) → k < length p + 1 → (a : ℕ) → Contains (m ++ k ∷ []) a → a < length p + 1
marks_inside rule p m s t k l a i = elim (Contains-append_cases m (k ∷ []) a i) [
  | inl u ↦ (let y = t.earlier a u in omega arith)
  | inr u ↦ (let y = contains_one k a u in omega arith)
]

split_short : (rule : SplitRule) (s : SplitCount) → may_split rule s ≡ true → s.run.long < rule.full
split_short rule s h =
    let a = and_right (nat_le rule.least s.run.long) (nat_lt s.run.long rule.full && (has_split_berth rule.berth s.run && may_pair rule s.waiting s.run)) h in
    below s.run.long rule.full (and_left (nat_lt s.run.long rule.full) (has_split_berth rule.berth s.run && may_pair rule s.waiting s.run) a)

-- the count goes on telling of the history and its marks
pub step_tracks : (rule : SplitRule) (may : Bool) (ok : SplitCount → Bool) (p : List Activity) (x : Activity) (m : List ℕ) (s : SplitCount) (c : Choice) → 0 < rule.full → length p + 1 < COUNT_LIMIT → Tracks rule p (Contains m) s → IsChoice rule may ok s x c →
    Tracks rule (p ++ x ∷ []) (Contains (m ++ declared c.split (length p - s.run.long))) c.count
step_tracks rule may ok p x m s c pos_full short t h =
    let Goal : Choice → Type 0 = λ d. Tracks rule (p ++ x ∷ []) (Contains (m ++ declared d.split (length p - s.run.long))) d.count in
    let plain : (u : SplitCount) → Tracks rule (p ++ x ∷ []) (Contains m) u → Goal (choice u false) = λ u k. subst (λ l. Tracks rule (p ++ x ∷ []) (Contains l) u) (sym (append-nil m)) k in
    elim h [
      | inl k ↦ subst Goal k.is (plain (after_rest (sleeps x) s) (tracks_rest rule p x (Contains m) s k.rest short t))
      | inr w ↦ elim w [
        | inl k ↦ subst Goal k.is (plain (after_duty (drives x) s) (tracks_undeclared rule p x (Contains m) s k.work short k.short t))
        | inr v ↦ elim v [
          | inl k ↦ (let l = split_short rule s k.passes in
              let e = ends_counted rule p (Contains m) s t l in
              subst Goal k.is (tracks_split rule p x (Contains m) (Contains (m ++ (length p - s.run.long) ∷ [])) s k.work short k.some l (marked_split p x m s.run.long e)
              (Contains-append_right m ((length p - s.run.long) ∷ []) (length p - s.run.long) (contains_head (length p - s.run.long) [])) (marks_inside rule p m s t (length p - s.run.long) (omega arith)) t))
          | inr k ↦ (let l = run_full rule p (Contains m) s t k.long in subst Goal k.is (plain (after_duty (drives x) rested_count) (tracks_full rule p x (Contains m) s k.work short t (omega arith) l)))
        ]
      ]
    ]

split_berth_from : (b : BerthRule) (p q : List Activity) (run : ℕ) (r : OpenRun) → AreAlike p q (length p) → r.long ≡ run → IsStretch p r.stretch → has_split_berth b r ≡ true → IsSplitBerth b q (length p - run) (length p)
split_berth_from SevenInOne p q run r g e s h = tt
split_berth_from AllOfNext p q run r g e s h = berth_alike g (omega arith) (all_from p run r.stretch r.long e s h)

split_berth_means : (b : BerthRule) (p q : List Activity) (run : ℕ) (r : OpenRun) → AreAlike p q (length p) → run ≤ length p → r.long ≡ run → r.stretch ≤ run → IsStretch p r.stretch → IsSplitBerth b q (length p - run) (length p) → has_split_berth b r ≡ true
split_berth_means SevenInOne p q run r g l e i s h = refl
split_berth_means AllOfNext p q run r g l e i s h = all_means p run r.stretch r.long l e i s (λ j x y. g.units j y ∙ h j x y)

-- what a step keeps
record IsStep (rule : SplitRule) (may : Bool) (Holds : List Activity → (ℕ → Type 0) → ℕ → Type 0) (p : List Activity) (x : Activity) (m new : List ℕ) (r : ℕ) : Type 0 where
  fence : From (length p - r) new
  splits : (a : ℕ) → Contains new a → MaySplit rule may (p ++ x ∷ []) a
  at : IsAt rule Holds (p ++ x ∷ []) (Contains (m ++ new)) (length p)

plain_step : (rule : SplitRule) (may : Bool) (Holds : List Activity → (ℕ → Type 0) → ℕ → Type 0) (p : List Activity) (x : Activity) (m : List ℕ) (r : ℕ) → IsAt rule Holds (p ++ x ∷ []) (Contains m) (length p) → IsStep rule may Holds p x m [] r
plain_step rule may Holds p x m r h = record { fence = tt; splits = λ a i. absurd (contains_none a i); at = subst (λ l. IsAt rule Holds (p ++ x ∷ []) (Contains l) (length p)) (sym (append-nil m)) h }

step_split : (rule : SplitRule) (may : Bool) (ok : SplitCount → Bool) (Holds : List Activity → (ℕ → Type 0) → ℕ → Type 0) (p : List Activity) (x : Activity) (m : List ℕ) (s : SplitCount) (c : Choice) → IsLimit rule ok Holds → (t : Tracks rule p (Contains m) s) →
    Tracks rule (p ++ x ∷ []) (Contains (m ++ (length p - s.run.long) ∷ [])) (after_duty (drives x) (split_count s)) → IsAsSplit rule may ok s x c → IsStep rule may Holds p x m ((length p - s.run.long) ∷ []) t.run
step_split rule may ok Holds p x m s c limit t after k =
    let a = and_right (nat_le rule.least s.run.long) (nat_lt s.run.long rule.full && (has_split_berth rule.berth s.run && may_pair rule s.waiting s.run)) k.passes in
    let least = upto rule.least s.run.long (and_left (nat_le rule.least s.run.long) (nat_lt s.run.long rule.full && (has_split_berth rule.berth s.run && may_pair rule s.waiting s.run)) k.passes) in
    let short = split_short rule s k.passes in
    let b = and_right (nat_lt s.run.long rule.full) (has_split_berth rule.berth s.run && may_pair rule s.waiting s.run) a in
    let e = (run_counted t short).counted in
    let ends = ends_counted rule p (Contains m) s t short in
    let th = ends.there in
    record {
      fence = (omega arith, tt);
      splits = λ j i. subst (MaySplit rule may (p ++ x ∷ [])) (contains_one (length p - s.run.long) j i) (record {
        run = record { to = length p; run = run_ends p x s.run.long k.work k.some ends; long = omega arith; short = omega arith; berthed = k.allowed };
        berth = split_berth_from rule.berth p (p ++ x ∷ []) s.run.long s.run (alike_append p (x ∷ [])) refl t.stretch (and_left (has_split_berth rule.berth s.run) (may_pair rule s.waiting s.run) b);
      });
      at = record {
        pair = pair_from rule p x (Contains m) (Contains (m ++ (length p - s.run.long) ∷ [])) s t (marked_split p x m s.run.long ends) (and_right (has_split_berth rule.berth s.run) (may_pair rule s.waiting s.run) b);
        limit = holds_from rule ok Holds p x (Contains (m ++ (length p - s.run.long) ∷ [])) (after_duty (drives x) (split_count s)) limit after k.fit;
      };
    }

step_kept : (rule : SplitRule) (may : Bool) (ok : SplitCount → Bool) (Holds : List Activity → (ℕ → Type 0) → ℕ → Type 0) (p : List Activity) (x : Activity) (m : List ℕ) (s : SplitCount) (c : Choice) → 0 < rule.full → IsLimit rule ok Holds → length p + 1 < COUNT_LIMIT → (t : Tracks rule p (Contains m) s) →
    IsChoice rule may ok s x c → IsStep rule may Holds p x m (declared c.split (length p - s.run.long)) t.run
step_kept rule may ok Holds p x m s c pos_full limit short t h =
    let Goal : Choice → Type 0 = λ d. IsStep rule may Holds p x m (declared d.split (length p - s.run.long)) t.run in
    elim h [
      | inl k ↦ subst Goal k.is (plain_step rule may Holds p x m t.run (at_idle rule ok Holds (p ++ x ∷ []) (Contains m) (length p) limit (ap rests (unit_at-last p x) ∙ k.rest)))
      | inr w ↦ elim w [
        | inl k ↦ subst Goal k.is (plain_step rule may Holds p x m t.run (record {
          pair = λ a b e sp nx. absurd (none_unmarked rule p x (Contains m) s e t k.short nx.next);
          limit = holds_from rule ok Holds p x (Contains m) (after_duty (drives x) s) limit (tracks_undeclared rule p x (Contains m) s k.work short k.short t) k.fit;
        }))
        | inr v ↦ elim v [
          | inl k ↦
              let after : Tracks rule (p ++ x ∷ []) (Contains (m ++ (length p - s.run.long) ∷ [])) (after_duty (drives x) (split_count s)) =
              step_tracks rule may ok p x m s (choice (after_duty (drives x) (split_count s)) true) pos_full short t (inr (inr (inl (record { work = k.work; some = k.some; allowed = k.allowed; passes = k.passes; fit = k.fit; is = refl }))))
              in subst Goal k.is (step_split rule may ok Holds p x m s c limit t after k)
          | inr k ↦ (let l = run_full rule p (Contains m) s t k.long in subst Goal k.is (plain_step rule may Holds p x m t.run (record {
            pair = pair_from rule p x (Contains m) (Contains m) s t (marked_append p (x ∷ []) (Contains m)) k.paired;
            limit = holds_from rule ok Holds p x (Contains m) (after_duty (drives x) rested_count) limit (tracks_full rule p x (Contains m) s k.work short t (omega arith) l) k.fit;
          })))
        ]
      ]
    ]

-- # Soundness

-- the count along a path
pub path_tracks : (rule : SplitRule) (may : Bool) (ok : SplitCount → Bool) (xs p : List Activity) (m : List ℕ) (s : SplitCount) (i : ℕ) (starts : List ℕ) (t : SplitCount) → 0 < rule.full → i ≡ length p → length p + length xs < COUNT_LIMIT → Tracks rule p (Contains m) s →
    Declares rule may ok s i xs starts t → Tracks rule (p ++ xs) (Contains (m ++ starts)) t
path_tracks rule may ok [] p m s i starts t pos_full here short h r =
    subst (λ q. Tracks rule q (Contains (m ++ starts)) t) (sym (append-nil p)) (subst (λ o. Tracks rule p (Contains o) t) (sym (ap (λ o. m ++ o) r.1 ∙ append-nil m)) (subst (Tracks rule p (Contains m)) r.0 h))
path_tracks rule may ok (x ∷ xs) p m s i starts t pos_full here short h r =
    let c : Choice = r.0 in
    let new : List ℕ = declared c.split (length p - s.run.long) in
    let len = length-one_more p x in
    let q = path_tracks rule may ok xs (p ++ x ∷ []) (m ++ new) c.count (i + 1) r.2 t pos_full (omega arith) (omega arith)
    (step_tracks rule may ok p x m s c pos_full (omega arith) h (choice_cases rule may ok s x c pos_full r.1)) r.4 in
    let parts : starts ≡ new ++ r.2 = r.3 ∙ ap (λ n. declared c.split (n - s.run.long) ++ r.2) here in
    subst (λ o. Tracks rule o (Contains (m ++ starts)) t) (append_assoc p (x ∷ []) xs) (subst (λ o. Tracks rule ((p ++ x ∷ []) ++ xs) (Contains o) t) (append_assoc m new r.2 ∙ sym (ap (λ o. m ++ o) parts)) q)

path_sound : (rule : SplitRule) (may : Bool) (ok : SplitCount → Bool) (Holds : List Activity → (ℕ → Type 0) → ℕ → Type 0) (xs p : List Activity) (m : List ℕ) (s : SplitCount) (i : ℕ) (starts : List ℕ) (t : SplitCount) → 0 < rule.full → IsLimit rule ok Holds → i ≡ length p → length p + length xs < COUNT_LIMIT →
    Tracks rule p (Contains m) s → IsKept rule may Holds p m → Declares rule may ok s i xs starts t → IsKept rule may Holds (p ++ xs) (m ++ starts)
path_sound rule may ok Holds [] p m s i starts t pos_full limit here short h l r =
    subst (λ q. IsKept rule may Holds q (m ++ starts)) (sym (append-nil p)) (subst (IsKept rule may Holds p) (sym (ap (λ o. m ++ o) r.1 ∙ append-nil m)) l)
path_sound rule may ok Holds (x ∷ xs) p m s i starts t pos_full limit here short h l r =
    let c : Choice = r.0 in
    let k = choice_cases rule may ok s x c pos_full r.1 in
    let new : List ℕ = declared c.split (length p - s.run.long) in
    let len = length-one_more p x in
    let st = step_kept rule may ok Holds p x m s c pos_full limit (omega arith) h k in
    let q = path_sound rule may ok Holds xs (p ++ x ∷ []) (m ++ new) c.count (i + 1) r.2 t pos_full limit (omega arith) (omega arith)
    (step_tracks rule may ok p x m s c pos_full (omega arith) h k) (kept_more rule may ok Holds p x m new h.run limit h.ends st.fence st.splits st.at l) r.4 in
    let parts : starts ≡ new ++ r.2 = r.3 ∙ ap (λ n. declared c.split (n - s.run.long) ++ r.2) here in
    subst (λ o. IsKept rule may Holds o (m ++ starts)) (append_assoc p (x ∷ []) xs) (subst (λ o. IsKept rule may Holds ((p ++ x ∷ []) ++ xs) o) (append_assoc m new r.2 ∙ sym (ap (λ o. m ++ o) parts)) q)

-- # Completeness

-- a run that begins after the one in progress begins after this duty unit
late : (rule : SplitRule) (may : Bool) (p : List Activity) (x : Activity) (xs : List Activity) (r k : ℕ) → EndsIn p r → MaySplit rule may (p ++ x ∷ xs) k → length p - r < k → length p + 1 ≤ k
late rule may p x xs r k h m l =
    elim (cases_lt k (length p + 1)) [
      | inl lt ↦ absurd (
          let i : ℕ = k - 1 in
          let c : true ≡ false = sym (h.rest i (omega arith) (omega arith)) ∙ (sym (ap rests (unit_at-append p (x ∷ xs) i (omega arith))) ∙ m.run.run.starts i (omega arith)) in cc)
      | inr le ↦ le
    ]

from_late : (rule : SplitRule) (may : Bool) (p : List Activity) (x : Activity) (xs : List Activity) (r n : ℕ) (m : List ℕ) → EndsIn p r → From n m → length p - r < n → ((j : ℕ) → Contains m j → MaySplit rule may (p ++ x ∷ xs) j) → From (length p + 1) m
from_late rule may p x xs r n [] h f l e = tt
from_late rule may p x xs r n (k ∷ ks) h f l e = (late rule may p x xs r k h (e k (contains_head k ks)) (let a : n ≤ k = f.0 in omega arith), f.1)

-- the run in progress may be a split rest, which ends here
record IsSplitHere (rule : SplitRule) (may : Bool) (p q : List Activity) (r : ℕ) : Type 0 where
  allowed : may ≡ true
  least : rule.least ≤ r
  short : r < rule.full
  some : 0 < r
  berth : IsSplitBerth rule.berth q (length p - r) (length p)

-- the marks that are chosen at a duty unit, and those after it
record IsPicked (rule : SplitRule) (may : Bool) (p q : List Activity) (r : ℕ) (later : List ℕ) : Type 0 where
  split : Bool
  thereafter : List ℕ
  parts : later ≡ declared split (length p - r) ++ thereafter
  fence : From (length p + 1) thereafter
  kind : split ≡ true → IsSplitHere rule may p q r

unit-middle : (p : List Activity) (x : Activity) (xs : List Activity) → unit_at (p ++ x ∷ xs) (length p) ≡ x
unit-middle p x xs = ap (λ q. unit_at q (length p)) (sym (append_assoc p (x ∷ []) xs)) ∙ (unit_at-append (p ++ x ∷ []) xs (length p) (omega (arith, length-append p (x ∷ []))) ∙ unit_at-last p x)

-- a mark of the run in progress names a run that ends here
ends_here : (rule : SplitRule) (may : Bool) (p : List Activity) (x : Activity) (xs : List Activity) (r j : ℕ) → rests x ≡ false → EndsIn p r → (k : MaySplit rule may (p ++ x ∷ xs) j) → j ≡ length p - r → k.run.to ≡ length p
ends_here rule may p x xs r j t h k e = let s = k.run.run.some in elim (cases_lt (length p) k.run.to) [
  | inl l ↦ absurd (let c : true ≡ false = sym (k.run.run.rest (length p) (omega arith) l) ∙ (ap rests (unit-middle p x xs) ∙ t) in cc)
  | inr l ↦ elim (cases_lt k.run.to (length p)) [
    | inr u ↦ omega arith
    | inl u ↦ absurd (let c : true ≡ false = sym (h.rest k.run.to (omega arith) u) ∙ (sym (ap rests (unit_at-append p (x ∷ xs) k.run.to u)) ∙ k.run.run.ended) in cc)
  ]
]

picked : (rule : SplitRule) (may : Bool) (p : List Activity) (x : Activity) (xs : List Activity) (r : ℕ) (later : List ℕ) → rests x ≡ false → EndsIn p r → From (length p - r) later → ((j : ℕ) → Contains later j → MaySplit rule may (p ++ x ∷ xs) j) → IsPicked rule may p (p ++ x ∷ xs) r later
picked rule may p x xs r [] t h f e = record { split = false; thereafter = []; parts = refl; fence = tt; kind = λ k. absurd (let z : false ≡ true = k in cc) }
picked rule may p x xs r (j ∷ later) t h f e = let l : length p - r ≤ j = f.0 in elim (cases_lt (length p - r) j) [
  | inl lt ↦ record { split = false; thereafter = j ∷ later; parts = refl; fence = (late rule may p x xs r j h (e j (contains_head j later)) lt, f.1); kind = λ k. absurd (let z : false ≡ true = k in cc) }
  | inr le ↦
      (let here : j ≡ length p - r = omega arith in
      let k = e j (contains_head j later) in
      let to = ends_here rule may p x xs r j t h k here in
      let th = h.there in
      let a = k.run.long in
      let b = k.run.short in
      let c = k.run.run.some in
      record {
        split = true;
        thereafter = later;
        parts = ap (λ n. n ∷ later) here;
        fence = from_late rule may p x xs r (j + 1) later h f.1 (omega arith) (λ i o. e i (contains_tail j later i o));
        kind = λ u. record {
          allowed = k.run.berthed;
          least = omega arith;
          short = omega arith;
          some = omega arith;
          berth = subst (λ n. IsSplitBerth rule.berth (p ++ x ∷ xs) n (length p)) here (subst (IsSplitBerth rule.berth (p ++ x ∷ xs) j) to k.berth);
        };
      })
]

-- the choice that declares these marks
record HasChoice (rule : SplitRule) (may : Bool) (ok : SplitCount → Bool) (s : SplitCount) (x : Activity) (split : Bool) : Type 0 where
  choice : Choice
  is : IsChoice rule may ok s x choice
  declares : choice.split ≡ split

plain_choice : (rule : SplitRule) (may : Bool) (ok : SplitCount → Bool) (Holds : List Activity → (ℕ → Type 0) → ℕ → Type 0) (p : List Activity) (x : Activity) (m : List ℕ) (s : SplitCount) → 0 < rule.full → IsLimit rule ok Holds → length p + 1 < COUNT_LIMIT → rests x ≡ false → Tracks rule p (Contains m) s →
    IsAt rule Holds (p ++ x ∷ []) (Contains m) (length p) → HasChoice rule may ok s x false
plain_choice rule may ok Holds p x m s pos_full limit short r t h = elim (cases_lt s.run.long rule.full) [
  | inl l ↦ record {
    choice = choice (after_duty (drives x) s) false;
    is = inr (inl (record { work = r; short = l; fit = holds_means rule ok Holds p x (Contains m) (after_duty (drives x) s) limit (tracks_undeclared rule p x (Contains m) s r short l t) h.limit; is = refl }));
    declares = refl;
  }
  | inr l ↦
      let f = run_full rule p (Contains m) s t l in
      record {
        choice = choice (after_duty (drives x) rested_count) false;
        is = inr (inr (inr (record {
          work = r;
          some = omega arith;
          long = l;
          paired = pair_means rule p x (Contains m) (Contains m) s t (marked_append p (x ∷ []) (Contains m)) (inl (is_full rule.full p x t.run r (omega arith) f t.ends)) h.pair;
          fit = holds_means rule ok Holds p x (Contains m) (after_duty (drives x) rested_count) limit (tracks_full rule p x (Contains m) s r short t (omega arith) f) h.limit;
          is = refl;
        })));
        declares = refl;
      }
]

-- the run in progress is counted, where it is shorter than a full rest
short_counted : (rule : SplitRule) (p : List Activity) (Marked : ℕ → Type 0) (s : SplitCount) (t : Tracks rule p Marked s) → t.run < rule.full → s.run.long ≡ t.run
short_counted rule p Marked s t l = elim t.state [ inl f ↦ absurd (let z = f.long in omega arith) | inr k ↦ k.counted ]

split_choice : (rule : SplitRule) (may : Bool) (ok : SplitCount → Bool) (Holds : List Activity → (ℕ → Type 0) → ℕ → Type 0) (p : List Activity) (x : Activity) (xs : List Activity) (m : List ℕ) (s : SplitCount) → IsLimit rule ok Holds → length p + 1 < COUNT_LIMIT → rests x ≡ false → (t : Tracks rule p (Contains m) s) →
    IsSplitHere rule may p (p ++ x ∷ xs) t.run → IsAt rule Holds (p ++ x ∷ []) (Contains (m ++ (length p - t.run) ∷ [])) (length p) → HasChoice rule may ok s x true
split_choice rule may ok Holds p x xs m s limit short r t k h =
    let e = short_counted rule p (Contains m) s t k.short in
    let least = k.least in
    let little = k.short in
    let some = k.some in
    let l : s.run.long < rule.full = omega arith in
    let ends = ends_counted rule p (Contains m) s t l in
    let g = marked_split p x m t.run t.ends in
    let d = is_split rule.full p x (Contains (m ++ (length p - t.run) ∷ [])) t.run r some little (Contains-append_right m ((length p - t.run) ∷ []) (length p - t.run) (contains_head (length p - t.run) [])) t.ends in
    let place : length p - t.run ≡ length p - s.run.long = omega arith in
    let after = tracks_split rule p x (Contains m) (Contains (m ++ (length p - t.run) ∷ [])) s r short (omega arith) l g
    (subst (Contains (m ++ (length p - t.run) ∷ [])) place (Contains-append_right m ((length p - t.run) ∷ []) (length p - t.run) (contains_head (length p - t.run) []))) (marks_inside rule p m s t (length p - t.run) (omega arith)) t in
    record {
      choice = choice (after_duty (drives x) (split_count s)) true;
      is = inr (inr (inl (record {
        work = r;
        some = omega arith;
        allowed = k.allowed;
        passes = and_both (nat_le rule.least s.run.long) (nat_lt s.run.long rule.full && (has_split_berth rule.berth s.run && may_pair rule s.waiting s.run)) (is_upto rule.least s.run.long (omega arith))
            (and_both (nat_lt s.run.long rule.full) (has_split_berth rule.berth s.run && may_pair rule s.waiting s.run) (is_below s.run.long rule.full l)
            (and_both (has_split_berth rule.berth s.run) (may_pair rule s.waiting s.run)
            (split_berth_means rule.berth p (p ++ x ∷ xs) t.run s.run (alike_append p (x ∷ xs)) t.ends.there e t.inside t.stretch k.berth)
            (pair_means rule p x (Contains m) (Contains (m ++ (length p - t.run) ∷ [])) s t g (inr d) h.pair)));
        fit = holds_means rule ok Holds p x (Contains (m ++ (length p - t.run) ∷ [])) (after_duty (drives x) (split_count s)) limit after h.limit;
        is = refl;
      })));
      declares = refl;
    }

has_choice : (rule : SplitRule) (may : Bool) (ok : SplitCount → Bool) (Holds : List Activity → (ℕ → Type 0) → ℕ → Type 0) (p : List Activity) (x : Activity) (xs : List Activity) (m : List ℕ) (s : SplitCount) → 0 < rule.full → IsLimit rule ok Holds → length p + 1 < COUNT_LIMIT → rests x ≡ false → (t : Tracks rule p (Contains m) s) → (split : Bool) →
    (split ≡ true → IsSplitHere rule may p (p ++ x ∷ xs) t.run) → IsAt rule Holds (p ++ x ∷ []) (Contains (m ++ declared split (length p - t.run))) (length p) → HasChoice rule may ok s x split
has_choice rule may ok Holds p x xs m s pos_full limit short r t true k h = split_choice rule may ok Holds p x xs m s limit short r t (k refl) h
has_choice rule may ok Holds p x xs m s pos_full limit short r t false k h = plain_choice rule may ok Holds p x m s pos_full limit short r t (subst (λ o. IsAt rule Holds (p ++ x ∷ []) (Contains o) (length p)) (append-nil m) h)

-- where a split rest is chosen, the run is counted; else its place does not matter
same_place : (rule : SplitRule) (may : Bool) (p q : List Activity) (m : List ℕ) (s : SplitCount) (t : Tracks rule p (Contains m) s) (split : Bool) → (split ≡ true → IsSplitHere rule may p q t.run) → declared split (length p - t.run) ≡ declared split (length p - s.run.long)
same_place rule may p q m s t true k = let e = short_counted rule p (Contains m) s t (k refl).short in ap (λ n. (length p - n) ∷ []) (sym e)
same_place rule may p q m s t false k = refl

-- no later mark names the run that a history ends with
none_later : (rule : SplitRule) (may : Bool) (Holds : List Activity → (ℕ → Type 0) → ℕ → Type 0) (p : List Activity) (m later : List ℕ) (r : ℕ) → EndsIn p r → From (length p - r) later → IsKept rule may Holds (p ++ []) (m ++ later) → later ≡ []
none_later rule may Holds p m [] r h f l = refl
none_later rule may Holds p m (j ∷ later) r h f l =
    let k = (l.splits j (Contains-append_right m (j ∷ later) j (contains_head j later))).run in
    let run : IsRun p j k.to = subst (λ q. IsRun q j k.to) (append-nil p) k.run in
    let a = run_before p r j k.to h run in
    let b = run.some in
    let c : length p - r ≤ j = f.0 in
    absurd (omega arith)

regroup : (rule : SplitRule) (may : Bool) (Holds : List Activity → (ℕ → Type 0) → ℕ → Type 0) (p : List Activity) (x : Activity) (xs : List Activity) (m later new thereafter : List ℕ) → later ≡ new ++ thereafter → IsKept rule may Holds (p ++ x ∷ xs) (m ++ later) → IsKept rule may Holds ((p ++ x ∷ []) ++ xs) ((m ++ new) ++ thereafter)
regroup rule may Holds p x xs m later new thereafter e l =
    subst (λ o. IsKept rule may Holds ((p ++ x ∷ []) ++ xs) o) (ap (λ o. m ++ o) e ∙ sym (append_assoc m new thereafter)) (subst (λ o. IsKept rule may Holds o (m ++ later)) (sym (append_assoc p (x ∷ []) xs)) l)

-- The later marks are after a fence: the first place of the run in progress.
path_complete : (rule : SplitRule) (may : Bool) (ok : SplitCount → Bool) (Holds : List Activity → (ℕ → Type 0) → ℕ → Type 0) (xs p : List Activity) (m later : List ℕ) (s : SplitCount) (i : ℕ) → 0 < rule.full → IsLimit rule ok Holds → i ≡ length p → length p + length xs < COUNT_LIMIT →
    (t : Tracks rule p (Contains m) s) → From (length p - t.run) later → IsKept rule may Holds (p ++ xs) (m ++ later) → (u : SplitCount) × Declares rule may ok s i xs later u
path_complete rule may ok Holds [] p m later s i pos_full limit here short h f l = (s, (refl, none_later rule may Holds p m later h.run h.ends f l))
path_complete rule may ok Holds (x ∷ xs) p m later s i pos_full limit here short h f l =
    let len : length (p ++ x ∷ []) ≡ length p + 1 = length-one_more p x in
    let by : (b : Bool) → rests x ≡ b → (u : SplitCount) × Declares rule may ok s i (x ∷ xs) later u =
    λ b. elim b as (λ c. rests x ≡ c → (u : SplitCount) × Declares rule may ok s i (x ∷ xs) later u) [
      | true ↦ λ r. (
          let t = tracks_rest rule p x (Contains m) s r (omega arith) h in
          let more = ends_unique (p ++ x ∷ []) t.run (h.run + 1) t.ends (ends_rest p x h.run r h.ends) in
          let q = path_complete rule may ok Holds xs (p ++ x ∷ []) m later (after_rest (sleeps x) s) (i + 1) pos_full limit (omega arith) (omega arith) t
          (from_less (length p - h.run) (length (p ++ x ∷ []) - t.run) later (omega arith) f) (subst (λ o. IsKept rule may Holds o (m ++ later)) (sym (append_assoc p (x ∷ []) xs)) l) in
          (q.0, (choice (after_rest (sleeps x) s) false, is_choice rule may ok s x (choice (after_rest (sleeps x) s) false) (inl (record { rest = r; is = refl })), later, refl, q.1)))
      | false ↦ λ r. (
          let c = picked rule may p x xs h.run later r h.ends f (λ j o. l.splits j (Contains-append_right m later j o)) in
          let new : List ℕ = declared c.split (length p - h.run) in
          let w = regroup rule may Holds p x xs m later new c.thereafter c.parts l in
          let rule_here = kept_front rule may ok Holds (p ++ x ∷ []) xs (m ++ new) c.thereafter 0 (length p) limit (ends_duty p x r) (from_less (length p + 1) (length (p ++ x ∷ []) - 0) c.thereafter (omega arith) c.fence) (omega arith) w in
          let k = has_choice rule may ok Holds p x xs m s pos_full limit (omega arith) r h c.split c.kind rule_here in
          let d : Choice = k.choice in
          let places : new ≡ declared d.split (length p - s.run.long) = same_place rule may p (p ++ x ∷ xs) m s h c.split c.kind ∙ ap (λ y. declared y (length p - s.run.long)) (sym k.declares) in
          let t = step_tracks rule may ok p x m s d pos_full (omega arith) h k.is in
          let q = path_complete rule may ok Holds xs (p ++ x ∷ []) (m ++ declared d.split (length p - s.run.long)) c.thereafter d.count (i + 1) pos_full limit (omega arith) (omega arith) t
          (from_less (length p + 1) (length (p ++ x ∷ []) - t.run) c.thereafter (omega arith) c.fence)
          (subst (λ o. IsKept rule may Holds ((p ++ x ∷ []) ++ xs) ((m ++ o) ++ c.thereafter)) places w) in
          (q.0, (d, is_choice rule may ok s x d k.is, c.thereafter, c.parts ∙ (ap (λ o. o ++ c.thereafter) places ∙ ap (λ n. declared d.split (n - s.run.long) ++ c.thereafter) (sym here)), q.1)))
    ]
    in by (rests x) refl

-- # From the padding on

off_in_padding : (n i : ℕ) → rests (unit_at (replicate n Off) i) ≡ true
off_in_padding n i = ap rests (unit_at-replicate n i)

not_berth : (n i : ℕ) → unit_at (replicate n Off) i ≡ Berth → ⊥
not_berth n i h = let z : Off ≡ Berth = sym (unit_at-replicate n i) ∙ h in cc

no_run_in_padding : (n a b : ℕ) → IsRun (replicate n Off) a b → ⊥
no_run_in_padding n a b h = let z : true ≡ false = sym (off_in_padding n b) ∙ h.ended in cc

pub tracks_padding : (rule : SplitRule) (n : ℕ) → IsSplitRule rule → rule.full ≤ n → n < COUNT_LIMIT → Tracks rule (replicate n Off) (Contains []) fresh_count
tracks_padding rule n good l short = let len : length (replicate n Off) ≡ n = length-replicate n Off in record {
  short = omega arith;
  run = n;
  ends = ends_padding n;
  earlier = λ a i. absurd (contains_none a i);
  inside = omega arith;
  stretch = record {
    there = omega arith;
    berth = λ k a b. absurd (omega arith);
    most = λ c l b. elim (cases_lt c (length (replicate n Off))) [ inl k ↦ absurd (not_berth n c (b c (omega arith) k)) | inr k ↦ omega arith ];
  };
  longest = record {
    at = length (replicate n Off);
    after = omega arith;
    before = omega arith;
    berth = λ k a b. absurd (omega arith);
    most = λ c l a b e. elim (cases_lt 0 l) [ inl k ↦ absurd (not_berth n c (e c (omega arith) (omega arith))) | inr k ↦ k ];
  };
  state = inl (record { none = λ a b d. no_run_in_padding n a b (run_of d); long = l; counted = good.padded; free = refl });
}

kept_padding : (rule : SplitRule) (may : Bool) (ok : SplitCount → Bool) (Holds : List Activity → (ℕ → Type 0) → ℕ → Type 0) (n : ℕ) → IsLimit rule ok Holds → IsKept rule may Holds (replicate n Off) []
kept_padding rule may ok Holds n limit = record { splits = λ a i. absurd (contains_none a i); order = tt; at = λ i. at_idle rule ok Holds (replicate n Off) (Contains []) i limit (off_in_padding n i) }

-- A path is led to a count that tells of the history.
pub split_tracks : (rule : SplitRule) (may : Bool) (ok : SplitCount → Bool) (n : ℕ) (h : List Activity) (starts : List ℕ) (t : SplitCount) → IsSplitRule rule → rule.full ≤ n → n + length h < COUNT_LIMIT → Declares rule may ok fresh_count n h starts t → Tracks rule (replicate n Off ++ h) (Contains starts) t
split_tracks rule may ok n h starts t good long short r = let len : length (replicate n Off) ≡ n = length-replicate n Off in
    path_tracks rule may ok h (replicate n Off) [] fresh_count n starts t good.some (omega arith) (omega arith) (tracks_padding rule n good long (omega arith)) r

kept_means : (rule : SplitRule) (may : Bool) (Holds : List Activity → (ℕ → Type 0) → ℕ → Type 0) (p : List Activity) (starts : List ℕ) → IsKept rule may Holds p starts → KeepsSplits rule may Holds p starts
kept_means rule may Holds p starts h = record { order = increasing 0 starts h.order; splits = h.splits; pairs = λ d. (h.at d).pair; limits = λ i. (h.at i).limit }

kept_from : (rule : SplitRule) (may : Bool) (Holds : List Activity → (ℕ → Type 0) → ℕ → Type 0) (p : List Activity) (starts : List ℕ) → KeepsSplits rule may Holds p starts → IsKept rule may Holds p starts
kept_from rule may Holds p starts h = record { splits = h.splits; order = from_increasing 0 starts (λ a i. omega arith) h.order; at = λ i. record { pair = h.pairs i; limit = h.limits i } }

-- Some path declares split rests at these places exactly where they are kept.
pub split_exact : (rule : SplitRule) (may : Bool) (ok : SplitCount → Bool) (Holds : List Activity → (ℕ → Type 0) → ℕ → Type 0) (n : ℕ) (h : List Activity) (starts : List ℕ) → IsSplitRule rule → IsLimit rule ok Holds → rule.full ≤ n → n + length h < COUNT_LIMIT →
    ((t : SplitCount) × Declares rule may ok fresh_count n h starts t) ↔ KeepsSplits rule may Holds ((replicate n Off ++ h) ++ replicate n Off) starts
split_exact rule may ok Holds n h starts good limit long short =
    let len : length (replicate n Off) ≡ n = length-replicate n Off in
    let root = tracks_padding rule n good long (omega arith) in (
      (λ r. kept_means rule may Holds ((replicate n Off ++ h) ++ replicate n Off) starts (kept_after rule may ok Holds (replicate n Off ++ h) starts n limit
          (path_sound rule may ok Holds h (replicate n Off) [] fresh_count n starts r.0 good.some limit (omega arith) (omega arith) root (kept_padding rule may ok Holds n limit) r.1))),
      (λ k. let q = kept_from rule may Holds ((replicate n Off ++ h) ++ replicate n Off) starts k in
          path_complete rule may ok Holds h (replicate n Off) [] starts fresh_count n good.some limit (omega arith) (omega arith) root
          (from_less 0 (length (replicate n Off) - root.run) starts (let e = ends_unique (replicate n Off) root.run n root.ends (ends_padding n) in omega arith) q.order) (kept_before rule may ok Holds (replicate n Off ++ h) starts n limit q)),
    )
