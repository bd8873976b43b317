-- The pair condition and the limits, by the counts.
use Rattle.std.proofs.Common.{◌≡◌, ℕ, ◌+◌, ◌-◌, ◌<◌, ◌≤◌, Bool, true, false, List, [], ◌∷◌, ◌++◌, length, drop, refl, sym, ◌∙◌, ap, subst, arith, ◌⊎◌, inl, inr}
use Rattle.std.specs.Prelude.{Option, Some, nat_lt, nat_le, nat_eq, ◌&&◌, ◌||◌, count_by}
use Rattle.std.proofs.lemmas.List.{take_all}
use Rattle.std.proofs.lemmas.Bool.{cases_lt}
use Rattle.std.proofs.lemmas.Bool.Decides.{nat_tests}
use Rattle.duty_core.specs.declared.activity.Activity.{Activity}
use Rattle.duty_core.specs.declared.activity.Activity.TheVariants.{Drive}
use Rattle.duty_core.specs.declared.limits.TheConstants.{US_PAIR_BERTH}
use Rattle.duty_core.specs.Activity.{rests, drives, works}
use Rattle.duty_core.specs.History.{unit_at, between}
use Rattle.duty_core.specs.Stretch.{IsBerth, HoldsBerth}
use Rattle.duty_core.specs.Counting.{driving, duty}
use Rattle.duty_core.specs.DeclaredRest.{IsDeclared, IsLastDeclared, IsWaiting, ArePairedAt}
use Rattle.duty_core.specs.Base.{IsBase, elapsed}
use Rattle.duty_core.specs.Laws.HistoryLaws.{AreAlike, unit_at-last, length-one_more}
use Rattle.duty_core.specs.RestRun.{EndsIn}
use Rattle.duty_core.specs.Laws.RunLaws.{run_inside}
use Rattle.duty_core.specs.Laws.UniqueLaws.{last_declared_end, last_declared_start}
use Rattle.sleeper_split.specs.declared.rule.BerthRule.{BerthRule}
use Rattle.sleeper_split.specs.declared.rule.BerthRule.TheVariants.{SevenInOne, AllOfNext}
use Rattle.sleeper_split.specs.declared.rule.SplitRule.{SplitRule}
use Rattle.sleeper_split.specs.declared.count.Used.{Used}
use Rattle.sleeper_split.specs.declared.count.OpenRun.{OpenRun}
use Rattle.sleeper_split.specs.declared.count.WaitingRest.{WaitingRest}
use Rattle.sleeper_split.specs.declared.count.Since.TheVariants.{Driving, Duty, Elapsed}
use Rattle.sleeper_split.specs.declared.count.SplitCount.{SplitCount}
use Rattle.sleeper_split.specs.Machine.{has_pair_berth, may_pair, used_of}
use Rattle.sleeper_split.specs.Laws.Alike.{AreMarkedAlike, marked_back, split_marked, declared_marked, last_marked, run_of, base_marked, berth_alike}
use Rattle.sleeper_split.specs.Laws.Growth.{start_of}
use Rattle.sleeper_split.specs.Tracks.{IsLongest, IsStretch, IsUsedSince, HasLast, IsCounted, Tracks}
use Rattle.sleeper_split.specs.Laws.TrackLaws.{longest_alike, last_lower, last_at}
use Rattle.sleeper_split.specs.Exact.{IsSplitRule, IsPairBerth, IsPairOf}
use Rattle.sleeper_split.specs.Laws.Exact.{IsLimit}

-- # Tests

pub and_left : (a b : Bool) → (a && b) ≡ true → a ≡ true
and_left true b h = refl
and_left false b h = h

pub and_right : (a b : Bool) → (a && b) ≡ true → b ≡ true
and_right true b h = h
and_right false b h = absurd (let z : false ≡ true = h in cc)

pub and_both : (a b : Bool) → a ≡ true → b ≡ true → (a && b) ≡ true
and_both a b h k = rw h k

or_cases : (a b : Bool) → (a || b) ≡ true → (a ≡ true) ⊎ (b ≡ true)
or_cases true b h = inl refl
or_cases false b h = inr h

or_left : (a b : Bool) → a ≡ true → (a || b) ≡ true
or_left a b h = rw h refl

or_right : (a b : Bool) → b ≡ true → (a || b) ≡ true
or_right true b h = refl
or_right false b h = h

pub below : (a b : ℕ) → nat_lt a b ≡ true → a < b
below a b h = grind (arith, nat_tests)

pub upto : (a b : ℕ) → nat_le a b ≡ true → a ≤ b
upto a b h = grind (arith, nat_tests)

pub same : (a b : ℕ) → nat_eq a b ≡ true → a ≡ b
same a b h = grind (arith, nat_tests)

pub is_below : (a b : ℕ) → a < b → nat_lt a b ≡ true
is_below a b h = grind (arith, nat_tests)

pub is_upto : (a b : ℕ) → a ≤ b → nat_le a b ≡ true
is_upto a b h = grind (arith, nat_tests)

pub is_same : (a b : ℕ) → a ≡ b → nat_eq a b ≡ true
is_same a b h = grind (arith, nat_tests)

-- # Pairs

pub berth_means : {p : List Activity} {a b n k : ℕ} → IsLongest p a b n → HoldsBerth k p a b → k ≤ n
berth_means h x = h.most x.at _ x.after x.before x.berth

pub berth_from : {p : List Activity} {a b n k : ℕ} → IsLongest p a b n → k ≤ n → HoldsBerth k p a b
berth_from h l = let z = h.before in record { at = h.at; after = h.after; before = omega arith; berth = λ k x y. h.berth k x (omega arith) }

-- whether the run in progress is all Berth
pub all_means : (p : List Activity) (run stretch long : ℕ) → run ≤ length p → long ≡ run → stretch ≤ run → IsStretch p stretch → IsBerth p (length p - run) (length p) → nat_eq stretch long ≡ true
all_means p run stretch long l e i s h = is_same stretch long (let z = s.most (length p - run) (omega arith) h in omega arith)

pub all_from : (p : List Activity) (run stretch long : ℕ) → long ≡ run → IsStretch p stretch → nat_eq stretch long ≡ true → IsBerth p (length p - run) (length p)
all_from p run stretch long e s h = let z = same stretch long h in let y : stretch ≡ run = omega arith in subst (λ n. IsBerth p (length p - n) (length p)) y s.berth

pair_berth_means : (b : BerthRule) (p q : List Activity) (from to run : ℕ) (w : WaitingRest) (r : OpenRun) → AreAlike p q (length p) → to ≤ length p → run ≤ length p → r.long ≡ run → r.stretch ≤ run →
    IsLongest p from to w.berth → IsStretch p r.stretch → IsLongest p (length p - run) (length p) r.longest → IsPairBerth b q from to (length p - run) (length p) → has_pair_berth b w r ≡ true
pair_berth_means SevenInOne p q from to run w r g l t e i h s m k = elim k [
  | inl u ↦ or_left (nat_le US_PAIR_BERTH w.berth) (nat_le US_PAIR_BERTH r.longest) (is_upto US_PAIR_BERTH w.berth (berth_means (longest_alike g l h) u))
  | inr u ↦ or_right (nat_le US_PAIR_BERTH w.berth) (nat_le US_PAIR_BERTH r.longest) (is_upto US_PAIR_BERTH r.longest (berth_means (longest_alike g (omega arith) m) u))
]
pair_berth_means AllOfNext p q from to run w r g l t e i h s m k = all_means p run r.stretch r.long t e i s (λ j x y. g.units j y ∙ k j x y)

pair_berth_from : (b : BerthRule) (p q : List Activity) (from to run : ℕ) (w : WaitingRest) (r : OpenRun) → AreAlike p q (length p) → to ≤ length p → r.long ≡ run →
    IsLongest p from to w.berth → IsStretch p r.stretch → IsLongest p (length p - run) (length p) r.longest → has_pair_berth b w r ≡ true → IsPairBerth b q from to (length p - run) (length p)
pair_berth_from SevenInOne p q from to run w r g l e h s m k = elim (or_cases (nat_le US_PAIR_BERTH w.berth) (nat_le US_PAIR_BERTH r.longest) k) [
  | inl u ↦ inl (berth_from (longest_alike g l h) (upto US_PAIR_BERTH w.berth u))
  | inr u ↦ inr (berth_from (longest_alike g (omega arith) m) (upto US_PAIR_BERTH r.longest u))
]
pair_berth_from AllOfNext p q from to run w r g l e h s m k = berth_alike g (omega arith) (all_from p run r.stretch r.long e s k)

-- where the run in progress ends as a declared rest, the pair condition is the test of the counts
pub pair_means : (rule : SplitRule) (p : List Activity) (x : Activity) (Marked Other : ℕ → Type 0) (s : SplitCount) → (t : Tracks rule p Marked s) → AreMarkedAlike p Marked (p ++ x ∷ []) Other (length p) → IsDeclared rule.full (p ++ x ∷ []) Other (length p - t.run) (length p) →
    ArePairedAt rule.full (IsPairOf rule (p ++ x ∷ [])) (p ++ x ∷ []) Other (length p) → may_pair rule s.waiting s.run ≡ true
pair_means rule p x Marked Other s t g d h = let th = t.ends.there in elim t.state [
  | inl f ↦ ap (λ w. may_pair rule w s.run) f.free
  | inr c ↦
      let k = c.has_last in
      let e = c.counted in
      let r = run_of d in
      let some = r.some in
      elim k.kind [
        | inl u ↦ ap (λ w. may_pair rule w s.run) u.none
        | inr u ↦
            let i = run_inside p k.from k.to (run_of k.last.declared) in
            let q = h k.from k.to (length p - t.run) (split_marked g i u.split) (record { next = d; last = last_marked g (omega arith) (last_lower rule.full p Marked t.run k.from k.to t.ends k.last) }) in
            ap (λ w. may_pair rule w s.run) u.waits
            ∙ and_both (nat_le rule.pair (u.rest.long + s.run.long)) (has_pair_berth rule.berth u.rest s.run)
            (is_upto rule.pair (u.rest.long + s.run.long) (let y = q.sum in let z = u.long in omega arith))
            (pair_berth_means rule.berth p (p ++ x ∷ []) k.from k.to t.run u.rest s.run g.alike (omega arith) th e t.inside u.berth t.stretch t.longest q.berth)
      ]
]

pub pair_from : (rule : SplitRule) (p : List Activity) (x : Activity) (Marked Other : ℕ → Type 0) (s : SplitCount) → Tracks rule p Marked s → AreMarkedAlike p Marked (p ++ x ∷ []) Other (length p) →
    may_pair rule s.waiting s.run ≡ true → ArePairedAt rule.full (IsPairOf rule (p ++ x ∷ [])) (p ++ x ∷ []) Other (length p)
pair_from rule p x Marked Other s t g e a b c sp nx =
    let th = t.ends.there in
    let r = run_of nx.next in
    let some = r.some in
    let z = start_of p x t.run c t.ends r in
    let y : c ≡ length p - t.run = omega arith in
    let nl : IsLastDeclared rule.full (p ++ x ∷ []) Other (length p - t.run) a b = subst (λ i. IsLastDeclared rule.full (p ++ x ∷ []) Other i a b) y nx.last in
    elim t.state [
      | inl f ↦ absurd (let v = nl.before in f.none a b (declared_marked (marked_back g) (omega arith) (inr sp)))
      | inr ct ↦
          (let k = ct.has_last in
          let same_run = ct.counted in
          let i = run_inside p k.from k.to (run_of k.last.declared) in
          let kl : IsLastDeclared rule.full (p ++ x ∷ []) Other (length p - t.run) k.from k.to = last_marked g (omega arith) (last_lower rule.full p Marked t.run k.from k.to t.ends k.last) in
          let ea : a ≡ k.from = last_declared_start rule.full (p ++ x ∷ []) Other (length p - t.run) a b k.from k.to nl kl in
          let eb : b ≡ k.to = last_declared_end rule.full (p ++ x ∷ []) Other (length p - t.run) a b k.from k.to nl kl in
          elim k.kind [
            | inl u ↦ absurd (let v = u.long.long in let w = sp.short in omega arith)
            | inr u ↦
                (let w : may_pair rule (Some u.rest) s.run ≡ true = sym (ap (λ v. may_pair rule v s.run) u.waits) ∙ e in
                let sum = upto rule.pair (u.rest.long + s.run.long) (and_left (nat_le rule.pair (u.rest.long + s.run.long)) (has_pair_berth rule.berth u.rest s.run) w) in
                let by = pair_berth_from rule.berth p (p ++ x ∷ []) k.from k.to t.run u.rest s.run g.alike (omega arith) same_run u.berth t.stretch t.longest (and_right (nat_le rule.pair (u.rest.long + s.run.long)) (has_pair_berth rule.berth u.rest s.run) w) in
                record {
                  sum = let v = u.long in omega arith;
                  berth = subst (λ n. IsPairBerth rule.berth (p ++ x ∷ []) n b c (length p)) (sym ea) (subst (λ n. IsPairBerth rule.berth (p ++ x ∷ []) k.from n c (length p)) (sym eb) (subst (λ n. IsPairBerth rule.berth (p ++ x ∷ []) k.from k.to n (length p)) (sym y) by));
                })
          ])
    ]

-- # What is used since the base

pub base_used : (rule : SplitRule) (q : List Activity) (Marked : ℕ → Type 0) (used later : Used) (w : Option WaitingRest) (i base omitted : ℕ) → HasLast rule q Marked used later w → length q ≡ i + 1 → IsBase rule.full q Marked i base omitted → IsUsedSince q base omitted used
base_used rule q Marked used later w i base omitted h z b =
    let kl = last_at rule.full q Marked i h.from h.to z h.last in
    elim b [
      | inl f ↦
          (let eb = last_declared_end rule.full q Marked i f.from base h.from h.to f.last kl in
          let ea = last_declared_start rule.full q Marked i f.from base h.from h.to f.last kl in
          elim h.kind [
            | inl k ↦ subst (IsUsedSince q base omitted) (sym k.same) (subst (λ n. IsUsedSince q base n later) (sym f.none) (subst (λ n. IsUsedSince q n 0 later) (sym eb) h.since))
            | inr k ↦ absurd (let v = k.split.short in let u = f.rest.long in omega arith)
          ])
      | inr f ↦
          (let eb = last_declared_end rule.full q Marked i f.from f.to h.from h.to f.waits.last kl in
          let ea = last_declared_start rule.full q Marked i f.from f.to h.from h.to f.waits.last kl in
          elim h.kind [
            | inl k ↦ absurd (let v = k.long.long in let u = f.waits.split.short in omega arith)
            | inr k ↦
                (let fe : IsLastDeclared rule.full q Marked h.from f.earlier base = subst (λ n. IsLastDeclared rule.full q Marked n f.earlier base) ea f.before in
                let ee = last_declared_end rule.full q Marked h.from f.earlier base k.first k.start fe k.earlier in
                let om : omitted ≡ k.rest.long = let v = f.omits in let u = k.long in omega arith in
                subst (λ n. IsUsedSince q n omitted used) (sym ee) (subst (λ n. IsUsedSince q k.start n used) (sym om) k.since))
          ])
    ]

-- there is a base
pub has_base : (rule : SplitRule) (q : List Activity) (Marked : ℕ → Type 0) (used later : Used) (w : Option WaitingRest) (i : ℕ) → HasLast rule q Marked used later w → length q ≡ i + 1 → (base : ℕ) × (omitted : ℕ) × IsBase rule.full q Marked i base omitted
has_base rule q Marked used later w i h z =
    let kl = last_at rule.full q Marked i h.from h.to z h.last in
    elim h.kind [
      | inl k ↦ (h.to, 0, inl (record { from = h.from; last = kl; rest = k.long; none = refl }))
      | inr k ↦ (k.start, k.rest.long, inr (record { from = h.from; to = h.to; waits = record { last = kl; split = k.split }; earlier = k.first; before = k.earlier; omits = k.long }))
    ]

-- no run is in progress after a unit of duty
no_run_at_duty : (p : List Activity) (x : Activity) (r : ℕ) → rests x ≡ false → EndsIn (p ++ x ∷ []) r → r ≡ 0
no_run_at_duty p x r d h = elim (cases_lt 0 r) [
  | inl l ↦ absurd (let z = length-one_more p x in let c : true ≡ false = sym (h.rest (length p) (omega arith) (omega arith)) ∙ (ap rests (unit_at-last p x) ∙ d) in cc)
  | inr l ↦ omega arith
]

pub counted_at_duty : (rule : SplitRule) (p : List Activity) (x : Activity) (Marked : ℕ → Type 0) (s : SplitCount) → IsSplitRule rule → rests x ≡ false → (t : Tracks rule (p ++ x ∷ []) Marked s) → IsCounted rule (p ++ x ∷ []) Marked t.run s
counted_at_duty rule p x Marked s good d t = elim t.state [
  | inl f ↦ absurd (let z = no_run_at_duty p x t.run d t.ends in let l = f.long in let g = good.some in omega arith)
  | inr k ↦ k
]

-- after a unit of duty what is used is counted
pub used_since : (rule : SplitRule) (p : List Activity) (x : Activity) (Marked : ℕ → Type 0) (s : SplitCount) (base omitted : ℕ) → IsSplitRule rule → rests x ≡ false → Tracks rule (p ++ x ∷ []) Marked s → IsBase rule.full (p ++ x ∷ []) Marked (length p) base omitted →
    IsUsedSince (p ++ x ∷ []) base omitted s.base
used_since rule p x Marked s base omitted good d t b = base_used rule (p ++ x ∷ []) Marked s.base s.last s.waiting (length p) base omitted (counted_at_duty rule p x Marked s good d t).has_last (length-one_more p x) b

pub used_elapsed : (rule : SplitRule) (p : List Activity) (x : Activity) (Marked : ℕ → Type 0) (s : SplitCount) (base omitted : ℕ) → IsSplitRule rule → rests x ≡ false → Tracks rule (p ++ x ∷ []) Marked s → IsBase rule.full (p ++ x ∷ []) Marked (length p) base omitted →
    used_of Elapsed s ≡ elapsed base omitted (length p + 1)
used_elapsed rule p x Marked s base omitted good d t b = let u = (used_since rule p x Marked s base omitted good d t b).passed in let z = length-one_more p x in omega arith

between_whole : (p : List Activity) (x : Activity) (from : ℕ) → between (p ++ x ∷ []) from (length p + 1) ≡ drop from (p ++ x ∷ [])
between_whole p x from = ap (drop from) (take_all (length p + 1) (p ++ x ∷ []) (let z = length-one_more p x in omega arith))

pub used_driving : (rule : SplitRule) (p : List Activity) (x : Activity) (Marked : ℕ → Type 0) (s : SplitCount) (base omitted : ℕ) → IsSplitRule rule → rests x ≡ false → Tracks rule (p ++ x ∷ []) Marked s → IsBase rule.full (p ++ x ∷ []) Marked (length p) base omitted →
    used_of Driving s ≡ driving (p ++ x ∷ []) base (length p + 1)
used_driving rule p x Marked s base omitted good d t b = sym (used_since rule p x Marked s base omitted good d t b).drove ∙ sym (ap (count_by drives) (between_whole p x base))

pub used_duty : (rule : SplitRule) (p : List Activity) (x : Activity) (Marked : ℕ → Type 0) (s : SplitCount) (base omitted : ℕ) → IsSplitRule rule → rests x ≡ false → Tracks rule (p ++ x ∷ []) Marked s → IsBase rule.full (p ++ x ∷ []) Marked (length p) base omitted →
    used_of Duty s ≡ duty (p ++ x ∷ []) base (length p + 1)
used_duty rule p x Marked s base omitted good d t b = sym (used_since rule p x Marked s base omitted good d t b).worked ∙ sym (ap (count_by works) (between_whole p x base))

-- what waits, against the split rest that waits by the history
pub waiting : (rule : SplitRule) (p : List Activity) (Marked : ℕ → Type 0) (s : SplitCount) → Tracks rule p Marked s → ((from to : ℕ) → IsWaiting rule.full p Marked (length p) from to → (w : WaitingRest) × (s.waiting ≡ Some w) × (w.long + from ≡ to) × IsLongest p from to w.berth)
waiting rule p Marked s t from to h = elim t.state [
  | inl f ↦ absurd (f.none from to h.last.declared)
  | inr c ↦
      let k = c.has_last in
      let eb = last_declared_end rule.full p Marked (length p) from to k.from k.to h.last k.last in
      let ea = last_declared_start rule.full p Marked (length p) from to k.from k.to h.last k.last in
      elim k.kind [
        | inl u ↦ absurd (let v = u.long.long in let w = h.split.short in omega arith)
        | inr u ↦ (u.rest, u.waits, (let v = u.long in omega arith), subst (λ n. IsLongest p n to u.rest.berth) (sym ea) (subst (λ n. IsLongest p k.from n u.rest.berth) (sym eb) u.berth))
      ]
]

-- # Limits

-- at a unit of driving, that unit counted, the time since the base is at most so much
abbrev pub MeetsElapsed : SplitRule → ℕ → List Activity → (ℕ → Type 0) → ℕ → Type 0
MeetsElapsed rule limit p Marked i = unit_at p i ≡ Drive → (base omitted : ℕ) → IsBase rule.full p Marked i base omitted → elapsed base omitted (i + 1) ≤ limit

abbrev pub MeetsDriving : SplitRule → ℕ → List Activity → (ℕ → Type 0) → ℕ → Type 0
MeetsDriving rule limit p Marked i = unit_at p i ≡ Drive → (base omitted : ℕ) → IsBase rule.full p Marked i base omitted → driving p base (i + 1) ≤ limit

abbrev pub MeetsDuty : SplitRule → ℕ → List Activity → (ℕ → Type 0) → ℕ → Type 0
MeetsDuty rule limit p Marked i = unit_at p i ≡ Drive → (base omitted : ℕ) → IsBase rule.full p Marked i base omitted → duty p base (i + 1) ≤ limit

-- a count up to a place looks at nothing after it
count_alike : (test : Activity → Bool) (p q : List Activity) (n i from limit : ℕ) → AreAlike p q n → i < n → count_by test (between p from (i + 1)) ≤ limit → count_by test (between q from (i + 1)) ≤ limit
count_alike test p q n i from limit g l h = subst (λ (u : List Activity). count_by test (drop from u) ≤ limit) (g.fronts (i + 1) (omega arith)) h

-- a base of the last unit
base_of : (rule : SplitRule) (p : List Activity) (x : Activity) (Marked : ℕ → Type 0) (s : SplitCount) → IsSplitRule rule → rests x ≡ false → Tracks rule (p ++ x ∷ []) Marked s → (base : ℕ) × (omitted : ℕ) × IsBase rule.full (p ++ x ∷ []) Marked (length p) base omitted
base_of rule p x Marked s good d t = has_base rule (p ++ x ∷ []) Marked s.base s.last s.waiting (length p) (counted_at_duty rule p x Marked s good d t).has_last (length-one_more p x)

pub elapsed_limit : (rule : SplitRule) (limit : ℕ) → IsSplitRule rule → IsLimit rule (λ s. nat_le (used_of Elapsed s) limit) (MeetsElapsed rule limit)
elapsed_limit rule limit good = record {
  local = λ p q Marked Other n i g l h d base omitted b. h (g.alike.units i l ∙ d) base omitted (base_marked (marked_back g) l b);
  idle = λ p Marked i none d. absurd (none d);
  meant = λ p Marked s t. (
    (λ e d base omitted b. let u = upto (used_of Elapsed s) limit e in let w = used_elapsed rule p Drive Marked s base omitted good refl t b in omega arith),
    (λ h. let b = base_of rule p Drive Marked s good refl t in let u = h (unit_at-last p Drive) b.0 b.1 b.2 in let w = used_elapsed rule p Drive Marked s b.0 b.1 good refl t b.2 in is_upto (used_of Elapsed s) limit (omega arith)),
  );
}

pub driving_limit : (rule : SplitRule) (limit : ℕ) → IsSplitRule rule → IsLimit rule (λ s. nat_le (used_of Driving s) limit) (MeetsDriving rule limit)
driving_limit rule limit good = record {
  local = λ p q Marked Other n i g l h d base omitted b. count_alike drives p q n i base limit g.alike l (h (g.alike.units i l ∙ d) base omitted (base_marked (marked_back g) l b));
  idle = λ p Marked i none d. absurd (none d);
  meant = λ p Marked s t. (
    (λ e d base omitted b. let u = upto (used_of Driving s) limit e in let w = used_driving rule p Drive Marked s base omitted good refl t b in omega arith),
    (λ h. let b = base_of rule p Drive Marked s good refl t in let u = h (unit_at-last p Drive) b.0 b.1 b.2 in let w = used_driving rule p Drive Marked s b.0 b.1 good refl t b.2 in is_upto (used_of Driving s) limit (omega arith)),
  );
}

pub duty_limit : (rule : SplitRule) (limit : ℕ) → IsSplitRule rule → IsLimit rule (λ s. nat_le (used_of Duty s) limit) (MeetsDuty rule limit)
duty_limit rule limit good = record {
  local = λ p q Marked Other n i g l h d base omitted b. count_alike works p q n i base limit g.alike l (h (g.alike.units i l ∙ d) base omitted (base_marked (marked_back g) l b));
  idle = λ p Marked i none d. absurd (none d);
  meant = λ p Marked s t. (
    (λ e d base omitted b. let u = upto (used_of Duty s) limit e in let w = used_duty rule p Drive Marked s base omitted good refl t b in omega arith),
    (λ h. let b = base_of rule p Drive Marked s good refl t in let u = h (unit_at-last p Drive) b.0 b.1 b.2 in let w = used_duty rule p Drive Marked s b.0 b.1 good refl t b.2 in is_upto (used_of Duty s) limit (omega arith)),
  );
}

-- two limits
pub both_limits : (rule : SplitRule) (ok ok2 : SplitCount → Bool) (Holds Holds2 : List Activity → (ℕ → Type 0) → ℕ → Type 0) → IsLimit rule ok Holds → IsLimit rule ok2 Holds2 →
    IsLimit rule (λ s. ok s && ok2 s) (λ p Marked i. Holds p Marked i × Holds2 p Marked i)
both_limits rule ok ok2 Holds Holds2 a b = record {
  local = λ p q Marked Other n i g l h. (a.local p q Marked Other n i g l h.0, b.local p q Marked Other n i g l h.1);
  idle = λ p Marked i none. (a.idle p Marked i none, b.idle p Marked i none);
  meant = λ p Marked s t. let x = a.meant p Marked s t in let y = b.meant p Marked s t in (
    (λ e. (x.0 (and_left (ok s) (ok2 s) e), y.0 (and_right (ok s) (ok2 s) e))),
    (λ h. and_both (ok s) (ok2 s) (x.1 h.0) (y.1 h.1)),
  );
}
