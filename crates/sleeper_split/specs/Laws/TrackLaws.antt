-- What a count says of the history stays so, unit by unit.
use Rattle.std.proofs.Common.{◌≡◌, ℕ, ◌+◌, ◌-◌, ◌<◌, ◌≤◌, Bool, true, false, List, [], ◌∷◌, ◌++◌, length, drop, refl, sym, ◌∙◌, ap, subst, cond, arith, zero-add, inl, inr}
use Rattle.std.specs.Prelude.{Option, None, Some, max, count_by, Contains}
use Rattle.std.proofs.Math.Seq.{drop-length}
use Rattle.std.proofs.lemmas.Bool.{cases_lt}
use Rattle.std.proofs.lemmas.List.{drop-append-le, length-drop}
use Rattle.std.proofs.lemmas.List.Sums.{sum_by-append, count_by-le-length}
use Rattle.duty_core.specs.declared.activity.Activity.{Activity}
use Rattle.duty_core.specs.declared.activity.Activity.TheVariants.{Drive, Serve, Wait, Off, Berth}
use Rattle.duty_core.specs.declared.limits.TheConstants.{COUNT_LIMIT}
use Rattle.duty_core.specs.Activity.{rests, drives, works}
use Rattle.duty_core.specs.History.{unit_at}
use Rattle.duty_core.specs.RestRun.{IsLongRun}
use Rattle.duty_core.specs.Stretch.{IsBerth}
use Rattle.duty_core.specs.DeclaredRest.{IsSplitRest, IsDeclared, IsLastDeclared}
use Rattle.duty_core.specs.Laws.HistoryLaws.{AreAlike, unit_at-append, unit_at-last, length-one_more}
use Rattle.duty_core.specs.RestRun.{EndsIn}
use Rattle.duty_core.specs.Laws.RunLaws.{ends_rest, ends_duty, run_inside, run_ends, long_alike}
use Rattle.sleeper_split.specs.declared.rule.SplitRule.{SplitRule}
use Rattle.sleeper_split.specs.declared.count.Used.{Used}
use Rattle.sleeper_split.specs.declared.count.WaitingRest.{WaitingRest}
use Rattle.sleeper_split.specs.declared.count.SplitCount.{SplitCount}
use Rattle.sleeper_split.specs.Machine.{made, no_run, none_used, one_more, rested, after_rest, worked, after_duty, without_run, split_count, rested_count}
use Rattle.sleeper_split.specs.Choices.{sleeps}
use Rattle.sleeper_split.specs.Laws.Alike.{AreMarkedAlike, marked_back, marked_append, split_marked, declared_marked, last_marked, run_of, berth_alike}
use Rattle.sleeper_split.specs.Laws.Growth.{run_before, start_of, marked_fence}
use Rattle.sleeper_split.specs.Tracks.{IsLongest, IsStretch, IsUsedSince, HasLast, IsCounted, Tracks}

-- # Counts

more_is : (n : ℕ) → n < COUNT_LIMIT → one_more n ≡ n + 1
more_is n l = omega arith

cond_more : (b : Bool) (n : ℕ) → n < COUNT_LIMIT → cond b (one_more n) n ≡ n + cond b 1 0
cond_more true n l = more_is n l
cond_more false n l = omega arith

pub count_one_more : (test : Activity → Bool) (p : List Activity) (x : Activity) (b : ℕ) → b ≤ length p → count_by test (drop b (p ++ x ∷ [])) ≡ count_by test (drop b p) + cond (test x) 1 0
count_one_more test p x b l =
    ap (count_by test) (drop-append-le b p (x ∷ []) l) ∙ (sum_by-append (λ y. cond (test y) 1 0) (drop b p) (x ∷ []) ∙ ap (λ n. count_by test (drop b p) + n) (zero-add (cond (test x) 1 0)))

count_bounded : (test : Activity → Bool) (p : List Activity) (b : ℕ) → count_by test (drop b p) ≤ length p
count_bounded test p b = let a = count_by-le-length test (drop b p) in let c = length-drop b p in omega arith

idle_unit : (test : Activity → Bool) (p : List Activity) (x : Activity) (b : ℕ) → b ≤ length p → test x ≡ false → count_by test (drop b (p ++ x ∷ [])) ≡ count_by test (drop b p)
idle_unit test p x b l e = let a = count_one_more test p x b l in let c : cond {A = ℕ} (test x) 1 0 ≡ 0 = ap (λ (t : Bool). cond {A = ℕ} t 1 0) e in omega arith

drives-rest : (x : Activity) → rests x ≡ true → drives x ≡ false
drives-rest Drive r = sym r
drives-rest Serve r = refl
drives-rest Wait r = refl
drives-rest Off r = refl
drives-rest Berth r = refl

works-rest : (x : Activity) → rests x ≡ true → works x ≡ false
works-rest Drive r = sym r
works-rest Serve r = sym r
works-rest Wait r = sym r
works-rest Off r = refl
works-rest Berth r = refl

works-duty : (x : Activity) → rests x ≡ false → works x ≡ true
works-duty Drive r = refl
works-duty Serve r = refl
works-duty Wait r = refl
works-duty Off r = sym r
works-duty Berth r = sym r

sleeps-duty : (x : Activity) → rests x ≡ false → sleeps x ≡ false
sleeps-duty Drive r = refl
sleeps-duty Serve r = refl
sleeps-duty Wait r = refl
sleeps-duty Off r = refl
sleeps-duty Berth r = r

-- one more unit of rest, and of duty
since_rest : (p : List Activity) (x : Activity) (from omitted : ℕ) (u : Used) → rests x ≡ true → length p + 1 < COUNT_LIMIT → from ≤ length p → IsUsedSince p from omitted u → IsUsedSince (p ++ x ∷ []) from omitted (rested u)
since_rest p x from omitted u r short l h = record {
  drove = idle_unit drives p x from l (drives-rest x r) ∙ h.drove;
  worked = idle_unit works p x from l (works-rest x r) ∙ h.worked;
  passed = let e = h.passed in let m = more_is u.elapsed (omega arith) in let z = length-one_more p x in omega arith;
}

since_duty : (p : List Activity) (x : Activity) (from omitted : ℕ) (u : Used) → rests x ≡ false → length p + 1 < COUNT_LIMIT → from ≤ length p → IsUsedSince p from omitted u → IsUsedSince (p ++ x ∷ []) from omitted (worked (drives x) u)
since_duty p x from omitted u r short l h = record {
  drove =
      let a = h.drove in
      let b = count_bounded drives p from in
      let c = cond_more (drives x) u.driving (omega arith) in
      let d = count_one_more drives p x from l in omega arith;
  worked =
      let a = h.worked in
      let b = count_bounded works p from in
      let c = more_is u.duty (omega arith) in
      let d = count_one_more works p x from l in
      let e : cond {A = ℕ} (works x) 1 0 ≡ 1 = ap (λ (t : Bool). cond {A = ℕ} t 1 0) (works-duty x r) in omega arith;
  passed = let e = h.passed in let m = more_is u.elapsed (omega arith) in let z = length-one_more p x in omega arith;
}

since_now : (p : List Activity) → IsUsedSince p (length p) 0 none_used
since_now p = record { drove = ap (count_by drives) (drop-length p); worked = ap (count_by works) (drop-length p); passed = omega arith }

-- # Time in the berth

pub longest_alike : {p q : List Activity} {n a b l : ℕ} → AreAlike p q n → b ≤ n → IsLongest p a b l → IsLongest q a b l
longest_alike g e h = let z = h.before in record {
  at = h.at;
  after = h.after;
  before = z;
  berth = berth_alike g (omega arith) h.berth;
  most = λ c l x y w. h.most c l x y (λ k u v. g.units k (omega arith) ∙ w k u v);
}

stretch_none : (p : List Activity) (x : Activity) → sleeps x ≡ false → IsStretch (p ++ x ∷ []) 0
stretch_none p x e = record {
  there = omega arith;
  berth = λ k a b. absurd (omega arith);
  most = λ c l b. elim (cases_lt c (length (p ++ x ∷ []))) [
    | inr k ↦ omega arith
    | inl k ↦ absurd (let z = length-one_more p x in let y : Berth ≡ x = sym (b (length p) (omega arith) (omega arith)) ∙ unit_at-last p x in let w : true ≡ false = ap sleeps y ∙ e in cc)
  ];
}

stretch_more : (p : List Activity) (n : ℕ) → IsStretch p n → IsStretch (p ++ Berth ∷ []) (n + 1)
stretch_more p n h = let z = length-one_more p Berth in let t = h.there in record {
  there = omega arith;
  berth = λ k a b. elim (cases_lt k (length p)) [
    | inl l ↦ unit_at-append p (Berth ∷ []) k l ∙ h.berth k (omega arith) l
    | inr l ↦ (let y : k ≡ length p = omega arith in ap (unit_at (p ++ Berth ∷ [])) y ∙ unit_at-last p Berth)
  ];
  most = λ c l b. elim (cases_lt (length p) c) [
    | inl k ↦ omega arith
    | inr k ↦ (let y = h.most c k (λ j u v. sym (unit_at-append p (Berth ∷ []) j v) ∙ b j u (omega arith)) in omega arith)
  ];
}

stretch_rest : (p : List Activity) (x : Activity) (n : ℕ) → n < COUNT_LIMIT → IsStretch p n → IsStretch (p ++ x ∷ []) (cond (sleeps x) (one_more n) 0)
stretch_rest p Drive n l h = stretch_none p Drive refl
stretch_rest p Serve n l h = stretch_none p Serve refl
stretch_rest p Wait n l h = stretch_none p Wait refl
stretch_rest p Off n l h = stretch_none p Off refl
stretch_rest p Berth n l h = subst (IsStretch (p ++ Berth ∷ [])) (sym (more_is n l)) (stretch_more p n h)

stretch_short : (x : Activity) (n r : ℕ) → n ≤ r → cond (sleeps x) (one_more n) 0 ≤ r + 1
stretch_short Drive n r h = omega arith
stretch_short Serve n r h = omega arith
stretch_short Wait n r h = omega arith
stretch_short Off n r h = omega arith
stretch_short Berth n r h = omega arith

longest_most : (p : List Activity) (x : Activity) (r n st w : ℕ) → n ≤ w → st ≤ w → r ≤ length p → IsStretch (p ++ x ∷ []) st → IsLongest p (length p - r) (length p) n →
    (c l : ℕ) → length (p ++ x ∷ []) - (r + 1) ≤ c → c + l ≤ length (p ++ x ∷ []) → IsBerth (p ++ x ∷ []) c (c + l) → l ≤ w
longest_most p x r n st w nw sw t s h c l a b e = let z = length-one_more p x in elim (cases_lt (length p) (c + l)) [
  | inr k ↦ (let y = h.most c l (omega arith) k (λ j u v. sym (unit_at-append p (x ∷ []) j (omega arith)) ∙ e j u v) in omega arith)
  | inl k ↦ (let y = s.most c (omega arith) (λ j u v. e j u (omega arith)) in omega arith)
]

longest_rest : (p : List Activity) (x : Activity) (r n st : ℕ) → r ≤ length p → st ≤ r + 1 → IsStretch (p ++ x ∷ []) st → IsLongest p (length p - r) (length p) n →
    IsLongest (p ++ x ∷ []) (length (p ++ x ∷ []) - (r + 1)) (length (p ++ x ∷ [])) (max n st)
longest_rest p x r n st t i s h = let z = length-one_more p x in let th = s.there in elim (cases_lt n st) [
  | inl c ↦ (let e : st ≡ max n st = omega arith in subst (IsLongest (p ++ x ∷ []) (length (p ++ x ∷ []) - (r + 1)) (length (p ++ x ∷ []))) e (record {
    at = length (p ++ x ∷ []) - st;
    after = omega arith;
    before = omega arith;
    berth = λ k u v. s.berth k u (omega arith);
    most = longest_most p x r n st st (omega arith) (omega arith) t s h;
  }))
  | inr c ↦ (let e : n ≡ max n st = omega arith in subst (IsLongest (p ++ x ∷ []) (length (p ++ x ∷ []) - (r + 1)) (length (p ++ x ∷ []))) e (record {
    at = h.at;
    after = let y = h.after in omega arith;
    before = let y = h.before in omega arith;
    berth = λ k u v. let y = h.before in unit_at-append p (x ∷ []) k (omega arith) ∙ h.berth k u v;
    most = longest_most p x r n st n (omega arith) c t s h;
  }))
]

longest_none : (q : List Activity) → IsLongest q (length q - 0) (length q) 0
longest_none q = record { at = length q; after = omega arith; before = omega arith; berth = λ k a b. absurd (omega arith); most = λ c l a b e. omega arith }

-- # The last declared rest

-- where no declared rest ends, the last one stays the last
last_on : (full : ℕ) (p : List Activity) (x : Activity) (Marked : ℕ → Type 0) (a b : ℕ) → ((c : ℕ) → IsDeclared full (p ++ x ∷ []) Marked c (length p) → ⊥) →
    IsLastDeclared full p Marked (length p) a b → IsLastDeclared full (p ++ x ∷ []) Marked (length (p ++ x ∷ [])) a b
last_on full p x Marked a b none h = let e = length-one_more p x in let g = marked_append p (x ∷ []) Marked in record {
  declared = declared_marked g (run_inside p a b (run_of h.declared)) h.declared;
  before = let z = h.before in omega arith;
  last = λ c d u l. let i = run_inside (p ++ x ∷ []) c d (run_of u) in elim (cases_lt d (length p)) [
    | inl k ↦ h.last c d (declared_marked (marked_back g) k u) (omega arith)
    | inr k ↦ absurd (none c (let z : d ≡ length p = omega arith in subst (IsDeclared full (p ++ x ∷ []) Marked c) z u))
  ];
}

-- where one ends with the last unit, that is the last one
last_new : (full : ℕ) (p : List Activity) (x : Activity) (Marked : ℕ → Type 0) (a : ℕ) → IsDeclared full (p ++ x ∷ []) Marked a (length p) → IsLastDeclared full (p ++ x ∷ []) Marked (length (p ++ x ∷ [])) a (length p)
last_new full p x Marked a h = let e = length-one_more p x in record {
  declared = h;
  before = omega arith;
  last = λ c d u l. let i = run_inside (p ++ x ∷ []) c d (run_of u) in omega arith;
}

-- no declared rest has ended within the run in progress
pub last_lower : (full : ℕ) (p : List Activity) (Marked : ℕ → Type 0) (r a b : ℕ) → EndsIn p r → IsLastDeclared full p Marked (length p) a b → IsLastDeclared full p Marked (length p - r) a b
last_lower full p Marked r a b e h = record {
  declared = h.declared;
  before = let z = run_before p r a b e (run_of h.declared) in omega arith;
  last = λ c d u l. h.last c d u (omega arith);
}

-- at the last unit and past it the last declared rest is one
pub last_at : (full : ℕ) (q : List Activity) (Marked : ℕ → Type 0) (i a b : ℕ) → length q ≡ i + 1 → IsLastDeclared full q Marked (length q) a b → IsLastDeclared full q Marked i a b
last_at full q Marked i a b e h = record {
  declared = h.declared;
  before = let z = run_inside q a b (run_of h.declared) in omega arith;
  last = λ c d u l. h.last c d u (omega arith);
}

-- counts go on, where no declared rest ends
has_on : (rule : SplitRule) (p : List Activity) (x : Activity) (Marked : ℕ → Type 0) (more : Used → Used) (used later : Used) (w : Option WaitingRest) →
    ((from omitted : ℕ) (u : Used) → from ≤ length p → IsUsedSince p from omitted u → IsUsedSince (p ++ x ∷ []) from omitted (more u)) →
    ((c : ℕ) → IsDeclared rule.full (p ++ x ∷ []) Marked c (length p) → ⊥) → HasLast rule p Marked used later w → HasLast rule (p ++ x ∷ []) Marked (more used) (more later) w
has_on rule p x Marked more used later w counts none h =
    let g = marked_append p (x ∷ []) Marked in
    let i : h.to < length p = run_inside p h.from h.to (run_of h.last.declared) in
    let j : h.from < h.to = (run_of h.last.declared).some in
    record {
      from = h.from;
      to = h.to;
      last = last_on rule.full p x Marked h.from h.to none h.last;
      since = counts h.to 0 later (omega arith) h.since;
      kind = elim h.kind [
        | inl k ↦ inl (record { long = long_alike g.alike i k.long; same = ap more k.same; none = k.none })
        | inr k ↦ inr (record {
          rest = k.rest;
          waits = k.waits;
          split = split_marked g i k.split;
          long = k.long;
          berth = longest_alike g.alike (omega arith) k.berth;
          first = k.first;
          start = k.start;
          earlier = last_marked g (omega arith) k.earlier;
          since = counts k.start k.rest.long used (let z = k.earlier.before in omega arith) k.since;
        })
      ];
    }

-- no declared rest ends at a unit of rest, nor where a short run has no mark
none_at_rest : (full : ℕ) (p : List Activity) (x : Activity) (Marked : ℕ → Type 0) (c : ℕ) → rests x ≡ true → IsDeclared full (p ++ x ∷ []) Marked c (length p) → ⊥
none_at_rest full p x Marked c r h = let z : true ≡ false = sym r ∙ (sym (ap rests (unit_at-last p x)) ∙ (run_of h).ended) in cc

-- the run in progress is as long as it is counted, where it is shorter than a full rest
pub run_counted : {rule : SplitRule} {p : List Activity} {Marked : ℕ → Type 0} {s : SplitCount} (t : Tracks rule p Marked s) → s.run.long < rule.full → IsCounted rule p Marked t.run s
run_counted t l = elim t.state [ inl f ↦ (let y = f.counted in absurd (omega arith)) | inr k ↦ k ]

pub none_unmarked : (rule : SplitRule) (p : List Activity) (x : Activity) (Marked : ℕ → Type 0) (s : SplitCount) (c : ℕ) → Tracks rule p Marked s → s.run.long < rule.full → IsDeclared rule.full (p ++ x ∷ []) Marked c (length p) → ⊥
none_unmarked rule p x Marked s c t l h = let z = start_of p x t.run c t.ends (run_of h) in let k = run_counted t l in let e = k.counted in elim h [
  | inl f ↦ (let y = f.long in absurd (omega arith))
  | inr f ↦ (let y = t.earlier c f.marked in absurd (omega arith))
]

-- # One more unit

pub tracks_rest : (rule : SplitRule) (p : List Activity) (x : Activity) (Marked : ℕ → Type 0) (s : SplitCount) → rests x ≡ true → length p + 1 < COUNT_LIMIT → Tracks rule p Marked s → Tracks rule (p ++ x ∷ []) Marked (after_rest (sleeps x) s)
tracks_rest rule p x Marked s r short h = let z = length-one_more p x in let th = h.ends.there in let st = h.inside in record {
  short = omega arith;
  run = h.run + 1;
  ends = ends_rest p x h.run r h.ends;
  earlier = λ a i. let y = h.earlier a i in omega arith;
  inside = stretch_short x s.run.stretch h.run h.inside;
  stretch = stretch_rest p x s.run.stretch (omega arith) h.stretch;
  longest = longest_rest p x h.run s.run.longest (cond (sleeps x) (one_more s.run.stretch) 0) th (stretch_short x s.run.stretch h.run h.inside) (stretch_rest p x s.run.stretch (omega arith) h.stretch) h.longest;
  state = elim h.state [
    | inl f ↦ inl (record {
      none = λ a b d. elim (cases_lt b (length p)) [
        | inl l ↦ f.none a b (declared_marked (marked_back (marked_append p (x ∷ []) Marked)) l d)
        | inr l ↦ (let i = run_inside (p ++ x ∷ []) a b (run_of d) in let y : b ≡ length p = omega arith in none_at_rest rule.full p x Marked a r (subst (IsDeclared rule.full (p ++ x ∷ []) Marked a) y d))
      ];
      long = let y = f.long in omega arith;
      counted = let y = f.counted in let w = f.long in omega arith;
      free = f.free;
    })
    | inr k ↦ inr (record {
      counted = let e = k.counted in let m = more_is s.run.long (omega arith) in omega arith;
      has_last = has_on rule p x Marked rested s.base s.last s.waiting (λ from omitted u l i. since_rest p x from omitted u r short l i) (λ c. none_at_rest rule.full p x Marked c r) k.has_last;
    })
  ];
}

-- after a duty unit, whatever was declared
tracks_duty : (rule : SplitRule) (p : List Activity) (x : Activity) (Marked : ℕ → Type 0) (used later : Used) (w : Option WaitingRest) → rests x ≡ false → length p + 1 < COUNT_LIMIT → ((a : ℕ) → Marked a → a < length p + 1) →
    HasLast rule (p ++ x ∷ []) Marked used later w → Tracks rule (p ++ x ∷ []) Marked (made no_run used later w)
tracks_duty rule p x Marked used later w r short i h = let z = length-one_more p x in record {
  short = omega arith;
  run = 0;
  ends = ends_duty p x r;
  earlier = λ a o. let y = i a o in omega arith;
  inside = omega arith;
  stretch = stretch_none p x (sleeps-duty x r);
  longest = longest_none (p ++ x ∷ []);
  state = inr (record { counted = refl; has_last = h });
}

-- where the run, if any, is not declared
pub tracks_undeclared : (rule : SplitRule) (p : List Activity) (x : Activity) (Marked : ℕ → Type 0) (s : SplitCount) → rests x ≡ false → length p + 1 < COUNT_LIMIT → s.run.long < rule.full → Tracks rule p Marked s → Tracks rule (p ++ x ∷ []) Marked (after_duty (drives x) s)
tracks_undeclared rule p x Marked s r short l h =
    tracks_duty rule p x Marked (worked (drives x) s.base) (worked (drives x) s.last) s.waiting r short (λ a i. let y = h.earlier a i in omega arith)
    (has_on rule p x Marked (worked (drives x)) s.base s.last s.waiting (λ from omitted u y i. since_duty p x from omitted u r short y i) (λ c. none_unmarked rule p x Marked s c h l) (run_counted h l).has_last)

-- where the run ends as a full rest
pub is_full : (full : ℕ) (p : List Activity) (x : Activity) (r : ℕ) → rests x ≡ false → 0 < r → full ≤ r → EndsIn p r → IsLongRun full (p ++ x ∷ []) (length p - r) (length p)
is_full full p x r e some l h = record { run = run_ends p x r e some h; long = let t = h.there in omega arith }

pub tracks_full : (rule : SplitRule) (p : List Activity) (x : Activity) (Marked : ℕ → Type 0) (s : SplitCount) → rests x ≡ false → length p + 1 < COUNT_LIMIT → (h : Tracks rule p Marked s) → 0 < h.run → rule.full ≤ h.run → Tracks rule (p ++ x ∷ []) Marked (after_duty (drives x) rested_count)
tracks_full rule p x Marked s r short h some l =
    let f = is_full rule.full p x h.run r some l h.ends in
    tracks_duty rule p x Marked (worked (drives x) none_used) (worked (drives x) none_used) None r short (λ a i. let y = h.earlier a i in omega arith) (record {
      from = length p - h.run;
      to = length p;
      last = last_new rule.full p x Marked (length p - h.run) (inl f);
      since = since_duty p x (length p) 0 none_used r short (omega arith) (since_now p);
      kind = inl (record { long = f; same = refl; none = refl });
    })

-- and as a split rest
pub is_split : (full : ℕ) (p : List Activity) (x : Activity) (Other : ℕ → Type 0) (r : ℕ) → rests x ≡ false → 0 < r → r < full → Other (length p - r) → EndsIn p r → IsSplitRest full (p ++ x ∷ []) Other (length p - r) (length p)
is_split full p x Other r e l k m h = record { run = run_ends p x r e l h; short = let t = h.there in omega arith; marked = m }

pub tracks_split : (rule : SplitRule) (p : List Activity) (x : Activity) (Marked Other : ℕ → Type 0) (s : SplitCount) → rests x ≡ false → length p + 1 < COUNT_LIMIT → 0 < s.run.long → s.run.long < rule.full → AreMarkedAlike p Marked (p ++ x ∷ []) Other (length p) →
    Other (length p - s.run.long) → ((a : ℕ) → Other a → a < length p + 1) → Tracks rule p Marked s → Tracks rule (p ++ x ∷ []) Other (after_duty (drives x) (split_count s))
tracks_split rule p x Marked Other s r short some l g mark inside h =
    let k = run_counted h l in
    let e = k.counted in
    let y = k.has_last in
    let t = h.ends.there in
    let ends : EndsIn p s.run.long = subst (EndsIn p) (sym e) h.ends in
    let d = is_split rule.full p x Other s.run.long r some l mark ends in
    let b = run_before p h.run y.from y.to h.ends (run_of y.last.declared) in
    tracks_duty rule p x Other (worked (drives x) (without_run s)) (worked (drives x) none_used) (Some (record { long = s.run.long; berth = s.run.longest })) r short inside (record {
      from = length p - s.run.long;
      to = length p;
      last = last_new rule.full p x Other (length p - s.run.long) (inr d);
      since = since_duty p x (length p) 0 none_used r short (omega arith) (since_now p);
      kind = inr (record {
        rest = record { long = s.run.long; berth = s.run.longest };
        waits = refl;
        split = d;
        long = omega arith;
        berth = longest_alike g.alike (omega arith) (subst (λ n. IsLongest p (length p - n) (length p) s.run.longest) (sym e) h.longest);
        first = y.from;
        start = y.to;
        earlier = last_marked g (omega arith) (last_lower rule.full p Marked s.run.long y.from y.to ends y.last);
        since = since_duty p x y.to s.run.long (without_run s) r short (omega arith) (record { drove = y.since.drove; worked = y.since.worked; passed = let a = y.since.passed in omega arith });
      });
    })

-- the marks with one more, of the run in progress
pub marked_split : (p : List Activity) (x : Activity) (m : List ℕ) (r : ℕ) → EndsIn p r → AreMarkedAlike p (Contains m) (p ++ x ∷ []) (Contains (m ++ (length p - r) ∷ [])) (length p)
marked_split p x m r e = marked_fence p (x ∷ []) m ((length p - r) ∷ []) r e (omega arith, tt)
