-- When the counts of a cycle of one history may stand for those of another of the same length and first minute, whatever comes next.
use Rattle.std.proofs.Common.{◌≡◌, ℕ, ◌+◌, ◌-◌, ◌<◌, ◌≤◌, ◌⊎◌, min, Bool, true, false, cond, ◌&&◌, List, [], ◌∷◌, length, refl, sym, ◌∙◌, ap, subst, arith, inl, inr}
use Rattle.std.specs.Prelude.{nat_eq, nat_lt, nat_le, Option, None, Some, sum}
use Rattle.std.proofs.lemmas.Bool.{cases_lt, cases_Bool, cond-true, cond-false}
use Rattle.std.proofs.lemmas.Bool.Decides.{nat_tests}
use Rattle.std.proofs.lemmas.List.{take_all}
use Rattle.duty_core.specs.declared.activity.Activity.{Activity}
use Rattle.duty_core.specs.declared.activity.Activity.TheVariants.{Drive, Serve, Wait, Off, Berth}
use Rattle.duty_core.specs.declared.limits.TheConstants.{CA_CYCLE_2, CA_DAY_OFF, CA_WITHOUT_DAY_OFF_LIMIT}
use Rattle.duty_core.specs.Activity.{rests}
use Rattle.duty_core.specs.CaCycle.{cycle_reset, cycle_limit}
use Rattle.day_sums.specs.Sums.{first_days, added, cleared, LeavesNoLess}
use Rattle.day_sums.specs.Laws.SumLaws.{first_added, first_cleared, length-added, length-cleared}
use Rattle.day_sums.specs.Laws.LeftLaws.{leaves_same, leaves_turned, leaves_added, leaves_more}
use Rattle.day_sums.specs.Counted.{turned, after_rest}
use Rattle.day_sums.specs.Laws.Counted.{length-turned}
use Rattle.cycles_deferral.specs.declared.cycle.TheConstants.{SINCE_LIMIT, WITHOUT_LIMIT}
use Rattle.cycles_deferral.specs.declared.cycle.CycleCount.{CycleCount}
use Rattle.cycles_deferral.specs.CycleMachine.{IsCycleCount, cycle_rested, cycle_worked, keeps_day_off, keeps_cycle, cycle_ok, cycle_after}
use Rattle.cycles_deferral.specs.CycleCovers.{CycleCovers, CycleCoversOn}

-- # An order

pub cycle_covers_self : (new : Bool) (a : CycleCount) → CycleCovers new a a
cycle_covers_self new a = record {
  same_cycle = refl;
  rested = omega arith;
  same_days = refl;
  left = leaves_same (cycle_limit a.cycle) (length a.sums) (turned new a.sums);
  since_no_more = omega arith;
  without_no_more = omega arith;
}

pub cycle_covers_over : (new : Bool) (a b c : CycleCount) → CycleCovers new a b → CycleCovers new b c → CycleCovers new a c
cycle_covers_over new a b c h g =
    let x = h.rested in
    let y = g.rested in
    let s = h.since_no_more in
    let t = g.since_no_more in
    let v = h.without_no_more in
    let w = g.without_no_more in
    let e = g.same_days in
    let m : cycle_limit b.cycle ≡ cycle_limit c.cycle = ap cycle_limit g.same_cycle in
    record {
      same_cycle = h.same_cycle ∙ g.same_cycle;
      rested = omega arith;
      same_days = h.same_days ∙ g.same_days;
      left = λ n l. let p = h.left n (omega arith) in let q = g.left n l in omega arith;
      since_no_more = omega arith;
      without_no_more = omega arith;
    }

-- # Sums

after_short : (restart rest : ℕ) (xs : List ℕ) → rest < restart → after_rest restart rest xs ≡ xs
after_short restart rest xs l = cond-true (nat_lt rest restart) xs (cleared xs) (grind (arith, nat_tests))

after_long : (restart rest : ℕ) (xs : List ℕ) → restart ≤ rest → after_rest restart rest xs ≡ cleared xs
after_long restart rest xs l = cond-false (nat_lt rest restart) xs (cleared xs) (grind (arith, nat_tests))

pub length_after : (restart rest : ℕ) (xs : List ℕ) → length (after_rest restart rest xs) ≡ length xs
length_after restart rest xs = elim (cases_lt rest restart) [
  | inl l ↦ ap length (after_short restart rest xs l)
  | inr l ↦ ap length (after_long restart rest xs l) ∙ length-cleared xs
]

-- a rest clears sums or leaves them
after_less : (restart rest : ℕ) (xs : List ℕ) (n : ℕ) → first_days n (after_rest restart rest xs) ≤ first_days n xs
after_less restart rest xs n = elim (cases_lt rest restart) [
  | inl l ↦ (let e : first_days n (after_rest restart rest xs) ≡ first_days n xs = ap (first_days n) (after_short restart rest xs l) in omega arith)
  | inr l ↦ (let e : first_days n (after_rest restart rest xs) ≡ 0 = ap (first_days n) (after_long restart rest xs l) ∙ first_cleared n xs in omega arith)
]

left_after : (limit days restart x y : ℕ) (xs ys : List ℕ) → y ≤ x → LeavesNoLess limit days xs ys → LeavesNoLess limit days (after_rest restart x xs) (after_rest restart y ys)
left_after limit days restart x y xs ys l h n m = elim (cases_lt x restart) [
  | inl k ↦ (
      let a : first_days n (after_rest restart x xs) ≡ first_days n xs = ap (first_days n) (after_short restart x xs k) in
      let b : first_days n (after_rest restart y ys) ≡ first_days n ys = ap (first_days n) (after_short restart y ys (omega arith)) in
      let c = h n m in
      omega arith)
  | inr k ↦ (let a : first_days n (after_rest restart x xs) ≡ 0 = ap (first_days n) (after_long restart x xs k) ∙ first_cleared n xs in omega arith)
]

-- # One more minute

rested_short : (rest a : ℕ) → rest + 1 < CA_DAY_OFF → cond (nat_lt (rest + 1) CA_DAY_OFF) a 0 ≡ a
rested_short rest a l = cond-true (nat_lt (rest + 1) CA_DAY_OFF) a 0 (grind (arith, nat_tests))

rested_long : (rest a : ℕ) → CA_DAY_OFF ≤ rest + 1 → cond (nat_lt (rest + 1) CA_DAY_OFF) a 0 ≡ 0
rested_long rest a l = cond-false (nat_lt (rest + 1) CA_DAY_OFF) a 0 (grind (arith, nat_tests))

rested_no_more : (x y a b : ℕ) → y ≤ x → a ≤ b → cond (nat_lt (x + 1) CA_DAY_OFF) a 0 ≤ cond (nat_lt (y + 1) CA_DAY_OFF) b 0
rested_no_more x y a b l h = elim (cases_lt (x + 1) CA_DAY_OFF) [
  | inl k ↦ (let p = rested_short x a k in let q = rested_short y b (omega arith) in omega arith)
  | inr k ↦ (let p = rested_long x a k in omega arith)
]

rested_least : (x a : ℕ) → cond (nat_lt (x + 1) CA_DAY_OFF) a 0 ≤ a
rested_least x a = elim (cases_lt (x + 1) CA_DAY_OFF) [
  | inl k ↦ (let p = rested_short x a k in omega arith)
  | inr k ↦ (let p = rested_long x a k in omega arith)
]

pub cycle_cover_rested : (new next : Bool) (a b : CycleCount) → CycleCovers new a b → CycleCovers next (cycle_rested a new) (cycle_rested b new)
cycle_cover_rested new next a b h =
    let r = h.rested in
    let s = h.since_no_more in
    let e = h.same_cycle in
    let reset : cycle_reset a.cycle ≡ cycle_reset b.cycle = ap cycle_reset e in
    let xs : List ℕ = turned new a.sums in
    let ys : List ℕ = turned new b.sums in
    let long : length xs ≡ length ys = length-turned new a.sums ∙ (h.same_days ∙ sym (length-turned new b.sums)) in
    let same : length (after_rest (cycle_reset a.cycle) (a.rest + 1) xs) ≡ length (after_rest (cycle_reset b.cycle) (b.rest + 1) ys) =
    length_after (cycle_reset a.cycle) (a.rest + 1) xs ∙ (long ∙ sym (length_after (cycle_reset b.cycle) (b.rest + 1) ys)) in
    let limit : ℕ = cycle_limit b.cycle in
    let days : ℕ = length b.sums in
    let after : LeavesNoLess limit days (after_rest (cycle_reset a.cycle) (a.rest + 1) xs) (after_rest (cycle_reset b.cycle) (b.rest + 1) ys) =
    subst (λ z. LeavesNoLess limit days (after_rest (cycle_reset a.cycle) (a.rest + 1) xs) (after_rest z (b.rest + 1) ys)) reset (left_after limit days (cycle_reset a.cycle) (a.rest + 1) (b.rest + 1) xs ys (omega arith) h.left) in
    let many : length (after_rest (cycle_reset b.cycle) (b.rest + 1) ys) ≡ days = length_after (cycle_reset b.cycle) (b.rest + 1) ys ∙ length-turned new b.sums in
    record {
      same_cycle = e;
      rested = omega arith;
      same_days = same;
      left = subst (λ n. LeavesNoLess limit n (turned next (after_rest (cycle_reset a.cycle) (a.rest + 1) xs)) (turned next (after_rest (cycle_reset b.cycle) (b.rest + 1) ys))) (sym many)
          (leaves_turned limit days next (after_rest (cycle_reset a.cycle) (a.rest + 1) xs) (after_rest (cycle_reset b.cycle) (b.rest + 1) ys) (omega arith) (omega arith) after);
      since_no_more = rested_no_more a.rest b.rest (min (a.since + 1) SINCE_LIMIT) (min (b.since + 1) SINCE_LIMIT) r (omega arith);
      without_no_more = rested_no_more a.rest b.rest a.without b.without r h.without_no_more;
    }

worked_without : (cycle a b : ℕ) → a ≤ b → cond (nat_eq cycle CA_CYCLE_2) (min (a + 1) WITHOUT_LIMIT) 0 ≤ cond (nat_eq cycle CA_CYCLE_2) (min (b + 1) WITHOUT_LIMIT) 0
worked_without cycle a b l = both (nat_eq cycle CA_CYCLE_2) (min (a + 1) WITHOUT_LIMIT) (min (b + 1) WITHOUT_LIMIT) (omega arith) where
  both : (c : Bool) (x y : ℕ) → x ≤ y → cond c x 0 ≤ cond c y 0
  both true x y l = l
  both false x y l = omega arith

pub cycle_cover_worked : (new next : Bool) (a b : CycleCount) → CycleCovers new a b → CycleCovers next (cycle_worked a new) (cycle_worked b new)
cycle_cover_worked new next a b h =
    let s = h.since_no_more in
    let e = h.same_cycle in
    let xs : List ℕ = turned new a.sums in
    let ys : List ℕ = turned new b.sums in
    let long : length xs ≡ length ys = length-turned new a.sums ∙ (h.same_days ∙ sym (length-turned new b.sums)) in
    let same : length (added 1 xs) ≡ length (added 1 ys) = length-added 1 xs ∙ (long ∙ sym (length-added 1 ys)) in
    let limit : ℕ = cycle_limit b.cycle in
    let days : ℕ = length b.sums in
    let whole : length ys ≡ days = length-turned new b.sums in
    let many : length (added 1 ys) ≡ days = length-added 1 ys ∙ whole in
    record {
      same_cycle = e;
      rested = omega arith;
      same_days = same;
      left = subst (λ n. LeavesNoLess limit n (turned next (added 1 xs)) (turned next (added 1 ys))) (sym many)
          (leaves_turned limit days next (added 1 xs) (added 1 ys) (omega arith) (omega arith) (leaves_added limit days 1 xs ys (omega arith) (omega arith) h.left));
      since_no_more = omega arith;
      without_no_more = subst (λ z. cond (nat_eq a.cycle CA_CYCLE_2) (min (a.without + 1) WITHOUT_LIMIT) 0 ≤ cond (nat_eq z CA_CYCLE_2) (min (b.without + 1) WITHOUT_LIMIT) 0) e (worked_without a.cycle a.without b.without h.without_no_more);
    }

-- all the days with a minute more
sum_of_added : (sums : List ℕ) → 0 < length sums → sum (added 1 sums) ≡ first_days (length sums) sums + 1
sum_of_added sums l =
    let all : first_days (length sums) (added 1 sums) ≡ sum (added 1 sums) = ap sum (take_all (length sums) (added 1 sums) (omega (arith, length-added 1 sums))) in
    let more = first_added (length sums) 1 sums (omega arith) l in
    omega arith

sum_none : (sums : List ℕ) → length sums ≡ 0 → sum (added 1 sums) ≡ 0
sum_none [] e = refl
sum_none (x ∷ xs) e = absurd (omega arith)

-- where a minute of duty more keeps the limit, it does so for sums that leave no less
within_added : (limit : ℕ) (xs ys : List ℕ) → length xs ≡ length ys → LeavesNoLess limit (length ys) xs ys → sum (added 1 ys) ≤ limit → sum (added 1 xs) ≤ limit
within_added limit xs ys e h l = elim (cases_lt 0 (length ys)) [
  | inl some ↦ (
      let a = sum_of_added xs (omega arith) in
      let b = sum_of_added ys some in
      let c : limit - first_days (length ys) ys ≤ limit - first_days (length ys) xs = h (length ys) (omega arith) in
      let d : first_days (length xs) xs ≡ first_days (length ys) xs = ap (λ n. first_days n xs) e in
      omega arith)
  | inr none ↦ (let a = sum_none xs (omega arith) in omega arith)
]

test_of : ℕ → ℕ → ℕ → ℕ → Bool
test_of since total limit without = nat_lt since SINCE_LIMIT && (nat_le total limit && nat_le without CA_WITHOUT_DAY_OFF_LIMIT)

test_less : (s t l w u v m : ℕ) → u ≤ s → (t ≤ l → v ≤ l) → m ≤ w → test_of s t l w ≡ true → test_of u v l m ≡ true
unfolding test_of
test_less s t l w u v m a b c e = let k : t ≤ l = grind (arith, nat_tests) in let n = b k in grind (arith, nat_tests)

drive_covered : (new : Bool) (a b : CycleCount) → CycleCovers new a b → (keeps_day_off b && keeps_cycle (cycle_worked b new)) ≡ true → (keeps_day_off a && keeps_cycle (cycle_worked a new)) ≡ true
unfolding test_of
drive_covered new a b h e =
    let k = cycle_cover_worked new false a b h in
    let xs : List ℕ = turned new a.sums in
    let ys : List ℕ = turned new b.sums in
    let limit : ℕ = cycle_limit b.cycle in
    let whole : length ys ≡ length b.sums = length-turned new b.sums in
    let long : length xs ≡ length ys = length-turned new a.sums ∙ (h.same_days ∙ sym whole) in
    let left : LeavesNoLess limit (length ys) xs ys = subst (λ n. LeavesNoLess limit n xs ys) (sym whole) h.left in
    let l : limit ≡ cycle_limit a.cycle = ap cycle_limit (sym h.same_cycle) in
    subst (λ z. test_of a.since (sum (added 1 xs)) z (cycle_worked a new).without ≡ true) l
    (test_less b.since (sum (added 1 ys)) limit (cycle_worked b new).without a.since (sum (added 1 xs)) (cycle_worked a new).without h.since_no_more (within_added limit xs ys long left) k.without_no_more e)

ok_covered : (x : Activity) (new : Bool) (a b : CycleCount) → CycleCovers new a b → cycle_ok b x new ≡ true → cycle_ok a x new ≡ true
ok_covered Drive new a b h e = drive_covered new a b h e
ok_covered Serve new a b h e = refl
ok_covered Wait new a b h e = refl
ok_covered Off new a b h e = refl
ok_covered Berth new a b h e = refl

cycle_cases : (s u : CycleCount) (x : Activity) (new : Bool) → cycle_after s x new ≡ Some u →
    ((rests x ≡ true) × (u ≡ cycle_rested s new)) ⊎ ((rests x ≡ false) × (cycle_ok s x new ≡ true) × (u ≡ cycle_worked s new))
cycle_cases s u x new h =
    let stay : Option CycleCount = Some (cycle_rested s new) in
    let go : Option CycleCount = Some (cycle_worked s new) in
    let worked : Option CycleCount = cond (cycle_ok s x new) go None in
    elim (cases_Bool (rests x)) [
      | inl r ↦ (let e : Some u ≡ Some (cycle_rested s new) = sym h ∙ cond-true (rests x) stay worked r in inl (r, (let f : u ≡ cycle_rested s new = cc in f)))
      | inr r ↦ (
          let e : Some u ≡ worked = sym h ∙ cond-false (rests x) stay worked r in
          elim (cases_Bool (cycle_ok s x new)) [
            | inl k ↦ (let g : Some u ≡ Some (cycle_worked s new) = e ∙ cond-true (cycle_ok s x new) go None k in inr (r, k, (let f : u ≡ cycle_worked s new = cc in f)))
            | inr k ↦ absurd (let g : Some u ≡ None = e ∙ cond-false (cycle_ok s x new) go None k in cc)
          ])
    ]

cycle_rest_on : (s u : CycleCount) (x : Activity) (new next : Bool) → rests x ≡ true → CycleCovers next (cycle_rested s new) u → CycleCoversOn next (cycle_after s x new) u
cycle_rest_on s u x new next r h = record {
  counts = cycle_rested s new;
  is = cond-true (rests x) (Some (cycle_rested s new)) (cond (cycle_ok s x new) (Some (cycle_worked s new)) None) r;
  covers = h;
}

-- Where the counts a may stand for b, each step of b is matched by one of a, by the same activity.
pub cycle_simulates : (a b u : CycleCount) (x : Activity) (new next : Bool) → CycleCovers new a b → cycle_after b x new ≡ Some u → CycleCoversOn next (cycle_after a x new) u
cycle_simulates a b u x new next h e = elim (cycle_cases b u x new e) [
  | inl c ↦ cycle_rest_on a u x new next c.0 (subst (CycleCovers next (cycle_rested a new)) (sym c.1) (cycle_cover_rested new next a b h))
  | inr c ↦ (
      let k = ok_covered x new a b h c.1 in
      record {
        counts = cycle_worked a new;
        is = cond-false (rests x) (Some (cycle_rested a new)) (cond (cycle_ok a x new) (Some (cycle_worked a new)) None) c.0 ∙ cond-true (cycle_ok a x new) (Some (cycle_worked a new)) None k;
        covers = subst (CycleCovers next (cycle_worked a new)) (sym c.2) (cycle_cover_worked new next a b h);
      })
]

-- # Resting is safe

less_without : (s : CycleCount) → (s.cycle ≡ CA_CYCLE_2) ⊎ (s.without ≡ 0) → s.without ≤ WITHOUT_LIMIT → s.without ≤ cond (nat_eq s.cycle CA_CYCLE_2) (min (s.without + 1) WITHOUT_LIMIT) 0
less_without s h l = elim h [
  | inl two ↦ (let z = cond-true (nat_eq s.cycle CA_CYCLE_2) (min (s.without + 1) WITHOUT_LIMIT) 0 (grind (arith, nat_tests)) in omega arith)
  | inr none ↦ omega arith
]

cycle_rested_covers : (s : CycleCount) (new next : Bool) → IsCycleCount s → CycleCovers next (cycle_rested s new) (cycle_worked s new)
cycle_rested_covers s new next k =
    let xs : List ℕ = turned new s.sums in
    let a : List ℕ = after_rest (cycle_reset s.cycle) (s.rest + 1) xs in
    let same : length a ≡ length (added 1 xs) = length_after (cycle_reset s.cycle) (s.rest + 1) xs ∙ sym (length-added 1 xs) in
    let limit : ℕ = cycle_limit s.cycle in
    let days : ℕ = length s.sums in
    let whole : length xs ≡ days = length-turned new s.sums in
    let many : length (added 1 xs) ≡ days = length-added 1 xs ∙ whole in
    let more = leaves_more limit days 1 xs (omega arith) in
    let p = rested_least s.rest s.without in
    let q = less_without s k.no_without k.without_most in
    record {
      same_cycle = refl;
      rested = omega arith;
      same_days = same;
      left = subst (λ n. LeavesNoLess limit n (turned next a) (turned next (added 1 xs))) (sym many)
          (leaves_turned limit days next a (added 1 xs) (omega arith) (omega arith) (λ n l. let d = after_less (cycle_reset s.cycle) (s.rest + 1) xs n in let e = more n l in omega arith));
      since_no_more = rested_least s.rest (min (s.since + 1) SINCE_LIMIT);
      without_no_more = omega arith;
    }

-- What any activity leads to, rest may stand for.
pub cycle_rest_ahead : (s u : CycleCount) (x y : Activity) (new next : Bool) → IsCycleCount s → rests y ≡ true → cycle_after s x new ≡ Some u → CycleCoversOn next (cycle_after s y new) u
cycle_rest_ahead s u x y new next k r e = cycle_rest_on s u y new next r (elim (cycle_cases s u x new e) [
  | inl c ↦ subst (CycleCovers next (cycle_rested s new)) (sym c.1) (cycle_covers_self next (cycle_rested s new))
  | inr c ↦ subst (CycleCovers next (cycle_rested s new)) (sym c.2) (cycle_rested_covers s new next k)
])
