-- Many equal minutes of one day, for the counts of a cycle: one by one, and at once.
use Rattle.std.proofs.Common.{◌≡◌, ℕ, ◌+◌, ◌-◌, ◌<◌, ◌≤◌, Bool, true, false, cond, ◌&&◌, List, [], ◌∷◌, refl, sym, ◌∙◌, ap, arith, inl, inr, min, zero, suc}
use Rattle.std.specs.Prelude.{Option, None, Some, sum, nat_eq, nat_lt, nat_le}
use Rattle.std.proofs.lemmas.Bool.{cases_lt, cases_Bool, cond-true, cond-false}
use Rattle.std.proofs.lemmas.Bool.Decides.{nat_tests}
use Rattle.std.proofs.lemmas.List.Sums.{sum_by-cons}
use Rattle.duty_core.specs.declared.activity.Activity.{Activity}
use Rattle.duty_core.specs.declared.limits.TheConstants.{CA_CYCLE_2, CA_DAY_OFF, CA_WITHOUT_DAY_OFF_LIMIT}
use Rattle.duty_core.specs.Activity.{rests, drives}
use Rattle.duty_core.specs.CaCycle.{cycle_reset, cycle_limit}
use Rattle.day_sums.specs.Sums.{added, cleared}
use Rattle.day_sums.specs.Laws.SumLaws.{cleared_twice}
use Rattle.day_sums.specs.Counted.{turned, after_rest}
use Rattle.cycles_deferral.specs.declared.cycle.TheConstants.{SINCE_LIMIT, WITHOUT_LIMIT}
use Rattle.cycles_deferral.specs.declared.cycle.CycleCount.{CycleCount}
use Rattle.cycles_deferral.specs.CycleMachine.{cycle_made, cycle_rested, cycle_worked, keeps_cycle, cycle_ok, cycle_after}
use Rattle.cycles_deferral.specs.Laws.Counts.{reset_long}
use Rattle.cycles_deferral.specs.CycleRuns.{cycle_more, cycle_run, cycle_rested_run, cycle_worked_run, cycle_ok_run, worked_at_once, cycle_at_once}

-- # One minute more

made_same : (cycle a b c d e f : ℕ) (l m : List ℕ) → a ≡ b → l ≡ m → c ≡ d → e ≡ f → cycle_made cycle a l c e ≡ cycle_made cycle b m d f
made_same cycle a b c d e f l m h g k i =
    ap (λ x. cycle_made cycle x l c e) h ∙ (ap (λ x. cycle_made cycle b x c e) g ∙ (ap (λ x. cycle_made cycle b m x e) k ∙ ap (λ x. cycle_made cycle b m d x) i))

added_twice : (a b : ℕ) (sums : List ℕ) → added b (added a sums) ≡ added (a + b) sums
added_twice a b [] = refl
added_twice a b (x ∷ xs) = ap (λ (n : ℕ). n ∷ xs) (let z : x + a + b ≡ x + (a + b) = omega arith in z)

not_yet : (reset run : ℕ) (sums : List ℕ) → run < reset → after_rest reset run sums ≡ sums
not_yet reset run sums l = cond-true (nat_lt run reset) sums (cleared sums) (grind (arith, nat_tests))

over : (reset run : ℕ) (sums : List ℕ) → reset ≤ run → after_rest reset run sums ≡ cleared sums
over reset run sums l = cond-false (nat_lt run reset) sums (cleared sums) (grind (arith, nat_tests))

sums_twice : (reset rest n : ℕ) (sums : List ℕ) → after_rest reset (min (rest + 1) reset + (n + 1)) (after_rest reset (rest + 1) sums) ≡ after_rest reset (rest + (suc n + 1)) sums
sums_twice reset rest n sums = elim (cases_lt (rest + 1) reset) [
  | inl l ↦
      ap (after_rest reset (min (rest + 1) reset + (n + 1))) (not_yet reset (rest + 1) sums l) ∙ ap (λ r. after_rest reset r sums) (let z : min (rest + 1) reset + (n + 1) ≡ rest + (suc n + 1) = omega arith in z)
  | inr l ↦
      ap (after_rest reset (min (rest + 1) reset + (n + 1))) (over reset (rest + 1) sums l)
      ∙ (over reset (min (rest + 1) reset + (n + 1)) (cleared sums) (omega arith) ∙ (sym (cleared_twice sums) ∙ sym (over reset (rest + (suc n + 1)) sums (omega arith))))
]

since_twice : (reset rest since n : ℕ) → CA_DAY_OFF ≤ reset →
    cond (nat_lt (min (rest + 1) reset + (n + 1)) CA_DAY_OFF) (min (cond (nat_lt (rest + 1) CA_DAY_OFF) (min (since + 1) SINCE_LIMIT) 0 + (n + 1)) SINCE_LIMIT) 0
    ≡ cond (nat_lt (rest + (suc n + 1)) CA_DAY_OFF) (min (since + (suc n + 1)) SINCE_LIMIT) 0
since_twice reset rest since n long = elim (cases_lt (rest + (suc n + 1)) CA_DAY_OFF) [
  | inl l ↦ (
      let a = cond-true (nat_lt (rest + 1) CA_DAY_OFF) (min (since + 1) SINCE_LIMIT) 0 (grind (arith, nat_tests)) in
      let d : ℕ = min (cond (nat_lt (rest + 1) CA_DAY_OFF) (min (since + 1) SINCE_LIMIT) 0 + (n + 1)) SINCE_LIMIT in
      let e : d ≡ min (since + (suc n + 1)) SINCE_LIMIT = omega arith in
      cond-true (nat_lt (min (rest + 1) reset + (n + 1)) CA_DAY_OFF) d 0 (grind (arith, nat_tests))
      ∙ (e ∙ sym (cond-true (nat_lt (rest + (suc n + 1)) CA_DAY_OFF) (min (since + (suc n + 1)) SINCE_LIMIT) 0 (grind (arith, nat_tests)))))
  | inr l ↦
      cond-false (nat_lt (min (rest + 1) reset + (n + 1)) CA_DAY_OFF) (min (cond (nat_lt (rest + 1) CA_DAY_OFF) (min (since + 1) SINCE_LIMIT) 0 + (n + 1)) SINCE_LIMIT) 0 (grind (arith, nat_tests))
      ∙ sym (cond-false (nat_lt (rest + (suc n + 1)) CA_DAY_OFF) (min (since + (suc n + 1)) SINCE_LIMIT) 0 (grind (arith, nat_tests)))
]

without_twice : (reset rest without n : ℕ) → CA_DAY_OFF ≤ reset →
    cond (nat_lt (min (rest + 1) reset + (n + 1)) CA_DAY_OFF) (cond (nat_lt (rest + 1) CA_DAY_OFF) without 0) 0 ≡ cond (nat_lt (rest + (suc n + 1)) CA_DAY_OFF) without 0
without_twice reset rest without n long = elim (cases_lt (rest + (suc n + 1)) CA_DAY_OFF) [
  | inl l ↦
      cond-true (nat_lt (min (rest + 1) reset + (n + 1)) CA_DAY_OFF) (cond (nat_lt (rest + 1) CA_DAY_OFF) without 0) 0 (grind (arith, nat_tests))
      ∙ (cond-true (nat_lt (rest + 1) CA_DAY_OFF) without 0 (grind (arith, nat_tests)) ∙ sym (cond-true (nat_lt (rest + (suc n + 1)) CA_DAY_OFF) without 0 (grind (arith, nat_tests))))
  | inr l ↦
      cond-false (nat_lt (min (rest + 1) reset + (n + 1)) CA_DAY_OFF) (cond (nat_lt (rest + 1) CA_DAY_OFF) without 0) 0 (grind (arith, nat_tests))
      ∙ sym (cond-false (nat_lt (rest + (suc n + 1)) CA_DAY_OFF) without 0 (grind (arith, nat_tests)))
]

rest_more : (n : ℕ) (s : CycleCount) (new : Bool) → cycle_rested_run (n + 1) (cycle_rested s new) false ≡ cycle_rested_run (suc n + 1) s new
rest_more n s new =
    let reset = cycle_reset s.cycle in
    let long = reset_long s.cycle in
    made_same s.cycle (min (min (s.rest + 1) reset + (n + 1)) reset) (min (s.rest + (suc n + 1)) reset) _ _ _ _ _ _ (omega arith) (sums_twice reset s.rest n (turned new s.sums))
    (since_twice reset s.rest s.since n long) (without_twice reset s.rest s.without n long)

counted_twice : (b : Bool) (w n : ℕ) → cond b (min (cond b (min (w + 1) WITHOUT_LIMIT) 0 + (n + 1)) WITHOUT_LIMIT) 0 ≡ cond b (min (w + (suc n + 1)) WITHOUT_LIMIT) 0
counted_twice true w n = omega arith
counted_twice false w n = refl

work_more : (n : ℕ) (s : CycleCount) (new : Bool) → cycle_worked_run (n + 1) (cycle_worked s new) false ≡ cycle_worked_run (suc n + 1) s new
work_more n s new =
    made_same s.cycle 0 0 (min (min (s.since + 1) SINCE_LIMIT + (n + 1)) SINCE_LIMIT) (min (s.since + (suc n + 1)) SINCE_LIMIT) _ _ _ _ refl
    (added_twice 1 (n + 1) (turned new s.sums) ∙ ap (λ m. added m (turned new s.sums)) (let z : 1 + (n + 1) ≡ suc n + 1 = omega arith in z))
    (omega arith) (counted_twice (nat_eq s.cycle CA_CYCLE_2) s.without n)

-- # What more duty keeps

sum_less : (a b : ℕ) (sums : List ℕ) → a ≤ b → sum (added a sums) ≤ sum (added b sums)
sum_less a b [] l = omega arith
sum_less a b (x ∷ xs) l =
    let c : sum (added a (x ∷ xs)) ≡ x + a + sum xs = sum_by-cons (λ y. y) (x + a) xs in
    let d : sum (added b (x ∷ xs)) ≡ x + b + sum xs = sum_by-cons (λ y. y) (x + b) xs in
    omega arith

without_less : (b : Bool) (w n : ℕ) → cond b (min (w + 1) WITHOUT_LIMIT) 0 ≤ cond b (min (w + (suc n + 1)) WITHOUT_LIMIT) 0
without_less true w n = omega arith
without_less false w n = omega arith

-- the same of plain numbers
test_of : ℕ → ℕ → ℕ → ℕ → Bool
test_of since sums limit without = nat_lt since SINCE_LIMIT && (nat_le sums limit && nat_le without CA_WITHOUT_DAY_OFF_LIMIT)

test_less : (a b c d limit e f : ℕ) → a ≤ b → c ≤ d → e ≤ f → test_of b d limit f ≡ true → test_of a c limit e ≡ true
unfolding test_of
test_less a b c d limit e f h g k t = grind (arith, nat_tests)

test_same : (a b sums limit without : ℕ) → nat_lt a SINCE_LIMIT ≡ nat_lt b SINCE_LIMIT → test_of a sums limit without ≡ test_of b sums limit without
unfolding test_of
test_same a b sums limit without e = ap (λ t. t && (nat_le sums limit && nat_le without CA_WITHOUT_DAY_OFF_LIMIT)) e

drive_less : (b : Bool) (t u : Bool) → (t ≡ true → u ≡ true) → cond b t true ≡ true → cond b u true ≡ true
drive_less true t u h e = h e
drive_less false t u h e = refl

ok_less : (n : ℕ) (s : CycleCount) (x : Activity) (new : Bool) → cycle_ok_run (suc n + 1) s x new ≡ true → cycle_ok s x new ≡ true
unfolding test_of
ok_less n s x new = drive_less (drives x) _ _
    (test_less s.since (s.since + (suc n + 1 - 1)) _ _ (cycle_limit s.cycle) _ _ (omega arith) (sum_less 1 (suc n + 1) (turned new s.sums) (omega arith)) (without_less (nat_eq s.cycle CA_CYCLE_2) s.without n))

since_same : (since n : ℕ) → nat_lt (min (since + 1) SINCE_LIMIT + (n + 1 - 1)) SINCE_LIMIT ≡ nat_lt (since + (suc n + 1 - 1)) SINCE_LIMIT
since_same since n = elim (cases_lt (since + 1 + n) SINCE_LIMIT) [
  | inl l ↦ (let a : nat_lt (min (since + 1) SINCE_LIMIT + (n + 1 - 1)) SINCE_LIMIT ≡ true = grind (arith, nat_tests) in let b : nat_lt (since + (suc n + 1 - 1)) SINCE_LIMIT ≡ true = grind (arith, nat_tests) in a ∙ sym b)
  | inr l ↦ (let a : nat_lt (min (since + 1) SINCE_LIMIT + (n + 1 - 1)) SINCE_LIMIT ≡ false = grind (arith, nat_tests) in let b : nat_lt (since + (suc n + 1 - 1)) SINCE_LIMIT ≡ false = grind (arith, nat_tests) in a ∙ sym b)
]

ok_more : (n : ℕ) (s : CycleCount) (x : Activity) (new : Bool) → cycle_ok_run (n + 1) (cycle_worked s new) x false ≡ cycle_ok_run (suc n + 1) s x new
ok_more n s x new =
    ap (λ t. cond (drives x) (t && keeps_cycle (cycle_worked_run (n + 1) (cycle_worked s new) false)) true) (since_same s.since n)
    ∙ ap (λ u. cond (drives x) (nat_lt (s.since + (suc n + 1 - 1)) SINCE_LIMIT && keeps_cycle u) true) (work_more n s new)

-- # They are the same

none_more : (o : Option CycleCount) (x : Activity) → cycle_more o x 0 ≡ o
none_more None x = refl
none_more (Some s) x = refl

one_since : (s : CycleCount) (x : Activity) (new : Bool) → cycle_ok s x new ≡ cycle_ok_run 1 s x new
one_since s x new = ap (λ n. cond (drives x) (nat_lt n SINCE_LIMIT && keeps_cycle (cycle_worked s new)) true) (let z : s.since ≡ s.since + (1 - 1) = omega arith in z)

rests_at_once : (x : Activity) → rests x ≡ true → (n : ℕ) (s : CycleCount) (new : Bool) → cycle_more (Some (cycle_rested s new)) x n ≡ Some (cycle_rested_run (n + 1) s new)
rests_at_once x r zero s new = refl
rests_at_once x r (suc n) s new =
    let t : CycleCount = cycle_rested s new in
    ap (λ o. cycle_more o x n) (cond-true (rests x) (Some (cycle_rested t false)) (cond (cycle_ok t x false) (Some (cycle_worked t false)) None) r) ∙ (rests_at_once x r n t false ∙ ap (λ u. Some u) (rest_more n s new))

works_at_once : (x : Activity) → rests x ≡ false → (n : ℕ) (s : CycleCount) (new : Bool) → cycle_more (cond (cycle_ok s x new) (Some (cycle_worked s new)) None) x n ≡ worked_at_once s x new (n + 1)
works_at_once x r zero s new = none_more (cond (cycle_ok s x new) (Some (cycle_worked s new)) None) x ∙ ap (λ b. cond b (Some (cycle_worked s new)) None) (one_since s x new)
works_at_once x r (suc n) s new =
    let t : CycleCount = cycle_worked s new in
    let one : Option CycleCount = cond (cycle_ok t x false) (Some (cycle_worked t false)) None in
    let all : Option CycleCount = Some (cycle_worked_run (suc n + 1) s new) in
    elim (cases_Bool (cycle_ok s x new)) [
      | inl k ↦
          ap (λ o. cycle_more o x (suc n)) (cond-true (cycle_ok s x new) (Some t) None k)
          ∙ (ap (λ o. cycle_more o x n) (cond-false (rests x) (Some (cycle_rested t false)) one r)
          ∙ (works_at_once x r n t false
          ∙ (ap (λ b. cond b (Some (cycle_worked_run (n + 1) t false)) None) (ok_more n s x new) ∙ ap (λ u. cond (cycle_ok_run (suc n + 1) s x new) (Some u) None) (work_more n s new))))
      | inr k ↦
          ap (λ o. cycle_more o x (suc n)) (cond-false (cycle_ok s x new) (Some t) None k)
          ∙ sym (cond-false (cycle_ok_run (suc n + 1) s x new) all None (elim (cases_Bool (cycle_ok_run (suc n + 1) s x new)) [
            | inl g ↦ absurd (let z : true ≡ false = sym (ok_less n s x new g) ∙ k in cc)
            | inr g ↦ g
          ]))
    ]

all_at_once : (n : ℕ) (s : CycleCount) (x : Activity) (new : Bool) → cycle_more (cycle_after s x new) x n ≡ cycle_at_once s x new (n + 1)
all_at_once n s x new =
    let one : Option CycleCount = cond (cycle_ok s x new) (Some (cycle_worked s new)) None in
    elim (cases_Bool (rests x)) [
      | inl r ↦
          ap (λ o. cycle_more o x n) (cond-true (rests x) (Some (cycle_rested s new)) one r)
          ∙ (rests_at_once x r n s new ∙ sym (cond-true (rests x) (Some (cycle_rested_run (n + 1) s new)) (worked_at_once s x new (n + 1)) r))
      | inr r ↦
          ap (λ o. cycle_more o x n) (cond-false (rests x) (Some (cycle_rested s new)) one r)
          ∙ (works_at_once x r n s new ∙ sym (cond-false (rests x) (Some (cycle_rested_run (n + 1) s new)) (worked_at_once s x new (n + 1)) r))
    ]

-- Many minutes at once are what they are one by one.
pub cycle_run_at_once : (s : CycleCount) (x : Activity) (new : Bool) (n : ℕ) → 1 ≤ n → cycle_at_once s x new n ≡ cycle_run s x new n
cycle_run_at_once s x new zero l = absurd (omega arith)
cycle_run_at_once s x new (suc n) l =
    ap (cycle_at_once s x new) (let z : suc n ≡ n + 1 = omega arith in z) ∙ (sym (all_at_once n s x new) ∙ ap (cycle_more (cycle_after s x new) x) (let z : n ≡ suc n - 1 = omega arith in z))

-- and one minute is one
pub cycle_run_one : (s : CycleCount) (x : Activity) (new : Bool) → cycle_run s x new 1 ≡ cycle_after s x new
cycle_run_one s x new = none_more (cycle_after s x new) x
