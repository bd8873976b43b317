-- Counts of split rests are written as their numbers, and read back from just these.
use Rattle.std.proofs.Common.{◌≡◌, ℕ, ◌+◌, ◌<◌, ◌≤◌, Bool, true, false, List, ◌∷◌, ◌++◌, [], length, drop, refl, sym, ◌∙◌, ap, arith, inl, inr, zero, suc}
use Rattle.std.specs.Prelude.{Option, None, Some, nat_eq, nat_le, not, ◌&&◌, ◌||◌, if◌then◌else◌, All}
use Rattle.std.specs.Bool.{Decides, then_some}
use Rattle.std.proofs.lemmas.Bool.{cases_Bool}
use Rattle.std.proofs.lemmas.Bool.Decides.{nat_tests, Decides-like, Decides-and}
use Rattle.std.proofs.lemmas.List.Elements.{All-from_recursion}
use Rattle.duty_core.specs.declared.limits.TheConstants.{COUNT_LIMIT}
use Rattle.sleeper_split.specs.declared.rule.SplitRule.{SplitRule}
use Rattle.sleeper_split.specs.declared.count.Used.{Used}
use Rattle.sleeper_split.specs.declared.count.OpenRun.{OpenRun}
use Rattle.sleeper_split.specs.declared.count.WaitingRest.{WaitingRest}
use Rattle.sleeper_split.specs.declared.count.SplitCount.{SplitCount}
use Rattle.sleeper_split.specs.Machine.{IsUsed, IsOpenRun, IsWithin, IsWaitingRest, IsSplitCount, made}
use Rattle.sleeper_split.specs.Covers.{IsCountOf, WaitsWell, is_within, waits_none}
use Rattle.sleeper_split.specs.Numbers.{waiting_long, waiting_berth, waiting_of, split_numbers, item, split_of, is_used, is_open_run, is_waiting_rest, same_used, is_split_count, waits_well, is_count}

-- # Tests of numbers, and values that a test lets through

pub le_decides : (a b : ℕ) → Decides (nat_le a b) (a ≤ b)
le_decides a b = ((λ h. grind (arith, nat_tests)), (λ h. grind (arith, nat_tests)))

pub eq_decides : (a b : ℕ) → Decides (nat_eq a b) (a ≡ b)
eq_decides a b = ((λ h. grind (arith, nat_tests)), (λ h. grind (arith, nat_tests)))

less_decides : (a b : ℕ) → Decides (nat_le a b && not (nat_eq a b)) (a < b)
less_decides a b = ((λ h. grind (arith, nat_tests)), (λ h. grind (arith, nat_tests)))

-- a test decides that it is passed
pub same_decides : (a : Bool) → Decides a (a ≡ true)
same_decides a = ((λ e. e), (λ e. e))

true_decides : Decides true (Unit {0})
true_decides = ((λ e. tt), (λ u. refl))

-- what a test lets through is that value, and it passed the test
pub let_through : {A : Type 0} (b : Bool) (s t : A) → (if b then Some s else None) ≡ Some t → (b ≡ true) × (s ≡ t)
let_through true s t e = (refl, let z : s ≡ t = cc in z)
let_through false s t e = absurd (let z : None ≡ Some t = e in cc)

-- where a test lets nothing through, it was not passed
pub held_back : {A : Type 0} (b : Bool) (s : A) → (if b then Some s else None) ≡ None → b ≡ false
held_back true s e = absurd (let z : Some s ≡ None = e in cc)
held_back false s e = refl

-- the code's choice is that of the definitions
pub then_if : {A : Type 0} (b : Bool) (s : A) → then_some b s ≡ (if b then Some s else None)
then_if true s = refl
then_if false s = refl

-- # The test of counts

used_decides : (u : Used) → Decides (is_used u) (IsUsed u)
used_decides u = Decides-like (is_used u) (λ p. record { works = p.0; bounded_duty = p.1.0; bounded = p.1.1 }) (λ r. (r.works, (r.bounded_duty, r.bounded)))
    (Decides-and (nat_le u.driving u.duty) (nat_le u.duty COUNT_LIMIT && nat_le u.elapsed COUNT_LIMIT) (le_decides u.driving u.duty)
    (Decides-and (nat_le u.duty COUNT_LIMIT) (nat_le u.elapsed COUNT_LIMIT) (le_decides u.duty COUNT_LIMIT) (le_decides u.elapsed COUNT_LIMIT)))

run_decides : (r : OpenRun) → Decides (is_open_run r) (IsOpenRun r)
run_decides r = Decides-like (is_open_run r) (λ p. record { ends = p.0; inside = p.1.0; bounded = p.1.1 }) (λ q. (q.ends, (q.inside, q.bounded)))
    (Decides-and (nat_le r.stretch r.longest) (nat_le r.longest r.long && nat_le r.long COUNT_LIMIT) (le_decides r.stretch r.longest)
    (Decides-and (nat_le r.longest r.long) (nat_le r.long COUNT_LIMIT) (le_decides r.longest r.long) (le_decides r.long COUNT_LIMIT)))

within_decides : (u v : Used) → Decides (is_within u v) (IsWithin u v)
within_decides u v = Decides-like (is_within u v) (λ p. record { less_driving = p.0; less_duty = p.1.0; less_elapsed = p.1.1 }) (λ r. (r.less_driving, (r.less_duty, r.less_elapsed)))
    (Decides-and (nat_le u.driving v.driving) (nat_le u.duty v.duty && nat_le u.elapsed v.elapsed) (le_decides u.driving v.driving)
    (Decides-and (nat_le u.duty v.duty) (nat_le u.elapsed v.elapsed) (le_decides u.duty v.duty) (le_decides u.elapsed v.elapsed)))

waiting_decides : (w : Option WaitingRest) → Decides (is_waiting_rest w) (IsWaitingRest w)
waiting_decides None = true_decides
waiting_decides (Some w) = Decides-and (nat_le w.berth w.long) (nat_le w.long COUNT_LIMIT) (le_decides w.berth w.long) (le_decides w.long COUNT_LIMIT)

well_decides : (rule : SplitRule) (may : Bool) (w : Option WaitingRest) → Decides (waits_well rule may w) (WaitsWell rule may w)
well_decides rule may None = true_decides
well_decides rule may (Some w) = Decides-like (may && (nat_le rule.least w.long && (nat_le w.long rule.full && not (nat_eq w.long rule.full)))) (λ p. (p.0, p.1.0, p.1.1)) (λ r. (r.0, (r.1, r.2)))
    (Decides-and may (nat_le rule.least w.long && (nat_le w.long rule.full && not (nat_eq w.long rule.full))) (same_decides may)
    (Decides-and (nat_le rule.least w.long) (nat_le w.long rule.full && not (nat_eq w.long rule.full)) (le_decides rule.least w.long) (less_decides w.long rule.full)))

abbrev used_made : ℕ → ℕ → ℕ → Used
used_made driving duty elapsed = record { driving = driving; duty = duty; elapsed = elapsed }

used_is : (u v : Used) → (u.driving ≡ v.driving) × (u.duty ≡ v.duty) × (u.elapsed ≡ v.elapsed) → u ≡ v
used_is u v p = ap (λ n. used_made n u.duty u.elapsed) p.0 ∙ (ap (λ n. used_made v.driving n u.elapsed) p.1 ∙ ap (λ n. used_made v.driving v.duty n) p.2)

same_used_decides : (u v : Used) → Decides (same_used u v) (u ≡ v)
same_used_decides u v = Decides-like (same_used u v) (λ p. used_is u v (p.0, p.1.0, p.1.1)) (λ e. (ap (λ w. w.driving) e, (ap (λ w. w.duty) e, ap (λ w. w.elapsed) e)))
    (Decides-and (nat_eq u.driving v.driving) (nat_eq u.duty v.duty && nat_eq u.elapsed v.elapsed) (eq_decides u.driving v.driving)
    (Decides-and (nat_eq u.duty v.duty) (nat_eq u.elapsed v.elapsed) (eq_decides u.duty v.duty) (eq_decides u.elapsed v.elapsed)))

alone_decides : (w : Option WaitingRest) (u v : Used) → Decides (not (waits_none w) || same_used u v) (w ≡ None → u ≡ v)
alone_decides None u v = Decides-like (same_used u v) (λ e n. e) (λ f. f refl) (same_used_decides u v)
alone_decides (Some w) u v = ((λ e n. absurd (let z : Some w ≡ None = n in cc)), (λ f. refl))

split_decides : (s : SplitCount) → Decides (is_split_count s) (IsSplitCount s)
split_decides s =
    let alone : Bool = not (waits_none s.waiting) || same_used s.base s.last in
    Decides-like (is_split_count s)
    (λ p. record { is_run = p.0; is_base = p.1.0; is_last = p.1.1.0; later = p.1.1.1.0; thereafter = p.1.1.1.1.0; is_waiting = p.1.1.1.1.1.0; alone = p.1.1.1.1.1.1 })
    (λ r. (r.is_run, (r.is_base, (r.is_last, (r.later, (r.thereafter, (r.is_waiting, r.alone)))))))
    (Decides-and (is_open_run s.run) (is_used s.base && (is_used s.last && (is_within s.last s.base && (nat_le s.run.long s.last.elapsed && (is_waiting_rest s.waiting && alone))))) (run_decides s.run)
    (Decides-and (is_used s.base) (is_used s.last && (is_within s.last s.base && (nat_le s.run.long s.last.elapsed && (is_waiting_rest s.waiting && alone)))) (used_decides s.base)
    (Decides-and (is_used s.last) (is_within s.last s.base && (nat_le s.run.long s.last.elapsed && (is_waiting_rest s.waiting && alone))) (used_decides s.last)
    (Decides-and (is_within s.last s.base) (nat_le s.run.long s.last.elapsed && (is_waiting_rest s.waiting && alone)) (within_decides s.last s.base)
    (Decides-and (nat_le s.run.long s.last.elapsed) (is_waiting_rest s.waiting && alone) (le_decides s.run.long s.last.elapsed)
    (Decides-and (is_waiting_rest s.waiting) alone (waiting_decides s.waiting) (alone_decides s.waiting s.base s.last)))))))

-- the test decides what counts of the rule are
pub count_decides : (rule : SplitRule) (may : Bool) (s : SplitCount) → Decides (is_count rule may s) (IsCountOf rule may s)
count_decides rule may s = Decides-like (is_count rule may s) (λ p. record { is_count = p.0; waits = p.1 }) (λ r. (r.is_count, r.waits)) (Decides-and (is_split_count s) (waits_well rule may s.waiting) (split_decides s) (well_decides rule may s.waiting))

-- # Numbers of counts

waiting_again : (rule : SplitRule) (may : Bool) (w : Option WaitingRest) → 0 < rule.least → WaitsWell rule may w → waiting_of (waiting_long w) (waiting_berth w) ≡ w
waiting_again rule may None some h = refl
waiting_again rule may (Some w) some h =
    let l = h.1 in
    let e : (nat_eq w.long 0 && nat_eq w.berth 0) ≡ false = grind (arith, nat_tests) in
    rw e refl

-- counts are read back from their numbers, whatever comes after these
pub split_again : (rule : SplitRule) (may : Bool) (s : SplitCount) (xs : List ℕ) → 0 < rule.least → WaitsWell rule may s.waiting → split_of (split_numbers s ++ xs) ≡ s
split_again rule may s xs some h = ap (λ w. made s.run s.base s.last w) (waiting_again rule may s.waiting some h)

waiting_told : (long berth : ℕ) → (waiting_long (waiting_of long berth) ≡ long) × (waiting_berth (waiting_of long berth) ≡ berth)
waiting_told long berth = elim (cases_Bool (nat_eq long 0 && nat_eq berth 0)) [
  | inr e ↦ (rw e refl, rw e refl)
  | inl e ↦
      let l : long ≡ 0 = grind (arith, nat_tests) in
      let b : berth ≡ 0 = grind (arith, nat_tests) in
      (rw e (sym l), rw e (sym b))
]

-- a list from a place on
from_item : (n : ℕ) (ns : List ℕ) → n < length ns → drop n ns ≡ item ns n ∷ drop (suc n) ns
from_item n [] l = absurd (omega arith)
from_item zero (x ∷ xs) l = refl
from_item (suc n) (x ∷ xs) l = from_item n xs (omega arith)

-- k items of a list from a place on, and the rest
abbrev pub fronts : ℕ → ℕ → List ℕ → List ℕ
fronts n zero ns = drop n ns
fronts n (suc k) ns = item ns n ∷ fronts (suc n) k ns

pub fronts_are : (k n : ℕ) (ns : List ℕ) → n + k ≤ length ns → fronts n k ns ≡ drop n ns
fronts_are zero n ns l = refl
fronts_are (suc k) n ns l = ap (λ (xs : List ℕ). item ns n ∷ xs) (fronts_are k (suc n) ns (omega arith)) ∙ sym (from_item n ns (omega arith))

-- numbers are those of the counts that are read from them
pub split_told : (ns : List ℕ) → 11 ≤ length ns → split_numbers (split_of ns) ++ drop 11 ns ≡ ns
split_told ns l =
    let w = waiting_told (item ns 9) (item ns 10) in
    let front = λ (a b : ℕ). item ns 0 ∷ item ns 1 ∷ item ns 2 ∷ item ns 3 ∷ item ns 4 ∷ item ns 5 ∷ item ns 6 ∷ item ns 7 ∷ item ns 8 ∷ a ∷ b ∷ drop 11 ns in
    ap (λ a. front a (waiting_berth (waiting_of (item ns 9) (item ns 10)))) w.0 ∙ (ap (λ b. front (item ns 9) b) w.1 ∙ fronts_are 11 0 ns l)

small_waiting : (w : Option WaitingRest) → IsWaitingRest w → (waiting_long w ≤ COUNT_LIMIT) × (waiting_berth w ≤ COUNT_LIMIT)
small_waiting None h = (omega arith, omega arith)
small_waiting (Some w) h = let a = h.0 in let b = h.1 in (omega arith, omega arith)

-- no number of counts is more than the greatest count
pub split_small : (s : SplitCount) → IsSplitCount s → All (λ n. n ≤ COUNT_LIMIT) (split_numbers s)
split_small s c =
    let run = c.is_run in let b = c.is_base in let l = c.is_last in
    let r1 = run.ends in let r2 = run.inside in let r3 = run.bounded in
    let b1 = b.works in let b2 = b.bounded_duty in let b3 = b.bounded in
    let l1 = l.works in let l2 = l.bounded_duty in let l3 = l.bounded in
    let w = small_waiting s.waiting c.is_waiting in
    All-from_recursion (λ n. n ≤ COUNT_LIMIT) (split_numbers s) (omega arith, (omega arith, (omega arith, (omega arith, (omega arith, (omega arith, (omega arith, (omega arith, (omega arith, (w.0, (w.1, tt)))))))))))
