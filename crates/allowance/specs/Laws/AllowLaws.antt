-- What holds of each call: the units to come, seen before it and after it.
use Rattle.std.proofs.Common.{◌≡◌, ◌↔◌, ℕ, zero, suc, ◌+◌, ◌-◌, ◌<◌, ◌≤◌, Bool, true, false, not, ◌&&◌, cond, List, [], ◌∷◌, ◌++◌, take, get_or, refl, sym, ◌∙◌, ap, subst, arith, inl, inr}
use Rattle.std.specs.Prelude.{min, map, filter, replicate, All, nat_lt, nat_le, nat_eq}
use Rattle.std.specs.List.{list_all, list_any}
use Rattle.std.proofs.lemmas.Bool.{cases_lt, and_parts, and_from, or_cases, not-false}
use Rattle.std.proofs.lemmas.Bool.Decides.{nat_tests}
use Rattle.std.proofs.lemmas.List.{length-take, length-replicate, get_or-append-add}
use Rattle.std.proofs.lemmas.List.Sums.{sum_by-cons, count_by-le-length}
use Rattle.std.proofs.lemmas.List.Elements.{All-nil, All-cons, All-head, All-tail, All-push, All-map, All-filter}
use Rattle.duty_core.specs.declared.activity.Activity.{Activity}
use Rattle.duty_core.specs.declared.activity.Activity.TheVariants.{Drive, Serve, Wait, Off, Berth}
use Rattle.duty_core.specs.Activity.{rests, works}
use Rattle.duty_core.specs.History.{unit_at}
use Rattle.duty_core.specs.Laws.HistoryLaws.{unit_at-append, unit_at-replicate}
use Rattle.duty_core.specs.Counting.{duty}
use Rattle.allowance.specs.declared.limit.Limit.{Limit}
use Rattle.allowance.specs.declared.limit.Need.{Need}
use Rattle.allowance.specs.declared.limit.TheConstants.{RUN_LIMIT}
use Rattle.allowance.specs.Allow.{Held, KeepsLimit, MeetsNeed, Allows, IsOpenLimit, IsOpenNeed, IsHeld, spent_limit, passed_limit, passed_need, is_open, waits, may_spend, spent, one_more, passed, implies, added_limits, added, gives, needed_needs, needed, settled, is_open_need, is_held}

-- # Lists

pub all_map : {X Y : Type 0} (P R : X → Type 0) (Q : Y → Type 0) (f : X → Y) → ((x : X) → R x → P x ↔ Q (f x)) → (xs : List X) → All R xs → All P xs ↔ All Q (map f xs)
all_map P R Q f h [] r = (λ a. All-nil Q, λ a. All-nil P)
all_map P R Q f h (x ∷ xs) r =
    let e = h x (All-head R x xs r) in
    let q = all_map P R Q f h xs (All-tail R x xs r) in (
      (λ a. All-cons Q (f x) (map f xs) (e.0 (All-head P x xs a)) (q.0 (All-tail P x xs a))),
      (λ a. All-cons P x xs (e.1 (All-head Q (f x) (map f xs) a)) (q.1 (All-tail Q (f x) (map f xs) a))),
    )

-- what doesn't pass holds of itself
pub all_filter : {X : Type 0} (P : X → Type 0) (p : X → Bool) → ((x : X) → p x ≡ false → P x) → (xs : List X) → All P xs ↔ All P (filter p xs)
all_filter P p h [] = (λ a. a, λ a. a)
all_filter P p h (x ∷ xs) =
    let q = all_filter P p h xs in
    elim (p x) as (λ b. p x ≡ b → All P (x ∷ xs) ↔ All P (cond b (x ∷ filter p xs) (filter p xs))) [
      | true ↦ λ e. (
        (λ a. All-cons P x (filter p xs) (All-head P x xs a) (q.0 (All-tail P x xs a))),
        (λ a. All-cons P x xs (All-head P x (filter p xs) a) (q.1 (All-tail P x (filter p xs) a))),
      )
      | false ↦ λ e. ((λ a. q.0 (All-tail P x xs a)), (λ a. All-cons P x xs (h x e) (q.1 a)))
    ] refl

-- is_open

-- one unit of the next n
counted_more : (x : Activity) (xs : List Activity) (n : ℕ) (b : Bool) → works x ≡ b → 0 < n → duty (x ∷ xs) 0 n ≡ cond b 1 0 + duty xs 0 (n - 1)
counted_more x xs zero b w l = absurd (omega arith)
counted_more x xs (suc n) b w l =
    let e : suc n - 1 ≡ n = omega arith in
    sum_by-cons (λ y. cond (works y) 1 0) x (take n xs) ∙ (ap (λ c. cond c 1 0 + duty xs 0 n) w ∙ ap (λ m. cond b 1 0 + duty xs 0 m) (sym e))

pub keeps_duty : (x : Activity) (xs : List Activity) (p : Limit) → works x ≡ true → IsOpenLimit p → KeepsLimit (x ∷ xs) p ↔ ((0 < p.duty) × KeepsLimit xs (spent_limit p))
keeps_duty x xs p w o =
    let more : duty (x ∷ xs) 0 p.units ≡ 1 + duty xs 0 (p.units - 1) = counted_more x xs p.units true w (omega arith) in
    ((λ k. (omega arith, omega arith)), (λ k. let a = k.0 in let b = k.1 in omega arith))

pub keeps_rest : (x : Activity) (xs : List Activity) (p : Limit) → works x ≡ false → IsOpenLimit p → KeepsLimit (x ∷ xs) p ↔ KeepsLimit xs (passed_limit p)
keeps_rest x xs p w o =
    let more : duty (x ∷ xs) 0 p.units ≡ 0 + duty xs 0 (p.units - 1) = counted_more x xs p.units false w (omega arith) in
    ((λ k. omega arith), (λ k. omega arith))

-- a limit that doesn't limit
pub keeps_closed : (xs : List Activity) (p : Limit) → p.units ≤ p.duty → KeepsLimit xs p
keeps_closed xs p l = let a = count_by-le-length works (take p.units xs) in let b = length-take p.units xs in omega arith

-- needs

pub rests-works : (x : Activity) (b : Bool) → works x ≡ b → rests x ≡ not b
rests-works Drive b w = ap not w
rests-works Serve b w = ap not w
rests-works Wait b w = ap not w
rests-works Off b w = ap not w
rests-works Berth b w = ap not w

rested_on : (x : Activity) (xs : List Activity) (e n : ℕ) → rests x ≡ true → ((k : ℕ) → k < e → e ≤ k + n → rests (unit_at xs k) ≡ true) → (k : ℕ) → k < e + 1 → e + 1 ≤ k + n → rests (unit_at (x ∷ xs) k) ≡ true
rested_on x xs e n r h zero a b = r
rested_on x xs e n r h (suc k) a b = h k (omega arith) (omega arith)

rested_far : (x : Activity) (xs : List Activity) (e n : ℕ) → n ≤ e → ((k : ℕ) → k < e → e ≤ k + n → rests (unit_at xs k) ≡ true) → (k : ℕ) → k < e + 1 → e + 1 ≤ k + n → rests (unit_at (x ∷ xs) k) ≡ true
rested_far x xs e n l h zero a b = absurd (omega arith)
rested_far x xs e n l h (suc k) a b = h k (omega arith) (omega arith)

-- The need, seen from the next unit: the stretch ends `end` units from there.
pub record MeetsAhead (run : ℕ) (future : List Activity) (need : Need) : Type 0 where
  pub end : ℕ
  pub within : end ≤ need.units
  pub long : need.rest ≤ run + end
  pub rested : (k : ℕ) → k < end → end ≤ k + need.rest → rests (unit_at future k) ≡ true

-- a unit of the run in progress, and one after it
run_unit : (run : ℕ) (xs : List Activity) (k : ℕ) → k < run → rests (unit_at (replicate run Off ++ xs) k) ≡ true
run_unit run xs k l = ap rests (unit_at-append (replicate run Off) xs k (omega (arith, length-replicate run Off)) ∙ unit_at-replicate run k)

after_run : (run : ℕ) (xs : List Activity) (k : ℕ) → unit_at (replicate run Off ++ xs) (run + k) ≡ unit_at xs k
after_run run xs k = ap (λ n. unit_at (replicate run Off ++ xs) (n + k)) (sym (length-replicate run Off)) ∙ get_or-append-add (replicate run Off) xs k Off

pub meets_ahead : (run : ℕ) (xs : List Activity) (n : Need) → MeetsNeed run xs n ↔ MeetsAhead run xs n
meets_ahead run xs n = (
  (λ h. let l = h.before in record {
    end = h.at + n.rest - run;
    within = omega arith;
    long = omega arith;
    rested = λ k a b. sym (ap rests (after_run run xs k)) ∙ h.rest (run + k) (omega arith) (omega arith);
  }),
  (λ h. let w = h.within in let l = h.long in record {
    at = run + h.end - n.rest;
    after = omega arith;
    before = omega arith;
    rest = λ k a b. elim (cases_lt k run) [
      | inl lt ↦ run_unit run xs k lt
      | inr ge ↦
          let same : run + (k - run) ≡ k = omega arith in
          ap (λ i. rests (unit_at (replicate run Off ++ xs) i)) (sym same) ∙ (ap rests (after_run run xs (k - run)) ∙ h.rested (k - run) (omega arith) (omega arith))
    ];
  }),
)

ahead_rest : (x : Activity) (xs : List Activity) (run : ℕ) (n : Need) → works x ≡ false → IsOpenNeed run n → MeetsAhead run (x ∷ xs) n ↔ MeetsAhead (run + 1) xs (passed_need n)
ahead_rest x xs run n w o =
    let a = o.waits in
    let b = o.can in (
      (λ m. let l = m.long in let i = m.within in record {
        end = m.end - 1;
        within = omega arith;
        long = omega arith;
        rested = λ k c d. m.rested (suc k) (omega arith) (omega arith);
      }),
      (λ m. let l = m.long in let i = m.within in record {
        end = m.end + 1;
        within = omega arith;
        long = omega arith;
        rested = λ k c d. rested_on x xs m.end n.rest (rests-works x false w) m.rested k c d;
      }),
    )

ahead_duty : (x : Activity) (xs : List Activity) (run : ℕ) (n : Need) → works x ≡ true → IsOpenNeed run n → MeetsAhead run (x ∷ xs) n ↔ ((n.rest < n.units) × MeetsAhead 0 xs (passed_need n))
ahead_duty x xs run n w o =
    let a = o.waits in
    let b = o.can in (
      (λ m. let l = m.long in let i = m.within in
          let far : n.rest < m.end = elim (cases_lt n.rest m.end) [
            | inl lt ↦ lt
            | inr le ↦ absurd (let e : false ≡ true = sym (rests-works x true w) ∙ m.rested zero (omega arith) (omega arith) in cc)
          ] in (
            omega arith,
            record {
              end = m.end - 1;
              within = omega arith;
              long = omega arith;
              rested = λ k c d. m.rested (suc k) (omega arith) (omega arith);
            },
          )),
      (λ h. let p = h.0 in let m = h.1 in let l = m.long in let i = m.within in record {
        end = m.end + 1;
        within = omega arith;
        long = omega arith;
        rested = λ k c d. rested_far x xs m.end n.rest (omega arith) m.rested k c d;
      }),
    )

pub run_one_more : (run : ℕ) (n : Need) → IsOpenNeed run n → one_more run ≡ run + 1
run_one_more run n o = let a = o.waits in let b = o.fits in omega arith

pub meets_rest : (x : Activity) (xs : List Activity) (run : ℕ) (n : Need) → works x ≡ false → IsOpenNeed run n → MeetsNeed run (x ∷ xs) n ↔ MeetsNeed (one_more run) xs (passed_need n)
meets_rest x xs run n w o =
    let a = meets_ahead run (x ∷ xs) n in
    let b = ahead_rest x xs run n w o in
    let c = meets_ahead (run + 1) xs (passed_need n) in
    subst (λ r. MeetsNeed run (x ∷ xs) n ↔ MeetsNeed r xs (passed_need n)) (sym (run_one_more run n o)) ((λ m. c.1 (b.0 (a.0 m))), (λ m. a.1 (b.1 (c.0 m))))

pub meets_duty : (x : Activity) (xs : List Activity) (run : ℕ) (n : Need) → works x ≡ true → IsOpenNeed run n → MeetsNeed run (x ∷ xs) n ↔ ((n.rest < n.units) × MeetsNeed 0 xs (passed_need n))
meets_duty x xs run n w o =
    let a = meets_ahead run (x ∷ xs) n in
    let b = ahead_duty x xs run n w o in
    let c = meets_ahead 0 xs (passed_need n) in
    ((λ m. let d = b.0 (a.0 m) in (d.0, c.1 d.1)), (λ m. a.1 (b.1 (m.0, c.0 m.1))))

-- lists, with a test

all_map_test : {X Y : Type 0} (P R : X → Type 0) (Q : Y → Type 0) (f : X → Y) (test : X → Bool) → ((x : X) → R x → P x ↔ ((test x ≡ true) × Q (f x))) → (xs : List X) → All R xs → All P xs ↔ ((list_all test xs ≡ true) × All Q (map f xs))
all_map_test P R Q f test h [] r = ((λ a. (refl, All-nil Q)), (λ a. All-nil P))
all_map_test P R Q f test h (x ∷ xs) r =
    let e = h x (All-head R x xs r) in
    let q = all_map_test P R Q f test h xs (All-tail R x xs r) in (
      (λ a. let y = e.0 (All-head P x xs a) in let z = q.0 (All-tail P x xs a) in (and_from (test x) (list_all test xs) y.0 z.0, All-cons Q (f x) (map f xs) y.1 z.1)),
      (λ a. let b = and_parts (test x) (list_all test xs) a.0 in All-cons P x xs (e.1 (b.0, All-head Q (f x) (map f xs) a.1)) (q.1 (b.1, All-tail Q (f x) (map f xs) a.1))),
    )

all_map_to : {X Y : Type 0} (R : X → Type 0) (Q : Y → Type 0) (f : X → Y) (test : X → Bool) → ((x : X) → R x → test x ≡ true → Q (f x)) → (xs : List X) → All R xs → list_all test xs ≡ true → All Q (map f xs)
all_map_to R Q f test h [] r e = All-nil Q
all_map_to R Q f test h (x ∷ xs) r e =
    let b = and_parts (test x) (list_all test xs) e in
    All-cons Q (f x) (map f xs) (h x (All-head R x xs r) b.0) (all_map_to R Q f test h xs (All-tail R x xs r) b.1)

all_filter_to : {X : Type 0} (R Q : X → Type 0) (p : X → Bool) → ((x : X) → R x → p x ≡ true → Q x) → (xs : List X) → All R xs → All Q (filter p xs)
all_filter_to R Q p h [] r = All-nil Q
all_filter_to R Q p h (x ∷ xs) r =
    let q = all_filter_to R Q p h xs (All-tail R x xs r) in
    elim (p x) as (λ b. p x ≡ b → All Q (cond b (x ∷ filter p xs) (filter p xs))) [
      | true ↦ λ e. All-cons Q x (filter p xs) (h x (All-head R x xs r) e) q
      | false ↦ λ e. q
    ] refl

positive_test : (x : Activity) (xs : List Activity) (q : Limit) → works x ≡ true → IsOpenLimit q → KeepsLimit (x ∷ xs) q ↔ ((nat_lt 0 q.duty ≡ true) × KeepsLimit xs (spent_limit q))
positive_test x xs q w o =
    let k = keeps_duty x xs q w o in
    ((λ a. let b = k.0 a in let l = b.0 in (grind (arith, nat_tests), b.1)), (λ a. k.1 (let t = a.0 in grind (arith, nat_tests), a.1)))

possible_test : (x : Activity) (xs : List Activity) (run : ℕ) (m : Need) → works x ≡ true → IsOpenNeed run m → MeetsNeed run (x ∷ xs) m ↔ ((nat_lt m.rest m.units ≡ true) × MeetsNeed 0 xs (passed_need m))
possible_test x xs run m w o =
    let k = meets_duty x xs run m w o in
    ((λ a. let b = k.0 a in let l = b.0 in (grind (arith, nat_tests), b.1)), (λ a. k.1 (let t = a.0 in grind (arith, nat_tests), a.1)))

meets_met : (xs : List Activity) (run : ℕ) (m : Need) → m.rest ≤ run → MeetsNeed run xs m
meets_met xs run m l = (meets_ahead run xs m).1 (record { end = 0; within = omega arith; long = omega arith; rested = λ k a b. absurd (omega arith) })

keeps_none : (q : Limit) → KeepsLimit [] q
keeps_none q = let a = count_by-le-length works (take q.units []) in let b = length-take q.units (let e : List Activity = [] in e) in omega arith

-- the next n hold at most so many more than the next m
duty_more : (xs : List Activity) (m n : ℕ) → duty xs 0 n ≤ duty xs 0 m + (n - m)
duty_more [] m n = let a = keeps_none (record { units = n; duty = 0 }) in omega arith
duty_more (x ∷ xs) m zero = omega arith
duty_more (x ∷ xs) zero (suc n) = let a = count_by-le-length works (take (suc n) (x ∷ xs)) in let b = length-take (suc n) (x ∷ xs) in omega arith
duty_more (x ∷ xs) (suc m) (suc n) =
    let h = duty_more xs m n in
    let a = sum_by-cons (λ y. cond (works y) 1 0) x (take n xs) in
    let b = sum_by-cons (λ y. cond (works y) 1 0) x (take m xs) in
    omega arith

all_to : {X : Type 0} (R Q : X → Type 0) → ((x : X) → R x → Q x) → (xs : List X) → All R xs → All Q xs
all_to R Q h xs r = λ k d l. h (get_or xs k d) (r k d l)

all_map_both : {X Y : Type 0} (R : X → Type 0) (Q : Y → Type 0) (f : X → Y) → ((x : X) → R x → Q (f x)) → (xs : List X) → All R xs → All Q (map f xs)
all_map_both R Q f h xs r = All-map Q f xs (all_to R (λ x. Q (f x)) h xs r)

All-front : {X : Type 0} (P : X → Type 0) (xs : List X) (x : X) → All P (xs ++ x ∷ []) → All P xs
All-front P [] x a = All-nil P
All-front P (y ∷ xs) x a = All-cons P y xs (All-head P y (xs ++ x ∷ []) a) (All-front P xs x (All-tail P y (xs ++ x ∷ []) a))

All-last : {X : Type 0} (P : X → Type 0) (xs : List X) (x : X) → All P (xs ++ x ∷ []) → P x
All-last P [] x a = All-head P x [] a
All-last P (y ∷ xs) x a = All-last P xs x (All-tail P y (xs ++ x ∷ []) a)

-- the contract of allowances

pub allows_duty : (h : Held) (x : Activity) (xs : List Activity) → works x ≡ true → IsHeld h → Allows h (x ∷ xs) ↔ ((may_spend h ≡ true) × Allows (spent h) xs)
allows_duty h x xs w i =
    let p = all_map_test (KeepsLimit (x ∷ xs)) IsOpenLimit (KeepsLimit xs) spent_limit (λ q. nat_lt 0 q.duty) (λ q o. positive_test x xs q w o) h.limits i.limits in
    let n = all_map_test (MeetsNeed h.run (x ∷ xs)) (IsOpenNeed h.run) (MeetsNeed 0 xs) passed_need (λ m. nat_lt m.rest m.units) (λ m o. possible_test x xs h.run m w o) h.needs i.needs in (
      (λ a. let y = p.0 a.limits in let z = n.0 a.needs in (and_from _ _ y.0 z.0, record { limits = y.1; needs = z.1 })),
      (λ a. let b = and_parts (list_all (λ q. nat_lt 0 q.duty) h.limits) (list_all (λ m. nat_lt m.rest m.units) h.needs) a.0 in record { limits = p.1 (b.0, a.1.limits); needs = n.1 (b.1, a.1.needs) }),
    )

pub allows_rest : (h : Held) (x : Activity) (xs : List Activity) → works x ≡ false → IsHeld h → Allows h (x ∷ xs) ↔ Allows (passed h) xs
allows_rest h x xs w i =
    let p = all_map (KeepsLimit (x ∷ xs)) IsOpenLimit (KeepsLimit xs) passed_limit (λ q o. keeps_rest x xs q w o) h.limits i.limits in
    let n = all_map (MeetsNeed h.run (x ∷ xs)) (IsOpenNeed h.run) (MeetsNeed (one_more h.run) xs) passed_need (λ m o. meets_rest x xs h.run m w o) h.needs i.needs in
    let pf = all_filter (KeepsLimit xs) is_open (λ q e. keeps_closed xs q (grind (arith, nat_tests))) (map passed_limit h.limits) in
    let nf = all_filter (MeetsNeed (one_more h.run) xs) (waits (one_more h.run)) (λ m e. meets_met xs (one_more h.run) m (grind (arith, nat_tests))) (map passed_need h.needs) in (
      (λ a. record { limits = pf.0 (p.0 a.limits); needs = nf.0 (n.0 a.needs) }),
      (λ a. record { limits = p.1 (pf.1 a.limits); needs = n.1 (nf.1 a.needs) }),
    )

pub allows_none : (h : Held) → IsHeld h → Allows h []
allows_none h i = record {
  limits = all_to IsOpenLimit (KeepsLimit []) (λ q o. keeps_none q) h.limits i.limits;
  needs = all_to (IsOpenNeed h.run) (MeetsNeed h.run []) (λ m o. (meets_ahead h.run [] m).1 (record { end = m.units; within = omega arith; long = o.can; rested = λ k a b. refl })) h.needs i.needs;
}

-- one implies the other

pub implied_keeps : (xs : List Activity) (a b : Limit) → implies a b ≡ true → KeepsLimit xs a → KeepsLimit xs b
implied_keeps xs a b e k = let l : a.duty + (b.units - a.units) ≤ b.duty = grind (arith, nat_tests) in let m = duty_more xs a.units b.units in omega arith

any_keeps : (xs : List Activity) (p : Limit) (ps : List Limit) → list_any (λ q. implies q p) ps ≡ true → All (KeepsLimit xs) ps → KeepsLimit xs p
any_keeps xs p [] e a = absurd (cc)
any_keeps xs p (q ∷ ps) e a = elim (or_cases (implies q p) (list_any (λ r. implies r p) ps) e) [
  | inl y ↦ implied_keeps xs q p y (All-head (KeepsLimit xs) q ps a)
  | inr z ↦ any_keeps xs p ps z (All-tail (KeepsLimit xs) q ps a)
]

pub added_keeps : (ps : List Limit) (p : Limit) (xs : List Activity) → All (KeepsLimit xs) (added_limits ps p) ↔ (All (KeepsLimit xs) ps × KeepsLimit xs p)
added_keeps ps p xs =
    elim (is_open p) as (λ b. is_open p ≡ b → All (KeepsLimit xs) (cond b (cond (list_any (λ q. implies q p) ps) ps (filter (λ q. not (implies p q)) ps ++ p ∷ [])) ps) ↔ (All (KeepsLimit xs) ps × KeepsLimit xs p)) [
      | false ↦ λ e. ((λ a. (a, keeps_closed xs p (grind (arith, nat_tests)))), (λ a. a.0))
      | true ↦ λ e. elim (list_any (λ q. implies q p) ps) as (λ b. list_any (λ q. implies q p) ps ≡ b → All (KeepsLimit xs) (cond b ps (filter (λ q. not (implies p q)) ps ++ p ∷ [])) ↔ (All (KeepsLimit xs) ps × KeepsLimit xs p)) [
        | true ↦ λ f. ((λ a. (a, any_keeps xs p ps f a)), (λ a. a.0))
        | false ↦ λ f. (
          (λ a.
              let k : KeepsLimit xs p = All-last (KeepsLimit xs) (filter (λ q. not (implies p q)) ps) p a in (
                (all_filter (KeepsLimit xs) (λ q. not (implies p q)) (λ q g. implied_keeps xs p q (not-false (implies p q) g) k) ps).1 (All-front (KeepsLimit xs) (filter (λ q. not (implies p q)) ps) p a),
                k,
              )),
          (λ a. All-push (KeepsLimit xs) (filter (λ q. not (implies p q)) ps) p (All-filter (λ q. not (implies p q)) (KeepsLimit xs) ps a.0) a.1),
        )
      ] refl
    ] refl

pub allows_added : (h : Held) (p : Limit) (xs : List Activity) → Allows (added h p) xs ↔ (Allows h xs × KeepsLimit xs p)
allows_added h p xs =
    let k = added_keeps h.limits p xs in (
      (λ a. let b = k.0 a.limits in (record { limits = b.0; needs = a.needs }, b.1)),
      (λ a. record { limits = k.1 (a.0.limits, a.1); needs = a.0.needs }),
    )

-- a need that asks for as much rest, and no later
gives_means : (m n : Need) → gives m n ≡ true → (m.rest ≡ n.rest) × (m.units ≤ n.units)
gives_means m n e = let b = and_parts (nat_eq m.rest n.rest) (nat_le m.units n.units) e in let x = b.0 in let y = b.1 in (grind (arith, nat_tests), grind (arith, nat_tests))

given_meets : (run : ℕ) (xs : List Activity) (m n : Need) → gives m n ≡ true → MeetsNeed run xs m → MeetsNeed run xs n
given_meets run xs m n e h =
    let g = gives_means m n e in
    let a = g.0 in
    let b = g.1 in
    let l = h.before in
    record { at = h.at; after = omega arith; before = omega arith; rest = λ k c d. h.rest k c (omega arith) }

any_meets : (run : ℕ) (xs : List Activity) (n : Need) (ns : List Need) → list_any (λ m. gives m n) ns ≡ true → All (MeetsNeed run xs) ns → MeetsNeed run xs n
any_meets run xs n [] e a = absurd (cc)
any_meets run xs n (m ∷ ns) e a = elim (or_cases (gives m n) (list_any (λ r. gives r n) ns) e) [
  | inl y ↦ given_meets run xs m n y (All-head (MeetsNeed run xs) m ns a)
  | inr z ↦ any_meets run xs n ns z (All-tail (MeetsNeed run xs) m ns a)
]

pub needed_meets : (run : ℕ) (xs : List Activity) (ns : List Need) (n : Need) → All (MeetsNeed run xs) (needed_needs ns n) ↔ (All (MeetsNeed run xs) ns × MeetsNeed run xs n)
needed_meets run xs ns n = elim (list_any (λ m. gives m n) ns) as (λ b. list_any (λ m. gives m n) ns ≡ b → All (MeetsNeed run xs) (cond b ns (ns ++ n ∷ [])) ↔ (All (MeetsNeed run xs) ns × MeetsNeed run xs n)) [
  | true ↦ λ e. ((λ a. (a, any_meets run xs n ns e a)), (λ a. a.0))
  | false ↦ λ e. ((λ a. (All-front (MeetsNeed run xs) ns n a, All-last (MeetsNeed run xs) ns n a)), (λ a. All-push (MeetsNeed run xs) ns n a.0 a.1))
] refl

pub allows_needed : (h : Held) (n : Need) (xs : List Activity) → Allows (needed h n) xs ↔ (Allows h xs × MeetsNeed h.run xs n)
allows_needed h n xs =
    let k = needed_meets h.run xs h.needs n in (
      (λ a. let b = k.0 a.needs in (record { limits = a.limits; needs = b.0 }, b.1)),
      (λ a. record { limits = a.0.limits; needs = k.1 (a.0.needs, a.1) }),
    )

-- a run that is told as a shorter one, where no need waits for more
settled_run : (run longest : ℕ) (n : Need) → IsOpenNeed run n → n.rest ≤ longest → min run longest ≡ run
settled_run run longest n o l = let a = o.waits in omega arith

settled_meets : (xs : List Activity) (run longest : ℕ) (ns : List Need) → All (IsOpenNeed run) ns → All (λ n. n.rest ≤ longest) ns → All (MeetsNeed run xs) ns ↔ All (MeetsNeed (min run longest) xs) ns
settled_meets xs run longest ns i l = (
  (λ a k d b. subst (λ r. MeetsNeed r xs (get_or ns k d)) (sym (settled_run run longest (get_or ns k d) (i k d b) (l k d b))) (a k d b)),
  (λ a k d b. subst (λ r. MeetsNeed r xs (get_or ns k d)) (settled_run run longest (get_or ns k d) (i k d b) (l k d b)) (a k d b)),
)

pub allows_settled : (h : Held) (longest : ℕ) (xs : List Activity) → IsHeld h → All (λ n. n.rest ≤ longest) h.needs → Allows h xs ↔ Allows (settled h longest) xs
allows_settled h longest xs i l =
    let k = settled_meets xs h.run longest h.needs i.needs l in
    ((λ a. record { limits = a.limits; needs = k.0 a.needs }), (λ a. record { limits = a.limits; needs = k.1 a.needs }))

-- what a state keeps

pub held_spent : (h : Held) → IsHeld h → may_spend h ≡ true → IsHeld (spent h)
held_spent h i e =
    let b = and_parts (list_all (λ q. nat_lt 0 q.duty) h.limits) (list_all (λ m. nat_lt m.rest m.units) h.needs) e in
    record {
      limits = all_map_to IsOpenLimit IsOpenLimit spent_limit (λ q. nat_lt 0 q.duty) (λ q o t. let l : 0 < q.duty = grind (arith, nat_tests) in omega arith) h.limits i.limits b.0;
      needs = all_map_to (IsOpenNeed h.run) (IsOpenNeed 0) passed_need (λ m. nat_lt m.rest m.units) (λ m o t. let l : m.rest < m.units = grind (arith, nat_tests) in let a = o.waits in record { waits = omega arith; can = omega arith; fits = o.fits }) h.needs i.needs b.1;
    }

pub held_passed : (h : Held) → IsHeld h → IsHeld (passed h)
held_passed h i = record {
  limits = all_filter_to (λ q. Unit {0}) IsOpenLimit is_open (λ q o t. grind (arith, nat_tests)) (map passed_limit h.limits) (λ k d l. tt);
  needs = all_filter_to (λ m. (m.rest ≤ one_more h.run + m.units) × (m.rest ≤ RUN_LIMIT)) (IsOpenNeed (one_more h.run)) (waits (one_more h.run)) (λ m o t. record { waits = grind (arith, nat_tests); can = o.0; fits = o.1 }) (map passed_need h.needs)
      (all_map_both (IsOpenNeed h.run) (λ m. (m.rest ≤ one_more h.run + m.units) × (m.rest ≤ RUN_LIMIT)) passed_need (λ m o. let a = o.waits in let b = o.can in let c = o.fits in (omega arith, c)) h.needs i.needs);
}

pub held_added : (h : Held) (p : Limit) → IsHeld h → IsHeld (added h p)
held_added h p i = record {
  limits = elim (is_open p) as (λ b. is_open p ≡ b → All IsOpenLimit (cond b (cond (list_any (λ q. implies q p) h.limits) h.limits (filter (λ q. not (implies p q)) h.limits ++ p ∷ [])) h.limits)) [
    | false ↦ λ e. i.limits
    | true ↦ λ e. elim (list_any (λ q. implies q p) h.limits) as (λ b. All IsOpenLimit (cond b h.limits (filter (λ q. not (implies p q)) h.limits ++ p ∷ []))) [
      | true ↦ i.limits
      | false ↦ All-push IsOpenLimit (filter (λ q. not (implies p q)) h.limits) p (All-filter (λ q. not (implies p q)) IsOpenLimit h.limits i.limits) (grind (arith, nat_tests))
    ]
  ] refl;
  needs = i.needs;
}

pub held_needed : (h : Held) (n : Need) → IsHeld h → IsOpenNeed h.run n → IsHeld (needed h n)
held_needed h n i o = record {
  limits = i.limits;
  needs = elim (list_any (λ m. gives m n) h.needs) as (λ b. All (IsOpenNeed h.run) (cond b h.needs (h.needs ++ n ∷ []))) [
    | true ↦ i.needs
    | false ↦ All-push (IsOpenNeed h.run) h.needs n i.needs o
  ];
}

pub held_settled : (h : Held) (longest : ℕ) → IsHeld h → All (λ n. n.rest ≤ longest) h.needs → IsHeld (settled h longest)
held_settled h longest i l = record {
  limits = i.limits;
  needs = λ k d b. subst (λ r. IsOpenNeed r (get_or h.needs k d)) (sym (settled_run h.run longest (get_or h.needs k d) (i.needs k d b) (l k d b))) (i.needs k d b);
}

-- # The test of what is held

all_test : {X : Type 0} (P : X → Type 0) (test : X → Bool) → ((x : X) → P x → test x ≡ true) → (xs : List X) → All P xs → list_all test xs ≡ true
all_test P test h [] a = refl
all_test P test h (x ∷ xs) a = and_from (test x) (list_all test xs) (h x (All-head P x xs a)) (all_test P test h xs (All-tail P x xs a))

test_all : {X : Type 0} (P : X → Type 0) (test : X → Bool) → ((x : X) → test x ≡ true → P x) → (xs : List X) → list_all test xs ≡ true → All P xs
test_all P test h [] e = All-nil P
test_all P test h (x ∷ xs) e =
    let b = and_parts (test x) (list_all test xs) e in
    All-cons P x xs (h x b.0) (test_all P test h xs b.1)

open_need_test : (run : ℕ) (n : Need) → IsOpenNeed run n → is_open_need run n ≡ true
open_need_test run n o =
    let a = o.waits in
    let b = o.can in
    let c = o.fits in
    and_from (nat_lt run n.rest && nat_le n.rest (run + n.units)) (nat_le n.rest RUN_LIMIT) (and_from (nat_lt run n.rest) (nat_le n.rest (run + n.units)) (grind (arith, nat_tests)) (grind (arith, nat_tests))) (grind (arith, nat_tests))

open_need_from : (run : ℕ) (n : Need) → is_open_need run n ≡ true → IsOpenNeed run n
open_need_from run n e =
    let c = and_parts (nat_lt run n.rest && nat_le n.rest (run + n.units)) (nat_le n.rest RUN_LIMIT) e in
    let b = and_parts (nat_lt run n.rest) (nat_le n.rest (run + n.units)) c.0 in
    let x = b.0 in
    let y = b.1 in
    let z = c.1 in
    record { waits = grind (arith, nat_tests); can = grind (arith, nat_tests); fits = grind (arith, nat_tests) }

pub held_test : (h : Held) → IsHeld h → is_held h ≡ true
held_test h i = and_from (list_all is_open h.limits) (list_all (is_open_need h.run) h.needs) (all_test IsOpenLimit is_open (λ q o. grind (arith, nat_tests)) h.limits i.limits) (all_test (IsOpenNeed h.run) (is_open_need h.run) (λ n o. open_need_test h.run n o) h.needs i.needs)

pub held_from : (ps : List Limit) (ns : List Need) (run : ℕ) → list_all is_open ps ≡ true → list_all (is_open_need run) ns ≡ true → IsHeld (record { limits = ps; needs = ns; run = run })
held_from ps ns run e f = record {
  limits = test_all IsOpenLimit is_open (λ q t. grind (arith, nat_tests)) ps e;
  needs = test_all (IsOpenNeed run) (is_open_need run) (λ n t. open_need_from run n t) ns f;
}
