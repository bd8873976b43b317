-- Each choice at a unit, by the end that it gives the run in progress, and paths of choices.
use Rattle.std.proofs.Common.{◌≡◌, ℕ, ◌+◌, ◌-◌, ◌<◌, ◌≤◌, Bool, true, false, cond, List, [], ◌∷◌, ◌++◌, length, refl, sym, ◌∙◌, ap, subst, arith, append_assoc, add-zero, ◌⊎◌, inl, inr}
use Rattle.std.specs.Prelude.{None, Some, nat_lt, nat_le, nat_eq, ◌&&◌, if◌then◌else◌, Contains}
use Rattle.std.proofs.lemmas.Bool.{cases_lt}
use Rattle.std.proofs.lemmas.Bool.Decides.{nat_tests}
use Rattle.std.proofs.lemmas.List.Elements.{Contains-append_left, Contains-append_right, Contains-append_cases}
use Rattle.duty_core.specs.declared.activity.Activity.{Activity}
use Rattle.duty_core.specs.Activity.{rests, drives}
use Rattle.sleeper_split.specs.declared.rule.SplitRule.{SplitRule}
use Rattle.sleeper_split.specs.declared.count.SplitCount.{SplitCount}
use Rattle.sleeper_split.specs.Machine.{made, no_run, after_rest, after_duty, may_pair, may_split, split_count, rested_count, end_undeclared, end_split, end_full, run_of}
use Rattle.sleeper_split.specs.Choices.{Choice, choice, sleeps, at_duty, after_run, run_choices, choices, declared, Declares}
use Rattle.sleeper_split.specs.Laws.Growth.{contains_none, contains_one, contains_head}
use Rattle.sleeper_split.specs.Laws.Limits.{and_left, and_right, and_both, below, upto, same, is_below, is_upto, is_same}

-- # Kinds of choice

-- the count keeps the limits, where the unit is driving
abbrev pub fits : (SplitCount → Bool) → Activity → SplitCount → Bool
fits ok x s = cond (drives x) (ok (after_duty (drives x) s)) true

pub record IsAtRest (s : SplitCount) (x : Activity) (c : Choice) : Type 0 where
  pub rest : rests x ≡ true
  pub is : choice (after_rest (sleeps x) s) false ≡ c

-- the run in progress, if any, is not declared
pub record IsUndeclared (rule : SplitRule) (ok : SplitCount → Bool) (s : SplitCount) (x : Activity) (c : Choice) : Type 0 where
  pub work : rests x ≡ false
  pub short : s.run.long < rule.full
  pub fit : fits ok x s ≡ true
  pub is : choice (after_duty (drives x) s) false ≡ c

pub record IsAsSplit (rule : SplitRule) (may : Bool) (ok : SplitCount → Bool) (s : SplitCount) (x : Activity) (c : Choice) : Type 0 where
  pub work : rests x ≡ false
  pub some : 0 < s.run.long
  pub allowed : may ≡ true
  pub passes : may_split rule s ≡ true
  pub fit : fits ok x (split_count s) ≡ true
  pub is : choice (after_duty (drives x) (split_count s)) true ≡ c

pub record IsAsFull (rule : SplitRule) (ok : SplitCount → Bool) (s : SplitCount) (x : Activity) (c : Choice) : Type 0 where
  pub work : rests x ≡ false
  pub some : 0 < s.run.long
  pub long : rule.full ≤ s.run.long
  pub paired : may_pair rule s.waiting s.run ≡ true
  pub fit : fits ok x rested_count ≡ true
  pub is : choice (after_duty (drives x) rested_count) false ≡ c

abbrev pub IsChoice : SplitRule → Bool → (SplitCount → Bool) → SplitCount → Activity → Choice → Type 0
IsChoice rule may ok s x c = IsAtRest s x c ⊎ IsUndeclared rule ok s x c ⊎ IsAsSplit rule may ok s x c ⊎ IsAsFull rule ok s x c

-- where a test passes
in_test : (b : Bool) (c d : Choice) → Contains (cond b (c ∷ []) []) d → (b ≡ true) × (c ≡ d)
in_test true c d h = (refl, contains_one c d h)
in_test false c d h = absurd (contains_none d h)

of_test : (b : Bool) (c : Choice) → b ≡ true → Contains (cond b (c ∷ []) []) c
of_test true c h = contains_head c []
of_test false c h = absurd (let z : false ≡ true = h in cc)

in_end : (ok : SplitCount → Bool) (x : Activity) (split b : Bool) (s : SplitCount) (d : Choice) → Contains (after_run ok x split (if b then Some s else None)) d → (b ≡ true) × (fits ok x s ≡ true) × (choice (after_duty (drives x) s) split ≡ d)
in_end ok x split true s d h = let q = in_test (fits ok x s) (choice (after_duty (drives x) s) split) d h in (refl, q.0, q.1)
in_end ok x split false s d h = absurd (contains_none d h)

of_end : (ok : SplitCount → Bool) (x : Activity) (split b : Bool) (s : SplitCount) → b ≡ true → fits ok x s ≡ true → Contains (after_run ok x split (if b then Some s else None)) (choice (after_duty (drives x) s) split)
of_end ok x split true s h f = of_test (fits ok x s) (choice (after_duty (drives x) s) split) f
of_end ok x split false s h f = absurd (let z : false ≡ true = h in cc)

in_allowed : (may : Bool) (cs : List Choice) (d : Choice) → Contains (cond may cs []) d → (may ≡ true) × Contains cs d
in_allowed true cs d h = (refl, h)
in_allowed false cs d h = absurd (contains_none d h)

run_cases : (rule : SplitRule) (may : Bool) (ok : SplitCount → Bool) (s : SplitCount) (x : Activity) (c : Choice) → rests x ≡ false → 0 < s.run.long → Contains (run_choices rule may ok s x) c → IsChoice rule may ok s x c
run_cases rule may ok s x c r some h =
    elim (Contains-append_cases (after_run ok x false (end_undeclared rule s)) (cond may (after_run ok x true (end_split rule s)) [] ++ after_run ok x false (end_full rule s)) c h) [
      | inl u ↦ (let q = in_end ok x false (nat_lt s.run.long rule.full) (made no_run s.base s.last s.waiting) c u in
          inr (inl (record { work = r; short = below s.run.long rule.full q.0; fit = q.1; is = q.2 })))
      | inr v ↦ elim (Contains-append_cases (cond may (after_run ok x true (end_split rule s)) []) (after_run ok x false (end_full rule s)) c v) [
        | inl u ↦ (let a = in_allowed may (after_run ok x true (end_split rule s)) c u in
            let q = in_end ok x true (may_split rule s) (split_count s) c a.1 in
            inr (inr (inl (record { work = r; some = some; allowed = a.0; passes = q.0; fit = q.1; is = q.2 }))))
        | inr u ↦ (let q = in_end ok x false (nat_le rule.full s.run.long && may_pair rule s.waiting s.run) rested_count c u in
            inr (inr (inr (record {
              work = r;
              some = some;
              long = upto rule.full s.run.long (and_left (nat_le rule.full s.run.long) (may_pair rule s.waiting s.run) q.0);
              paired = and_right (nat_le rule.full s.run.long) (may_pair rule s.waiting s.run) q.0;
              fit = q.1;
              is = q.2;
            }))))
      ]
    ]

-- each choice is of one of the kinds
pub choice_cases : (rule : SplitRule) (may : Bool) (ok : SplitCount → Bool) (s : SplitCount) (x : Activity) (c : Choice) → 0 < rule.full → Contains (choices rule may ok s x) c → IsChoice rule may ok s x c
choice_cases rule may ok s x c pos_full h =
    let none : (b : Bool) → nat_eq s.run.long 0 ≡ b → rests x ≡ false → Contains (cond b (at_duty ok x false s) (run_choices rule may ok s x)) c → IsChoice rule may ok s x c =
    λ b. elim b as (λ d. nat_eq s.run.long 0 ≡ d → rests x ≡ false → Contains (cond d (at_duty ok x false s) (run_choices rule may ok s x)) c → IsChoice rule may ok s x c) [
      | true ↦ λ e r k. (let q = in_test (fits ok x s) (choice (after_duty (drives x) s) false) c k in
          inr (inl (record { work = r; short = (let z = same s.run.long 0 e in omega arith); fit = q.0; is = q.1 })))
      | false ↦ λ e r k. run_cases rule may ok s x c r (grind (arith, nat_tests)) k
    ]
    in
    let by : (b : Bool) → rests x ≡ b → Contains (cond b (choice (after_rest (sleeps x) s) false ∷ []) (cond (nat_eq s.run.long 0) (at_duty ok x false s) (run_choices rule may ok s x))) c → IsChoice rule may ok s x c =
    λ b. elim b as (λ d. rests x ≡ d → Contains (cond d (choice (after_rest (sleeps x) s) false ∷ []) (cond (nat_eq s.run.long 0) (at_duty ok x false s) (run_choices rule may ok s x))) c → IsChoice rule may ok s x c) [
      | true ↦ λ r k. inl (record { rest = r; is = contains_one (choice (after_rest (sleeps x) s) false) c k })
      | false ↦ λ r k. none (nat_eq s.run.long 0) refl r k
    ]
    in by (rests x) refl h

-- the choices at rest, at duty, and after a run
at_rest : (rule : SplitRule) (may : Bool) (ok : SplitCount → Bool) (s : SplitCount) (x : Activity) (c : Choice) → rests x ≡ true → Contains (choice (after_rest (sleeps x) s) false ∷ []) c → Contains (choices rule may ok s x) c
at_rest rule may ok s x c r h = subst (λ b. Contains (cond b (choice (after_rest (sleeps x) s) false ∷ []) (cond (nat_eq s.run.long 0) (at_duty ok x false s) (run_choices rule may ok s x))) c) (sym r) h

with_none : (rule : SplitRule) (may : Bool) (ok : SplitCount → Bool) (s : SplitCount) (x : Activity) (c : Choice) → rests x ≡ false → nat_eq s.run.long 0 ≡ true → Contains (at_duty ok x false s) c → Contains (choices rule may ok s x) c
with_none rule may ok s x c r e h = subst (λ b. Contains (cond b (choice (after_rest (sleeps x) s) false ∷ []) (cond (nat_eq s.run.long 0) (at_duty ok x false s) (run_choices rule may ok s x))) c) (sym r)
    (subst (λ b. Contains (cond b (at_duty ok x false s) (run_choices rule may ok s x)) c) (sym e) h)

with_run : (rule : SplitRule) (may : Bool) (ok : SplitCount → Bool) (s : SplitCount) (x : Activity) (c : Choice) → rests x ≡ false → 0 < s.run.long → Contains (run_choices rule may ok s x) c → Contains (choices rule may ok s x) c
with_run rule may ok s x c r some h = subst (λ b. Contains (cond b (choice (after_rest (sleeps x) s) false ∷ []) (cond (nat_eq s.run.long 0) (at_duty ok x false s) (run_choices rule may ok s x))) c) (sym r)
    (subst (λ b. Contains (cond b (at_duty ok x false s) (run_choices rule may ok s x)) c) (sym (let z : nat_eq s.run.long 0 ≡ false = grind (arith, nat_tests) in z)) h)

-- one of each kind is a choice
pub is_choice : (rule : SplitRule) (may : Bool) (ok : SplitCount → Bool) (s : SplitCount) (x : Activity) (c : Choice) → IsChoice rule may ok s x c → Contains (choices rule may ok s x) c
is_choice rule may ok s x c h = elim h [
  | inl k ↦ at_rest rule may ok s x c k.rest (subst (Contains (choice (after_rest (sleeps x) s) false ∷ [])) k.is (contains_head (choice (after_rest (sleeps x) s) false) []))
  | inr w ↦ elim w [
    | inl k ↦ subst (Contains (choices rule may ok s x)) k.is (elim (cases_lt 0 s.run.long) [
      | inr l ↦ with_none rule may ok s x (choice (after_duty (drives x) s) false) k.work (is_same s.run.long 0 (omega arith)) (of_test (fits ok x s) (choice (after_duty (drives x) s) false) k.fit)
      | inl l ↦ with_run rule may ok s x (choice (after_duty (drives x) s) false) k.work l
          (Contains-append_left (after_run ok x false (end_undeclared rule s)) (cond may (after_run ok x true (end_split rule s)) [] ++ after_run ok x false (end_full rule s)) (choice (after_duty (drives x) s) false)
          (of_end ok x false (nat_lt s.run.long rule.full) (made no_run s.base s.last s.waiting) (is_below s.run.long rule.full k.short) k.fit))
    ])
    | inr v ↦ elim v [
      | inl k ↦ subst (Contains (choices rule may ok s x)) k.is (with_run rule may ok s x (choice (after_duty (drives x) (split_count s)) true) k.work k.some
          (Contains-append_right (after_run ok x false (end_undeclared rule s)) (cond may (after_run ok x true (end_split rule s)) [] ++ after_run ok x false (end_full rule s)) (choice (after_duty (drives x) (split_count s)) true)
          (Contains-append_left (cond may (after_run ok x true (end_split rule s)) []) (after_run ok x false (end_full rule s)) (choice (after_duty (drives x) (split_count s)) true)
          (subst (λ b. Contains (cond b (after_run ok x true (end_split rule s)) []) (choice (after_duty (drives x) (split_count s)) true)) (sym k.allowed)
          (of_end ok x true (may_split rule s) (split_count s) k.passes k.fit)))))
      | inr k ↦ subst (Contains (choices rule may ok s x)) k.is (with_run rule may ok s x (choice (after_duty (drives x) rested_count) false) k.work k.some
          (Contains-append_right (after_run ok x false (end_undeclared rule s)) (cond may (after_run ok x true (end_split rule s)) [] ++ after_run ok x false (end_full rule s)) (choice (after_duty (drives x) rested_count) false)
          (Contains-append_right (cond may (after_run ok x true (end_split rule s)) []) (after_run ok x false (end_full rule s)) (choice (after_duty (drives x) rested_count) false)
          (of_end ok x false (nat_le rule.full s.run.long && may_pair rule s.waiting s.run) rested_count (and_both (nat_le rule.full s.run.long) (may_pair rule s.waiting s.run) (is_upto rule.full s.run.long k.long) k.paired) k.fit))))
    ]
  ]
]

-- # Paths

-- the run that a choice leaves begins no earlier
start_after : (rule : SplitRule) (may : Bool) (ok : SplitCount → Bool) (s : SplitCount) (x : Activity) (c : Choice) (i : ℕ) → IsChoice rule may ok s x c → i - s.run.long ≤ i + 1 - c.count.run.long
start_after rule may ok s x c i h = elim h [
  | inl k ↦ subst (λ (d : Choice). i - s.run.long ≤ i + 1 - d.count.run.long) k.is (omega arith)
  | inr w ↦ elim w [
    | inl k ↦ subst (λ (d : Choice). i - s.run.long ≤ i + 1 - d.count.run.long) k.is (omega arith)
    | inr v ↦ elim v [
      | inl k ↦ subst (λ (d : Choice). i - s.run.long ≤ i + 1 - d.count.run.long) k.is (omega arith)
      | inr k ↦ subst (λ (d : Choice). i - s.run.long ≤ i + 1 - d.count.run.long) k.is (omega arith)
    ]
  ]
]

in_declared : (split : Bool) (k j : ℕ) → Contains (declared split k) j → k ≡ j
in_declared true k j h = contains_one k j h
in_declared false k j h = absurd (contains_none j h)

-- split rests begin where the run in progress does, or later
pub starts_least : (rule : SplitRule) (may : Bool) (ok : SplitCount → Bool) (s : SplitCount) (i : ℕ) (xs : List Activity) (starts : List ℕ) (t : SplitCount) (j : ℕ) → 0 < rule.full → Declares rule may ok s i xs starts t → Contains starts j → i - s.run.long ≤ j
starts_least rule may ok s i [] starts t j pos_full h k = absurd (contains_none j (subst (λ l. Contains l j) h.1 k))
starts_least rule may ok s i (x ∷ xs) starts t j pos_full h k =
    let c : Choice = h.0 in
    elim (Contains-append_cases (declared c.split (i - s.run.long)) h.2 j (subst (λ l. Contains l j) h.3 k)) [
      | inl a ↦ (let e = in_declared c.split (i - s.run.long) j a in omega arith)
      | inr b ↦ (let l = starts_least rule may ok c.count (i + 1) xs h.2 t j pos_full h.4 b in let z = start_after rule may ok s x c i (choice_cases rule may ok s x c pos_full h.1) in omega arith)
    ]

-- one kind of choice for each way to declare
choice_once : (rule : SplitRule) (may : Bool) (ok : SplitCount → Bool) (s : SplitCount) (x : Activity) (c d : Choice) → IsChoice rule may ok s x c → IsChoice rule may ok s x d → c.split ≡ d.split → c ≡ d
choice_once rule may ok s x c d h g e = elim h [
  | inl k ↦ elim g [
    | inl l ↦ sym k.is ∙ l.is
    | inr w ↦ absurd (let z : rests x ≡ false = elim w [ inl l ↦ l.work | inr v ↦ elim v [ inl l ↦ l.work | inr l ↦ l.work ] ] in let y : true ≡ false = sym k.rest ∙ z in cc)
  ]
  | inr w ↦ elim w [
    | inl k ↦ elim g [
      | inl l ↦ absurd (let y : true ≡ false = sym l.rest ∙ k.work in cc)
      | inr v ↦ elim v [
        | inl l ↦ sym k.is ∙ l.is
        | inr u ↦ elim u [
          | inl l ↦ absurd (let y : false ≡ true = ap (λ (n : Choice). n.split) k.is ∙ (e ∙ sym (ap (λ (n : Choice). n.split) l.is)) in cc)
          | inr l ↦ absurd (let a = k.short in let b = l.long in omega arith)
        ]
      ]
    ]
    | inr w2 ↦ elim w2 [
      | inl k ↦ elim g [
        | inl l ↦ absurd (let y : true ≡ false = sym l.rest ∙ k.work in cc)
        | inr v ↦ elim v [
          | inl l ↦ absurd (let y : true ≡ false = ap (λ (n : Choice). n.split) k.is ∙ (e ∙ sym (ap (λ (n : Choice). n.split) l.is)) in cc)
          | inr u ↦ elim u [
            | inl l ↦ sym k.is ∙ l.is
            | inr l ↦ absurd (let y : true ≡ false = ap (λ (n : Choice). n.split) k.is ∙ (e ∙ sym (ap (λ (n : Choice). n.split) l.is)) in cc)
          ]
        ]
      ]
      | inr k ↦ elim g [
        | inl l ↦ absurd (let y : true ≡ false = sym l.rest ∙ k.work in cc)
        | inr v ↦ elim v [
          | inl l ↦ absurd (let a = k.long in let b = l.short in omega arith)
          | inr u ↦ elim u [
            | inl l ↦ absurd (let y : false ≡ true = ap (λ (n : Choice). n.split) k.is ∙ (e ∙ sym (ap (λ (n : Choice). n.split) l.is)) in cc)
            | inr l ↦ sym k.is ∙ l.is
          ]
        ]
      ]
    ]
  ]
]

-- a choice that declares a split rest comes at a unit of duty, which no run in progress follows
split_ends : (rule : SplitRule) (may : Bool) (ok : SplitCount → Bool) (s : SplitCount) (x : Activity) (c d : Choice) → IsChoice rule may ok s x c → c.split ≡ true → IsChoice rule may ok s x d → d.count.run.long ≡ 0
split_ends rule may ok s x c d h e g =
    let work : rests x ≡ false = elim h [
      | inl k ↦ absurd (let y : false ≡ true = ap (λ (n : Choice). n.split) k.is ∙ e in cc)
      | inr w ↦ elim w [ inl k ↦ k.work | inr v ↦ elim v [ inl k ↦ k.work | inr k ↦ k.work ] ]
    ]
    in elim g [
      | inl k ↦ absurd (let y : true ≡ false = sym k.rest ∙ work in cc)
      | inr w ↦ elim w [
        | inl k ↦ sym (ap (λ (n : Choice). n.count.run.long) k.is)
        | inr v ↦ elim v [ inl k ↦ sym (ap (λ (n : Choice). n.count.run.long) k.is) | inr k ↦ sym (ap (λ (n : Choice). n.count.run.long) k.is) ]
      ]
    ]

-- one path declares the run, and the other does not: their places differ
not_both : (rule : SplitRule) (may : Bool) (ok : SplitCount → Bool) (s : SplitCount) (x : Activity) (c d : Choice) (i : ℕ) (xs : List Activity) (a b : List ℕ) (u : SplitCount) → 0 < rule.full →
    IsChoice rule may ok s x c → IsChoice rule may ok s x d → c.split ≡ true → (i - s.run.long) ∷ a ≡ b → Declares rule may ok d.count (i + 1) xs b u → ⊥
not_both rule may ok s x c d i xs a b u pos_full h g e same_list r =
    let l = starts_least rule may ok d.count (i + 1) xs b u (i - s.run.long) pos_full r (subst (λ k. Contains k (i - s.run.long)) same_list (contains_head (i - s.run.long) a)) in
    let z = split_ends rule may ok s x c d h e g in omega arith

tail_of : List ℕ → List ℕ
tail_of [] = []
tail_of (x ∷ xs) = xs

-- what two choices declare
declared_once : (rule : SplitRule) (may : Bool) (ok : SplitCount → Bool) (s : SplitCount) (x : Activity) (c d : Choice) (i : ℕ) (xs : List Activity) (a b : List ℕ) (t u : SplitCount) → 0 < rule.full →
    IsChoice rule may ok s x c → IsChoice rule may ok s x d → Declares rule may ok c.count (i + 1) xs a t → Declares rule may ok d.count (i + 1) xs b u →
    (y z : Bool) → c.split ≡ y → d.split ≡ z → declared y (i - s.run.long) ++ a ≡ declared z (i - s.run.long) ++ b → (y ≡ z) × (a ≡ b)
unfolding tail_of
declared_once rule may ok s x c d i xs a b t u pos_full h g p q true true e f same_list = (refl, ap (λ (l : List ℕ). tail_of l) same_list)
declared_once rule may ok s x c d i xs a b t u pos_full h g p q true false e f same_list = absurd (not_both rule may ok s x c d i xs a b u pos_full h g e same_list q)
declared_once rule may ok s x c d i xs a b t u pos_full h g p q false true e f same_list = absurd (not_both rule may ok s x d c i xs b a t pos_full g h f (sym same_list) p)
declared_once rule may ok s x c d i xs a b t u pos_full h g p q false false e f same_list = (refl, same_list)

-- the places declared tell the path
pub declares_once : (rule : SplitRule) (may : Bool) (ok : SplitCount → Bool) (s : SplitCount) (i : ℕ) (xs : List Activity) (starts : List ℕ) (t u : SplitCount) → 0 < rule.full →
    Declares rule may ok s i xs starts t → Declares rule may ok s i xs starts u → t ≡ u
declares_once rule may ok s i [] starts t u pos_full h g = sym h.0 ∙ g.0
declares_once rule may ok s i (x ∷ xs) starts t u pos_full h g =
    let c : Choice = h.0 in
    let d : Choice = g.0 in
    let kc = choice_cases rule may ok s x c pos_full h.1 in
    let kd = choice_cases rule may ok s x d pos_full g.1 in
    let q = declared_once rule may ok s x c d i xs h.2 g.2 t u pos_full kc kd h.4 g.4 c.split d.split refl refl (sym h.3 ∙ g.3) in
    let e = choice_once rule may ok s x c d kc kd q.0 in
    declares_once rule may ok d.count (i + 1) xs g.2 t u pos_full
    (subst (λ l. Declares rule may ok d.count (i + 1) xs l t) q.1 (subst (λ (n : Choice). Declares rule may ok n.count (i + 1) xs h.2 t) e h.4)) g.4

-- a path along two lists, in two parts
pub record HasFront (rule : SplitRule) (may : Bool) (ok : SplitCount → Bool) (s : SplitCount) (i : ℕ) (h g : List Activity) (starts : List ℕ) (t : SplitCount) : Type 0 where
  pub middle : SplitCount
  pub front : List ℕ
  pub thereafter : List ℕ
  pub parts : starts ≡ front ++ thereafter
  pub first : Declares rule may ok s i h front middle
  pub second : Declares rule may ok middle (i + length h) g thereafter t

pub declares_front : (rule : SplitRule) (may : Bool) (ok : SplitCount → Bool) (s : SplitCount) (i : ℕ) (h g : List Activity) (starts : List ℕ) (t : SplitCount) → Declares rule may ok s i (h ++ g) starts t → HasFront rule may ok s i h g starts t
declares_front rule may ok s i [] g starts t r = record {
  middle = s;
  front = [];
  thereafter = starts;
  parts = refl;
  first = (refl, refl);
  second = subst (λ n. Declares rule may ok s n g starts t) (sym (add-zero i)) r;
}
declares_front rule may ok s i (x ∷ h) g starts t r =
    let c : Choice = r.0 in
    let q = declares_front rule may ok c.count (i + 1) h g r.2 t r.4 in
    let e : i + 1 + length h ≡ i + length (x ∷ h) = omega arith in
    record {
      middle = q.middle;
      front = declared c.split (i - s.run.long) ++ q.front;
      thereafter = q.thereafter;
      parts = r.3 ∙ (ap (λ l. declared c.split (i - s.run.long) ++ l) q.parts ∙ sym (append_assoc (declared c.split (i - s.run.long)) q.front q.thereafter));
      first = (c, r.1, q.front, refl, q.first);
      second = subst (λ n. Declares rule may ok q.middle n g q.thereafter t) e q.second;
    }

-- and two paths are one
pub declares_append : (rule : SplitRule) (may : Bool) (ok : SplitCount → Bool) (s u : SplitCount) (i : ℕ) (h g : List Activity) (a b : List ℕ) (t : SplitCount) → Declares rule may ok s i h a u → Declares rule may ok u (i + length h) g b t → Declares rule may ok s i (h ++ g) (a ++ b) t
declares_append rule may ok s u i [] g a b t r q =
    subst (λ l. Declares rule may ok s i g (l ++ b) t) (sym r.1) (subst (λ n. Declares rule may ok s n g b t) (add-zero i) (subst (λ m. Declares rule may ok m (i + 0) g b t) (sym r.0) q))
declares_append rule may ok s u i (x ∷ h) g a b t r q =
    let c : Choice = r.0 in
    let e : i + length (x ∷ h) ≡ i + 1 + length h = omega arith in
    (c, r.1, r.2 ++ b, ap (λ l. l ++ b) r.3 ∙ append_assoc (declared c.split (i - s.run.long)) r.2 b, declares_append rule may ok c.count u (i + 1) h g r.2 b t r.4 (subst (λ n. Declares rule may ok u n g b t) e q))

-- the run in progress grows by one at most
pub choice_run : (rule : SplitRule) (may : Bool) (ok : SplitCount → Bool) (s : SplitCount) (x : Activity) (c : Choice) (i : ℕ) → IsChoice rule may ok s x c → run_of s ≤ i → run_of c.count ≤ i + 1
choice_run rule may ok s x c i h l = elim h [
  | inl r ↦ (let e = ap (λ (d : Choice). run_of d.count) r.is in omega arith)
  | inr k ↦ elim k [
    | inl r ↦ (let e = ap (λ (d : Choice). run_of d.count) r.is in omega arith)
    | inr m ↦ elim m [
      | inl r ↦ (let e = ap (λ (d : Choice). run_of d.count) r.is in omega arith)
      | inr r ↦ (let e = ap (λ (d : Choice). run_of d.count) r.is in omega arith)
    ]
  ]
]
