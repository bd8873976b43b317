-- A guard beside a machine: a state that goes on by itself, with a test at each unit. It chooses no marks. Where a guard means a rule at a place, a history
-- passes it exactly where its padded history keeps the rule everywhere.
use Rattle.std.proofs.Common.{◌≡◌, ◌↔◌, ℕ, ◌+◌, ◌*◌, Bool, true, false, List, [], ◌∷◌, ◌++◌, length, refl, sym, ◌∙◌, ap, subst, arith, append_assoc, append-nil}
use Rattle.std.specs.Prelude.{map, if◌then◌else◌}
use Rattle.std.specs.Option.{option_to_list}
use Rattle.std.proofs.lemmas.List.{length-replicate}
use Rattle.duty_core.specs.declared.activity.Activity.{Activity}
use Rattle.duty_core.specs.declared.activity.Activity.TheVariants.{Drive, Off}
use Rattle.duty_core.specs.declared.mark.Mark.{Mark}
use Rattle.duty_core.specs.declared.params.Params.{Params}
use Rattle.duty_core.specs.Params.{unit_minutes}
use Rattle.duty_core.specs.Activity.{drives}
use Rattle.duty_core.specs.History.{unit_at, pad_units, padding, padded}
use Rattle.duty_core.specs.Laws.HistoryLaws.{unit_at-last, length-one_more, IsRule, holds_more, holds_before, holds_after, holds_padding}
use Rattle.rule_core.specs.declared.nexts.Next.{Next}
use Rattle.rule_core.specs.Reach.{IsOneOf, Reaches}
use Rattle.rule_core.specs.Laws.OneOf.{one_of-map, one_of_map}

-- The guard lets these units pass, the first of which begins at this minute.
abbrev pub Passes : {C : Type 0} → ℕ → (C → ℕ → Activity → Bool) → (C → ℕ → Activity → C) → C → ℕ → List Activity → Type 0
Passes unit ok go c at [] = Unit {0}
Passes unit ok go c at (x ∷ xs) = (ok c at x ≡ true) × Passes unit ok go (go c at x) (at + unit) xs

-- a history ends with driving only where its last unit is driving
pub not_driving : (p : List Activity) (x : Activity) → drives x ≡ false → unit_at (p ++ x ∷ []) (length p) ≡ Drive → ⊥
not_driving p x d e = let z : true ≡ false = sym (ap drives e) ∙ (ap drives (unit_at-last p x) ∙ d) in cc

-- where a guard is led by these units, each of which takes a minute
abbrev pub led : {C : Type 0} → (C → ℕ → Activity → C) → C → ℕ → List Activity → C
led go c at [] = c
led go c at (x ∷ xs) = led go (go c at x) (at + 1) xs

-- # A machine after a guard

-- a state, and that of the guard beside it
pub record Both (S C : Type 0) : Type 0 where
  pub state : S
  pub guard : C

abbrev pub with_guard : {S C : Type 0} → C → Next S → Next (Both S C)
with_guard c n = record { state = record { state = n.state; guard = c }; mark = n.mark }

-- the successors of a machine after a guard
abbrev pub guarded : {S C : Type 0} → (S → ℕ → Activity → List (Next S)) → (C → ℕ → Activity → Bool) → (C → ℕ → Activity → C) → Both S C → ℕ → Activity → List (Next (Both S C))
guarded nexts ok go s at x = if ok s.guard at x then map (with_guard (go s.guard at x)) (nexts s.state at x) else []

pub when_true : {X : Type 0} (b : Bool) (xs : List X) (x : X) → IsOneOf (if b then xs else []) x → (b ≡ true) × IsOneOf xs x
when_true true xs x h = (refl, h)
when_true false xs x h = absurd h

pub true_when : {X : Type 0} (b : Bool) (xs : List X) (x : X) → b ≡ true → IsOneOf xs x → IsOneOf (if b then xs else []) x
true_when true xs x e h = h
true_when false xs x e h = absurd (let z : false ≡ true = e in cc)

-- A path after a guard is a path that the guard lets pass.
pub guarded_path : {S C : Type 0} (unit : ℕ) (nexts : S → ℕ → Activity → List (Next S)) (ok : C → ℕ → Activity → Bool) (go : C → ℕ → Activity → C) (s : Both S C) (at : ℕ) (xs : List Activity) (marks : List Mark) (u : Both S C) →
    Reaches unit (guarded nexts ok go) s at xs marks u → Reaches unit nexts s.state at xs marks u.state × Passes unit ok go s.guard at xs
guarded_path unit nexts ok go s at [] marks u r = ((ap (λ v. v.state) r.0, r.1), tt)
guarded_path unit nexts ok go s at (x ∷ xs) marks u r =
    let w = when_true (ok s.guard at x) (map (with_guard (go s.guard at x)) (nexts s.state at x)) r.0 r.1 in
    let k = one_of-map (with_guard (go s.guard at x)) (nexts s.state at x) r.0 w.1 in
    let q = guarded_path unit nexts ok go r.0.state (at + unit) xs r.2 u r.4 in
    let es : r.0.state.state ≡ k.0.state = sym (ap (λ n. n.state.state) k.2) in
    let ec : r.0.state.guard ≡ go s.guard at x = sym (ap (λ n. n.state.guard) k.2) in
    let em : r.0.mark ≡ k.0.mark = sym (ap (λ n. n.mark) k.2) in (
      (k.0, k.1, r.2, r.3 ∙ ap (λ m. option_to_list m ++ r.2) em, subst (λ v. Reaches unit nexts v (at + unit) xs r.2 u.state) es q.0),
      (w.0, subst (λ c. Passes unit ok go c (at + unit) xs) ec q.1),
    )

pub path_guarded : {S C : Type 0} (unit : ℕ) (nexts : S → ℕ → Activity → List (Next S)) (ok : C → ℕ → Activity → Bool) (go : C → ℕ → Activity → C) (s : S) (c : C) (at : ℕ) (xs : List Activity) (marks : List Mark) (t : S) →
    Reaches unit nexts s at xs marks t → Passes unit ok go c at xs → (u : Both S C) × (u.state ≡ t) × Reaches unit (guarded nexts ok go) (record { state = s; guard = c }) at xs marks u
path_guarded unit nexts ok go s c at [] marks t r p = (record { state = s; guard = c }, r.0, (refl, r.1))
path_guarded unit nexts ok go s c at (x ∷ xs) marks t r p =
    let q = path_guarded unit nexts ok go r.0.state (go c at x) (at + unit) xs r.2 t r.4 p.1 in (
      q.0,
      q.1,
      (
        with_guard (go c at x) r.0,
        true_when (ok c at x) (map (with_guard (go c at x)) (nexts s at x)) (with_guard (go c at x) r.0) p.0 (one_of_map (with_guard (go c at x)) (nexts s at x) r.0 r.1),
        r.2,
        r.3,
        q.2,
      ),
    )

-- # What a guard means

-- The minute `at` is that of the place after the units p of a padded history, whose history begins at the minute `first`.
abbrev pub IsBehind : Params → ℕ → List Activity → ℕ → Type 0
IsBehind params first p at = at + unit_minutes params * pad_units params ≡ first + unit_minutes params * length p

-- T tells which states are those of the units p. The test of a unit is passed exactly where the rule G holds at it.
pub record IsGuard {C : Type 0} (params : Params) (first : ℕ) (G : List Activity → ℕ → Type 0) (T : List Activity → C → Type 0) (ok : C → ℕ → Activity → Bool) (go : C → ℕ → Activity → C) : Type 0 where
  pub rule : IsRule G
  pub on : (p : List Activity) (c : C) (at : ℕ) (x : Activity) → IsBehind params first p at → T p c → T (p ++ x ∷ []) (go c at x)
  pub sound : (p : List Activity) (c : C) (at : ℕ) (x : Activity) → IsBehind params first p at → T p c → ok c at x ≡ true → G (p ++ x ∷ []) (length p)
  pub complete : (p : List Activity) (c : C) (at : ℕ) (x : Activity) → IsBehind params first p at → T p c → G (p ++ x ∷ []) (length p) → ok c at x ≡ true

after_on : (params : Params) (first : ℕ) (p : List Activity) (at : ℕ) (x : Activity) → IsBehind params first p at → IsBehind params first (p ++ x ∷ []) (at + unit_minutes params)
after_on params first p at x e =
    let l : unit_minutes params * length (p ++ x ∷ []) ≡ unit_minutes params * (length p + 1) = ap (λ n. unit_minutes params * n) (length-one_more p x) in omega arith

passes_sound : {C : Type 0} (params : Params) (first : ℕ) (G : List Activity → ℕ → Type 0) (T : List Activity → C → Type 0) (ok : C → ℕ → Activity → Bool) (go : C → ℕ → Activity → C) (d : IsGuard params first G T ok go)
    (xs p : List Activity) (c : C) (at : ℕ) → IsBehind params first p at → T p c → ((i : ℕ) → G p i) → Passes (unit_minutes params) ok go c at xs → (i : ℕ) → G (p ++ xs) i
passes_sound params first G T ok go d [] p c at e t h w i = subst (λ q. G q i) (sym (append-nil p)) (h i)
passes_sound params first G T ok go d (x ∷ xs) p c at e t h w i =
    subst (λ q. G q i) (append_assoc p (x ∷ []) xs)
    (passes_sound params first G T ok go d xs (p ++ x ∷ []) (go c at x) (at + unit_minutes params) (after_on params first p at x e) (d.on p c at x e t)
    (holds_more G p x d.rule h (d.sound p c at x e t w.0)) w.1 i)

passes_complete : {C : Type 0} (params : Params) (first : ℕ) (G : List Activity → ℕ → Type 0) (T : List Activity → C → Type 0) (ok : C → ℕ → Activity → Bool) (go : C → ℕ → Activity → C) (d : IsGuard params first G T ok go)
    (xs p : List Activity) (c : C) (at : ℕ) → IsBehind params first p at → T p c → ((i : ℕ) → G (p ++ xs) i) → Passes (unit_minutes params) ok go c at xs
passes_complete params first G T ok go d [] p c at e t h = tt
passes_complete params first G T ok go d (x ∷ xs) p c at e t h =
    let w : (i : ℕ) → G ((p ++ x ∷ []) ++ xs) i = λ i. subst (λ q. G q i) (sym (append_assoc p (x ∷ []) xs)) (h i) in (
      d.complete p c at x e t (holds_before G (p ++ x ∷ []) xs d.rule w (length p)),
      passes_complete params first G T ok go d xs (p ++ x ∷ []) (go c at x) (at + unit_minutes params) (after_on params first p at x e) (d.on p c at x e t) w,
    )

-- A history passes exactly where its padded history keeps the rule everywhere.
pub guard_exact : {C : Type 0} (params : Params) (first : ℕ) (G : List Activity → ℕ → Type 0) (T : List Activity → C → Type 0) (ok : C → ℕ → Activity → Bool) (go : C → ℕ → Activity → C) (d : IsGuard params first G T ok go)
    (c : C) (h : List Activity) → T (padding params) c → Passes (unit_minutes params) ok go c first h ↔ ((i : ℕ) → G (padded params h) i)
guard_exact params first G T ok go d c h t =
    let e : IsBehind params first (padding params) first = ap (λ n. first + unit_minutes params * n) (sym (length-replicate (pad_units params) Off)) in (
      (λ w. holds_after G (padding params ++ h) (pad_units params) d.rule
          (passes_sound params first G T ok go d h (padding params) c first e t (holds_padding G (pad_units params) d.rule) w)),
      (λ w. passes_complete params first G T ok go d h (padding params) c first e t (holds_before G (padding params ++ h) (padding params) d.rule w)),
    )
