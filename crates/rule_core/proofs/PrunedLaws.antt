-- Roots that are kept of others, root by root.
use Rattle.std.proofs.Common.{◌≡◌, ℕ, ◌+◌, ◌<◌, ◌≤◌, Some, List, [], ◌∷◌, ◌++◌, length, take, get_or, refl, sym, ◌∙◌, ap, subst, arith, inl, inr}
use Rattle.std.specs.Prelude.{map, reverse}
use Rattle.std.proofs.lemmas.List.{take_more, take_all, length-append, length-reverse, reverse-reverse, map-append}
use Rattle.std.proofs.lemmas.Grind.{reverse_onto}
use Rattle.rule_core.specs.declared.roots.Root.{Root}
use Rattle.rule_core.specs.Reach.{IsOneOf}
use Rattle.rule_core.specs.Laws.OneOf.{one_of-append, one_of-append_left, one_of-append_right, one_of-map, one_of_map}
use Rattle.rule_core.specs.Machine.{Machine}
use Rattle.rule_core.specs.Book.{IsStateText}
use Rattle.rule_core.specs.Replay.{AreRootStates}
use Rattle.rule_core.specs.Pruned.{ArePruned, AreApart}

-- where none of the first so many has P, nor the next
pub none_more : {X : Type 0} (P : X → Type 0) (xs : List X) (i : ℕ) (x : X) → i < length xs → x ≡ get_or xs i x → ((y : X) → IsOneOf (take i xs) y → P y → ⊥) → (P x → ⊥) →
    (y : X) → IsOneOf (take (i + 1) xs) y → P y → ⊥
none_more P xs i x l is before here y o p =
    elim (one_of-append (take i xs) (get_or xs i x ∷ []) y (subst (λ ys. IsOneOf ys y) (take_more xs i x l) o)) [
      | inl a ↦ before y a p
      | inr b ↦ elim b [ inl e ↦ here (subst P (sym e ∙ sym is) p) | inr n ↦ absurd n ]
    ]

-- at the end
pub none_of_all : {X : Type 0} (P : X → Type 0) (xs : List X) (i : ℕ) → length xs ≤ i → ((y : X) → IsOneOf (take i xs) y → P y → ⊥) → (y : X) → IsOneOf xs y → P y → ⊥
none_of_all P xs i l before y o = before y (subst (λ ys. IsOneOf ys y) (sym (take_all i xs l)) o)

pub pruned_none : {S : Type 0} (answers : S → S → Type 0) → ArePruned answers [] []
pruned_none answers = record { among = λ root o. o; all = λ root o. absurd o; few = omega arith }

-- one root more, which is kept
pub pruned_kept : {S : Type 0} (answers : S → S → Type 0) (roots kept : List (Root S)) (root : Root S) → answers root.state root.state → ArePruned answers roots kept →
    ArePruned answers (roots ++ root ∷ []) (kept ++ root ∷ [])
pruned_kept answers roots kept root itself so = record {
  among = λ r o. elim (one_of-append kept (root ∷ []) r o) [
    | inl a ↦ one_of-append_left roots (root ∷ []) r (so.among r a)
    | inr b ↦ one_of-append_right roots (root ∷ []) r b
  ];
  all = λ r o. elim (one_of-append roots (root ∷ []) r o) [
    | inl a ↦ (let p = so.all r a in (p.0, one_of-append_left kept (root ∷ []) p.0 p.1, p.2))
    | inr b ↦ elim b [
      | inl e ↦ (root, one_of-append_right kept (root ∷ []) root (inl refl), subst (λ q. answers root.state q.state) e itself)
      | inr n ↦ absurd n
    ]
  ];
  few = let few = so.few in omega (arith, length-append kept (root ∷ []), length-append roots (root ∷ []));
}

-- one root more, for which another answers
pub pruned_left : {S : Type 0} (answers : S → S → Type 0) (roots kept : List (Root S)) (root other : Root S) → IsOneOf kept other → answers other.state root.state → ArePruned answers roots kept →
    ArePruned answers (roots ++ root ∷ []) kept
pruned_left answers roots kept root other in_kept stands so = record {
  among = λ r o. one_of-append_left roots (root ∷ []) r (so.among r o);
  all = λ r o. elim (one_of-append roots (root ∷ []) r o) [
    | inl a ↦ so.all r a
    | inr b ↦ elim b [ inl e ↦ (other, in_kept, subst (λ q. answers other.state q.state) e stands) | inr n ↦ absurd n ]
  ];
  few = let few = so.few in omega (arith, length-append roots (root ∷ []));
}

-- what is kept of what was kept
pub pruned_on : {S : Type 0} (answers : S → S → Type 0) (roots kept less : List (Root S)) →
    ((a b c : Root S) → IsOneOf roots a → IsOneOf roots b → IsOneOf roots c → answers a.state b.state → answers b.state c.state → answers a.state c.state) →
    ArePruned answers roots kept → ArePruned answers kept less → ArePruned answers roots less
pruned_on answers roots kept less on so then = record {
  among = λ r o. so.among r (then.among r o);
  all = λ r o.
      let p = so.all r o in
      let q = then.all p.0 p.1 in
      (q.0, q.1, on q.0 p.0 r (so.among q.0 (then.among q.0 q.1)) (so.among p.0 p.1) o q.2 p.2);
  few = let a = so.few in let b = then.few in omega arith;
}

-- all are kept
pub pruned_all : {S : Type 0} (answers : S → S → Type 0) (roots : List (Root S)) → ((root : Root S) → answers root.state root.state) → ArePruned answers roots roots
pruned_all answers roots itself = record { among = λ r o. o; all = λ r o. (r, o, itself r); few = omega arith }

pub apart_more : {S : Type 0} (answers : S → S → Type 0) (roots : List (Root S)) (root : Root S) → ((r : Root S) → IsOneOf roots r → answers r.state root.state → ⊥) → AreApart answers roots →
    AreApart answers (roots ++ root ∷ [])
apart_more answers [] root none so = (λ r o a. absurd o, tt)
apart_more answers (r ∷ roots) root none so = (
  λ later o a. elim (one_of-append roots (root ∷ []) later o) [
    | inl p ↦ so.0 later p a
    | inr p ↦ elim p [ inl e ↦ none r (inl refl) (subst (λ q. answers r.state q.state) (sym e) a) | inr n ↦ absurd n ]
  ],
  apart_more answers roots root (λ q o. none q (inr o)) so.1,
)

pub states_more : {S : Type 0} (m : Machine S) (at : ℕ) (roots : List (Root S)) (root : Root S) → m.is_state root.state at → AreRootStates m at roots → AreRootStates m at (roots ++ root ∷ [])
states_more m at roots root here so r o =
    elim (one_of-append roots (root ∷ []) r o) [ inl a ↦ so r a | inr b ↦ elim b [ inl e ↦ subst (λ q. m.is_state q.state at) e here | inr n ↦ absurd n ] ]

-- states with the same numbers are equal
pub same_by_numbers : {S : Type 0} (m : Machine S) → IsStateText m → (s t : S) (at : ℕ) → m.is_state s at → m.is_state t at → m.numbers s at ≡ m.numbers t at → s ≡ t
same_by_numbers m text s t at i j e =
    let p : Some s ≡ Some t = sym (text.numbers_read s at i) ∙ (ap (λ ns. m.state_of ns at) e ∙ text.numbers_read t at j) in cc

-- a root whose numbers are listed has the state of one that is kept
pub one_listed : {S : Type 0} (m : Machine S) → IsStateText m → (at : ℕ) (kept : List (Root S)) (root : Root S) →
    AreRootStates m at kept → m.is_state root.state at → IsOneOf (map (λ r. m.numbers r.state at) kept) (m.numbers root.state at) →
    (other : Root S) × IsOneOf kept other × (other.state ≡ root.state)
one_listed m text at kept root states here o =
    let p = one_of-map (λ r. m.numbers r.state at) kept (m.numbers root.state at) o in
    (p.0, p.1, same_by_numbers m text p.0.state root.state at (states p.0 p.1) here p.2)

-- a root whose numbers are not has the state of none
pub none_listed : {S : Type 0} (m : Machine S) (at : ℕ) (kept : List (Root S)) (root : Root S) → (IsOneOf (map (λ r. m.numbers r.state at) kept) (m.numbers root.state at) → ⊥) →
    (r : Root S) → IsOneOf kept r → r.state ≡ root.state → ⊥
none_listed m at kept root none r o e =
    none (subst (IsOneOf (map (λ q. m.numbers q.state at) kept)) (ap (λ s. m.numbers s at) e) (one_of_map (λ q. m.numbers q.state at) kept r o))

-- one more list of numbers
pub listed_more : {X : Type 0} (f : X → List ℕ) (kept : List X) (x : X) (lists more : List (List ℕ)) (numbers : List ℕ) → more ≡ lists ++ numbers ∷ [] → lists ≡ map f kept → numbers ≡ f x →
    more ≡ map f (kept ++ x ∷ [])
listed_more f kept x lists more numbers is old new = is ∙ (ap (λ ls. ls ++ numbers ∷ []) old ∙ (ap (λ ns. map f kept ++ ns ∷ []) new ∙ sym (map-append f kept (x ∷ []))))

pub one_of_reverse : {X : Type 0} (xs : List X) (x : X) → IsOneOf xs x → IsOneOf (reverse xs) x
one_of_reverse [] x h = absurd h
one_of_reverse (z ∷ xs) x h =
    subst (λ ys. IsOneOf ys x) (sym (reverse_onto xs z []))
    (elim h [ inl e ↦ one_of-append_right (reverse xs) (z ∷ []) x (inl e) | inr t ↦ one_of-append_left (reverse xs) (z ∷ []) x (one_of_reverse xs x t) ])

pub pruned_reversed : {S : Type 0} (answers : S → S → Type 0) (roots kept turned : List (Root S)) → turned ≡ reverse kept → ArePruned answers roots kept → ArePruned answers roots turned
pruned_reversed answers roots kept turned is so = record {
  among = λ r o. so.among r (subst (λ ys. IsOneOf ys r) (ap reverse is ∙ reverse-reverse kept) (one_of_reverse turned r o));
  all = λ r o. (let p = so.all r o in (p.0, subst (λ ys. IsOneOf ys p.0) (sym is) (one_of_reverse kept p.0 p.1), p.2));
  few = let few = so.few in omega (arith, ap length is, length-reverse kept);
}

pub some_one : {X : Type 0} (xs : List X) (x : X) → IsOneOf xs x → 0 < length xs
some_one [] x o = absurd o
some_one (y ∷ xs) x o = omega arith

-- of some roots some are kept
pub some_pruned : {S : Type 0} (answers : S → S → Type 0) (roots kept : List (Root S)) → ArePruned answers roots kept → 0 < length roots → 0 < length kept
some_pruned answers [] kept so some = absurd (omega arith)
some_pruned answers (root ∷ roots) kept so some = (let p = so.all root (inl refl) in some_one kept p.0 p.1)
