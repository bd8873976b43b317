-- Lists of marks: their order leaves one list with the same members, and the marks of a list that pass a fact are a list in order.
use Rattle.std.proofs.Common.{Bool, true, false, ◌≡◌, ℕ, ◌<◌, List, [], ◌∷◌, length, sym, refl, ◌∙◌, ap, subst, arith, inl, inr, ◌⊎◌, zero, suc, get_or}
use Rattle.std.specs.Prelude.{◌<ℤ◌, Contains, AllPairs}
use Rattle.std.proofs.lemmas.Int.{ints}
use Rattle.std.proofs.lemmas.List.Elements.{Contains-get_or}
use Rattle.std.proofs.lemmas.List.Kept.{AllPairs-cons}
use Rattle.duty_core.specs.declared.mark.Mark.{Mark}
use Rattle.duty_core.specs.declared.params.Params.{Params}
use Rattle.duty_core.specs.Params.{terms_of}
use Rattle.duty_core.specs.Marks.{mark_minute, AreInOrder, AreMarksIf, AreMarks}

-- # Members

pub no_member : {X : Type 0} (x : X) → Contains [] x → ⊥
no_member x c = let l = c.1 in absurd (omega arith)

pub contains_head : {X : Type 0} (x : X) (xs : List X) → Contains (x ∷ xs) x
contains_head x xs = (0, omega arith, refl)

pub contains_after : {X : Type 0} (x : X) (xs : List X) (y : X) → Contains xs y → Contains (x ∷ xs) y
contains_after x xs y c = let l = c.1 in (suc c.0, omega arith, c.2)

contains_at : {X : Type 0} (x : X) (xs : List X) (y : X) (k : ℕ) → k < length (x ∷ xs) → get_or (x ∷ xs) k y ≡ y → (x ≡ y) ⊎ Contains xs y
contains_at x xs y zero l e = inl e
contains_at x xs y (suc k) l e = inr (k, omega arith, e)

-- a member is the first one or one of the others
pub contains_cases : {X : Type 0} (x : X) (xs : List X) (y : X) → Contains (x ∷ xs) y → (x ≡ y) ⊎ Contains xs y
contains_cases x xs y c = contains_at x xs y c.0 c.1 c.2

-- # Order

pairs_head : {X : Type 0} (R : X → X → Type 0) (x : X) (xs : List X) (y : X) → AllPairs R (x ∷ xs) → Contains xs y → R x y
pairs_head R x xs y g c = let l = c.1 in subst (R x) c.2 (g 0 (suc c.0) y (omega arith) (omega arith))

pairs_tail : {X : Type 0} (R : X → X → Type 0) (x : X) (xs : List X) → AllPairs R (x ∷ xs) → AllPairs R xs
pairs_tail R x xs g i j d l m = g (suc i) (suc j) d (omega arith) (omega arith)

-- no two stand each before the other
abbrev pub IsOneWay : {X : Type 0} → (X → X → Type 0) → Type 0
IsOneWay {X} R = (x y : X) → R x y → R y x → ⊥

-- two lists in order that begin with x and y, where each has the members of the other
same_head : {X : Type 0} (R : X → X → Type 0) → IsOneWay R → (x : X) (xs : List X) (y : X) (ys : List X) → AllPairs R (x ∷ xs) → AllPairs R (y ∷ ys) → Contains (y ∷ ys) x → Contains (x ∷ xs) y → x ≡ y
same_head R way x xs y ys g h c d = elim (contains_cases y ys x c) [
  | inl e ↦ sym e
  | inr m ↦ elim (contains_cases x xs y d) [
    | inl e ↦ e
    | inr n ↦ absurd (way x y (pairs_head R x xs y g n) (pairs_head R y ys x h m))
  ]
]

-- a member of the one tail is a member of the other
same_tail : {X : Type 0} (R : X → X → Type 0) → IsOneWay R → (x : X) (xs : List X) (y : X) (ys : List X) → AllPairs R (x ∷ xs) → x ≡ y → (z : X) → Contains xs z → Contains (y ∷ ys) z → Contains ys z
same_tail R way x xs y ys g e z c d = elim (contains_cases y ys z d) [
  | inl s ↦ (let r : R z z = subst (λ w. R w z) (e ∙ s) (pairs_head R x xs z g c) in absurd (way z z r r))
  | inr m ↦ m
]

-- two lists in order with the same members are equal
pub same_list : {X : Type 0} (R : X → X → Type 0) → IsOneWay R → (xs ys : List X) → AllPairs R xs → AllPairs R ys →
    ((x : X) → Contains xs x → Contains ys x) → ((x : X) → Contains ys x → Contains xs x) → xs ≡ ys
same_list R way [] [] g h f b = refl
same_list R way [] (y ∷ ys) g h f b = absurd (no_member y (b y (contains_head y ys)))
same_list R way (x ∷ xs) [] g h f b = absurd (no_member x (f x (contains_head x xs)))
same_list R way (x ∷ xs) (y ∷ ys) g h f b =
    let e : x ≡ y = same_head R way x xs y ys g h (f x (contains_head x xs)) (b y (contains_head y ys)) in
    let t : xs ≡ ys =
    same_list R way xs ys (pairs_tail R x xs g) (pairs_tail R y ys h)
    (λ z c. same_tail R way x xs y ys g e z c (f z (contains_after x xs z c)))
    (λ z c. same_tail R way y ys x xs h (sym e) z c (b z (contains_after y ys z c))) in
    cc

-- # The members of a list of which a fact holds

pub record IsPart {X : Type 0} (R : X → X → Type 0) (K : X → Type 0) (xs part : List X) : Type 0 where
  pub in_order : AllPairs R part
  pub of_list : (x : X) → Contains part x → Contains xs x
  pub holds : (x : X) → Contains part x → K x
  pub kept : (x : X) → Contains xs x → K x → Contains part x

part_with : {X : Type 0} (R : X → X → Type 0) (K : X → Type 0) (x : X) (xs part : List X) → AllPairs R (x ∷ xs) → K x → IsPart R K xs part → IsPart R K (x ∷ xs) (x ∷ part)
part_with R K x xs part g holds_of h = record {
  in_order = AllPairs-cons R x part (λ k d l. pairs_head R x xs (get_or part k d) g (h.of_list (get_or part k d) (Contains-get_or part k d l))) h.in_order;
  of_list = λ y c. elim (contains_cases x part y c) [ inl e ↦ subst (Contains (x ∷ xs)) e (contains_head x xs) | inr m ↦ contains_after x xs y (h.of_list y m) ];
  holds = λ y c. elim (contains_cases x part y c) [ inl e ↦ subst K e holds_of | inr m ↦ h.holds y m ];
  kept = λ y c k. elim (contains_cases x xs y c) [ inl e ↦ subst (Contains (x ∷ part)) e (contains_head x part) | inr m ↦ contains_after x part y (h.kept y m k) ];
}

part_without : {X : Type 0} (R : X → X → Type 0) (K : X → Type 0) (x : X) (xs part : List X) → (K x → ⊥) → IsPart R K xs part → IsPart R K (x ∷ xs) part
part_without R K x xs part none h = record {
  in_order = h.in_order;
  of_list = λ y c. contains_after x xs y (h.of_list y c);
  holds = h.holds;
  kept = λ y c k. elim (contains_cases x xs y c) [ inl e ↦ absurd (none (subst K (sym e) k)) | inr m ↦ h.kept y m k ];
}

-- where the fact can be told of each member, such a list exists
pub has_part : {X : Type 0} (R : X → X → Type 0) (K : X → Type 0) (xs : List X) → AllPairs R xs → ((x : X) → Contains xs x → K x ⊎ (K x → ⊥)) → (part : List X) × IsPart R K xs part
has_part R K [] g told = ([], record { in_order = g; of_list = λ x c. c; holds = λ x c. absurd (no_member x c); kept = λ x c k. c })
has_part R K (x ∷ xs) g told =
    let h = has_part R K xs (pairs_tail R x xs g) (λ y c. told y (contains_after x xs y c)) in
    elim (told x (contains_head x xs)) [
      | inl k ↦ (x ∷ h.0, part_with R K x xs h.0 g k h.1)
      | inr none ↦ (h.0, part_without R K x xs h.0 none h.1)
    ]

-- # Marks

-- a list with no members is empty
pub no_members : {X : Type 0} (xs : List X) → ((x : X) → Contains xs x → ⊥) → xs ≡ []
no_members [] none = refl
no_members (x ∷ xs) none = absurd (none x (contains_head x xs))

time_is_one_way : (params : Params) → IsOneWay (λ m n. mark_minute params m <ℤ mark_minute params n)
time_is_one_way params m n l k = omega (arith, ints)

-- two lists of marks, strictly increasing in time, with the same members are equal
pub same_marks : (params : Params) (marks others : List Mark) → AreInOrder params marks → AreInOrder params others →
    ((m : Mark) → Contains marks m → Contains others m) → ((m : Mark) → Contains others m → Contains marks m) → marks ≡ others
same_marks params marks others = same_list (λ m n. mark_minute params m <ℤ mark_minute params n) (time_is_one_way params) marks others

in_order_if : (has : Bool) (params : Params) (marks : List Mark) → AreMarksIf has params marks → AreInOrder params marks
in_order_if true params marks h = h
in_order_if false params marks h = λ i j d l k. absurd (let e : length marks ≡ 0 = ap length h in omega arith)

-- marks of a book are in order
pub marks_in_order : (params : Params) (marks : List Mark) → AreMarks params marks → AreInOrder params marks
marks_in_order params marks h = in_order_if (terms_of params).has_marks params marks h

of_part_if : (has : Bool) (params : Params) (marks part : List Mark) → AreMarksIf has params marks → AreInOrder params part → ((m : Mark) → Contains part m → Contains marks m) → AreMarksIf has params part
of_part_if true params marks part h g f = g
of_part_if false params marks part h g f = no_members part (λ m c. no_member m (subst (λ l. Contains l m) h (f m c)))

-- some of the marks of a book, in order, are marks of it
pub marks_of_part : (params : Params) (marks part : List Mark) → AreMarks params marks → AreInOrder params part → ((m : Mark) → Contains part m → Contains marks m) → AreMarks params part
marks_of_part params marks part h g f = of_part_if (terms_of params).has_marks params marks part h g f

none_if : (has : Bool) (params : Params) → AreMarksIf has params []
none_if true params = λ i j d l m. absurd (omega arith)
none_if false params = refl

-- a history of any book may have no marks
pub no_marks : (params : Params) → AreMarks params []
no_marks params = none_if (terms_of params).has_marks params
