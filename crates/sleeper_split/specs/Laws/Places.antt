-- Marks of split rests by their minutes, and by the places of the runs that they name.
use Rattle.std.proofs.Common.{◌≡◌, ℕ, ◌+◌, ◌-◌, ◌*◌, ◌<◌, ◌≤◌, Bool, true, false, cond, List, [], ◌∷◌, length, get_or, refl, sym, ◌∙◌, ap, subst, arith, inl, inr}
use Rattle.std.specs.Option.{option_to_list}
use Rattle.std.specs.Prelude.{None, Some, map, Contains, AllPairs, pos, ◌<ℤ◌, ◌-ℤ◌}
use Rattle.std.proofs.lemmas.Int.{ints}
use Rattle.std.proofs.lemmas.List.{length-map, get_or-map}
use Rattle.std.proofs.lemmas.List.Elements.{Contains-get_or}
use Rattle.duty_core.specs.declared.mark.Mark.{Mark}
use Rattle.duty_core.specs.declared.mark.Mark.TheVariants.{SplitRest, DeferDay}
use Rattle.duty_core.specs.declared.params.Params.{Params}
use Rattle.duty_core.specs.declared.limits.TheConstants.{PADDING_MINUTES}
use Rattle.duty_core.specs.History.{pad_units}
use Rattle.duty_core.specs.Params.{unit_minutes}
use Rattle.duty_core.specs.Marks.{mark_minute, AreInOrder, IsMinuteOf, IsSplitAt}
use Rattle.sleeper_split.specs.Choices.{declared}
use Rattle.sleeper_split.specs.Laws.Growth.{contains_none, contains_head, contains_tail, contains_cases}

-- a unit of the book is a minute, and the rest before a history has the same minutes in each such book
pub record IsOfMinutes (params : Params) : Type 0 where
  pub units : unit_minutes params ≡ 1
  pub pads : pad_units params ≡ PADDING_MINUTES

-- the minute of a place, without signs
pub minute_means : (params : Params) (first at k : ℕ) → IsOfMinutes params → IsMinuteOf params first at k → at + PADDING_MINUTES ≡ first + k
minute_means params first at k by h =
    let units : pos at ≡ (pos (first + 1 * k) -ℤ pos (1 * pad_units params)) = subst (λ u. pos at ≡ (pos (first + u * k) -ℤ pos (u * pad_units params))) by.units h in
    let pads : pos at ≡ (pos (first + 1 * k) -ℤ pos (1 * PADDING_MINUTES)) = subst (λ n. pos at ≡ (pos (first + 1 * k) -ℤ pos (1 * n))) by.pads units in
    omega (arith, ints)

pub means_minute : (params : Params) (first at k : ℕ) → IsOfMinutes params → at + PADDING_MINUTES ≡ first + k → IsMinuteOf params first at k
means_minute params first at k by h =
    let plain : pos at ≡ (pos (first + 1 * k) -ℤ pos (1 * PADDING_MINUTES)) = omega (arith, ints) in
    subst (λ u. pos at ≡ (pos (first + u * k) -ℤ pos (u * pad_units params))) (sym by.units) (subst (λ n. pos at ≡ (pos (first + 1 * k) -ℤ pos (1 * n))) (sym by.pads) plain)

-- # Lists

pub contains-map : {X Y : Type 0} (f : X → Y) (xs : List X) (y : Y) → Contains (map f xs) y → (x : X) × Contains xs x × (f x ≡ y)
contains-map f [] y h = absurd (contains_none y h)
contains-map f (x ∷ xs) y h = elim (contains_cases (f x) (map f xs) y h) [
  | inl e ↦ (x, contains_head x xs, e)
  | inr t ↦ (let q = contains-map f xs y t in (q.0, contains_tail x xs q.0 q.1, q.2))
]

pub contains_map : {X Y : Type 0} (f : X → Y) (xs : List X) (x : X) → Contains xs x → Contains (map f xs) (f x)
contains_map f [] x h = absurd (contains_none x h)
contains_map f (y ∷ xs) x h = elim (contains_cases y xs x h) [
  | inl e ↦ subst (λ z. Contains (f y ∷ map f xs) (f z)) e (contains_head (f y) (map f xs))
  | inr t ↦ contains_tail (f y) (map f xs) (f x) (contains_map f xs x t)
]

-- an order of the images, by one of the elements
pairs_map : {X Y : Type 0} (f : X → Y) (R : X → X → Type 0) (S : Y → Y → Type 0) (xs : List X) → ((a b : X) → Contains xs a → Contains xs b → R a b → S (f a) (f b)) → AllPairs R xs → AllPairs S (map f xs)
pairs_map f R S [] on h i j d l m = absurd (omega arith)
pairs_map f R S (x ∷ xs) on h i j d l m =
    let n : length (map f (x ∷ xs)) ≡ length (x ∷ xs) = length-map (x ∷ xs) f in
    let u : i < length (x ∷ xs) = omega arith in
    let v : j < length (x ∷ xs) = omega arith in
    subst (λ y. S y (get_or (map f (x ∷ xs)) j d)) (sym (get_or-map f (x ∷ xs) i x d u))
    (subst (λ y. S (f (get_or (x ∷ xs) i x)) y) (sym (get_or-map f (x ∷ xs) j x d v))
    (on (get_or (x ∷ xs) i x) (get_or (x ∷ xs) j x) (Contains-get_or (x ∷ xs) i x u) (Contains-get_or (x ∷ xs) j x v) (h i j x l v)))

-- # Marks and places

-- the mark of a run that begins at this place of a padded history, whose history begins at the minute `first`
abbrev pub mark_at : ℕ → ℕ → Mark
mark_at first k = SplitRest (first + k - PADDING_MINUTES)

-- Each of these places has a minute.
abbrev pub HaveMinutes : ℕ → List ℕ → Type 0
HaveMinutes first starts = (k : ℕ) → Contains starts k → PADDING_MINUTES ≤ first + k

pub marked_place : (params : Params) (first : ℕ) (starts : List ℕ) (k : ℕ) → IsOfMinutes params → HaveMinutes first starts →
    IsSplitAt params first (map (mark_at first) starts) k → Contains starts k
marked_place params first starts k by have h =
    let q = contains-map (mark_at first) starts (SplitRest h.at) h.marked in
    let e : first + q.0 - PADDING_MINUTES ≡ h.at = cc in
    let l = have q.0 q.1 in
    let m = minute_means params first h.at k by h.minute in
    let same : q.0 ≡ k = omega arith in
    subst (Contains starts) same q.1

pub place_marked : (params : Params) (first : ℕ) (starts : List ℕ) (k : ℕ) → IsOfMinutes params → HaveMinutes first starts → Contains starts k →
    IsSplitAt params first (map (mark_at first) starts) k
place_marked params first starts k by have h = let l = have k h in record {
  at = first + k - PADDING_MINUTES;
  minute = means_minute params first (first + k - PADDING_MINUTES) k by (omega arith);
  marked = contains_map (mark_at first) starts k h;
}

less_means : (a b : ℕ) → pos a <ℤ pos b → a < b
less_means a b h = omega (arith, ints)

means_less : (a b : ℕ) → a < b → pos a <ℤ pos b
means_less a b h = omega (arith, ints)

-- places in order have marks in order
pub marks_ordered : (params : Params) (first : ℕ) (starts : List ℕ) → HaveMinutes first starts → AllPairs (λ a b. a < b) starts → AreInOrder params (map (mark_at first) starts)
marks_ordered params first starts have h =
    pairs_map (mark_at first) (λ a b. a < b) (λ m n. mark_minute params m <ℤ mark_minute params n) starts
    (λ a b i j l. let u = have a i in let v = have b j in means_less (first + a - PADDING_MINUTES) (first + b - PADDING_MINUTES) (omega arith)) h

-- the place that a mark names
abbrev pub place_of : ℕ → Mark → ℕ
place_of first (SplitRest at) = at + PADDING_MINUTES - first
place_of first (DeferDay day) = 0

-- The mark names some place.
abbrev pub HasPlace : ℕ → Mark → Type 0
HasPlace first (SplitRest at) = first ≤ at + PADDING_MINUTES
HasPlace first (DeferDay day) = ⊥

mark_again : (first : ℕ) (m : Mark) → HasPlace first m → m ≡ mark_at first (place_of first m)
mark_again first (SplitRest at) h = ap (λ n. SplitRest n) (let e : at ≡ first + (at + PADDING_MINUTES - first) - PADDING_MINUTES = omega arith in e)
mark_again first (DeferDay day) h = absurd h

-- such marks are those of their places
pub marks_again : (first : ℕ) (marks : List Mark) → ((m : Mark) → Contains marks m → HasPlace first m) → marks ≡ map (mark_at first) (map (place_of first) marks)
marks_again first [] h = refl
marks_again first (m ∷ marks) h =
    ap (λ n. n ∷ marks) (mark_again first m (h m (contains_head m marks))) ∙ ap (λ ms. mark_at first (place_of first m) ∷ ms) (marks_again first marks (λ n i. h n (contains_tail m marks n i)))

place_has_minute : (first : ℕ) (m : Mark) → HasPlace first m → PADDING_MINUTES ≤ first + place_of first m
place_has_minute first (SplitRest at) h = omega arith
place_has_minute first (DeferDay day) h = absurd h

pub places_have : (first : ℕ) (marks : List Mark) → ((m : Mark) → Contains marks m → HasPlace first m) → HaveMinutes first (map (place_of first) marks)
places_have first marks h k i =
    let q = contains-map (place_of first) marks k i in
    subst (λ n. PADDING_MINUTES ≤ first + n) q.2 (place_has_minute first q.0 (h q.0 q.1))

places_less : (params : Params) (first : ℕ) (m n : Mark) → HasPlace first m → HasPlace first n → mark_minute params m <ℤ mark_minute params n → place_of first m < place_of first n
places_less params first (SplitRest a) (SplitRest b) h g l = let z = less_means a b l in omega arith
places_less params first (SplitRest a) (DeferDay b) h g l = absurd g
places_less params first (DeferDay a) n h g l = absurd h

pub places_ordered : (params : Params) (first : ℕ) (marks : List Mark) → ((m : Mark) → Contains marks m → HasPlace first m) → AreInOrder params marks → AllPairs (λ a b. a < b) (map (place_of first) marks)
places_ordered params first marks h o =
    pairs_map (place_of first) (λ m n. mark_minute params m <ℤ mark_minute params n) (λ a b. a < b) marks
    (λ m n i j l. places_less params first m n (h m i) (h n j) l) o

same_place : (first a b : ℕ) → PADDING_MINUTES ≤ first + a → PADDING_MINUTES ≤ first + b → mark_at first a ≡ mark_at first b → a ≡ b
same_place first a b l m e = let f : first + a - PADDING_MINUTES ≡ first + b - PADDING_MINUTES = cc in omega arith

-- one list of marks has one list of places
pub places_once : (first : ℕ) (xs ys : List ℕ) → HaveMinutes first xs → HaveMinutes first ys → map (mark_at first) xs ≡ map (mark_at first) ys → xs ≡ ys
places_once first [] [] h g e = refl
places_once first [] (y ∷ ys) h g e = absurd (let z : [] ≡ mark_at first y ∷ map (mark_at first) ys = e in cc)
places_once first (x ∷ xs) [] h g e = absurd (let z : mark_at first x ∷ map (mark_at first) xs ≡ [] = e in cc)
places_once first (x ∷ xs) (y ∷ ys) h g e =
    let a : mark_at first x ≡ mark_at first y = cc in
    let b : map (mark_at first) xs ≡ map (mark_at first) ys = cc in
    let p : x ≡ y = same_place first x y (h x (contains_head x xs)) (g y (contains_head y ys)) a in
    let q : xs ≡ ys = places_once first xs ys (λ k i. h k (contains_tail x xs k i)) (λ k i. g k (contains_tail y ys k i)) b in
    cc

same_minute : (first at i run : ℕ) → at + PADDING_MINUTES ≡ first + i → run ≤ i → first + (i - run) - PADDING_MINUTES ≡ at - run
same_minute first at i run e l = omega arith

-- the mark of a run that a choice declares
pub named_choice : (split : Bool) (first at i run : ℕ) → at + PADDING_MINUTES ≡ first + i → run ≤ i → option_to_list (cond split (Some (SplitRest (at - run))) None) ≡ map (mark_at first) (declared split (i - run))
named_choice false first at i run e l = refl
named_choice true first at i run e l = ap (λ m. SplitRest m ∷ []) (sym (same_minute first at i run e l))
