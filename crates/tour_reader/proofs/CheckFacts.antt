-- Looking for a repeated name, one name after the other, as a loop does.
use Rattle.std.proofs.Common.{◌≡◌, ℕ, ◌+◌, ◌≤◌, ◌<◌, ◌||◌, List, [], ◌∷◌, ◌++◌, drop, length, map, get_or, not, Bool, true, false, cond, bytes_eq, Option, Some, None, Bor, refl, sym, ap, ◌∙◌, arith, if◌then◌else◌}
use Rattle.std.specs.List.{list_any}
use Rattle.std.proofs.lemmas.List.{map_push}
use Rattle.tour_reader.specs.declared.written.WrittenStop.{WrittenStop}
use Rattle.tour_reader.specs.Checks.{stop_names, first_repeated}
use Rattle.tour_reader.proofs.Lists.{left_at, left_none}

-- the names that a set's keys refer to
abbrev pub held : List (Bor (List ℕ)) → List (List ℕ)
held keys = map (λ key. key.now) keys

any_held : (name : List ℕ) (keys : List (Bor (List ℕ))) → list_any (bytes_eq name) (held keys) ≡ list_any (λ key. bytes_eq name key.now) keys
any_held name [] = refl
any_held name (key ∷ keys) = ap (λ b. bytes_eq name key.now || b) (any_held name keys)

-- the names from a place on
left_names : (stops : List WrittenStop) (i : ℕ) (stop : WrittenStop) → i < length stops → stop ≡ get_or stops i stop → drop i (stop_names stops) ≡ stop.name ∷ drop (i + 1) (stop_names stops)
left_names stops i stop lt is = left_at (λ stop. stop.name) stops i stop lt is

at_first : (before : List (List ℕ)) (name : List ℕ) (names : List (List ℕ)) (b : Bool) → list_any (bytes_eq name) before ≡ b → first_repeated before (name ∷ names) ≡ cond b (Some name) (first_repeated (before ++ name ∷ []) names)
at_first before name names b is = rw is refl

pub names_more : (keys new : List (Bor (List ℕ))) (stops : List WrittenStop) (i : ℕ) (stop : WrittenStop) (name : Bor (List ℕ)) (total : Option (List ℕ)) → i < length stops → stop ≡ get_or stops i stop → name.now ≡ stop.name
    → true ≡ not (list_any (λ key. bytes_eq name.now key.now) keys) → new ≡ (if list_any (λ key. bytes_eq name.now key.now) keys then keys else keys ++ name ∷ [])
    → first_repeated (held keys) (drop i (stop_names stops)) ≡ total → first_repeated (held new) (drop (i + 1) (stop_names stops)) ≡ total
names_more keys new stops i stop name total lt is named added keeps so_far =
    let absent : list_any (λ key. bytes_eq name.now key.now) keys ≡ false = grind arith in
    let new_is : new ≡ keys ++ name ∷ [] = keeps ∙ rw absent refl in
    let held_is : held new ≡ held keys ++ name.now ∷ [] = ap held new_is ∙ map_push _ keys name in
    let left : drop i (stop_names stops) ≡ name.now ∷ drop (i + 1) (stop_names stops) = rw named (left_names stops i stop lt is) in
    ap (λ (ks : List (List ℕ)). first_repeated ks (drop (i + 1) (stop_names stops))) held_is
    ∙ sym (at_first (held keys) name.now (drop (i + 1) (stop_names stops)) false (any_held name.now keys ∙ absent))
    ∙ sym (ap (first_repeated (held keys)) left) ∙ so_far

pub names_stop : (keys : List (Bor (List ℕ))) (stops : List WrittenStop) (i : ℕ) (stop : WrittenStop) (name : List ℕ) (total : Option (List ℕ)) → i < length stops → stop ≡ get_or stops i stop → name ≡ stop.name
    → false ≡ not (list_any (λ key. bytes_eq name key.now) keys) → first_repeated (held keys) (drop i (stop_names stops)) ≡ total → Some stop.name ≡ total
names_stop keys stops i stop name total lt is named added so_far =
    let there : list_any (λ key. bytes_eq name key.now) keys ≡ true = grind arith in
    let left : drop i (stop_names stops) ≡ name ∷ drop (i + 1) (stop_names stops) = rw named (left_names stops i stop lt is) in
    ap (λ (n : List ℕ). Some n) (sym named)
    ∙ sym (at_first (held keys) name (drop (i + 1) (stop_names stops)) true (any_held name keys ∙ there))
    ∙ sym (ap (first_repeated (held keys)) left) ∙ so_far

pub names_all : (keys : List (Bor (List ℕ))) (stops : List WrittenStop) (i : ℕ) (total : Option (List ℕ)) → length stops ≤ i → first_repeated (held keys) (drop i (stop_names stops)) ≡ total → None ≡ total
names_all keys stops i total le so_far = sym (ap (first_repeated (held keys)) (left_none (λ stop. stop.name) stops i le)) ∙ so_far
