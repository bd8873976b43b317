-- The pieces of a word, stop by stop.
use Rattle.std.proofs.Common.{◌≡◌, ℕ, zero, suc, ◌+◌, ◌-◌, ◌<◌, ◌≤◌, false, cond, refl, sym, ◌∙◌, ap, arith, inl, inr, List, ◌∷◌, ◌++◌, length, replicate}
use Rattle.std.specs.Prelude.{Option, Some, slice_get, ◌==◌}
use Rattle.std.proofs.lemmas.List.{length-replicate, length-append}
use Rattle.std.proofs.lemmas.Bool.{lt-ltb, le-ltb, eq-eqb, ne_eqb, cases_lt, cases_eq}
use Rattle.tour_model.specs.declared.stop.Stop.{Stop}
use Rattle.tour_model.specs.declared.piece.Piece.{Piece}
use Rattle.tour_model.specs.declared.piece.Piece.TheVariants as piece
use Rattle.tour_model.specs.Stop.{piece_in}
use Rattle.tour_model.specs.Word.{service_word, word_from}

get_front : (m i : ℕ) (y : Piece) (ps : List Piece) → i < m → slice_get (replicate m y ++ ps) i ≡ Some y
get_front zero i y ps l = absurd (omega arith)
get_front (suc m) zero y ps l = refl
get_front (suc m) (suc i) y ps l = get_front m i y ps (omega arith)

get_after : (m i j : ℕ) (y : Piece) (ps : List Piece) → i ≡ m + j → slice_get (replicate m y ++ ps) i ≡ slice_get ps j
get_after zero i j y ps e = ap (slice_get ps) (let f : i ≡ j = omega arith in f)
get_after (suc m) zero j y ps e = absurd (omega arith)
get_after (suc m) (suc i) j y ps e = get_after m i j y ps (omega arith)

get_service : (m i number : ℕ) (ps : List Piece) → i < m → slice_get (service_word number m ++ ps) i ≡ Some (piece.Serve number (i == 0))
get_service zero i number ps l = absurd (omega arith)
get_service (suc m) zero number ps l = refl
get_service (suc m) (suc i) number ps l = get_front m i (piece.Serve number false) ps (omega arith) ∙ ap (λ t. Some (piece.Serve number t)) (sym (ne_eqb (suc i) 0 (λ e. (omega arith))))

get_after_service : (m i j number : ℕ) (ps : List Piece) → i ≡ m + j → slice_get (service_word number m ++ ps) i ≡ slice_get ps j
get_after_service zero i j number ps e = ap (slice_get ps) (let f : i ≡ j = omega arith in f)
get_after_service (suc m) zero j number ps e = absurd (omega arith)
get_after_service (suc m) (suc i) j number ps e = get_after m i j (piece.Serve number false) ps (omega arith)

same_test : (a b : ℕ) → b ≤ a → ((a - b) == 0) ≡ (a == b)
same_test a b l = elim (cases_eq a b) [
  | inl e ↦ eq-eqb (a - b) 0 (omega arith) ∙ sym (eq-eqb a b e)
  | inr n ↦ ne_eqb (a - b) 0 (λ e. n (omega arith)) ∙ sym (ne_eqb a b n)
]

-- the piece of a stop in progress
pub piece_here : (s : Stop) (number left : ℕ) (stops : List Stop) → left < s.drive + s.service → slice_get (word_from number (s ∷ stops)) left ≡ Some (piece_in s number left)
piece_here s number left stops l = elim (cases_lt left s.drive) [
  | inl d ↦ (
      get_front s.drive left (piece.Drive number) (service_word number s.service ++ word_from (number + 1) stops) d
      ∙ sym (ap (λ t. Some (cond t (piece.Drive number) (piece.Serve number (left == s.drive)))) (lt-ltb left s.drive d))
      )
  | inr d ↦ (
      get_after s.drive left (left - s.drive) (piece.Drive number) (service_word number s.service ++ word_from (number + 1) stops) (omega arith)
      ∙ (get_service s.service (left - s.drive) number (word_from (number + 1) stops) (omega arith)
      ∙ (ap (λ t. Some (piece.Serve number t)) (same_test left s.drive d)
      ∙ sym (ap (λ t. Some (cond t (piece.Drive number) (piece.Serve number (left == s.drive)))) (le-ltb left s.drive d))))
      )
]

-- the pieces after a stop
pub piece_past : (s : Stop) (number left : ℕ) (stops : List Stop) → s.drive + s.service ≤ left →
    slice_get (word_from number (s ∷ stops)) left ≡ slice_get (word_from (number + 1) stops) (left - (s.drive + s.service))
piece_past s number left stops l =
    get_after s.drive left (left - s.drive) (piece.Drive number) (service_word number s.service ++ word_from (number + 1) stops) (omega arith)
    ∙ get_after_service s.service (left - s.drive) (left - (s.drive + s.service)) number (word_from (number + 1) stops) (omega arith)

length-service : (number m : ℕ) → length (service_word number m) ≡ m
length-service number zero = refl
length-service number (suc m) = let e = length-replicate m (piece.Serve number false) in omega arith

-- the number of pieces of a stop and of those after it
pub length-word : (s : Stop) (number : ℕ) (stops : List Stop) → length (word_from number (s ∷ stops)) ≡ s.drive + s.service + length (word_from (number + 1) stops)
length-word s number stops =
    let a = length-append (replicate s.drive (piece.Drive number)) (service_word number s.service ++ word_from (number + 1) stops) in
    let b = length-append (service_word number s.service) (word_from (number + 1) stops) in
    let c = length-replicate s.drive (piece.Drive number) in
    let d = length-service number s.service in
    omega arith

-- The pieces that are left, where the first stop that is left is s.
pub piece_now : (stops rest : List Stop) (s : Stop) (i left : ℕ) (o : Option Piece) → stops ≡ s ∷ rest → o ≡ slice_get (word_from i stops) left → left < s.drive + s.service → o ≡ Some (piece_in s i left)
piece_now stops rest s i left o e h l = h ∙ (ap (λ ss. slice_get (word_from i ss) left) e ∙ piece_here s i left rest l)

pub piece_later : (stops rest : List Stop) (s : Stop) (i left : ℕ) (o : Option Piece) → stops ≡ s ∷ rest → o ≡ slice_get (word_from i stops) left → s.drive + s.service ≤ left →
    o ≡ slice_get (word_from (i + 1) rest) (left - (s.drive + s.service))
piece_later stops rest s i left o e h l = h ∙ (ap (λ ss. slice_get (word_from i ss) left) e ∙ piece_past s i left rest l)
