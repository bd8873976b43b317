-- The earliest end, stop by stop.
use Rattle.std.proofs.Common.{◌≡◌, ℕ, zero, suc, ◌+◌, ◌-◌, ◌<◌, ◌≤◌, false, cond, refl, sym, ◌∙◌, ap, subst, arith, inl, inr, List, [], ◌∷◌, ◌++◌, length, replicate, drop}
use Rattle.std.specs.Prelude.{Option, None, Some}
use Rattle.std.specs.Option.{option_and_then, option_map}
use Rattle.std.proofs.lemmas.List.{drop_all}
use Rattle.std.proofs.lemmas.Bool.{lt-ltb, le-ltb, cases_lt}
use Rattle.tour_model.specs.declared.window.Window.{Window}
use Rattle.tour_model.specs.declared.stop.Stop.{Stop}
use Rattle.tour_model.specs.declared.piece.Piece.{Piece}
use Rattle.tour_model.specs.declared.piece.Piece.TheVariants as piece
use Rattle.tour_model.specs.Window.{first_open}
use Rattle.tour_model.specs.Stop.{leaves_at}
use Rattle.tour_model.specs.Word.{service_word, word_from}
use Rattle.tour_model.specs.Eta.{end_after}
use Rattle.tour_model.specs.Laws.ServeLaws.{AreNumbered}

drop_front : (m i j : ℕ) (y : Piece) (ps : List Piece) → i + j ≡ m → drop i (replicate m y ++ ps) ≡ replicate j y ++ ps
drop_front m zero j y ps e = ap (λ n. replicate n y ++ ps) (let f : m ≡ j = omega arith in f)
drop_front zero (suc i) j y ps e = absurd (omega arith)
drop_front (suc m) (suc i) j y ps e = drop_front m i j y ps (omega arith)

drop_after : (m i j : ℕ) (y : Piece) (ps : List Piece) → i ≡ m + j → drop i (replicate m y ++ ps) ≡ drop j ps
drop_after zero i j y ps e = ap (λ n. drop n ps) (let f : i ≡ j = omega arith in f)
drop_after (suc m) zero j y ps e = absurd (omega arith)
drop_after (suc m) (suc i) j y ps e = drop_after m i j y ps (omega arith)

drop_after_service : (m i j number : ℕ) (ps : List Piece) → i ≡ m + j → drop i (service_word number m ++ ps) ≡ drop j ps
drop_after_service zero i j number ps e = ap (λ n. drop n ps) (let f : i ≡ j = omega arith in f)
drop_after_service (suc m) zero j number ps e = absurd (omega arith)
drop_after_service (suc m) (suc i) j number ps e = drop_after m i j (piece.Serve number false) ps (omega arith)

-- what is left after a stop
pub left_past : (s : Stop) (number left : ℕ) (stops : List Stop) → s.drive + s.service ≤ left →
    drop left (word_from number (s ∷ stops)) ≡ drop (left - (s.drive + s.service)) (word_from (number + 1) stops)
left_past s number left stops l =
    drop_after s.drive left (left - s.drive) (piece.Drive number) (service_word number s.service ++ word_from (number + 1) stops) (omega arith)
    ∙ drop_after_service s.service (left - s.drive) (left - (s.drive + s.service)) number (word_from (number + 1) stops) (omega arith)

end_drives : (windows : ℕ → List Window) (number m k j : ℕ) (ps : List Piece) → k + m ≡ j → end_after windows k (replicate m (piece.Drive number) ++ ps) ≡ end_after windows j ps
end_drives windows number zero k j ps e = ap (λ n. end_after windows n ps) (let f : k ≡ j = omega arith in f)
end_drives windows number (suc m) k j ps e = end_drives windows number m (k + 1) j ps (omega arith)

end_serves : (windows : ℕ → List Window) (number m k j : ℕ) (ps : List Piece) → k + m ≡ j → end_after windows k (replicate m (piece.Serve number false) ++ ps) ≡ end_after windows j ps
end_serves windows number zero k j ps e = ap (λ n. end_after windows n ps) (let f : k ≡ j = omega arith in f)
end_serves windows number (suc m) k j ps e = end_serves windows number m (k + 1) j ps (omega arith)

then_map : (f g : ℕ → Option ℕ) (m : ℕ) (o : Option ℕ) → ((b : ℕ) → g b ≡ f (b + m)) → option_and_then g o ≡ option_and_then f (option_map (λ b. b + m) o)
then_map f g m None h = refl
then_map f g m (Some b) h = h b

-- where the service has begun
in_service : (windows : ℕ → List Window) (s : Stop) (service number at left : ℕ) (ps : List Piece) → s.service ≡ service → 1 ≤ service → s.drive < left → left < s.drive + service →
    end_after windows at (drop left (replicate s.drive (piece.Drive number) ++ (service_word number service ++ ps))) ≡ option_and_then (λ a. end_after windows a ps) (leaves_at s at left)
in_service windows s zero number at left ps e l d w = absurd (omega arith)
in_service windows s (suc more) number at left ps e l d w =
    let j = left - s.drive - 1 in
    let is : left ≡ s.drive + suc j = omega arith in
    ap (end_after windows at) (drop_after s.drive left (suc j) (piece.Drive number) (service_word number (suc more) ++ ps) is)
    ∙ (ap (end_after windows at) (drop_front more j (more - j) (piece.Serve number false) ps (omega arith))
    ∙ (end_serves windows number (more - j) at (at + (s.drive + s.service - left)) ps (omega arith)
    ∙ sym (ap (λ t. option_and_then (λ a. end_after windows a ps) (cond t (Some (at + (s.drive + s.service - left))) (option_map (λ begins. begins + s.service) (first_open s.windows (at + (s.drive - left))))))
    (lt-ltb s.drive left d))))

-- before the service
on_the_way : (windows : ℕ → List Window) (s : Stop) (service number at left : ℕ) (ps : List Piece) → s.service ≡ service → 1 ≤ service → windows number ≡ s.windows → left ≤ s.drive →
    end_after windows at (drop left (replicate s.drive (piece.Drive number) ++ (service_word number service ++ ps))) ≡ option_and_then (λ a. end_after windows a ps) (leaves_at s at left)
on_the_way windows s zero number at left ps e l w d = absurd (omega arith)
on_the_way windows s (suc more) number at left ps e l w d =
    ap (end_after windows at) (drop_front s.drive left (s.drive - left) (piece.Drive number) (service_word number (suc more) ++ ps) (omega arith))
    ∙ (end_drives windows number (s.drive - left) at (at + (s.drive - left)) (service_word number (suc more) ++ ps) refl
    ∙ (ap (λ ws. option_and_then (λ b. end_after windows (b + 1) (replicate more (piece.Serve number false) ++ ps)) (first_open ws (at + (s.drive - left)))) w
    ∙ (then_map (λ a. end_after windows a ps) (λ b. end_after windows (b + 1) (replicate more (piece.Serve number false) ++ ps)) s.service (first_open s.windows (at + (s.drive - left)))
    (λ b. end_serves windows number more (b + 1) (b + s.service) ps (omega arith))
    ∙ sym (ap (λ t. option_and_then (λ a. end_after windows a ps) (cond t (Some (at + (s.drive + s.service - left))) (option_map (λ begins. begins + s.service) (first_open s.windows (at + (s.drive - left))))))
    (le-ltb s.drive left d)))))

-- The end is that of the stops after, from where the stop in progress is left.
pub end_here : (windows : ℕ → List Window) (s : Stop) (number at left : ℕ) (stops : List Stop) → 1 ≤ s.service → windows number ≡ s.windows → left < s.drive + s.service →
    end_after windows at (drop left (word_from number (s ∷ stops))) ≡ option_and_then (λ a. end_after windows a (word_from (number + 1) stops)) (leaves_at s at left)
end_here windows s number at left stops l w b = elim (cases_lt s.drive left) [
  | inl d ↦ in_service windows s s.service number at left (word_from (number + 1) stops) refl l d b
  | inr d ↦ on_the_way windows s s.service number at left (word_from (number + 1) stops) refl l w d
]

-- The same, where the first stop that is left is s.
pub end_now : (windows : ℕ → List Window) (stops rest : List Stop) (s : Stop) (i at left : ℕ) (o : Option ℕ) → stops ≡ s ∷ rest → AreNumbered windows i stops → 1 ≤ s.service →
    o ≡ end_after windows at (drop left (word_from i stops)) → left < s.drive + s.service → o ≡ option_and_then (λ a. end_after windows a (word_from (i + 1) rest)) (leaves_at s at left)
end_now windows stops rest s i at left o e w v h l =
    let n = subst (AreNumbered windows i) e w in
    h ∙ (ap (λ ss. end_after windows at (drop left (word_from i ss))) e ∙ end_here windows s i at left rest v n.0 l)

pub end_later : (windows : ℕ → List Window) (stops rest : List Stop) (s : Stop) (i at left : ℕ) (o : Option ℕ) → stops ≡ s ∷ rest →
    o ≡ end_after windows at (drop left (word_from i stops)) → s.drive + s.service ≤ left → o ≡ end_after windows at (drop (left - (s.drive + s.service)) (word_from (i + 1) rest))
end_later windows stops rest s i at left o e h l =
    h ∙ (ap (λ ss. end_after windows at (drop left (word_from i ss))) e ∙ ap (end_after windows at) (left_past s i left rest l))

pub numbers_later : (windows : ℕ → List Window) (stops rest : List Stop) (s : Stop) (i : ℕ) → stops ≡ s ∷ rest → AreNumbered windows i stops → AreNumbered windows (i + 1) rest
numbers_later windows stops rest s i e w = let n = subst (AreNumbered windows i) e w in n.1

-- at the end of the stops
pub end_over : (windows : ℕ → List Window) (stops : List Stop) (i at left : ℕ) (o : Option ℕ) → o ≡ end_after windows at (drop left (word_from i (drop i stops))) → length stops ≤ i → o ≡ Some at
end_over windows stops i at left o h l =
    h ∙ (ap (λ ss. end_after windows at (drop left (word_from i ss))) (drop_all i stops l) ∙ ap (end_after windows at) (drop_all left [] (omega arith)))

-- no end
pub end_never : (windows : ℕ → List Window) (ps : List Piece) (left o : Option ℕ) → o ≡ option_and_then (λ a. end_after windows a ps) left → left ≡ None → o ≡ None
end_never windows ps left o h e = h ∙ ap (option_and_then (λ a. end_after windows a ps)) e

-- an end from where the stop is left
pub end_then : (windows : ℕ → List Window) (ps : List Piece) (at : ℕ) (left o : Option ℕ) → o ≡ option_and_then (λ a. end_after windows a ps) left → left ≡ Some at → o ≡ end_after windows at ps
end_then windows ps at left o h e = h ∙ ap (option_and_then (λ a. end_after windows a ps)) e
