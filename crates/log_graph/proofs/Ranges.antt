-- Cells one by one, and days one by one.
use Rattle.std.proofs.Common.{◌≡◌, ℕ, ◌+◌, ◌*◌, List, [], ◌∷◌, ◌++◌, map, sym, ap, subst, ◌∙◌, append_assoc, arith}
use Rattle.std.specs.Prelude.{flat_map}
use Rattle.std.specs.List.{range_with_len}
use Rattle.std.proofs.lemmas.List.{flat_map_more}
use Rattle.std.proofs.lemmas.List.FromFn.{map-range_with_len_more}
use Rattle.duty_core.specs.declared.activity.Activity.{Activity}
use Rattle.duty_core.specs.declared.params.Params.{Params}
use Rattle.text_parts.specs.Parts.{Part, Puts}
use Rattle.text_parts.specs.Laws.PartLaws.{puts_on}
use Rattle.log_graph.specs.declared.cells.TheConstants.{CELLS, CELL_MINUTES}
use Rattle.log_graph.specs.declared.status.Status.{Status}
use Rattle.log_graph.specs.Graph.{cell, cells, minutes_shown}

-- one cell more
pub cells_more : (f : ℕ → ℕ) (old text new : List ℕ) (n : ℕ) → text ≡ old ++ map f (range_with_len 0 n) → new ≡ text ++ f n ∷ [] → new ≡ old ++ map f (range_with_len 0 (n + 1))
cells_more f old text new n before last =
    last ∙ ap (λ t. t ++ f n ∷ []) before ∙ append_assoc old (map f (range_with_len 0 n)) (f n ∷ []) ∙ ap (λ t. old ++ t) (sym (map-range_with_len_more f 0 n n (omega arith)))

-- so many cells are all of them
pub cells_all : (params : Params) (first : ℕ) (h : List Activity) (day : ℕ) (status : Status) (old text : List ℕ) (n : ℕ) → n ≡ CELLS
    → text ≡ old ++ map (λ (quarter : ℕ). cell (minutes_shown params first h status (day + CELL_MINUTES * quarter) CELL_MINUTES)) (range_with_len 0 n)
    → text ≡ old ++ cells params first h day status
unfolding cells
cells_all params first h day status old text n all made =
    subst (λ m. text ≡ old ++ map (λ (quarter : ℕ). cell (minutes_shown params first h status (day + CELL_MINUTES * quarter) CELL_MINUTES)) (range_with_len 0 m)) all made

-- one day more
pub days_more : (lines : ℕ → List Part) (f : ℕ → ℕ) (old text new : List ℕ) (n : ℕ) → Puts (flat_map lines (map f (range_with_len 0 n))) old text → Puts (lines (f n)) text new → Puts (flat_map lines (map f (range_with_len 0 (n + 1)))) old new
days_more lines f old text new n before last =
    let days = map f (range_with_len 0 n) in
    let e : flat_map lines days ++ lines (f n) ≡ flat_map lines (map f (range_with_len 0 (n + 1))) = flat_map_more lines [] days (f n) ∙ ap (flat_map lines) (sym (map-range_with_len_more f 0 n n (omega arith))) in
    subst (λ ps. Puts ps old new) e (puts_on (flat_map lines days) (lines (f n)) old text new before last)
