-- Rounding one window after the other, as a loop does.
use Rattle.std.proofs.Common.{◌≡◌, ℕ, ◌+◌, ◌<◌, List, [], ◌∷◌, ◌++◌, take, length, get_or, Option, Some, None, filter_map, option_to_list, refl, sym, ap, ◌∙◌}
use Rattle.std.proofs.lemmas.List.{take_more}
use Rattle.std.proofs.lemmas.List.Elements.{filter_map-append}
use Rattle.tour_model.specs.declared.window.Window.{Window}
use Rattle.tour_reader.specs.declared.written.Span.{Span}
use Rattle.tour_reader.specs.Rounding.{window_of, windows_of}

last_one : (f : Span → Option Window) (span : Span) (o : Option Window) → o ≡ f span → filter_map f (span ∷ []) ≡ option_to_list o
last_one f span None is = rw (← is) refl
last_one f span (Some w) is = rw (← is) refl

-- the windows of one more span
pub windows_more : (grid start : ℕ) (spans : List Span) (i : ℕ) (d : Span) (windows new : List Window) (o : Option Window) → i < length spans → o ≡ window_of grid start (get_or spans i d)
    → windows ≡ windows_of grid start (take i spans) → new ≡ windows ++ option_to_list o → new ≡ windows_of grid start (take (i + 1) spans)
windows_more grid start spans i d windows new o lt one so_far more =
    let front : take (i + 1) spans ≡ take i spans ++ get_or spans i d ∷ [] = take_more spans i d lt in
    more ∙ ap (λ (ws : List Window). ws ++ option_to_list o) so_far
    ∙ ap (λ (ws : List Window). windows_of grid start (take i spans) ++ ws) (sym (last_one (window_of grid start) (get_or spans i d) o one))
    ∙ sym (filter_map-append (window_of grid start) (take i spans) (get_or spans i d ∷ []))
    ∙ sym (ap (windows_of grid start) front)
