-- The history of a log and a schedule after it, unit by unit.
use Rattle.std.proofs.Common.{◌≡◌, ℕ, ◌+◌, ◌<◌, ◌≤◌, List, ◌++◌, length, replicate, take, get_or, sym, ap, ◌∙◌, length-append, arith}
use Rattle.std.specs.Prelude.{flat_map}
use Rattle.std.proofs.lemmas.List.{take_more, flat_map_more, length-replicate}
use Rattle.std.proofs.lemmas.List.Folds.{length-flat_map-take}
use Rattle.duty_core.specs.declared.activity.Activity.{Activity}
use Rattle.duty_core.specs.declared.limits.TheConstants.{LONGEST_HISTORY}
use Rattle.tour_model.specs.Schedule.{units_of}

-- one step more
pub history_more : (each : ℕ) (log steps history new : List Activity) (i : ℕ) (d : Activity) → i < length steps → history ≡ log ++ units_of each (take i steps) → new ≡ history ++ replicate each (get_or steps i d) → new ≡ log ++ units_of each (take (i + 1) steps)
history_more each log steps history new i d inside before last =
    let unit : Activity → List Activity = λ x. replicate each x in
    last ∙ ap (λ h. h ++ replicate each (get_or steps i d)) before ∙ flat_map_more unit log (take i steps) (get_or steps i d) ∙ ap (λ xs. log ++ flat_map unit xs) (sym (take_more steps i d inside))

-- there is room for one step more
pub history_fits : (each units : ℕ) (log steps history : List Activity) (i : ℕ) (d : Activity) → each ≡ units → i < length steps → history ≡ log ++ units_of each (take i steps) → length (log ++ units_of units steps) ≤ LONGEST_HISTORY → length history + each ≤ LONGEST_HISTORY
history_fits each units log steps history i d same inside before all_short =
    let unit : Activity → List Activity = λ x. replicate each x in
    let short : length (log ++ units_of each steps) ≤ LONGEST_HISTORY = rw same all_short in
    let whole = length-append log (units_of each steps) in
    let part : length history ≡ length log + length (units_of each (take i steps)) = ap length before ∙ length-append log (units_of each (take i steps)) in
    let more = length-flat_map-take unit steps i d inside in
    let one = length-replicate each (get_or steps i d) in
    omega (arith, whole, part, more, one, short)
