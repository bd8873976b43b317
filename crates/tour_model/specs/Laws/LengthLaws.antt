-- How long the schedules of a tour are, and their histories.
use Rattle.std.proofs.Common.{◌≡◌, ℕ, ◌+◌, ◌-◌, ◌*◌, ◌/◌, ◌<◌, ◌≤◌, true, false, ◌∙◌, ap, subst, arith, inl, inr, List, [], ◌∷◌, ◌++◌, length, replicate, All}
use Rattle.std.specs.Prelude.{nat_le, Contains}
use Rattle.std.proofs.Math.Nat.{mul-le-mul_right, div-le_self}
use Rattle.std.proofs.lemmas.Nat.{le-div}
use Rattle.std.proofs.lemmas.Bool.{and_parts, or_cases, leb-true}
use Rattle.std.proofs.lemmas.List.{length-replicate, length-append}
use Rattle.std.proofs.lemmas.List.Elements.{All-nil, All-cons, All-head, All-tail, All-contains}
use Rattle.duty_core.specs.declared.activity.Activity.{Activity}
use Rattle.duty_core.specs.declared.activity.Activity.TheVariants.{Serve}
use Rattle.duty_core.specs.declared.limits.TheConstants.{LONGEST_HISTORY, LONGEST_LOG, MINUTE_LIMIT}
use Rattle.duty_core.specs.declared.params.Params.{Params}
use Rattle.duty_core.specs.Params.{BookUnit, InMinutes, InQuarters, minutes_in, terms_of, unit_minutes, BeginsUnit}
use Rattle.duty_core.specs.History.{IsTimed}
use Rattle.tour_model.specs.declared.limits.TheConstants.{LONGEST_TOUR, LATEST_START}
use Rattle.tour_model.specs.declared.window.Window.{Window}
use Rattle.tour_model.specs.declared.stop.Stop.{Stop}
use Rattle.tour_model.specs.declared.tour.Tour.{Tour}
use Rattle.tour_model.specs.Window.{is_within, is_open}
use Rattle.tour_model.specs.Tour.{grids_in, IsWindow, IsStop, IsTour}
use Rattle.tour_model.specs.Schedule.{ServesFrom, ServesTour, units_of, step_units, history_of, log_start}

-- a step of a grid has at least one minute
grid_some : (u : BookUnit) (grid : ℕ) → Contains (grids_in u) grid → 1 ≤ grid
grid_some InMinutes grid c =
    All-contains (λ g. 1 ≤ g) (grids_in InMinutes) grid
    (All-cons (λ g. 1 ≤ g) 1 (5 ∷ 15 ∷ 30 ∷ []) (omega arith) (All-cons (λ g. 1 ≤ g) 5 (15 ∷ 30 ∷ []) (omega arith) (All-cons (λ g. 1 ≤ g) 15 (30 ∷ []) (omega arith) (All-cons (λ g. 1 ≤ g) 30 [] (omega arith) (All-nil (λ g. 1 ≤ g)))))) c
grid_some InQuarters grid c =
    All-contains (λ g. 1 ≤ g) (grids_in InQuarters) grid
    (All-cons (λ g. 1 ≤ g) 15 (30 ∷ []) (omega arith) (All-cons (λ g. 1 ≤ g) 30 [] (omega arith) (All-nil (λ g. 1 ≤ g)))) c

pub tour_grid_some : (tour : Tour) → IsTour tour → 1 ≤ tour.grid
tour_grid_some tour t = grid_some (terms_of tour.params).unit tour.grid t.grid

-- a service that begins in a window ends within the longest tour
open_ends : (grid service : ℕ) (ws : List Window) (at : ℕ) → All (IsWindow grid service) ws → is_open ws at ≡ true → (at + service) * grid ≤ LONGEST_TOUR
open_ends grid service [] at a h = absurd (let z : false ≡ true = h in cc)
open_ends grid service (w ∷ ws) at a h = elim (or_cases (is_within at w) (is_open ws at) h) [
  | inl e ↦ (
      let c : at ≤ w.closes = leb-true at w.closes (and_parts (nat_le w.opens at) (nat_le at w.closes) e).1 in
      let b = (All-head (IsWindow grid service) w ws a).ends in
      let m : (at + service) * grid ≤ (w.closes + service) * grid = mul-le-mul_right grid (omega arith) in
      omega arith
      )
  | inr e ↦ open_ends grid service ws at (All-tail (IsWindow grid service) w ws a) e
]

-- where the first stop is left
left_at : (k m : ℕ) (xs before later : List Activity) → xs ≡ before ++ (replicate m Serve ++ later) → k + length before + m + length later ≡ k + length xs
left_at k m xs before later e =
    let a = ap length e in
    let b = length-append before (replicate m Serve ++ later) in
    let c = length-append (replicate m Serve) later in
    let d = length-replicate m Serve in
    omega arith

serves_ends : (grid : ℕ) (s : Stop) (stops : List Stop) (k : ℕ) (xs : List Activity) → All (IsStop grid) (s ∷ stops) → ServesFrom k (s ∷ stops) xs → (k + length xs) * grid ≤ LONGEST_TOUR
serves_ends grid s [] k xs a v =
    let e = left_at k s.service xs v.0 v.1 v.2.whole in
    let f = ap length v.3 in
    let b = open_ends grid s.service s.windows (k + length v.0) (All-head (IsStop grid) s [] a).windows v.2.opens in
    subst (λ n. n * grid ≤ LONGEST_TOUR) (let z : k + length v.0 + s.service ≡ k + length xs = omega arith in z) b
serves_ends grid s (next ∷ stops) k xs a v =
    subst (λ n. n * grid ≤ LONGEST_TOUR) (left_at k s.service xs v.0 v.1 v.2.whole)
    (serves_ends grid next stops (k + length v.0 + s.service) v.1 (All-tail (IsStop grid) s (next ∷ stops) a) v.3)

serves_minutes : (grid : ℕ) (stops : List Stop) (xs : List Activity) → 1 ≤ length stops → All (IsStop grid) stops → ServesFrom 0 stops xs → length xs * grid ≤ LONGEST_TOUR
serves_minutes grid [] xs l a v = absurd (omega arith)
serves_minutes grid (s ∷ stops) xs l a v = subst (λ n. n * grid ≤ LONGEST_TOUR) (let z : 0 + length xs ≡ length xs = omega arith in z) (serves_ends grid s stops 0 xs a v)

-- What serves a tour is no longer than the longest tour, in minutes
pub serves_short : (tour : Tour) → IsTour tour → (xs : List Activity) → ServesTour tour xs → length xs * tour.grid ≤ LONGEST_TOUR
serves_short tour t xs s = serves_minutes tour.grid tour.stops xs t.some_stops t.stops s.stops

-- and in steps.
pub serves_few : (tour : Tour) → IsTour tour → (xs : List Activity) → ServesTour tour xs → length xs ≤ LONGEST_TOUR / tour.grid
serves_few tour t xs s = le-div (length xs) LONGEST_TOUR tour.grid (let g = tour_grid_some tour t in omega arith) (serves_short tour t xs s)

-- the number of units of a schedule
pub length-units : (each : ℕ) (xs : List Activity) → length (units_of each xs) ≡ each * length xs
length-units each [] = omega arith
length-units each (x ∷ xs) =
    length-append (replicate each x) (units_of each xs)
    ∙ (let e = length-units each xs in let r = length-replicate each x in let f : length (replicate each x) + length (units_of each xs) ≡ each * length (x ∷ xs) = omega arith in f)

-- the units of a schedule that serves the tour are no more than the minutes of the longest tour
pub units_short : (tour : Tour) → IsTour tour → (xs : List Activity) → ServesTour tour xs → length (units_of (step_units tour) xs) ≤ LONGEST_TOUR
units_short tour t xs s =
    let e = length-units (step_units tour) xs in
    let d : step_units tour ≤ tour.grid = div-le_self tour.grid (unit_minutes tour.params) in
    let m : step_units tour * length xs ≤ tour.grid * length xs = mul-le-mul_right (length xs) d in
    let l = serves_short tour t xs s in
    omega arith

-- a unit has at least a minute
unit_some : (u : BookUnit) (n : ℕ) → n ≤ minutes_in u * n
unit_some InMinutes n = omega arith
unit_some InQuarters n = omega arith

pub units_minutes : (params : Params) (n : ℕ) → n ≤ unit_minutes params * n
units_minutes params n = unit_some (terms_of params).unit n

-- The history of a log and of what serves the tour after it is not too long for the rules.
pub history_short : (tour : Tour) → IsTour tour → (log xs : List Activity) → unit_minutes tour.params * length log ≤ LONGEST_LOG → ServesTour tour xs → length (history_of tour log xs) ≤ LONGEST_HISTORY
history_short tour t log xs l s =
    let e = length-append log (units_of (step_units tour) xs) in
    let u = units_short tour t xs s in
    let m = units_minutes tour.params (length log) in
    omega arith

sooner : (u : BookUnit) (at n units : ℕ) → at ≡ minutes_in u * units → at - minutes_in u * n ≡ minutes_in u * (units - n)
sooner InMinutes at n units w = omega arith
sooner InQuarters at n units w = omega arith

-- Before a whole unit, so many units sooner, a whole unit begins.
pub begins_sooner : (params : Params) (at n : ℕ) → BeginsUnit params at → BeginsUnit params (at - unit_minutes params * n)
begins_sooner params at n b = record { units = b.units - n; whole = sooner (terms_of params).unit at n b.units b.whole }

ends_soon : (u : BookUnit) (at first n : ℕ) → at ≤ LATEST_START → first ≤ at → n ≤ LONGEST_HISTORY → first + minutes_in u * n < MINUTE_LIMIT
ends_soon InMinutes at first n a f l = omega arith
ends_soon InQuarters at first n a f l = omega arith

-- The rules may be asked of that history.
pub history_timed : (tour : Tour) → IsTour tour → (log xs : List Activity) → unit_minutes tour.params * length log ≤ LONGEST_LOG → ServesTour tour xs →
    IsTimed tour.params (log_start tour log) (history_of tour log xs)
history_timed tour t log xs l s =
    let long = history_short tour t log xs l s in
    record {
      begins = begins_sooner tour.params tour.start (length log) t.whole_start;
      long = long;
      ends = ends_soon (terms_of tour.params).unit tour.start (log_start tour log) (length (history_of tour log xs)) t.not_late (omega arith) long;
    }

-- The rules may be asked of the log.
pub log_timed : (tour : Tour) → IsTour tour → (log : List Activity) → unit_minutes tour.params * length log ≤ LONGEST_LOG → IsTimed tour.params (log_start tour log) log
log_timed tour t log l =
    let m = units_minutes tour.params (length log) in
    let long : length log ≤ LONGEST_HISTORY = omega arith in
    record {
      begins = begins_sooner tour.params tour.start (length log) t.whole_start;
      long = long;
      ends = ends_soon (terms_of tour.params).unit tour.start (log_start tour log) (length log) t.not_late (omega arith) long;
    }
