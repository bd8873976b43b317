-- Windows of time, in steps.
use Rattle.std.specs.Prelude.{ℕ, Bool, max, min, Option, None, Some, List, [], ◌∷◌, nat_le, ◌&&◌, if◌then◌else◌}
use Rattle.std.specs.List.{list_any}
use Rattle.tour_model.specs.declared.window.Window.{Window}

-- whether the step lies in the window, both ends counted
abbrev pub is_within : ℕ → Window → Bool
is_within step w = nat_le w.opens step && nat_le step w.closes

-- whether the step lies in one of the windows
abbrev pub is_open : List Window → ℕ → Bool
is_open windows step = list_any (is_within step) windows

-- the earlier of two steps, where there are two
abbrev pub earlier : Option ℕ → Option ℕ → Option ℕ
earlier None b = b
earlier (Some x) None = Some x
earlier (Some x) (Some y) = Some (min x y)

-- the first step from this one on that lies in the window
abbrev pub first_within : ℕ → Window → Option ℕ
first_within step w = if nat_le (max w.opens step) w.closes then Some (max w.opens step) else None

-- the first step from this one on that lies in one of the windows
abbrev pub first_open : List Window → ℕ → Option ℕ
first_open [] step = None
first_open (w ∷ windows) step = earlier (first_within step w) (first_open windows step)
