-- The bound of a label as a function.
use Rattle.std.specs.Prelude.{ℕ, ◌+◌, ◌-◌, max, Bool, ◌&&◌, not, nat_lt, if◌then◌else◌, Option, None, Some}
use Rattle.us_rules.specs.declared.state.UsState.{UsState}
use Rattle.tour_model.specs.declared.tour.Tour.{Tour}
use Rattle.tour_model.specs.Word.{word_length, may_idle}
use Rattle.cert_text.specs.CoverLists.Planning.{eta_bound}
use Rattle.cert_text.specs.CoverLists.Laws.BoundLaws.{latest}
use Rattle.rest_bound.specs.LeastEnd.{least_end}
use Rattle.us_bound.specs.Projection.{counts_of, limits_of}
use Rattle.us_bound.specs.Work.{plan_of}

-- whether a state rests in the midst of a service
abbrev pub is_astray : Tour → ℕ → UsState → Bool
is_astray tour p s = nat_lt 0 s.split.run.long && not (may_idle tour p)

-- an end up to the horizon; where there is none, the first step after the horizon, or k if that is later
abbrev pub end_or_after : ℕ → ℕ → Option ℕ → ℕ
end_or_after horizon k (Some e) = e
end_or_after horizon k None = max k (horizon + 1)

-- The step, at step k, before which nothing that grows from a label of this progress and state ends.
unfoldable pub shift_end : Tour → Bool → ℕ → ℕ → ℕ → UsState → ℕ
shift_end tour berth horizon k p s =
    if is_astray tour p s then k else end_or_after horizon k (least_end (plan_of tour) (limits_of berth tour.grid) (word_length tour - p) p k (counts_of tour.grid s) horizon)

-- It is the bound of a label by the limits of a shift. Each label has one.
abbrev pub shift_bound : Tour → Bool → ℕ → ℕ → ℕ → UsState → Option ℕ
shift_bound tour berth horizon k p s = Some (shift_end tour berth horizon k p s)

-- The later of it and the earliest end with no rules. None: the work that is left has no end.
abbrev pub later_bound : Tour → Bool → ℕ → ℕ → ℕ → UsState → Option ℕ
later_bound tour berth horizon k p s = latest (eta_bound tour k p s) (shift_bound tour berth horizon k p s)
