-- 24 hours of rest in 14 days.
use Rattle.std.proofs.Common.{◌≡◌, ℕ, ◌+◌, ◌-◌, ◌≤◌, List, sym, ◌∙◌, ap, subst, arith, inl, inr}
use Rattle.duty_core.specs.declared.activity.Activity.{Activity}
use Rattle.duty_core.specs.declared.activity.Activity.TheVariants.{Drive}
use Rattle.duty_core.specs.declared.params.Params.{Params}
use Rattle.duty_core.specs.declared.limits.TheConstants.{CA_DAY_OFF, CA_DAY_OFF_WITHIN}
use Rattle.duty_core.specs.Activity.{rests}
use Rattle.duty_core.specs.History.{unit_at, pad_units}
use Rattle.duty_core.specs.Stretch.{HoldsRest}
use Rattle.duty_core.specs.Counting.{IsLastEnd}
use Rattle.duty_core.specs.Laws.ExistLaws.{has_last_end}
use Rattle.rule_readings.specs.CaHistory.{IsPadded}
use Rattle.rule_readings.proofs.Books.{book_unit}
use Rattle.rule_readings.proofs.HeldRuns.{in_run}

-- 24 hours of rest lie in the fortnight before the place, where the last rest run of as much ended late enough
pub day_off_from : (p : List Activity) (i to : ℕ) → IsLastEnd CA_DAY_OFF p i to → i + CA_DAY_OFF ≤ to + CA_DAY_OFF_WITHIN → HoldsRest CA_DAY_OFF p (i - CA_DAY_OFF_WITHIN) i
day_off_from p i to h l =
    let y = h.rest.long in
    let z = h.before in
    record {
      at = to - CA_DAY_OFF;
      after = omega arith;
      before = omega arith;
      rest = λ k a b. h.rest.run.rest k (omega arith) (omega arith);
    }

-- and only there
pub day_off_back : (p : List Activity) (i to : ℕ) → unit_at p i ≡ Drive → IsLastEnd CA_DAY_OFF p i to → HoldsRest CA_DAY_OFF p (i - CA_DAY_OFF_WITHIN) i → i + CA_DAY_OFF ≤ to + CA_DAY_OFF_WITHIN
day_off_back p i to d h g =
    let b = g.before in
    let c = g.after in
    let r = in_run p g.at (g.at + CA_DAY_OFF) i (omega arith) b g.rest (ap rests d) in
    let x = r.starts in
    let y = r.ends in
    let l = h.last r.from r.to (record { run = r.run; long = omega arith }) r.before in
    omega arith

pad_long : (params : Params) → CA_DAY_OFF ≤ pad_units params
pad_long params = elim (book_unit params) [ inl h ↦ (let e = h.padding in omega arith) | inr h ↦ (let e = h.padding in omega arith) ]

-- at each unit of driving of a padded history 24 hours of rest have ended
pub day_off_there : (params : Params) (p : List Activity) → IsPadded params p → (i : ℕ) → unit_at p i ≡ Drive → (to : ℕ) × IsLastEnd CA_DAY_OFF p i to
day_off_there params p w i d =
    let e = has_last_end params CA_DAY_OFF w.history (omega arith) (pad_long params) i (ap (λ q. rests (unit_at q i)) (sym w.made) ∙ ap rests d) in
    (e.0, subst (λ q. IsLastEnd CA_DAY_OFF q i e.0) (sym w.made) e.1)
