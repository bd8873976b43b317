-- What a state of a book is: of the root, and of each successor.
use Rattle.std.proofs.Common.{◌≡◌, ℕ, ◌+◌, ◌≤◌, Bool, List, refl, sym, ◌∙◌, ap, subst, arith, inl, inr}
use Rattle.std.specs.Prelude.{Some, All}
use Rattle.std.proofs.lemmas.List.Elements.{All-replicate}
use Rattle.duty_core.specs.declared.activity.Activity.{Activity}
use Rattle.duty_core.specs.declared.activity.Activity.TheVariants.{Serve}
use Rattle.duty_core.specs.declared.params.RestWay.{RestWay}
use Rattle.duty_core.specs.declared.limits.TheConstants.{DAY_MINUTES}
use Rattle.duty_core.specs.CaCycle.{cycle_days, cycle_reset}
use Rattle.rule_core.specs.declared.nexts.Next.{Next}
use Rattle.rule_core.specs.Reach.{IsOneOf}
use Rattle.day_sums.specs.Sums.{today}
use Rattle.day_sums.specs.Counted.{turned}
use Rattle.day_sums.specs.Laws.Within.{within_turned, within_added, within_rested}
use Rattle.cycles_deferral.specs.declared.cycle.CycleCount.{CycleCount}
use Rattle.cycles_deferral.specs.CycleMachine.{cycle_after}
use Rattle.canada_rules.specs.declared.state.CanadaState.{CanadaState}
use Rattle.canada_rules.specs.Machine.{ca_may, begins_day, ca_nexts, root_state, day_so_far}
use Rattle.canada_rules.specs.Laws.CalendarSteps.{after_means}
use Rattle.canada_rules.specs.Laws.Paths.{next_means}
use Rattle.canada_rules.specs.Laws.States.{has_room, cycle_cases, root_is_ca_state, next_is_ca_state}
use Rattle.canada_rules.specs.BookStates.{IsStateOf}

-- one more minute of a cycle
cycle_goes : (start : ℕ) (c u : CycleCount) (at : ℕ) (x : Activity) → today c.sums ≤ day_so_far start at → All (λ n. n ≤ DAY_MINUTES) c.sums → cycle_after c x (begins_day start at) ≡ Some u →
    (u.cycle ≡ c.cycle) × All (λ n. n ≤ DAY_MINUTES) u.sums
cycle_goes start c u at x fits h e =
    let new : List ℕ = turned (begins_day start at) c.sums in
    let w = within_turned (begins_day start at) c.sums h in
    elim (cycle_cases c u x (begins_day start at) e) [
      | inl r ↦ (ap (λ (v : CycleCount). v.cycle) r.1, subst (λ (v : CycleCount). All (λ n. n ≤ DAY_MINUTES) v.sums) (sym r.1) (within_rested (cycle_reset c.cycle) (c.rest + 1) new w))
      | inr r ↦ (ap (λ (v : CycleCount). v.cycle) r.1, subst (λ (v : CycleCount). All (λ n. n ≤ DAY_MINUTES) v.sums) (sym r.1) (within_added new (has_room start c at Serve fits) w))
    ]

pub root_is_state_of : (berth : Bool) (way : RestWay) (cycle start first : ℕ) → IsStateOf berth way cycle start (root_state way cycle) first
root_is_state_of berth way cycle start first = record {
  counts = root_is_ca_state (ca_may berth way) way cycle start first;
  of_cycle = refl;
  within = All-replicate (λ n. n ≤ DAY_MINUTES) (cycle_days cycle) 0 (omega arith);
}

pub next_is_state_of : (berth : Bool) (way : RestWay) (cycle start : ℕ) (s : CanadaState) (at : ℕ) (x : Activity) (n : Next CanadaState) → IsStateOf berth way cycle start s at → IsOneOf (ca_nexts (ca_may berth way) start s at x) n →
    IsStateOf berth way cycle start n.state (at + 1)
next_is_state_of berth way cycle start s at x n h o =
    let may : Bool = ca_may berth way in
    let k = next_means may start s at x n o in
    let a = after_means start s.calendar at x k.got k.calendar in
    let c = cycle_goes start s.calendar.cycle k.got.0.cycle at x h.counts.fits h.within a.cycle in
    record {
      counts = next_is_ca_state may way start s at x n h.counts o;
      of_cycle = subst (λ (m : Next CanadaState). m.state.calendar.cycle.cycle ≡ cycle) k.is (c.0 ∙ h.of_cycle);
      within = subst (λ (m : Next CanadaState). All (λ n. n ≤ DAY_MINUTES) m.state.calendar.cycle.sums) k.is c.1;
    }
