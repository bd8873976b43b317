-- The rests that have a minute in a day.
use Rattle.std.proofs.Common.{◌≡◌, ℕ, ◌+◌, ◌-◌, ◌<◌, ◌≤◌, true, false, List, length, get_or, max, sym, ◌∙◌, subst, arith, inl, inr}
use Rattle.std.specs.Prelude.{Contains}
use Rattle.std.proofs.lemmas.Bool.{cases_lt}
use Rattle.duty_core.specs.declared.activity.Activity.{Activity}
use Rattle.duty_core.specs.RestRun.{IsRun}
use Rattle.duty_core.specs.Deferral.{HasRestIn}
use Rattle.rule_readings.specs.declared.padded.RestRun.{RestRun}
use Rattle.rule_readings.specs.Padded.{AreRestRuns}
use Rattle.rule_readings.specs.CaDays.{BeginsDay}
use Rattle.rule_readings.specs.Deferring.{IsOpenRest, HasRunIn}
use Rattle.rule_readings.proofs.HeldRuns.{in_run}

-- a place is in the day, where it is not before its begin and before the next day's
in_day : (day : ℕ → ℕ) (j begin end at : ℕ) → BeginsDay day j begin → BeginsDay day (j + 1) end → begin ≤ at → at < end → day at ≡ j
in_day day j begin end at b e l m =
    let x = b.inside at l in
    elim (cases_lt (day at) (j + 1)) [ inl k ↦ omega arith | inr k ↦ (let y = e.first at k in absurd (omega arith)) ]

-- the rest that the history ends with
pub open_gives : (day : ℕ → ℕ) (p : List Activity) (least j begin end s : ℕ) → BeginsDay day j begin → BeginsDay day (j + 1) end → 0 < least → begin < end → IsOpenRest p s → s < end → HasRestIn day p least j
open_gives day p least j begin end s b e some l o m = record {
  from = max begin s;
  to = max begin s + least;
  at = max begin s;
  rest = λ k x y. o.rest k (omega arith);
  long = omega arith;
  after = omega arith;
  before = omega arith;
  of_day = in_day day j begin end (max begin s) b e (omega arith) (omega arith);
}

-- a rest run
pub run_gives : (day : ℕ → ℕ) (p : List Activity) (least j begin end : ℕ) (run : RestRun) → BeginsDay day j begin → BeginsDay day (j + 1) end → begin < end → IsRun p run.from run.to → HasRunIn least begin end run → HasRestIn day p least j
run_gives day p least j begin end run b e l r h =
    let x = h.early in
    let y = h.late in
    let z = r.some in
    record {
      from = run.from;
      to = run.to;
      at = max begin run.from;
      rest = r.rest;
      long = h.long;
      after = omega arith;
      before = omega arith;
      of_day = in_day day j begin end (max begin run.from) b e (omega arith) (omega arith);
    }

-- a run of the list that is long enough and in the day
no_run : (least begin end a b : ℕ) (runs : List RestRun) → ((k : ℕ) (d : RestRun) → k < length runs → HasRunIn least begin end (get_or runs k d) → ⊥) → Contains runs (record { from = a; to = b }) →
    a + least ≤ b → a < end → begin < b → ⊥
no_run least begin end a b runs none c long early late =
    none c.0 (record { from = a; to = b }) c.1 (subst (λ q. HasRunIn least begin end q) (sym c.2) (record { long = long; early = early; late = late }))

-- and there is no other
pub none_gives : (day : ℕ → ℕ) (p : List Activity) (least j begin end s : ℕ) (runs : List RestRun) → BeginsDay day j begin → BeginsDay day (j + 1) end → IsOpenRest p s → end ≤ s → AreRestRuns p runs →
    ((k : ℕ) (d : RestRun) → k < length runs → HasRunIn least begin end (get_or runs k d) → ⊥) → HasRestIn day p least j → ⊥
none_gives day p least j begin end s runs b e o l are none h =
    let after = h.after in
    let before = h.before in
    let d = h.of_day in
    let x = b.first h.at (omega arith) in
    let y : h.at < end = elim (cases_lt h.at end) [ inl k ↦ k | inr k ↦ (let z = e.inside h.at k in absurd (omega arith)) ] in
    let i : ℕ = s - 1 in
    let duty = o.starts i (omega arith) in
    let m : h.to ≤ i = elim (cases_lt i h.to) [
      | inr k ↦ k
      | inl k ↦ absurd (let z : true ≡ false = sym (h.rest i (omega arith) k) ∙ duty in cc)
    ] in
    let r = in_run p h.from h.to i (omega arith) m h.rest duty in
    let starts = r.starts in
    let ends = r.ends in
    let long = h.long in
    no_run least begin end r.from r.to runs none (are.every r.from r.to r.run) (omega arith) (omega arith) (omega arith)
