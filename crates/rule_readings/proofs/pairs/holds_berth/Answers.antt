use Rattle.std.proofs.Common.{◌≡◌, ◌+◌, refl, sym, ◌∙◌, subst, arith, inl, inr}
use Rattle.std.proofs.lemmas.Bool.{cases_lt, leb-true, le-leb, iff_false}
use Rattle.duty_core.specs.Stretch.{HoldsBerth}
use Rattle.rule_readings.proofs.PairRuns.{IsBerthSoFar, berth_found, berth_more, berth_stops, berth_all}
use Rattle.rule_readings.proofs.pairs.holds_berth.Goals as goal
use Rattle.rule_readings.proofs.pairs.holds_berth.Goals.{then-is_in_berth, else-is_in_berth}

pub returns-then-run-least : goal.returns-then-run-least
returns-then-run-least c = (
  (λ e. berth_found c.args.least c.args.padded.now c.args.from c.args.to c.loop-place.place c.loop-place.run c.loop-place.invariant c.if-run-least.true (omega arith)),
  (λ g. refl),
)

pub loop-place-preserved : goal.loop-place-preserved
loop-place-preserved c =
    elim c.if-is_in_berth.branch [
      | then-is_in_berth w ↦
          subst (λ r. IsBerthSoFar c.args.least c.args.padded.now c.args.from (c.loop-place.place + 1) r) (sym w.run-is)
          (berth_more c.args.least c.args.padded.now c.args.from c.loop-place.place c.loop-place.run c.loop-place.invariant c.if-run-least.false (sym c.at.ensures ∙ c.is_in_berth.ensures.0 w.if-is_in_berth.true))
      | else-is_in_berth w ↦
          subst (λ r. IsBerthSoFar c.args.least c.args.padded.now c.args.from (c.loop-place.place + 1) r) (sym w.run-is)
          (berth_stops c.args.least c.args.padded.now c.args.from c.loop-place.place c.loop-place.run c.loop-place.invariant c.if-run-least.false (λ e. iff_false c.is_in_berth.ensures w.if-is_in_berth.false (c.at.ensures ∙ e)))
    ]

pub returns-then-from-to : goal.returns-then-from-to
returns-then-from-to c =
    let least = c.args.least in
    let run = c.loop-place.run in (
      (λ e. berth_found least c.args.padded.now c.args.from c.args.to c.loop-place.place run c.loop-place.invariant (leb-true least run e) (omega arith)),
      (λ g. elim (cases_lt run least) [
        | inl l ↦
            let t : c.args.to ≡ c.loop-place.place = omega arith in
            absurd (berth_all least c.args.padded.now c.args.from c.loop-place.place run c.loop-place.invariant l (subst (λ n. HoldsBerth least c.args.padded.now c.args.from n) t g))
        | inr l ↦ le-leb least run l
      ]),
    )
