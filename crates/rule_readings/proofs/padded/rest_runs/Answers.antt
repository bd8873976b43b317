use Rattle.std.proofs.Common.{◌≡◌, ◌+◌, true, false, [], ◌∷◌, ◌++◌, sym, ◌∙◌, ap, subst}
use Rattle.std.proofs.lemmas.List.{get_or_default}
use Rattle.duty_core.specs.declared.activity.Activity.TheVariants.{Drive, Off}
use Rattle.duty_core.specs.Activity.{rests}
use Rattle.duty_core.specs.History.{unit_at}
use Rattle.rule_readings.proofs.RestRuns.{AreRunsBefore, runs_rest, runs_duty, runs_ended}
use Rattle.rule_readings.proofs.padded.rest_runs.Goals as goal
use Rattle.rule_readings.proofs.padded.rest_runs.Goals.{then-not-is_rest, then-from-to+in_ok-push, else-from-to, else-not-is_rest}

pub loop-unit-preserved : goal.loop-unit-preserved
loop-unit-preserved c =
    let p = c.args.units.now in
    let i = c.loop-unit.to in
    let at : i ≡ c.loop-unit.unit-index = c.loop-unit.invariant.0 in
    let before : AreRunsBefore p i c.loop-unit.from c.loop-unit.runs.items = c.loop-unit.invariant.1 in
    let unit : c.is_rest.result ≡ rests (unit_at p i) =
    c.is_rest.ensures ∙ (ap rests (get_or_default p c.loop-unit.unit-index Drive Off c.loop-unit-test.true) ∙ ap (λ n. rests (unit_at p n)) (sym at)) in
    let next : i + 1 ≡ c.loop-unit.unit-index + 1 = ap (λ n. n + 1) at in
    elim c.if-not-is_rest.branch [
      | then-not-is_rest w ↦
          let duty : rests (unit_at p i) ≡ false = sym unit ∙ w.if-not-is_rest.true in
          let begins : i + 1 ≡ c.if-not-is_rest.from = sym w.from-is in
          elim w.if-from-to.branch [
            | then-from-to+in_ok-push v ↦
                let grown = runs_ended p i c.loop-unit.from c.loop-unit.runs.items duty v.if-from-to.true before in
                let is : c.loop-unit.runs.items ++ record { from = c.loop-unit.from; to = i } ∷ [] ≡ c.if-not-is_rest.runs.items =
                sym (ap (λ r. r.items) w.runs-is ∙ (ap (λ r. r.items) v.runs-is ∙ v.in_ok-push.ensures.items)) in
                (next, subst (λ n. AreRunsBefore p (i + 1) n c.if-not-is_rest.runs.items) begins (subst (λ rs. AreRunsBefore p (i + 1) (i + 1) rs) is grown))
            | else-from-to v ↦
                let kept = runs_duty p i c.loop-unit.from c.loop-unit.runs.items duty v.if-from-to.false before in
                let is : c.loop-unit.runs.items ≡ c.if-not-is_rest.runs.items = sym (ap (λ r. r.items) w.runs-is ∙ ap (λ r. r.items) v.runs-is) in
                (next, subst (λ n. AreRunsBefore p (i + 1) n c.if-not-is_rest.runs.items) begins (subst (λ rs. AreRunsBefore p (i + 1) (i + 1) rs) is kept))
          ]
      | else-not-is_rest w ↦
          let rest : rests (unit_at p i) ≡ true = sym unit ∙ w.if-not-is_rest.false in
          let kept = runs_rest p i c.loop-unit.from c.loop-unit.runs.items rest before in
          let is : c.loop-unit.runs.items ≡ c.if-not-is_rest.runs.items = sym (ap (λ r. r.items) w.runs-is) in
          (next, subst (λ n. AreRunsBefore p (i + 1) n c.if-not-is_rest.runs.items) (sym w.from-is) (subst (λ rs. AreRunsBefore p (i + 1) c.loop-unit.from rs) is kept))
    ]
