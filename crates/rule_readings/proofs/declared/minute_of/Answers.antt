use Rattle.std.proofs.Common.{◌≡◌, ◌+◌, ◌*◌, ap, sym, ◌∙◌}
use Rattle.duty_core.specs.Params.{unit_minutes}
use Rattle.rule_readings.proofs.DeclaredRuns.{minute_is, minute_answer}
use Rattle.rule_readings.proofs.declared.minute_of.Goals as goal

pub returns : goal.returns
returns c = λ at.
    let n = c.args.first + c.unit_of.result * c.args.place in
    let e : n ≡ c.args.first + unit_minutes c.args.params * c.args.place = ap (λ u. c.args.first + u * c.args.place) c.unit_of.ensures in
    let m = minute_is c.args.params c.args.first c.args.place at in
    let a = minute_answer c.checked_sub.result n c.checked_sub.ensures at in
    ((λ h. a.0 (m.0 h ∙ sym e)), (λ h. m.1 (a.1 h ∙ e)))
