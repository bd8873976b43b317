use Rattle.std.proofs.Common.{arith, sym, ◌∙◌, ◌+◌, ◌-◌}
use Rattle.tour_model.proofs.StopLaws.{begins_soon}
use Rattle.tour_model.proofs.stop.Stop.leave.Goals as goal

pub overflow_add-result-2 : goal.overflow_add-result-2
overflow_add-result-2 c =
    let s = c.requires.small.service in
    let b = begins_soon c.args.self.now c.in_ok-begins.begins (c.args.step + (c.args.self.now.drive - c.args.done)) c.requires.small (sym c.first_from.ensures ∙ c.in_ok-begins.was) in
    omega arith
