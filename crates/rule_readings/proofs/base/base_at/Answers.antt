use Rattle.std.proofs.Common.{arith}
use Rattle.duty_core.specs.Marks.{IsSplitAt}
use Rattle.duty_core.specs.Laws.UniqueLaws.{declared_run}
use Rattle.rule_readings.proofs.BaseLaws.{none_found, none_found_before}
use Rattle.rule_readings.proofs.base.base_at.Goals as goal

pub returns-in_err-last : goal.returns-in_err-last
returns-in_err-last c =
    none_found c.args.full c.args.history.now.padded.now (IsSplitAt c.args.history.now.scope.params c.args.history.now.scope.first c.args.history.now.marks.now) c.args.i c.from_residual.result c.from_residual.ensures c.in_err-last.ensures

pub returns-in_err-earlier : goal.returns-in_err-earlier
returns-in_err-earlier c =
    none_found_before c.args.full c.args.history.now.padded.now (IsSplitAt c.args.history.now.scope.params c.args.history.now.scope.first c.args.history.now.marks.now) c.args.i c.in_ok-last.last.from c.in_ok-last.last.to c.from_residual-in_err-earlier.result
    c.from_residual-in_err-earlier.ensures c.in_ok-last.ensures
    (let s = (declared_run c.args.full c.args.history.now.padded.now (IsSplitAt c.args.history.now.scope.params c.args.history.now.scope.first c.args.history.now.marks.now) c.in_ok-last.last.from c.in_ok-last.last.to c.in_ok-last.ensures.declared).some in omega arith) c.in_err-earlier.ensures
