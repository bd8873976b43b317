use Rattle.std.proofs.Common.{◌≤◌, sym, subst}
use Rattle.std.specs.Prelude.{All}
use Rattle.duty_core.specs.declared.limits.TheConstants.{AU_7D_REST}
use Rattle.hvnl_rules.specs.Laws.CountedLaws.{passed_short}
use Rattle.hvnl_rules.proofs.held.rest.Goals as goal

pub settle-requires : goal.settle-requires
settle-requires c = subst (λ h. All (λ n. n.rest ≤ AU_7D_REST) h.needs) (sym c.pass.ensures.done) (passed_short c.args.held.now c.requires)
