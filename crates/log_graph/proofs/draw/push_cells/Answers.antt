use Rattle.std.proofs.Common.{◌+◌, ◌*◌, ◌∷◌, [], ◌++◌, ℕ, ◌∙◌, ap, arith}
use Rattle.log_graph.specs.declared.cells.TheConstants.{CELL_MINUTES}
use Rattle.log_graph.specs.Graph.{cell, minutes_shown}
use Rattle.log_graph.proofs.Ranges.{cells_more, cells_all}
use Rattle.log_graph.proofs.draw.push_cells.Goals as goal

pub loop-quarter-preserved : goal.loop-quarter-preserved
loop-quarter-preserved c =
    cells_more (λ (quarter : ℕ). cell (minutes_shown c.args.params c.args.first c.args.history.now c.args.status (c.args.day + CELL_MINUTES * quarter) CELL_MINUTES)) c.args.text.now c.loop-quarter.text c.push_byte.new.self c.loop-quarter.quarter c.loop-quarter.invariant
    (c.in_ok-push_byte.ensures ∙ ap (λ b. c.loop-quarter.text ++ b ∷ []) (c.cell.ensures ∙ ap cell c.minutes_shown-minutes.ensures.value))

pub returns : goal.returns
returns c =
    cells_all c.args.params c.args.first c.args.history.now c.args.day c.args.status c.args.text.now c.loop-quarter.text c.loop-quarter.quarter (omega (arith, c.loop-quarter-test.false, c.loop-quarter.auto.quarter-end)) c.loop-quarter.invariant
