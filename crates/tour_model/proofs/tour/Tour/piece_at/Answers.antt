use Rattle.std.proofs.Common.{arith, ◌+◌, ◌-◌, drop, sym, ◌∙◌, ap}
use Rattle.std.specs.Prelude.{Some, slice_get}
use Rattle.tour_model.specs.Word.{word_from, next_piece}
use Rattle.tour_model.proofs.StopLaws.{stop_here}
use Rattle.tour_model.proofs.PieceLaws.{piece_now, piece_later}
use Rattle.tour_model.proofs.tour.Tour.piece_at.Goals as goal

pub returns-then-left-work : goal.returns-then-left-work
returns-then-left-work c =
    let w = c.work-work.ensures in
    ap Some c.piece.ensures
    ∙ sym (piece_now (drop c.loop-number.number c.args.self.now.stops) (drop (c.loop-number.number + 1) c.args.self.now.stops) c.stop-item.result c.loop-number.number c.loop-number.left (next_piece c.args.self.now c.args.progress)
    (stop_here c.items-stop-items.result.now c.args.self.now.stops c.loop-number.number c.stop-item.result c.loop-number.invariant.all (omega arith) c.stop-item.is)
    c.loop-number.invariant.piece_left (omega arith))

pub loop-number-preserved : goal.loop-number-preserved
loop-number-preserved c =
    let w = c.work-work.ensures in
    record {
      all = c.loop-number.invariant.all;
      piece_left =
          piece_later (drop c.loop-number.number c.args.self.now.stops) (drop (c.loop-number.number + 1) c.args.self.now.stops) c.stop-item.result c.loop-number.number c.loop-number.left (next_piece c.args.self.now c.args.progress)
          (stop_here c.items-stop-items.result.now c.args.self.now.stops c.loop-number.number c.stop-item.result c.loop-number.invariant.all (omega arith) c.stop-item.is)
          c.loop-number.invariant.piece_left (omega arith)
          ∙ ap (λ n. slice_get (word_from (c.loop-number.number + 1) (drop (c.loop-number.number + 1) c.args.self.now.stops)) (c.loop-number.left - n)) (sym w);
    }
