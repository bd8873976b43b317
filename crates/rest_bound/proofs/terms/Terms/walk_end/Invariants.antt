use Rattle.std.proofs.Common.{◌≡◌, ◌+◌, ◌-◌, ◌≤◌}
use Rattle.rest_bound.specs.Ends.{Ends}
use Rattle.rest_bound.proofs.WalkLaws.{IsWalk}
use Rattle.rest_bound.proofs.terms.Terms.walk_end.Given as goal

abbrev pub invariant-loop-next : goal.invariant-loop-next
invariant-loop-next g l =
    let plan = g.T.Tour.plan l.fn.self.tour.now in let t = l.fn.self.table.now in let m = l.fn.self.mode in
    record {
      walk : IsWalk (Ends plan t.limits m (t.pieces - l.fn.piece) l.fn.piece l.fn.start) plan t.limits m (t.pieces - l.next) l.next l.walk t.horizon l.best;
      within : l.piece ≤ l.next;
      latest : l.walk.latest ≡ l.fn.start.latest;
      few : l.walk.idle + l.fn.start.at ≤ l.fn.start.idle + l.walk.at;
      early : l.walk.at ≤ t.horizon;
    }
