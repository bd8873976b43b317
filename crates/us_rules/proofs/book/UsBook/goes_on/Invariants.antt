-- What is left to take from here leads where all of it leads from the start.
use Rattle.std.proofs.Common.{◌≡◌, ◌+◌, ◌-◌, ◌≤◌, Some}
use Rattle.us_rules.specs.Machine.{IsUsState, goes_on}
use Rattle.us_rules.specs.Advance.{IsSteady}
use Rattle.us_rules.proofs.book.UsBook.goes_on.Given as goal

abbrev pub invariant-loop-done : goal.invariant-loop-done
invariant-loop-done l = record {
  state : IsUsState l.self.berth l.self.days l.self.day_start l.state (l.at + l.done);
  steady : IsSteady l.state l.act;
  within : l.done ≤ l.n;
  reached : goes_on l.self.berth l.self.days l.self.day_start (Some l.fn.state) l.at l.act l.n ≡ goes_on l.self.berth l.self.days l.self.day_start (Some l.state) (l.at + l.done) l.act (l.n - l.done);
}

abbrev pub decreases-loop-done : goal.decreases-loop-done
decreases-loop-done l = l.n - l.done
