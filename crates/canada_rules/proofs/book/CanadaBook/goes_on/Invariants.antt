-- What is left to take from here leads where all of it leads from the start.
use Rattle.std.proofs.Common.{◌≡◌, ℕ, ◌+◌, ◌-◌, ◌≤◌, Some}
use Rattle.canada_rules.specs.Machine.{ca_may, goes_on}
use Rattle.canada_rules.specs.Stretch.{IsGoing}
use Rattle.canada_rules.proofs.book.CanadaBook.goes_on.Given as goal

abbrev pub invariant-days : goal.invariant-days
invariant-days l = record {
  few : l.done ≤ l.n;
  going : IsGoing (ca_may l.self.berth l.self.way) l.self.way l.self.day_start l.reached (l.at + l.done) l.act;
  there : (j : ℕ) → l.done + j ≡ l.n →
      goes_on (ca_may l.self.berth l.self.way) l.self.day_start (Some l.fn.next) l.at l.act l.n
      ≡ goes_on (ca_may l.self.berth l.self.way) l.self.day_start (Some l.reached) (l.at + l.done) l.act j;
}

-- the minutes that are left
abbrev pub decreases-days : goal.decreases-days
decreases-days l = l.n - l.done
