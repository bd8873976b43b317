use Rattle.std.proofs.Common.{◌≡◌, ◌+◌, length}
use Rattle.std.specs.Io.KnownBytes.{Consumes}
use Rattle.outside.proofs.disk.read_start.Given as goal

-- what was read was taken from the reader, and with what is left it makes the limit
abbrev pub invariant-loop-left : goal.invariant-loop-left
invariant-loop-left g l = record {
  total : length l.bytes.items + l.left ≡ l.fn.limit;
  consumed : Consumes (g.R.Read.remaining l.initial.reader) (g.R.Read.remaining l.reader) l.bytes.items;
}

abbrev pub decreases-loop-left : goal.decreases-loop-left
decreases-loop-left g l = l.left
