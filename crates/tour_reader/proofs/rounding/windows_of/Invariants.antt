use Rattle.std.proofs.Common.{◌≡◌, take}
use Rattle.tour_reader.specs.Rounding.{windows_of}
use Rattle.tour_reader.proofs.rounding.windows_of.Given as goal

abbrev pub invariant-loop-span : goal.invariant-loop-span
invariant-loop-span l = l.windows ≡ windows_of l.grid l.start (take l.span-index l.spans)
