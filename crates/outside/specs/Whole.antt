-- What a writer takes of bytes of which it does not take all.
use Rattle.std.specs.Prelude.{ℕ, ◌<◌, Option, length, take}
use Rattle.std.specs.Io.KnownBytes.{Appends}
use Rattle.outside.specs.Outside.{Bytes}

-- Some first part of a piece was appended, and not all of it.
abbrev pub AppendsPart : Option Bytes → Option Bytes → Bytes → Type 0
AppendsPart old new piece = (n : ℕ) × (n < length piece) × Appends old new (take n piece)
