-- The words of a program, and its exit code.
use Rattle.std.specs.Prelude.{◌≡◌, ◌≢◌, ℕ, List, [], map, drop, Result, Ok, Err, string_bytes}
use Rattle.std.specs.declared.alloc.Global.{Global}
use Rattle.std.specs.declared.io.Error.{Error}
use Rattle.std.specs.declared.io.ErrorKind.TheVariants.{OutOfMemory}
use Rattle.std.specs.declared.string.String.{String}
use Rattle.std.specs.declared.vec.IntoIter.{IntoIter}
use Rattle.std.specs.IoError.{error_kind}
use Rattle.std.specs.Vec.Iter.{into_iter_items}
use Rattle.outside.specs.Outside.{Bytes}
use Rattle.driver_cli.specs.declared.answer.Status.{Status}
use Rattle.driver_cli.specs.Ends.{Ends}
use Rattle.driver_cli.specs.Sides.{ReadSide, WriteSide, SinkSide}
use Rattle.driver_cli.specs.Status.{exit_code_of}

-- The words are the bytes of all arguments but the first; there are none where the arguments could not be had, for another cause than memory.
abbrev pub AreWords : Result (IntoIter (String Global) Global) Error → List Bytes → Type 0
AreWords (Ok arguments) words = words ≡ map string_bytes (drop 1 (into_iter_items arguments))
AreWords (Err error) words = (words ≡ []) × (error_kind error ≢ OutOfMemory)

-- The exit code is that of a status with which the call of these words ends.
abbrev pub Exits : List Bytes → ReadSide → WriteSide → SinkSide → ℕ → Type 0
Exits words r w s code = (status : Status) × Ends words r w s status × (code ≡ exit_code_of status)
