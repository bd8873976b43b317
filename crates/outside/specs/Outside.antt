-- What a desk of files and a sink know of themselves, and what their calls do to it.
use Rattle.std.specs.Prelude.{◌≡◌, ℕ, ◌+◌, ◌-◌, ◌^◌, ◌≤◌, min, List, take, Option, Some, None, Result, Ok, Err}
use Rattle.std.specs.Ordering.{nat_cmp}
use Rattle.std.specs.Cmp.Lexicographic.{slice_cmp}
use Rattle.std.specs.FinMap.{FinMap, get, insert}
use Rattle.std.specs.Option.{option_map}
use Rattle.std.specs.Io.KnownBytes.{Keeps, Appends}
use Rattle.outside.specs.declared.desk.DeskFault.{DeskFault}
use Rattle.outside.specs.declared.desk.DeskFault.TheVariants as desk_fault
use Rattle.outside.specs.declared.sink.SinkFault.{SinkFault}
use Rattle.outside.specs.declared.sink.SinkFault.TheVariants as sink_fault

abbrev pub Bytes : Type 0
Bytes = List ℕ

-- from the names of files to their bytes
abbrev pub Files : Type 0
Files = FinMap (slice_cmp nat_cmp) Bytes

-- one more, and at most the greatest u64
abbrev pub raised : ℕ → ℕ
raised count = min (count + 1) (2 ^ 64 - 1)

-- A count that rose in a call, or stands at the greatest u64.
abbrev pub Rose : ℕ → ℕ → Type 0
Rose before now = raised before ≤ now

-- the first `limit` bytes of a file, none where there is no such file
abbrev pub start_of : Files → Bytes → ℕ → Option Bytes
start_of files name limit = option_map (take limit) (get files name)

-- `Failed` only where the count rose, and then the failed name is that of the call. In every other case both stay.
abbrev pub Tells : {T : Type 0} → Result T DeskFault → (before now : ℕ) → (failed_before failed_now : Option Bytes) → Bytes → Type 0
Tells (Ok _) before now failed_before failed_now name = (now ≡ before) × (failed_now ≡ failed_before)
Tells (Err desk_fault.Memory) before now failed_before failed_now name = (now ≡ before) × (failed_now ≡ failed_before)
Tells (Err desk_fault.Failed) before now failed_before failed_now name = before ≤ now × Rose before now × (failed_now ≡ Some name)

-- All files of other names stay.
abbrev pub PutsOthers : Option Files → Option Files → Bytes → Type 0
PutsOthers None new name = Unit {0}
PutsOthers (Some files) None name = ⊥
PutsOthers (Some files) (Some now) name = (other : Bytes) → (other ≡ name → ⊥) → get now other ≡ get files other

-- The file of that name holds these bytes and no other file changed; after `Failed` all files of other names stay, and after `Memory` all files.
abbrev pub Puts : Result Unit DeskFault → Option Files → Option Files → Bytes → Bytes → Type 0
Puts (Ok _) old new name bytes = new ≡ option_map (λ files. insert files name bytes) old
Puts (Err desk_fault.Memory) old new name bytes = new ≡ old
Puts (Err desk_fault.Failed) old new name bytes = PutsOthers old new name

-- Some first part of a piece was appended.
abbrev pub AppendsStart : Option Bytes → Option Bytes → Bytes → Type 0
AppendsStart old new piece = (n : ℕ) × Appends old new (take n piece)

-- The piece is appended; after `Failed` some first part of it, and after `Memory` nothing.
abbrev pub Sends : Result Unit SinkFault → Option Bytes → Option Bytes → Bytes → Type 0
Sends (Ok _) old new piece = Appends old new piece
Sends (Err sink_fault.Memory) old new piece = Keeps old new
Sends (Err sink_fault.Failed) old new piece = AppendsStart old new piece

-- `Failed` only where the count rose. In every other case it stays.
abbrev pub Counts : Result Unit SinkFault → ℕ → ℕ → Type 0
Counts (Ok _) before now = now ≡ before
Counts (Err sink_fault.Memory) before now = now ≡ before
Counts (Err sink_fault.Failed) before now = before ≤ now × Rose before now

-- A send is counted where it was answered `Ok` or `Failed`. After `Memory` the count stays.
abbrev pub CountsSend : Result Unit SinkFault → ℕ → ℕ → Type 0
CountsSend (Ok _) before now = now ≡ raised before
CountsSend (Err sink_fault.Memory) before now = now ≡ before
CountsSend (Err sink_fault.Failed) before now = now ≡ raised before
