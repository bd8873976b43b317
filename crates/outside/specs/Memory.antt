-- What a desk and a sink in memory hold, and what their calls make of it.
use Rattle.std.specs.Prelude.{◌≡◌, ℕ, ◌==◌, ◌||◌, Bool, true, false, List, [], ◌++◌, take, find, is_none, IsNone, IsSomeAnd, Option, Some, None, Result, Ok, Err, refl}
use Rattle.std.specs.List.{list_any}
use Rattle.std.specs.Option.{option_map}
use Rattle.std.specs.FinMap.{empty, get, insert, code}
use Rattle.std.specs.Coded.{Coded, code_by, coded×, coded_ℕ, coded_list, coded_option}
use Rattle.outside.specs.declared.desk.DeskFault.{DeskFault}
use Rattle.outside.specs.declared.desk.DeskFault.TheVariants as desk_fault
use Rattle.outside.specs.declared.sink.SinkFault.{SinkFault}
use Rattle.outside.specs.declared.sink.SinkFault.TheVariants as sink_fault
use Rattle.outside.specs.declared.memory.FailingSend.{FailingSend}
use Rattle.outside.specs.Outside.{Bytes, Files, raised}

-- The files of a desk, the fetches and puts so far, the numbers of those that are to fail, and how many failed, with the last name.
pub record DeskState : Type 0 where
  pub files : Files
  pub fetches : ℕ
  pub puts : ℕ
  pub failing_fetches : List ℕ
  pub failing_puts : List ℕ
  pub read_faults : ℕ
  pub write_faults : ℕ
  pub read_failed : Option Bytes
  pub write_failed : Option Bytes

-- the bytes of a name or of a file, stored as a list of numbers
abbrev pub bytes_code : Coded Bytes
bytes_code = coded_list coded_ℕ

-- a desk's state, stored as its files and call counts, its two lists, and its faults with their names
abbrev pub desk_code : Coded DeskState
desk_code =
    code_by (((Files × (ℕ × ℕ)) × (List ℕ × List ℕ)) × ((ℕ × ℕ) × (Option Bytes × Option Bytes)))
    (coded× (coded× (coded× (code bytes_code bytes_code) (coded× coded_ℕ coded_ℕ)) (coded× bytes_code bytes_code)) (coded× (coded× coded_ℕ coded_ℕ) (coded× (coded_option bytes_code) (coded_option bytes_code))))
    (λ d. (((d.files, (d.fetches, d.puts)), (d.failing_fetches, d.failing_puts)), ((d.read_faults, d.write_faults), (d.read_failed, d.write_failed))))
    (λ p. record { files = p.0.0.0; fetches = p.0.0.1.0; puts = p.0.0.1.1; failing_fetches = p.0.1.0; failing_puts = p.0.1.1; read_faults = p.1.0.0; write_faults = p.1.0.1; read_failed = p.1.1.0; write_failed = p.1.1.1 })
    (λ _. refl)

-- A desk with no files, that was never called and is told of no call that is to fail.
abbrev pub new_desk : DeskState
new_desk = record { files = empty; fetches = 0; puts = 0; failing_fetches = []; failing_puts = []; read_faults = 0; write_faults = 0; read_failed = None; write_failed = None }

-- whether the next fetch is in the list of those that are to fail, or there is no such file
abbrev pub fetch_fails : DeskState → Bytes → Bool
fetch_fails desk name = list_any (λ number. number == raised desk.fetches) desk.failing_fetches || is_none (get desk.files name)

-- whether the next put is in the list of those that are to fail
abbrev pub put_fails : DeskState → Bool
put_fails desk = list_any (λ number. number == raised desk.puts) desk.failing_puts

-- `Failed` only where the call is to fail, and `Ok` only where it is not.
abbrev pub FailsWhere : {T : Type 0} → Result T DeskFault → Bool → Type 0
FailsWhere (Ok _) fails = fails ≡ false
FailsWhere (Err desk_fault.Failed) fails = fails ≡ true
FailsWhere (Err desk_fault.Memory) fails = Unit {0}

-- A fetch is counted, and a fault of it with the name. After `Memory` all stays.
abbrev pub Fetches : {T : Type 0} → Result T DeskFault → DeskState → DeskState → Bytes → Type 0
Fetches (Ok _) old new name = new ≡ record old { fetches = raised old.fetches }
Fetches (Err desk_fault.Failed) old new name = new ≡ record old { fetches = raised old.fetches; read_faults = raised old.read_faults; read_failed = Some name }
Fetches (Err desk_fault.Memory) old new name = new ≡ old

-- A put is counted and its file holds the bytes, or the fault is counted with the name and the files stay. After `Memory` all stays.
abbrev pub PutsFile : Result Unit DeskFault → DeskState → DeskState → Bytes → Bytes → Type 0
PutsFile (Ok _) old new name bytes = new ≡ record old { puts = raised old.puts; files = insert old.files name bytes }
PutsFile (Err desk_fault.Failed) old new name bytes = new ≡ record old { puts = raised old.puts; write_faults = raised old.write_faults; write_failed = Some name }
PutsFile (Err desk_fault.Memory) old new name bytes = new ≡ old

-- What was sent, the sends so far, those that are to fail, and how many failed.
pub record SinkState : Type 0 where
  pub written : Bytes
  pub sends : ℕ
  pub failing_sends : List FailingSend
  pub faults : ℕ

-- A sink to which nothing was sent, and that is told of no send that is to fail.
abbrev pub new_sink : SinkState
new_sink = record { written = []; sends = 0; failing_sends = []; faults = 0 }

-- how much of its piece the next send is to append before it fails, by the first entry with its number
abbrev pub failing_prefix : SinkState → Option ℕ
failing_prefix sink = option_map (λ fail. fail.prefix) (find (λ fail. fail.number == raised sink.sends) sink.failing_sends)

-- A send that is to fail appends the listed first part and is a fault, and any other appends its piece. After `Memory` all stays.
abbrev pub SendsPiece : Result Unit SinkFault → SinkState → SinkState → Bytes → Type 0
SendsPiece (Ok _) old new piece = IsNone (failing_prefix old) × (new ≡ record old { written = old.written ++ piece; sends = raised old.sends })
SendsPiece (Err sink_fault.Failed) old new piece = IsSomeAnd (failing_prefix old) (λ prefix. new ≡ record old { written = old.written ++ take prefix piece; sends = raised old.sends; faults = raised old.faults })
SendsPiece (Err sink_fault.Memory) old new piece = new ≡ old
