-- The records that a reader has left.
use Rattle.std.specs.Prelude.{◌≡◌, ◌+◌, true, false, ℕ, List, [], length, Some, IsSome, unwrap_or}
use Rattle.std.specs.Borrow.{Bor}
use Rattle.csv.specs.Machine.{ends_at_end}
use Rattle.csv.specs.Reading.{Ready, default_config, records, records_from, source_of, strip_bom}
use Rattle.csv.specs.declared.reader.Reader.{Reader}
use Rattle.csv.specs.declared.reader.Trim.TheVariants as trim

-- the bytes that a reader of a text has left
abbrev pub bytes_left : Reader (Bor (List ℕ)) → List ℕ
bytes_left reader = unwrap_or (source_of (λ text. Some text.now) reader) []

-- the records of those bytes
abbrev pub records_left : Reader (Bor (List ℕ)) → List (List (List ℕ))
records_left reader = records_from default_config (length (bytes_left reader) + 1) reader.state (bytes_left reader)

-- A reader that gives the next record of what it has left: it reads as CSV by default does, takes records of any number
-- of fields, and stands between records.
pub record IsBetween (reader : Reader (Bor (List ℕ))) : Type 0 where
  pub plain : reader.config ≡ default_config
  pub flexible : reader.flexible ≡ true
  pub untrimmed : reader.trim ≡ trim.None
  pub ready : Ready reader
  pub known : IsSome (source_of (λ text. Some text.now) reader)
  pub between : ends_at_end reader.state ≡ false

-- What a reader of a text has left at first: all its records. A byte order mark at its start is none of them.
pub record IsReaderOf (text : List ℕ) (reader : Reader (Bor (List ℕ))) : Type 0 where
  pub between : IsBetween reader
  pub all : records_left reader ≡ records default_config (strip_bom text)
