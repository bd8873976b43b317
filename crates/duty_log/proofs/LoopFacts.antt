-- The loop over the rows of a log.
use Rattle.std.proofs.Common.{◌≡◌, ◌≢◌, ℕ, ◌+◌, ◌<◌, ◌≤◌, true, false, List, [], length, None, Some, Result, Ok, Err, refl, inl, inr}
use Rattle.std.specs.Prelude.{IfOk, IfErr}
use Rattle.std.specs.Borrow.{Bor}
use Rattle.csv.specs.Reading.{default_config, source_of, strip_bom}
use Rattle.csv.specs.declared.parser.State.TheVariants as st
use Rattle.csv.specs.declared.reader.Reader.{Reader}
use Rattle.csv.specs.declared.reader.Trim.TheVariants as trim
use Rattle.duty_core.specs.declared.activity.Activity.{Activity}
use Rattle.duty_core.specs.declared.params.Params.{Params}
use Rattle.duty_log.specs.declared.fault.LogFault.{LogFault}
use Rattle.duty_log.specs.declared.fault.LogFault.TheVariants.{BadHeader, EndsElsewhere}
use Rattle.duty_log.specs.declared.read.TheConstants.{LOG_LIMIT}
use Rattle.duty_log.specs.declared.row.Row.{Row}
use Rattle.duty_log.specs.Words.{header}
use Rattle.duty_log.specs.Log.{at_start, thereafter, ends_at, Place, ReadsLog, ReadsRecords, ReadsRow, ReadsRows}
use Rattle.duty_log.specs.Records.{IsBetween, IsReaderOf, records_left}
use Rattle.duty_log.proofs.RowFacts.{IsNext, row_next}
use Rattle.duty_log.proofs.RecordFacts.{Moves}
use Rattle.duty_log.proofs.PlaceFacts.{Continues, IsSound, StaysSound, continues_after, continues_fault, stays_sound}

-- What the loop over the rows keeps: the reader goes on, the rows read so far are sound, and those that are left give the rest.
pub record IsUnderWay (params : Params) (start : ℕ) (reader : Reader (Bor (List ℕ))) (turns : ℕ) (place : Place) (all : List (List (List ℕ))) : Type 0 where
  pub between : IsBetween reader
  pub turns_left : 0 < turns
  pub sound : IsSound params place.rows place.span place.units
  pub rest : Continues params start place (records_left reader) all

-- what is true of a row that the loop has read
pub loop_row : (params : Params) (start : ℕ) (reader : Reader (Bor (List ℕ))) (turns : ℕ) (place : Place) (all : List (List (List ℕ))) (fields : List (List ℕ)) (row : Row)
    → IsUnderWay params start reader turns place all → ReadsRow params (place.rows + 1) place.span fields (Ok row) → IsNext params place.span row × StaysSound params place.rows place.span place.units row
loop_row params start reader turns place all fields row h told =
    let next = row_next params (place.rows + 1) place.span fields row told in
    (next, stays_sound params place.rows place.span place.units row h.sound next)

-- one more row
pub goes_on : (params : Params) (start : ℕ) (old new : Reader (Bor (List ℕ))) (turns left : ℕ) (place : Place) (all : List (List (List ℕ))) (fields : List (List ℕ)) (row : Row)
    → IsUnderWay params start old turns place all → Moves old new fields → 0 < left → ReadsRow params (place.rows + 1) place.span fields (Ok row) → IsUnderWay params start new left (thereafter params place row) all
goes_on params start old new turns left place all fields row h moves more told =
    let r = loop_row params start old turns place all fields row h told in
    record {
      between = moves.between;
      turns_left = more;
      sound = r.1.sound;
      rest = continues_after params start place fields (records_left old) (records_left new) all row moves.left told h.rest;
    }

-- a row with a fault
pub stops : (params : Params) (start : ℕ) (old new : Reader (Bor (List ℕ))) (turns : ℕ) (place : Place) (all : List (List (List ℕ))) (fields : List (List ℕ)) (fault : LogFault)
    → IsUnderWay params start old turns place all → Moves old new fields → ReadsRow params (place.rows + 1) place.span fields (Err fault) → ReadsRows params start at_start all (Err fault)
stops params start old new turns place all fields fault h moves told =
    continues_fault params start place fields (records_left old) (records_left new) all fault moves.left told h.rest

-- no row more
pub ends_there : (params : Params) (start : ℕ) (reader : Reader (Bor (List ℕ))) (turns : ℕ) (place : Place) (all : List (List (List ℕ)))
    → IsUnderWay params start reader turns place all → records_left reader ≡ [] → ends_at place.span start ≡ true → ReadsRows params start at_start all (Ok place.units)
ends_there params start reader turns place all h none there = h.rest (Ok place.units) (rw (none, there) refl)

pub ends_elsewhere : (params : Params) (start : ℕ) (reader : Reader (Bor (List ℕ))) (turns : ℕ) (place : Place) (all : List (List (List ℕ)))
    → IsUnderWay params start reader turns place all → records_left reader ≡ [] → ends_at place.span start ≡ false → ReadsRows params start at_start all (Err EndsElsewhere)
ends_elsewhere params start reader turns place all h none elsewhere = h.rest (Err EndsElsewhere) (rw (none, elsewhere) refl)

-- ---- the header

pub fresh : (reader : Reader (Bor (List ℕ))) (text : List ℕ) → reader.config ≡ default_config → reader.flexible ≡ true → reader.trim ≡ trim.None → reader.has_headers ≡ false → reader.headers ≡ None → reader.state ≡ st.StartRecord → source_of (λ text. Some text.now) reader ≡ Some (strip_bom text) → IsReaderOf text reader
fresh reader text plain flexible untrimmed unnamed no_headers start source = record {
  between = record {
    plain = plain;
    flexible = flexible;
    untrimmed = untrimmed;
    ready = inr (inr (unnamed, no_headers));
    known = rw source refl;
    between = rw start refl;
  };
  all = rw (source, start) refl;
}

-- the records read as the rows after the header do
pub headed : (params : Params) (start : ℕ) (old new : Reader (Bor (List ℕ))) (fields : List (List ℕ)) (answer : Result (List Activity) LogFault)
    → Moves old new fields → fields ≡ header → ReadsRows params start at_start (records_left new) answer → ReadsRecords params start (records_left old) answer
headed params start old new fields answer moves named told = rw moves.left (inl (named, told))

pub misnamed : (params : Params) (start : ℕ) (old new : Reader (Bor (List ℕ))) (fields : List (List ℕ)) → Moves old new fields → fields ≢ header → ReadsRecords params start (records_left old) (Err BadHeader)
misnamed params start old new fields moves other = rw moves.left (inr (other, refl))

pub headless : (params : Params) (start : ℕ) (old : Reader (Bor (List ℕ))) → records_left old ≡ [] → ReadsRecords params start (records_left old) (Err BadHeader)
headless params start old none = rw none refl

-- a log that is not too big reads as its records do
pub as_records : (bytes : List ℕ) (params : Params) (start : ℕ) (reader : Reader (Bor (List ℕ))) (answer : Result (List Activity) LogFault) → length bytes ≤ LOG_LIMIT → IsReaderOf bytes reader → ReadsRecords params start (records_left reader) answer → ReadsLog bytes params start answer
as_records bytes params start reader answer small h told = inr (small, rw (← h.all) told)

-- ---- what follows for each answer

pub ok_follows : {A E : Type 0} (r : Result A E) (P Q : A → Type 0) → ((x : A) → P x → Q x) → IfOk r P → IfOk r Q
ok_follows (Ok x) P Q f h = f x h
ok_follows (Err e) P Q f h = tt

pub err_follows : {A E : Type 0} (r : Result A E) (P Q : E → Type 0) → ((e : E) → P e → Q e) → IfErr r P → IfErr r Q
err_follows (Ok x) P Q f h = tt
err_follows (Err e) P Q f h = f e h
