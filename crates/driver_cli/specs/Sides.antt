-- What a call meets and leaves outside.
use Rattle.std.specs.Prelude.{◌≡◌, ℕ, Option, None, Some}
use Rattle.std.specs.FinMap.{get, insert}
use Rattle.std.specs.Option.{option_map}
use Rattle.outside.specs.declared.desk.Desk as desk
use Rattle.outside.specs.declared.sink.Sink as sink
use Rattle.outside.specs.Outside.{Bytes, Files, Rose, PutsOthers}

-- What the fetches of a call meet and leave: the files of the desk before the call, how many fetches had failed and have, and the names of the last ones.
pub record ReadSide : Type 0 where
  pub files : Option Files
  pub faults_before : ℕ
  pub faults_now : ℕ
  pub failed_before : Option Bytes
  pub failed_now : Option Bytes

-- What the puts of a call leave: the files of the desk before and now, how many puts had failed and have, and the names of the last ones.
pub record WriteSide : Type 0 where
  pub files_before : Option Files
  pub files_now : Option Files
  pub faults_before : ℕ
  pub faults_now : ℕ
  pub failed_before : Option Bytes
  pub failed_now : Option Bytes

-- What a call sends: the bytes of the sink before and now, how many sends there had been and have, and how many had failed and have.
pub record SinkSide : Type 0 where
  pub written_before : Option Bytes
  pub written_now : Option Bytes
  pub sends_before : ℕ
  pub sends_now : ℕ
  pub faults_before : ℕ
  pub faults_now : ℕ

-- what a desk tells of itself before and after some calls
module _ {D : Type 0} (told : desk.Ghosts D) (before now : D) where
  abbrev pub read_side : ReadSide
  read_side = record {
    files = told.files before;
    faults_before = told.read_faults before;
    faults_now = told.read_faults now;
    failed_before = told.read_failed before;
    failed_now = told.read_failed now;
  }

  abbrev pub write_side : WriteSide
  write_side = record {
    files_before = told.files before;
    files_now = told.files now;
    faults_before = told.write_faults before;
    faults_now = told.write_faults now;
    failed_before = told.write_failed before;
    failed_now = told.write_failed now;
  }

-- what a sink tells
abbrev pub sink_side : {S : Type 0} → sink.Ghosts S → S → S → SinkSide
sink_side told before now = record {
  written_before = told.written before;
  written_now = told.written now;
  sends_before = told.sends before;
  sends_now = told.sends now;
  faults_before = told.faults before;
  faults_now = told.faults now;
}

-- No fetch failed: what failed before stays.
pub record IsUnfailed (r : ReadSide) : Type 0 where
  pub faults : r.faults_now ≡ r.faults_before
  pub failed : r.failed_now ≡ r.failed_before

-- The fetch of the file of this name failed.
pub record IsUnread (r : ReadSide) (name : Bytes) : Type 0 where
  pub rose : Rose r.faults_before r.faults_now
  pub failed : r.failed_now ≡ Some name

-- Nothing was put, and no put failed: the files are as before.
pub record IsKept (w : WriteSide) : Type 0 where
  pub files : w.files_now ≡ w.files_before
  pub faults : w.faults_now ≡ w.faults_before
  pub failed : w.failed_now ≡ w.failed_before

-- The file of this name holds these bytes, every other file is as before, and no put failed.
pub record HasPut (w : WriteSide) (name bytes : Bytes) : Type 0 where
  pub files : w.files_now ≡ option_map (λ files. insert files name bytes) w.files_before
  pub faults : w.faults_now ≡ w.faults_before
  pub failed : w.failed_now ≡ w.failed_before

-- The file of the first name was made to hold the first bytes, and then that of the second name the second ones; every other file is as before, and no put failed.
pub record HavePut (w : WriteSide) (name bytes name2 bytes2 : Bytes) : Type 0 where
  pub files : w.files_now ≡ option_map (λ files. insert (insert files name bytes) name2 bytes2) w.files_before
  pub faults : w.faults_now ≡ w.faults_before
  pub failed : w.failed_now ≡ w.failed_before

-- The file of the first name was made to hold these bytes, and then the put of that of the second name failed: every file of another name than the second holds what it held in between.
pub record IsUnputBehind (w : WriteSide) (name bytes name2 : Bytes) : Type 0 where
  pub rose : Rose w.faults_before w.faults_now
  pub failed : w.failed_now ≡ Some name2
  pub others : PutsOthers (option_map (λ files. insert files name bytes) w.files_before) w.files_now name2

-- All files of other names than these two stay.
abbrev pub PutsOtherTwo : Option Files → Option Files → Bytes → Bytes → Type 0
PutsOtherTwo None new name name2 = Unit {0}
PutsOtherTwo (Some files) None name name2 = ⊥
PutsOtherTwo (Some files) (Some now) name name2 = (other : Bytes) → (other ≡ name → ⊥) → (other ≡ name2 → ⊥) → get now other ≡ get files other

-- The put of the file of this name failed, and every other file is as before.
pub record IsUnput (w : WriteSide) (name : Bytes) : Type 0 where
  pub rose : Rose w.faults_before w.faults_now
  pub failed : w.failed_now ≡ Some name
  pub others : PutsOthers w.files_before w.files_now name
