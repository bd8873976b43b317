-- What sending an answer does.
use Rattle.std.specs.Prelude.{◌≡◌, ◌⊎◌}
use Rattle.std.specs.Io.KnownBytes.{Keeps, Appends}
use Rattle.outside.specs.Outside.{Bytes, raised, Rose, AppendsStart}
use Rattle.driver_cli.specs.declared.answer.Status.{Status}
use Rattle.driver_cli.specs.declared.answer.Status.TheVariants.{WriteFault, Memory}
use Rattle.driver_cli.specs.Sides.{SinkSide}

-- There was exactly one send, and it appended the text whole.
pub record IsSent (s : SinkSide) (text : Bytes) : Type 0 where
  pub once : s.sends_now ≡ raised s.sends_before
  pub whole : Appends s.written_before s.written_now text
  pub faults : s.faults_now ≡ s.faults_before

-- There was exactly one send, it failed, and some first part of the text was appended.
pub record IsCutOff (s : SinkSide) (text : Bytes) : Type 0 where
  pub once : s.sends_now ≡ raised s.sends_before
  pub rose : Rose s.faults_before s.faults_now
  pub start : AppendsStart s.written_before s.written_now text

-- No send was counted, and nothing was appended.
pub record IsUnsent (s : SinkSide) : Type 0 where
  pub never : s.sends_now ≡ s.sends_before
  pub nothing : Keeps s.written_before s.written_now
  pub faults : s.faults_now ≡ s.faults_before

-- The text was sent in one send and its status told, or that send failed after some first part, or there was no memory for one.
abbrev pub Sent : Status → Bytes → SinkSide → Status → Type 0
Sent status text s told = ((told ≡ status) × IsSent s text) ⊎ (((told ≡ WriteFault) × IsCutOff s text) ⊎ ((told ≡ Memory) × IsUnsent s))
