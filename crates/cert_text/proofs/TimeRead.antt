-- Reading a time at the front of bytes.
use Rattle.std.proofs.Common.{◌≡◌, ℕ, ◌≤◌, List, length, take, drop, Result, refl}
use Rattle.std.specs.Result.{result_ok}
use Rattle.std.proofs.lemmas.Bool.{le-ltb}
use Rattle.civil_minutes.specs.declared.read.BadTime.{BadTime}
use Rattle.civil_minutes.specs.TimeOf.{time_of}
use Rattle.cert_text.specs.Text.Reading.{time_is, time_at}

pub time_read : (bytes front rest : List ℕ) (r : Result ℕ BadTime) → 16 ≤ length bytes → front ≡ take 16 bytes → rest ≡ drop 16 bytes → result_ok r ≡ time_of front
    → time_at bytes ≡ time_is (length bytes) rest (result_ok r)
unfolding time_at
time_read bytes front rest r long f d e = rw (le-ltb _ _ long, d, e, f) refl
