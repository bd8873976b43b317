-- Texts that are made of parts, with times in them.
use Rattle.std.specs.Prelude.{◌≡◌, ℕ, ◌/◌, ◌%◌, ◌&&◌, nat_le, if◌then◌else◌, List, [], ◌∷◌, ◌++◌, codes}
use Rattle.std.specs.Fmt.{decimal}
use Rattle.civil_minutes.specs.Time.{IsTimeText, two_digits}

-- a part of a text: bytes as they are, or the time of a civil minute
pub data Part : Type 0 where
  Said : List ℕ → Part
  Time : ℕ → Part

-- The text `before` becomes `now` where the parts are put after it in their order, each time as `YYYY-MM-DDTHH:MM`.
abbrev pub Puts : List Part → (before now : List ℕ) → Type 0
Puts [] before now = now ≡ before
Puts (Said bytes ∷ parts) before now = Puts parts (before ++ bytes) now
Puts (Time at ∷ parts) before now = (time : List ℕ) × IsTimeText time at × Puts parts (before ++ time) now

-- The text is these parts.
abbrev pub IsText : List Part → List ℕ → Type 0
IsText parts text = Puts parts [] text

-- minutes as hours, a colon, and two digits of minutes
abbrev pub clock_text : ℕ → List ℕ
clock_text minutes = decimal (minutes / 60) ++ codes ":" ++ two_digits (minutes % 60)

-- minutes, of less than 100 hours, as two digits of hours, a colon, and two digits of minutes
abbrev pub total_text : ℕ → List ℕ
total_text minutes = two_digits (minutes / 60) ++ codes ":" ++ two_digits (minutes % 60)

-- a byte from 0x20 to 0x7E, and `?` for each other
abbrev pub printable : ℕ → ℕ
printable byte = if nat_le 0x20 byte && nat_le byte 0x7E then byte else 63
