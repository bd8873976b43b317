-- The numbers that a made tour is drawn from.
use Rattle.std.specs.Prelude.{ℕ, ◌+◌, ◌*◌, ◌/◌, ◌%◌, zero, suc}
use Rattle.report_text.specs.declared.draws.TheConstants.{DRAW_FACTOR, DRAW_ADDEND, DRAW_MODULUS, DRAW_DIVISOR}

-- the number after this one
abbrev pub next_number : ℕ → ℕ
next_number x = (x * DRAW_FACTOR + DRAW_ADDEND) % DRAW_MODULUS

-- what is drawn with a number
abbrev pub drawn : ℕ → ℕ
drawn x = x / DRAW_DIVISOR

-- the number after so many draws, the first of which goes on from this number
abbrev pub number_after : ℕ → ℕ → ℕ
number_after seed zero = seed
number_after seed (suc draws) = next_number (number_after seed draws)
