-- Minutes as hours and minutes.
use Rattle.std.proofs.Common.{◌≡◌, ℕ, ◌/◌, ◌%◌, ◌^◌, ◌-◌, ◌<◌, ◌≤◌, ◌⊎◌, inl, inr, [], ◌∷◌, ◌++◌, false, decimal, refl, sym, append_assoc, arith}
use Rattle.std.specs.Fmt.{padded_integral, format_spec, styled_decimal, char_count}
use Rattle.std.proofs.lemmas.Fmt.{decimal_digit, decimal_step}
use Rattle.std.proofs.lemmas.Bool.{cases_lt}
use Rattle.civil_minutes.specs.Time.{two_digits}
use Rattle.text_parts.specs.Parts.{clock_text}

-- a number of one digit, with a zero in front
pad_one : (m : ℕ) → m < 10 → padded_integral (format_spec 32 0 4 2 (2 ^ 64 - 1)) false [] (decimal m) ≡ two_digits m
unfolding padded_integral char_count
pad_one m small =
    let tens : m / 10 ≡ 0 = omega arith in
    let units : m % 10 ≡ m = omega arith in
    rw (decimal_digit m small, tens, units) refl

-- a number of two
pad_two : (m : ℕ) → 10 ≤ m → m < 60 → padded_integral (format_spec 32 0 4 2 (2 ^ 64 - 1)) false [] (decimal m) ≡ two_digits m
unfolding padded_integral char_count
pad_two m long small =
    let tens : m / 10 % 10 ≡ m / 10 = omega arith in
    rw (decimal_step m long (omega arith), decimal_digit (m / 10) (omega arith), tens) refl

-- minutes in two places
padded_minutes : (m : ℕ) → m < 60 → padded_integral (format_spec 32 0 4 2 (2 ^ 64 - 1)) false [] (decimal m) ≡ two_digits m
padded_minutes m small =
    let sides : (m < 10) ⊎ (10 ≤ m) = cases_lt m 10 in
    elim sides [ inl lt ↦ pad_one m lt | inr le ↦ pad_two m le small ]

-- the hours, a colon, and the minutes in two places
pub clock_is : (minutes : ℕ) → decimal (minutes / 60) ++ (58 ∷ styled_decimal (format_spec 32 0 4 2 (2 ^ 64 - 1)) (minutes % 60)) ≡ clock_text minutes
clock_is minutes = rw (padded_minutes (minutes % 60) (omega arith)) (sym (append_assoc (decimal (minutes / 60)) (58 ∷ []) (two_digits (minutes % 60))))
