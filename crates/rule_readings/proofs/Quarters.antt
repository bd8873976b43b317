-- Units of a book begin at the quarters of an hour.
use Rattle.std.proofs.Common.{ℕ, ◌*◌, ap, arith, inl, inr}
use Rattle.duty_core.specs.declared.params.Params.{Params}
use Rattle.duty_core.specs.Params.{BeginsUnit}
use Rattle.rule_readings.proofs.Books.{book_unit}

-- A unit of each book begins at a quarter of an hour.
pub begins_at_quarter : (params : Params) (quarter : ℕ) → BeginsUnit params (15 * quarter)
begins_at_quarter params quarter = elim (book_unit params) [
  | inl h ↦ (let e = ap (λ u. u * (15 * quarter)) h.unit in record { units = 15 * quarter; whole = omega arith })
  | inr h ↦ (let e = ap (λ u. u * quarter) h.unit in record { units = quarter; whole = omega arith })
]
