-- The numbers that are drawn.
use Rattle.std.proofs.Common.{◌≡◌, ℕ, ◌*◌, ◌≤◌, arith}
use Rattle.std.specs.Int.{div_ceil}
use Rattle.report_text.specs.Made.{drive_drawn, service_drawn}

-- how far a drawn number may go
pub drive_most : (q : ℕ) → drive_drawn q ≤ 240
drive_most q = omega arith

pub service_least : (q : ℕ) → 30 ≤ service_drawn q
service_least q = omega arith

pub service_most : (q : ℕ) → service_drawn q ≤ 90
service_most q = omega arith

-- half hours are whole steps
pub whole_steps : (n : ℕ) → div_ceil (30 * n) 30 ≡ n
whole_steps n = omega arith
