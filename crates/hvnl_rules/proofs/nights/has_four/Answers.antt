use Rattle.std.proofs.Common.{◌≡◌, ℕ, ◌-◌, ◌≤◌, true, false, cond, sym, ◌∙◌, ap, arith}
use Rattle.std.specs.Prelude.{count_by}
use Rattle.hvnl_rules.specs.Nights.{dates_from, is_safe}
use Rattle.hvnl_rules.specs.Laws.Dates.{count_few, counts_on}
use Rattle.hvnl_rules.proofs.nights.has_four.Goals.{then-is_safe, else-is_safe}
use Rattle.hvnl_rules.proofs.nights.has_four.Goals as goal

pub overflow_add-safe : goal.overflow_add-safe
overflow_add-safe c =
    let e : c.loop-date.safe ≡ count_by (is_safe c.args.soonest c.args.dates.now) (dates_from c.first_date-first.result (c.loop-date.date - c.first_date-first.result)) = c.loop-date.invariant in
    let q = count_few (is_safe c.args.soonest c.args.dates.now) c.first_date-first.result (c.loop-date.date - c.first_date-first.result) in
    omega arith

pub loop-date-preserved : goal.loop-date-preserved
loop-date-preserved c =
    let t = is_safe c.args.soonest c.args.dates.now in
    let first : ℕ = c.first_date-first.result in
    let date : ℕ = c.loop-date.date in
    let l : first ≤ date = omega arith in
    let e : c.loop-date.safe ≡ count_by t (dates_from first (date - first)) = c.loop-date.invariant in
    let on = counts_on t first date l in
    elim c.if-is_safe.branch [
      | then-is_safe w ↦
          let y : t date ≡ true = sym c.is_safe.ensures ∙ w.if-is_safe.true in
          let one : cond {A = ℕ} (t date) 1 0 ≡ 1 = ap (λ b. cond {A = ℕ} b 1 0) y in
          let s = w.safe-is in
          omega arith
      | else-is_safe w ↦
          let y : t date ≡ false = sym c.is_safe.ensures ∙ w.if-is_safe.false in
          let none : cond {A = ℕ} (t date) 1 0 ≡ 0 = ap (λ b. cond {A = ℕ} b 1 0) y in
          let s = w.safe-is in
          omega arith
    ]
