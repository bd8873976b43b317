use Rattle.std.proofs.Common.{◌≡◌, ◌+◌, ◌≤◌, ap, ◌∙◌, sym, subst, arith}
use Rattle.std.specs.Prelude.{slice_index, length, min}
use Rattle.std.proofs.lemmas.List.{get_or_read}
use Rattle.duty_core.specs.Day.{day_number}
use Rattle.duty_core.specs.LostMinutes.{is_lost, lost}
use Rattle.rule_readings.specs.Lost.{AreLostCounts}
use Rattle.rule_readings.proofs.LostFacts.{day_lost, places_small}
use Rattle.rule_readings.proofs.lost.LostMinutes.in_day.Goals as goal

-- the lost minutes of the day and those before it are those before the next day
difference : (c : goal.After-row_known-2-1) → lost (day_number c.args.params c.args.first) c.args.padded.now c.args.number + c.index-2.result.now ≡ c.index.result.now
difference c =
    let p = c.args.padded.now in
    let counts = c.self.inside.counts.items in
    let k : AreLostCounts p counts = subst (λ xs. AreLostCounts p xs) (sym c.self.view_is) c.requires.counts in
    let m = k.many in
    let a = c.min-from.result in
    let b = c.min-to.result in
    let n = c.len.ensures.value in
    let o = c.len-2.ensures.value in
    let x : c.index-2.result.now ≡ slice_index counts a = get_or_read counts _ _ (omega arith) c.index-2.ensures 0 in
    let y : c.index.result.now ≡ slice_index counts b = get_or_read counts _ _ (omega arith) c.index.ensures 0 in
    day_lost p counts (day_number c.args.params c.args.first) c.args.number c.day_begin.result c.day_begin-2.result a b c.index-2.result.now c.index.result.now k c.day_begin.ensures c.day_begin-2.ensures
    (c.min-from.ensures ∙ ap (λ l. min c.day_begin.result l) n) (c.min-to.ensures ∙ ap (λ l. min c.day_begin-2.result l) o) x y

pub overflow_sub-result : goal.overflow_sub-result
overflow_sub-result c = let h = difference c in omega arith

pub returns-clause-value : goal.returns-clause-value
returns-clause-value c = let h = difference c in omega arith

pub returns-clause-bound : goal.returns-clause-bound
returns-clause-bound c =
    let p = c.args.padded.now in
    let counts = c.self.inside.counts.items in
    let k : AreLostCounts p counts = subst (λ xs. AreLostCounts p xs) (sym c.self.view_is) c.requires.counts in
    let b = c.min-to.result in
    let o = c.len-2.ensures.value in
    let z = c.len-2.ensures.bound in
    let m = k.many in
    let l : b ≤ length p = omega arith in
    let y : c.index.result.now ≡ slice_index counts b = get_or_read counts _ _ (omega arith) c.index.ensures 0 in
    let e = k.each b l in
    let s = places_small (is_lost p) b in
    omega arith
