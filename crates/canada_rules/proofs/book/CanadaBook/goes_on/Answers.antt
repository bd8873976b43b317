use Rattle.std.proofs.Common.{◌≡◌, ℕ, ◌+◌, ◌-◌, None, Some, sym, ◌∙◌, ap, subst, arith}
use Rattle.canada_rules.specs.Machine.{ca_may, goes_on}
use Rattle.canada_rules.specs.Stretch.{IsGoing}
use Rattle.canada_rules.specs.Laws.Stretch.{goes_on_by, keeps_going}
use Rattle.canada_rules.proofs.book.CanadaBook.goes_on.Goals as goal

-- none is taken
pub days-init : goal.days-init
days-init c =
    let book = c.args.self.now in
    let may = ca_may book.berth book.way in
    let next = c.args.next in
    let same : c.args.at ≡ c.args.at + 0 = omega arith in
    record {
      few = omega arith;
      going = subst (λ i. IsGoing may book.way book.day_start next i c.args.act) same c.requires.going;
      there = λ j e.
          ap (goes_on may book.day_start (Some next) c.args.at c.args.act) (let z : c.args.n ≡ j = omega arith in z)
          ∙ ap (λ m. goes_on may book.day_start (Some next) m c.args.act j) same;
    }

-- the minutes of one day more are taken
pub days-preserved : goal.days-preserved
days-preserved c =
    let book = c.args.self.now in
    let may = ca_may book.berth book.way in
    let x = c.args.act in
    let at : ℕ = c.args.at + c.days.done in
    let n : ℕ = c.min-minutes.result in
    let reached = c.in_ok-reached.reached in
    let taken : goes_on may book.day_start (Some c.days.reached) at x n ≡ Some reached = sym c.stretch.ensures ∙ c.in_ok-reached.was in
    let next : at + n ≡ c.args.at + (c.days.done + n) = omega arith in
    record {
      few = omega arith;
      going = subst (λ i. IsGoing may book.way book.day_start reached i x) next (keeps_going may book.way book.day_start x n c.days.reached reached at c.days.invariant.going taken);
      there = λ j e.
          c.days.invariant.there (n + j) (omega arith)
          ∙ (goes_on_by may book.day_start x n (Some c.days.reached) at j
          ∙ (ap (λ o. goes_on may book.day_start o (at + n) x j) taken ∙ ap (λ i. goes_on may book.day_start (Some reached) i x j) next));
    }

-- a rule refuses one of them
pub returns-in_err-reached : goal.returns-in_err-reached
returns-in_err-reached c =
    let book = c.args.self.now in
    let may = ca_may book.berth book.way in
    let x = c.args.act in
    let at : ℕ = c.args.at + c.days.done in
    let n : ℕ = c.min-minutes.result in
    let left : ℕ = c.args.n - c.days.done - n in
    let refused : goes_on may book.day_start (Some c.days.reached) at x n ≡ None = sym c.stretch.ensures ∙ c.in_err-reached.was in
    let nothing : c.from_residual.result ≡ None = c.from_residual.ensures in
    nothing
    ∙ sym (c.days.invariant.there (n + left) (omega arith)
    ∙ (goes_on_by may book.day_start x n (Some c.days.reached) at left ∙ ap (λ o. goes_on may book.day_start o (at + n) x left) refused))

-- none is left
pub returns : goal.returns
returns c = sym (c.days.invariant.there 0 (omega arith))
