use Rattle.std.proofs.Common.{◌≡◌, ℕ, ◌+◌, ◌-◌, None, Some, sym, ◌∙◌, ap, subst, arith}
use Rattle.us_rules.specs.Machine.{IsUsState, goes_on}
use Rattle.us_rules.specs.Advance.{IsSteady}
use Rattle.us_rules.specs.Laws.Spans.{steady_goes, goes_more, goes_kept, goes_steady}
use Rattle.us_rules.proofs.book.UsBook.goes_on.Goals as goal

-- the units of one day more are taken
pub loop-done-preserved : goal.loop-done-preserved
loop-done-preserved c =
    let book = c.args.self.now in
    let s = c.loop-done.state in
    let x = c.args.act in
    let at : ℕ = c.args.at + c.loop-done.done in
    let more : ℕ = c.min-more.result in
    let left : ℕ = c.args.n - (c.loop-done.done + more) in
    let still = c.loop-done.invariant.steady in
    let taken : goes_on book.berth book.days book.day_start (Some s) at x more ≡ Some c.in_ok-state.state =
    sym (steady_goes book.berth book.days book.day_start more s at x still (omega arith)) ∙ (sym c.first_next.ensures ∙ c.in_ok-state.was) in
    let next : at + more ≡ c.args.at + (c.loop-done.done + more) = omega arith in
    let all : c.args.n - c.loop-done.done ≡ more + left = omega arith in
    record {
      state = subst (IsUsState book.berth book.days book.day_start c.in_ok-state.state) next
          (goes_kept book.berth book.days book.day_start more (Some s) at x c.in_ok-state.state (λ u e. let q : s ≡ u = cc in subst (λ v. IsUsState book.berth book.days book.day_start v at) q c.loop-done.invariant.state) taken);
      steady = goes_steady book.berth book.days book.day_start more (Some s) at x c.in_ok-state.state (λ u e. let q : s ≡ u = cc in subst (λ v. IsSteady v x) q still) taken;
      within = omega arith;
      reached =
          c.loop-done.invariant.reached
          ∙ (ap (goes_on book.berth book.days book.day_start (Some s) at x) all
          ∙ (sym (goes_more book.berth book.days book.day_start more left (Some s) at x)
          ∙ (ap (λ o. goes_on book.berth book.days book.day_start o (at + more) x left) taken
          ∙ ap (λ m. goes_on book.berth book.days book.day_start (Some c.in_ok-state.state) m x left) next)));
    }

-- a rule forbids one of them
pub returns-in_err-state : goal.returns-in_err-state
returns-in_err-state c =
    let book = c.args.self.now in
    let s = c.loop-done.state in
    let x = c.args.act in
    let at : ℕ = c.args.at + c.loop-done.done in
    let more : ℕ = c.min-more.result in
    let left : ℕ = c.args.n - (c.loop-done.done + more) in
    let refused : goes_on book.berth book.days book.day_start (Some s) at x more ≡ None =
    sym (steady_goes book.berth book.days book.day_start more s at x c.loop-done.invariant.steady (omega arith)) ∙ (sym c.first_next.ensures ∙ c.in_err-state.was) in
    let all : c.args.n - c.loop-done.done ≡ more + left = omega arith in
    let nothing : c.from_residual.result ≡ None = c.from_residual.ensures in
    nothing ∙ sym (c.loop-done.invariant.reached
    ∙ (ap (goes_on book.berth book.days book.day_start (Some s) at x) all
    ∙ (sym (goes_more book.berth book.days book.day_start more left (Some s) at x) ∙ ap (λ o. goes_on book.berth book.days book.day_start o (at + more) x left) refused)))

-- none is left
pub returns : goal.returns
returns c =
    let book = c.args.self.now in
    let none : c.args.n - c.loop-done.done ≡ 0 = omega arith in
    sym (c.loop-done.invariant.reached ∙ ap (goes_on book.berth book.days book.day_start (Some c.loop-done.state) (c.args.at + c.loop-done.done) c.args.act) none)
