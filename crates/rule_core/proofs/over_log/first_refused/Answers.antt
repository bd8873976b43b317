use Rattle.std.proofs.Common.{◌≡◌, ℕ, ◌+◌, ◌*◌, ◌-◌, ◌/◌, ◌<◌, ◌≤◌, sym, ◌∙◌, subst, arith}
use Rattle.std.proofs.lemmas.Bool.{true≢false}
use Rattle.std.proofs.Math.Nat.{mul-le-mul_left}
use Rattle.duty_core.specs.Params.{unit_minutes}
use Rattle.rule_core.specs.Replay.{GoesOn}
use Rattle.rule_core.proofs.over_log.first_refused.Goals as goal

-- fewer units end no later
within : (at u less n limit : ℕ) → less ≤ n → at + u * n < limit → at + u * less < limit
within at u less n limit l h = let e : u * less ≤ u * n = mul-le-mul_left u l in omega arith

-- the middle lies between
between : (k r : ℕ) → k + 1 < r → (k < k + (r - k) / 2) × (k + (r - k) / 2 < r)
between k r l = ((omega arith), (omega arith))

pub goes_on-requires : goal.goes_on-requires
goes_on-requires g c =
    let k = c.loop-kept.kept in
    let r = c.loop-kept.refused in
    let b = between k r c.loop-kept-test.true in
    let more : k < k + (r - k) / 2 = b.0 in
    let less : k + (r - k) / 2 < r = b.1 in
    let inside : r ≤ c.args.n = c.loop-kept.invariant.within in
    let long = c.requires.can.long in
    record {
      states = c.requires.can.states;
      some = omega arith;
      long = omega arith;
      range = within c.args.at (unit_minutes (g.B.RuleBook.machine c.args.book.now).params) (k + (r - k) / 2) c.args.n _ (omega arith) c.requires.can.range;
    }

pub loop-kept-init : goal.loop-kept-init
loop-kept-init g c =
    let some = c.requires.can.some in
    record { order = omega arith; within = omega arith; on = λ l. absurd (omega arith); none = c.requires.refused }

pub loop-kept-preserved-then-branch : goal.loop-kept-preserved-then-branch
loop-kept-preserved-then-branch g c = record {
  order = (between c.loop-kept.kept c.loop-kept.refused c.loop-kept-test.true).1;
  within = c.loop-kept.invariant.within;
  on = λ _. c.in_ok-goes_on.ensures.0 c.if-branch.true;
  none = c.loop-kept.invariant.none;
}

pub loop-kept-preserved : goal.loop-kept-preserved
loop-kept-preserved g c =
    let b = between c.loop-kept.kept c.loop-kept.refused c.loop-kept-test.true in
    let less : c.loop-kept.kept + (c.loop-kept.refused - c.loop-kept.kept) / 2 < c.loop-kept.refused = b.1 in
    let inside : c.loop-kept.refused ≤ c.args.n = c.loop-kept.invariant.within in
    record {
      order = b.0;
      within = omega arith;
      on = c.loop-kept.invariant.on;
      none = λ on. true≢false (sym (c.in_ok-goes_on.ensures.1 on) ∙ c.if-branch.false);
    }

pub returns : goal.returns
returns g c =
    let order : c.loop-kept.kept < c.loop-kept.refused = c.loop-kept.invariant.order in
    let inside : c.loop-kept.refused ≤ c.args.n = c.loop-kept.invariant.within in
    let e : c.loop-kept.kept + 1 ≡ c.loop-kept.refused = omega arith in
    record {
      inside = omega arith;
      refused = λ on. c.loop-kept.invariant.none (subst (λ k. GoesOn (g.B.RuleBook.machine c.args.book.now) c.args.at c.args.act k c.args.roots.now) e on);
      before = c.loop-kept.invariant.on;
    }
