use Rattle.std.proofs.Common.{◌≡◌, ◌∷◌, [], ◌++◌, ◌+◌, take, true, false, refl, sym, ◌∙◌, ap, subst, inl, inr}
use Rattle.std.proofs.lemmas.List.{take_more, take_all}
use Rattle.rule_core.specs.Reach.{IsOneOf}
use Rattle.rule_core.specs.Laws.OneOf.{one_of_item, one_of-append}
use Rattle.cert_checker.proofs.follow.has_all_used.Goals as goal

pub returns-then-one-marks : goal.returns-then-one-marks
returns-then-one-marks g c = (
  (λ _. (c.one-item.result, one_of_item c.args.held.now c.loop-one.one-index c.one-item.result c.loop-one-test.true c.one-item.is, c.if-one-marks.true)),
  (λ _. refl),
)

pub loop-one-preserved : goal.loop-one-preserved
loop-one-preserved g c e o u =
    let xs = c.args.held.now in
    let i = c.loop-one.one-index in
    let x = c.one-item.result in
    let more : take (i + 1) xs ≡ take i xs ++ x ∷ [] = take_more xs i x c.loop-one-test.true ∙ ap (λ z. take i xs ++ z ∷ []) (sym c.one-item.is) in
    elim (one_of-append (take i xs) (x ∷ []) e (subst (λ ys. IsOneOf ys e) more o)) [
      | inl a ↦ c.loop-one.invariant e a u
      | inr q ↦ elim q [ inl eq ↦ c.if-one-marks.false (ap (λ d. d.used) eq ∙ u) | inr z ↦ absurd z ]
    ]

pub returns : goal.returns
returns g c = (
  (λ t. absurd (let f : false ≡ true = t in cc)),
  (λ a. absurd (c.loop-one.invariant a.0 (subst (λ ys. IsOneOf ys a.0) (sym (take_all c.loop-one.one-index c.args.held.now c.loop-one-test.false)) a.1) a.2)),
)
