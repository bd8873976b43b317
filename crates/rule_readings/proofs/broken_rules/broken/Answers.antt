use Rattle.std.proofs.Common.{◌≡◌, ◌↔◌, IsTrue, ◌+◌, ◌++◌, [], ◌∷◌, take, get_or, sym, subst, ◌∙◌}
use Rattle.std.proofs.lemmas.List.{take_more}
use Rattle.std.proofs.lemmas.Bool.{iff_false}
use Rattle.duty_core.specs.declared.rule.Rule.{Rule}
use Rattle.duty_core.specs.declared.rule.Rule.TheVariants.{UsWindow14}
use Rattle.duty_core.specs.RuleBooks.{Keeps, KeepsPadded}
use Rattle.rule_readings.specs.Broken.{AreBroken}
use Rattle.rule_readings.specs.Laws.BrokenLaws.{broken_kept, broken_more}
use Rattle.rule_readings.proofs.broken_rules.broken.Goals as goal
use Rattle.rule_readings.proofs.broken_rules.broken.Goals.{then-not-keeps+in_ok-push, else-not-keeps}

pub loop-rule-preserved : goal.loop-rule-preserved
loop-rule-preserved c =
    let items = c.rules_of_book-rule-items.result.now in
    let i = c.loop-rule.rule-index in
    let rule : Rule = get_or items i UsWindow14 in
    let more : take (i + 1) items ≡ take i items ++ rule ∷ [] = take_more items i UsWindow14 c.loop-rule-test.true in
    let Kept = Keeps c.args.params c.args.first c.args.history.now c.args.marks.now in
    let decided : IsTrue c.keeps.result ↔ Kept rule =
    subst (λ p. IsTrue c.keeps.result ↔ KeepsPadded c.args.params c.args.first p c.args.marks.now rule) c.in_ok-padded.ensures c.keeps.ensures in
    let before : AreBroken Kept (take i items) c.loop-rule.rules = c.loop-rule.invariant in
    elim c.if-not-keeps.branch [
      | then-not-keeps+in_ok-push w ↦
          let grown : AreBroken Kept (take i items ++ rule ∷ []) (c.loop-rule.rules ++ rule ∷ []) = broken_more Kept (take i items) c.loop-rule.rules rule before (iff_false decided w.if-not-keeps.true) in
          let is : c.loop-rule.rules ++ rule ∷ [] ≡ c.if-not-keeps.rules = sym (w.rules-is ∙ w.in_ok-push.ensures.ok) in
          subst (λ rules. AreBroken Kept rules c.if-not-keeps.rules) (sym more) (subst (λ broken. AreBroken Kept (take i items ++ rule ∷ []) broken) is grown)
      | else-not-keeps w ↦
          let same : AreBroken Kept (take i items ++ rule ∷ []) c.loop-rule.rules = broken_kept Kept (take i items) c.loop-rule.rules rule before (decided.0 w.if-not-keeps.false) in
          subst (λ rules. AreBroken Kept rules c.if-not-keeps.rules) (sym more) (subst (λ broken. AreBroken Kept (take i items ++ rule ∷ []) broken) (sym w.rules-is) same)
    ]
