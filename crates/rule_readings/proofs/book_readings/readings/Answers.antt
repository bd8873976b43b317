use Rattle.std.proofs.Common.{◌≡◌, ◌+◌, ◌++◌, [], ◌∷◌, take, get_or, sym, subst}
use Rattle.std.proofs.lemmas.List.{take_more}
use Rattle.duty_core.specs.declared.rule.Rule.{Rule}
use Rattle.duty_core.specs.declared.rule.Rule.TheVariants.{UsWindow14}
use Rattle.duty_core.specs.History.{padded}
use Rattle.rule_readings.specs.Readings.{IsReadingFound, scope_of}
use Rattle.rule_readings.proofs.ReadingLoop.{AreReadingsOf, readings_more}
use Rattle.rule_readings.proofs.ValueLaws.{readings_before}
use Rattle.rule_readings.proofs.book_readings.readings.Goals as goal

pub loop-rule-preserved : goal.loop-rule-preserved
loop-rule-preserved c =
    let items = c.rules_of_book-rule-items.result.now in
    let i = c.loop-rule.rule-index in
    let rule : Rule = get_or items i UsWindow14 in
    let more : take (i + 1) items ≡ take i items ++ rule ∷ [] = take_more items i UsWindow14 c.loop-rule-test.true in
    let marks = c.args.marks.now in
    let scope = scope_of c.args.params c.args.first c.args.history.now c.args.planned_from in
    let Found = IsReadingFound scope (padded c.args.params c.args.history.now) marks in
    let found : Found rule c.reading_of.result =
    subst (λ p. IsReadingFound scope p marks rule c.reading_of.result) c.in_ok-padded.ensures (subst (λ s. IsReadingFound s c.in_ok-padded.padded marks rule c.reading_of.result) c.scope_of.ensures c.reading_of.ensures) in
    let grown : AreReadingsOf Found (take i items ++ rule ∷ []) (c.loop-rule.readings ++ (rule, c.reading_of.result) ∷ []) = readings_more Found (take i items) c.loop-rule.readings rule c.reading_of.result c.loop-rule.invariant found in
    subst (λ rules. AreReadingsOf Found rules c.push.new.self) (sym more) (subst (λ readings. AreReadingsOf Found (take i items ++ rule ∷ []) readings) (sym c.in_ok-push.ensures.ok) grown)

pub returns-clause-times : goal.returns-clause-times
returns-clause-times c = readings_before c.args.params c.args.first c.args.planned_from c.args.history.now c.args.marks.now c.loop-rule.readings c.loop-rule.invariant.each
