use Rattle.std.proofs.Common.{sym, subst, arith}
use Rattle.rule_readings.specs.Values.{IsAskable}
use Rattle.rule_readings.proofs.Books.{askable}
use Rattle.rule_readings.proofs.ValueLaws.{all_inside, all_late}
use Rattle.rule_readings.proofs.book_readings.reading_of.Goals as goal

pub best_of-requires-clause-askable : goal.best_of-requires-clause-askable
best_of-requires-clause-askable c =
    let l = c.requires.late in
    subst (λ asked. IsAskable c.args.history.now.scope.params c.args.history.now.scope.first asked.measure) (sym c.asked_of-asked.ensures)
    (askable c.args.history.now.scope.params c.args.history.now.scope.first c.args.rule c.requires.good c.requires.begins (omega arith) c.requires.of_book)

pub minute_at-requires-clause-inside : goal.minute_at-requires-clause-inside
minute_at-requires-clause-inside c =
    let best = c.in_ok-best.best in
    let l = all_inside c.asked_of-asked.result.measure c.args.history.now.scope c.args.history.now.padded.now c.args.history.now.marks.now c.requires.scope best.at best.used c.in_ok-best.ensures.there in
    let v = c.len-places.ensures.value in
    let b = c.len-places.ensures.bound in
    omega arith

pub minute_at-requires-clause-late : goal.minute_at-requires-clause-late
minute_at-requires-clause-late c =
    let best = c.in_ok-best.best in
    let l = c.requires.late in
    let a = subst (λ asked. IsAskable c.args.history.now.scope.params c.args.history.now.scope.first asked.measure) (sym c.asked_of-asked.ensures)
    (askable c.args.history.now.scope.params c.args.history.now.scope.first c.args.rule c.requires.good c.requires.begins (omega arith) c.requires.of_book) in
    all_late c.asked_of-asked.result.measure c.args.history.now.scope c.args.history.now.padded.now c.args.history.now.marks.now c.requires.scope c.requires.early a best.at best.used c.in_ok-best.ensures.there
