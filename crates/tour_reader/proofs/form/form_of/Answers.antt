use Rattle.std.proofs.Common.{true, rules, arith}
use Rattle.serde_json.specs.View.{view}
use Rattle.tour_reader.proofs.FormFacts.{form_of_read, form_of_refused}
use Rattle.tour_reader.proofs.form.form_of.Goals as goal

pub returns-in-Ok : goal.returns-in-Ok
returns-in-Ok c = form_of_read _ (view c.in-Ok.form) true (omega arith) c.in-Ok.ensures.ok.0 c.in-Ok.ensures.ok.1 (search rules)

pub returns-in-Err-2 : goal.returns-in-Err-2
returns-in-Err-2 c = λ _. form_of_refused _ (omega arith) (c.in-Err.ensures.err (λ memory. search rules))
