use Rattle.std.proofs.Common.{None, Some}
use Rattle.tour_reader.proofs.FormFacts.{unknown_name}
use Rattle.tour_reader.proofs.form.first_unknown.Goals as goal

pub returns-in_err-name : goal.returns-in_err-name
returns-in_err-name c = rw c.from_residual-in_err-name.ensures (unknown_name c.args.fields.now _ _ None c.in_ok-as_object.ensures c.in_err-name.ensures)

pub returns : goal.returns
returns c = rw c.as_str.ensures.value (unknown_name c.args.fields.now _ _ (Some c.in_ok-name.name.now) c.in_ok-as_object.ensures c.in_ok-name.ensures)
