use Rattle.command_words.proofs.Forms.{plan_form, check_form, audit_form, graph_form, make_form}
use Rattle.command_words.proofs.laws.plain_forms_are_commands.Goals as goal

pub returns : goal.returns
returns c = record { plan = plan_form; check = check_form; audit = audit_form; graph = graph_form; make = make_form }
