use Rattle.command_words.proofs.Forms.{plan_after, check_after, audit_after, graph_after, make_after}
use Rattle.command_words.proofs.laws.any_names_stand_after_two_hyphens.Goals as goal

pub returns : goal.returns
returns c = record { plan = plan_after; check = check_after; audit = audit_after; graph = graph_after; make = make_after }
