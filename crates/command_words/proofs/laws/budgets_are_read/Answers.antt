use Rattle.command_words.proofs.Forms.{budget_after, budget_before, budget_joined}
use Rattle.command_words.proofs.laws.budgets_are_read.Goals as goal

pub returns : goal.returns
returns c = record { after = budget_after; before = budget_before; joined = budget_joined }
