use Rattle.rest_bound.specs.Laws.StepLaws.{at_end, can_after, step_work, step_split, step_wait, step_split_wait, step_idle, reaches_end}
use Rattle.rest_bound.specs.Laws.OrderLaws.{no_worse_ends}
use Rattle.rest_bound.proofs.laws.ends_law.Goals as goal

pub returns-clause-last : goal.returns-clause-last
returns-clause-last c = at_end

pub returns-clause-after : goal.returns-clause-after
returns-clause-after c = can_after

pub returns-clause-order : goal.returns-clause-order
returns-clause-order c = no_worse_ends

pub returns-clause-work : goal.returns-clause-work
returns-clause-work c = step_work

pub returns-clause-split : goal.returns-clause-split
returns-clause-split c = step_split

pub returns-clause-wait : goal.returns-clause-wait
returns-clause-wait c = step_wait

pub returns-clause-split_wait : goal.returns-clause-split_wait
returns-clause-split_wait c = step_split_wait

pub returns-clause-idle : goal.returns-clause-idle
returns-clause-idle c = step_idle

pub returns-clause-run : goal.returns-clause-run
returns-clause-run c = reaches_end
