-- How many limits of one kind there can be at once.
use Rattle.std.proofs.Common.{ℕ, ◌-◌}
use Rattle.allowance.specs.declared.limit.Limit.{Limit}

-- The rest units that are still to come before no units break the limit any more: a duty unit leaves this number, and a rest unit takes one.
abbrev pub slack : Limit → ℕ
slack p = p.units - p.duty
