-- The least end as a function of the counts.
use Rattle.std.specs.Prelude.{ℕ, suc, zero, Option, None, Some}
use Rattle.std.proofs.Common.{inl, inr}
use Rattle.rest_bound.specs.declared.limits.Limits.{Limits}
use Rattle.rest_bound.specs.declared.counts.Counts.{Counts}
use Rattle.rest_bound.specs.Ends.{Plan}
use Rattle.rest_bound.specs.CanEnd.{CanEnd}
use Rattle.rest_bound.specs.Laws.Decisions.{Decided, can_end_or_not}

-- what was found before, else this number where it is decided that P holds
abbrev pub or_this : (P : Type 0) → Option ℕ → ℕ → Decided P → Option ℕ
or_this P (Some b) e d = Some b
or_this P None e (inl h) = Some e
or_this P None e (inr h) = None

-- the first number up to the horizon for which P holds, by a decision of each
unfoldable pub least_of : (P : ℕ → Type 0) → ((e : ℕ) → Decided (P e)) → ℕ → Option ℕ
least_of P d zero = or_this (P 0) None 0 (d 0)
least_of P d (suc horizon) = or_this (P (suc horizon)) (least_of P d horizon) (suc horizon) (d (suc horizon))

-- The least end up to the horizon that the counts c at step k leave open, with the n pieces from p on to come. None: there is none.
unfoldable pub least_end : Plan → Limits → ℕ → ℕ → ℕ → Counts → ℕ → Option ℕ
least_end plan l n p k c horizon = least_of (CanEnd plan l n p k c) (can_end_or_not plan l n p k c) horizon
