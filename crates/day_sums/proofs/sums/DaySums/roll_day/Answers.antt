use Rattle.std.proofs.Common.{◌≡◌, ℕ, ◌-◌, refl, inl, inr, subst, sym}
use Rattle.std.specs.Prelude.{replicate}
use Rattle.day_sums.proofs.KeptLaws.{kept_rolled, kept_days}
use Rattle.day_sums.proofs.sums.DaySums.roll_day.Goals as goal
use borrow.Rule.Slice.PartMut.{post_of}

pub invariant_of-self : goal.invariant_of-self
invariant_of-self c =
    kept_rolled c.self.inside.days c.self.inside.sums c.copy_from_slice.new.self _ c.self.invariant c.copy_from_slice.ensures.after
    (elim (kept_days c.self.inside.days c.self.inside.sums c.self.invariant) [
      | inl e ↦ subst (λ d. post_of {X = ℕ} 1 (d - 1) (replicate 14 0) ≡ replicate (14 - d) 0) (sym e) refl
      | inr f ↦ elim f [
        | inl e ↦ subst (λ d. post_of {X = ℕ} 1 (d - 1) (replicate 14 0) ≡ replicate (14 - d) 0) (sym e) refl
        | inr e ↦ subst (λ d. post_of {X = ℕ} 1 (d - 1) (replicate 14 0) ≡ replicate (14 - d) 0) (sym e) refl
      ]
    ])
