-- How many limits of one kind there can be at once.
use Rattle.std.proofs.Common.{◌≡◌, ℕ, ◌+◌, ◌*◌, ◌≤◌, List, [], ◌∷◌, ◌⊎◌, inl, inr, refl, ap, length, arith}
use Rattle.std.specs.Prelude.{All}
use Rattle.std.proofs.Math.Nat.{suc-mul}
use Rattle.std.proofs.lemmas.List.Elements.{All-head, All-tail}
use Rattle.allowance.specs.declared.limit.Limit.{Limit}
use Rattle.allowance.specs.Few.{slack}

-- Each limit has at least `apart` more of them than the one before, since so many rest units stand between two starts.
abbrev pub IsSpacedFrom : ℕ → ℕ → List Limit → Type 0
IsSpacedFrom apart low [] = Unit {0}
IsSpacedFrom apart low (p ∷ ps) = (low ≤ slack p) × IsSpacedFrom apart (slack p + apart) ps

-- so there are few, where all have at most `top`
pub spaced_few : (apart top : ℕ) (ps : List Limit) (low : ℕ) → All (λ p. slack p ≤ top) ps → IsSpacedFrom apart low ps → (length ps ≡ 0) ⊎ (low + length ps * apart ≤ top + apart)
spaced_few apart top [] low a s = inl refl
spaced_few apart top (p ∷ ps) low a s =
    let h : slack p ≤ top = All-head (λ q. slack q ≤ top) p ps a in
    let l = s.0 in
    let m = suc-mul (length ps) apart in
    elim (spaced_few apart top ps (slack p + apart) (All-tail (λ q. slack q ≤ top) p ps a) s.1) [
      | inl e ↦ inr (let z : length ps * apart ≡ 0 * apart = ap (λ n. n * apart) e in omega arith)
      | inr q ↦ inr (omega arith)
    ]
