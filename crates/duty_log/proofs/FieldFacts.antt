-- The fields of a record of three, by their places.
use Rattle.std.proofs.Common.{◌≡◌, ℕ, zero, suc, ◌<◌, List, [], ◌∷◌, length, Some, None, arith}
use Rattle.csv.specs.Records.{field_at}

-- a record of three has a field at each place below three
pub has_field : (fields : List (List ℕ)) (i : ℕ) → length fields ≡ 3 → i < 3 → field_at fields i ≡ None → ⊥
unfolding field_at
has_field [] i three low none = omega arith
has_field (a ∷ []) i three low none = omega arith
has_field (a ∷ b ∷ []) i three low none = omega arith
has_field (a ∷ b ∷ c ∷ []) zero three low none = cc
has_field (a ∷ b ∷ c ∷ []) (suc zero) three low none = cc
has_field (a ∷ b ∷ c ∷ []) (suc (suc zero)) three low none = cc
has_field (a ∷ b ∷ c ∷ []) (suc (suc (suc i))) three low none = omega arith
has_field (a ∷ b ∷ c ∷ d ∷ more) i three low none = omega arith

-- and is those three
pub all_fields : (fields : List (List ℕ)) (from to status : List ℕ) → length fields ≡ 3 → Some from ≡ field_at fields 0 → Some to ≡ field_at fields 1 → Some status ≡ field_at fields 2 → fields ≡ from ∷ to ∷ status ∷ []
unfolding field_at
all_fields [] from to status three x y z = absurd (omega arith)
all_fields (a ∷ []) from to status three x y z = absurd (omega arith)
all_fields (a ∷ b ∷ []) from to status three x y z = absurd (omega arith)
all_fields (a ∷ b ∷ c ∷ []) from to status three x y z = cc
all_fields (a ∷ b ∷ c ∷ d ∷ more) from to status three x y z = absurd (omega arith)
