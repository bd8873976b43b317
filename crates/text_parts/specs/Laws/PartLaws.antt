-- Parts after parts.
use Rattle.std.proofs.Common.{ℕ, List, [], ◌∷◌, ◌++◌, subst}
use Rattle.text_parts.specs.Parts.{Part, Said, Time, Puts}

-- parts after parts are put as they follow one another
pub puts_on : (a b : List Part) (x y z : List ℕ) → Puts a x y → Puts b y z → Puts (a ++ b) x z
puts_on [] b x y z p q = subst (λ w. Puts b w z) p q
puts_on (Said bytes ∷ a) b x y z p q = puts_on a b (x ++ bytes) y z p q
puts_on (Time at ∷ a) b x y z p q = (p.0, p.1, puts_on a b (x ++ p.0) y z p.2 q)
