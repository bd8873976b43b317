-- Parts are one text.
use Rattle.std.proofs.Common.{◌≡◌, ℕ, List, [], ◌∷◌, ◌++◌, sym, subst, ◌∙◌}
use Rattle.civil_minutes.proofs.TimeTexts.{one_text}
use Rattle.text_parts.specs.Parts.{Part, Said, Time, Puts, IsText}

-- after one text parts give one text
one_put : (parts : List Part) (before a b : List ℕ) → Puts parts before a → Puts parts before b → a ≡ b
one_put [] before a b h k = h ∙ sym k
one_put (Said bytes ∷ parts) before a b h k = one_put parts (before ++ bytes) a b h k
one_put (Time at ∷ parts) before a b h k =
    let same : k.0 ≡ h.0 = one_text k.0 h.0 at k.1 h.1 in
    one_put parts (before ++ h.0) a b h.2 (subst (λ (time : List ℕ). Puts parts (before ++ time) b) same k.2)

-- two texts that are the same parts are equal
pub parts_are_one_text : (parts : List Part) (a b : List ℕ) → IsText parts a → IsText parts b → a ≡ b
parts_are_one_text parts a b h k = one_put parts [] a b h k
