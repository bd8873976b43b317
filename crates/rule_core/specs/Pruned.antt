-- Roots that are kept of others.
use Rattle.std.specs.Prelude.{◌≡◌, ℕ, ◌≤◌, true, List, [], ◌∷◌, length}
use Rattle.rule_core.specs.declared.roots.Root.{Root}
use Rattle.rule_core.specs.Reach.{IsOneOf}
use Rattle.rule_core.specs.Machine.{Machine}

-- What is kept is some of the roots, no more than there are, and for each root one is kept whose state answers for its state.
pub record ArePruned {S : Type 0} (answers : S → S → Type 0) (roots kept : List (Root S)) : Type 0 where
  pub among : (root : Root S) → IsOneOf kept root → IsOneOf roots root
  pub all : (root : Root S) → IsOneOf roots root → (other : Root S) × IsOneOf kept other × answers other.state root.state
  pub few : length kept ≤ length roots

-- No root's state answers for that of a later one.
abbrev pub AreApart : {S : Type 0} → (S → S → Type 0) → List (Root S) → Type 0
AreApart answers [] = Unit {0}
AreApart {S} answers (root ∷ roots) = ((later : Root S) → IsOneOf roots later → answers root.state later.state → ⊥) × AreApart answers roots

-- What is left of the roots covers them all at this minute, and none of it covers a later one.
pub record AreUncovered {S : Type 0} (m : Machine S) (at : ℕ) (roots left : List (Root S)) : Type 0 where
  pub kept : ArePruned (λ a b. m.covers a b at ≡ true) roots left
  pub apart : AreApart (λ a b. m.covers a b at ≡ true) left
