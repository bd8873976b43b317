-- Which histories the counts allow: those whose split rests are such, and make pairs, and that keep the limits at each unit of driving.
use Rattle.std.specs.Prelude.{◌≡◌, ◌↔◌, ℕ, ◌<◌, Bool, true, List, [], ◌∷◌, ◌++◌, length}
use Rattle.duty_core.specs.declared.activity.Activity.{Activity}
use Rattle.duty_core.specs.declared.activity.Activity.TheVariants.{Drive}
use Rattle.duty_core.specs.History.{unit_at}
use Rattle.sleeper_split.specs.declared.rule.SplitRule.{SplitRule}
use Rattle.sleeper_split.specs.declared.count.SplitCount.{SplitCount}
use Rattle.sleeper_split.specs.Laws.Alike.{AreMarkedAlike}
use Rattle.sleeper_split.specs.Tracks.{Tracks}

-- A limit that is asked at each unit of driving, of the counts since the base. It looks at nothing after its place.
pub record IsLimit (rule : SplitRule) (ok : SplitCount → Bool) (Holds : List Activity → (ℕ → Type 0) → ℕ → Type 0) : Type 1 where
  pub local : (p q : List Activity) (Marked Other : ℕ → Type 0) (n i : ℕ) → AreMarkedAlike p Marked q Other n → i < n → Holds p Marked i → Holds q Other i
  pub idle : (p : List Activity) (Marked : ℕ → Type 0) (i : ℕ) → (unit_at p i ≡ Drive → ⊥) → Holds p Marked i
  pub meant : (p : List Activity) (Marked : ℕ → Type 0) (s : SplitCount) → Tracks rule (p ++ Drive ∷ []) Marked s → (ok s ≡ true) ↔ Holds (p ++ Drive ∷ []) Marked (length p)
