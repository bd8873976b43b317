-- Where there is no base.
use Rattle.std.proofs.Common.{◌≡◌, ℕ, ◌+◌, ◌<◌, ◌≤◌, List, Option, None, sym, subst, arith, inl, inr}
use Rattle.duty_core.specs.declared.activity.Activity.{Activity}
use Rattle.duty_core.specs.DeclaredRest.{IsDeclared, IsLastDeclared}
use Rattle.duty_core.specs.Base.{IsBase}
use Rattle.duty_core.specs.Laws.UniqueLaws.{last_declared_start, last_declared_end}
use Rattle.rule_readings.specs.declared.base.Base.{Base}
use Rattle.rule_readings.specs.BaseFound.{IsBaseFound}

-- where no declared rest has ended
no_base : (full : ℕ) (p : List Activity) (Marked : ℕ → Type 0) (i : ℕ) → ((a b : ℕ) → IsDeclared full p Marked a b → b ≤ i → ⊥) → (b u : ℕ) → IsBase full p Marked i b u → ⊥
no_base full p Marked i none b u h = elim h [
  | inl f ↦ none f.from b f.last.declared f.last.before
  | inr s ↦ none s.from s.to s.waits.last.declared s.waits.last.before
]

pub none_found : (full : ℕ) (p : List Activity) (Marked : ℕ → Type 0) (i : ℕ) (found : Option Base) → found ≡ None → ((a b : ℕ) → IsDeclared full p Marked a b → b ≤ i → ⊥) → IsBaseFound (IsBase full p Marked i) found
none_found full p Marked i found e none = subst (IsBaseFound (IsBase full p Marked i)) (sym e) (no_base full p Marked i none)

-- where the last declared rest is split, and none has ended before it
no_base_before : (full : ℕ) (p : List Activity) (Marked : ℕ → Type 0) (i from to : ℕ) → IsLastDeclared full p Marked i from to → to < from + full → ((a b : ℕ) → IsDeclared full p Marked a b → b ≤ from → ⊥) →
    (b u : ℕ) → IsBase full p Marked i b u → ⊥
no_base_before full p Marked i from to l short none b u h = elim h [
  | inl f ↦ (let x = last_declared_start full p Marked i from to f.from b l f.last in let y = last_declared_end full p Marked i from to f.from b l f.last in let z = f.rest.long in omega arith)
  | inr s ↦
      let x = last_declared_start full p Marked i from to s.from s.to l s.waits.last in
      let y = s.before.before in
      none s.earlier b s.before.declared (omega arith)
]

pub none_found_before : (full : ℕ) (p : List Activity) (Marked : ℕ → Type 0) (i from to : ℕ) (found : Option Base) → found ≡ None → IsLastDeclared full p Marked i from to → to < from + full →
    ((a b : ℕ) → IsDeclared full p Marked a b → b ≤ from → ⊥) → IsBaseFound (IsBase full p Marked i) found
none_found_before full p Marked i from to found e l short none = subst (IsBaseFound (IsBase full p Marked i)) (sym e) (no_base_before full p Marked i from to l short none)
