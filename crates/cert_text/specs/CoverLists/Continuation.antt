-- Continuations of a label: activities, one for each step, up to a finished label.
use Rattle.std.specs.Prelude.{◌≡◌, ℕ, ◌+◌, ◌-◌, ◌≤◌, Bool, true, List, [], ◌∷◌, length, Option, unwrap_or}
use Rattle.duty_core.specs.declared.activity.Activity.{Activity}
use Rattle.duty_core.specs.declared.mark.Mark.{Mark}
use Rattle.rule_core.specs.Reach.{Reaches}
use Rattle.tour_model.specs.declared.label.Label.{Label}
use Rattle.tour_model.specs.Way.{done, done_after}
use Rattle.cert_text.specs.CoverLists.Problem.{Problem, departed}

-- From this step and progress on, the tour and the book allow the activities one after the other.
abbrev pub IsAllowedFrom : {S : Type 0} → Problem S → (Activity → Bool) → ℕ → ℕ → List Activity → Type 0
IsAllowedFrom problem allowed k p [] = Unit {0}
IsAllowedFrom problem allowed k p (x ∷ xs) = (problem.may k p x ≡ true) × (allowed x ≡ true) × IsAllowedFrom problem allowed (k + 1) (done p x) xs

-- the departure after activities, the first of which is at step k
abbrev pub departed_after : Option ℕ → ℕ → List Activity → Option ℕ
departed_after d k [] = d
departed_after d k (x ∷ xs) = departed_after (departed d x k) (k + 1) xs

-- The activities continue a label of this step: they are allowed one after the other, the book has successors along them, and they end at a finished label.
pub record Continues {S : Type 0} (problem : Problem S) (allowed : Activity → Bool) (step : ℕ) (l : Label S) (xs : List Activity) : Type 0 where
  pub goes : IsAllowedFrom problem allowed step l.progress xs
  pub finishes : done_after l.progress xs ≡ problem.goal
  pub marks : List Mark
  pub end : S
  pub path : Reaches 1 problem.nexts l.state step xs marks end

-- the steps from the departure to the end of a continuation
abbrev pub takes : {S : Type 0} → ℕ → Label S → List Activity → ℕ
takes step l xs = (step + length xs) - unwrap_or (departed_after l.depart step xs) 0

-- Each continuation of b is answered by one of a that ends at the same step and takes no more.
abbrev pub AnswersContinuations : {S : Type 0} → Problem S → (Activity → Bool) → ℕ → Label S → Label S → Type 0
AnswersContinuations problem allowed step a b =
    (xs : List Activity) → Continues problem allowed step b xs →
    (ys : List Activity) × Continues problem allowed step a ys × (length ys ≡ length xs) × (takes step a ys ≤ takes step b xs)
