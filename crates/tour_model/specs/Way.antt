-- The ways on through a tour, with no rules, and the earliest end.
use Rattle.std.specs.Prelude.{◌≡◌, ℕ, ◌+◌, ◌≤◌, Bool, true, false, List, [], ◌∷◌, length, if◌then◌else◌}
use Rattle.duty_core.specs.declared.activity.Activity.{Activity}
use Rattle.duty_core.specs.declared.activity.Activity.TheVariants.{Drive, Serve, Wait, Off, Berth}
use Rattle.tour_model.specs.declared.tour.Tour.{Tour}
use Rattle.tour_model.specs.Word.{word_length, may_do}

-- whether the activity does a step of the tour's driving or service
abbrev pub progresses : Activity → Bool
progresses Drive = true
progresses Serve = true
progresses Wait = false
progresses Off = false
progresses Berth = false

-- the progress after an activity
abbrev pub done : ℕ → Activity → ℕ
done progress x = if progresses x then progress + 1 else progress

-- the progress after activities
abbrev pub done_after : ℕ → List Activity → ℕ
done_after progress [] = progress
done_after progress (x ∷ xs) = done_after (done progress x) xs

-- From this step and progress on, the tour allows the activities one after the other.
abbrev pub GoesFrom : Tour → ℕ → ℕ → List Activity → Type 0
GoesFrom tour step progress [] = Unit {0}
GoesFrom tour step progress (x ∷ xs) = (may_do tour step progress x ≡ true) × GoesFrom tour (step + 1) (done progress x) xs

-- The activities go from this step and progress to the end of the word, and end at the step `end`.
pub record EndsAt (tour : Tour) (step progress : ℕ) (xs : List Activity) (end : ℕ) : Type 0 where
  pub goes : GoesFrom tour step progress xs
  pub finishes : done_after progress xs ≡ word_length tour
  pub ends : step + length xs ≡ end

-- Some activities end at `end`, and none end before it.
pub record IsEarliestEnd (tour : Tour) (step progress end : ℕ) : Type 0 where
  pub way : List Activity
  pub reached : EndsAt tour step progress way end
  pub earliest : (xs : List Activity) (other : ℕ) → EndsAt tour step progress xs other → end ≤ other

-- No activities go from this step and progress to the end of the word.
abbrev pub HasNoWay : Tour → ℕ → ℕ → Type 0
HasNoWay tour step progress = (xs : List Activity) (end : ℕ) → EndsAt tour step progress xs end → ⊥
