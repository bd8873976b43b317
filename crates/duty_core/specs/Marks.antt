-- The marks of a history that begins at the minute `first`, and what they name.
use Rattle.std.specs.Prelude.{◌≡◌, ℕ, ℤ, pos, ◌+ℤ◌, ◌*ℤ◌, ◌<ℤ◌, Bool, true, false, List, [], Contains, AllPairs}
use Rattle.duty_core.specs.declared.mark.Mark.{Mark}
use Rattle.duty_core.specs.declared.mark.Mark.TheVariants.{SplitRest, DeferDay}
use Rattle.duty_core.specs.declared.params.Params.{Params}
use Rattle.duty_core.specs.declared.limits.TheConstants.{DAY_MINUTES}
use Rattle.duty_core.specs.Params.{terms_of}
use Rattle.duty_core.specs.Day.{day_start, minute_at, IsNumberOfDay}

-- the civil minute that a mark stands at: the first one of its rest run, or of its day
abbrev pub mark_minute : Params → Mark → ℤ
mark_minute params (SplitRest at) = pos at
mark_minute params (DeferDay day) = day *ℤ pos DAY_MINUTES +ℤ pos (day_start params)

-- each mark stands before each later one
abbrev pub AreInOrder : Params → List Mark → Type 0
AreInOrder params marks = AllPairs (λ m n. mark_minute params m <ℤ mark_minute params n) marks

-- a list of marks of the book: strictly increasing in time, and none where a history has no marks
abbrev pub AreMarksIf : Bool → Params → List Mark → Type 0
AreMarksIf true params marks = AreInOrder params marks
AreMarksIf false params marks = marks ≡ []

abbrev pub AreMarks : Params → List Mark → Type 0
AreMarks params marks = AreMarksIf (terms_of params).has_marks params marks

-- the minute `at` is that of place i
abbrev pub IsMinuteOf : Params → ℕ → ℕ → ℕ → Type 0
IsMinuteOf params first at i = pos at ≡ minute_at params first i

-- a mark names the rest run that begins at place i
pub record IsSplitAt (params : Params) (first : ℕ) (marks : List Mark) (i : ℕ) : Type 0 where
  pub at : ℕ
  pub minute : IsMinuteOf params first at i
  pub marked : Contains marks (SplitRest at)

-- a mark defers the day with this number
pub record IsDeferred (marks : List Mark) (number : ℕ) : Type 0 where
  pub day : ℤ
  pub numbered : IsNumberOfDay day number
  pub marked : Contains marks (DeferDay day)
