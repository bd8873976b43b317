-- Ways through a search problem, and the labels that they give.
use Rattle.std.specs.Prelude.{◌≡◌, ◌⊎◌, ℕ, Bool, List, length, Option, None, Some}
use Rattle.duty_core.specs.declared.activity.Activity.{Activity}
use Rattle.duty_core.specs.declared.mark.Mark.{Mark}
use Rattle.rule_core.specs.Reach.{IsOneOf, Reaches}
use Rattle.tour_model.specs.declared.label.Label.{Label}
use Rattle.tour_model.specs.Way.{done_after}
use Rattle.tour_model.specs.Schedule.{depart_from}
use Rattle.cert_text.specs.CoverLists.Problem.{Problem}
use Rattle.cert_text.specs.CoverLists.Cover.{IsLabelAt, taken}
use Rattle.cert_text.specs.CoverLists.Continuation.{IsAllowedFrom}
use Rattle.label_search.specs.Sound.{IsReachable}
use Rattle.label_search.specs.Searching.{IsSolved}
use Rattle.label_search.specs.declared.guess.Ranked.{Ranked}

-- The activities are a way through the problem from this root that chooses these marks and gives this label at this step.
pub record IsWay {S : Type 0} (problem : Problem S) (allowed : Activity → Bool) (starts : S → Type 0) (root : S) (step : ℕ) (xs : List Activity) (marks : List Mark) (l : Label S) : Type 0 where
  pub start : starts root
  pub long : length xs ≡ step
  pub goes : IsAllowedFrom problem allowed 0 0 xs
  pub path : Reaches 1 problem.nexts root 0 xs marks l.state
  pub progress : l.progress ≡ done_after 0 xs
  pub depart : l.depart ≡ depart_from 0 xs
  pub reachable : IsReachable problem starts step l

-- Some way from a state in which the driver may start gives this label of this step.
pub record IsReached {S : Type 0} (problem : Problem S) (is_state : S → ℕ → Type 0) (allowed : Activity → Bool) (starts : S → Type 0) (step : ℕ) (l : Label S) : Type 0 where
  pub start : S
  pub acts : List Activity
  pub marks : List Mark
  pub way : IsWay problem allowed starts start step acts marks l
  pub at : IsLabelAt is_state problem.goal step l

abbrev pub AreReached : {S : Type 0} → Problem S → (S → ℕ → Type 0) → (Activity → Bool) → (S → Type 0) → ℕ → List (Label S) → Type 0
AreReached {S} problem is_state allowed starts step ls = (l : Label S) → IsOneOf ls l → IsReached problem is_state allowed starts step l

abbrev pub AreRankedReached : {S : Type 0} → Problem S → (S → ℕ → Type 0) → (Activity → Bool) → (S → Type 0) → ℕ → List (Ranked S) → Type 0
AreRankedReached {S} problem is_state allowed starts step rs = (r : Ranked S) → IsOneOf rs r → IsReached problem is_state allowed starts step r.label

-- Where a duration is guessed, some whole way takes no more.
abbrev pub IsGuess : {S : Type 0} → Problem S → (Activity → Bool) → (S → Type 0) → Option ℕ → Type 0
IsGuess problem allowed starts None = Unit {0}
IsGuess problem allowed starts (Some n) = IsSolved problem allowed starts n

-- The new duration is the old one, or that of this label, which is finished.
abbrev pub IsLessOf : {S : Type 0} → ℕ → Label S → ℕ → Option ℕ → Option ℕ → Type 0
IsLessOf goal l step old new = (new ≡ old) ⊎ ((l.progress ≡ goal) × (new ≡ Some (taken step l)))

-- The new duration is the old one, or that of a finished label of the list.
abbrev pub IsLeastOf : {S : Type 0} → ℕ → List (Label S) → ℕ → Option ℕ → Option ℕ → Type 0
IsLeastOf {S} goal ls step old new = (new ≡ old) ⊎ ((l : Label S) × IsOneOf ls l × (l.progress ≡ goal) × (new ≡ Some (taken step l)))

-- Each of the two lists holds only what the first one does.
pub record ArePartsOf {X : Type 0} (xs departed others : List X) : Type 0 where
  pub departed_there : (x : X) → IsOneOf departed x → IsOneOf xs x
  pub others_there : (x : X) → IsOneOf others x → IsOneOf xs x
