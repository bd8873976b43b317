-- The terms of a search, and labels that are reached by them.
use Rattle.std.specs.Prelude.{◌≡◌, ℕ, ◌<◌, List, Option}
use Rattle.duty_core.specs.Params.{allows}
use Rattle.rule_core.specs.Machine.{Machine}
use Rattle.rule_core.specs.Reach.{IsOneOf}
use Rattle.rule_core.specs.Replay.{AreRootStates}
use Rattle.tour_model.specs.declared.label.Label.{Label}
use Rattle.tour_model.specs.declared.limits.TheConstants.{STEP_LIMIT}
use Rattle.tour_model.specs.Tour.{IsTour}
use Rattle.cert_text.specs.CoverLists.Planning.{problem_of, state_at}
use Rattle.label_search.specs.declared.guess.Departure.{Departure}
use Rattle.label_search.specs.declared.guess.Ranked.{Ranked}
use Rattle.label_search.specs.declared.terms.Terms.{Terms}
use Rattle.label_search.specs.Searching.{IsRootState}
use Rattle.label_search.specs.Ways.{IsReached, AreReached, AreRankedReached, IsGuess}

-- The tour is one, the book has its parameters, and each root's state is one of the minute at which the tour starts.
pub record AreTerms {B S : Type 0} (terms : Terms B S) (m : Machine S) : Type 0 where
  pub tour : IsTour terms.tour.now
  pub params : m.params ≡ terms.tour.now.params
  pub roots : AreRootStates m terms.tour.now.start terms.roots.now

-- Some way from a root gives this label of this step.
abbrev pub IsReachedBy : {B S : Type 0} → Terms B S → Machine S → ℕ → Label S → Type 0
IsReachedBy terms m step l = IsReached (problem_of terms.tour.now m) (state_at terms.tour.now m) (allows terms.tour.now.params) (IsRootState terms.roots.now) step l

abbrev pub AreReachedBy : {B S : Type 0} → Terms B S → Machine S → ℕ → List (Label S) → Type 0
AreReachedBy terms m step ls = AreReached (problem_of terms.tour.now m) (state_at terms.tour.now m) (allows terms.tour.now.params) (IsRootState terms.roots.now) step ls

abbrev pub AreRankedBy : {B S : Type 0} → Terms B S → Machine S → ℕ → List (Ranked S) → Type 0
AreRankedBy terms m step rs = AreRankedReached (problem_of terms.tour.now m) (state_at terms.tour.now m) (allows terms.tour.now.params) (IsRootState terms.roots.now) step rs

-- The labels of a departure are reached.
pub record IsDepartureBy {B S : Type 0} (terms : Terms B S) (m : Machine S) (d : Departure S) : Type 0 where
  pub within : d.step < STEP_LIMIT
  pub beam : AreReachedBy terms m d.step d.beam.items

abbrev pub AreDeparturesBy : {B S : Type 0} → Terms B S → Machine S → List (Departure S) → Type 0
AreDeparturesBy {B} {S} terms m ds = (d : Departure S) → IsOneOf ds d → IsDepartureBy terms m d

-- Where a duration is guessed, some whole way from a root takes no more.
abbrev pub IsGuessBy : {B S : Type 0} → Terms B S → Machine S → Option ℕ → Type 0
IsGuessBy terms m o = IsGuess (problem_of terms.tour.now m) (allows terms.tour.now.params) (IsRootState terms.roots.now) o
