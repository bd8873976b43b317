-- Bounds on the labels of a tour: a step before which no continuation of a label ends.
use Rattle.std.specs.Prelude.{◌≡◌, ℕ, ◌<◌, ◌≤◌, Option, Some}
use Rattle.duty_core.specs.Params.{allows}
use Rattle.rule_core.specs.Machine.{Machine}
use Rattle.tour_model.specs.declared.tour.Tour.{Tour}
use Rattle.tour_model.specs.declared.limits.TheConstants.{STEP_LIMIT}
use Rattle.tour_model.specs.Tour.{IsTour}
use Rattle.tour_model.specs.Word.{word_length}
use Rattle.tour_model.specs.Eta.{eta_of}
use Rattle.tour_model.specs.Laws.WindowLaws.{IsBy}
use Rattle.cert_text.specs.CoverLists.Planning.{state_at, problem_by, eta_bound}
use Rattle.cert_text.specs.CoverLists.Laws.ProblemLaws.{IsBound}

-- What a bound does, as one value, S being what a book remembers of a history.
pub record Bounds (S : Type 0) : Type 1 where
  -- what is asked of a step and a progress
  pub asks_early : ℕ → ℕ → Type 0
  -- what is asked of a step, a progress and a state
  pub asks : ℕ → ℕ → S → Type 0
  -- a step before which no label of this step and progress ends, whatever its state
  pub early : ℕ → ℕ → Option ℕ
  -- a step before which none in this state ends
  pub bound : ℕ → ℕ → S → Option ℕ

-- The earliest end with no rules, which the state does not change.
abbrev pub eta_bounds : {S : Type 0} → Tour → Bounds S
eta_bounds tour = record {
  asks_early = λ step progress. IsTour tour × (progress ≤ word_length tour) × (step < STEP_LIMIT);
  asks = λ step progress s. Unit {0};
  early = eta_of tour;
  bound = eta_bound tour;
}

-- The laws of a bound of a tour and a book.
abbrev pub ObeysBound : {S : Type 0} → Tour → Machine S → (ℕ → ℕ → S → Option ℕ) → Type 0
ObeysBound tour m bound = IsBound (problem_by tour m bound) (state_at tour m) (allows tour.params) (λ step l. bound step l.progress l.state)

-- It may be asked of each label of the tour, and what the progress alone tells is no later than what the state tells with it.
pub record IsBoundOf {S : Type 0} (tour : Tour) (m : Machine S) (b : Bounds S) : Type 0 where
  pub asked_early : (step progress : ℕ) → step < STEP_LIMIT → progress ≤ word_length tour → b.asks_early step progress
  pub asked : (step progress : ℕ) (s : S) → step < STEP_LIMIT → progress ≤ word_length tour → state_at tour m s step → b.asks step progress s
  pub sooner : (step progress : ℕ) (s : S) (e : ℕ) → step < STEP_LIMIT → progress ≤ word_length tour → state_at tour m s step → b.bound step progress s ≡ Some e → IsBy (b.early step progress) e
