-- The terms of a check, and labels that are checked by them.
use Rattle.std.specs.Prelude.{◌≡◌, ℕ, ◌+◌, ◌<◌, List, Option}
use Rattle.rule_core.specs.Machine.{Machine}
use Rattle.tour_model.specs.declared.label.Label.{Label}
use Rattle.tour_model.specs.declared.limits.TheConstants.{STEP_LIMIT}
use Rattle.tour_model.specs.Tour.{IsTour}
use Rattle.tour_model.specs.Word.{word_length}
use Rattle.cert_text.specs.CoverLists.Planning.{minute_of}
use Rattle.cert_checker.specs.declared.terms.Terms.{Terms}
use Rattle.cert_checker.specs.Parsed.{AreStatesIn}

-- The tour is one, the book has its parameters, and a finished label has done all of its work.
pub record AreTerms {B K S : Type 0} (terms : Terms B K) (m : Machine S) : Type 0 where
  pub tour : IsTour terms.tour.now
  pub params : m.params ≡ terms.tour.now.params
  pub goal : terms.goal ≡ word_length terms.tour.now

-- The states of the labels that are there are states of this step.
abbrev pub AreStatesAt : {B K S : Type 0} → Terms B K → Machine S → ℕ → List (Option (Label S)) → Type 0
AreStatesAt terms m step os = AreStatesIn (λ s. m.is_state s (minute_of terms.tour.now step)) os

-- Labels of a layer, and one that is asked about, are in states of this step.
pub record AreCompared {B K S : Type 0} (terms : Terms B K) (m : Machine S) (step : ℕ) (os : List (Option (Label S))) (l : Label S) : Type 0 where
  pub tour : IsTour terms.tour.now
  pub few : step < STEP_LIMIT
  pub labels : AreStatesAt terms m step os
  pub asked : m.is_state l.state (minute_of terms.tour.now step)

-- A label is in a state of this step, and the labels of the next layer are in states of the next.
pub record HasNext {B K S : Type 0} (terms : Terms B K) (m : Machine S) (step : ℕ) (l : Label S) (layer : List (Option (Label S))) : Type 0 where
  pub by : AreTerms terms m
  pub few : step + 1 < STEP_LIMIT
  pub state : m.is_state l.state (minute_of terms.tour.now step)
  pub next : AreStatesAt terms m (step + 1) layer
