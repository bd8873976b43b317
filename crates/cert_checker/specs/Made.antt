-- The successors of a label by one activity, which differ in their states alone.
use Rattle.std.specs.Prelude.{◌≡◌, ℕ, ◌≤◌, List, Option}
use Rattle.rule_core.specs.declared.nexts.Next.{Next}
use Rattle.rule_core.specs.Reach.{IsOneOf}
use Rattle.tour_model.specs.declared.label.Label.{Label}
use Rattle.tour_model.specs.declared.tour.Tour.{Tour}
use Rattle.tour_model.specs.Word.{word_length}
use Rattle.cert_text.specs.CoverLists.Problem.{Problem}
use Rattle.cert_checker.specs.declared.answered.Made.{Made}
use Rattle.cert_checker.specs.Conditions.{IsPrunedOrCovered}

-- They have done no more than there is to do, and it is told of them what the bound tells of that alone.
pub record IsMade (tour : Tour) (tells : ℕ → ℕ → Option ℕ) (step : ℕ) (made : Made) : Type 0 where
  pub within : made.progress ≤ word_length tour
  pub early : made.early ≡ tells step made.progress

-- the one in this state
abbrev pub made_label : {S : Type 0} → Made → S → Label S
made_label made s = record { depart = made.depart; progress = made.progress; state = s }

-- In each of these states it is pruned, or a label of the layer is better.
abbrev pub AreStatesAnswered : {S : Type 0} → Problem S → Option ℕ → ℕ → List (Label S) → Made → List (Next S) → Type 0
AreStatesAnswered {S} problem target step layer made ns = (n : Next S) → IsOneOf ns n → IsPrunedOrCovered problem target step layer (made_label made n.state)
