-- What lemmas ask of a search problem.
use Rattle.std.proofs.Common.{◌≡◌, ℕ, ◌+◌, ◌<◌, Bool, true}
use Rattle.std.specs.Prelude.{Option, Some}
use Rattle.duty_core.specs.declared.activity.Activity.{Activity}
use Rattle.duty_core.specs.Activity.{idles}
use Rattle.rule_core.specs.declared.nexts.Next.{Next}
use Rattle.rule_core.specs.Reach.{IsOneOf, IsAnswered}
use Rattle.tour_model.specs.declared.label.Label.{Label}
use Rattle.tour_model.specs.Way.{progresses}
use Rattle.tour_model.specs.Laws.WindowLaws.{IsBy}
use Rattle.cert_text.specs.CoverLists.Problem.{Problem, grow}
use Rattle.cert_text.specs.CoverLists.Cover.{IsLabelAt}

-- The laws of a bound. From them it follows that no continuation of a label ends before its bound, and that a label with none has no continuation.
pub record IsBound {S : Type 0} (problem : Problem S) (is_state : S → ℕ → Type 0) (allowed : Activity → Bool) (bound : ℕ → Label S → Option ℕ) : Type 0 where
  -- a finished label ends at its step
  pub full : (k : ℕ) (l : Label S) → l.progress ≡ problem.goal → bound k l ≡ Some k
  -- where what an allowed activity makes of a label has a bound, the label has one, which is no later
  pub before : (k : ℕ) (l : Label S) (x : Activity) (n : Next S) (e : ℕ) → IsLabelAt is_state problem.goal k l → problem.may k l.progress x ≡ true → allowed x ≡ true →
      IsOneOf (problem.nexts l.state k x) n → bound (k + 1) (grow l k x n).label ≡ Some e → IsBy (bound k l) e

-- The laws of a problem, by step: those of its book, over whole steps, and those of its tour.
-- `is_state` tells which states there are at a step, and `allowed` which activities a schedule may hold.
pub record IsProblem {S : Type 0} (problem : Problem S) (is_state : S → ℕ → Type 0) (allowed : Activity → Bool) : Type 0 where
  pub goal_some : 0 < problem.goal
  pub next_is : (s : S) (k : ℕ) (x : Activity) (n : Next S) → is_state s k → IsOneOf (problem.nexts s k x) n → is_state n.state (k + 1)
  pub itself : (s : S) (k : ℕ) → is_state s k → problem.covers s s k ≡ true
  pub on : (a b c : S) (k : ℕ) → is_state a k → is_state b k → is_state c k → problem.covers a b k ≡ true → problem.covers b c k ≡ true → problem.covers a c k ≡ true
  pub simulates : (a b : S) (k : ℕ) (x : Activity) (n : Next S) → is_state a k → is_state b k → problem.covers a b k ≡ true → allowed x ≡ true →
      IsOneOf (problem.nexts b k x) n → IsAnswered (problem.nexts a k x) (λ t. problem.covers t n.state (k + 1))
  pub tries_idle : (s : S) (k : ℕ) (y : Activity) → is_state s k → IsOneOf (problem.tries s) y → (idles y ≡ true) × (allowed y ≡ true)
  pub tries_cover : (s : S) (k : ℕ) (x : Activity) (t : Next S) → is_state s k → idles x ≡ true → allowed x ≡ true → IsOneOf (problem.nexts s k x) t →
      (y : Activity) × IsOneOf (problem.tries s) y × IsAnswered (problem.nexts s k y) (λ u. problem.covers u t.state (k + 1))
  pub works_allowed : (x : Activity) → progresses x ≡ true → allowed x ≡ true
  -- nothing is allowed once the word is done
  pub may_before : (k p : ℕ) (x : Activity) → problem.may k p x ≡ true → p < problem.goal
  -- where one idle activity is allowed, each is
  pub may_idle : (k p : ℕ) (x y : Activity) → idles x ≡ true → idles y ≡ true → problem.may k p x ≡ true → problem.may k p y ≡ true
  -- where the tour allows to idle, each idle activity is allowed
  pub idles_there : (k p : ℕ) (x : Activity) → problem.may_idle p ≡ true → idles x ≡ true → problem.may k p x ≡ true
  -- the rest by which a label waits
  pub rest : Activity
  pub rest_idle : idles rest ≡ true
  pub rest_allowed : allowed rest ≡ true
  -- where resting is safe, it leads for each successor by an allowed activity to a state that covers it, where resting is still safe
  pub ahead_rests : (a : S) (k : ℕ) (x : Activity) (n : Next S) → is_state a k → problem.ahead a ≡ true → allowed x ≡ true → IsOneOf (problem.nexts a k x) n →
      (u : Next S) × IsOneOf (problem.nexts a k rest) u × (problem.ahead u.state ≡ true) × (problem.covers u.state n.state (k + 1) ≡ true)
  pub bounded : IsBound problem is_state allowed problem.bound
