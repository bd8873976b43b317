-- Bounds put together, and a bound that reads the state: the work that is left and the rests that the state owes.
use Rattle.std.proofs.Common.{◌≡◌, ℕ, ◌+◌, ◌-◌, ◌≤◌, Bool, true, false, max, refl, ◌∙◌, ap, arith}
use Rattle.std.specs.Prelude.{Option, None, Some, if◌then◌else◌}
use Rattle.duty_core.specs.declared.activity.Activity.{Activity}
use Rattle.rule_core.specs.declared.nexts.Next.{Next}
use Rattle.rule_core.specs.Reach.{IsOneOf}
use Rattle.tour_model.specs.declared.label.Label.{Label}
use Rattle.tour_model.specs.Way.{progresses, done}
use Rattle.tour_model.specs.Laws.WindowLaws.{IsBy}
use Rattle.cert_text.specs.CoverLists.Problem.{Problem, grow}
use Rattle.cert_text.specs.CoverLists.Laws.ProblemLaws.{IsBound}

-- the later of two bounds; where one is none, so is this
abbrev pub latest : Option ℕ → Option ℕ → Option ℕ
latest None b = None
latest (Some x) None = None
latest (Some x) (Some y) = Some (max x y)

-- both are there, and no later than e
record AreBy (a b : Option ℕ) (e : ℕ) : Type 0 where
  left : IsBy a e
  right : IsBy b e

latest_parts : (a b : Option ℕ) (e : ℕ) → latest a b ≡ Some e → AreBy a b e
latest_parts None b e h = absurd cc
latest_parts (Some x) None e h = absurd cc
latest_parts (Some x) (Some y) e h =
    let f : max x y ≡ e = cc in
    record { left = record { at = x; is = refl; by = omega arith }; right = record { at = y; is = refl; by = omega arith } }

latest_from : (a b : Option ℕ) (e : ℕ) → IsBy a e → IsBy b e → IsBy (latest a b) e
latest_from None b e h i = absurd (let z = h.is in cc)
latest_from (Some x) None e h i = absurd (let z = i.is in cc)
latest_from (Some x) (Some y) e h i =
    let f : x ≡ h.at = (let z = h.is in cc) in
    let g : y ≡ i.at = (let z = i.is in cc) in
    let p = h.by in let q = i.by in
    record { at = max x y; is = refl; by = omega arith }

by_more : (o : Option ℕ) (d e : ℕ) → d ≤ e → IsBy o d → IsBy o e
by_more o d e l h = let i = h.by in record { at = h.at; is = h.is; by = omega arith }

-- the later of two bounds is one
pub both_bound : {S : Type 0} (problem : Problem S) (is_state : S → ℕ → Type 0) (allowed : Activity → Bool) (f g : ℕ → Label S → Option ℕ) → IsBound problem is_state allowed f → IsBound problem is_state allowed g →
    IsBound problem is_state allowed (λ k l. latest (f k l) (g k l))
both_bound problem is_state allowed f g h i = record {
  full = λ k l ends. (ap (λ o. latest o (g k l)) (h.full k l ends) ∙ (ap (latest (Some k)) (i.full k l ends) ∙ (let e : max k k ≡ k = omega arith in ap Some e)));
  before = λ k l x n e here may ok o is. (
      let q = latest_parts (f (k + 1) (grow l k x n).label) (g (k + 1) (grow l k x n).label) e is in
      latest_from (f k l) (g k l) e
      (by_more (f k l) q.left.at e q.left.by (h.before k l x n q.left.at here may ok o q.left.is))
      (by_more (g k l) q.right.at e q.right.by (i.before k l x n q.right.at here may ok o q.right.is)));
}

-- The steps of rest that a state still owes, after this progress: none once the work is done; a step of work pays none of them, and a step of rest one at most.
pub record IsOwed {S : Type 0} (problem : Problem S) (is_state : S → ℕ → Type 0) (allowed : Activity → Bool) (owed : ℕ → S → ℕ → ℕ) : Type 0 where
  pub none : (k : ℕ) (s : S) → owed k s problem.goal ≡ 0
  pub work : (k p : ℕ) (s : S) (x : Activity) (n : Next S) → is_state s k → problem.may k p x ≡ true → allowed x ≡ true → progresses x ≡ true → IsOneOf (problem.nexts s k x) n → owed k s p ≤ owed (k + 1) n.state (p + 1)
  pub rest : (k p : ℕ) (s : S) (x : Activity) (n : Next S) → is_state s k → problem.may k p x ≡ true → allowed x ≡ true → progresses x ≡ false → IsOneOf (problem.nexts s k x) n → owed k s p ≤ owed (k + 1) n.state p + 1

-- the step at which the work that is left and the rests that are owed would be done
abbrev pub worked_by : {S : Type 0} → Problem S → (ℕ → S → ℕ → ℕ) → ℕ → ℕ → S → ℕ
worked_by problem owed k p s = k + (problem.goal - p) + owed k s p

worked_more : {S : Type 0} (problem : Problem S) (is_state : S → ℕ → Type 0) (allowed : Activity → Bool) (owed : ℕ → S → ℕ → ℕ) → IsOwed problem is_state allowed owed →
    (k p : ℕ) (s : S) (x : Activity) (n : Next S) → is_state s k → problem.may k p x ≡ true → allowed x ≡ true → IsOneOf (problem.nexts s k x) n → (b : Bool) → progresses x ≡ b →
    worked_by problem owed k p s ≤ worked_by problem owed (k + 1) (if b then p + 1 else p) n.state
worked_more problem is_state allowed owed h k p s x n here may ok o true w = let pays = h.work k p s x n here may ok w o in omega arith
worked_more problem is_state allowed owed h k p s x n here may ok o false w = let pays = h.rest k p s x n here may ok w o in omega arith

-- With them the label's state tells a bound.
pub owed_bound : {S : Type 0} (problem : Problem S) (is_state : S → ℕ → Type 0) (allowed : Activity → Bool) (owed : ℕ → S → ℕ → ℕ) → IsOwed problem is_state allowed owed →
    IsBound problem is_state allowed (λ k l. Some (worked_by problem owed k l.progress l.state))
owed_bound problem is_state allowed owed h = record {
  full = λ k l ends. (
      let f = ap (λ p. worked_by problem owed k p l.state) ends in
      let g = h.none k l.state in
      let e : worked_by problem owed k l.progress l.state ≡ k = omega arith in
      ap Some e);
  before = λ k l x n e here may ok o is. (
      let more = worked_more problem is_state allowed owed h k l.progress l.state x n here.state may ok o (progresses x) refl in
      let f : worked_by problem owed (k + 1) (done l.progress x) n.state ≡ e = cc in
      record { at = worked_by problem owed k l.progress l.state; is = refl; by = omega arith });
}
