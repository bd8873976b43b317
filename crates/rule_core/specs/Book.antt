-- The laws of a rule book.
use Rattle.std.specs.Prelude.{◌≡◌, ◌↔◌, ℕ, ◌+◌, ◌*◌, ◌<◌, ◌≤◌, true, List, [], ◌∷◌, ◌++◌, length, replicate, All, Some}
use Rattle.std.specs.Option.{option_to_list}
use Rattle.duty_core.specs.declared.activity.Activity.{Activity}
use Rattle.duty_core.specs.declared.mark.Mark.{Mark}
use Rattle.duty_core.specs.declared.params.Params.{Params}
use Rattle.duty_core.specs.Activity.{idles}
use Rattle.duty_core.specs.Params.{unit_minutes, allows, BeginsUnit}
use Rattle.duty_core.specs.declared.limits.TheConstants.{LONGEST_HISTORY}
use Rattle.duty_core.specs.History.{IsTimed}
use Rattle.duty_core.specs.Lawful.{IsLawfulWith}
use Rattle.duty_core.specs.PlainlyBetter.{IsPlainlyBetter}
use Rattle.rule_core.specs.declared.nexts.Next.{Next}
use Rattle.rule_core.specs.declared.numbers.TheConstants.{MOST_NUMBERS, NUMBER_LIMIT}
use Rattle.rule_core.specs.Reach.{idle_list, IsOneOf, Reaches, IsAnswered}
use Rattle.rule_core.specs.Refusal.{IsRefused}
use Rattle.rule_core.specs.TourRest.{tour_rest}
use Rattle.rule_core.specs.Machine.{Machine, LeadsTo}

-- Successors are states, and what covers a state covers what that covers, and goes along with it.
pub record IsLasting {S : Type 0} (params : Params) (m : Machine S) : Type 0 where
  -- A successor is a state.
  pub next_is_state : (s : S) (at : ℕ) (x : Activity) (n : Next S) → m.is_state s at → IsOneOf (m.nexts s at x) n → m.is_state n.state (at + unit_minutes params)
  -- What covers a state covers all that it covers.
  pub covers_on : (a b c : S) (at : ℕ) → m.is_state a at → m.is_state b at → m.is_state c at → m.covers a b at ≡ true → m.covers b c at ≡ true → m.covers a c at ≡ true
  -- What covers a state has, for each of its successors by an activity that a schedule may hold, one by the same activity that covers that.
  pub simulation : (a b : S) (at : ℕ) (x : Activity) (n : Next S) → m.is_state a at → m.is_state b at → m.covers a b at ≡ true → allows params x ≡ true →
      IsOneOf (m.nexts b at x) n → IsAnswered (m.nexts a at x) (λ t. m.covers t n.state (at + unit_minutes params))

-- Where a state is ahead, resting in place of anything else is safe, and stays so.
pub record IsAheadLaw {S : Type 0} (params : Params) (m : Machine S) : Type 0 where
  -- The tour's rest leads to a state where resting is still safe.
  pub ahead_stays : (a : S) (at : ℕ) → m.is_state a at → m.ahead a ≡ true → (u : Next S) × IsOneOf (m.nexts a at (tour_rest params)) u × (m.ahead u.state ≡ true)
  -- The tour's rest leads, for each successor by an activity that a schedule may hold, to a state that covers it, where resting is still safe.
  pub ahead_rests : (a : S) (at : ℕ) (x : Activity) (n : Next S) → m.is_state a at → m.ahead a ≡ true → allows params x ≡ true → IsOneOf (m.nexts a at x) n →
      (u : Next S) × IsOneOf (m.nexts a at (tour_rest params)) u × (m.ahead u.state ≡ true) × (m.covers u.state n.state (at + unit_minutes params) ≡ true)

-- States are written as few small numbers, and read back from just these.
pub record IsStateText {S : Type 0} (m : Machine S) : Type 0 where
  -- A state is read back from its numbers.
  pub numbers_read : (s : S) (at : ℕ) → m.is_state s at → m.state_of (m.numbers s at) at ≡ Some s
  -- What is read is a state, and the numbers are its own.
  pub numbers_told : (ns : List ℕ) (s : S) (at : ℕ) → m.state_of ns at ≡ Some s → m.is_state s at × (m.numbers s at ≡ ns)
  -- A state has few numbers, and none of them is large.
  pub numbers_few : (s : S) (at : ℕ) → m.is_state s at → (length (m.numbers s at) ≤ MOST_NUMBERS) × All (λ n. n < NUMBER_LIMIT) (m.numbers s at)

-- A history leads to a state with these marks exactly where it is lawful with them.
abbrev pub IsExact : {S : Type 0} → Params → Machine S → ℕ → Type 0
IsExact {S} params m first =
    (h : List Activity) (marks : List Mark) → IsTimed params first h → ((s : S) × LeadsTo (unit_minutes params) m first h marks s) ↔ IsLawfulWith params first h marks

-- The machine is that of a book with these parameters.
pub record IsBook {S : Type 0} (params : Params) (m : Machine S) : Type 0 where
  pub params_are : m.params ≡ params
  -- The root is a state.
  pub root_is_state : (first : ℕ) → BeginsUnit params first → m.is_state (m.root first) first
  pub exact : (first : ℕ) → IsExact params m first
  -- A state that a history leads to with these marks has no successors exactly where no marks help the unit.
  pub refuses : (first : ℕ) (h : List Activity) (marks : List Mark) (s : S) (x : Activity) → IsTimed params first (h ++ x ∷ []) → LeadsTo (unit_minutes params) m first h marks s →
      (m.nexts s (first + unit_minutes params * length h) x ≡ []) ↔ IsRefused params first h marks (x ∷ [])
  -- What `advances` gives is reached by single steps.
  pub advances_reach : (s : S) (at : ℕ) (x : Activity) (n : ℕ) (t : Next S) → m.is_state s at → IsOneOf (m.advances s at x n) t →
      Reaches (unit_minutes params) m.nexts s at (replicate n x) (option_to_list t.mark) t.state
  -- What single steps reach, `advances` gives.
  pub advances_all : (s : S) (at : ℕ) (x : Activity) (n : ℕ) (marks : List Mark) (u : S) → m.is_state s at → Reaches (unit_minutes params) m.nexts s at (replicate n x) marks u →
      (t : Next S) × IsOneOf (m.advances s at x n) t × (t.state ≡ u) × (marks ≡ option_to_list t.mark)
  pub lasts : IsLasting params m
  -- A state covers itself.
  pub covers_itself : (s : S) (at : ℕ) → m.is_state s at → m.covers s s at ≡ true
  -- The activities of `idles` are idle ones that a schedule may hold.
  pub idles_allowed : (s : S) (at : ℕ) (y : Activity) → m.is_state s at → IsOneOf (idle_list (m.idles s)) y → (idles y ≡ true) × (allows params y ≡ true)
  -- Each successor by an idle activity that a schedule may hold is covered by a successor by one of `idles`.
  pub idles_cover : (s : S) (at : ℕ) (x : Activity) (n : ℕ) (t : Next S) →
      m.is_state s at → 1 ≤ n → n ≤ LONGEST_HISTORY → idles x ≡ true → allows params x ≡ true → IsOneOf (m.advances s at x n) t →
      (y : Activity) × IsOneOf (idle_list (m.idles s)) y × IsAnswered (m.advances s at y n) (λ u. m.covers u t.state (at + unit_minutes params * n))
  -- A state that a history leads to covers each one that a history leads to which is plainly worse.
  pub better_covers : (first : ℕ) (h k : List Activity) (marks others : List Mark) (a b : S) → IsTimed params first h → IsPlainlyBetter params first h marks k others →
      LeadsTo (unit_minutes params) m first h marks a → LeadsTo (unit_minutes params) m first k others b → m.covers a b (first + unit_minutes params * length h) ≡ true
  pub rests : IsAheadLaw params m
  pub text : IsStateText m
