-- A history in the berth throughout is plainly better than itself.
use Rattle.std.proofs.Common.{◌≡◌, ℕ, ◌-◌, ◌<◌, ◌≤◌, Bool, true, false, List, [], ◌++◌, length, get_or, sym, refl, ◌∙◌, ap, arith, length-append, inl, inr, zero, suc}
use Rattle.std.specs.Prelude.{replicate}
use Rattle.std.proofs.Math.Seq.{get_or-append_right}
use Rattle.std.proofs.lemmas.Bool.{cases_lt}
use Rattle.std.proofs.lemmas.List.{length-replicate}
use Rattle.duty_core.specs.declared.activity.Activity.{Activity}
use Rattle.duty_core.specs.declared.activity.Activity.TheVariants.{Off, Berth}
use Rattle.duty_core.specs.declared.mark.Mark.TheVariants.{DeferDay}
use Rattle.duty_core.specs.declared.params.Params.{Params}
use Rattle.duty_core.specs.declared.params.Params.TheVariants.{UsProperty, Canada}
use Rattle.duty_core.specs.declared.params.RestWay.{RestWay}
use Rattle.duty_core.specs.declared.limits.TheConstants.{US_FULL_REST, US_RESTART, CA_FULL_REST}
use Rattle.duty_core.specs.Activity.{rests}
use Rattle.duty_core.specs.History.{unit_at, pad_units, padding}
use Rattle.duty_core.specs.Laws.HistoryLaws.{unit_at-past}
use Rattle.duty_core.specs.RestRun.{EndsIn}
use Rattle.duty_core.specs.Day.{day_number}
use Rattle.duty_core.specs.Counting.{driving, duty}
use Rattle.duty_core.specs.Marks.{IsSplitAt}
use Rattle.duty_core.specs.DeclaredRest.{IsDeclared}
use Rattle.duty_core.specs.RuleBooks.{KeepsAll, week_days, cycle_of}
use Rattle.duty_core.specs.CaCycle.{cycle_days, cycle_reset}
use Rattle.duty_core.specs.Laws.ExistLaws.{padding_before}
use Rattle.duty_core.specs.Laws.UniqueLaws.{declared_run, last_end_unique, last_break_unique, days_base_unique}
use Rattle.duty_core.specs.Laws.MarkListLaws.{no_member}
use Rattle.duty_core.specs.Laws.RestLaws.{no_run, empty_keeps}
use Rattle.duty_core.specs.Laws.BookLaws.{rest_keeps}
use Rattle.duty_core.specs.PlainlyBetter.{IsRunBetter, IsBaseNow, IsBaseBetter, IsShiftBetter, AreDaysBetter, NoneDeferred, IsUsBetter, IsLastDayOff, IsCaBetter, IsPlainlyBetter}

-- so many units in the berth, after the padding
abbrev berthed : Params → ℕ → List Activity
berthed params n = padding params ++ replicate n Berth

unit_berth : (n i : ℕ) → i < n → unit_at (replicate n Berth) i ≡ Berth
unit_berth zero i l = absurd (omega arith)
unit_berth (suc n) zero l = refl
unit_berth (suc n) (suc i) l = unit_berth n i (omega arith)

length_pads : (params : Params) → length (padding params) ≡ pad_units params
length_pads params = length-replicate (pad_units params) Off

after_pads : (params : Params) (n k : ℕ) → pad_units params ≤ k → k < length (berthed params n) → unit_at (berthed params n) k ≡ Berth
after_pads params n k l m =
    let e = length_pads params in
    get_or-append_right (padding params) (replicate n Berth) k Off (omega arith)
    ∙ unit_berth n (k - length (padding params)) (omega (arith, length-append (padding params) (replicate n Berth), length-replicate n Berth))

all_rest : (params : Params) (n k : ℕ) → rests (unit_at (berthed params n) k) ≡ true
all_rest params n k = elim (cases_lt k (pad_units params)) [
  | inl l ↦ padding_before params (replicate n Berth) k (omega arith) l
  | inr l ↦ elim (cases_lt k (length (berthed params n))) [
    | inl m ↦ ap rests (after_pads params n k l m)
    | inr m ↦ ap rests (unit_at-past (berthed params n) k m)
  ]
]

whole_run : (params : Params) (n r : ℕ) → EndsIn (berthed params n) r → r ≡ length (berthed params n)
whole_run params n r e = let t = e.there in elim (cases_lt r (length (berthed params n))) [
  | inr l ↦ omega arith
  | inl l ↦ absurd (let k : ℕ = length (berthed params n) - r - 1 in let z : true ≡ false = sym (all_rest params n k) ∙ e.starts k (omega arith) in cc)
]

-- # The United States and Canada

none_declared : (params : Params) (n full : ℕ) (Marked : ℕ → Type 0) (a b : ℕ) → IsDeclared full (berthed params n) Marked a b → ⊥
none_declared params n full Marked a b d = no_run (all_rest params n) (declared_run full (berthed params n) Marked a b d)

from_first : (params : Params) (n full : ℕ) (Marked : ℕ → Type 0) (base omitted : ℕ) → IsBaseNow full (berthed params n) Marked base omitted → (base ≡ 0) × (omitted ≡ 0)
from_first params n full Marked base omitted (inl b) = elim b [
  | inl f ↦ absurd (no_run (all_rest params n) f.rest.run)
  | inr s ↦ absurd (none_declared params n full Marked s.from s.to (inr s.waits.split))
]
from_first params n full Marked base omitted (inr h) = (h.1, h.2)

same_from : (f : ℕ → ℕ) (a b : ℕ) → a ≡ b → f a ≤ f b
same_from f a b e = let s = ap f e in omega arith

run_better : (params : Params) (n : ℕ) (berth : Bool) → IsRunBetter (pad_units params) berth (berthed params n) (berthed params n)
run_better params n berth = record {
  long = λ r s h k. let a = whole_run params n r h in let b = whole_run params n s k in omega arith;
  all_berth = λ t r e k l m. after_pads params n k (omega arith) m;
}

base_better : (params : Params) (n full : ℕ) (Marked : ℕ → Type 0) → IsBaseBetter full (berthed params n) Marked (berthed params n) Marked
base_better params n full Marked =
    let p : List Activity = berthed params n in
    record {
      less_driving = λ a u b v g h. same_from (λ k. driving p k (length p)) a b ((from_first params n full Marked a u g).0 ∙ sym (from_first params n full Marked b v h).0);
      less_duty = λ a u b v g h. same_from (λ k. duty p k (length p)) a b ((from_first params n full Marked a u g).0 ∙ sym (from_first params n full Marked b v h).0);
      less_elapsed = λ a u b v g h. (let x = from_first params n full Marked a u g in let y = from_first params n full Marked b v h in let i = x.0 in let j = x.1 in let k = y.0 in let l = y.1 in omega arith);
    }

shift_better : (params : Params) (n full : ℕ) (berth : Bool) (Marked : ℕ → Type 0) → IsShiftBetter full (pad_units params) berth (berthed params n) Marked (berthed params n) Marked
shift_better params n full berth Marked = record {
  run = run_better params n berth;
  base = base_better params n full Marked;
  waiting = inl ((λ a b w. no_run (all_rest params n) w.split.run), (λ a b w. no_run (all_rest params n) w.split.run));
}

days_better : (day : ℕ → ℕ) (days restart : ℕ) (p : List Activity) → AreDaysBetter day days restart p p
days_better day days restart p n a b l m g h = same_from (λ k. duty p k (length p)) a b (days_base_unique day n restart p (length p) a b g h)

day_off_same : (p : List Activity) (a b : ℕ) → IsLastDayOff p a → IsLastDayOff p b → a ≡ b
day_off_same p a b g h = let x = g.last b h.there h.rest h.before in let y = h.last a g.there g.rest g.before in omega arith

none_marked : (today : ℕ) → NoneDeferred [] today
none_marked today j d e = no_member (DeferDay d.day) d.marked

us_better : (berth : Bool) (days start first n : ℕ) → IsUsBetter (UsProperty berth days start) first (berthed (UsProperty berth days start) n) [] (berthed (UsProperty berth days start) n) []
us_better berth days start first n =
    let params = UsProperty berth days start in
    let p : List Activity = berthed params n in
    record {
      shift = shift_better params n US_FULL_REST berth (IsSplitAt params first []);
      unbroken = λ a b g h. same_from (λ k. driving p k (length p)) a b (last_break_unique p (length p) a b g h);
      still = λ m l s. s;
      week = days_better (day_number params first) (week_days params) US_RESTART p;
    }

ca_better : (berth : Bool) (way : RestWay) (cycle start first n : ℕ) → IsCaBetter (Canada berth way cycle start) first (berthed (Canada berth way cycle start) n) [] (berthed (Canada berth way cycle start) n) []
ca_better berth way cycle start first n =
    let params = Canada berth way cycle start in
    let p : List Activity = berthed params n in
    record {
      shift = shift_better params n CA_FULL_REST berth (IsSplitAt params first []);
      day = record { less_driving = λ a f. omega arith; less_duty = λ a f. omega arith };
      today = record { at_rest = omega arith; at_duty = omega arith };
      yesterday = λ j e. record { at_rest = omega arith; at_duty = omega arith };
      none_deferred = none_marked (day_number params first (length p));
      no_other_deferred = none_marked (day_number params first (length p));
      day_off = λ a b g h. (let e = day_off_same p a b g h in omega arith);
      cycle = days_better (day_number params first) (cycle_days (cycle_of params)) (cycle_reset (cycle_of params)) p;
      without = λ e a b g h. same_from (λ k. duty p k (length p)) a b (last_end_unique _ p (length p) a b g h);
    }

all_berths : (n k : ℕ) (d : Activity) → k < length (replicate n Berth) → rests (get_or (replicate n Berth) k d) ≡ true
all_berths zero k d l = absurd (omega arith)
all_berths (suc n) zero d l = refl
all_berths (suc n) (suc k) d l = all_berths n k d (omega arith)

kept : (params : Params) (first n : ℕ) → KeepsAll params first (replicate n Berth) []
kept params first n = rest_keeps params first [] (replicate n Berth) [] (λ k d l. all_berths n k d l) (empty_keeps params first)

pub us_rest_is_better : (berth : Bool) (days start first n : ℕ) → IsPlainlyBetter (UsProperty berth days start) first (replicate n Berth) [] (replicate n Berth) []
us_rest_is_better berth days start first n = record { same_length = refl; lawful = kept (UsProperty berth days start) first n; other_lawful = kept (UsProperty berth days start) first n; better = us_better berth days start first n }

pub ca_rest_is_better : (berth : Bool) (way : RestWay) (cycle start first n : ℕ) → IsPlainlyBetter (Canada berth way cycle start) first (replicate n Berth) [] (replicate n Berth) []
ca_rest_is_better berth way cycle start first n = record { same_length = refl; lawful = kept (Canada berth way cycle start) first n; other_lawful = kept (Canada berth way cycle start) first n; better = ca_better berth way cycle start first n }
