-- What is counted at a unit of driving: there is one count, and limits of all counts.
use Rattle.std.proofs.Common.{◌≡◌, ℕ, ◌<◌, ◌≤◌, List, Option, Some, None, MatchOption, length, refl, sym, ◌∙◌, ap, subst, arith, inl, inr}
use Rattle.std.proofs.lemmas.Bool.{cases_lt}
use Rattle.duty_core.specs.declared.activity.Activity.{Activity}
use Rattle.duty_core.specs.declared.activity.Activity.TheVariants.{Drive, Off}
use Rattle.duty_core.specs.History.{unit_at}
use Rattle.duty_core.specs.Counting.{IsLastEnd}
use Rattle.duty_core.specs.UsRules.{IsBreak, IsLastBreak}
use Rattle.duty_core.specs.Laws.HistoryLaws.{unit_at-past}
use Rattle.duty_core.specs.Laws.UniqueLaws.{base_unique, omitted_unique, last_break_unique, last_end_unique, days_base_unique, first_of_days_unique}
use Rattle.rule_readings.specs.declared.measure.Since.{Since}
use Rattle.rule_readings.specs.declared.measure.Since.TheVariants.{Base, Break, Day, Days, Rest}
use Rattle.rule_readings.specs.declared.measure.Amount.{Amount}
use Rattle.rule_readings.specs.declared.base.Base as base
use Rattle.rule_readings.specs.declared.scope.Span.{Span}
use Rattle.rule_readings.specs.BaseFound.{IsBaseFound, whole}
use Rattle.rule_readings.specs.EndFound.{IsEndFound}
use Rattle.rule_readings.specs.Counts.{CountsFrom, amount_of, IsCountAt}
use Rattle.rule_readings.specs.Values.{IsIn, IsPlannedCount}

-- there is driving inside the history alone
pub drive_inside : (p : List Activity) (i : ℕ) → unit_at p i ≡ Drive → i < length p
drive_inside p i d = elim (cases_lt i (length p)) [ inl l ↦ l | inr l ↦ absurd (let z : Drive ≡ Off = sym d ∙ unit_at-past p i l in cc) ]

-- # The place from which is counted

-- what two such places have alike
pub record AreOne (from omitted other less : ℕ) : Type 0 where
  pub place : from ≡ other
  pub omits : omitted ≡ less

pub from_once : (since : Since) (day : ℕ → ℕ) (p : List Activity) (Marked : ℕ → Type 0) (i b u c v : ℕ) → CountsFrom since day p Marked i b u → CountsFrom since day p Marked i c v → AreOne b u c v
from_once (Base full) day p Marked i b u c v h g = record { place = base_unique full p Marked i b u c v h g; omits = omitted_unique full p Marked i b u c v h g }
from_once Break day p Marked i b u c v h g = record { place = last_break_unique p i b c h.0 g.0; omits = h.1 ∙ sym g.1 }
from_once Day day p Marked i b u c v h g = record { place = first_of_days_unique day 1 i b c h.0 g.0; omits = h.1 ∙ sym g.1 }
from_once (Days days restart) day p Marked i b u c v h g = record { place = days_base_unique day days restart p i b c h.0 g.0; omits = h.1 ∙ sym g.1 }
from_once (Rest least) day p Marked i b u c v h g = record { place = last_end_unique least p i b c h.0 g.0; omits = h.1 ∙ sym g.1 }

pub from_before : (since : Since) (day : ℕ → ℕ) (p : List Activity) (Marked : ℕ → Type 0) (i b u : ℕ) → CountsFrom since day p Marked i b u → b ≤ i
from_before (Base full) day p Marked i b u h = elim h [
  | inl f ↦ f.last.before
  | inr s ↦ (let x = s.before.before in let y = s.omits in let z = s.waits.last.before in omega arith)
]
from_before Break day p Marked i b u h = h.0.before
from_before Day day p Marked i b u h = h.0.first i (omega arith)
from_before (Days days restart) day p Marked i b u h = h.0.counts.before
from_before (Rest least) day p Marked i b u h = h.0.before

-- the last break, and the last long rest: time omits nothing
pub break_found : (p : List Activity) (i : ℕ) (found : Option ℕ) → MatchOption found ((to : ℕ) → IsBreak p to → to ≤ i → ⊥) (λ to. IsLastBreak p i to) → IsBaseFound (λ b u. IsLastBreak p i b × (u ≡ 0)) (whole found)
break_found p i None h = λ b u x. h b x.0.ends x.0.before
break_found p i (Some b) h = (h, refl)

pub rest_found : (least : ℕ) (p : List Activity) (i : ℕ) (found : Option ℕ) → IsEndFound least p i found → IsBaseFound (λ b u. IsLastEnd least p i b × (u ≡ 0)) (whole found)
rest_found least p i None h = λ b u x. h x.0.from b x.0.rest x.0.before
rest_found least p i (Some b) h = (h, refl)

-- what is found from one place is found from any that is the same
pub found_as : (since other : Since) (day : ℕ → ℕ) (p : List Activity) (Marked : ℕ → Type 0) (i : ℕ) (found : Option ℕ) (result : Option base.Base) → since ≡ other → result ≡ whole found → IsBaseFound (CountsFrom other day p Marked i) (whole found) →
    IsBaseFound (CountsFrom since day p Marked i) result
found_as since other day p Marked i found result e q h = subst (λ s. IsBaseFound (CountsFrom s day p Marked i) result) (sym e) (subst (IsBaseFound (CountsFrom other day p Marked i)) (sym q) h)

-- # Counts

pub count_once : (amount : Amount) (since : Since) (day : ℕ → ℕ) (p : List Activity) (Marked : ℕ → Type 0) (i n m : ℕ) → IsCountAt amount since day p Marked i n → IsCountAt amount since day p Marked i m → n ≡ m
count_once amount since day p Marked i n m h g =
    let o = from_once since day p Marked i h.from h.omitted g.from g.omitted h.found g.found in
    h.counted ∙ (ap (λ b. amount_of amount p b h.omitted i) o.place ∙ (ap (λ u. amount_of amount p g.from u i) o.omits ∙ sym g.counted))

-- at each unit of driving at most so much is counted
abbrev pub AreCountsWithin : Amount → Since → (ℕ → ℕ) → List Activity → (ℕ → Type 0) → ℕ → Type 0
AreCountsWithin amount since day p Marked limit = (i : ℕ) → unit_at p i ≡ Drive → (from omitted : ℕ) → CountsFrom since day p Marked i from omitted → amount_of amount p from omitted i ≤ limit

pub counts_kept : (amount : Amount) (since : Since) (day : ℕ → ℕ) (p : List Activity) (Marked : ℕ → Type 0) (limit : ℕ) (span : Span) (i n : ℕ) → AreCountsWithin amount since day p Marked limit →
    IsPlannedCount span (IsCountAt amount since day p Marked) i n → n ≤ limit
counts_kept amount since day p Marked limit span i n k g = subst (λ m. m ≤ limit) (sym g.count.counted) (k i g.count.drive g.count.from g.count.omitted g.count.found)

pub counts_back : (amount : Amount) (since : Since) (day : ℕ → ℕ) (p : List Activity) (Marked : ℕ → Type 0) (limit : ℕ) (span : Span) → ((i : ℕ) → i < length p → IsIn span i) →
    ((i n : ℕ) → IsPlannedCount span (IsCountAt amount since day p Marked) i n → n ≤ limit) → AreCountsWithin amount since day p Marked limit
counts_back amount since day p Marked limit span all h = λ i d from omitted f.
    h i (amount_of amount p from omitted i) (record { planned = all i (drive_inside p i d); count = record { drive = d; from = from; omitted = omitted; found = f; counted = refl } })
