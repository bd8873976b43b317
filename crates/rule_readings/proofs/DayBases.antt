-- From which place the duty of some days is counted.
use Rattle.std.proofs.Common.{◌≡◌, ℕ, ◌+◌, ◌-◌, ◌*◌, ◌/◌, ◌<◌, ◌≤◌, List, max, ap, arith, inl, inr}
use Rattle.duty_core.specs.declared.activity.Activity.{Activity}
use Rattle.duty_core.specs.declared.params.Params.{Params}
use Rattle.duty_core.specs.declared.limits.TheConstants.{DAY_MINUTES}
use Rattle.duty_core.specs.Params.{unit_minutes}
use Rattle.duty_core.specs.RestRun.{IsLongRun}
use Rattle.duty_core.specs.DeclaredRest.{IsLastDeclared}
use Rattle.duty_core.specs.Counting.{IsLastEnd, IsDaysBase}
use Rattle.duty_core.specs.Day.{day_start, day_number, IsFirstOfDays}
use Rattle.rule_readings.proofs.Books.{book_unit}

-- # Long rests: declared rests where no mark names any

abbrev pub Unmarked : ℕ → Type 0
Unmarked k = ⊥

pub end_of_unmarked : (least : ℕ) (p : List Activity) (i from to : ℕ) → IsLastDeclared least p Unmarked i from to → IsLastEnd least p i to
end_of_unmarked least p i from to h = record {
  from = from;
  rest = elim h.declared [ inl f ↦ f | inr s ↦ absurd s.marked ];
  before = h.before;
  last = λ a b l m. h.last a b (inl l) m;
}

-- # Days

-- days follow each other as places do
pub days_rise : (params : Params) (first j k : ℕ) → j ≤ k → day_number params first j ≤ day_number params first k
days_rise params first j k l = elim (book_unit params) [
  | inl h ↦ (let a = ap (λ u. u * j) h.unit in let b = ap (λ u. u * k) h.unit in omega arith)
  | inr h ↦ (let a = ap (λ u. u * j) h.unit in let b = ap (λ u. u * k) h.unit in omega arith)
]

-- the first place of the last days, from the day of place i
pub first_day : (params : Params) (first days i begins today missing d : ℕ) → 0 < days → begins ≡ first + (DAY_MINUTES - day_start params) → today ≡ (begins + unit_minutes params * i) / DAY_MINUTES →
    missing ≡ (today + 1 - days) * DAY_MINUTES - begins → d ≡ (missing + unit_minutes params - 1) / unit_minutes params → IsFirstOfDays (day_number params first) days i d
first_day params first n i begins today missing d pos_days b t m e = elim (book_unit params) [
  | inl h ↦
      let u = ap (λ u. (missing + u - 1) / u) h.unit in
      let x = ap (λ u. u * i) h.unit in
      let y = ap (λ u. u * d) h.unit in
      record { inside = omega arith; first = λ k g. let z = ap (λ u. u * k) h.unit in omega arith }
  | inr h ↦
      let u = ap (λ u. (missing + u - 1) / u) h.unit in
      let x = ap (λ u. u * i) h.unit in
      let y = ap (λ u. u * d) h.unit in
      record { inside = omega arith; first = λ k g. let z = ap (λ u. u * k) h.unit in omega arith }
]

pub first_before : (day : ℕ → ℕ) (days i d : ℕ) → 0 < days → IsFirstOfDays day days i d → d ≤ i
first_before day days i d l h = h.first i (omega arith)

-- # Both

pub days_base_since : (params : Params) (first days restart : ℕ) (p : List Activity) (i d to : ℕ) → 0 < days → IsFirstOfDays (day_number params first) days i d → IsLastEnd restart p i to →
    IsDaysBase (day_number params first) days restart p i (max d to)
days_base_since params first days restart p i d to pos_days h e =
    let l = first_before (day_number params first) days i d pos_days h in
    let m = e.before in
    let r = days_rise params first d (max d to) (omega arith) in
    let y = h.inside in
    record {
      counts = record { before = omega arith; inside = omega arith; after = λ a b g n. let z = e.last a b g n in omega arith };
      first = λ k c. let u = h.first k c.inside in let v = c.after e.from to e.rest m in omega arith;
    }

pub days_base_first : (params : Params) (first days restart : ℕ) (p : List Activity) (i d : ℕ) → 0 < days → IsFirstOfDays (day_number params first) days i d → ((a b : ℕ) → IsLongRun restart p a b → b ≤ i → ⊥) →
    IsDaysBase (day_number params first) days restart p i d
days_base_first params first days restart p i d pos_days h none = record {
  counts = record { before = first_before (day_number params first) days i d pos_days h; inside = h.inside; after = λ a b g n. absurd (none a b g n) };
  first = λ k c. h.first k c.inside;
}
