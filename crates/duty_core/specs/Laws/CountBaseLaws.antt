-- At each unit of duty of a padded history there is one place from which a rule counts, so that no rule is empty there.
use Rattle.std.proofs.Common.{◌≡◌, ℕ, ◌+◌, ◌-◌, ◌*◌, ◌/◌, ◌<◌, ◌≤◌, true, false, not, List, [], ◌∷◌, sym, refl, ◌∙◌, ap, subst, arith, inl, inr, zero, suc}
use Rattle.std.proofs.lemmas.Bool.{cases_lt, cases_eq, cases_Bool}
use Rattle.std.proofs.lemmas.Int.{ints}
use Rattle.duty_core.specs.declared.activity.Activity.{Activity}
use Rattle.duty_core.specs.declared.activity.Activity.TheVariants.{Drive, Serve, Wait, Off, Berth}
use Rattle.duty_core.specs.declared.mark.Mark.{Mark}
use Rattle.duty_core.specs.declared.mark.Mark.TheVariants.{SplitRest, DeferDay}
use Rattle.duty_core.specs.declared.params.Params.{Params}
use Rattle.duty_core.specs.declared.limits.TheConstants.{DAY_MINUTES, US_BREAK}
use Rattle.duty_core.specs.Activity.{rests, works, drives}
use Rattle.duty_core.specs.Params.{BookUnit, InMinutes, InQuarters, minutes_in, units_in_day, terms_of, unit_minutes}
use Rattle.duty_core.specs.History.{unit_at, pad_days, pad_units, padded}
use Rattle.duty_core.specs.Stretch.{IsStill}
use Rattle.duty_core.specs.Day.{day_start, day_number, IsFirstOfDays}
use Rattle.duty_core.specs.Counting.{IsLastEnd, IsDaysBase}
use Rattle.duty_core.specs.Marks.{IsMinuteOf, IsSplitAt}
use Rattle.duty_core.specs.Base.{IsBase}
use Rattle.duty_core.specs.UsRules.{IsBreak, IsLastBreak}
use Rattle.duty_core.specs.Laws.LostLaws.{works_is}
use Rattle.duty_core.specs.Laws.ExistLaws.{IsTold, IsLastOf, last_of, padding_rest, has_base_padded, has_last_end, first_of_days, has_days_base}
use Rattle.duty_core.specs.Laws.UniqueLaws.{base_unique, omitted_unique}
use Rattle.duty_core.specs.Laws.MarkListLaws.{no_member, contains_head, contains_after, contains_cases}

-- duty is no rest
duty_no_rest : (x : Activity) → works x ≡ true → rests x ≡ false
duty_no_rest x w = elim (cases_Bool (rests x)) [ inr f ↦ f | inl t ↦ absurd (let z : true ≡ false = sym w ∙ (works_is x ∙ ap not t) in cc) ]

rest_no_driving : (x : Activity) → rests x ≡ true → drives x ≡ false
rest_no_driving Drive r = sym r
rest_no_driving Serve r = refl
rest_no_driving Wait r = refl
rest_no_driving Off r = refl
rest_no_driving Berth r = refl

-- # Marks

minute_told : (params : Params) (first at i : ℕ) → IsTold (IsMinuteOf params first at i)
minute_told params first at i = elim (cases_eq (at + unit_minutes params * pad_units params) (first + unit_minutes params * i)) [
  | inl e ↦ inl (omega (arith, ints))
  | inr n ↦ inr (λ m. n (omega (arith, ints)))
]

-- whether a mark names the run of a place can be told
split_told : (params : Params) (first : ℕ) (marks : List Mark) (i : ℕ) → IsTold (IsSplitAt params first marks i)
split_told params first [] i = inr (λ s. no_member (SplitRest s.at) s.marked)
split_told params first (SplitRest at ∷ marks) i = elim (minute_told params first at i) [
  | inl e ↦ inl (record { at = at; minute = e; marked = contains_head (SplitRest at) marks })
  | inr n ↦ elim (split_told params first marks i) [
    | inl s ↦ inl (record { at = s.at; minute = s.minute; marked = contains_after (SplitRest at) marks (SplitRest s.at) s.marked })
    | inr none ↦ inr (λ s. elim (contains_cases (SplitRest at) marks (SplitRest s.at) s.marked) [
      | inl e ↦ (let same : s.at ≡ at = cc in n (subst (λ x. IsMinuteOf params first x i) same s.minute))
      | inr c ↦ none (record { at = s.at; minute = s.minute; marked = c })
    ])
  ]
]
split_told params first (DeferDay day ∷ marks) i = elim (split_told params first marks i) [
  | inl s ↦ inl (record { at = s.at; minute = s.minute; marked = contains_after (DeferDay day) marks (SplitRest s.at) s.marked })
  | inr none ↦ inr (λ s. elim (contains_cases (DeferDay day) marks (SplitRest s.at) s.marked) [
    | inl e ↦ absurd (let z : DeferDay day ≡ SplitRest s.at = e in cc)
    | inr c ↦ none (record { at = s.at; minute = s.minute; marked = c })
  ])
]

-- # The base

-- the base of a place, and what elapsed time omits there
pub has_base_at : (params : Params) (full first : ℕ) (h : List Activity) (marks : List Mark) (i : ℕ) → 0 < full → full ≤ pad_units params → works (unit_at (padded params h) i) ≡ true →
    (base : ℕ) × (omitted : ℕ) × IsBase full (padded params h) (IsSplitAt params first marks) i base omitted
has_base_at params full first h marks i some l w =
    has_base_padded params full (IsSplitAt params first marks) h (split_told params first marks) some l i (duty_no_rest (unit_at (padded params h) i) w)

pub one_base_at : (params : Params) (full first : ℕ) (p : List Activity) (marks : List Mark) (i base omitted other another : ℕ) → IsBase full p (IsSplitAt params first marks) i base omitted →
    IsBase full p (IsSplitAt params first marks) i other another → (base ≡ other) × (omitted ≡ another)
one_base_at params full first p marks i base omitted other another h g = (
  base_unique full p (IsSplitAt params first marks) i base omitted other another h g,
  omitted_unique full p (IsSplitAt params first marks) i base omitted other another h g,
)

-- # Days

unit_day_on : (u : BookUnit) (start first j k : ℕ) → j ≤ k → (first + minutes_in u * j + (DAY_MINUTES - start)) / DAY_MINUTES ≤ (first + minutes_in u * k + (DAY_MINUTES - start)) / DAY_MINUTES
unit_day_on InMinutes start first j k l = omega arith
unit_day_on InQuarters start first j k l = omega arith

-- later places lie in later days
pub day_on : (params : Params) (first j k : ℕ) → j ≤ k → day_number params first j ≤ day_number params first k
day_on params first j k l = unit_day_on (terms_of params).unit (day_start params) first j k l

pub has_end_at : (params : Params) (least : ℕ) (h : List Activity) (i : ℕ) → 0 < least → least ≤ pad_units params → works (unit_at (padded params h) i) ≡ true → (to : ℕ) × IsLastEnd least (padded params h) i to
has_end_at params least h i some l w = has_last_end params least h some l i (duty_no_rest (unit_at (padded params h) i) w)

pub has_days_at : (params : Params) (first days restart : ℕ) (h : List Activity) (i : ℕ) → 0 < days → 0 < restart → restart ≤ pad_units params → works (unit_at (padded params h) i) ≡ true →
    (from : ℕ) × IsDaysBase (day_number params first) days restart (padded params h) i from
has_days_at params first days restart h i some more l w =
    let e = has_end_at params restart h i more l w in
    has_days_base (day_number params first) days restart (padded params h) i e.0 some e.1 (day_on params first)

pub has_first_at : (params : Params) (first days i : ℕ) → 0 < days → (from : ℕ) × IsFirstOfDays (day_number params first) days i from
has_first_at params first days i some = let f = first_of_days (day_number params first) days i (i + 1) some (omega arith) in (f.0, f.2)

-- # Breaks

-- whether a stretch holds driving can be told
still_told : (p : List Activity) (from n : ℕ) → IsTold (IsStill p from (from + n))
still_told p from zero = inl (λ k x y. absurd (omega arith))
still_told p from (suc n) = elim (cases_Bool (drives (unit_at p (from + n)))) [
  | inl t ↦ inr (λ s. let z : true ≡ false = sym t ∙ s (from + n) (omega arith) (omega arith) in cc)
  | inr f ↦ elim (still_told p from n) [
    | inl s ↦ inl (λ k x y. elim (cases_eq k (from + n)) [ inl e ↦ ap (λ m. drives (unit_at p m)) e ∙ f | inr e ↦ s k x (omega arith) ])
    | inr none ↦ inr (λ s. none (λ k x y. s k x (omega arith)))
  ]
]

break_told : (p : List Activity) (to : ℕ) → IsTold (IsBreak p to)
break_told p to = elim (cases_lt to US_BREAK) [
  | inl l ↦ inr (λ b. let x = b.there in omega arith)
  | inr l ↦ elim (still_told p (to - US_BREAK) US_BREAK) [
    | inl s ↦ inl (record { there = l; still = λ k x y. s k x (omega arith) })
    | inr none ↦ inr (λ b. none (λ k x y. b.still k x (omega arith)))
  ]
]

days_have_break : (u : BookUnit) → US_BREAK ≤ pad_days * units_in_day u
unfolding pad_days
days_have_break InMinutes = omega arith
days_have_break InQuarters = omega arith

padding_has_break : (params : Params) → US_BREAK ≤ pad_units params
padding_has_break params = days_have_break (terms_of params).unit

-- duty stands after the padding
after_padding : (params : Params) (h : List Activity) (i : ℕ) → works (unit_at (padded params h) i) ≡ true → pad_units params ≤ i
after_padding params h i w = elim (cases_lt i (pad_units params)) [
  | inr l ↦ l
  | inl l ↦ absurd (let z : true ≡ false = sym (padding_rest params h i (omega arith) l) ∙ duty_no_rest (unit_at (padded params h) i) w in cc)
]

first_break : (params : Params) (h : List Activity) → IsBreak (padded params h) US_BREAK
first_break params h = let l = padding_has_break params in record {
  there = omega arith;
  still = λ k x y. rest_no_driving (unit_at (padded params h) k) (padding_rest params h k (omega arith) (omega arith));
}

last_break_is : (p : List Activity) (i : ℕ) → (at : ℕ) × IsLastOf (IsBreak p) i at → (to : ℕ) × IsLastBreak p i to
last_break_is p i h = (h.0, record { ends = h.1.holds; before = h.1.before; last = h.1.last })

pub has_break_at : (params : Params) (h : List Activity) (i : ℕ) → works (unit_at (padded params h) i) ≡ true → (to : ℕ) × IsLastBreak (padded params h) i to
has_break_at params h i w =
    let l = after_padding params h i w in
    let m = padding_has_break params in
    elim (last_of (IsBreak (padded params h)) (break_told (padded params h)) i) [
      | inl g ↦ last_break_is (padded params h) i g
      | inr none ↦ absurd (none US_BREAK (omega arith) (first_break params h))
    ]
