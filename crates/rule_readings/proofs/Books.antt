-- What holds of each book: its unit and its padding, and that what its rules look at can be told.
use Rattle.std.proofs.Common.{◌≡◌, ℕ, ◌*◌, ◌<◌, ◌≤◌, ◌⊎◌, Bool, true, false, List, [], ◌∷◌, Contains, refl, subst, arith, inl, inr}
use Rattle.std.specs.Prelude.{nat_eq, if◌then◌else◌}
use Rattle.duty_core.specs.declared.params.Params.{Params}
use Rattle.duty_core.specs.declared.params.Params.TheVariants.{UsProperty, Canada, Hvnl}
use Rattle.duty_core.specs.declared.rule.Rule.{Rule}
use Rattle.duty_core.specs.declared.limits.TheConstants.{PADDING_MINUTES, MINUTE_LIMIT, US_FULL_REST, CA_FULL_REST, CA_CYCLE_1, CA_CYCLE_2, CA_CYCLE_1_DAYS, CA_CYCLE_2_DAYS, CA_DAY_OFF}
use Rattle.duty_core.specs.Params.{unit_minutes, BeginsUnit, AreGoodParams}
use Rattle.duty_core.specs.History.{pad_days, pad_units}
use Rattle.duty_core.specs.RuleBooks.{rules_of}
use Rattle.rule_readings.specs.declared.measure.Measure.TheVariants.{Nothing, AtDriving}
use Rattle.rule_readings.specs.declared.measure.Amount.TheVariants.{Duty}
use Rattle.rule_readings.specs.declared.measure.Since.TheVariants.{Rest}
use Rattle.rule_readings.specs.Asked.{asked_of}
use Rattle.rule_readings.specs.Values.{IsAskable}
use Rattle.rule_readings.specs.Laws.BrokenLaws.{contains_cases}

-- A unit has so many minutes.
pub record IsOfUnit (params : Params) (minutes : ℕ) : Type 0 where
  pub unit : unit_minutes params ≡ minutes
  pub padding : minutes * pad_units params ≡ PADDING_MINUTES

-- it is a minute, or a quarter of an hour
pub book_unit : (params : Params) → IsOfUnit params 1 ⊎ IsOfUnit params 15
unfolding pad_days
book_unit (UsProperty berth days start) = inl (record { unit = refl; padding = refl })
book_unit (Canada berth way cycle start) = inl (record { unit = refl; padding = refl })
book_unit Hvnl = inr (record { unit = refl; padding = refl })

-- # What rules look at

-- rests of ten hours are no longer than the padding
pads_rest : (params : Params) (full : ℕ) → full ≤ US_FULL_REST → full ≤ pad_units params
pads_rest params full l = elim (book_unit params) [ inl h ↦ (let p = h.padding in omega arith) | inr h ↦ (let p = h.padding in omega arith) ]

abbrev AllOf : (Rule → Type 0) → List Rule → Type 0
AllOf P [] = Unit {0}
AllOf P (rule ∷ rules) = P rule × AllOf P rules

listed : (P : Rule → Type 0) (rules : List Rule) → AllOf P rules → (rule : Rule) → Contains rules rule → P rule
listed P [] h rule c = absurd (let l = c.1 in omega arith)
listed P (first ∷ rules) h rule c = elim (contains_cases first rule rules c) [ inl e ↦ subst P e h.0 | inr d ↦ listed P rules h.1 rule d ]

days_of_cycle : (first_cycle : Bool) → 0 < (if first_cycle then CA_CYCLE_1_DAYS else CA_CYCLE_2_DAYS)
days_of_cycle true = omega arith
days_of_cycle false = omega arith

in_cycle_2 : (params : Params) (first : ℕ) (second : Bool) → IsAskable params first (if second then AtDriving Duty (Rest CA_DAY_OFF) else Nothing)
in_cycle_2 params first true = tt
in_cycle_2 params first false = tt

-- what a rule of the book looks at can be told
pub askable : (params : Params) (first : ℕ) (rule : Rule) → AreGoodParams params → BeginsUnit params first → first ≤ MINUTE_LIMIT → Contains (rules_of params) rule → IsAskable params first (asked_of params rule).measure
askable (UsProperty berth days start) first rule good begins early c =
    let params = UsProperty berth days start in
    let week = good.0 in
    listed (λ rule. IsAskable params first (asked_of params rule).measure) (rules_of params) (tt, (tt, (tt, (omega arith, (pads_rest params US_FULL_REST (omega arith), tt))))) rule c
askable (Canada berth way cycle start) first rule good begins early c =
    let params = Canada berth way cycle start in
    let day = good.2 in
    listed (λ rule. IsAskable params first (asked_of params rule).measure) (rules_of params)
    (tt, (tt, (tt, (tt, (tt, (record { units = refl; start = omega arith; early = early }, (record { units = refl; start = omega arith; early = early }, (pads_rest params CA_FULL_REST (omega arith), (tt, (days_of_cycle (nat_eq cycle CA_CYCLE_1), (in_cycle_2 params first (nat_eq cycle CA_CYCLE_2), tt)))))))))))
    rule c
askable Hvnl first rule good begins early c =
    listed (λ rule. IsAskable Hvnl first (asked_of Hvnl rule).measure) (rules_of Hvnl)
    (omega arith, (omega arith, (omega arith, (omega arith, (omega arith, (omega arith, (omega arith, (omega arith, (begins, tt)))))))))
    rule c

-- of a rule by its name
pub askable_as : (params : Params) (first : ℕ) (rule name : Rule) → AreGoodParams params → BeginsUnit params first → first ≤ MINUTE_LIMIT → Contains (rules_of params) rule → rule ≡ name → IsAskable params first (asked_of params name).measure
askable_as params first rule name good begins early c e = subst (λ rule. IsAskable params first (asked_of params rule).measure) e (askable params first rule good begins early c)
