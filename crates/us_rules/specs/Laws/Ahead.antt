-- Where resting in place of anything else is safe, told of histories.
use Rattle.std.proofs.Common.{◌≡◌, ◌↔◌, ℕ, ◌-◌, ◌<◌, Bool, true, List, ◌++◌, length, refl, sym, ◌∙◌, subst, arith, false, ◌⊎◌, inl, inr}
use Rattle.std.specs.Prelude.{None, Some}
use Rattle.std.proofs.lemmas.Bool.{cases_lt}
use Rattle.duty_core.specs.declared.activity.Activity.{Activity}
use Rattle.duty_core.specs.declared.mark.Mark.{Mark}
use Rattle.duty_core.specs.declared.params.Params.TheVariants.{UsProperty}
use Rattle.duty_core.specs.declared.limits.TheConstants.{US_FULL_REST}
use Rattle.duty_core.specs.History.{padding, IsTimed}
use Rattle.duty_core.specs.Marks.{IsSplitAt}
use Rattle.duty_core.specs.Stretch.{IsBerth}
use Rattle.duty_core.specs.RestRun.{EndsIn}
use Rattle.duty_core.specs.PlainlyBetter.{NoneWaits}
use Rattle.sleeper_split.specs.declared.rule.TheConstants.SplitRule.{US}
use Rattle.sleeper_split.specs.declared.count.SplitCount.{SplitCount}
use Rattle.sleeper_split.specs.Tracks.{Tracks}
use Rattle.sleeper_split.specs.Laws.Limits.{waiting}
use Rattle.sleeper_split.specs.Laws.CoverLaws.{ahead_cases, ahead_from}
use Rattle.sleeper_split.specs.Laws.BetterLaws.{berth_exact}
use Rattle.us_rules.specs.declared.state.UsState.{UsState}
use Rattle.us_rules.specs.Machine.{root_state, us_ahead}
use Rattle.us_rules.specs.Laws.Paths.{UsReaches}
use Rattle.us_rules.specs.Laws.Better.{tells}

-- The history ends with a run of rest, maybe of no length, that is all in the berth.
abbrev pub EndsInBerth : List Activity → Type 0
EndsInBerth p = (run : ℕ) × EndsIn p run × IsBerth p (length p - run) (length p)

waits_none_of : (p : List Activity) (Marked : ℕ → Type 0) (s : SplitCount) → Tracks US p Marked s → s.waiting ≡ None → NoneWaits US_FULL_REST p Marked
waits_none_of p Marked s t e a b w = let q = waiting US p Marked s t a b w in absurd (let z : None ≡ Some q.0 = sym e ∙ q.1 in cc)

none_of_waits : (p : List Activity) (Marked : ℕ → Type 0) (s : SplitCount) → Tracks US p Marked s → NoneWaits US_FULL_REST p Marked → s.waiting ≡ None
none_of_waits p Marked s t none = elim t.state [
  | inl f ↦ f.free
  | inr c ↦ elim c.has_last.kind [
    | inl k ↦ k.none
    | inr k ↦ absurd (none c.has_last.from c.has_last.to (record { last = c.has_last.last; split = k.split }))
  ]
]

one_run : (p : List Activity) (m n : ℕ) → EndsIn p m → EndsIn p n → m ≡ n
one_run p m n h k = elim (cases_lt m n) [
  | inl l ↦ (let a = k.there in let i : ℕ = length p - m - 1 in absurd (let z : true ≡ false = sym (k.rest i (omega arith) (omega arith)) ∙ h.starts i (omega arith) in cc))
  | inr l ↦ elim (cases_lt n m) [
    | inl u ↦ (let a = h.there in let i : ℕ = length p - n - 1 in absurd (let z : true ≡ false = sym (h.rest i (omega arith) (omega arith)) ∙ k.starts i (omega arith) in cc))
    | inr u ↦ omega arith
  ]
]

ahead_told : (berth : Bool) (p : List Activity) (Marked : ℕ → Type 0) (s : UsState) → Tracks US p Marked s.split → (us_ahead berth s ≡ true) ↔ (NoneWaits US_FULL_REST p Marked ⊎ EndsInBerth p)
ahead_told berth p Marked s t = (
  (λ h. elim (ahead_cases US berth s.split h) [
    | inr e ↦ inl (waits_none_of p Marked s.split t e.0)
    | inl e ↦ elim t.state [
      | inl f ↦ inl (waits_none_of p Marked s.split t f.free)
      | inr c ↦ inr (t.run, t.ends, (berth_exact US p Marked s.split t c).0 e)
    ]
  ]),
  (λ h. ahead_from US berth s.split (elim h [
    | inl n ↦ inr (none_of_waits p Marked s.split t n, refl)
    | inr b ↦ elim t.state [
      | inl f ↦ inr (f.free, refl)
      | inr c ↦ inl ((berth_exact US p Marked s.split t c).1 (subst (λ n. IsBerth p (length p - n) (length p)) (one_run p b.0 t.run b.1 t.ends) b.2))
    ]
  ])),
)

-- Resting is safe exactly where no split rest waits for its pair, or the rest run in progress holds no Off.
pub us_ahead_told : (berth : Bool) (days day_start first : ℕ) (h : List Activity) (marks : List Mark) (s : UsState) → 0 < days → IsTimed (UsProperty berth days day_start) first h →
    UsReaches berth days day_start (root_state days) first h marks s →
    (us_ahead berth s ≡ true)
    ↔ (NoneWaits US_FULL_REST (padding (UsProperty berth days day_start) ++ h) (IsSplitAt (UsProperty berth days day_start) first marks) ⊎ EndsInBerth (padding (UsProperty berth days day_start) ++ h))
us_ahead_told berth days day_start first h marks s some timed r =
    ahead_told berth (padding (UsProperty berth days day_start) ++ h) (IsSplitAt (UsProperty berth days day_start) first marks) s (tells berth days day_start first h marks s some timed r).split
