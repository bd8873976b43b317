-- Each unit of duty of a padded history has a base, so that no rule that counts from one is empty there.
use Rattle.std.proofs.Common.{◌≡◌, ℕ, ◌+◌, ◌-◌, ◌<◌, ◌≤◌, ◌⊎◌, true, false, List, ◌++◌, length, length-append, sym, refl, ◌∙◌, ap, subst, arith, inl, inr, zero, suc}
use Rattle.std.proofs.lemmas.Bool.{cases_lt, cases_eq, cases_Bool}
use Rattle.std.proofs.lemmas.List.{length-replicate}
use Rattle.duty_core.specs.declared.activity.Activity.{Activity}
use Rattle.duty_core.specs.declared.activity.Activity.TheVariants.{Off}
use Rattle.duty_core.specs.declared.params.Params.{Params}
use Rattle.duty_core.specs.Activity.{rests}
use Rattle.duty_core.specs.History.{unit_at, pad_units, padding, padded}
use Rattle.duty_core.specs.Laws.HistoryLaws.{unit_at-append, unit_at-replicate}
use Rattle.duty_core.specs.RestRun.{IsRun, IsLongRun}
use Rattle.duty_core.specs.Stretch.{IsRest}
use Rattle.duty_core.specs.DeclaredRest.{IsSplitRest, IsDeclared, IsLastDeclared}
use Rattle.duty_core.specs.Base.{IsBase}
use Rattle.duty_core.specs.LostMinutes.{rest_before}
use Rattle.duty_core.specs.Laws.LostLaws.{before_rest, before_stops, before_least, before_there}
use Rattle.duty_core.specs.Laws.UniqueLaws.{run_start, declared_run}
use Rattle.duty_core.specs.Counting.{IsLastEnd, IsDaysBase}
use Rattle.duty_core.specs.Day.{IsFirstOfDays}

-- the fact can be told
abbrev pub IsTold : Type 0 → Type 0
IsTold P = P ⊎ (P → ⊥)

-- the last place up to i of which the fact holds
pub record IsLastOf (E : ℕ → Type 0) (i at : ℕ) : Type 0 where
  pub holds : E at
  pub before : at ≤ i
  pub last : (b : ℕ) → E b → b ≤ i → b ≤ at

-- where it holds of one, it does so of a last one
pub last_of : (E : ℕ → Type 0) → ((b : ℕ) → IsTold (E b)) → (i : ℕ) → ((at : ℕ) × IsLastOf E i at) ⊎ ((b : ℕ) → b ≤ i → E b → ⊥)
last_of E told zero = elim (told 0) [
  | inl e ↦ inl (0, record { holds = e; before = omega arith; last = λ b g l. l })
  | inr n ↦ inr (λ b l e. n (let z : b ≡ 0 = omega arith in subst E z e))
]
last_of E told (suc i) = elim (told (suc i)) [
  | inl e ↦ inl (suc i, record { holds = e; before = omega arith; last = λ b g l. l })
  | inr n ↦ elim (last_of E told i) [
    | inl h ↦
        let y = h.1.before in
        inl (
          h.0,
          record {
            holds = h.1.holds;
            before = omega arith;
            last = λ b g l. elim (cases_eq b (suc i)) [ inl q ↦ absurd (n (subst E q g)) | inr q ↦ h.1.last b g (omega arith) ];
          },
        )
    | inr none ↦ inr (λ b l g. elim (cases_eq b (suc i)) [ inl q ↦ n (subst E q g) | inr q ↦ none b (omega arith) g ])
  ]
]

-- whether a rest run ends at a place
pub run_told : (p : List Activity) (b : ℕ) → IsTold ((a : ℕ) × IsRun p a b)
run_told p b = elim (cases_Bool (rests (unit_at p b))) [
  | inl t ↦ inr (λ h. let z : true ≡ false = sym t ∙ h.1.ended in cc)
  | inr t ↦ elim (cases_lt 0 (rest_before p b)) [
    | inl l ↦
        let o = before_there p b in
        inl (
          b - rest_before p b,
          record {
            some = omega arith;
            rest = λ k x y. before_rest p b k y (omega arith);
            starts = λ k x. before_stops p b k (omega arith);
            ended = t;
          },
        )
    | inr l ↦ inr (λ h. let s = h.1.some in let m = before_least p b h.0 (omega arith) h.1.rest in omega arith)
  ]
]

-- whether a declared rest does
pub declared_told : (full : ℕ) (p : List Activity) (Marked : ℕ → Type 0) → ((k : ℕ) → IsTold (Marked k)) → (b : ℕ) → IsTold ((a : ℕ) × IsDeclared full p Marked a b)
declared_told full p Marked told b = elim (run_told p b) [
  | inr none ↦ inr (λ h. none (h.0, declared_run full p Marked h.0 b h.1))
  | inl h ↦ elim (cases_lt b (h.0 + full)) [
    | inr l ↦ inl (h.0, inl (record { run = h.1; long = l }))
    | inl l ↦ elim (told h.0) [
      | inl m ↦ inl (h.0, inr (record { run = h.1; short = l; marked = m }))
      | inr n ↦ inr (λ g.
          let same : g.0 ≡ h.0 = run_start p g.0 h.0 b (declared_run full p Marked g.0 b g.1) h.1 in
          elim g.1 [ inl f ↦ (let y = f.long in omega arith) | inr s ↦ n (subst Marked same s.marked) ])
    ]
  ]
]

-- the first unit of duty, if any
first_duty : (p : List Activity) (n : ℕ) → IsRest p 0 n ⊎ ((b : ℕ) × (b < n) × IsRest p 0 b × (rests (unit_at p b) ≡ false))
first_duty p zero = inl (λ k x y. absurd (omega arith))
first_duty p (suc n) = elim (first_duty p n) [
  | inr h ↦ (let l = h.1 in inr (h.0, omega arith, h.2, h.3))
  | inl r ↦ elim (cases_Bool (rests (unit_at p n))) [
    | inl t ↦ inl (λ k x y. elim (cases_eq k n) [ inl q ↦ ap (λ m. rests (unit_at p m)) q ∙ t | inr q ↦ r k x (omega arith) ])
    | inr t ↦ inr (n, omega arith, r, t)
  ]
]

-- the rest run that a list begins with has ended, where duty stands at place i
pub first_run : (p : List Activity) (full i : ℕ) → 0 < full → IsRest p 0 full → rests (unit_at p i) ≡ false → (b : ℕ) × (b ≤ i) × IsLongRun full p 0 b
first_run p full i pos_full r d = elim (first_duty p (i + 1)) [
  | inl all ↦ absurd (let z : true ≡ false = sym (all i (omega arith) (omega arith)) ∙ d in cc)
  | inr h ↦ elim (cases_lt h.0 full) [
    | inl l ↦ absurd (let z : true ≡ false = sym (r h.0 (omega arith) l) ∙ h.3 in cc)
    | inr l ↦
        let y = h.1 in
        (h.0, omega arith, record { run = record { some = omega arith; rest = h.2; starts = λ k e. absurd (omega arith); ended = h.3 }; long = omega arith })
  ]
]

last_is : (full : ℕ) (p : List Activity) (Marked : ℕ → Type 0) (i at : ℕ) (h : IsLastOf (λ b. (a : ℕ) × IsDeclared full p Marked a b) i at) → IsLastDeclared full p Marked i h.holds.0 at
last_is full p Marked i at h = record { declared = h.holds.1; before = h.before; last = λ a b e l. h.last b (a, e) l }

-- the last declared rest, where one has ended
pub last_declared : (full : ℕ) (p : List Activity) (Marked : ℕ → Type 0) → ((k : ℕ) → IsTold (Marked k)) → (i a b : ℕ) → IsDeclared full p Marked a b → b ≤ i →
    (c : ℕ) × (d : ℕ) × IsLastDeclared full p Marked i c d
last_declared full p Marked told i a b h l = elim (last_of (λ e. (a : ℕ) × IsDeclared full p Marked a e) (declared_told full p Marked told) i) [
  | inl g ↦ (g.1.holds.0, g.0, last_is full p Marked i g.0 g.1)
  | inr none ↦ absurd (none b l (a, h))
]

-- the rest that the list begins with ended before a split rest begins
before_split : (full : ℕ) (p : List Activity) (Marked : ℕ → Type 0) (b c d : ℕ) → IsLongRun full p 0 b → IsSplitRest full p Marked c d → b ≤ d → b ≤ c
before_split full p Marked b c d h s l = elim (cases_lt c b) [
  | inr m ↦ m
  | inl m ↦ elim (cases_eq b d) [
    | inl q ↦ (let e : c ≡ 0 = run_start p c 0 d s.run (subst (λ x. IsRun p 0 x) q h.run) in let x = s.short in let y = h.long in absurd (omega arith))
    | inr q ↦ absurd (let z : true ≡ false = sym (s.run.rest b (omega arith) (omega arith)) ∙ h.run.ended in cc)
  ]
]

-- a list that begins with a full rest has a base at each unit of duty
pub has_base : (full : ℕ) (p : List Activity) (Marked : ℕ → Type 0) → ((k : ℕ) → IsTold (Marked k)) → 0 < full → IsRest p 0 full → (i : ℕ) → rests (unit_at p i) ≡ false →
    (base : ℕ) × (omitted : ℕ) × IsBase full p Marked i base omitted
has_base full p Marked told pos_full r i d =
    let f = first_run p full i pos_full r d in
    let h = last_declared full p Marked told i 0 f.0 (inl f.2) f.1 in
    elim h.2.declared [
      | inl e ↦ (h.1, 0, inl (record { from = h.0; last = h.2; rest = e; none = refl }))
      | inr s ↦
          let m = h.2.last 0 f.0 (inl f.2) f.1 in
          let g = last_declared full p Marked told h.0 0 f.0 (inl f.2) (before_split full p Marked f.0 h.0 h.1 f.2 s m) in
          let y = s.run.some in
          (g.1, h.1 - h.0, inr (record { from = h.0; to = h.1; waits = record { last = h.2; split = s }; earlier = g.0; before = g.2; omits = omega arith }))
    ]

-- a history begins after the padding before it, which is rest
pub padding_before : (params : Params) (h : List Activity) → IsRest (padding params ++ h) 0 (pad_units params)
padding_before params h k x y =
    ap rests (unit_at-append (padding params) h k (omega (arith, length-replicate (pad_units params) Off)) ∙ unit_at-replicate (pad_units params) k)

-- so does one with rest after it
pub padding_rest : (params : Params) (h : List Activity) → IsRest (padded params h) 0 (pad_units params)
padding_rest params h k x y =
    let l : k < length (padding params ++ h) = omega (arith, length-append (padding params) h, length-replicate (pad_units params) Off) in
    ap rests (unit_at-append (padding params ++ h) (padding params) k l) ∙ padding_before params h k x y

-- so each unit of duty of a padded history has a base, in both books
pub has_base_padded : (params : Params) (full : ℕ) (Marked : ℕ → Type 0) (h : List Activity) → ((k : ℕ) → IsTold (Marked k)) → 0 < full → full ≤ pad_units params →
    (i : ℕ) → rests (unit_at (padded params h) i) ≡ false → (base : ℕ) × (omitted : ℕ) × IsBase full (padded params h) Marked i base omitted
has_base_padded params full Marked h told pos_full l i d =
    has_base full (padded params h) Marked told pos_full (λ k x y. padding_rest params h k x (omega arith)) i d

-- and each such unit has a last rest run of any length that the padding has
pub has_last_end : (params : Params) (least : ℕ) (h : List Activity) → 0 < least → least ≤ pad_units params → (i : ℕ) → rests (unit_at (padded params h) i) ≡ false →
    (to : ℕ) × IsLastEnd least (padded params h) i to
has_last_end params least h pos_least l i d =
    let p = padded params h in
    let f = first_run p least i pos_least (λ k x y. padding_rest params h k x (omega arith)) d in
    let g = last_declared least p (λ k. ⊥) (λ k. inr (λ e. e)) i 0 f.0 (inl f.2) f.1 in (
      g.1,
      elim g.2.declared [
        | inl e ↦ record { from = g.0; rest = e; before = g.2.before; last = λ a b m o. g.2.last a b (inl m) o }
        | inr s ↦ absurd s.marked
      ],
    )

search_first : (day : ℕ → ℕ) (days i n : ℕ) → ((k : ℕ) → k < n → day i < day k + days → ⊥) ⊎ ((d : ℕ) × (day i < day d + days) × ((k : ℕ) → day i < day k + days → d ≤ k))
search_first day days i zero = inl (λ k l h. absurd (omega arith))
search_first day days i (suc n) = elim (search_first day days i n) [
  | inr h ↦ inr h
  | inl none ↦ elim (cases_lt (day i) (day n + days)) [
    | inl l ↦ inr (n, l, λ k h. elim (cases_lt k n) [ inl m ↦ absurd (none k m h) | inr m ↦ m ])
    | inr l ↦ inl (λ k m h. elim (cases_eq k n) [ inl q ↦ (let z : day k ≡ day n = ap day q in omega arith) | inr q ↦ none k (omega arith) h ])
  ]
]

-- the first place of the last so many days
pub first_of_days : (day : ℕ → ℕ) (days i n : ℕ) → 0 < days → i < n → (d : ℕ) × (d ≤ i) × IsFirstOfDays day days i d
first_of_days day days i n pos_days l = elim (search_first day days i n) [
  | inl none ↦ absurd (none i l (omega arith))
  | inr h ↦ (h.0, h.2 i (omega arith), record { inside = h.1; first = h.2 })
]

-- The duty of so many days is counted from some place: where the last restart ended, or from the first place of these days, if that is later.
pub has_days_base : (day : ℕ → ℕ) (days restart : ℕ) (p : List Activity) (i to : ℕ) → 0 < days → IsLastEnd restart p i to →
    ((j k : ℕ) → j ≤ k → day j ≤ day k) → (from : ℕ) × IsDaysBase day days restart p i from
has_days_base day days restart p i to pos_days h on =
    let f = first_of_days day days i (i + 1) pos_days (omega arith) in
    let e = h.before in
    elim (cases_lt to f.0) [
      | inl l ↦ (
        f.0,
        record {
          counts = record { before = f.1; inside = f.2.inside; after = λ a b r z. let y = h.last a b r z in omega arith };
          first = λ k c. f.2.first k c.inside;
        },
      )
      | inr l ↦ (
        to,
        record {
          counts = record { before = e; inside = (let y = f.2.inside in let z = on f.0 to l in omega arith); after = h.last };
          first = λ k c. c.after h.from to h.rest e;
        },
      )
    ]
