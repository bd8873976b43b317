-- The limits and needs of a state stand for the open periods of a history.
use Rattle.std.proofs.Common.{◌≡◌, ℕ, ◌+◌, ◌-◌, ◌<◌, ◌≤◌, Bool, true, false, cond, List, [], ◌∷◌, ◌++◌, length, drop, refl, sym, ◌∙◌, ap, subst, arith, ◌⊎◌, inl, inr}
use Rattle.std.specs.List.{list_all}
use Rattle.std.specs.Prelude.{All, map, filter, Contains, count_by, nat_lt, nat_le}
use Rattle.std.proofs.Math.Seq.{take-length, drop-length}
use Rattle.std.proofs.lemmas.Bool.{cases_lt, cases_Bool, and_parts}
use Rattle.std.proofs.lemmas.Bool.Decides.{nat_tests}
use Rattle.std.proofs.lemmas.List.{drop-append-le}
use Rattle.std.proofs.lemmas.List.Sums.{sum_by_push}
use Rattle.std.proofs.lemmas.List.Elements.{All-nil, All-cons, All-head, All-tail, All-contains}
use Rattle.duty_core.specs.declared.activity.Activity.{Activity}
use Rattle.duty_core.specs.declared.limits.TheConstants.{AU_SHORT_START, AU_LONG_START, AU_5H30_PERIOD, AU_5H30_DUTY, AU_8H_PERIOD, AU_8H_DUTY, AU_11H_PERIOD, AU_11H_DUTY, AU_24H_PERIOD, AU_24H_DUTY, AU_24H_REST, AU_7D_PERIOD, AU_7D_DUTY, AU_7D_REST, AU_14D_PERIOD, AU_14D_DUTY}
use Rattle.duty_core.specs.Activity.{works}
use Rattle.duty_core.specs.History.{unit_at}
use Rattle.duty_core.specs.Laws.HistoryLaws.{length-one_more}
use Rattle.duty_core.specs.Laws.MarkListLaws.{no_member, contains_cases}
use Rattle.duty_core.specs.Counting.{duty}
use Rattle.duty_core.specs.AuPeriods.{IsStart}
use Rattle.duty_core.specs.PlainlyBetter.{Period, duty_periods, rest_periods, IsOpenLimit, IsOpenNeed}
use Rattle.allowance.specs.declared.limit.Limit.{Limit}
use Rattle.allowance.specs.declared.limit.Need.{Need}
use Rattle.allowance.specs.Allow.{Held, IsOpenLimit as IsOpenOne, IsOpenNeed as IsOpenOneNeed, gives, spent_limit, passed_limit, passed_need, is_open, waits, may_spend, spent, one_more, implies, added_limits, added, needed_needs, needed}
use Rattle.allowance.specs.Laws.AllowLaws.{rests-works}
use Rattle.rule_core.specs.Reach.{IsOneOf}
use Rattle.rule_core.specs.Laws.OneOf.{one_of-map, one_of_map, one_of-append, one_of-append_left, one_of-append_right}
use Rattle.hvnl_rules.specs.Laws.Ended.{IsRestedBefore, Rests, rests_none}
use Rattle.hvnl_rules.specs.Laws.Counted.{Tracks}
use Rattle.hvnl_rules.specs.Counted.{at_most, short_limits, long_limits, day_need, week_need, added_all, begun_short, begun, with_needs, after_duty, after_rest}
use Rattle.hvnl_rules.specs.Laws.CountedLaws.{begun_held, begun_needs, starts_at, tracks_rest}
use Rattle.hvnl_rules.specs.Laws.Dates.{one_filter, filter_one, all_one, any_one}
use Rattle.hvnl_rules.specs.Laws.NightLaws.{rest_on, rest_back, start_inside, start_on, start_cases}
use Rattle.hvnl_rules.specs.Laws.Covers.{implies_means, implies_from, one_added, added_gives, added_new, needed_cases, gives_means, gives_itself}

-- # Lists that stand for what is asked

-- Each limit of the list is one of those that S names, and each of these is implied by one of the list, or asks nothing.
pub record StandsFor (S : ℕ → ℕ → Type 0) (ps : List Limit) : Type 0 where
  pub only : (q : Limit) → IsOneOf ps q → S q.units q.duty
  pub each : (u d : ℕ) → S u d → (u ≤ d) ⊎ ((k : Limit) × IsOneOf ps k × (implies k (at_most u d) ≡ true))

abbrev IsLike : Limit → ℕ → ℕ → Type 0
IsLike p u d = (p.units ≡ u) × (p.duty ≡ d)

stands_change : (S T : ℕ → ℕ → Type 0) (ps : List Limit) → ((u d : ℕ) → S u d → T u d) → ((u d : ℕ) → T u d → S u d) → StandsFor S ps → StandsFor T ps
stands_change S T ps f g s = record { only = λ q o. f q.units q.duty (s.only q o); each = λ u d t. s.each u d (g u d t) }

stands_added : (S : ℕ → ℕ → Type 0) (ps : List Limit) (p : Limit) → StandsFor S ps → StandsFor (λ u d. S u d ⊎ IsLike p u d) (added_limits ps p)
stands_added S ps p s = record {
  only = λ q o. elim (one_added ps p q o) [ inl a ↦ inl (s.only q a) | inr b ↦ inr (ap (λ r. r.units) b.0, ap (λ r. r.duty) b.0) ];
  each = λ u d t. elim t [
    | inl a ↦ elim (s.each u d a) [ inl c ↦ inl c | inr k ↦ inr (added_gives ps p (at_most u d) k) ]
    | inr b ↦
        let eu = b.0 in
        let ed = b.1 in
        elim (cases_Bool (is_open p)) [
          | inl y ↦
              let k = added_new ps p y in
              let l = implies_means k.0 p k.2 in
              inr (k.0, k.1, implies_from k.0 (at_most u d) (omega arith))
          | inr n ↦ inl (let c : p.units ≤ p.duty = grind (arith, nat_tests) in omega arith)
        ]
  ];
}

-- one of the list, by its numbers
abbrev OneLike : List Limit → ℕ → ℕ → Type 0
OneLike [] u d = ⊥
OneLike (p ∷ ps) u d = IsLike p u d ⊎ OneLike ps u d

stands_all : (ls : List Limit) (S : ℕ → ℕ → Type 0) (h : Held) → StandsFor S h.limits → StandsFor (λ u d. S u d ⊎ OneLike ls u d) (added_all h ls).limits
stands_all [] S h s = stands_change S (λ u d. S u d ⊎ ⊥) h.limits (λ u d a. inl a) (λ u d t. elim t [ inl a ↦ a | inr z ↦ absurd z ]) s
stands_all (p ∷ ls) S h s =
    stands_change (λ u d. (S u d ⊎ IsLike p u d) ⊎ OneLike ls u d) (λ u d. S u d ⊎ (IsLike p u d ⊎ OneLike ls u d)) (added_all (added h p) ls).limits
    (λ u d t. elim t [ inl a ↦ elim a [ inl b ↦ inl b | inr b ↦ inr (inl b) ] | inr c ↦ inr (inr c) ])
    (λ u d t. elim t [ inl a ↦ inl (inl a) | inr c ↦ elim c [ inl b ↦ inl (inr b) | inr e ↦ inr e ] ])
    (stands_all ls (λ u d. S u d ⊎ IsLike p u d) (added h p) (stands_added S h.limits p s))

stands_when : (t : Bool) (ls : List Limit) (S : ℕ → ℕ → Type 0) (h : Held) → StandsFor S h.limits → StandsFor (λ u d. S u d ⊎ ((t ≡ true) × OneLike ls u d)) (cond t (added_all h ls) h).limits
stands_when true ls S h s =
    stands_change (λ u d. S u d ⊎ OneLike ls u d) (λ u d. S u d ⊎ ((true ≡ true) × OneLike ls u d)) (added_all h ls).limits
    (λ u d t. elim t [ inl a ↦ inl a | inr b ↦ inr (refl, b) ]) (λ u d t. elim t [ inl a ↦ inl a | inr b ↦ inr b.1 ]) (stands_all ls S h s)
stands_when false ls S h s =
    stands_change S (λ u d. S u d ⊎ ((false ≡ true) × OneLike ls u d)) h.limits (λ u d a. inl a) (λ u d t. elim t [ inl a ↦ a | inr b ↦ absurd (let z = b.0 in cc) ]) s

-- a kind of period that begins after so much rest
pub record IsNew (run u d : ℕ) : Type 0 where
  pub kind : Period
  pub of_book : Contains duty_periods kind
  pub rested : kind.rested ≤ run
  pub units : kind.units ≡ u
  pub asked : kind.asked ≡ d

-- the limits that begin after so much rest, as the lists have them
abbrev NewLike : ℕ → ℕ → ℕ → Type 0
NewLike run u d = ((nat_le AU_SHORT_START run ≡ true) × OneLike short_limits u d) ⊎ ((nat_le AU_LONG_START run ≡ true) × OneLike long_limits u d)

-- a period of the book, by its numbers
new_of : (run u d start units duty : ℕ) → start ≤ run → Contains duty_periods (record { rested = start; units = units; asked = duty }) → (units ≡ u) × (duty ≡ d) → IsNew run u d
new_of run u d start units duty l c e = record { kind = record { rested = start; units = units; asked = duty }; of_book = c; rested = l; units = e.0; asked = e.1 }

-- one of a list of three
of_three : (ls : List Limit) (p q r : Limit) (u d : ℕ) (P : Type 0) → ls ≡ p ∷ q ∷ r ∷ [] → (IsLike p u d → P) → (IsLike q u d → P) → (IsLike r u d → P) → OneLike ls u d → P
of_three ls p q r u d P is f g k one = elim (subst (λ ps. OneLike ps u d) is one) [ inl e ↦ f e | inr b ↦ elim b [ inl e ↦ g e | inr c ↦ elim c [ inl e ↦ k e | inr z ↦ absurd z ] ] ]

new_kind : (run u d : ℕ) → NewLike run u d → IsNew run u d
new_kind run u d t = elim t [
  | inl a ↦
      let t = a.0 in
      let l : AU_SHORT_START ≤ run = grind (arith, nat_tests) in
      of_three short_limits _ _ _ u d (IsNew run u d) refl (new_of run u d _ _ _ l (0, omega arith, refl)) (new_of run u d _ _ _ l (1, omega arith, refl)) (new_of run u d _ _ _ l (2, omega arith, refl)) a.1
  | inr a ↦
      let t = a.0 in
      let l : AU_LONG_START ≤ run = grind (arith, nat_tests) in
      of_three long_limits _ _ _ u d (IsNew run u d) refl (new_of run u d _ _ _ l (3, omega arith, refl)) (new_of run u d _ _ _ l (4, omega arith, refl)) (new_of run u d _ _ _ l (5, omega arith, refl)) a.1
]

new_like : (run : ℕ) (kind : Period) → kind.rested ≤ run → Contains duty_periods kind → NewLike run kind.units kind.asked
new_like run kind l c =
    let short : AU_SHORT_START ≤ run → nat_le AU_SHORT_START run ≡ true = (λ a. grind (arith, nat_tests)) in
    let long : AU_LONG_START ≤ run → nat_le AU_LONG_START run ≡ true = (λ a. grind (arith, nat_tests)) in
    elim (contains_cases (record { rested = AU_SHORT_START; units = AU_5H30_PERIOD; asked = AU_5H30_DUTY }) (record { rested = AU_SHORT_START; units = AU_8H_PERIOD; asked = AU_8H_DUTY } ∷ record { rested = AU_SHORT_START; units = AU_11H_PERIOD; asked = AU_11H_DUTY } ∷ record { rested = AU_LONG_START; units = AU_24H_PERIOD; asked = AU_24H_DUTY } ∷ record { rested = AU_LONG_START; units = AU_7D_PERIOD; asked = AU_7D_DUTY } ∷ record { rested = AU_LONG_START; units = AU_14D_PERIOD; asked = AU_14D_DUTY } ∷ []) kind c) [
      | inl e ↦ (let x = ap (λ k. k.rested) e in inl (short (omega arith), inl (ap (λ k. k.units) e, ap (λ k. k.asked) e)))
      | inr c0 ↦ elim (contains_cases (record { rested = AU_SHORT_START; units = AU_8H_PERIOD; asked = AU_8H_DUTY }) (record { rested = AU_SHORT_START; units = AU_11H_PERIOD; asked = AU_11H_DUTY } ∷ record { rested = AU_LONG_START; units = AU_24H_PERIOD; asked = AU_24H_DUTY } ∷ record { rested = AU_LONG_START; units = AU_7D_PERIOD; asked = AU_7D_DUTY } ∷ record { rested = AU_LONG_START; units = AU_14D_PERIOD; asked = AU_14D_DUTY } ∷ []) kind c0) [
        | inl e ↦ (let x = ap (λ k. k.rested) e in inl (short (omega arith), inr (inl (ap (λ k. k.units) e, ap (λ k. k.asked) e))))
        | inr c1 ↦ elim (contains_cases (record { rested = AU_SHORT_START; units = AU_11H_PERIOD; asked = AU_11H_DUTY }) (record { rested = AU_LONG_START; units = AU_24H_PERIOD; asked = AU_24H_DUTY } ∷ record { rested = AU_LONG_START; units = AU_7D_PERIOD; asked = AU_7D_DUTY } ∷ record { rested = AU_LONG_START; units = AU_14D_PERIOD; asked = AU_14D_DUTY } ∷ []) kind c1) [
          | inl e ↦ (let x = ap (λ k. k.rested) e in inl (short (omega arith), inr (inr (inl (ap (λ k. k.units) e, ap (λ k. k.asked) e)))))
          | inr c2 ↦ elim (contains_cases (record { rested = AU_LONG_START; units = AU_24H_PERIOD; asked = AU_24H_DUTY }) (record { rested = AU_LONG_START; units = AU_7D_PERIOD; asked = AU_7D_DUTY } ∷ record { rested = AU_LONG_START; units = AU_14D_PERIOD; asked = AU_14D_DUTY } ∷ []) kind c2) [
            | inl e ↦ (let x = ap (λ k. k.rested) e in inr (long (omega arith), inl (ap (λ k. k.units) e, ap (λ k. k.asked) e)))
            | inr c3 ↦ elim (contains_cases (record { rested = AU_LONG_START; units = AU_7D_PERIOD; asked = AU_7D_DUTY }) (record { rested = AU_LONG_START; units = AU_14D_PERIOD; asked = AU_14D_DUTY } ∷ []) kind c3) [
              | inl e ↦ (let x = ap (λ k. k.rested) e in inr (long (omega arith), inr (inl (ap (λ k. k.units) e, ap (λ k. k.asked) e))))
              | inr c4 ↦ elim (contains_cases (record { rested = AU_LONG_START; units = AU_14D_PERIOD; asked = AU_14D_DUTY }) ([]) kind c4) [
                | inl e ↦ (let x = ap (λ k. k.rested) e in inr (long (omega arith), inr (inr (inl (ap (λ k. k.units) e, ap (λ k. k.asked) e)))))
                | inr z ↦ absurd (no_member kind z)
              ]
            ]
          ]
        ]
      ]
    ]

-- with the limits of the periods that begin
begun_stands : (S : ℕ → ℕ → Type 0) (h : Held) → StandsFor S h.limits → StandsFor (λ u d. S u d ⊎ IsNew h.run u d) (begun h).limits
begun_stands S h s =
    let A = stands_when (nat_le AU_SHORT_START h.run) short_limits S h s in
    let T : ℕ → ℕ → Type 0 = λ u d. S u d ⊎ ((nat_le AU_SHORT_START h.run ≡ true) × OneLike short_limits u d) in
    let B = stands_when (nat_le AU_LONG_START h.run) long_limits T (begun_short h) A in
    stands_change (λ u d. T u d ⊎ ((nat_le AU_LONG_START h.run ≡ true) × OneLike long_limits u d)) (λ u d. S u d ⊎ IsNew h.run u d) (begun h).limits
    (λ u d t. elim t [ inl a ↦ elim a [ inl b ↦ inl b | inr b ↦ inr (new_kind h.run u d (inl b)) ] | inr c ↦ inr (new_kind h.run u d (inr c)) ])
    (λ u d t. elim t [
      | inl a ↦ inl (inl a)
      | inr n ↦ elim (subst (λ v. NewLike h.run u v) n.asked (subst (λ v. NewLike h.run v n.kind.asked) n.units (new_like h.run n.kind n.rested n.of_book))) [ inl a ↦ inl (inr a) | inr b ↦ inr b ]
    ]) B

-- # Open limits

-- the duty since a start
duty_on : (p : List Activity) (x : Activity) (start : ℕ) → start ≤ length p → duty (p ++ x ∷ []) start (length (p ++ x ∷ [])) ≡ duty p start (length p) + cond (works x) 1 0
duty_on p x start l =
    ap (λ q. count_by works (drop start q)) (take-length (p ++ x ∷ [])) ∙ (ap (count_by works) (drop-append-le start p (x ∷ []) l)
    ∙ (sum_by_push (λ y. cond (works y) 1 0) (drop start p) x ∙ ap (λ q. count_by works (drop start q) + cond (works x) 1 0) (sym (take-length p))))

duty_new : (p : List Activity) (x : Activity) → works x ≡ true → duty (p ++ x ∷ []) (length p) (length (p ++ x ∷ [])) ≡ 1
duty_new p x w =
    let a = duty_on p x (length p) (omega arith) in
    let none : duty p (length p) (length p) ≡ 0 = ap (λ q. count_by works (drop (length p) q)) (take-length p) ∙ ap (count_by works) (drop-length p) in
    let one : cond {A = ℕ} (works x) 1 0 ≡ 1 = ap (λ b. cond {A = ℕ} b 1 0) w in
    omega arith

abbrev pub IsOpenBy : List Activity → ℕ → ℕ → Type 0
IsOpenBy p u d = IsOpenLimit p (record { units = u; duty = d })

all_small : All (λ k. k.rested ≤ AU_7D_REST) duty_periods
all_small =
    let K : Period → Type 0 = λ k. k.rested ≤ AU_7D_REST in
    All-cons K (record { rested = AU_SHORT_START; units = AU_5H30_PERIOD; asked = AU_5H30_DUTY }) (record { rested = AU_SHORT_START; units = AU_8H_PERIOD; asked = AU_8H_DUTY } ∷ record { rested = AU_SHORT_START; units = AU_11H_PERIOD; asked = AU_11H_DUTY } ∷ record { rested = AU_LONG_START; units = AU_24H_PERIOD; asked = AU_24H_DUTY } ∷ record { rested = AU_LONG_START; units = AU_7D_PERIOD; asked = AU_7D_DUTY } ∷ record { rested = AU_LONG_START; units = AU_14D_PERIOD; asked = AU_14D_DUTY } ∷ []) (omega arith) (All-cons K (record { rested = AU_SHORT_START; units = AU_8H_PERIOD; asked = AU_8H_DUTY }) (record { rested = AU_SHORT_START; units = AU_11H_PERIOD; asked = AU_11H_DUTY } ∷ record { rested = AU_LONG_START; units = AU_24H_PERIOD; asked = AU_24H_DUTY } ∷ record { rested = AU_LONG_START; units = AU_7D_PERIOD; asked = AU_7D_DUTY } ∷ record { rested = AU_LONG_START; units = AU_14D_PERIOD; asked = AU_14D_DUTY } ∷ []) (omega arith) (All-cons K (record { rested = AU_SHORT_START; units = AU_11H_PERIOD; asked = AU_11H_DUTY }) (record { rested = AU_LONG_START; units = AU_24H_PERIOD; asked = AU_24H_DUTY } ∷ record { rested = AU_LONG_START; units = AU_7D_PERIOD; asked = AU_7D_DUTY } ∷ record { rested = AU_LONG_START; units = AU_14D_PERIOD; asked = AU_14D_DUTY } ∷ []) (omega arith) (All-cons K (record { rested = AU_LONG_START; units = AU_24H_PERIOD; asked = AU_24H_DUTY }) (record { rested = AU_LONG_START; units = AU_7D_PERIOD; asked = AU_7D_DUTY } ∷ record { rested = AU_LONG_START; units = AU_14D_PERIOD; asked = AU_14D_DUTY } ∷ []) (omega arith) (All-cons K (record { rested = AU_LONG_START; units = AU_7D_PERIOD; asked = AU_7D_DUTY }) (record { rested = AU_LONG_START; units = AU_14D_PERIOD; asked = AU_14D_DUTY } ∷ []) (omega arith) (All-cons K (record { rested = AU_LONG_START; units = AU_14D_PERIOD; asked = AU_14D_DUTY }) ([]) (omega arith) (All-nil K))))))

start_more : (p : List Activity) (x : Activity) (n i : ℕ) → IsStart n p i → IsStart n (p ++ x ∷ []) i
start_more p x n i h = start_on p x n i (start_inside p n i h) h

-- no kind begins after more rest than is told
kind_small : (kind : Period) → Contains duty_periods kind → kind.rested ≤ AU_7D_REST
kind_small kind c = All-contains (λ k. k.rested ≤ AU_7D_REST) duty_periods kind all_small c

-- an open limit with one unit more
open_rest : (p : List Activity) (x : Activity) (u d : ℕ) → works x ≡ false → 1 < u → IsOpenBy p u d → IsOpenBy (p ++ x ∷ []) (u - 1) d
open_rest p x u d w l o =
    let len = length-one_more p x in
    let e = o.period.ends in
    let inside = start_inside p o.kind.rested o.start o.period.starts in
    let c = duty_on p x o.start (omega arith) in
    let none : cond {A = ℕ} (works x) 1 0 ≡ 0 = ap (λ b. cond {A = ℕ} b 1 0) w in
    let f = o.duty_left in
    record { kind = o.kind; of_book = o.of_book; start = o.start; period = record { starts = start_more p x o.kind.rested o.start o.period.starts; ends = omega arith; open_yet = omega arith }; duty_left = omega arith }

open_duty : (p : List Activity) (x : Activity) (u d : ℕ) → works x ≡ true → 1 < u → 0 < d → IsOpenBy p u d → IsOpenBy (p ++ x ∷ []) (u - 1) (d - 1)
open_duty p x u d w l m o =
    let len = length-one_more p x in
    let e = o.period.ends in
    let inside = start_inside p o.kind.rested o.start o.period.starts in
    let c = duty_on p x o.start (omega arith) in
    let one : cond {A = ℕ} (works x) 1 0 ≡ 1 = ap (λ b. cond {A = ℕ} b 1 0) w in
    let f = o.duty_left in
    record { kind = o.kind; of_book = o.of_book; start = o.start; period = record { starts = start_more p x o.kind.rested o.start o.period.starts; ends = omega arith; open_yet = omega arith }; duty_left = omega arith }

new_duty : (p : List Activity) (x : Activity) (run u d : ℕ) → works x ≡ true → Rests AU_7D_REST p run → 1 < u → 0 < d → IsNew run u d → IsOpenBy (p ++ x ∷ []) (u - 1) (d - 1)
new_duty p x run u d w r l m n =
    let len = length-one_more p x in
    let c = duty_new p x w in
    let far = n.rested in
    let few = r.few in
    let rested = (r.tells n.kind.rested (omega arith)).0 n.rested in
    let a = n.units in
    let b = n.asked in
    record { kind = n.kind; of_book = n.of_book; start = length p; period = record { starts = starts_at n.kind.rested p x [] w rested; ends = omega arith; open_yet = omega arith }; duty_left = omega arith }

-- and back
rest_open : (p : List Activity) (x : Activity) (u d : ℕ) → works x ≡ false → IsOpenBy (p ++ x ∷ []) u d → IsOpenBy p (u + 1) d
rest_open p x u d w o =
    let len = length-one_more p x in
    let e = o.period.ends in
    let f = o.duty_left in
    elim (start_cases p x o.kind.rested o.start o.period.starts) [
      | inl s ↦
          let inside = start_inside p o.kind.rested o.start s in
          let c = duty_on p x o.start (omega arith) in
          let none : cond {A = ℕ} (works x) 1 0 ≡ 0 = ap (λ b. cond {A = ℕ} b 1 0) w in
          record { kind = o.kind; of_book = o.of_book; start = o.start; period = record { starts = s; ends = omega arith; open_yet = omega arith }; duty_left = omega arith }
      | inr n ↦ absurd (let z : false ≡ true = sym w ∙ n.1 in cc)
    ]

duty_open : (p : List Activity) (x : Activity) (run u d : ℕ) → works x ≡ true → Rests AU_7D_REST p run → IsOpenBy (p ++ x ∷ []) u d → IsOpenBy p (u + 1) (d + 1) ⊎ IsNew run (u + 1) (d + 1)
duty_open p x run u d w r o =
    let len = length-one_more p x in
    let e = o.period.ends in
    let f = o.duty_left in
    elim (start_cases p x o.kind.rested o.start o.period.starts) [
      | inl s ↦
          let inside = start_inside p o.kind.rested o.start s in
          let c = duty_on p x o.start (omega arith) in
          let one : cond {A = ℕ} (works x) 1 0 ≡ 1 = ap (λ b. cond {A = ℕ} b 1 0) w in
          inl (record { kind = o.kind; of_book = o.of_book; start = o.start; period = record { starts = s; ends = omega arith; open_yet = omega arith }; duty_left = omega arith })
      | inr n ↦
          let same = n.0 in
          let c : duty (p ++ x ∷ []) o.start (length (p ++ x ∷ [])) ≡ 1 = ap (λ k. duty (p ++ x ∷ []) k (length (p ++ x ∷ []))) n.0 ∙ duty_new p x w in
          let small = kind_small o.kind o.of_book in
          inr (record { kind = o.kind; of_book = o.of_book; rested = (r.tells o.kind.rested small).1 n.2; units = omega arith; asked = omega arith })
    ]

-- # The limits of a state, unit by unit

rest_stands : (p : List Activity) (x : Activity) (ps : List Limit) → works x ≡ false → ((q : Limit) → IsOneOf ps q → q.duty < q.units) → StandsFor (IsOpenBy p) ps → StandsFor (IsOpenBy (p ++ x ∷ [])) (filter is_open (map passed_limit ps))
rest_stands p x ps w o s = record {
  only = λ r m.
      let f = filter_one is_open (map passed_limit ps) r m in
      let g = one_of-map passed_limit ps r f.0 in
      let t : is_open (passed_limit g.0) ≡ true = ap is_open g.2 ∙ f.1 in
      let l : g.0.duty < g.0.units - 1 = grind (arith, nat_tests) in
      subst (λ r. IsOpenBy (p ++ x ∷ []) r.units r.duty) g.2 (open_rest p x g.0.units g.0.duty w (omega arith) (s.only g.0 g.1));
  each = λ u d m.
      elim (s.each (u + 1) d (rest_open p x u d w m)) [
        | inl c ↦ inl (omega arith)
        | inr k ↦
            let l = implies_means k.0 (at_most (u + 1) d) k.2 in
            let b = o k.0 k.1 in
            elim (cases_lt k.0.duty (k.0.units - 1)) [
              | inl lt ↦ inr (passed_limit k.0, one_filter is_open (map passed_limit ps) (passed_limit k.0) (grind (arith, nat_tests)) (one_of_map passed_limit ps k.0 k.1), implies_from (passed_limit k.0) (at_most u d) (omega arith))
              | inr ge ↦ inl (omega arith)
            ]
      ];
}

duty_stands : (p : List Activity) (x : Activity) (run : ℕ) (ps : List Limit) → works x ≡ true → Rests AU_7D_REST p run → ((q : Limit) → IsOneOf ps q → (q.duty < q.units) × (0 < q.duty)) →
    StandsFor (λ u d. IsOpenBy p u d ⊎ IsNew run u d) ps → StandsFor (IsOpenBy (p ++ x ∷ [])) (map spent_limit ps)
duty_stands p x run ps w r o s = record {
  only = λ q m.
      let g = one_of-map spent_limit ps q m in
      let b = o g.0 g.1 in
      let lo = b.0 in
      let hi = b.1 in
      subst (λ r. IsOpenBy (p ++ x ∷ []) r.units r.duty) g.2 (elim (s.only g.0 g.1) [
        | inl a ↦ open_duty p x g.0.units g.0.duty w (omega arith) (omega arith) a
        | inr n ↦ new_duty p x run g.0.units g.0.duty w r (omega arith) (omega arith) n
      ]);
  each = λ u d m. elim (s.each (u + 1) (d + 1) (duty_open p x run u d w r m)) [
    | inl c ↦ inl (omega arith)
    | inr k ↦
        let l = implies_means k.0 (at_most (u + 1) (d + 1)) k.2 in
        let b = o k.0 k.1 in
        let lo = b.0 in
        let hi = b.1 in
        inr (spent_limit k.0, one_of_map spent_limit ps k.0 k.1, implies_from (spent_limit k.0) (at_most u d) (omega arith))
  ];
}

pub one_held : (ps : List Limit) (q : Limit) → All IsOpenOne ps → IsOneOf ps q → q.duty < q.units
one_held [] q a o = absurd o
one_held (p ∷ ps) q a o = elim o [ inl e ↦ subst (λ r. r.duty < r.units) e (All-head IsOpenOne p ps a) | inr r ↦ one_held ps q (All-tail IsOpenOne p ps a) r ]

with_limits : (run : ℕ) (h : Held) → (with_needs run h).limits ≡ h.limits
with_limits run h = elim (nat_le AU_LONG_START run) as (λ t. (cond t (needed (needed h day_need) week_need) h).limits ≡ h.limits) [ true ↦ refl | false ↦ refl ]

-- # Needs

-- a need with one unit more that does not meet it
need_on : (p : List Activity) (x : Activity) (run rest left : ℕ) → Rests AU_7D_REST (p ++ x ∷ []) run → run < rest → rest ≤ AU_7D_REST → 1 < left → IsOpenNeed p rest left → IsOpenNeed (p ++ x ∷ []) rest (left - 1)
need_on p x run rest left r a b l o =
    let q : List Activity = p ++ x ∷ [] in
    let len = length-one_more p x in
    let e = o.period.ends in
    record {
      kind = o.kind;
      of_book = o.of_book;
      asks = o.asks;
      start = o.start;
      period = record { starts = start_more p x o.kind.rested o.start o.period.starts; ends = omega arith; open_yet = omega arith };
      waits = λ h. (let m = h.after in let n = h.before in elim (cases_lt (length p) (h.at + rest)) [
        | inr c ↦ o.waits (record { at = h.at; after = h.after; before = c; rest = rest_back p (x ∷ []) h.at (h.at + rest) c h.rest })
        | inl c ↦ absurd (let far = (r.tells rest b).1 (record { there = omega arith; rest = λ k i j. h.rest k (omega arith) (omega arith) }) in omega arith)
      ]);
    }

-- what a period waits for is more than the rest in progress
need_waits : (p : List Activity) (run rest left : ℕ) → Rests AU_7D_REST p run → rest ≤ AU_7D_REST → IsOpenNeed p rest left → run < rest
need_waits p run rest left r b o = elim (cases_lt run rest) [
  | inl l ↦ l
  | inr l ↦
      let g = (r.tells rest b).0 l in
      let t = g.there in
      let inside = start_inside p o.kind.rested o.start o.period.starts in
      absurd (o.waits (record {
        at = length p - rest;
        after = elim (cases_lt o.start (length p - rest)) [
          | inl a ↦ omega arith
          | inr a ↦ elim (cases_lt (length p) (o.start + rest)) [
            | inr c ↦ omega arith
            | inl c ↦ absurd (let z = rests-works (unit_at p o.start) true o.period.starts.works_there in let y : true ≡ false = sym (g.rest o.start (omega arith) inside) ∙ z in cc)
          ]
        ];
        before = omega arith;
        rest = λ k i j. g.rest k (omega arith) (omega arith);
      }))
]

need_back : (p : List Activity) (x : Activity) (rest left : ℕ) → IsOpenNeed (p ++ x ∷ []) rest left →
    IsOpenNeed p rest (left + 1) ⊎ ((works x ≡ true) × ((kind : Period) × Contains rest_periods kind × (kind.asked ≡ rest) × (left + 1 ≡ kind.units) × IsRestedBefore p kind.rested (length p)))
need_back p x rest left o =
    let len = length-one_more p x in
    let e = o.period.ends in
    elim (start_cases p x o.kind.rested o.start o.period.starts) [
      | inl s ↦ inl (record {
        kind = o.kind;
        of_book = o.of_book;
        asks = o.asks;
        start = o.start;
        period = record { starts = s; ends = omega arith; open_yet = omega arith };
        waits = λ h. (let m = h.after in let n = h.before in o.waits (record { at = h.at; after = m; before = omega arith; rest = rest_on p (x ∷ []) h.at (h.at + rest) n h.rest }));
      })
      | inr n ↦ (let same = n.0 in inr (n.1, (o.kind, o.of_book, o.asks, omega arith, n.2)))
    ]

need_kind : (kind : Period) → Contains rest_periods kind → ((kind.rested ≡ AU_LONG_START) × (kind.units ≡ AU_24H_PERIOD) × (kind.asked ≡ AU_24H_REST)) ⊎ ((kind.rested ≡ AU_LONG_START) × (kind.units ≡ AU_7D_PERIOD) × (kind.asked ≡ AU_7D_REST))
need_kind kind c =
    let day : Period = record { rested = AU_LONG_START; units = AU_24H_PERIOD; asked = AU_24H_REST } in
    let week : Period = record { rested = AU_LONG_START; units = AU_7D_PERIOD; asked = AU_7D_REST } in
    elim (contains_cases day (week ∷ []) kind c) [
      | inl e ↦ inl (sym (ap (λ k. k.rested) e), sym (ap (λ k. k.units) e), sym (ap (λ k. k.asked) e))
      | inr d ↦ elim (contains_cases week [] kind d) [
        | inl e ↦ inr (sym (ap (λ k. k.rested) e), sym (ap (λ k. k.units) e), sym (ap (λ k. k.asked) e))
        | inr z ↦ absurd (no_member kind z)
      ]
    ]

need_short : (p : List Activity) (rest left : ℕ) → IsOpenNeed p rest left → rest ≤ AU_7D_REST
need_short p rest left o = let a = o.asks in elim (need_kind o.kind o.of_book) [ inl k ↦ (let b = k.2 in omega arith) | inr k ↦ (let b = k.2 in omega arith) ]

-- Each need of the list is one of a period that waits, and each period that waits has one as strict.
pub record NeedsStand (p : List Activity) (ns : List Need) : Type 0 where
  pub only : (n : Need) → IsOneOf ns n → IsOpenNeed p n.rest n.units
  pub each : (rest left : ℕ) → IsOpenNeed p rest left → (m : Need) × IsOneOf ns m × (m.rest ≡ rest) × (m.units ≤ left)

one_need : (P : Need → Type 0) (ns : List Need) (n : Need) → All P ns → IsOneOf ns n → P n
one_need P [] n a o = absurd o
one_need P (m ∷ ns) n a o = elim o [ inl e ↦ subst P e (All-head P m ns a) | inr r ↦ one_need P ns n (All-tail P m ns a) r ]

below_test : (a b : ℕ) → a < b → nat_lt a b ≡ true
below_test a b l = grind (arith, nat_tests)

needs_rest : (p : List Activity) (x : Activity) (h : Held) → works x ≡ false → Tracks p h → NeedsStand p h.needs → NeedsStand (p ++ x ∷ []) (after_rest h).needs
needs_rest p x h w t s =
    let later = tracks_rest p h x w t in
    let r : Rests AU_7D_REST (p ++ x ∷ []) (after_rest h).run = later.rested in
    let few = t.rested.few in
    record {
      only = λ n o.
          let f = filter_one (waits (one_more h.run)) (map passed_need h.needs) n o in
          let g = one_of-map passed_need h.needs n f.0 in
          let waits_test : nat_lt (one_more h.run) g.0.rest ≡ true = ap (waits (one_more h.run)) g.2 ∙ f.1 in
          let l : one_more h.run < g.0.rest = grind (arith, nat_tests) in
          let small = one_need (λ n. n.rest ≤ AU_7D_REST) h.needs g.0 t.short g.1 in
          let able = (one_need (IsOpenOneNeed h.run) h.needs g.0 t.held.needs g.1).can in
          subst (λ n. IsOpenNeed (p ++ x ∷ []) n.rest n.units) g.2 (need_on p x (after_rest h).run g.0.rest g.0.units r (omega arith) small (omega arith) (s.only g.0 g.1));
      each = λ rest left o. elim (need_back p x rest left o) [
        | inl a ↦
            let m = s.each rest (left + 1) a in
            let same = m.2 in
            let most = m.3 in
            let small = need_short p rest (left + 1) a in
            let l = need_waits (p ++ x ∷ []) (after_rest h).run rest left r small o in
            let l2 : one_more h.run < m.0.rest = omega arith in
            (passed_need m.0, one_filter (waits (one_more h.run)) (map passed_need h.needs) (passed_need m.0) (below_test (one_more h.run) m.0.rest l2) (one_of_map passed_need h.needs m.0 m.1), same, omega arith)
        | inr n ↦ absurd (let z : false ≡ true = sym w ∙ n.0 in cc)
      ];
    }

-- one more need
one_of_needed : (ns : List Need) (n m : Need) → IsOneOf (needed_needs ns n) m → IsOneOf ns m ⊎ (n ≡ m)
one_of_needed ns n m o = elim (needed_cases ns n) [
  | inl c ↦ inl (subst (λ l. IsOneOf l m) c.0 o)
  | inr c ↦ elim (one_of-append ns (n ∷ []) m (subst (λ l. IsOneOf l m) c o)) [ inl a ↦ inl a | inr b ↦ elim b [ inl e ↦ inr e | inr z ↦ absurd z ] ]
]

needed_old : (ns : List Need) (n m : Need) → IsOneOf ns m → IsOneOf (needed_needs ns n) m
needed_old ns n m o = elim (needed_cases ns n) [ inl c ↦ subst (λ l. IsOneOf l m) (sym c.0) o | inr c ↦ subst (λ l. IsOneOf l m) (sym c) (one_of-append_left ns (n ∷ []) m o) ]

needed_new : (ns : List Need) (n : Need) → (m : Need) × IsOneOf (needed_needs ns n) m × (gives m n ≡ true)
needed_new ns n = elim (needed_cases ns n) [
  | inl c ↦ subst (λ l. (m : Need) × IsOneOf l m × (gives m n ≡ true)) (sym c.0) (any_one (λ m. gives m n) ns c.1)
  | inr c ↦ subst (λ l. (m : Need) × IsOneOf l m × (gives m n ≡ true)) (sym c) (n, one_of-append_right ns (n ∷ []) n (inl refl), gives_itself n)
]

-- the need of a period that begins with the last unit
new_need : (p : List Activity) (x : Activity) (run rest units k : ℕ) → works x ≡ true → Rests AU_7D_REST p run → AU_LONG_START ≤ run → 1 < rest → 1 < units →
    Contains rest_periods (record { rested = AU_LONG_START; units = units; asked = rest }) → IsOpenNeed (p ++ x ∷ []) rest (units - 1)
new_need p x run rest units k w r l some more c =
    let len = length-one_more p x in
    record {
      kind = record { rested = AU_LONG_START; units = units; asked = rest };
      of_book = c;
      asks = refl;
      start = length p;
      period = record { starts = starts_at AU_LONG_START p x [] w ((r.tells AU_LONG_START (omega arith)).0 l); ends = omega arith; open_yet = omega arith };
      waits = λ h. (let a = h.after in let b = h.before in absurd (omega arith));
    }

needs_duty : (p : List Activity) (x : Activity) (h : Held) → works x ≡ true → may_spend (begun h) ≡ true → Tracks p h → NeedsStand p h.needs → NeedsStand (p ++ x ∷ []) (after_duty h).needs
needs_duty p x h w e t s =
    let q : List Activity = p ++ x ∷ [] in
    let b = and_parts (list_all (λ q. nat_lt 0 q.duty) (begun h).limits) (list_all (λ n. nat_lt n.rest n.units) (begun h).needs) e in
    let r : Rests AU_7D_REST q 0 = rests_none AU_7D_REST p x (rests-works x true w) in
    let may : list_all (λ n. nat_lt n.rest n.units) h.needs ≡ true = subst (λ ns. list_all (λ n. nat_lt n.rest n.units) ns ≡ true) (begun_needs h) b.1 in
    let olds : List Need = map passed_need h.needs in
    let same : (spent (begun h)).needs ≡ olds = ap (map passed_need) (begun_needs h) in
    let only : (n : Need) → IsOneOf olds n → IsOpenNeed q n.rest n.units = (λ n o.
    let g = one_of-map passed_need h.needs n o in
    let y = all_one (λ n. nat_lt n.rest n.units) h.needs may g.0 g.1 in
    let l : g.0.rest < g.0.units = grind (arith, nat_tests) in
    let small = one_need (λ n. n.rest ≤ AU_7D_REST) h.needs g.0 t.short g.1 in
    let some = (one_need (IsOpenOneNeed h.run) h.needs g.0 t.held.needs g.1).waits in
    subst (λ n. IsOpenNeed q n.rest n.units) g.2 (need_on p x 0 g.0.rest g.0.units r (omega arith) small (omega arith) (s.only g.0 g.1))) in
    let each : (rest left : ℕ) → IsOpenNeed p rest (left + 1) → (m : Need) × IsOneOf olds m × (m.rest ≡ rest) × (m.units ≤ left) = (λ rest left o.
    let m = s.each rest (left + 1) o in
    let most = m.3 in
    (passed_need m.0, one_of_map passed_need h.needs m.0 m.1, m.2, omega arith)) in
    elim (cases_lt h.run AU_LONG_START) [
      | inl short ↦
          let is : (after_duty h).needs ≡ olds = (ap (λ g. g.needs) (let z : with_needs h.run (spent (begun h)) ≡ spent (begun h) = grind (arith, nat_tests) in z)) ∙ same in
          subst (NeedsStand q) (sym is) (record {
            only = only;
            each = λ rest left o. elim (need_back p x rest left o) [
              | inl a ↦ each rest left a
              | inr n ↦
                  let k = n.1 in
                  let far = (t.rested.tells AU_LONG_START (omega arith)).1 (elim (need_kind k.0 k.1) [ inl d ↦ subst (λ m. IsRestedBefore p m (length p)) d.0 k.4 | inr d ↦ subst (λ m. IsRestedBefore p m (length p)) d.0 k.4 ]) in
                  absurd (omega arith)
            ];
          })
      | inr long ↦
          let is : (after_duty h).needs ≡ needed_needs (needed_needs olds day_need) week_need =
          (ap (λ g. g.needs) (let z : with_needs h.run (spent (begun h)) ≡ needed (needed (spent (begun h)) day_need) week_need = grind (arith, nat_tests) in z)) ∙ ap (λ ns. needed_needs (needed_needs ns day_need) week_need) same in
          subst (NeedsStand q) (sym is) (record {
            only = λ n o. elim (one_of_needed (needed_needs olds day_need) week_need n o) [
              | inl a ↦ elim (one_of_needed olds day_need n a) [
                | inl c ↦ only n c
                | inr c ↦ subst (λ n. IsOpenNeed q n.rest n.units) c (new_need p x h.run AU_24H_REST AU_24H_PERIOD 0 w t.rested long (omega arith) (omega arith) (0, omega arith, refl))
              ]
              | inr c ↦ subst (λ n. IsOpenNeed q n.rest n.units) c (new_need p x h.run AU_7D_REST AU_7D_PERIOD 0 w t.rested long (omega arith) (omega arith) (1, omega arith, refl))
            ];
            each = λ rest left o. elim (need_back p x rest left o) [
              | inl a ↦ (let m = each rest left a in (m.0, needed_old (needed_needs olds day_need) week_need m.0 (needed_old olds day_need m.0 m.1), m.2, m.3))
              | inr n ↦
                  let k = n.1 in
                  let asks = k.2 in
                  let ends = k.3 in
                  elim (need_kind k.0 k.1) [
                    | inl d ↦
                        let m = needed_new olds day_need in
                        let g = gives_means m.0 day_need m.2 in
                        let a = g.0 in
                        let c = g.1 in
                        let u = d.1 in
                        let v = d.2 in
                        (m.0, needed_old (needed_needs olds day_need) week_need m.0 m.1, omega arith, omega arith)
                    | inr d ↦
                        let m = needed_new (needed_needs olds day_need) week_need in
                        let g = gives_means m.0 week_need m.2 in
                        let a = g.0 in
                        let c = g.1 in
                        let u = d.1 in
                        let v = d.2 in
                        (m.0, m.1, omega arith, omega arith)
                  ]
            ];
          })
    ]

-- # The state

-- The limits and needs of the state stand for the open periods of the units p.
pub record Stands (p : List Activity) (h : Held) : Type 0 where
  pub limits : StandsFor (IsOpenBy p) h.limits
  pub needs : NeedsStand p h.needs

pub stands_rest : (p : List Activity) (x : Activity) (h : Held) → works x ≡ false → Tracks p h → Stands p h → Stands (p ++ x ∷ []) (after_rest h)
stands_rest p x h w t s = record { limits = rest_stands p x h.limits w (λ q o. one_held h.limits q t.held.limits o) s.limits; needs = needs_rest p x h w t s.needs }

pub stands_duty : (p : List Activity) (x : Activity) (h : Held) → works x ≡ true → may_spend (begun h) ≡ true → Tracks p h → Stands p h → Stands (p ++ x ∷ []) (after_duty h)
stands_duty p x h w e t s =
    let b = and_parts (list_all (λ q. nat_lt 0 q.duty) (begun h).limits) (list_all (λ n. nat_lt n.rest n.units) (begun h).needs) e in
    record {
      limits = subst (StandsFor (IsOpenBy (p ++ x ∷ []))) (sym (with_limits h.run (spent (begun h))))
          (duty_stands p x h.run (begun h).limits w t.rested
          (λ q o. (one_held (begun h).limits q ((begun_held h t.held).limits) o, (let y = all_one (λ q. nat_lt 0 q.duty) (begun h).limits b.0 q o in grind (arith, nat_tests))))
          (begun_stands (IsOpenBy p) h s.limits));
      needs = needs_duty p x h w e t s.needs;
    }
