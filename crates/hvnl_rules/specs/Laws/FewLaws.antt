-- Each unit keeps the numbers of limits, needs, periods and nights small.
use Rattle.std.proofs.Common.{◌≡◌, ℕ, ◌+◌, ◌-◌, ◌*◌, ◌<◌, ◌≤◌, Bool, true, false, not, ◌&&◌, ◌||◌, cond, List, [], ◌∷◌, ◌++◌, length, min, refl, sym, ◌∙◌, ap, subst, arith, ◌⊎◌, inl, inr}
use Rattle.std.specs.Prelude.{All, map, filter, count_by, nat_eq, nat_lt, nat_le}
use Rattle.std.specs.List.{list_all, list_any}
use Rattle.std.proofs.Math.Nat.{suc-mul}
use Rattle.std.proofs.lemmas.Bool.{cases_Bool, cases_lt, and_parts, and_from, or_cases, or_left, or_right}
use Rattle.std.proofs.lemmas.Bool.Decides.{nat_tests}
use Rattle.std.proofs.lemmas.List.Sums.{sum_by-cons, sum_by_push}
use Rattle.std.proofs.lemmas.List.Elements.{All-nil, All-cons, All-head, All-tail, All-push, All-map, All-filter, All-weaker}
use Rattle.duty_core.specs.declared.limits.TheConstants.{AU_SHORT_START, AU_LONG_START, AU_5H30_PERIOD, AU_5H30_DUTY, AU_8H_PERIOD, AU_8H_DUTY, AU_11H_PERIOD, AU_11H_DUTY, AU_24H_PERIOD, AU_24H_DUTY, AU_24H_REST, AU_7D_PERIOD, AU_7D_DUTY, AU_7D_REST, AU_14D_PERIOD, AU_14D_DUTY}
use Rattle.allowance.specs.declared.limit.Limit.{Limit}
use Rattle.allowance.specs.declared.limit.Need.{Need}
use Rattle.allowance.specs.Allow.{Held, spent_limit, passed_limit, passed_need, is_open, waits, may_spend, spent, one_more, implies, added_limits, gives, needed_needs, needed}
use Rattle.allowance.specs.Few.{slack}
use Rattle.hvnl_rules.specs.Counted.{at_most, short_limits, long_limits, day_need, week_need, added_all, begun_short, begun, with_needs, after_duty, after_rest, start_held}
use Rattle.hvnl_rules.specs.Laws.CountedLaws.{begun_needs, needs_run}
use Rattle.hvnl_rules.specs.Few.{wide, most_wide, is_kind, asking, is_spaced, IsFewHeld}

-- # Counts

pub one_count : {X : Type 0} (t : X → Bool) (x : X) (xs : List X) → count_by t (x ∷ xs) ≡ cond (t x) 1 0 + count_by t xs
one_count t x xs = sum_by-cons (λ k. cond (t k) 1 0) x xs

last_count : {X : Type 0} (t : X → Bool) (xs : List X) (x : X) → count_by t (xs ++ x ∷ []) ≡ count_by t xs + cond (t x) 1 0
last_count t xs x = sum_by_push (λ k. cond (t k) 1 0) xs x

map_count : {X Y : Type 0} (t : Y → Bool) (u : X → Bool) (f : X → Y) (P : X → Type 0) → ((x : X) → P x → t (f x) ≡ u x) → (xs : List X) → All P xs → count_by t (map f xs) ≡ count_by u xs
map_count t u f P h [] a = refl
map_count t u f P h (x ∷ xs) a =
    one_count t (f x) (map f xs)
    ∙ (ap (λ b. cond b 1 0 + count_by t (map f xs)) (h x (All-head P x xs a))
    ∙ (ap (λ (n : ℕ). cond (u x) 1 0 + n) (map_count t u f P h xs (All-tail P x xs a))
    ∙ sym (one_count u x xs)))

filter_count : {X : Type 0} (t p : X → Bool) (xs : List X) → count_by t (filter p xs) ≤ count_by t xs
filter_count t p [] = omega arith
filter_count t p (x ∷ xs) =
    let i = filter_count t p xs in
    let e = one_count t x xs in
    elim (p x) as (λ b. count_by t (cond b (x ∷ filter p xs) (filter p xs)) ≤ count_by t (x ∷ xs)) [
      | true ↦ (let f = one_count t x (filter p xs) in omega arith)
      | false ↦ omega arith
    ]

-- # Limits

one_wide : (v : ℕ) (p : Limit) → (cond {A = ℕ} (nat_lt v (slack p)) 1 0 ≤ 1) × (slack p ≤ v → cond {A = ℕ} (nat_lt v (slack p)) 1 0 ≡ 0)
one_wide v p = elim (cases_lt v (slack p)) [
  | inl l ↦ (let e : nat_lt v (slack p) ≡ true = grind (arith, nat_tests) in let z : cond {A = ℕ} (nat_lt v (slack p)) 1 0 ≡ 1 = ap (λ b. cond {A = ℕ} b 1 0) e in (omega arith, λ g. absurd (omega arith)))
  | inr l ↦ (let e : nat_lt v (slack p) ≡ false = grind (arith, nat_tests) in let z : cond {A = ℕ} (nat_lt v (slack p)) 1 0 ≡ 0 = ap (λ b. cond {A = ℕ} b 1 0) e in (omega arith, λ g. z))
]

added_one : (v : ℕ) (ps : List Limit) (p : Limit) → (wide v (added_limits ps p) ≤ wide v ps + 1) × (slack p ≤ v → wide v (added_limits ps p) ≤ wide v ps)
added_one v ps p =
    let kept = filter (λ q. not (implies p q)) ps in
    let f = filter_count (λ q. nat_lt v (slack q)) (λ q. not (implies p q)) ps in
    let l = last_count (λ q. nat_lt v (slack q)) kept p in
    let o = one_wide v p in
    let top = o.0 in
    elim (is_open p) as (λ b. (wide v (cond b (cond (list_any (λ q. implies q p) ps) ps (kept ++ p ∷ [])) ps) ≤ wide v ps + 1) × (slack p ≤ v → wide v (cond b (cond (list_any (λ q. implies q p) ps) ps (kept ++ p ∷ [])) ps) ≤ wide v ps)) [
      | false ↦ (omega arith, λ g. omega arith)
      | true ↦ elim (list_any (λ q. implies q p) ps) as (λ b. (wide v (cond b ps (kept ++ p ∷ [])) ≤ wide v ps + 1) × (slack p ≤ v → wide v (cond b ps (kept ++ p ∷ [])) ≤ wide v ps)) [
        | true ↦ (omega arith, λ g. omega arith)
        | false ↦ (omega arith, λ g. (let z = o.1 g in omega arith))
      ]
    ]

added_three : (v top : ℕ) (h : Held) (a b c : Limit) → slack a ≤ top → slack b ≤ top → slack c ≤ top →
    (wide v (added_all h (a ∷ b ∷ c ∷ [])).limits ≤ wide v h.limits + 3) × (top ≤ v → wide v (added_all h (a ∷ b ∷ c ∷ [])).limits ≤ wide v h.limits)
added_three v top h a b c i j k =
    let x = added_one v h.limits a in
    let y = added_one v (added_limits h.limits a) b in
    let z = added_one v (added_limits (added_limits h.limits a) b) c in
    let x0 = x.0 in
    let y0 = y.0 in
    let z0 = z.0 in
    (omega arith, λ g. (let x1 = x.1 (omega arith) in let y1 = y.1 (omega arith) in let z1 = z.1 (omega arith) in omega arith))

short_wide : (v : ℕ) (h : Held) → (wide v (begun_short h).limits ≤ wide v h.limits + 3) × (AU_11H_PERIOD - AU_11H_DUTY ≤ v → wide v (begun_short h).limits ≤ wide v h.limits) × (h.run ≡ 0 → wide v (begun_short h).limits ≤ wide v h.limits)
short_wide v h =
    let t = added_three v (AU_11H_PERIOD - AU_11H_DUTY) h (at_most AU_5H30_PERIOD AU_5H30_DUTY) (at_most AU_8H_PERIOD AU_8H_DUTY) (at_most AU_11H_PERIOD AU_11H_DUTY) (omega arith) (omega arith) (omega arith) in
    elim (nat_le AU_SHORT_START h.run) as (λ b. nat_le AU_SHORT_START h.run ≡ b → (wide v (cond b (added_all h short_limits) h).limits ≤ wide v h.limits + 3) × (AU_11H_PERIOD - AU_11H_DUTY ≤ v → wide v (cond b (added_all h short_limits) h).limits ≤ wide v h.limits) × (h.run ≡ 0 → wide v (cond b (added_all h short_limits) h).limits ≤ wide v h.limits)) [
      | true ↦ λ e. (t.0, t.1, λ z. absurd (let l : AU_SHORT_START ≤ h.run = grind (arith, nat_tests) in omega arith))
      | false ↦ λ e. (omega arith, (λ g. omega arith), (λ z. omega arith))
    ] refl

long_wide : (v : ℕ) (h : Held) → (wide v (begun h).limits ≤ wide v (begun_short h).limits + 3) × (AU_14D_PERIOD - AU_14D_DUTY ≤ v → wide v (begun h).limits ≤ wide v (begun_short h).limits) × (h.run < AU_LONG_START → wide v (begun h).limits ≤ wide v (begun_short h).limits)
long_wide v h =
    let s = begun_short h in
    let t = added_three v (AU_14D_PERIOD - AU_14D_DUTY) s (at_most AU_24H_PERIOD AU_24H_DUTY) (at_most AU_7D_PERIOD AU_7D_DUTY) (at_most AU_14D_PERIOD AU_14D_DUTY) (omega arith) (omega arith) (omega arith) in
    elim (nat_le AU_LONG_START h.run) as (λ b. nat_le AU_LONG_START h.run ≡ b → (wide v (cond b (added_all s long_limits) s).limits ≤ wide v s.limits + 3) × (AU_14D_PERIOD - AU_14D_DUTY ≤ v → wide v (cond b (added_all s long_limits) s).limits ≤ wide v s.limits) × (h.run < AU_LONG_START → wide v (cond b (added_all s long_limits) s).limits ≤ wide v s.limits)) [
      | true ↦ λ e. (t.0, t.1, λ z. absurd (let l : AU_LONG_START ≤ h.run = grind (arith, nat_tests) in omega arith))
      | false ↦ λ e. (omega arith, (λ g. omega arith), (λ z. omega arith))
    ] refl

pub most_less : (v w : ℕ) → v ≤ w → most_wide w ≤ most_wide v
most_less v w l = omega arith

-- right after a start
begun_wide : (v : ℕ) (h : Held) → wide v h.limits ≤ most_wide (v + min h.run AU_LONG_START) → wide v (begun h).limits ≤ most_wide v
begun_wide v h m =
    let s = short_wide v h in
    let l = long_wide v h in
    let s0 = s.0 in
    let l0 = l.0 in
    elim (cases_lt h.run AU_SHORT_START) [
      | inl a ↦ (let x = s.2 (omega arith) in let y = l.2 (omega arith) in omega arith)
      | inr a ↦ elim (cases_lt h.run AU_LONG_START) [
        | inl b ↦ (let y = l.2 b in elim (cases_lt v (AU_11H_PERIOD - AU_11H_DUTY)) [ inl c ↦ omega arith | inr c ↦ (let x = s.1 c in omega arith) ])
        | inr b ↦ elim (cases_lt v (AU_11H_PERIOD - AU_11H_DUTY)) [
          | inl c ↦ omega arith
          | inr c ↦ (let x = s.1 c in elim (cases_lt v (AU_14D_PERIOD - AU_14D_DUTY)) [ inl d ↦ omega arith | inr d ↦ (let y = l.1 d in omega arith) ])
        ]
      ]
    ]

spent_slack : (v : ℕ) (p : Limit) → nat_lt 0 p.duty ≡ true → nat_lt v (slack (spent_limit p)) ≡ nat_lt v (slack p)
spent_slack v p e = let l : 0 < p.duty = grind (arith, nat_tests) in let s : slack (spent_limit p) ≡ slack p = omega arith in ap (λ n. nat_lt v n) s

passed_slack : (v : ℕ) (p : Limit) → nat_lt v (slack (passed_limit p)) ≡ nat_lt (v + 1) (slack p)
passed_slack v p = elim (cases_lt (v + 1) (slack p)) [
  | inl l ↦ (let n : v < slack (passed_limit p) = omega arith in let a : nat_lt v (slack (passed_limit p)) ≡ true = grind (arith, nat_tests) in let b : nat_lt (v + 1) (slack p) ≡ true = grind (arith, nat_tests) in a ∙ sym b)
  | inr l ↦ (let n : slack (passed_limit p) ≤ v = omega arith in let a : nat_lt v (slack (passed_limit p)) ≡ false = grind (arith, nat_tests) in let b : nat_lt (v + 1) (slack p) ≡ false = grind (arith, nat_tests) in a ∙ sym b)
]

pub all_tested : {X : Type 0} (t : X → Bool) (xs : List X) → list_all t xs ≡ true → All (λ x. t x ≡ true) xs
all_tested t [] e = All-nil (λ x. t x ≡ true)
all_tested t (x ∷ xs) e = let c = and_parts (t x) (list_all t xs) e in All-cons (λ x. t x ≡ true) x xs c.0 (all_tested t xs c.1)

spent_wide : (v : ℕ) (ps : List Limit) → list_all (λ p. nat_lt 0 p.duty) ps ≡ true → wide v (map spent_limit ps) ≡ wide v ps
spent_wide v ps e = map_count (λ p. nat_lt v (slack p)) (λ p. nat_lt v (slack p)) spent_limit (λ p. nat_lt 0 p.duty ≡ true) (λ p l. spent_slack v p l) ps (all_tested (λ p. nat_lt 0 p.duty) ps e)

passed_wide : (v : ℕ) (ps : List Limit) → wide v (filter is_open (map passed_limit ps)) ≤ wide (v + 1) ps
passed_wide v ps =
    let f = filter_count (λ p. nat_lt v (slack p)) is_open (map passed_limit ps) in
    let m = map_count (λ p. nat_lt v (slack p)) (λ p. nat_lt (v + 1) (slack p)) passed_limit (λ p. Unit {0}) (λ p l. passed_slack v p) ps (λ k d b. tt) in
    omega arith

added_tops : (ps : List Limit) (p : Limit) → p.units ≤ AU_14D_PERIOD → All (λ q. q.units ≤ AU_14D_PERIOD) ps → All (λ q. q.units ≤ AU_14D_PERIOD) (added_limits ps p)
added_tops ps p l a = elim (is_open p) as (λ b. All (λ q. q.units ≤ AU_14D_PERIOD) (cond b (cond (list_any (λ q. implies q p) ps) ps (filter (λ q. not (implies p q)) ps ++ p ∷ [])) ps)) [
  | false ↦ a
  | true ↦ elim (list_any (λ q. implies q p) ps) as (λ b. All (λ q. q.units ≤ AU_14D_PERIOD) (cond b ps (filter (λ q. not (implies p q)) ps ++ p ∷ []))) [
    | true ↦ a
    | false ↦ All-push (λ q. q.units ≤ AU_14D_PERIOD) (filter (λ q. not (implies p q)) ps) p (All-filter (λ q. not (implies p q)) (λ q. q.units ≤ AU_14D_PERIOD) ps a) l
  ]
]

when_tops : (b : Bool) (h : Held) (p q r : Limit) → p.units ≤ AU_14D_PERIOD → q.units ≤ AU_14D_PERIOD → r.units ≤ AU_14D_PERIOD → All (λ q. q.units ≤ AU_14D_PERIOD) h.limits → All (λ q. q.units ≤ AU_14D_PERIOD) (cond b (added_all h (p ∷ q ∷ r ∷ [])) h).limits
when_tops true h p q r i j k a = added_tops (added_limits (added_limits h.limits p) q) r k (added_tops (added_limits h.limits p) q j (added_tops h.limits p i a))
when_tops false h p q r i j k a = a

begun_tops : (h : Held) → All (λ q. q.units ≤ AU_14D_PERIOD) h.limits → All (λ q. q.units ≤ AU_14D_PERIOD) (begun h).limits
begun_tops h a =
    when_tops (nat_le AU_LONG_START h.run) (begun_short h) (at_most AU_24H_PERIOD AU_24H_DUTY) (at_most AU_7D_PERIOD AU_7D_DUTY) (at_most AU_14D_PERIOD AU_14D_DUTY) (omega arith) (omega arith) (omega arith)
    (when_tops (nat_le AU_SHORT_START h.run) h (at_most AU_5H30_PERIOD AU_5H30_DUTY) (at_most AU_8H_PERIOD AU_8H_DUTY) (at_most AU_11H_PERIOD AU_11H_DUTY) (omega arith) (omega arith) (omega arith) a)

-- # Needs

pub kind_cases : (n : Need) → is_kind n ≡ true → ((n.rest ≡ AU_24H_REST) × (n.units < AU_24H_PERIOD)) ⊎ ((n.rest ≡ AU_7D_REST) × (n.units < AU_7D_PERIOD))
kind_cases n e = elim (or_cases (nat_eq n.rest AU_24H_REST && nat_lt n.units AU_24H_PERIOD) (nat_eq n.rest AU_7D_REST && nat_lt n.units AU_7D_PERIOD) e) [
  | inl h ↦ (let c = and_parts (nat_eq n.rest AU_24H_REST) (nat_lt n.units AU_24H_PERIOD) h in let x = c.0 in let y = c.1 in inl (grind (arith, nat_tests), grind (arith, nat_tests)))
  | inr h ↦ (let c = and_parts (nat_eq n.rest AU_7D_REST) (nat_lt n.units AU_7D_PERIOD) h in let x = c.0 in let y = c.1 in inr (grind (arith, nat_tests), grind (arith, nat_tests)))
]

kind_from : (n : Need) → ((n.rest ≡ AU_24H_REST) × (n.units < AU_24H_PERIOD)) ⊎ ((n.rest ≡ AU_7D_REST) × (n.units < AU_7D_PERIOD)) → is_kind n ≡ true
kind_from n c = elim c [
  | inl h ↦ or_left (nat_eq n.rest AU_24H_REST && nat_lt n.units AU_24H_PERIOD) (nat_eq n.rest AU_7D_REST && nat_lt n.units AU_7D_PERIOD) (let x = h.0 in let y = h.1 in and_from (nat_eq n.rest AU_24H_REST) (nat_lt n.units AU_24H_PERIOD) (grind (arith, nat_tests)) (grind (arith, nat_tests)))
  | inr h ↦ or_right (nat_eq n.rest AU_24H_REST && nat_lt n.units AU_24H_PERIOD) (nat_eq n.rest AU_7D_REST && nat_lt n.units AU_7D_PERIOD) (let x = h.0 in let y = h.1 in and_from (nat_eq n.rest AU_7D_REST) (nat_lt n.units AU_7D_PERIOD) (grind (arith, nat_tests)) (grind (arith, nat_tests)))
]

passed_kind : (n : Need) → is_kind n ≡ true → is_kind (passed_need n) ≡ true
passed_kind n e = kind_from (passed_need n) (elim (kind_cases n e) [ inl h ↦ (let y = h.1 in inl (h.0, omega arith)) | inr h ↦ (let y = h.1 in inr (h.0, omega arith)) ])

passed_kinds : (ns : List Need) → All (λ n. is_kind n ≡ true) ns → All (λ n. is_kind n ≡ true) (map passed_need ns)
passed_kinds ns a = All-map (λ n. is_kind n ≡ true) passed_need ns (All-weaker (λ n. is_kind n ≡ true) (λ n. is_kind (passed_need n) ≡ true) (λ n e. passed_kind n e) ns a)

passed_asking : (rest : ℕ) (ns : List Need) → asking rest (map passed_need ns) ≡ asking rest ns
passed_asking rest ns = map_count (λ n. nat_eq n.rest rest) (λ n. nat_eq n.rest rest) passed_need (λ n. Unit {0}) (λ n u. refl) ns (λ k d b. tt)

-- where no kept need gives the new one, none asks for as much rest
none_asking : (ns : List Need) (n : Need) → All (λ m. m.rest ≡ n.rest → m.units ≤ n.units) ns → list_any (λ m. gives m n) ns ≡ false → asking n.rest ns ≡ 0
none_asking [] n a e = refl
none_asking (m ∷ ns) n a e =
    let h = All-head (λ m. m.rest ≡ n.rest → m.units ≤ n.units) m ns a in
    let t = All-tail (λ m. m.rest ≡ n.rest → m.units ≤ n.units) m ns a in
    elim (cases_Bool (gives m n)) [
      | inl g ↦ absurd (let z : true ≡ false = sym (ap (λ b. b || list_any (λ m. gives m n) ns) g) ∙ e in cc)
      | inr g ↦
          let r = none_asking ns n t (sym (ap (λ b. b || list_any (λ m. gives m n) ns) g) ∙ e) in
          let o = one_count (λ m. nat_eq m.rest n.rest) m ns in
          elim (cases_Bool (nat_eq m.rest n.rest)) [
            | inl q ↦ absurd (let s : m.rest ≡ n.rest = grind (arith, nat_tests) in let u = h s in let v : gives m n ≡ true = and_from (nat_eq m.rest n.rest) (nat_le m.units n.units) q (grind (arith, nat_tests)) in let z : true ≡ false = sym v ∙ g in cc)
            | inr q ↦ (let c : cond {A = ℕ} (nat_eq m.rest n.rest) 1 0 ≡ 0 = ap (λ b. cond {A = ℕ} b 1 0) q in omega arith)
          ]
    ]

needed_same : (ns : List Need) (n : Need) → All (λ m. m.rest ≡ n.rest → m.units ≤ n.units) ns → asking n.rest ns ≤ 1 → asking n.rest (needed_needs ns n) ≤ 1
needed_same ns n a l = elim (list_any (λ m. gives m n) ns) as (λ b. list_any (λ m. gives m n) ns ≡ b → asking n.rest (cond b ns (ns ++ n ∷ [])) ≤ 1) [
  | true ↦ λ e. l
  | false ↦ λ e. (let z = none_asking ns n a e in let o = last_count (λ m. nat_eq m.rest n.rest) ns n in let q : nat_eq n.rest n.rest ≡ true = grind (arith, nat_tests) in let c : cond {A = ℕ} (nat_eq n.rest n.rest) 1 0 ≡ 1 = ap (λ b. cond {A = ℕ} b 1 0) q in omega arith)
] refl

needed_other : (ns : List Need) (n : Need) (rest : ℕ) → nat_eq n.rest rest ≡ false → asking rest ns ≤ 1 → asking rest (needed_needs ns n) ≤ 1
needed_other ns n rest q l = elim (list_any (λ m. gives m n) ns) as (λ b. asking rest (cond b ns (ns ++ n ∷ [])) ≤ 1) [
  | true ↦ l
  | false ↦ (let o = last_count (λ m. nat_eq m.rest rest) ns n in let c : cond {A = ℕ} (nat_eq n.rest rest) 1 0 ≡ 0 = ap (λ b. cond {A = ℕ} b 1 0) q in omega arith)
]

needed_kinds : (ns : List Need) (n : Need) → is_kind n ≡ true → All (λ n. is_kind n ≡ true) ns → All (λ n. is_kind n ≡ true) (needed_needs ns n)
needed_kinds ns n k a = elim (list_any (λ m. gives m n) ns) as (λ b. All (λ n. is_kind n ≡ true) (cond b ns (ns ++ n ∷ []))) [ true ↦ a | false ↦ All-push (λ n. is_kind n ≡ true) ns n a k ]

day_earlier : (ns : List Need) → All (λ n. is_kind n ≡ true) ns → All (λ m. m.rest ≡ day_need.rest → m.units ≤ day_need.units) ns
day_earlier ns a = All-weaker (λ n. is_kind n ≡ true) (λ m. m.rest ≡ day_need.rest → m.units ≤ day_need.units) (λ m e r. elim (kind_cases m e) [ inl h ↦ (let y = h.1 in omega arith) | inr h ↦ absurd (let y = h.0 in omega arith) ]) ns a

week_earlier : (ns : List Need) → All (λ n. is_kind n ≡ true) ns → All (λ m. m.rest ≡ week_need.rest → m.units ≤ week_need.units) ns
week_earlier ns a = All-weaker (λ n. is_kind n ≡ true) (λ m. m.rest ≡ week_need.rest → m.units ≤ week_need.units) (λ m e r. elim (kind_cases m e) [ inl h ↦ absurd (let y = h.0 in omega arith) | inr h ↦ (let y = h.1 in omega arith) ]) ns a

-- what is said of needs
record AreFewNeeds (ns : List Need) : Type 0 where
  kinds : All (λ n. is_kind n ≡ true) ns
  days : asking AU_24H_REST ns ≤ 1
  weeks : asking AU_7D_REST ns ≤ 1

needs_added : (run : ℕ) (h : Held) → AreFewNeeds h.needs → AreFewNeeds (with_needs run h).needs
needs_added run h f = elim (nat_le AU_LONG_START run) as (λ b. AreFewNeeds (cond b (needed (needed h day_need) week_need) h).needs) [
  | false ↦ f
  | true ↦
      let k = needed_kinds h.needs day_need refl f.kinds in
      record {
        kinds = needed_kinds (needed_needs h.needs day_need) week_need refl k;
        days = needed_other (needed_needs h.needs day_need) week_need AU_24H_REST refl (needed_same h.needs day_need (day_earlier h.needs f.kinds) f.days);
        weeks = needed_same (needed_needs h.needs day_need) week_need (week_earlier (needed_needs h.needs day_need) k) (needed_other h.needs day_need AU_7D_REST refl f.weeks);
      }
]

-- # One more unit

with_limits : (run : ℕ) (h : Held) → (with_needs run h).limits ≡ h.limits
with_limits run h = elim (nat_le AU_LONG_START run) as (λ b. (cond b (needed (needed h day_need) week_need) h).limits ≡ h.limits) [ true ↦ refl | false ↦ refl ]

pub few_duty : (h : Held) → may_spend (begun h) ≡ true → IsFewHeld h → IsFewHeld (after_duty h)
few_duty h e f =
    let c = and_parts (list_all (λ q. nat_lt 0 q.duty) (begun h).limits) (list_all (λ n. nat_lt n.rest n.units) (begun h).needs) e in
    let run = needs_run h.run (spent (begun h)) in
    let same = with_limits h.run (spent (begun h)) in
    let d = passed_asking AU_24H_REST (begun h).needs in
    let w = passed_asking AU_7D_REST (begun h).needs in
    let d0 = ap (asking AU_24H_REST) (begun_needs h) in
    let w0 = ap (asking AU_7D_REST) (begun_needs h) in
    let d1 = f.day_needs in
    let w1 = f.week_needs in
    let n = needs_added h.run (spent (begun h)) (record { kinds = passed_kinds (begun h).needs (subst (λ ns. All (λ n. is_kind n ≡ true) ns) (sym (begun_needs h)) f.kinds); days = omega arith; weeks = omega arith }) in
    record {
      tops = subst (λ ps. All (λ p. p.units ≤ AU_14D_PERIOD) ps) (sym same) (All-map (λ p. p.units ≤ AU_14D_PERIOD) spent_limit (begun h).limits (All-weaker (λ p. p.units ≤ AU_14D_PERIOD) (λ p. (spent_limit p).units ≤ AU_14D_PERIOD) (λ p l. omega arith) (begun h).limits (begun_tops h f.tops)));
      limits = λ v. (
          let b = begun_wide v h (f.limits v) in
          let s = spent_wide v (begun h).limits c.0 in
          let u = ap (wide v) same in
          let z : most_wide v ≤ most_wide (v + min (after_duty h).run AU_LONG_START) = most_less (v + min (after_duty h).run AU_LONG_START) v (omega arith) in
          omega arith
          );
      kinds = n.kinds;
      day_needs = n.days;
      week_needs = n.weeks;
    }

pub few_rest : (h : Held) → h.run ≤ AU_7D_REST → IsFewHeld h → IsFewHeld (after_rest h)
few_rest h r f =
    let d = passed_asking AU_24H_REST h.needs in
    let w = passed_asking AU_7D_REST h.needs in
    let d0 = filter_count (λ n. nat_eq n.rest AU_24H_REST) (waits (one_more h.run)) (map passed_need h.needs) in
    let w0 = filter_count (λ n. nat_eq n.rest AU_7D_REST) (waits (one_more h.run)) (map passed_need h.needs) in
    let d1 = f.day_needs in
    let w1 = f.week_needs in
    record {
      tops = All-filter is_open (λ p. p.units ≤ AU_14D_PERIOD) (map passed_limit h.limits) (All-map (λ p. p.units ≤ AU_14D_PERIOD) passed_limit h.limits (All-weaker (λ p. p.units ≤ AU_14D_PERIOD) (λ p. (passed_limit p).units ≤ AU_14D_PERIOD) (λ p l. omega arith) h.limits f.tops));
      limits = λ v. (
          let p = passed_wide v h.limits in
          let q = f.limits (v + 1) in
          let z = most_less (v + min (after_rest h).run AU_LONG_START) (v + 1 + min h.run AU_LONG_START) (omega arith) in
          omega arith
          );
      kinds = All-filter (waits (one_more h.run)) (λ n. is_kind n ≡ true) (map passed_need h.needs) (passed_kinds h.needs f.kinds);
      day_needs = omega arith;
      week_needs = omega arith;
    }

pub few_start : IsFewHeld start_held
few_start = record { tops = All-nil _; limits = λ v. omega arith; kinds = All-nil _; day_needs = omega arith; week_needs = omega arith }

-- # Spaced lists

lower_spaced : (apart low more : ℕ) (xs : List ℕ) → low ≤ more → is_spaced apart more xs ≡ true → is_spaced apart low xs ≡ true
lower_spaced apart low more [] l e = refl
lower_spaced apart low more (x ∷ xs) l e =
    let c = and_parts (nat_le more x) (is_spaced apart (x + apart) xs) e in
    let a = c.0 in
    let b : more ≤ x = grind (arith, nat_tests) in
    and_from (nat_le low x) (is_spaced apart (x + apart) xs) (let d : low ≤ x = omega arith in grind (arith, nat_tests)) c.1

pub filter_spaced : (t : ℕ → Bool) (apart low : ℕ) (xs : List ℕ) → is_spaced apart low xs ≡ true → is_spaced apart low (filter t xs) ≡ true
filter_spaced t apart low [] e = refl
filter_spaced t apart low (x ∷ xs) e =
    let c = and_parts (nat_le low x) (is_spaced apart (x + apart) xs) e in
    let a = c.0 in
    let b : low ≤ x = grind (arith, nat_tests) in
    elim (t x) as (λ k. is_spaced apart low (cond k (x ∷ filter t xs) (filter t xs)) ≡ true) [
      | true ↦ and_from (nat_le low x) (is_spaced apart (x + apart) (filter t xs)) c.0 (filter_spaced t apart (x + apart) xs c.1)
      | false ↦ filter_spaced t apart low xs (lower_spaced apart low (x + apart) xs (omega arith) c.1)
    ]

pub push_spaced : (apart low y : ℕ) (xs : List ℕ) → low ≤ y → All (λ x. x + apart ≤ y) xs → is_spaced apart low xs ≡ true → is_spaced apart low (xs ++ y ∷ []) ≡ true
push_spaced apart low y [] l a e = and_from (nat_le low y) true (grind (arith, nat_tests)) refl
push_spaced apart low y (x ∷ xs) l a e =
    let c = and_parts (nat_le low x) (is_spaced apart (x + apart) xs) e in
    let h = All-head (λ x. x + apart ≤ y) x xs a in
    and_from (nat_le low x) (is_spaced apart (x + apart) (xs ++ y ∷ [])) c.0 (push_spaced apart (x + apart) y xs h (All-tail (λ x. x + apart ≤ y) x xs a) c.1)

pub raise_spaced : (apart low more : ℕ) (xs : List ℕ) → All (λ x. more ≤ x) xs → is_spaced apart low xs ≡ true → is_spaced apart more xs ≡ true
raise_spaced apart low more [] a e = refl
raise_spaced apart low more (x ∷ xs) a e =
    let c = and_parts (nat_le low x) (is_spaced apart (x + apart) xs) e in
    let h = All-head (λ x. more ≤ x) x xs a in
    and_from (nat_le more x) (is_spaced apart (x + apart) xs) (grind (arith, nat_tests)) c.1

pub few_spaced : (apart low top : ℕ) (xs : List ℕ) → All (λ x. x ≤ top) xs → is_spaced apart low xs ≡ true → (length xs ≡ 0) ⊎ (low + length xs * apart ≤ top + apart)
few_spaced apart low top [] a e = inl refl
few_spaced apart low top (x ∷ xs) a e =
    let c = and_parts (nat_le low x) (is_spaced apart (x + apart) xs) e in
    let y = c.0 in
    let b : low ≤ x = grind (arith, nat_tests) in
    let h = All-head (λ x. x ≤ top) x xs a in
    let m = suc-mul (length xs) apart in
    elim (few_spaced apart (x + apart) top xs (All-tail (λ x. x ≤ top) x xs a) c.1) [
      | inl e ↦ inr (let z : length xs * apart ≡ 0 * apart = ap (λ n. n * apart) e in omega arith)
      | inr q ↦ inr (omega arith)
    ]
