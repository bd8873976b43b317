-- A minute of duty keeps the test of the days exactly where the history with it, and rest after it, defers only as the rule allows.
use Rattle.std.proofs.Common.{◌≡◌, ℕ, ◌+◌, ◌-◌, ◌<◌, ◌≤◌, Bool, true, false, ◌&&◌, ◌||◌, List, [], ◌∷◌, ◌++◌, length, refl, sym, ◌∙◌, ap, subst, arith, inl, inr}
use Rattle.std.specs.Prelude.{nat_lt, nat_le}
use Rattle.std.proofs.lemmas.Bool.{cases_lt, cases_eq, cases_Bool}
use Rattle.std.proofs.lemmas.Bool.Decides.{nat_tests}
use Rattle.duty_core.specs.declared.activity.Activity.{Activity}
use Rattle.duty_core.specs.declared.limits.TheConstants.{DAY_MINUTES, CA_LOST_LIMIT, CA_DEFERRED_LOST_LIMIT, CA_BOTH_LOST_LIMIT}
use Rattle.duty_core.specs.Activity.{rests}
use Rattle.duty_core.specs.History.{unit_at}
use Rattle.duty_core.specs.LostMinutes.{lost}
use Rattle.duty_core.specs.Deferral.{HasRestIn, IsDeferral}
use Rattle.cycles_deferral.specs.declared.days.TheConstants.{NEEDED_LIMIT}
use Rattle.cycles_deferral.specs.declared.days.CanadaDays.{CanadaDays}
use Rattle.cycles_deferral.specs.DayMachine.{needed, keeps_defer}
use Rattle.cycles_deferral.specs.Paths.{AreDays}
use Rattle.cycles_deferral.specs.Laws.LostSteps.{rests_past, length_more, rest_front, rest_last, rest_more, rest_less, before_last, lost_at_rest, lost_less}
use Rattle.cycles_deferral.specs.LostSteps.{IsOpenRun}
use Rattle.cycles_deferral.specs.Laws.Tracks.{lost_later, lost_earlier, days_near, days_up_to}
use Rattle.cycles_deferral.specs.Knows.{HasRestSoFar, IsLongest, IsClocked, Knows}
use Rattle.cycles_deferral.specs.Laws.Knows.{rest_carried, clock_last, clock_over}

-- each day that loses more than its limit is deferred
abbrev pub AllDeferred : (ℕ → ℕ) → List Activity → Type 0
AllDeferred day p = (j : ℕ) → CA_LOST_LIMIT < lost day p j → IsDeferral day p j

-- # The test

-- what the test says; `more` tells that more minutes of the day follow
pub record Passes (s : CanadaDays) (more : Bool) : Type 0 where
  pub before_both : CA_LOST_LIMIT < s.before → s.before + s.yesterday.lost ≤ CA_BOTH_LOST_LIMIT
  pub before_rest : CA_LOST_LIMIT < s.before → needed s.before ≤ s.yesterday.longest
  pub most : CA_LOST_LIMIT < s.yesterday.lost → s.yesterday.lost ≤ CA_DEFERRED_LOST_LIMIT
  pub both : CA_LOST_LIMIT < s.yesterday.lost → s.yesterday.lost + s.today.lost ≤ CA_BOTH_LOST_LIMIT
  pub rest : more ≡ false → CA_LOST_LIMIT < s.yesterday.lost → needed s.yesterday.lost ≤ s.today.longest
  pub today_most : s.today.lost ≤ CA_DEFERRED_LOST_LIMIT

-- the same of plain numbers
test_of : ℕ → ℕ → ℕ → ℕ → ℕ → Bool → Bool
test_of b y t h g more =
    (nat_le b CA_LOST_LIMIT || (nat_le (b + y) CA_BOTH_LOST_LIMIT && nat_le (needed b) h))
    && ((nat_le y CA_LOST_LIMIT || (nat_le y CA_DEFERRED_LOST_LIMIT && (nat_le (y + t) CA_BOTH_LOST_LIMIT && (more || nat_le (needed y) g)))) && nat_le t CA_DEFERRED_LOST_LIMIT)

test_means : (b y t h g : ℕ) (more : Bool) → test_of b y t h g more ≡ true →
    (CA_LOST_LIMIT < b → b + y ≤ CA_BOTH_LOST_LIMIT) × (CA_LOST_LIMIT < b → needed b ≤ h) × (CA_LOST_LIMIT < y → y ≤ CA_DEFERRED_LOST_LIMIT) × (CA_LOST_LIMIT < y → y + t ≤ CA_BOTH_LOST_LIMIT)
    × (more ≡ false → CA_LOST_LIMIT < y → needed y ≤ g) × (t ≤ CA_DEFERRED_LOST_LIMIT)
unfolding test_of
test_means b y t h g more e = (
  (λ l. grind (arith, nat_tests)),
  (λ l. grind (arith, nat_tests)),
  (λ l. grind (arith, nat_tests)),
  (λ l. grind (arith, nat_tests)),
  (λ i l. grind (arith, nat_tests)),
  grind (arith, nat_tests),
)

test_back : (b y t h g : ℕ) (more : Bool) → (CA_LOST_LIMIT < b → b + y ≤ CA_BOTH_LOST_LIMIT) → (CA_LOST_LIMIT < b → needed b ≤ h) → (CA_LOST_LIMIT < y → y ≤ CA_DEFERRED_LOST_LIMIT) →
    (CA_LOST_LIMIT < y → y + t ≤ CA_BOTH_LOST_LIMIT) → (more ≡ false → CA_LOST_LIMIT < y → needed y ≤ g) → t ≤ CA_DEFERRED_LOST_LIMIT → test_of b y t h g more ≡ true
unfolding test_of
test_back b y t h g more a c d e f i = grind (arith, nat_tests)

pub passes_means : (s : CanadaDays) → keeps_defer s ≡ true → Passes s (nat_lt s.minute DAY_MINUTES)
unfolding test_of
passes_means s e =
    let q = test_means s.before s.yesterday.lost s.today.lost s.yesterday.longest s.today.longest (nat_lt s.minute DAY_MINUTES) e in
    record { before_both = q.0; before_rest = q.1; most = q.2; both = q.3; rest = q.4; today_most = q.5 }

pub passes_from : (s : CanadaDays) → Passes s (nat_lt s.minute DAY_MINUTES) → keeps_defer s ≡ true
unfolding test_of
passes_from s h = test_back s.before s.yesterday.lost s.today.lost s.yesterday.longest s.today.longest (nat_lt s.minute DAY_MINUTES) h.before_both h.before_rest h.most h.both h.rest h.today_most

-- # Where the history with the minute is lawful, the test passes

has_before : (day : ℕ → ℕ) (p : List Activity) (x : Activity) (m j : ℕ) → rests x ≡ false → (h : HasRestIn day (p ++ x ∷ []) m j) → h.at < length p → HasRestSoFar day (p ++ x ∷ []) m j
has_before day p x m j r h l =
    let n = length_more p x in
    let e = before_last p x h.from h.to h.at r h.rest h.after h.before l in
    record { rest = h; inside = omega arith }

defer_complete : (day : ℕ → ℕ) → AreDays day → (p : List Activity) (x : Activity) (s : CanadaDays) → rests x ≡ false → Knows day (p ++ x ∷ []) (day (length p)) s → IsClocked day (p ++ x ∷ []) (day (length p)) s →
    AllDeferred day (p ++ x ∷ []) → Passes s (nat_lt s.minute DAY_MINUTES)
defer_complete day days p x s r h clock g =
    let d = day (length p) in
    let v = p ++ x ∷ [] in
    let two : 2 ≤ d = h.later in
    let i : ℕ = d - 2 in
    let j : ℕ = d - 1 in
    let b : lost day v i ≡ s.before = h.lost_before i (omega arith) in
    let y : lost day v j ≡ s.yesterday.lost = h.tracks.lost_yesterday j (omega arith) in
    let y2 : lost day v (i + 1) ≡ s.yesterday.lost = h.tracks.lost_yesterday (i + 1) (omega arith) in
    let t : lost day v d ≡ s.today.lost = h.tracks.lost_today in
    let t2 : lost day v (j + 1) ≡ s.today.lost = ap (lost day v) (let z : j + 1 ≡ d = omega arith in z) ∙ t in
    record {
      before_both = λ l. let q = (g i (omega arith)).both in omega arith;
      before_rest = λ l.
          let q = g i (omega arith) in
          let m = q.most in
          let od = q.rest.of_day in
          let at : q.rest.at < length p = elim (cases_lt q.rest.at (length p)) [ inl lt ↦ lt | inr le ↦ (let z = days_up_to day days (length p) q.rest.at le in absurd (omega arith)) ] in
          let k = (h.longest_yesterday (i + 1) (omega arith)).most (needed (lost day v i)) (omega arith) (has_before day p x (needed (lost day v i)) (i + 1) r q.rest at) in
          omega arith;
      most = λ l. let q = (g j (omega arith)).most in omega arith;
      both = λ l. let q = (g j (omega arith)).both in omega arith;
      rest = λ e l.
          let q = g j (omega arith) in
          let m = q.most in
          let od = q.rest.of_day in
          let over : day (length p + 1) ≡ d + 1 = elim clock [ inl c ↦ clock_over day days p x d s.minute c refl e | inr c ↦ absurd (let c0 = c.0 in omega arith) ] in
          let at : q.rest.at < length p = elim (cases_lt q.rest.at (length p)) [
            | inl lt ↦ lt
            | inr le ↦ elim (cases_eq q.rest.at (length p)) [
              | inl same ↦ absurd (let c : true ≡ false = sym (q.rest.rest q.rest.at q.rest.after q.rest.before) ∙ (ap (λ m. rests (unit_at v m)) same ∙ (rest_last p x ∙ r)) in let c = c in cc)
              | inr other ↦ (let z = days_up_to day days (length p + 1) q.rest.at (omega arith) in absurd (omega arith))
            ]
          ] in
          let hb : HasRestSoFar day v (needed (lost day v j)) d = subst (HasRestSoFar day v (needed (lost day v j))) (let z : j + 1 ≡ d = omega arith in z) (has_before day p x (needed (lost day v j)) (j + 1) r q.rest at) in
          let k = h.longest_today.most (needed (lost day v j)) (omega arith) hb in
          omega arith;
      today_most = elim (cases_lt CA_LOST_LIMIT s.today.lost) [ inl lt ↦ (let q = (g d (omega arith)).most in omega arith) | inr le ↦ omega arith ];
    }

-- # And back

has_fewer : (day : ℕ → ℕ) (p : List Activity) (m n j : ℕ) → m ≤ n → HasRestIn day p n j → HasRestIn day p m j
has_fewer day p m n j l h = record { from = h.from; to = h.to; at = h.at; rest = h.rest; long = (let a = h.long in omega arith); after = h.after; before = h.before; of_day = h.of_day }

-- a deferral of one history is one of another that loses no more in both days, and has the rest where the first has it
deferral_carried : (day : ℕ → ℕ) (p q : List Activity) (j : ℕ) → CA_LOST_LIMIT < lost day q j → lost day q j ≤ lost day p j → lost day q (j + 1) ≤ lost day p (j + 1) →
    (HasRestIn day p (needed (lost day p j)) (j + 1) → HasRestIn day q (needed (lost day p j)) (j + 1)) → IsDeferral day p j → IsDeferral day q j
deferral_carried day p q j least less less_next rest h =
    let m = h.most in
    let b = h.both in
    record {
      least = least;
      most = omega arith;
      both = omega arith;
      rest = has_fewer day q (needed (lost day q j)) (needed (lost day p j)) (j + 1) (omega arith) (rest h.rest);
    }

longest_gives : (day : ℕ → ℕ) (p : List Activity) (m b j : ℕ) → IsLongest day p j b → 1 ≤ m → m ≤ b → HasRestIn day p m j
longest_gives day p m b j h l k = has_fewer day p m b j k (h.has (omega arith)).rest

-- rest after the history has a minute in the day of a later place
after_has : (day : ℕ → ℕ) (p : List Activity) (m at j : ℕ) → length p ≤ at → day at ≡ j → HasRestIn day p m j
after_has day p m at j l e = record {
  from = length p;
  to = at + m + 1;
  at = at;
  rest = λ k a b. rests_past p k a;
  long = omega arith;
  after = l;
  before = omega arith;
  of_day = e;
}

-- a rest of an earlier day that reaches up to this minute is cut, and long enough
older_has : (day : ℕ → ℕ) → AreDays day → (p : List Activity) (x : Activity) (m j : ℕ) → m ≤ NEEDED_LIMIT → j + 1 < day (length p) → HasRestIn day p m j → HasRestIn day (p ++ x ∷ []) m j
older_has day days p x m j l o h =
    let af = h.after in
    let bf = h.before in
    let lo = h.long in
    let od = h.of_day in
    elim (cases_lt (length p) h.to) [
      | inl lt ↦ (
          let far : h.at + DAY_MINUTES < length p = elim (cases_lt (h.at + DAY_MINUTES) (length p)) [
            | inl a ↦ a
            | inr a ↦ elim (cases_lt (length p) h.at) [
              | inl b ↦ (let z = days_up_to day days (length p) h.at (omega arith) in absurd (omega arith))
              | inr b ↦ (let z = days_near day days h.at (length p) b a in absurd (omega arith))
            ]
          ] in
          record {
            from = h.from;
            to = length p;
            at = h.at;
            rest = λ k a b. rest_front p x k b ∙ h.rest k a (omega arith);
            long = omega arith;
            after = af;
            before = omega arith;
            of_day = od;
          })
      | inr le ↦ record { from = h.from; to = h.to; at = h.at; rest = λ k a b. rest_front p x k (omega arith) ∙ h.rest k a b; long = lo; after = af; before = bf; of_day = od }
    ]

defer_sound : (day : ℕ → ℕ) → AreDays day → (p : List Activity) (x : Activity) (r : ℕ) (s : CanadaDays) → rests x ≡ false → IsOpenRun p r → Knows day (p ++ x ∷ []) (day (length p)) s →
    IsClocked day (p ++ x ∷ []) (day (length p)) s → AllDeferred day p → Passes s (nat_lt s.minute DAY_MINUTES) → AllDeferred day (p ++ x ∷ [])
defer_sound day days p x r s w run h clock old g j l =
    let d = day (length p) in
    let v = p ++ x ∷ [] in
    let n = length_more p x in
    elim (cases_lt d j) [
      | inl lt ↦ (let z = lost_later day v d j h.tracks.upto lt in absurd (omega arith))
      | inr le ↦ elim (cases_eq j d) [
        | inl e ↦ (
            let a : lost day v j ≡ s.today.lost = ap (lost day v) e ∙ h.tracks.lost_today in
            let b = lost_later day v d (j + 1) h.tracks.upto (omega arith) in
            let c = g.today_most in
            let f = days.whole (length p) in
            record { least = l; most = omega arith; both = omega arith; rest = after_has day v (needed (lost day v j)) (length p + DAY_MINUTES) (j + 1) (omega arith) (omega arith) })
        | inr e ↦ elim (cases_eq (j + 1) d) [
          | inl f ↦ (
              let a = h.tracks.lost_yesterday j f in
              let b : lost day v (j + 1) ≡ s.today.lost = ap (lost day v) f ∙ h.tracks.lost_today in
              let c = g.most (omega arith) in
              let k = g.both (omega arith) in
              record {
                least = l;
                most = omega arith;
                both = omega arith;
                rest = elim (cases_Bool (nat_lt s.minute DAY_MINUTES)) [
                  | inl more ↦ (
                      let same : day (length p + 1) ≡ d = elim clock [ inl z ↦ clock_last day days p x d s.minute z refl more | inr z ↦ absurd (let z0 = z.0 in omega arith) ] in
                      after_has day v (needed (lost day v j)) (length p + 1) (j + 1) (omega arith) (omega arith))
                  | inr over ↦ (
                      let t = g.rest over (omega arith) in
                      longest_gives day v (needed (lost day v j)) s.today.longest (j + 1) (subst (λ i. IsLongest day v i s.today.longest) (sym f) h.longest_today) (omega arith) (omega arith))
                ];
              })
          | inr f ↦ elim (cases_eq (j + 2) d) [
            | inl q ↦ (
                let a = h.lost_before j q in
                let b = h.tracks.lost_yesterday (j + 1) (omega arith) in
                let c = g.before_both (omega arith) in
                let t = g.before_rest (omega arith) in
                let u = lost_earlier day days p x r j w run (omega arith) in
                let o = (old j (omega arith)).most in
                record {
                  least = l;
                  most = omega arith;
                  both = omega arith;
                  rest = longest_gives day v (needed (lost day v j)) s.yesterday.longest (j + 1) (h.longest_yesterday (j + 1) (omega arith)) (omega arith) (omega arith);
                })
            | inr q ↦ (
                let a = lost_earlier day days p x r j w run (omega arith) in
                let b = lost_earlier day days p x r (j + 1) w run (omega arith) in
                let o = old j (omega arith) in
                let om = o.most in
                deferral_carried day p v j l (omega arith) (omega arith) (older_has day days p x (needed (lost day p j)) (j + 1) (omega arith) (omega arith)) o)
          ]
        ]
      ]
    ]

-- the test of a minute of duty says that the history with it is lawful, where that without it is
pub keeps_sound : (day : ℕ → ℕ) → AreDays day → (p : List Activity) (x : Activity) (r : ℕ) (s : CanadaDays) → rests x ≡ false → IsOpenRun p r → Knows day (p ++ x ∷ []) (day (length p)) s →
    IsClocked day (p ++ x ∷ []) (day (length p)) s → AllDeferred day p → keeps_defer s ≡ true → AllDeferred day (p ++ x ∷ [])
keeps_sound day days p x r s w run h clock old e = defer_sound day days p x r s w run h clock old (passes_means s e)

pub keeps_complete : (day : ℕ → ℕ) → AreDays day → (p : List Activity) (x : Activity) (s : CanadaDays) → rests x ≡ false → Knows day (p ++ x ∷ []) (day (length p)) s →
    IsClocked day (p ++ x ∷ []) (day (length p)) s → AllDeferred day (p ++ x ∷ []) → keeps_defer s ≡ true
keeps_complete day days p x s r h clock g = passes_from s (defer_complete day days p x s r h clock g)

-- # Rest, and fronts

-- rest changes nothing
pub deferred_at_rest : (day : ℕ → ℕ) (p : List Activity) (x : Activity) → rests x ≡ true → AllDeferred day p → AllDeferred day (p ++ x ∷ [])
deferred_at_rest day p x r h j l =
    let a = lost_at_rest day p x j r in
    let b = lost_at_rest day p x (j + 1) r in
    deferral_carried day p (p ++ x ∷ []) j l (omega arith) (omega arith) (λ g. rest_carried day p (p ++ x ∷ []) _ (j + 1) g (λ k e s. rest_more p x k r ∙ s)) (h j (omega arith))

-- without the last minute
pub deferred_less : (day : ℕ → ℕ) (p : List Activity) (x : Activity) → AllDeferred day (p ++ x ∷ []) → AllDeferred day p
deferred_less day p x h j l =
    let a = lost_less day p x j in
    let b = lost_less day p x (j + 1) in
    deferral_carried day (p ++ x ∷ []) p j l a b (λ g. rest_carried day (p ++ x ∷ []) p _ (j + 1) g (λ k e. rest_less p x k)) (h j (omega arith))
