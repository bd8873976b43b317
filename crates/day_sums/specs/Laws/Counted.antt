-- What the sums of a history mean: the duty of the last days since the last restart. A history is seen as its units so far, p, and `day` tells the number of
-- the day of each place.
use Rattle.std.proofs.Common.{◌≡◌, ℕ, ◌+◌, ◌-◌, ◌<◌, ◌≤◌, Bool, true, false, cond, List, [], ◌∷◌, ◌++◌, length, drop, refl, sym, ◌∙◌, ap, subst, arith, zero-add, ◌⊎◌, inl, inr, zero, suc}
use Rattle.std.specs.Prelude.{count_by}
use Rattle.std.proofs.Math.Seq.{drop-length}
use Rattle.std.proofs.lemmas.Bool.{cases_lt}
use Rattle.std.proofs.lemmas.Bool.Decides.{nat_tests}
use Rattle.std.proofs.lemmas.List.{take_all, drop-append-le}
use Rattle.std.proofs.lemmas.List.Sums.{sum_by-append}
use Rattle.duty_core.specs.declared.activity.Activity.{Activity}
use Rattle.duty_core.specs.declared.activity.Activity.TheVariants.{Drive, Serve, Wait, Off, Berth}
use Rattle.duty_core.specs.Activity.{rests, works}
use Rattle.duty_core.specs.Laws.HistoryLaws.{length-one_more, alike_back, alike_append}
use Rattle.duty_core.specs.RestRun.{IsLongRun}
use Rattle.duty_core.specs.RestRun.{EndsIn}
use Rattle.duty_core.specs.Laws.RunLaws.{ends_rest, ends_duty, run_inside, run_ends, run_is_open, no_run_at_rest, long_alike}
use Rattle.duty_core.specs.Counting.{duty, CountsInDays, IsDaysBase}
use Rattle.duty_core.specs.Laws.UniqueLaws.{days_base_unique}
use Rattle.day_sums.specs.Sums.{first_days, added, rolled, cleared}
use Rattle.day_sums.specs.Laws.SumLaws.{first_none, first_added, first_rolled, first_cleared, length-added, length-rolled, rolled_cleared, cleared_twice}
use Rattle.day_sums.specs.Counted.{IsDutyOfDays, AreDaySums, TracksDays, turned, after_rest}

-- Whether a new day begins with the unit after p.
abbrev pub IsTurn : (ℕ → ℕ) → List Activity → Bool → Type 0
IsTurn day p turn = ((turn ≡ true) × (day (length p) ≡ day (length p - 1) + 1)) ⊎ ((turn ≡ false) × (day (length p) ≡ day (length p - 1)))

count_whole : (p : List Activity) (from : ℕ) → duty p from (length p) ≡ count_by works (drop from p)
count_whole p from = ap (λ l. count_by works (drop from l)) (take_all (length p) p (omega arith))

pub count_more : (p : List Activity) (x : Activity) (from : ℕ) → from ≤ length p → duty (p ++ x ∷ []) from (length (p ++ x ∷ [])) ≡ duty p from (length p) + cond (works x) 1 0
count_more p x from l =
    count_whole (p ++ x ∷ []) from
    ∙ (ap (count_by works) (drop-append-le from p (x ∷ []) l)
    ∙ (sum_by-append (λ y. cond (works y) 1 0) (drop from p) (x ∷ [])
    ∙ (ap (λ n. count_by works (drop from p) + n) (zero-add (cond (works x) 1 0)) ∙ ap (λ n. n + cond (works x) 1 0) (sym (count_whole p from)))))

count_one : (p : List Activity) (x : Activity) → duty (p ++ x ∷ []) (length p) (length (p ++ x ∷ [])) ≡ cond (works x) 1 0
count_one p x =
    count_more p x (length p) (omega arith)
    ∙ (ap (λ n. n + cond (works x) 1 0) (count_whole p (length p) ∙ ap (count_by works) (drop-length p)) ∙ zero-add (cond (works x) 1 0))

last_place : (p : List Activity) (x : Activity) → length (p ++ x ∷ []) - 1 ≡ length p
last_place p x = omega (arith, length-one_more p x)

-- where no restart ends, the places before count as they did
counts_before : (day : ℕ → ℕ) (restart : ℕ) (p : List Activity) (x : Activity) (n m k : ℕ) → 0 < length p → day (length p) + n ≡ day (length p - 1) + m →
    ((a : ℕ) → IsLongRun restart (p ++ x ∷ []) a (length p) → ⊥) → CountsInDays day n restart p (length p - 1) k → CountsInDays day m restart (p ++ x ∷ []) (length p) k
counts_before day restart p x n m k some e none h = let b = h.before in record {
  before = omega arith;
  inside = let i = h.inside in omega arith;
  after = λ a c r l. elim (cases_lt c (length p)) [
    | inl u ↦ h.after a c (long_alike (alike_back (alike_append p (x ∷ []))) u r) (omega arith)
    | inr u ↦ absurd (none a (let q : c ≡ length p = omega arith in subst (IsLongRun restart (p ++ x ∷ []) a) q r))
  ];
}

counts_after : (day : ℕ → ℕ) (restart : ℕ) (p : List Activity) (x : Activity) (n m k : ℕ) → 0 < length p → day (length p) + n ≡ day (length p - 1) + m → k < length p →
    CountsInDays day m restart (p ++ x ∷ []) (length p) k → CountsInDays day n restart p (length p - 1) k
counts_after day restart p x n m k some e l h = record {
  before = omega arith;
  inside = let i = h.inside in omega arith;
  after = λ a c r u. h.after a c (long_alike (alike_append p (x ∷ [])) (run_inside p a c r.run) r) (omega arith);
}

-- a unit that ends no restart, in these days and one more or not
duty_on : (day : ℕ → ℕ) (restart : ℕ) (p : List Activity) (x : Activity) (n m w : ℕ) → 0 < length p → day (length p) + n ≡ day (length p - 1) + m →
    ((a : ℕ) → IsLongRun restart (p ++ x ∷ []) a (length p) → ⊥) → IsDutyOfDays day n restart p w → IsDutyOfDays day m restart (p ++ x ∷ []) (w + cond (works x) 1 0)
duty_on day restart p x n m w some e none h =
    let b = h.base.counts.before in
    record {
      from = h.from;
      base = subst (λ i. IsDaysBase day m restart (p ++ x ∷ []) i h.from) (sym (last_place p x)) (record {
        counts = counts_before day restart p x n m h.from some e none h.base.counts;
        first = λ k c. elim (cases_lt k (length p)) [
          | inl l ↦ h.base.first k (counts_after day restart p x n m k some e l c)
          | inr l ↦ omega arith
        ];
      });
      count = count_more p x h.from (omega arith) ∙ ap (λ u. u + cond (works x) 1 0) h.count;
    }

-- where no earlier place counts, duty is counted from the last unit on
duty_new : (day : ℕ → ℕ) (restart : ℕ) (p : List Activity) (x : Activity) (n : ℕ) → 0 < n → ((k : ℕ) → k < length p → CountsInDays day n restart (p ++ x ∷ []) (length p) k → ⊥) →
    IsDutyOfDays day n restart (p ++ x ∷ []) (cond (works x) 1 0)
duty_new day restart p x n some none = record {
  from = length p;
  base = subst (λ i. IsDaysBase day n restart (p ++ x ∷ []) i (length p)) (sym (last_place p x)) (record {
    counts = record { before = omega arith; inside = omega arith; after = λ a b r l. l };
    first = λ k c. elim (cases_lt k (length p)) [ inl l ↦ absurd (none k l c) | inr l ↦ l ];
  });
  count = count_one p x;
}

-- the sums after a unit that ends no restart, where no day begins
sums_on : (day : ℕ → ℕ) (restart : ℕ) (p : List Activity) (x : Activity) (sums : List ℕ) → 0 < length p → 0 < length sums → day (length p) ≡ day (length p - 1) →
    ((a : ℕ) → IsLongRun restart (p ++ x ∷ []) a (length p) → ⊥) → AreDaySums day restart p sums → AreDaySums day restart (p ++ x ∷ []) (added (cond (works x) 1 0) sums)
sums_on day restart p x sums some days e none h n pos l =
    let m : n ≤ length sums = omega (arith, length-added (cond (works x) 1 0) sums) in
    subst (IsDutyOfDays day n restart (p ++ x ∷ [])) (sym (first_added n (cond (works x) 1 0) sums pos days)) (duty_on day restart p x n n (first_days n sums) some (omega arith) none (h n pos m))

-- and where one begins
sums_turned : (day : ℕ → ℕ) (restart : ℕ) (p : List Activity) (x : Activity) (sums : List ℕ) → 0 < length p → 0 < length sums → ((j k : ℕ) → j ≤ k → day j ≤ day k) → day (length p) ≡ day (length p - 1) + 1 →
    ((a : ℕ) → IsLongRun restart (p ++ x ∷ []) a (length p) → ⊥) → AreDaySums day restart p sums → AreDaySums day restart (p ++ x ∷ []) (added (cond (works x) 1 0) (rolled sums))
sums_turned day restart p x sums some days on e none h zero pos l = absurd (omega arith)
sums_turned day restart p x sums some days on e none h (suc zero) pos l =
    let r = length-rolled sums in
    let f : first_days 1 (added (cond (works x) 1 0) (rolled sums)) ≡ cond (works x) 1 0 =
    first_added 1 (cond (works x) 1 0) (rolled sums) (omega arith) (omega arith) ∙ (ap (λ w. w + cond (works x) 1 0) (first_rolled 0 sums (omega arith) ∙ first_none sums) ∙ zero-add (cond (works x) 1 0)) in
    subst (IsDutyOfDays day 1 restart (p ++ x ∷ [])) (sym f)
    (duty_new day restart p x 1 (omega arith) (λ k u c. let i = c.inside in let z = on k (length p - 1) (omega arith) in absurd (omega arith)))
sums_turned day restart p x sums some days on e none h (suc (suc n)) pos l =
    let r = length-rolled sums in
    let m : suc (suc n) ≤ length sums = omega (arith, length-added (cond (works x) 1 0) (rolled sums)) in
    let f : first_days (suc (suc n)) (added (cond (works x) 1 0) (rolled sums)) ≡ first_days (suc n) sums + cond (works x) 1 0 =
    first_added (suc (suc n)) (cond (works x) 1 0) (rolled sums) (omega arith) (omega arith) ∙ ap (λ w. w + cond (works x) 1 0) (first_rolled (suc n) sums m) in
    subst (IsDutyOfDays day (suc (suc n)) restart (p ++ x ∷ [])) (sym f)
    (duty_on day restart p x (suc n) (suc (suc n)) (first_days (suc n) sums) some (omega arith) none (h (suc n) (omega arith) (omega arith)))

-- and where the unit ends a restart
sums_restarted : (day : ℕ → ℕ) (restart : ℕ) (p : List Activity) (x : Activity) (from : ℕ) (sums : List ℕ) → 0 < length sums → IsLongRun restart (p ++ x ∷ []) from (length p) →
    sums ≡ cleared sums → AreDaySums day restart (p ++ x ∷ []) (added (cond (works x) 1 0) sums)
sums_restarted day restart p x from sums days r e n pos l =
    let f : first_days n (added (cond (works x) 1 0) sums) ≡ cond (works x) 1 0 =
    first_added n (cond (works x) 1 0) sums pos days ∙ (ap (λ w. w + cond (works x) 1 0) (ap (first_days n) e ∙ first_cleared n sums) ∙ zero-add (cond (works x) 1 0)) in
    subst (IsDutyOfDays day n restart (p ++ x ∷ [])) (sym f)
    (duty_new day restart p x n pos (λ k u c. let z = c.after from (length p) r (omega arith) in omega arith))

works-rest : (x : Activity) → rests x ≡ true → works x ≡ false
works-rest Drive r = sym r
works-rest Serve r = sym r
works-rest Wait r = sym r
works-rest Off r = refl
works-rest Berth r = refl

works-duty : (x : Activity) → rests x ≡ false → works x ≡ true
works-duty Drive r = refl
works-duty Serve r = refl
works-duty Wait r = refl
works-duty Off r = sym r
works-duty Berth r = sym r

added_none : (sums : List ℕ) → added 0 sums ≡ sums
added_none [] = refl
added_none (x ∷ xs) = ap (λ (n : ℕ). n ∷ xs) (let z : x + 0 ≡ x = omega arith in z)

-- the sums after any unit that ends no restart
sums_after : (day : ℕ → ℕ) (restart : ℕ) (p : List Activity) (x : Activity) (turn : Bool) (sums : List ℕ) → 0 < length p → 0 < length sums → ((j k : ℕ) → j ≤ k → day j ≤ day k) → IsTurn day p turn →
    ((a : ℕ) → IsLongRun restart (p ++ x ∷ []) a (length p) → ⊥) → AreDaySums day restart p sums → AreDaySums day restart (p ++ x ∷ []) (added (cond (works x) 1 0) (turned turn sums))
sums_after day restart p x turn sums some days on t none h = elim t [
  | inl y ↦ subst (λ b. AreDaySums day restart (p ++ x ∷ []) (added (cond (works x) 1 0) (turned b sums))) (sym y.0) (sums_turned day restart p x sums some days on y.1 none h)
  | inr y ↦ subst (λ b. AreDaySums day restart (p ++ x ∷ []) (added (cond (works x) 1 0) (turned b sums))) (sym y.0) (sums_on day restart p x sums some days y.1 none h)
]

turned_cleared : (turn : Bool) (sums : List ℕ) → sums ≡ cleared sums → turned turn sums ≡ cleared (turned turn sums)
turned_cleared true sums e = rolled_cleared sums e
turned_cleared false sums e = e

pub length-turned : (turn : Bool) (sums : List ℕ) → length (turned turn sums) ≡ length sums
length-turned true sums = length-rolled sums
length-turned false sums = refl

-- # The sums after one more unit

pub tracks_duty : (day : ℕ → ℕ) (restart : ℕ) (p : List Activity) (x : Activity) (turn : Bool) (run : ℕ) (sums : List ℕ) → 0 < restart → rests x ≡ false → 0 < length sums → ((j k : ℕ) → j ≤ k → day j ≤ day k) →
    IsTurn day p turn → TracksDays day restart p run sums → TracksDays day restart (p ++ x ∷ []) 0 (added 1 (turned turn sums))
tracks_duty day restart p x turn run sums pos r days on t h = record {
  some = omega (arith, length-one_more p x);
  ends = ends_duty p x r;
  sums_are = λ z. subst (λ n. AreDaySums day restart (p ++ x ∷ []) (added n (turned turn sums))) (ap (λ b. cond b 1 0) (works-duty x r)) (elim (cases_lt run restart) [
    | inl l ↦ sums_after day restart p x turn sums h.some days on t (λ a e. let u = run_is_open p (x ∷ []) run a h.ends e.run in let v = e.long in omega arith) (h.sums_are l)
    | inr l ↦ (
        let th = h.ends.there in
        sums_restarted day restart p x (length p - run) (turned turn sums) (omega (arith, length-turned turn sums))
        (record { run = run_ends p x run r (omega arith) h.ends; long = omega arith }) (turned_cleared turn sums (h.rested l)))
  ]);
  rested = λ l. absurd (omega arith);
}

pub tracks_rest : (day : ℕ → ℕ) (restart : ℕ) (p : List Activity) (x : Activity) (turn : Bool) (run : ℕ) (sums : List ℕ) → rests x ≡ true → 0 < length sums → ((j k : ℕ) → j ≤ k → day j ≤ day k) →
    IsTurn day p turn → TracksDays day restart p run sums → TracksDays day restart (p ++ x ∷ []) (run + 1) (after_rest restart (run + 1) (turned turn sums))
tracks_rest day restart p x turn run sums r days on t h = elim (cases_lt (run + 1) restart) [
  | inl l ↦ (
      let e : after_rest restart (run + 1) (turned turn sums) ≡ turned turn sums = grind (arith, nat_tests) in
      subst (TracksDays day restart (p ++ x ∷ []) (run + 1)) (sym e) (record {
        some = omega (arith, length-one_more p x);
        ends = ends_rest p x run r h.ends;
        sums_are = λ z. subst (AreDaySums day restart (p ++ x ∷ [])) (ap (λ b. added (cond b 1 0) (turned turn sums)) (works-rest x r) ∙ added_none (turned turn sums))
            (sums_after day restart p x turn sums h.some days on t (λ a g. no_run_at_rest p x a r g.run) (h.sums_are (omega arith)));
        rested = λ m. absurd (omega arith);
      }))
  | inr l ↦ (
      let e : after_rest restart (run + 1) (turned turn sums) ≡ cleared (turned turn sums) = grind (arith, nat_tests) in
      subst (TracksDays day restart (p ++ x ∷ []) (run + 1)) (sym e) (record {
        some = omega (arith, length-one_more p x);
        ends = ends_rest p x run r h.ends;
        sums_are = λ z. absurd (omega arith);
        rested = λ m. cleared_twice (turned turn sums);
      }))
]

-- rest alone, that is a restart
pub tracks_start : (day : ℕ → ℕ) (restart run : ℕ) (p : List Activity) (sums : List ℕ) → 0 < length p → restart ≤ run → EndsIn p run → sums ≡ cleared sums → TracksDays day restart p run sums
tracks_start day restart run p sums some long ends e = record { some = some; ends = ends; sums_are = λ l. absurd (omega arith); rested = λ l. e }

-- # What the sums say of the limits

-- from any place from which the duty of the days is counted, it is what the sums say
pub duty_is : (day : ℕ → ℕ) (restart : ℕ) (p : List Activity) (n from w : ℕ) → IsDutyOfDays day n restart p w → IsDaysBase day n restart p (length p - 1) from → duty p from (length p) ≡ w
duty_is day restart p n from w h b = ap (λ f. duty p f (length p)) (days_base_unique day n restart p (length p - 1) from h.from b h.base) ∙ h.count
