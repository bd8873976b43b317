-- The counts of the day mean the two rules of a day.
use Rattle.std.proofs.Common.{◌≡◌, ℕ, ◌+◌, ◌-◌, ◌<◌, ◌≤◌, Bool, true, false, cond, List, [], ◌∷◌, ◌++◌, length, take, drop, refl, sym, ◌∙◌, ap, subst, arith, zero-add, inl, inr, zero, suc}
use Rattle.std.specs.Prelude.{count_by, replicate, nat_le, ◌&&◌}
use Rattle.std.proofs.Math.Seq.{drop-length}
use Rattle.std.proofs.lemmas.Bool.{cases_lt, cond-true, cond-false}
use Rattle.std.proofs.lemmas.Bool.Decides.{nat_tests}
use Rattle.std.proofs.lemmas.List.{take_all, drop-append-le}
use Rattle.std.proofs.lemmas.List.Sums.{sum_by-append, sum_by-cons}
use Rattle.duty_core.specs.declared.activity.Activity.{Activity}
use Rattle.duty_core.specs.declared.activity.Activity.TheVariants.{Drive, Serve, Wait, Off, Berth}
use Rattle.duty_core.specs.declared.params.RestWay.{RestWay}
use Rattle.duty_core.specs.declared.params.RestWay.TheVariants.{Split}
use Rattle.duty_core.specs.declared.params.Params.TheVariants.{Canada}
use Rattle.duty_core.specs.declared.limits.TheConstants.{PADDING_MINUTES, DAY_MINUTES, CA_DAY_DRIVING_LIMIT, CA_DAY_DUTY_LIMIT}
use Rattle.duty_core.specs.Activity.{drives, works}
use Rattle.duty_core.specs.History.{pad_units, padding}
use Rattle.duty_core.specs.Laws.HistoryLaws.{IsRule, unit_at-last, length-one_more}
use Rattle.duty_core.specs.Day.{IsFirstOfDays}
use Rattle.duty_core.specs.Counting.{driving, duty}
use Rattle.duty_core.specs.Laws.UniqueLaws.{first_of_days_unique}
use Rattle.duty_core.specs.Laws.CountBaseLaws.{has_first_at}
use Rattle.duty_core.specs.Laws.RuleLaws.{ca_day13_is_rule, ca_day14_is_rule}
use Rattle.duty_core.specs.CaDay.{MeetsCaDay13, MeetsCaDay14}
use Rattle.rule_core.specs.Laws.Guard.{not_driving, IsGuard}
use Rattle.cycles_deferral.specs.Paths.{begins}
use Rattle.cycles_deferral.specs.Laws.Tracks.{days_up_to}
use Rattle.cycles_deferral.specs.Laws.CountryDays.{ca_day, are_days}
use Rattle.canada_rules.specs.declared.state.DayDuty.{DayDuty}
use Rattle.canada_rules.specs.Machine.{begins_day, day_made, day_more, day_after, day_ok}
use Rattle.canada_rules.specs.Laws.Padding.{after_is, length_padding, place_begins}

-- both rules of a day
abbrev pub MeetsDay : (ℕ → ℕ) → List Activity → ℕ → Type 0
MeetsDay day p i = MeetsCaDay13 day p i × MeetsCaDay14 day p i

pub meets_day_is_rule : (day : ℕ → ℕ) → IsRule (MeetsDay day)
meets_day_is_rule day = let a = ca_day13_is_rule day in let b = ca_day14_is_rule day in record {
  local = λ p q i n g l h. (a.local p q i n g l h.0, b.local p q i n g l h.1);
  idle = λ p i e. (a.idle p i e, b.idle p i e);
}

-- the driving and the duty of the day of the last unit
pub record TracksDay (start first : ℕ) (p : List Activity) (d : DayDuty) : Type 0 where
  pub from : ℕ
  pub some : 1 ≤ length p
  pub base : IsFirstOfDays (ca_day start first) 1 (length p - 1) from
  pub drove : count_by drives (drop from p) ≡ d.driving
  pub worked : count_by works (drop from p) ≡ d.duty

-- the first place of a day is none of a later day
inside : (start first : ℕ) (p : List Activity) (d : DayDuty) (t : TracksDay start first p d) → t.from ≤ length p - 1
inside start first p d t = t.base.first (length p - 1) (omega arith)

one_more : (test : Activity → Bool) (p : List Activity) (x : Activity) (b : ℕ) → b ≤ length p → count_by test (drop b (p ++ x ∷ [])) ≡ count_by test (drop b p) + cond (test x) 1 0
one_more test p x b l =
    ap (count_by test) (drop-append-le b p (x ∷ []) l)
    ∙ (sum_by-append (λ y. cond (test y) 1 0) (drop b p) (x ∷ []) ∙ ap (λ n. count_by test (drop b p) + n) (zero-add (cond (test x) 1 0)))

none_after : (test : Activity → Bool) (p : List Activity) → count_by test (drop (length p) p) ≡ 0
none_after test p = ap (count_by test) (drop-length p)

-- at a place of the same day, and at one that begins a day
same_day : (start first : ℕ) (p : List Activity) (x : Activity) (d : DayDuty) → ca_day start first (length p - 1) ≡ ca_day start first (length p) → TracksDay start first p d →
    TracksDay start first (p ++ x ∷ []) (day_more x d)
same_day start first p x d e t =
    let z = length-one_more p x in
    let i = inside start first p d t in
    let some = t.some in
    let last : length p ≡ length (p ++ x ∷ []) - 1 = omega arith in
    record {
      from = t.from;
      some = omega arith;
      base = subst (λ k. IsFirstOfDays (ca_day start first) 1 k t.from) last (record {
        inside = subst (λ k. k < ca_day start first t.from + 1) e t.base.inside;
        first = λ k l. t.base.first k (subst (λ j. j < ca_day start first k + 1) (sym e) l);
      });
      drove = one_more drives p x t.from (omega arith) ∙ ap (λ n. n + cond (drives x) 1 0) t.drove;
      worked = one_more works p x t.from (omega arith) ∙ ap (λ n. n + cond (works x) 1 0) t.worked;
    }

days_in_order : (start first i n : ℕ) → i ≤ n → ca_day start first i ≤ ca_day start first n
days_in_order start first i n l = days_up_to (ca_day start first) (are_days true Split 1 start first) i n l

new_day : (start first : ℕ) (p : List Activity) (x : Activity) → 1 ≤ length p → ca_day start first (length p - 1) < ca_day start first (length p) → TracksDay start first (p ++ x ∷ []) (day_more x (day_made 0 0))
new_day start first p x some l =
    let z = length-one_more p x in
    let last : length p ≡ length (p ++ x ∷ []) - 1 = omega arith in
    record {
      from = length p;
      some = omega arith;
      base = subst (λ k. IsFirstOfDays (ca_day start first) 1 k (length p)) last (record {
        inside = omega arith;
        first = λ k g. elim (cases_lt k (length p)) [
          | inl less ↦ (let o = days_in_order start first k (length p - 1) (omega arith) in absurd (omega arith))
          | inr more ↦ more
        ];
      });
      drove = one_more drives p x (length p) (omega arith) ∙ ap (λ n. n + cond (drives x) 1 0) (none_after drives p);
      worked = one_more works p x (length p) (omega arith) ∙ ap (λ n. n + cond (works x) 1 0) (none_after works p);
    }

day_goes : (start first : ℕ) (p : List Activity) (d : DayDuty) (at : ℕ) (x : Activity) → start ≤ DAY_MINUTES → at + PADDING_MINUTES ≡ first + length p → TracksDay start first p d →
    TracksDay start first (p ++ x ∷ []) (day_after start d at x)
day_goes start first p d at x least e t =
    let some = t.some in
    let same = place_begins start first (length p) at least some e in
    let o = days_in_order start first (length p - 1) (length p) (omega arith) in
    elim (cases_lt (ca_day start first (length p - 1)) (ca_day start first (length p))) [
      | inl l ↦ (
          let b : begins_day start at ≡ true = sym same ∙ (let k : begins (ca_day start first) (length p) ≡ true = grind (arith, nat_tests) in k) in
          subst (λ c. TracksDay start first (p ++ x ∷ []) (day_more x c)) (sym (cond-true (begins_day start at) (day_made 0 0) d b)) (new_day start first p x some l))
      | inr l ↦ (
          let b : begins_day start at ≡ false = sym same ∙ (let k : begins (ca_day start first) (length p) ≡ false = grind (arith, nat_tests) in k) in
          subst (λ c. TracksDay start first (p ++ x ∷ []) (day_more x c)) (sym (cond-false (begins_day start at) (day_made 0 0) d b))
          (same_day start first p x d (omega arith) t))
    ]

-- what is counted from the first place of the day
counted : (test : Activity → Bool) (p : List Activity) (from n : ℕ) → count_by test (drop from (p ++ Drive ∷ [])) ≡ n → count_by test (drop from (take (length p + 1) (p ++ Drive ∷ []))) ≡ n
counted test p from n e = ap (λ l. count_by test (drop from l)) (take_all (length p + 1) (p ++ Drive ∷ []) (omega (arith, length-one_more p Drive))) ∙ e

record HasDay (start first : ℕ) (p : List Activity) (d : DayDuty) : Type 0 where
  base : ℕ
  is_base : IsFirstOfDays (ca_day start first) 1 (length p) base
  drove : (from : ℕ) → IsFirstOfDays (ca_day start first) 1 (length p) from → driving (p ++ Drive ∷ []) from (length p + 1) ≡ d.driving
  worked : (from : ℕ) → IsFirstOfDays (ca_day start first) 1 (length p) from → duty (p ++ Drive ∷ []) from (length p + 1) ≡ d.duty

has_day : (start first : ℕ) (p : List Activity) (d : DayDuty) → TracksDay start first (p ++ Drive ∷ []) d → HasDay start first p d
has_day start first p d t =
    let z = length-one_more p Drive in
    let last : length (p ++ Drive ∷ []) - 1 ≡ length p = omega arith in
    let b : IsFirstOfDays (ca_day start first) 1 (length p) t.from = subst (λ k. IsFirstOfDays (ca_day start first) 1 k t.from) last t.base in
    let one : (from : ℕ) → IsFirstOfDays (ca_day start first) 1 (length p) from → t.from ≡ from = λ from g. first_of_days_unique (ca_day start first) 1 (length p) t.from from b g in
    record {
      base = t.from;
      is_base = b;
      drove = λ from g. subst (λ f. driving (p ++ Drive ∷ []) f (length p + 1) ≡ d.driving) (one from g) (counted drives p t.from d.driving t.drove);
      worked = λ from g. subst (λ f. duty (p ++ Drive ∷ []) f (length p + 1) ≡ d.duty) (one from g) (counted works p t.from d.duty t.worked);
    }

both_within : (a b m n : ℕ) → (nat_le a m && nat_le b n) ≡ true → (a ≤ m) × (b ≤ n)
both_within a b m n h = (grind (arith, nat_tests), grind (arith, nat_tests))

within_both : (a b m n : ℕ) → a ≤ m → b ≤ n → (nat_le a m && nat_le b n) ≡ true
within_both a b m n h g = grind (arith, nat_tests)

day_sound : (start first : ℕ) (p : List Activity) (d : DayDuty) (at : ℕ) (x : Activity) → TracksDay start first (p ++ x ∷ []) (day_after start d at x) → day_ok start d at x ≡ true →
    MeetsDay (ca_day start first) (p ++ x ∷ []) (length p)
day_sound start first p d at Drive t ok =
    let h = has_day start first p (day_after start d at Drive) t in
    let l = both_within (day_after start d at Drive).driving (day_after start d at Drive).duty CA_DAY_DRIVING_LIMIT CA_DAY_DUTY_LIMIT ok in (
      (λ u from b. let e = h.drove from b in let m = l.0 in omega arith),
      (λ u from b. let e = h.worked from b in let m = l.1 in omega arith),
    )
day_sound start first p d at Serve t ok = ((λ u. absurd (not_driving p Serve refl u)), (λ u. absurd (not_driving p Serve refl u)))
day_sound start first p d at Wait t ok = ((λ u. absurd (not_driving p Wait refl u)), (λ u. absurd (not_driving p Wait refl u)))
day_sound start first p d at Off t ok = ((λ u. absurd (not_driving p Off refl u)), (λ u. absurd (not_driving p Off refl u)))
day_sound start first p d at Berth t ok = ((λ u. absurd (not_driving p Berth refl u)), (λ u. absurd (not_driving p Berth refl u)))

day_complete : (start first : ℕ) (p : List Activity) (d : DayDuty) (at : ℕ) (x : Activity) → TracksDay start first (p ++ x ∷ []) (day_after start d at x) →
    MeetsDay (ca_day start first) (p ++ x ∷ []) (length p) → day_ok start d at x ≡ true
day_complete start first p d at Drive t g =
    let h = has_day start first p (day_after start d at Drive) t in
    let last = unit_at-last p Drive in
    let a = g.0 last h.base h.is_base in
    let b = g.1 last h.base h.is_base in
    let e = h.drove h.base h.is_base in
    let f = h.worked h.base h.is_base in
    within_both (day_after start d at Drive).driving (day_after start d at Drive).duty CA_DAY_DRIVING_LIMIT CA_DAY_DUTY_LIMIT (omega arith) (omega arith)
day_complete start first p d at Serve t g = refl
day_complete start first p d at Wait t g = refl
day_complete start first p d at Off t g = refl
day_complete start first p d at Berth t g = refl

pub day_is_guard : (berth : Bool) (way : RestWay) (cycle start first : ℕ) → start ≤ DAY_MINUTES →
    IsGuard (Canada berth way cycle start) first (MeetsDay (ca_day start first)) (TracksDay start first) (day_ok start) (day_after start)
day_is_guard berth way cycle start first least = record {
  rule = meets_day_is_rule (ca_day start first);
  on = λ p c at x e t. day_goes start first p c at x least (after_is berth way cycle start first p at e) t;
  sound = λ p c at x e t ok. day_sound start first p c at x (day_goes start first p c at x least (after_is berth way cycle start first p at e) t) ok;
  complete = λ p c at x e t g. day_complete start first p c at x (day_goes start first p c at x least (after_is berth way cycle start first p at e) t) g;
}

none_counted : (test : Activity → Bool) (n k : ℕ) → test Off ≡ false → count_by test (drop k (replicate n Off)) ≡ 0
none_counted test zero zero e = refl
none_counted test zero (suc k) e = refl
none_counted test (suc n) zero e = sum_by-cons (λ x. cond (test x) 1 0) Off (replicate n Off) ∙ (let a = cond-false {A = ℕ} (test Off) 1 0 e in let b = none_counted test n zero e in omega arith)
none_counted test (suc n) (suc k) e = none_counted test n k e

-- the rest before a history
pub tracks_day_root : (berth : Bool) (way : RestWay) (cycle start first : ℕ) → TracksDay start first (padding (Canada berth way cycle start)) (day_made 0 0)
tracks_day_root berth way cycle start first =
    let params = Canada berth way cycle start in
    let p : List Activity = padding params in
    let len = length_padding berth way cycle start in
    let f = has_first_at params first 1 (length p - 1) (omega arith) in
    record {
      from = f.0;
      some = omega arith;
      base = f.1;
      drove = none_counted drives (pad_units params) f.0 refl;
      worked = none_counted works (pad_units params) f.0 refl;
    }
