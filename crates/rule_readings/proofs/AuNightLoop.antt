-- Counting the nights of a period, midnight by midnight.
use Rattle.std.proofs.Common.{◌≡◌, ℕ, ◌+◌, ◌-◌, ◌*◌, ◌<◌, ◌≤◌, ◌⊎◌, ◌||◌, Bool, true, false, List, [], ◌∷◌, ◌++◌, length, length-append, get_or, take, sym, ◌∙◌, subst, refl, arith, inl, inr}
use Rattle.std.specs.List.{All, AllPairs}
use Rattle.std.proofs.lemmas.Bool.{cases_lt, or_cases, or_left, or_right}
use Rattle.std.proofs.lemmas.List.{get_or-take, length-take-le}
use Rattle.std.proofs.lemmas.List.Elements.{All-push}
use Rattle.std.proofs.lemmas.List.Kept.{AllPairs-from_increasing}
use Rattle.std.proofs.lemmas.List.Quantifiers.{all_pairs_push}
use Rattle.duty_core.specs.declared.activity.Activity.{Activity}
use Rattle.duty_core.specs.declared.limits.TheConstants.{AU_NIGHT_BEFORE, AU_NIGHT_AFTER}
use Rattle.duty_core.specs.declared.params.Params.TheVariants.{Hvnl}
use Rattle.duty_core.specs.Params.{unit_minutes, day_units}
use Rattle.duty_core.specs.AuNights.{IsMidnight, HasBreak, IsBrokenNight}
use Rattle.rule_readings.specs.AuNightCounts.{IsNextMidnight, AreNights}
use Rattle.rule_readings.proofs.AuNightLaws.{midnights_apart, midnight_after}

-- a night with a break of the n units from place i on, whose midnight lies before place m
pub record IsBrokenBefore (first : ℕ) (p : List Activity) (i n m night : ℕ) : Type 0 where
  pub broken : IsBrokenNight first p i n night
  pub before : night < m

-- Of the nights of the n units from place i on whose midnight lies before the midnight m, so many have a break, and some two consecutive ones have one each, and the last of them.
pub record AreNightsYet (first : ℕ) (p : List Activity) (i n m broken : ℕ) (consecutive last : Bool) : Type 0 where
  pub midnight : IsMidnight first m
  pub after : i + AU_NIGHT_BEFORE ≤ m
  pub small : broken ≤ m
  pub nights : List ℕ
  pub apart : AllPairs (λ a b. a < b) nights
  pub count : length nights ≡ broken
  pub each : All (IsBrokenBefore first p i n m) nights
  pub most : (list : List ℕ) → AllPairs (λ a b. a < b) list → All (IsBrokenBefore first p i n m) list → length list ≤ broken
  pub last_is : last ≡ true → (night : ℕ) × (night + day_units Hvnl ≡ m) × IsBrokenNight first p i n night
  pub is_last : (night : ℕ) → night + day_units Hvnl ≡ m → IsBrokenNight first p i n night → last ≡ true
  pub two_are : consecutive ≡ true → (night : ℕ) × (night + day_units Hvnl < m) × IsBrokenNight first p i n night × IsBrokenNight first p i n (night + day_units Hvnl)
  pub are_two : (night : ℕ) → night + day_units Hvnl < m → IsBrokenNight first p i n night → IsBrokenNight first p i n (night + day_units Hvnl) → consecutive ≡ true

-- no night of the period lies before the first midnight that may
none_before : (first units : ℕ) (p : List Activity) (i n m night : ℕ) → first ≡ unit_minutes Hvnl * units → IsNextMidnight first (i + AU_NIGHT_BEFORE) m → IsBrokenNight first p i n night → night < m → ⊥
none_before first units p i n m night f h b l =
    let a = midnights_apart first units night m f b.0.midnight h.midnight l in
    let c = b.0.begins in
    let d = h.near in
    omega arith

no_list : (P : ℕ → Type 0) (list : List ℕ) → ((k : ℕ) → P k → ⊥) → All P list → length list ≤ 0
no_list P [] h all = omega arith
no_list P (x ∷ xs) h all = absurd (h x (all 0 0 (omega arith)))

pub nights_none : (first units : ℕ) (p : List Activity) (i n m : ℕ) → first ≡ unit_minutes Hvnl * units → IsNextMidnight first (i + AU_NIGHT_BEFORE) m → AreNightsYet first p i n m 0 false false
nights_none first units p i n m f h = record {
  midnight = h.midnight;
  after = h.after;
  small = omega arith;
  nights = [];
  apart = λ a b d x y. absurd (omega arith);
  count = refl;
  each = λ k d l. absurd (omega arith);
  most = λ list a b. no_list (IsBrokenBefore first p i n m) list (λ k c. none_before first units p i n m k f h c.broken c.before) b;
  last_is = λ e. absurd (cc);
  is_last = λ night e b. absurd (none_before first units p i n m night f h b (omega arith));
  two_are = λ e. absurd (cc);
  are_two = λ night e b c. absurd (none_before first units p i n m night f h b (omega arith));
}

-- a night before the midnight after m is m or lies before it
night_cases : (first units : ℕ) (p : List Activity) (i n m night : ℕ) → first ≡ unit_minutes Hvnl * units → IsMidnight first m → IsBrokenNight first p i n night → night < m + day_units Hvnl → (night < m) ⊎ (night ≡ m)
night_cases first units p i n m night f h b l = elim (cases_lt night m) [
  | inl c ↦ inl c
  | inr c ↦ elim (cases_lt m night) [
    | inl d ↦ absurd (let a = midnights_apart first units m night f h b.0.midnight d in omega arith)
    | inr d ↦ inr (omega arith)
  ]
]

-- all but the last of a list whose nights lie before the midnight after m lie before m
front_before : (first units : ℕ) (p : List Activity) (i n m : ℕ) (list : List ℕ) → first ≡ unit_minutes Hvnl * units → IsMidnight first m → AllPairs (λ a b. a < b) list → All (IsBrokenBefore first p i n (m + day_units Hvnl)) list →
    (k d : ℕ) → k + 1 < length list → IsBrokenBefore first p i n m (get_or list k d)
front_before first units p i n m list f h apart all k d l =
    let a = all k d (omega arith) in
    let b = all (k + 1) d l in
    let c = apart k (k + 1) d (omega arith) l in
    let e = b.before in
    record {
      broken = a.broken;
      before = elim (night_cases first units p i n m (get_or list k d) f h a.broken a.before) [
        | inl x ↦ x
        | inr x ↦ absurd (let y = midnights_apart first units m (get_or list (k + 1) d) f h b.broken.0.midnight (omega arith) in omega arith)
      ];
    }

most_with : (first units : ℕ) (p : List Activity) (i n m broken : ℕ) → first ≡ unit_minutes Hvnl * units → IsMidnight first m →
    ((list : List ℕ) → AllPairs (λ a b. a < b) list → All (IsBrokenBefore first p i n m) list → length list ≤ broken) →
    (list : List ℕ) → AllPairs (λ a b. a < b) list → All (IsBrokenBefore first p i n (m + day_units Hvnl)) list → length list ≤ broken + 1
most_with first units p i n m broken f h most list apart all =
    let size : length (take (length list - 1) list) ≡ length list - 1 = length-take-le (length list - 1) list (omega arith) in
    let front = most (take (length list - 1) list)
    (λ a b d x y. (let u = get_or-take (length list - 1) list a d (omega arith) in let v = get_or-take (length list - 1) list b d (omega arith) in let w = apart a b d x (omega arith) in omega arith))
    (λ k d l. subst (IsBrokenBefore first p i n m) (sym (get_or-take (length list - 1) list k d (omega arith))) (front_before first units p i n m list f h apart all k d (omega arith))) in
    omega arith

most_without : (first units : ℕ) (p : List Activity) (i n m broken : ℕ) → first ≡ unit_minutes Hvnl * units → IsMidnight first m → (HasBreak p m → ⊥) →
    ((list : List ℕ) → AllPairs (λ a b. a < b) list → All (IsBrokenBefore first p i n m) list → length list ≤ broken) →
    (list : List ℕ) → AllPairs (λ a b. a < b) list → All (IsBrokenBefore first p i n (m + day_units Hvnl)) list → length list ≤ broken
most_without first units p i n m broken f h none most list apart all = most list apart (λ k d l.
    (let a = all k d l in
    record {
      broken = a.broken;
      before = elim (night_cases first units p i n m (get_or list k d) f h a.broken a.before) [
        | inl x ↦ x
        | inr x ↦ absurd (none (subst (HasBreak p) x a.broken.1))
      ];
    }))

longer : (first : ℕ) (p : List Activity) (i n m : ℕ) (list : List ℕ) → All (IsBrokenBefore first p i n m) list → All (IsBrokenBefore first p i n (m + day_units Hvnl)) list
longer first p i n m list all k d l = let a = all k d l in let b = a.before in record { broken = a.broken; before = omega arith }

-- one more night, which has a break
pub nights_with : (first units : ℕ) (p : List Activity) (i n m broken now : ℕ) (consecutive last then : Bool) → first ≡ unit_minutes Hvnl * units → m + AU_NIGHT_AFTER ≤ i + n → HasBreak p m →
    now ≡ broken + 1 → then ≡ (consecutive || last) →
    AreNightsYet first p i n m broken consecutive last → AreNightsYet first p i n (m + day_units Hvnl) now then true
nights_with first units p i n m broken now consecutive last then f e b g t y =
    let h = y.midnight in
    let after = y.after in
    let small = y.small in
    let count = y.count in
    let this : IsBrokenNight first p i n m = (record { midnight = h; begins = after; ends = e }, b) in
    record {
      midnight = midnight_after first units m f h;
      after = omega arith;
      small = omega arith;
      nights = y.nights ++ m ∷ [];
      apart = all_pairs_push (λ a b. a < b) y.nights m y.apart (λ k d l. (y.each k d l).before);
      count = omega (arith, length-append y.nights (m ∷ []));
      each = All-push (IsBrokenBefore first p i n (m + day_units Hvnl)) y.nights m (longer first p i n m y.nights y.each) (record { broken = this; before = omega arith });
      most = λ list a c. (let w = most_with first units p i n m broken f h y.most list a c in omega arith);
      last_is = λ z. (m, refl, this);
      is_last = λ night z w. refl;
      two_are = λ z. elim (or_cases consecutive last (sym t ∙ z)) [
        | inl c ↦ (let d = y.two_are c in let l = d.1 in (d.0, omega arith, d.2, d.3))
        | inr c ↦ (let d = y.last_is c in (d.0, omega (arith, d.1), d.2, subst (IsBrokenNight first p i n) (sym d.1) this))
      ];
      are_two = λ night l u v. t ∙ elim (night_cases first units p i n m (night + day_units Hvnl) f h v l) [
        | inl c ↦ or_left consecutive last (y.are_two night c u v)
        | inr c ↦ or_right consecutive last (y.is_last night c u)
      ];
    }

-- one more night, which has none
pub nights_without : (first units : ℕ) (p : List Activity) (i n m broken : ℕ) (consecutive last : Bool) → first ≡ unit_minutes Hvnl * units → (HasBreak p m → ⊥) →
    AreNightsYet first p i n m broken consecutive last → AreNightsYet first p i n (m + day_units Hvnl) broken consecutive false
nights_without first units p i n m broken consecutive last f none y =
    let h = y.midnight in
    let after = y.after in
    let small = y.small in
    record {
      midnight = midnight_after first units m f h;
      after = omega arith;
      small = omega arith;
      nights = y.nights;
      apart = y.apart;
      count = y.count;
      each = longer first p i n m y.nights y.each;
      most = most_without first units p i n m broken f h none y.most;
      last_is = λ z. absurd (cc);
      is_last = λ night z w. absurd (none (let q : night ≡ m = omega arith in subst (HasBreak p) q w.1));
      two_are = λ z. (let d = y.two_are z in let l = d.1 in (d.0, omega arith, d.2, d.3));
      are_two = λ night l u v. elim (night_cases first units p i n m (night + day_units Hvnl) f h v l) [
        | inl c ↦ y.are_two night c u v
        | inr c ↦ absurd (none (subst (HasBreak p) c v.1))
      ];
    }

-- the same, as the loop has it
pub moved : (first : ℕ) (p : List Activity) (i n m day broken : ℕ) (consecutive last now : Bool) → day ≡ day_units Hvnl → now ≡ last → AreNightsYet first p i n (m + day_units Hvnl) broken consecutive last → AreNightsYet first p i n (m + day) broken consecutive now
moved first p i n m day broken consecutive last now d e y = subst (λ k. AreNightsYet first p i n (m + k) broken consecutive now) (sym d) (subst (λ b. AreNightsYet first p i n (m + day_units Hvnl) broken consecutive b) (sym e) y)

-- a night of the period lies before a midnight that no longer does
ends_before : (first : ℕ) (p : List Activity) (i n m night : ℕ) → i + n < m + AU_NIGHT_AFTER → IsBrokenNight first p i n night → night < m
ends_before first p i n m night l b = let c = b.0.ends in omega arith

-- all of the period's nights
pub nights_all : (first : ℕ) (p : List Activity) (i n m broken : ℕ) (consecutive last : Bool) → i + n < m + AU_NIGHT_AFTER → AreNightsYet first p i n m broken consecutive last →
    AreNights first p i n (record { broken = broken; consecutive = consecutive })
nights_all first p i n m broken consecutive last l y = record {
  broken = record {
    nights = y.nights;
    apart = λ k h. y.apart k (k + 1) 0 (omega arith) h;
    enough = let c = y.count in omega arith;
    broken = λ k d h. (y.each k d h).broken;
  };
  most = λ least h. (let e = h.enough in
      let a = y.most h.nights (AllPairs-from_increasing h.nights h.apart) (λ k d g. record { broken = h.broken k d g; before = ends_before first p i n m (get_or h.nights k d) l (h.broken k d g) }) in
      omega arith);
  consecutive = (
    (λ z. (let d = y.two_are z in record { night = d.0; one = d.2; next = d.3 })),
    (λ h. y.are_two h.night (ends_before first p i n m (h.night + day_units Hvnl) l h.next) h.one h.next),
  );
}
