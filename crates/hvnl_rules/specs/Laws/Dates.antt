-- Dates, nights and their places.
use Rattle.std.proofs.Common.{◌≡◌, ℕ, zero, suc, ◌+◌, ◌-◌, ◌*◌, ◌<◌, ◌≤◌, Bool, true, false, ◌||◌, cond, List, [], ◌∷◌, ◌++◌, length, get_or, refl, sym, ◌∙◌, ap, arith, inl, inr}
use Rattle.std.specs.Prelude.{ℤ, pos, negsuc, ◌-ℤ◌, ◌*ℤ◌, All, filter, count_by, nat_eq}
use Rattle.std.specs.List.{list_all, list_any, AllPairs}
use Rattle.std.proofs.lemmas.Bool.{cases_lt, cases_Bool, and_parts, and_from, or_cases, or_left, or_right}
use Rattle.std.proofs.lemmas.Bool.Decides.{nat_tests}
use Rattle.std.proofs.lemmas.Int.{ints}
use Rattle.std.proofs.lemmas.List.Sums.{sum_by-cons, sum_by_push}
use Rattle.std.proofs.lemmas.List.Elements.{All-nil, All-cons, All-head, All-tail}
use Rattle.duty_core.specs.declared.params.Params.TheVariants.{Hvnl}
use Rattle.duty_core.specs.declared.limits.TheConstants.{DAY_MINUTES, AU_14D_PERIOD}
use Rattle.duty_core.specs.History.{pad_units}
use Rattle.duty_core.specs.AuNights.{IsMidnight, IsNightOf}
use Rattle.rule_core.specs.Reach.{IsOneOf}
use Rattle.hvnl_rules.specs.Nights.{minutes, dates_from, first_date, end_date}

-- the minute at which place i begins
abbrev pub IsMinuteAt : ℕ → ℕ → ℕ → Type 0
IsMinuteAt first i at = at + minutes (pad_units Hvnl) ≡ first + minutes i

-- the date that begins at place m
abbrev pub IsDateAt : ℕ → ℕ → ℕ → Type 0
IsDateAt first m date = DAY_MINUTES * date + minutes (pad_units Hvnl) ≡ first + minutes m

date_by : (first m : ℕ) (date : ℤ) → pad_units Hvnl ≤ m → pos (first + 15 * m) -ℤ pos (15 * pad_units Hvnl) ≡ date *ℤ pos 1440 → (d : ℕ) × IsDateAt first m d
date_by first m (pos n) l e = (n, omega (arith, ints))
date_by first m (negsuc n) l e = absurd (omega (arith, ints))

pub midnight_date : (first m : ℕ) → pad_units Hvnl ≤ m → IsMidnight first m → (d : ℕ) × IsDateAt first m d
midnight_date first m l h = date_by first m h.0 l h.1

pub date_midnight : (first m d : ℕ) → IsDateAt first m d → IsMidnight first m
date_midnight first m d e = (pos d, omega (arith, ints))

-- the place of a date
abbrev pub place_of : ℕ → ℕ → ℕ
place_of units d = 96 * d + pad_units Hvnl - units

pub place_date : (first units d : ℕ) → first ≡ 15 * units → units ≤ 96 * d + pad_units Hvnl → IsDateAt first (place_of units d) d
place_date first units d f l = omega arith

-- # The dates of a period

-- the night of date d, whose midnight is place m, lies in the period from place i on
pub night_means : (first i m d start : ℕ) → IsMinuteAt first i start → IsDateAt first m d → IsNightOf first i AU_14D_PERIOD m → (first_date start ≤ d) × (d < end_date start)
night_means first i m d start s e h = let a = h.begins in let b = h.ends in (omega arith, omega arith)

pub means_night : (first i m d start : ℕ) → IsMinuteAt first i start → IsDateAt first m d → first_date start ≤ d → d < end_date start → IsNightOf first i AU_14D_PERIOD m
means_night first i m d start s e a b = record { midnight = date_midnight first m d e; begins = omega arith; ends = omega arith }

-- # Lists of numbers

pub dated_one : (ds : List ℕ) (d : ℕ) → list_any (nat_eq d) ds ≡ true → IsOneOf ds d
dated_one [] d e = absurd (cc)
dated_one (k ∷ ds) d e = elim (or_cases (nat_eq d k) (list_any (nat_eq d) ds) e) [ inl a ↦ inl (grind (arith, nat_tests)) | inr b ↦ inr (dated_one ds d b) ]

pub one_dated : (ds : List ℕ) (d : ℕ) → IsOneOf ds d → list_any (nat_eq d) ds ≡ true
one_dated [] d o = absurd o
one_dated (k ∷ ds) d o = elim o [ inl e ↦ or_left (nat_eq d k) (list_any (nat_eq d) ds) (grind (arith, nat_tests)) | inr r ↦ or_right (nat_eq d k) (list_any (nat_eq d) ds) (one_dated ds d r) ]

pub any_one : {X : Type 0} (t : X → Bool) (xs : List X) → list_any t xs ≡ true → (x : X) × IsOneOf xs x × (t x ≡ true)
any_one t [] e = absurd (cc)
any_one t (x ∷ xs) e = elim (or_cases (t x) (list_any t xs) e) [ inl a ↦ (x, inl refl, a) | inr b ↦ (let q = any_one t xs b in (q.0, inr q.1, q.2)) ]

pub one_any : {X : Type 0} (t : X → Bool) (xs : List X) (x : X) → IsOneOf xs x → t x ≡ true → list_any t xs ≡ true
one_any t [] x o e = absurd o
one_any t (y ∷ xs) x o e = elim o [ inl s ↦ or_left (t y) (list_any t xs) (ap t s ∙ e) | inr r ↦ or_right (t y) (list_any t xs) (one_any t xs x r e) ]

pub all_one : {X : Type 0} (t : X → Bool) (xs : List X) → list_all t xs ≡ true → (x : X) → IsOneOf xs x → t x ≡ true
all_one t [] e x o = absurd o
all_one t (y ∷ xs) e x o = let b = and_parts (t y) (list_all t xs) e in elim o [ inl s ↦ sym (ap t s) ∙ b.0 | inr r ↦ all_one t xs b.1 x r ]

pub one_all : {X : Type 0} (t : X → Bool) (xs : List X) → ((x : X) → IsOneOf xs x → t x ≡ true) → list_all t xs ≡ true
one_all t [] h = refl
one_all t (y ∷ xs) h = and_from (t y) (list_all t xs) (h y (inl refl)) (one_all t xs (λ x o. h x (inr o)))

pub one_filter : {X : Type 0} (t : X → Bool) (xs : List X) (x : X) → t x ≡ true → IsOneOf xs x → IsOneOf (filter t xs) x
one_filter t [] x e o = o
one_filter t (y ∷ xs) x e o = elim (t y) as (λ b. t y ≡ b → IsOneOf (cond b (y ∷ filter t xs) (filter t xs)) x) [
  | true ↦ λ f. elim o [ inl s ↦ inl s | inr r ↦ inr (one_filter t xs x e r) ]
  | false ↦ λ f. elim o [ inl s ↦ absurd (let z : true ≡ false = sym e ∙ (ap t (sym s) ∙ f) in cc) | inr r ↦ one_filter t xs x e r ]
] refl

pub filter_one : {X : Type 0} (t : X → Bool) (xs : List X) (x : X) → IsOneOf (filter t xs) x → IsOneOf xs x × (t x ≡ true)
filter_one t [] x = λ o. absurd o
filter_one t (y ∷ xs) x = elim (t y) as (λ b. t y ≡ b → IsOneOf (cond b (y ∷ filter t xs) (filter t xs)) x → IsOneOf (y ∷ xs) x × (t x ≡ true)) [
  | true ↦ λ f o. elim o [ inl s ↦ (inl s, sym (ap t s) ∙ f) | inr r ↦ (let q = filter_one t xs x r in (inr q.0, q.1)) ]
  | false ↦ λ f o. let q = filter_one t xs x o in (inr q.0, q.1)
] refl

pub dates_one : (d n k : ℕ) → IsOneOf (dates_from d n) k → (d ≤ k) × (k < d + n)
dates_one d zero k o = absurd o
dates_one d (suc n) k o = elim o [ inl e ↦ (omega arith, omega arith) | inr r ↦ (let q = dates_one (d + 1) n k r in let a = q.0 in let b = q.1 in (omega arith, omega arith)) ]

pub one_dates : (d n k : ℕ) → d ≤ k → k < d + n → IsOneOf (dates_from d n) k
one_dates d zero k a b = absurd (omega arith)
one_dates d (suc n) k a b = elim (cases_lt d k) [ inl l ↦ inr (one_dates (d + 1) n k (omega arith) (omega arith)) | inr l ↦ inl (omega arith) ]

-- # Counting nights

pairs_tail : (m : ℕ) (ms : List ℕ) → AllPairs (λ a b. a < b) (m ∷ ms) → AllPairs (λ a b. a < b) ms
pairs_tail m ms h = λ i j d a b. h (suc i) (suc j) d (omega arith) (omega arith)

pairs_head : (m : ℕ) (ms : List ℕ) → AllPairs (λ a b. a < b) (m ∷ ms) → All (λ k. m < k) ms
pairs_head m ms h = λ j d b. h zero (suc j) d (omega arith) (omega arith)

pairs_cons : (m : ℕ) (ms : List ℕ) → All (λ k. m < k) ms → AllPairs (λ a b. a < b) ms → AllPairs (λ a b. a < b) (m ∷ ms)
pairs_cons m ms a h zero zero d x y = absurd (omega arith)
pairs_cons m ms a h zero (suc j) d x y = a j d (omega arith)
pairs_cons m ms a h (suc i) zero d x y = absurd (omega arith)
pairs_cons m ms a h (suc i) (suc j) d x y = h i j d (omega arith) (omega arith)

pub count_cons : (t : ℕ → Bool) (d : ℕ) (ds : List ℕ) → count_by t (d ∷ ds) ≡ cond (t d) 1 0 + count_by t ds
count_cons t d ds = sum_by-cons (λ k. cond (t k) 1 0) d ds

-- a place of one of n dates from d on that pass the test
pub record IsTested (first : ℕ) (t : ℕ → Bool) (d n m : ℕ) : Type 0 where
  pub date : ℕ
  pub at : IsDateAt first m date
  pub from : d ≤ date
  pub before : date < d + n
  pub passes : t date ≡ true

later : (first : ℕ) (t : ℕ → Bool) (d n m : ℕ) → (h : IsTested first t d (suc n) m) → d < h.date → IsTested first t (d + 1) n m
later first t d n m h l = record { date = h.date; at = h.at; from = omega arith; before = let b = h.before in omega arith; passes = h.passes }

later_all : (first : ℕ) (t : ℕ → Bool) (d n m : ℕ) (ms : List ℕ) → DAY_MINUTES * d + minutes (pad_units Hvnl) ≤ first + minutes m → All (λ k. m < k) ms → All (IsTested first t d (suc n)) ms → All (IsTested first t (d + 1) n) ms
later_all first t d n m ms e l a = λ i x b. (let h = a i x b in let c = l i x b in let f = h.at in later first t d n (get_or ms i x) h (omega arith))

-- different places have different dates, so there are no more than the dates that pass
pub few_nights : (first : ℕ) (t : ℕ → Bool) (d n : ℕ) (ms : List ℕ) → AllPairs (λ a b. a < b) ms → All (IsTested first t d n) ms → length ms ≤ count_by t (dates_from d n)
few_nights first t d zero [] h a = omega arith
few_nights first t d zero (m ∷ ms) h a = absurd (let k : IsTested first t d 0 m = All-head (IsTested first t d 0) m ms a in let b = k.from in let c = k.before in omega arith)
few_nights first t d (suc n) [] h a = omega arith
few_nights first t d (suc n) (m ∷ ms) h a =
    let k : IsTested first t d (suc n) m = All-head (IsTested first t d (suc n)) m ms a in
    let e = count_cons t d (dates_from (d + 1) n) in
    let f = k.from in
    let g = k.at in
    let rest = later_all first t d n m ms (omega arith) (pairs_head m ms h) (All-tail (IsTested first t d (suc n)) m ms a) in
    elim (cases_lt d k.date) [
      | inl l ↦ (let q = few_nights first t (d + 1) n (m ∷ ms) h (All-cons (IsTested first t (d + 1) n) m ms (later first t d n m k l) rest) in omega arith)
      | inr l ↦
          let q = few_nights first t (d + 1) n ms (pairs_tail m ms h) rest in
          let same : k.date ≡ d = omega arith in
          let one : cond {A = ℕ} (t d) 1 0 ≡ 1 = ap (λ b. cond {A = ℕ} b 1 0) (sym (ap t same) ∙ k.passes) in
          omega arith
    ]

-- and each date that passes has a place
pub record AreNightsOf (P : ℕ → Type 0) (low n : ℕ) : Type 0 where
  pub places : List ℕ
  pub apart : AllPairs (λ a b. a < b) places
  pub many : length places ≡ n
  pub after : All (λ m. low ≤ m) places
  pub each : All P places

pub some_nights : (units : ℕ) (t : ℕ → Bool) (P : ℕ → Type 0) (d n : ℕ) → units ≤ 96 * d + pad_units Hvnl → ((k : ℕ) → d ≤ k → k < d + n → t k ≡ true → P (place_of units k)) →
    AreNightsOf P (place_of units d) (count_by t (dates_from d n))
some_nights units t P d zero l h = record { places = []; apart = λ i j x a b. absurd (omega arith); many = refl; after = All-nil _; each = All-nil P }
some_nights units t P d (suc n) l h =
    let q = some_nights units t P (d + 1) n (omega arith) (λ k a b e. h k (omega arith) (omega arith) e) in
    let e = count_cons t d (dates_from (d + 1) n) in
    let low : place_of units d ≤ place_of units (d + 1) = omega arith in
    elim (cases_Bool (t d)) [
      | inl y ↦
          let one : cond {A = ℕ} (t d) 1 0 ≡ 1 = ap (λ b. cond {A = ℕ} b 1 0) y in
          let many = q.many in
          record {
            places = place_of units d ∷ q.places;
            apart = pairs_cons (place_of units d) q.places (λ i x b. let c = q.after i x b in omega arith) q.apart;
            many = omega arith;
            after = All-cons (λ m. place_of units d ≤ m) (place_of units d) q.places (omega arith) (λ i x b. let c = q.after i x b in omega arith);
            each = All-cons P (place_of units d) q.places (h d (omega arith) (omega arith) y) q.each;
          }
      | inr z ↦
          let none : cond {A = ℕ} (t d) 1 0 ≡ 0 = ap (λ b. cond {A = ℕ} b 1 0) z in
          let many = q.many in
          record { places = q.places; apart = q.apart; many = omega arith; after = λ i x b. (let c = q.after i x b in omega arith); each = q.each }
    ]

-- # One date more

pub dates_more : (d n : ℕ) → dates_from d (suc n) ≡ dates_from d n ++ (d + n) ∷ []
dates_more d zero = ap (λ k. k ∷ []) (let e : d ≡ d + 0 = omega arith in e)
dates_more d (suc n) = ap (λ ks. d ∷ ks) (dates_more (d + 1) n ∙ ap (λ k. dates_from (d + 1) n ++ k ∷ []) (let e : d + 1 + n ≡ d + suc n = omega arith in e))

pub count_push : (t : ℕ → Bool) (ds : List ℕ) (d : ℕ) → count_by t (ds ++ d ∷ []) ≡ count_by t ds + cond (t d) 1 0
count_push t ds d = sum_by_push (λ k. cond (t k) 1 0) ds d

pub count_few : (t : ℕ → Bool) (d n : ℕ) → count_by t (dates_from d n) ≤ n
count_few t d zero = omega arith
count_few t d (suc n) =
    let e = count_cons t d (dates_from (d + 1) n) in
    let q = count_few t (d + 1) n in
    elim (cases_Bool (t d)) [
      | inl y ↦ (let c : cond {A = ℕ} (t d) 1 0 ≡ 1 = ap (λ b. cond {A = ℕ} b 1 0) y in omega arith)
      | inr z ↦ (let c : cond {A = ℕ} (t d) 1 0 ≡ 0 = ap (λ b. cond {A = ℕ} b 1 0) z in omega arith)
    ]

-- of dates from `first` on up to `d`, and one more
pub counts_on : (t : ℕ → Bool) (first d : ℕ) → first ≤ d → count_by t (dates_from first (d + 1 - first)) ≡ count_by t (dates_from first (d - first)) + cond (t d) 1 0
counts_on t first d l =
    let e : d + 1 - first ≡ suc (d - first) = omega arith in
    let f : first + (d - first) ≡ d = omega arith in
    ap (λ n. count_by t (dates_from first n)) e ∙ (ap (count_by t) (dates_more first (d - first)) ∙ (count_push t (dates_from first (d - first)) (first + (d - first)) ∙ ap (λ k. count_by t (dates_from first (d - first)) + cond (t k) 1 0) f))

any_push : (t : ℕ → Bool) (ds : List ℕ) (d : ℕ) → list_any t ds ≡ false → t d ≡ false → list_any t (ds ++ d ∷ []) ≡ false
any_push t [] d a b = ap (λ c. c || false) b
any_push t (k ∷ ds) d a b = elim (t k) as (λ c. (c || list_any t ds) ≡ false → (c || list_any t (ds ++ d ∷ [])) ≡ false) [
  | true ↦ λ e. e
  | false ↦ λ e. any_push t ds d e b
] a

pub none_on : (t : ℕ → Bool) (first d : ℕ) → first ≤ d → list_any t (dates_from first (d - first)) ≡ false → t d ≡ false → list_any t (dates_from first (d + 1 - first)) ≡ false
none_on t first d l a b =
    let e : d + 1 - first ≡ suc (d - first) = omega arith in
    let f : first + (d - first) ≡ d = omega arith in
    ap (λ n. list_any t (dates_from first n)) e ∙ (ap (list_any t) (dates_more first (d - first)) ∙ any_push t (dates_from first (d - first)) (first + (d - first)) a (ap t f ∙ b))

pub one_on : (t : ℕ → Bool) (first d last : ℕ) → first ≤ d → d < last → t d ≡ true → list_any t (dates_from first (last - first)) ≡ true
one_on t first d last a b e = one_any t (dates_from first (last - first)) d (one_dates first (last - first) d a (omega arith)) e
