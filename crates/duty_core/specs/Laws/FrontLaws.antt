-- A history p that is q up to a place and rest from there on keeps what q keeps, with those marks of q that stand for something in p.
use Rattle.std.proofs.Common.{◌≡◌, ℕ, ◌+◌, ◌*◌, ◌<◌, ◌≤◌, Bool, true, false, ◌&&◌, List, length, sym, refl, ◌∙◌, subst, arith, inl, inr, zero, suc}
use Rattle.std.specs.Prelude.{nat_eq, ℤ, pos, ◌-ℤ◌, Contains}
use Rattle.std.proofs.lemmas.Bool.{cases_lt, cases_Bool, cond-false}
use Rattle.std.proofs.lemmas.Int.{ints}
use Rattle.duty_core.specs.declared.activity.Activity.{Activity}
use Rattle.duty_core.specs.declared.mark.Mark.{Mark}
use Rattle.duty_core.specs.declared.mark.Mark.TheVariants.{SplitRest, DeferDay}
use Rattle.duty_core.specs.declared.params.Params.{Params}
use Rattle.duty_core.specs.declared.rule.Rule.{Rule}
use Rattle.duty_core.specs.declared.rule.Rule.TheVariants.{UsWindow14, UsDrive11, UsBreak8, UsWeek, UsPair, CaDay13, CaDay14, CaShift13, CaShift14, CaElapsed16, CaOff10, CaDefer, CaPair, Ca24in14, CaCycle, Ca70without24, Au5h30, Au8h, Au11h, Au24h, Au24hRest, Au7d, Au7dRest, Au14d, Au14dNights}
use Rattle.duty_core.specs.declared.limits.TheConstants.{CA_LOST_LIMIT}
use Rattle.duty_core.specs.Activity.{rests}
use Rattle.duty_core.specs.Params.{BookUnit, InMinutes, InQuarters, minutes_in, terms_of, unit_minutes}
use Rattle.duty_core.specs.History.{unit_at, pad_units}
use Rattle.duty_core.specs.Laws.HistoryLaws.{AreAlike, alike_back, IsRule}
use Rattle.duty_core.specs.RestRun.{IsRun}
use Rattle.duty_core.specs.Laws.RunLaws.{run_alike, long_alike}
use Rattle.duty_core.specs.Stretch.{IsBerth, HoldsBerth, HoldsRest}
use Rattle.duty_core.specs.Day.{day_number, IsNumberOfDay}
use Rattle.duty_core.specs.Counting.{places, duty}
use Rattle.duty_core.specs.Marks.{IsMinuteOf, IsSplitAt, IsDeferred}
use Rattle.duty_core.specs.DeclaredRest.{IsSplitRest, IsDeclared, IsLastDeclared, IsNextDeclared, ArePairedAt, IsSplittable}
use Rattle.duty_core.specs.Base.{IsBase}
use Rattle.duty_core.specs.UsRules.{IsUsPair, IsUsSplit, MeetsUsPair}
use Rattle.duty_core.specs.CaShift.{IsCaPair, IsCaSplit, MeetsCaPair}
use Rattle.duty_core.specs.LostMinutes.{is_lost, lost}
use Rattle.duty_core.specs.Deferral.{HasRestIn, IsDeferral, MeetsCaOff10, MeetsCaDefer}
use Rattle.duty_core.specs.AuPeriods.{IsStart}
use Rattle.duty_core.specs.MarkMeaning.{NamesRun, StandsIn}
use Rattle.duty_core.specs.RuleBooks.{week_days, cycle_of, KeepsPadded}
use Rattle.duty_core.specs.Laws.LostLaws.{lost_means}
use Rattle.duty_core.specs.Laws.PrefixLaws.{IsFront, no_duty, front_rest}
use Rattle.duty_core.specs.Laws.LostFrontLaws.{places_less, places_more, front_lost}
use Rattle.duty_core.specs.Laws.AuFrontLaws.{front_duty_less, front_holds, front_start, front_nights, front_two_nights}
use Rattle.duty_core.specs.Laws.RuleLaws.{us_window14_is_rule, us_drive11_is_rule, us_break8_is_rule, us_week_is_rule, ca_day13_is_rule, ca_day14_is_rule, ca_shift13_is_rule, ca_shift14_is_rule, ca_elapsed16_is_rule, ca_24in14_is_rule, ca_cycle_is_rule, ca_70without24_is_rule}

-- p is q below place n, which q reaches, and from there on it is rest
pub record IsHead (n : ℕ) (p q : List Activity) : Type 0 where
  pub alike : AreAlike p q n
  pub inside : n ≤ length q
  pub rest : (k : ℕ) → n ≤ k → rests (unit_at p k) ≡ true

pub head_front : {n : ℕ} {p q : List Activity} → IsHead n p q → IsFront n p q
head_front h = record { same = λ k l. h.alike.units k l; rest = h.rest }

-- a rule that is asked at a place
pub head_rule : {n : ℕ} {p q : List Activity} (R : List Activity → ℕ → Type 0) → IsRule R → IsHead n p q → ((i : ℕ) → R q i) → (i : ℕ) → R p i
head_rule {n} {p} {q} R rule h all i = elim (cases_lt i n) [
  | inl l ↦ rule.local q p n i (alike_back h.alike) l (all i)
  | inr l ↦ rule.idle p i (h.rest i l)
]

-- # Rest runs and declared rests

-- a run of p ends before place n
pub run_before : {n : ℕ} {p q : List Activity} {a b : ℕ} → IsHead n p q → IsRun p a b → b < n
run_before {n} {p} {q} {a} {b} h r = elim (cases_lt b n) [
  | inl l ↦ l
  | inr l ↦ absurd (let z : true ≡ false = sym (h.rest b l) ∙ r.ended in cc)
]

pub head_run : {n : ℕ} {p q : List Activity} {a b : ℕ} → IsHead n p q → IsRun p a b → IsRun q a b
head_run h r = run_alike h.alike (run_before h r) r

no_later : (p : List Activity) (a b d : ℕ) → IsRun p a b → IsRun p a d → b < d → ⊥
no_later p a b d h g l = let s = h.some in let z : true ≡ false = sym (g.rest b (omega arith) l) ∙ h.ended in cc

-- two runs that begin at one place are one
pub run_end : (p : List Activity) (a b d : ℕ) → IsRun p a b → IsRun p a d → b ≡ d
run_end p a b d h g = elim (cases_lt b d) [
  | inl l ↦ absurd (no_later p a b d h g l)
  | inr m ↦ elim (cases_lt d b) [
    | inl l ↦ absurd (no_later p a d b g h l)
    | inr k ↦ omega arith
  ]
]

-- two ways to mark runs name the same runs of p
pub record AreMarkedAlike (p : List Activity) (Marked Other : ℕ → Type 0) : Type 0 where
  pub there : (a b : ℕ) → IsRun p a b → Marked a → Other a
  pub back : (a b : ℕ) → IsRun p a b → Other a → Marked a

pub marked_back : {p : List Activity} {M N : ℕ → Type 0} → AreMarkedAlike p M N → AreMarkedAlike p N M
marked_back m = record { there = m.back; back = m.there }

split_marked : {full : ℕ} {p : List Activity} {M N : ℕ → Type 0} {a b : ℕ} → AreMarkedAlike p M N → IsSplitRest full p M a b → IsSplitRest full p N a b
split_marked m s = record { run = s.run; short = s.short; marked = m.there _ _ s.run s.marked }

declared_marked : {full : ℕ} {p : List Activity} {M N : ℕ → Type 0} {a b : ℕ} → AreMarkedAlike p M N → IsDeclared full p M a b → IsDeclared full p N a b
declared_marked m d = elim d [ inl f ↦ inl f | inr s ↦ inr (split_marked m s) ]

last_marked : {full : ℕ} {p : List Activity} {M N : ℕ → Type 0} {i a b : ℕ} → AreMarkedAlike p M N → IsLastDeclared full p M i a b → IsLastDeclared full p N i a b
last_marked m h = record {
  declared = declared_marked m h.declared;
  before = h.before;
  last = λ c d e y. h.last c d (declared_marked (marked_back m) e) y;
}

-- then counts run from the same base
pub base_marked : {full : ℕ} {p : List Activity} {M N : ℕ → Type 0} {i base omitted : ℕ} → AreMarkedAlike p M N → IsBase full p M i base omitted → IsBase full p N i base omitted
base_marked m h = elim h [
  | inl f ↦ inl (record { from = f.from; last = last_marked m f.last; rest = f.rest; none = f.none })
  | inr s ↦ inr (record {
    from = s.from;
    to = s.to;
    waits = record { last = last_marked m s.waits.last; split = split_marked m s.waits.split };
    earlier = s.earlier;
    before = last_marked m s.before;
    omits = s.omits;
  })
]

-- # Pairs

head_split : {full n : ℕ} {p q : List Activity} {M : ℕ → Type 0} {a b : ℕ} → IsHead n p q → IsSplitRest full p M a b → IsSplitRest full q M a b
head_split h s = record { run = head_run h s.run; short = s.short; marked = s.marked }

head_declared : {full n : ℕ} {p q : List Activity} {M : ℕ → Type 0} {a b : ℕ} → IsHead n p q → IsDeclared full p M a b → IsDeclared full q M a b
head_declared h d = elim d [ inl f ↦ inl (record { run = head_run h f.run; long = f.long }) | inr s ↦ inr (head_split h s) ]

declared_end : {full n : ℕ} {p q : List Activity} {M : ℕ → Type 0} {a b : ℕ} → IsHead n p q → IsDeclared full p M a b → b < n
declared_end h d = elim d [ inl f ↦ run_before h f.run | inr s ↦ run_before h s.run ]

declared_some : {full : ℕ} {p : List Activity} {M : ℕ → Type 0} {a b : ℕ} → IsDeclared full p M a b → a < b
declared_some d = elim d [ inl f ↦ f.run.some | inr s ↦ s.run.some ]

-- a declared rest of q that ended before place n is one of p
declared_of_head : {full n : ℕ} {p q : List Activity} {M : ℕ → Type 0} {a b : ℕ} → IsHead n p q → b < n → IsDeclared full q M a b → IsDeclared full p M a b
declared_of_head h l d = elim d [
  | inl f ↦ inl (long_alike (alike_back h.alike) l f)
  | inr s ↦ inr (record { run = run_alike (alike_back h.alike) l s.run; short = s.short; marked = s.marked })
]

head_next : {full n : ℕ} {p q : List Activity} {M : ℕ → Type 0} {a b c d : ℕ} → IsHead n p q → IsNextDeclared full p M a b c d → IsNextDeclared full q M a b c d
head_next h g =
    let l = declared_end h g.next in
    let s = declared_some g.next in
    record {
      next = head_declared h g.next;
      last = record {
        declared = head_declared h g.last.declared;
        before = g.last.before;
        last = λ x y e z. g.last.last x y (declared_of_head h (omega arith) e) z;
      };
    }

next_marked : {full : ℕ} {p : List Activity} {M N : ℕ → Type 0} {a b c d : ℕ} → AreMarkedAlike p M N → IsNextDeclared full p M a b c d → IsNextDeclared full p N a b c d
next_marked m g = record { next = declared_marked m g.next; last = last_marked m g.last }

-- each split rest of p and the next declared rest are a pair, where they are one in q
pub head_paired : {full n : ℕ} {p q : List Activity} {M N : ℕ → Type 0} (PairOf PairIn : ℕ → ℕ → ℕ → ℕ → Type 0) → IsHead n p q → AreMarkedAlike p N M →
    ((a b c d : ℕ) → b < n → d < n → PairOf a b c d → PairIn a b c d) → ((d : ℕ) → ArePairedAt full PairOf q M d) → (d : ℕ) → ArePairedAt full PairIn p N d
head_paired PairOf PairIn h m keeps all d a b c s g =
    keeps a b c d (run_before h s.run) (declared_end h g.next) (all d a b c (head_split h (split_marked m s)) (head_next h (next_marked m g)))

berth_alike : {n : ℕ} {p q : List Activity} {a b : ℕ} → IsHead n p q → b < n → IsBerth q a b → IsBerth p a b
berth_alike h l r k x y = h.alike.units k (omega arith) ∙ r k x y

holds_alike : {n : ℕ} {p q : List Activity} {m a b : ℕ} → IsHead n p q → b < n → HoldsBerth m q a b → HoldsBerth m p a b
holds_alike h l r = let z = r.before in record { at = r.at; after = r.after; before = z; berth = λ k x y. h.alike.units k (omega arith) ∙ r.berth k x y }

us_pair_alike : {n : ℕ} {p q : List Activity} → IsHead n p q → (a b c d : ℕ) → b < n → d < n → IsUsPair q a b c d → IsUsPair p a b c d
us_pair_alike h a b c d l m r = record { sum = r.sum; berth = elim r.berth [ inl x ↦ inl (holds_alike h l x) | inr x ↦ inr (holds_alike h m x) ] }

ca_pair_alike : {n : ℕ} {p q : List Activity} → IsHead n p q → (a b c d : ℕ) → b < n → d < n → IsCaPair q a b c d → IsCaPair p a b c d
ca_pair_alike h a b c d l m r = record { sum = r.sum; berth = berth_alike h m r.berth }

-- # Lost minutes

-- where no place from n on passes, no more pass than below n
pub places_stop : (a : ℕ → Bool) (n m : ℕ) → ((k : ℕ) → n ≤ k → a k ≡ false) → places a m ≤ places a n
places_stop a n zero h = omega arith
places_stop a n (suc m) h = elim (cases_lt m n) [
  | inl l ↦ places_more a (suc m) n (omega arith)
  | inr l ↦ (let c = cond-false {A = ℕ} (a m) 1 0 (h m l) in let k = places_stop a n m h in omega arith)
]

-- no minute of the rest at the end is lost
pub head_kept : {n : ℕ} {p q : List Activity} → IsHead n p q → (k : ℕ) → n ≤ k → is_lost p k ≡ false
head_kept {n} {p} {q} h k l = elim (cases_Bool (is_lost p k)) [
  | inr f ↦ f
  | inl t ↦ elim (lost_means p k t) [
    | inl w ↦ absurd (no_duty (unit_at p k) (h.rest k l) w)
    | inr s ↦ (let b = run_before h s.run in let z = s.before in absurd (omega arith))
  ]
]

pub and_false : (x y : Bool) → y ≡ false → (x && y) ≡ false
and_false true y e = e
and_false false y e = refl

and_keeps : (x y z : Bool) → (y ≡ true → z ≡ true) → (x && y) ≡ true → (x && z) ≡ true
and_keeps true y z h e = h e
and_keeps false y z h e = e

-- p loses no more minutes of a day than q
pub head_lost : {n : ℕ} {p q : List Activity} → IsHead n p q → (day : ℕ → ℕ) (j : ℕ) → lost day p j ≤ lost day q j
head_lost {n} {p} {q} h day j =
    let a = places_stop (λ i. nat_eq (day i) j && is_lost p i) n (length p) (λ k l. and_false (nat_eq (day k) j) (is_lost p k) (head_kept h k l)) in
    let b = places_less (λ i. nat_eq (day i) j && is_lost p i) (λ i. nat_eq (day i) j && is_lost q i) n
    (λ k l. and_keeps (nat_eq (day k) j) (is_lost p k) (is_lost q k) (front_lost n p q (head_front h) k)) in
    let c = places_more (λ i. nat_eq (day i) j && is_lost q i) n (length q) h.inside in
    omega arith

-- # Marks

unit_place : (u : BookUnit) (first pads i j : ℕ) (at : ℤ) → at ≡ pos (first + minutes_in u * i) -ℤ pos pads → at ≡ pos (first + minutes_in u * j) -ℤ pos pads → i ≡ j
unit_place InMinutes first pads i j at h g = omega (arith, ints)
unit_place InQuarters first pads i j at h g = omega (arith, ints)

-- two places of one minute are one
pub minute_place : (params : Params) (first at i j : ℕ) → IsMinuteOf params first at i → IsMinuteOf params first at j → i ≡ j
minute_place params first at i j h g = unit_place (terms_of params).unit first (unit_minutes params * pad_units params) i j (pos at) h g

-- a day has one number
pub day_has_number : (date : ℤ) (m n : ℕ) → IsNumberOfDay date m → IsNumberOfDay date n → m ≡ n
day_has_number date m n h g = omega (arith, ints)

-- What p keeps of the marks of q: those that stand for something in p. The day after a day that a mark of q defers loses little of p.
pub record AreKept (params : Params) (first : ℕ) (p : List Activity) (marks kept : List Mark) : Type 0 where
  pub of_list : (m : Mark) → Contains kept m → Contains marks m
  pub stands : (m : Mark) → Contains kept m → StandsIn params first p m
  pub keeps : (m : Mark) → Contains marks m → StandsIn params first p m → Contains kept m
  pub next_day : (i : ℕ) → IsDeferred marks i → lost (day_number params first) p (i + 1) ≤ CA_LOST_LIMIT

-- the runs of p are marked alike
pub kept_marked : {params : Params} {first : ℕ} {p : List Activity} {marks kept : List Mark} → AreKept params first p marks kept →
    AreMarkedAlike p (IsSplitAt params first kept) (IsSplitAt params first marks)
kept_marked k = record {
  there = λ a b r s. record { at = s.at; minute = s.minute; marked = k.of_list (SplitRest s.at) s.marked };
  back = λ a b r s. record { at = s.at; minute = s.minute; marked = k.keeps (SplitRest s.at) s.marked (record { from = a; to = b; minute = s.minute; run = r }) };
}

-- the run of p, as one of q that may be split
same_run : {least full n : ℕ} {berth : Bool} {p q : List Activity} {from to : ℕ} → IsHead n p q → IsRun p from to → (s : IsSplittable least full berth q from) → s.to ≡ to
same_run {least} {full} {n} {berth} {p} {q} {from} {to} h r s = run_end q from s.to to s.run (head_run h r)

head_us_split : {params : Params} {first n : ℕ} {p q : List Activity} {at : ℕ} → IsHead n p q → NamesRun params first p at → IsUsSplit params first q at → IsUsSplit params first p at
head_us_split {params} {first} {n} {p} {q} {at} h g s =
    let e : g.from ≡ s.from = minute_place params first at g.from s.from g.minute s.minute in
    let r : IsRun p s.from g.to = subst (λ x. IsRun p x g.to) e g.run in
    let f : s.run.to ≡ g.to = same_run h r s.run in
    record {
      from = s.from;
      minute = s.minute;
      run = record { to = s.run.to; run = subst (IsRun p s.from) (sym f) r; long = s.run.long; short = s.run.short; berthed = s.run.berthed };
    }

head_ca_split : {params : Params} {first n : ℕ} {p q : List Activity} {at : ℕ} → IsHead n p q → NamesRun params first p at → IsCaSplit params first q at → IsCaSplit params first p at
head_ca_split {params} {first} {n} {p} {q} {at} h g s =
    let e : g.from ≡ s.from = minute_place params first at g.from s.from g.minute s.minute in
    let r : IsRun p s.from g.to = subst (λ x. IsRun p x g.to) e g.run in
    let f : s.run.to ≡ g.to = same_run h r s.run in
    let w : IsRun p s.from s.run.to = subst (IsRun p s.from) (sym f) r in
    record {
      from = s.from;
      minute = s.minute;
      run = record { to = s.run.to; run = w; long = s.run.long; short = s.run.short; berthed = s.run.berthed };
      berth = berth_alike h (run_before h w) s.berth;
      split_way = s.split_way;
    }

-- # Rules of a whole history

head_us_pair : {params : Params} {first n : ℕ} {p q : List Activity} {marks kept : List Mark} → IsHead n p q → AreKept params first p marks kept → MeetsUsPair params first q marks → MeetsUsPair params first p kept
head_us_pair {params} {first} {n} {p} {q} h k g = record {
  splits = λ at c. head_us_split h (k.stands (SplitRest at) c) (g.splits at (k.of_list (SplitRest at) c));
  none_deferred = λ day c. g.none_deferred day (k.of_list (DeferDay day) c);
  pairs = head_paired (IsUsPair q) (IsUsPair p) h (kept_marked k) (us_pair_alike h) g.pairs;
}

head_ca_pair : {params : Params} {first n : ℕ} {p q : List Activity} {marks kept : List Mark} → IsHead n p q → AreKept params first p marks kept → MeetsCaPair params first q marks → MeetsCaPair params first p kept
head_ca_pair {params} {first} {n} {p} {q} h k g = record {
  splits = λ at c. head_ca_split h (k.stands (SplitRest at) c) (g.splits at (k.of_list (SplitRest at) c));
  pairs = head_paired (IsCaPair q) (IsCaPair p) h (kept_marked k) (ca_pair_alike h) g.pairs;
}

-- a day that loses too much is marked, since it is not the one after a deferred day
head_ca_off10 : {params : Params} {first n : ℕ} {p q : List Activity} {marks kept : List Mark} → IsHead n p q → AreKept params first p marks kept →
    (j : ℕ) → MeetsCaOff10 (day_number params first) q (IsDeferred marks) j → MeetsCaOff10 (day_number params first) p (IsDeferred kept) j
head_ca_off10 {params} {first} {n} {p} {q} {marks} {kept} h k j g = elim (cases_lt CA_LOST_LIMIT (lost (day_number params first) p j)) [
  | inr l ↦ inr l
  | inl l ↦ elim g [
    | inr m ↦ (let a = head_lost h (day_number params first) j in absurd (omega arith))
    | inl d ↦ elim d [
      | inl m ↦ inl (inl (record {
        day = m.day;
        numbered = m.numbered;
        marked = k.keeps (DeferDay m.day) m.marked (record { number = j; numbered = m.numbered; least = l });
      }))
      | inr m ↦ absurd (let a = subst (λ x. lost (day_number params first) p x ≤ CA_LOST_LIMIT) m.1 (k.next_day m.0 m.2) in omega arith)
    ]
  ]
]

head_rest_in : {day : ℕ → ℕ} {n : ℕ} {p q : List Activity} {m s j : ℕ} → IsHead n p q → m ≤ s → HasRestIn day q s j → HasRestIn day p m j
head_rest_in {day} {n} {p} {q} h l g = let z = g.long in record {
  from = g.from;
  to = g.to;
  at = g.at;
  rest = λ k x y. front_rest n p q (head_front h) k (g.rest k x y);
  long = omega arith;
  after = g.after;
  before = g.before;
  of_day = g.of_day;
}

head_deferral : {day : ℕ → ℕ} {n : ℕ} {p q : List Activity} {j : ℕ} → IsHead n p q → CA_LOST_LIMIT < lost day p j → IsDeferral day q j → IsDeferral day p j
head_deferral {day} {n} {p} {q} {j} h l g =
    let a = head_lost h day j in
    let b = head_lost h day (j + 1) in
    let c = g.most in
    let d = g.both in
    record { least = l; most = omega arith; both = omega arith; rest = head_rest_in h (omega arith) g.rest }

head_ca_defer : {params : Params} {first n : ℕ} {p q : List Activity} {marks kept : List Mark} → IsHead n p q → AreKept params first p marks kept →
    MeetsCaDefer params (day_number params first) q marks → MeetsCaDefer params (day_number params first) p kept
head_ca_defer {params} {first} {n} {p} {q} {marks} {kept} h k g date c =
    let f = g date (k.of_list (DeferDay date) c) in
    let s = k.stands (DeferDay date) c in
    let e : s.number ≡ f.number = day_has_number date s.number f.number s.numbered f.numbered in
    record {
      number = f.number;
      numbered = f.numbered;
      defers = head_deferral h (subst (λ x. CA_LOST_LIMIT < lost (day_number params first) p x) e s.least) f.defers;
      alone = λ m. f.alone (record { day = m.day; numbered = m.numbered; marked = k.of_list (DeferDay m.day) m.marked });
      defer_way = f.defer_way;
    }

-- # Rules of Australia

head_less : {n : ℕ} {p q : List Activity} {r limit : ℕ} → IsHead n p q → (m i : ℕ) → (IsStart r q i → duty q i (i + m) ≤ limit) → IsStart r p i → duty p i (i + m) ≤ limit
head_less {n} {p} {q} {r} {limit} h m i all s =
    let a : duty q i (i + m) ≤ limit = all (front_start n p q (head_front h) r i s) in
    let b = front_duty_less n p q (head_front h) i m in
    omega arith

head_holds : {n : ℕ} {p q : List Activity} {r rest : ℕ} → IsHead n p q → (m i : ℕ) → (IsStart r q i → HoldsRest rest q i (i + m)) → IsStart r p i → HoldsRest rest p i (i + m)
head_holds {n} {p} {q} {r} {rest} h m i all s = front_holds n p q (head_front h) rest i (i + m) (all (front_start n p q (head_front h) r i s))

-- # Every rule

-- p keeps each rule that q keeps, with the marks that it keeps
pub head_keeps : (params : Params) (first n : ℕ) (p q : List Activity) (marks kept : List Mark) → IsHead n p q → AreKept params first p marks kept →
    (rule : Rule) → KeepsPadded params first q marks rule → KeepsPadded params first p kept rule
head_keeps params first n p q marks kept h k UsWindow14 g = λ i d base omitted b. head_rule _ (us_window14_is_rule (IsSplitAt params first marks)) h g i d base omitted (base_marked (kept_marked k) b)
head_keeps params first n p q marks kept h k UsDrive11 g = λ i d base omitted b. head_rule _ (us_drive11_is_rule (IsSplitAt params first marks)) h g i d base omitted (base_marked (kept_marked k) b)
head_keeps params first n p q marks kept h k UsBreak8 g = head_rule _ us_break8_is_rule h g
head_keeps params first n p q marks kept h k UsWeek g = head_rule _ (us_week_is_rule (week_days params) (day_number params first)) h g
head_keeps params first n p q marks kept h k UsPair g = head_us_pair h k g
head_keeps params first n p q marks kept h k CaDay13 g = head_rule _ (ca_day13_is_rule (day_number params first)) h g
head_keeps params first n p q marks kept h k CaDay14 g = head_rule _ (ca_day14_is_rule (day_number params first)) h g
head_keeps params first n p q marks kept h k CaShift13 g = λ i d base omitted b. head_rule _ (ca_shift13_is_rule (IsSplitAt params first marks)) h g i d base omitted (base_marked (kept_marked k) b)
head_keeps params first n p q marks kept h k CaShift14 g = λ i d base omitted b. head_rule _ (ca_shift14_is_rule (IsSplitAt params first marks)) h g i d base omitted (base_marked (kept_marked k) b)
head_keeps params first n p q marks kept h k CaElapsed16 g = λ i d base omitted b. head_rule _ (ca_elapsed16_is_rule (IsSplitAt params first marks)) h g i d base omitted (base_marked (kept_marked k) b)
head_keeps params first n p q marks kept h k CaOff10 g = λ j. head_ca_off10 h k j (g j)
head_keeps params first n p q marks kept h k CaDefer g = head_ca_defer h k g
head_keeps params first n p q marks kept h k CaPair g = head_ca_pair h k g
head_keeps params first n p q marks kept h k Ca24in14 g = head_rule _ ca_24in14_is_rule h g
head_keeps params first n p q marks kept h k CaCycle g = head_rule _ (ca_cycle_is_rule (cycle_of params) (day_number params first)) h g
head_keeps params first n p q marks kept h k Ca70without24 g = head_rule _ (ca_70without24_is_rule (cycle_of params)) h g
head_keeps params first n p q marks kept h k Au5h30 g = λ i. head_less h _ i (g i)
head_keeps params first n p q marks kept h k Au8h g = λ i. head_less h _ i (g i)
head_keeps params first n p q marks kept h k Au11h g = λ i. head_less h _ i (g i)
head_keeps params first n p q marks kept h k Au24h g = λ i. head_less h _ i (g i)
head_keeps params first n p q marks kept h k Au24hRest g = λ i. head_holds h _ i (g i)
head_keeps params first n p q marks kept h k Au7d g = λ i. head_less h _ i (g i)
head_keeps params first n p q marks kept h k Au7dRest g = λ i. head_holds h _ i (g i)
head_keeps params first n p q marks kept h k Au14d g = λ i. head_less h _ i (g i)
head_keeps params first n p q marks kept h k Au14dNights g = λ i s.
    let b = g i (front_start n p q (head_front h) _ i s) in
    (front_nights n p q (head_front h) _ first i _ b.0, front_two_nights n p q (head_front h) first i _ b.1)
