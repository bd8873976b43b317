-- The front of a history loses no more minutes of a day than the whole one, and keeps CA-OFF10 with the same marks.
use Rattle.std.proofs.Common.{◌≡◌, ℕ, ◌<◌, ◌≤◌, Bool, true, false, ◌&&◌, List, ◌++◌, length, sym, ◌∙◌, ap, arith, length-append, inl, inr, zero, suc}
use Rattle.std.specs.Prelude.{nat_eq}
use Rattle.std.proofs.lemmas.Bool.{cases_lt}
use Rattle.duty_core.specs.declared.activity.Activity.{Activity}
use Rattle.duty_core.specs.declared.mark.Mark.{Mark}
use Rattle.duty_core.specs.declared.params.Params.{Params}
use Rattle.duty_core.specs.declared.rule.Rule.TheVariants.{CaOff10}
use Rattle.duty_core.specs.Activity.{rests}
use Rattle.duty_core.specs.History.{padding, padded}
use Rattle.duty_core.specs.RestRun.{IsRun}
use Rattle.duty_core.specs.Day.{day_number}
use Rattle.duty_core.specs.Counting.{places}
use Rattle.duty_core.specs.Laws.CountLaws.{share_less}
use Rattle.duty_core.specs.LostMinutes.{is_lost, lost}
use Rattle.duty_core.specs.Laws.LostLaws.{lost_means, lost_from}
use Rattle.duty_core.specs.Laws.PrefixLaws.{IsFront, front_duty, padded_is_front}
use Rattle.duty_core.specs.RuleBooks.{Keeps}

-- # Counts of places

-- where each place that passes one test passes the other
pub places_less : (a b : ℕ → Bool) (n : ℕ) → ((k : ℕ) → k < n → a k ≡ true → b k ≡ true) → places a n ≤ places b n
places_less a b zero h = omega arith
places_less a b (suc n) h =
    let l = places_less a b n (λ k x. h k (omega arith)) in
    let c = share_less (a n) (b n) (h n (omega arith)) in
    omega arith

-- among more places
pub places_more : (a : ℕ → Bool) (n m : ℕ) → n ≤ m → places a n ≤ places a m
places_more a n zero l = let e : n ≡ 0 = omega arith in rw e (omega arith)
places_more a n (suc m) l = elim (cases_lt n (suc m)) [
  | inl lt ↦ (let k = places_more a n m (omega arith) in omega arith)
  | inr le ↦ (let e : n ≡ suc m = omega arith in rw e (omega arith))
]

-- # Lost minutes

-- a run of the front that has ended is a run of the whole
pub front_run : (n : ℕ) (p q : List Activity) → IsFront n p q → (a b : ℕ) → IsRun p a b → IsRun q a b
front_run n p q f a b h = elim (cases_lt b n) [
  | inl l ↦ record {
    some = h.some;
    rest = λ k x y. ap rests (sym (f.same k (omega arith))) ∙ h.rest k x y;
    starts = λ k x. let s = h.some in ap rests (sym (f.same k (omega arith))) ∙ h.starts k x;
    ended = ap rests (sym (f.same b l)) ∙ h.ended;
  }
  | inr l ↦ absurd (let z : true ≡ false = sym (f.rest b l) ∙ h.ended in cc)
]

-- a minute that the front loses is lost in the whole
pub front_lost : (n : ℕ) (p q : List Activity) → IsFront n p q → (i : ℕ) → is_lost p i ≡ true → is_lost q i ≡ true
front_lost n p q f i h = lost_from q i (elim (lost_means p i h) [
  | inl w ↦ inl (front_duty n p q f i w)
  | inr s ↦ inr (record { from = s.from; to = s.to; run = front_run n p q f s.from s.to s.run; after = s.after; before = s.before; short = s.short })
])

and_both : (x y z : Bool) → (y ≡ true → z ≡ true) → (x && y) ≡ true → (x && z) ≡ true
and_both true y z h e = h e
and_both false y z h e = e

pub front_lost_less : (n : ℕ) (p q : List Activity) → IsFront n p q → length p ≤ length q → (day : ℕ → ℕ) (j : ℕ) → lost day p j ≤ lost day q j
front_lost_less n p q f l day j =
    let a = places_less (λ i. nat_eq (day i) j && is_lost p i) (λ i. nat_eq (day i) j && is_lost q i) (length p)
    (λ k x h. and_both (nat_eq (day k) j) (is_lost p k) (is_lost q k) (front_lost n p q f k) h) in
    let b = places_more (λ i. nat_eq (day i) j && is_lost q i) (length p) (length q) l in
    omega arith

pub ca_off10_front : (params : Params) (first : ℕ) (h g : List Activity) (marks : List Mark) → Keeps params first (h ++ g) marks CaOff10 → Keeps params first h marks CaOff10
ca_off10_front params first h g marks all j = elim (all j) [
  | inl d ↦ inl d
  | inr l ↦ inr (
      let b = front_lost_less (length (padding params ++ h)) (padded params h) (padded params (h ++ g)) (padded_is_front params h g)
      (omega (arith, length-append (padding params ++ h) (padding params), length-append (padding params ++ (h ++ g)) (padding params), length-append (padding params) (h ++ g), length-append (padding params) h, length-append h g))
      (day_number params first) j in
      omega arith)
]
