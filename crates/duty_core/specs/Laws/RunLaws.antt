-- Rest runs, and the run in progress at the end of a history.
use Rattle.std.proofs.Common.{◌≡◌, ℕ, ◌+◌, ◌-◌, ◌<◌, ◌≤◌, true, false, List, [], ◌∷◌, ◌++◌, length, sym, ◌∙◌, ap, arith, inl, inr}
use Rattle.std.specs.Prelude.{replicate}
use Rattle.std.proofs.lemmas.Bool.{cases_lt}
use Rattle.std.proofs.lemmas.List.{length-replicate}
use Rattle.duty_core.specs.declared.activity.Activity.{Activity}
use Rattle.duty_core.specs.declared.activity.Activity.TheVariants.{Off}
use Rattle.duty_core.specs.Activity.{rests}
use Rattle.duty_core.specs.History.{unit_at}
use Rattle.duty_core.specs.RestRun.{IsRun, IsLongRun}
use Rattle.duty_core.specs.Stretch.{IsRest}
use Rattle.duty_core.specs.Laws.HistoryLaws.{AreAlike, rests_alike, unit_at-append, unit_at-last, unit_at-past, unit_at-replicate, length-one_more}
use Rattle.duty_core.specs.RestRun.{EndsIn}

pub run_alike : {p q : List Activity} {n a b : ℕ} → AreAlike p q n → b < n → IsRun p a b → IsRun q a b
run_alike g l h = record {
  some = h.some;
  rest = λ k x y. rests_alike g k (omega arith) (h.rest k x y);
  starts = λ k x. let s = h.some in rests_alike g k (omega arith) (h.starts k x);
  ended = rests_alike g _ l h.ended;
}

pub long_alike : {least : ℕ} {p q : List Activity} {n a b : ℕ} → AreAlike p q n → b < n → IsLongRun least p a b → IsLongRun least q a b
long_alike g l h = record { run = run_alike g l h.run; long = h.long }

-- a run that has ended lies inside
pub run_inside : (p : List Activity) (a b : ℕ) → IsRun p a b → b < length p
run_inside p a b h = elim (cases_lt b (length p)) [
  | inl l ↦ l
  | inr l ↦ absurd (let e : true ≡ false = sym (ap rests (unit_at-past p b l)) ∙ h.ended in cc)
]

-- rest alone is one run in progress
pub ends_padding : (n : ℕ) → EndsIn (replicate n Off) n
ends_padding n = record {
  there = omega (arith, length-replicate n Off);
  rest = λ k a b. ap rests (unit_at-replicate n k);
  starts = λ k e. absurd (omega (arith, length-replicate n Off));
}

-- one more unit of rest
pub ends_rest : (p : List Activity) (x : Activity) (r : ℕ) → rests x ≡ true → EndsIn p r → EndsIn (p ++ x ∷ []) (r + 1)
ends_rest p x r e h = record {
  there = let a = h.there in omega (arith, length-one_more p x);
  rest = λ k a b. elim (cases_lt k (length p)) [
    | inl l ↦ ap rests (unit_at-append p (x ∷ []) k l) ∙ h.rest k (omega (arith, length-one_more p x)) l
    | inr l ↦ (let q : k ≡ length p = omega (arith, length-one_more p x) in ap (λ i. rests (unit_at (p ++ x ∷ []) i)) q ∙ (ap rests (unit_at-last p x) ∙ e))
  ];
  starts = λ k q. ap rests (unit_at-append p (x ∷ []) k (omega (arith, length-one_more p x))) ∙ h.starts k (omega (arith, length-one_more p x));
}

-- one more unit of duty
pub ends_duty : (p : List Activity) (x : Activity) → rests x ≡ false → EndsIn (p ++ x ∷ []) 0
ends_duty p x e = record {
  there = omega arith;
  rest = λ k a b. absurd (omega arith);
  starts = λ k q. let s : k ≡ length p = omega (arith, length-one_more p x) in ap (λ i. rests (unit_at (p ++ x ∷ []) i)) s ∙ (ap rests (unit_at-last p x) ∙ e);
}

-- the run that a unit of duty ends
pub run_ends : (p : List Activity) (x : Activity) (r : ℕ) → rests x ≡ false → 0 < r → EndsIn p r → IsRun (p ++ x ∷ []) (length p - r) (length p)
run_ends p x r e l h = record {
  some = let a = h.there in omega arith;
  rest = λ k a b. ap rests (unit_at-append p (x ∷ []) k b) ∙ h.rest k (omega arith) b;
  starts = λ k q. let a = h.there in ap rests (unit_at-append p (x ∷ []) k (omega arith)) ∙ h.starts k (omega arith);
  ended = ap rests (unit_at-last p x) ∙ e;
}

-- a run that a last unit ends is the one in progress
pub run_is_open : (p q : List Activity) (r a : ℕ) → EndsIn p r → IsRun (p ++ q) a (length p) → length p ≤ a + r
run_is_open p q r a h g = elim (cases_lt (a + r) (length p)) [
  | inr l ↦ l
  | inl l ↦ absurd (
      let k : ℕ = length p - r - 1 in
      let i : k < length p = omega arith in
      let z : true ≡ false = sym (g.rest k (omega arith) i) ∙ (ap rests (unit_at-append p q k i) ∙ h.starts k (omega arith)) in cc)
]

-- a unit of rest ends no run
pub no_run_at_rest : (p : List Activity) (x : Activity) (a : ℕ) → rests x ≡ true → IsRun (p ++ x ∷ []) a (length p) → ⊥
no_run_at_rest p x a r h = let z : true ≡ false = sym r ∙ (sym (ap rests (unit_at-last p x)) ∙ h.ended) in cc

-- Where a run has ended, the one in progress lies after the rest that p begins with.
pub open_after_front : (p : List Activity) (n a b r : ℕ) → IsRest p 0 n → IsRun p a b → EndsIn p r → n + r < length p
open_after_front p n a b r front run ends =
    let inside = run_inside p a b run in
    let thereafter : n ≤ b = elim (cases_lt b n) [ inr l ↦ l | inl l ↦ absurd (let z : true ≡ false = sym (front b (omega arith) l) ∙ run.ended in cc) ] in
    elim (cases_lt (b + r) (length p)) [ inl l ↦ omega arith | inr l ↦ absurd (let z : true ≡ false = sym (ends.rest b (omega arith) inside) ∙ run.ended in cc) ]
