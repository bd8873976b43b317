-- The rest run that holds a stretch of rest.
use Rattle.std.proofs.Common.{◌≡◌, ℕ, ◌+◌, ◌-◌, ◌<◌, ◌≤◌, false, List, sym, ◌∙◌, ap, arith, inl, inr, zero, suc}
use Rattle.std.proofs.lemmas.Bool.{cases_lt, cases_eq, cases_Bool}
use Rattle.duty_core.specs.declared.activity.Activity.{Activity}
use Rattle.duty_core.specs.Activity.{rests}
use Rattle.duty_core.specs.History.{unit_at}
use Rattle.duty_core.specs.RestRun.{IsRun}
use Rattle.duty_core.specs.Stretch.{IsRest}
use Rattle.duty_core.specs.LostMinutes.{rest_before}
use Rattle.duty_core.specs.Laws.LostLaws.{before_rest, before_stops, before_least, before_there}

-- the first unit of duty from a place on
pub record IsNextDuty (p : List Activity) (b e : ℕ) : Type 0 where
  pub after : b ≤ e
  pub rest : IsRest p b e
  pub duty : rests (unit_at p e) ≡ false

pub next_duty : (p : List Activity) (n b : ℕ) → rests (unit_at p (b + n)) ≡ false → (e : ℕ) × (e ≤ b + n) × IsNextDuty p b e
next_duty p zero b d = (b, omega arith, record { after = omega arith; rest = λ k x y. absurd (omega arith); duty = (let q : b + 0 ≡ b = omega arith in ap (λ m. rests (unit_at p m)) (sym q) ∙ d) })
next_duty p (suc n) b d = elim (cases_Bool (rests (unit_at p b))) [
  | inr t ↦ (b, omega arith, record { after = omega arith; rest = λ k x y. absurd (omega arith); duty = t })
  | inl t ↦
      let q : b + 1 + n ≡ b + suc n = omega arith in
      let h = next_duty p n (b + 1) (ap (λ m. rests (unit_at p m)) q ∙ d) in
      let l = h.1 in
      let a = h.2.after in (
        h.0,
        omega arith,
        record {
          after = omega arith;
          rest = λ k x y. elim (cases_eq k b) [ inl e ↦ ap (λ m. rests (unit_at p m)) e ∙ t | inr e ↦ h.2.rest k (omega arith) y ];
          duty = h.2.duty;
        },
      )
]

-- A stretch of rest before a unit of duty is part of a run that has ended there or before.
pub record IsInRun (p : List Activity) (a b i : ℕ) : Type 0 where
  pub from : ℕ
  pub to : ℕ
  pub run : IsRun p from to
  pub before : to ≤ i
  pub starts : from ≤ a
  pub ends : b ≤ to

rest_joined : (p : List Activity) (a b e : ℕ) → IsRest p a b → IsRest p b e → IsRest p a e
rest_joined p a b e r s k x y = elim (cases_lt k b) [ inl l ↦ r k x l | inr l ↦ s k l y ]

pub in_run : (p : List Activity) (a b i : ℕ) → a < b → b ≤ i → IsRest p a b → rests (unit_at p i) ≡ false → IsInRun p a b i
in_run p a b i l m r d =
    let q : b + (i - b) ≡ i = omega arith in
    let h = next_duty p (i - b) b (ap (λ m. rests (unit_at p m)) q ∙ d) in
    let e = h.0 in
    let x = h.1 in
    let y = h.2.after in
    let n = rest_before p e in
    let t = before_there p e in
    let s = before_least p e a (omega arith) (rest_joined p a b e r h.2.rest) in
    record {
      from = e - n;
      to = e;
      run = record {
        some = omega arith;
        rest = λ k u v. before_rest p e k v (omega arith);
        starts = λ k u. before_stops p e k (omega arith);
        ended = h.2.duty;
      };
      before = omega arith;
      starts = omega arith;
      ends = y;
    }
