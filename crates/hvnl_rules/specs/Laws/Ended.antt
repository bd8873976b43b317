-- The rest that a history ends with.
use Rattle.std.proofs.Common.{◌≡◌, ◌↔◌, ℕ, zero, suc, ◌+◌, ◌<◌, ◌≤◌, true, false, List, [], ◌∷◌, ◌++◌, length, sym, ◌∙◌, ap, subst, arith, inl, inr}
use Rattle.std.specs.Prelude.{min}
use Rattle.std.proofs.lemmas.Bool.{cases_lt}
use Rattle.duty_core.specs.declared.activity.Activity.{Activity}
use Rattle.duty_core.specs.Activity.{rests}
use Rattle.duty_core.specs.History.{unit_at}
use Rattle.duty_core.specs.Laws.HistoryLaws.{unit_at-append, unit_at-last, length-one_more}

-- the n units before place i are there, and are rest
pub record IsRestedBefore (p : List Activity) (n i : ℕ) : Type 0 where
  pub there : n ≤ i
  pub rest : (k : ℕ) → i ≤ k + n → k < i → rests (unit_at p k) ≡ true

pub rested_append : (p q : List Activity) (n i : ℕ) → i ≤ length p → IsRestedBefore p n i → IsRestedBefore (p ++ q) n i
rested_append p q n i l h = record {
  there = h.there;
  rest = λ k a b. ap rests (unit_at-append p q k (omega arith)) ∙ h.rest k a b;
}

pub rested_front : (p q : List Activity) (n i : ℕ) → i ≤ length p → IsRestedBefore (p ++ q) n i → IsRestedBefore p n i
rested_front p q n i l h = record {
  there = h.there;
  rest = λ k a b. sym (ap rests (unit_at-append p q k (omega arith))) ∙ h.rest k a b;
}

-- one more unit of rest
rested_more : (p : List Activity) (x : Activity) (n : ℕ) → rests x ≡ true → IsRestedBefore p n (length p) → IsRestedBefore (p ++ x ∷ []) (n + 1) (length p + 1)
rested_more p x n r h = record {
  there = let t = h.there in omega arith;
  rest = λ k a b. elim (cases_lt k (length p)) [
    | inl lt ↦ ap rests (unit_at-append p (x ∷ []) k lt) ∙ h.rest k (omega arith) lt
    | inr le ↦ (let e : k ≡ length p = omega arith in ap (λ i. rests (unit_at (p ++ x ∷ []) i)) e ∙ (ap rests (unit_at-last p x) ∙ r))
  ];
}

rested_less : (p : List Activity) (x : Activity) (n : ℕ) → IsRestedBefore (p ++ x ∷ []) (n + 1) (length p + 1) → IsRestedBefore p n (length p)
rested_less p x n h = record {
  there = let t = h.there in omega arith;
  rest = λ k a b. sym (ap rests (unit_at-append p (x ∷ []) k b)) ∙ h.rest k (omega arith) (omega arith);
}

-- a unit that is no rest ends each stretch of rest
rested_none : (p : List Activity) (x : Activity) (n : ℕ) → rests x ≡ false → IsRestedBefore (p ++ x ∷ []) n (length p + 1) → n ≡ 0
rested_none p x n r h =
    elim (cases_lt 0 n) [
      | inl lt ↦ absurd (let e : true ≡ false = sym (h.rest (length p) (omega arith) (omega arith)) ∙ (ap rests (unit_at-last p x) ∙ r) in cc)
      | inr le ↦ omega arith
    ]

rested_zero : (p : List Activity) (i : ℕ) → IsRestedBefore p 0 i
rested_zero p i = record { there = omega arith; rest = λ k a b. absurd (omega arith) }

-- `run` is the length of the rest that p ends with, told up to `most`.
pub record Rests (most : ℕ) (p : List Activity) (run : ℕ) : Type 0 where
  pub few : run ≤ most
  pub tells : (n : ℕ) → n ≤ most → (n ≤ run) ↔ IsRestedBefore p n (length p)

rests_step : (most : ℕ) (p : List Activity) (x : Activity) (run : ℕ) → rests x ≡ true → Rests most p run → (n : ℕ) → n ≤ most → (n ≤ min (run + 1) most) ↔ IsRestedBefore (p ++ x ∷ []) n (length p + 1)
rests_step most p x run w h zero l = ((λ a. rested_zero (p ++ x ∷ []) (length p + 1)), (λ a. omega arith))
rests_step most p x run w h (suc n) l =
    let b = h.tells n (omega arith) in
    let e : n + 1 ≡ suc n = omega arith in (
      (λ a. subst (λ m. IsRestedBefore (p ++ x ∷ []) m (length p + 1)) e (rested_more p x n w (b.0 (omega arith)))),
      (λ a. let c = b.1 (rested_less p x n (subst (λ m. IsRestedBefore (p ++ x ∷ []) m (length p + 1)) (sym e) a)) in omega arith),
    )

pub rests_more : (most : ℕ) (p : List Activity) (x : Activity) (run : ℕ) → rests x ≡ true → Rests most p run → Rests most (p ++ x ∷ []) (min (run + 1) most)
rests_more most p x run w h = record {
  few = omega arith;
  tells = λ n l. subst (λ i. (n ≤ min (run + 1) most) ↔ IsRestedBefore (p ++ x ∷ []) n i) (sym (length-one_more p x)) (rests_step most p x run w h n l);
}

pub rests_none : (most : ℕ) (p : List Activity) (x : Activity) → rests x ≡ false → Rests most (p ++ x ∷ []) 0
rests_none most p x w = record {
  few = omega arith;
  tells = λ n l. (
    (λ a. let y : 0 ≡ n = omega arith in subst (λ m. IsRestedBefore (p ++ x ∷ []) m (length (p ++ x ∷ []))) y (rested_zero (p ++ x ∷ []) (length (p ++ x ∷ [])))),
    (λ r. let y : n ≡ 0 = rested_none p x n w (subst (IsRestedBefore (p ++ x ∷ []) n) (length-one_more p x) r) in omega arith),
  );
}
