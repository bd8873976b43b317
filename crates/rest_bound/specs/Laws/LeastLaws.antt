-- The least end as a function is the least end, and there is only one.
use Rattle.std.proofs.Common.{◌≡◌, ℕ, suc, zero, ◌<◌, ◌≤◌, refl, subst, ap, arith, inl, inr}
use Rattle.std.specs.Prelude.{Option, None, Some}
use Rattle.std.proofs.lemmas.Bool.{cases_lt}
use Rattle.rest_bound.specs.declared.limits.Limits.{Limits}
use Rattle.rest_bound.specs.declared.counts.Counts.{Counts}
use Rattle.rest_bound.specs.Ends.{Plan}
use Rattle.rest_bound.specs.CanEnd.{CanEnd}
use Rattle.rest_bound.specs.Runs.{AtMost}
use Rattle.rest_bound.specs.Table.{IsLeast}
use Rattle.rest_bound.specs.Laws.Decisions.{Decided, can_end_or_not}
use Rattle.rest_bound.specs.LeastEnd.{or_this, least_of, least_end}

-- The least number below a bound for which P holds. None: there is none.
record IsFound (P : ℕ → Type 0) (bound : ℕ) (o : Option ℕ) : Type 0 where
  below : (e : ℕ) → P e → e < bound → AtMost o e
  made : (b : ℕ) → o ≡ Some b → P b
  within : (b : ℕ) → o ≡ Some b → b < bound

found_more : (P : ℕ → Type 0) (x : ℕ) (o : Option ℕ) (d : Decided (P x)) → IsFound P x o → IsFound P (suc x) (or_this (P x) o x d)
found_more P x (Some b) d f = let w = f.within b refl in record {
  below = λ e h l. elim (cases_lt e x) [ inl a ↦ f.below e h a | inr a ↦ omega arith ];
  made = f.made;
  within = λ c q. (let z = f.within c q in omega arith);
}
found_more P x None (inl h) f = record {
  below = λ e g l. elim (cases_lt e x) [ inl a ↦ absurd (f.below e g a) | inr a ↦ a ];
  made = λ c q. (let z : x ≡ c = cc in subst P z h);
  within = λ c q. (let z : x ≡ c = cc in omega arith);
}
found_more P x None (inr h) f = record {
  below = λ e g l. elim (cases_lt e x) [ inl a ↦ f.below e g a | inr a ↦ h (subst P (let z : e ≡ x = omega arith in z) g) ];
  made = f.made;
  within = λ c q. absurd cc;
}

found_none : (P : ℕ → Type 0) → IsFound P 0 None
found_none P = record { below = λ e h l. absurd (omega arith); made = λ b q. absurd cc; within = λ b q. absurd cc }

least_found : (P : ℕ → Type 0) (d : (e : ℕ) → Decided (P e)) (horizon : ℕ) → IsFound P (suc horizon) (least_of P d horizon)
unfolding least_of
least_found P d zero = found_more P 0 None (d 0) (found_none P)
least_found P d (suc horizon) = found_more P (suc horizon) (least_of P d horizon) (d (suc horizon)) (least_found P d horizon)

pub least_of_is : (P : ℕ → Type 0) (d : (e : ℕ) → Decided (P e)) (horizon : ℕ) → IsLeast P horizon (least_of P d horizon)
least_of_is P d horizon = let f = least_found P d horizon in
    record { below = λ e h l. f.below e h (omega arith); made = f.made; within = λ b q. (let z = f.within b q in omega arith) }

-- The function has the least end.
pub least_end_is : (plan : Plan) (l : Limits) (n p k : ℕ) (c : Counts) (horizon : ℕ) → IsLeast (CanEnd plan l n p k c) horizon (least_end plan l n p k c horizon)
unfolding least_end
least_end_is plan l n p k c horizon = least_of_is (CanEnd plan l n p k c) (can_end_or_not plan l n p k c) horizon

-- Two least ends are equal.
pub least_once : (P : ℕ → Type 0) (horizon : ℕ) (a b : Option ℕ) → IsLeast P horizon a → IsLeast P horizon b → a ≡ b
least_once P horizon None None f g = refl
least_once P horizon None (Some y) f g = absurd (f.below y (g.made y refl) (g.within y refl))
least_once P horizon (Some x) None f g = absurd (g.below x (f.made x refl) (f.within x refl))
least_once P horizon (Some x) (Some y) f g =
    let q : x ≤ y = f.below y (g.made y refl) (g.within y refl) in
    let r : y ≤ x = g.below x (f.made x refl) (f.within x refl) in
    ap Some (let z : x ≡ y = omega arith in z)
