-- Split rests, and the first declared rest after each.
use Rattle.std.proofs.Common.{◌≡◌, ℕ, ◌+◌, ◌-◌, ◌<◌, ◌≤◌, true, false, List, sym, ◌∙◌, subst, arith, inl, inr}
use Rattle.std.proofs.lemmas.Bool.{cases_lt}
use Rattle.duty_core.specs.declared.activity.Activity.{Activity}
use Rattle.duty_core.specs.RestRun.{IsRun}
use Rattle.duty_core.specs.DeclaredRest.{IsSplitRest, IsDeclared, IsNextDeclared}
use Rattle.duty_core.specs.Laws.FrontLaws.{run_end}
use Rattle.duty_core.specs.Laws.UniqueLaws.{declared_run, run_start}
use Rattle.rule_readings.specs.Found.{IsFirstDeclared}
use Rattle.rule_readings.specs.Values.{IsPairSum}

-- no run ends inside another
none_inside : {p : List Activity} {a b c d : ℕ} → IsRun p a b → IsRun p c d → c ≤ b → b < d → ⊥
none_inside {p} {a} {b} h g l m = let z : true ≡ false = sym (g.rest b l m) ∙ h.ended in cc

-- what two rests have alike
pub record AreOne (a b c d : ℕ) : Type 0 where
  pub from : a ≡ c
  pub to : b ≡ d

-- the first declared rest after a place at which a split rest begins is that rest
pub first_is_split : (full : ℕ) (p : List Activity) (Marked : ℕ → Type 0) (i to a b : ℕ) → IsSplitRest full p Marked i to → IsFirstDeclared full p Marked i a b → AreOne a b i to
first_is_split full p Marked i to a b s f =
    let some = s.run.some in
    let l = f.first i to (inr s) some in
    let r = declared_run full p Marked a b f.declared in
    let o = f.thereafter in
    let e : b ≡ to = elim (cases_lt b to) [ inl m ↦ absurd (none_inside r s.run (omega arith) m) | inr m ↦ omega arith ] in
    record { from = run_start p a i to (subst (λ n. IsRun p a n) e r) s.run; to = e }

pub next_is_first : (full : ℕ) (p : List Activity) (Marked : ℕ → Type 0) (i to c d : ℕ) → IsNextDeclared full p Marked i to c d → IsFirstDeclared full p Marked to c d
next_is_first full p Marked i to c d n =
    let r = declared_run full p Marked c d n.next in
    let some = r.some in
    let before = n.last.before in
    record {
      declared = n.next;
      thereafter = omega arith;
      first = λ a b x l. elim (cases_lt b d) [
        | inl m ↦ elim (cases_lt b c) [
          | inl o ↦ (let z = n.last.last a b x (omega arith) in absurd (omega arith))
          | inr o ↦ absurd (none_inside (declared_run full p Marked a b x) r o m)
        ]
        | inr m ↦ m
      ];
    }

pub first_is_next : (full : ℕ) (p : List Activity) (Marked : ℕ → Type 0) (i to c d : ℕ) → IsSplitRest full p Marked i to → IsFirstDeclared full p Marked to c d → IsNextDeclared full p Marked i to c d
first_is_next full p Marked i to c d s f =
    let r = declared_run full p Marked c d f.declared in
    let some = r.some in
    record {
      next = f.declared;
      last = record {
        declared = inr s;
        before = elim (cases_lt c to) [ inl m ↦ absurd (none_inside s.run r (omega arith) f.thereafter) | inr m ↦ m ];
        last = λ a b x l. elim (cases_lt to b) [ inl m ↦ (let z = f.first a b x m in absurd (omega arith)) | inr m ↦ m ];
      };
    }

first_once : (full : ℕ) (p : List Activity) (Marked : ℕ → Type 0) (i a b c d : ℕ) → IsFirstDeclared full p Marked i a b → IsFirstDeclared full p Marked i c d → AreOne a b c d
first_once full p Marked i a b c d f g =
    let x = f.first c d g.declared g.thereafter in
    let y = g.first a b f.declared f.thereafter in
    let e : b ≡ d = omega arith in
    record { from = run_start p a c d (subst (λ n. IsRun p a n) e (declared_run full p Marked a b f.declared)) (declared_run full p Marked c d g.declared); to = e }

-- a declared rest that is shorter than full is split
pub short_is_split : (full : ℕ) (p : List Activity) (Marked : ℕ → Type 0) (a b : ℕ) → IsDeclared full p Marked a b → b < a + full → IsSplitRest full p Marked a b
short_is_split full p Marked a b h short = elim h [ inl f ↦ (let l = f.long in absurd (omega arith)) | inr s ↦ s ]

-- there is one sum at a place
pub one_pair_sum : (full : ℕ) (p : List Activity) (Marked : ℕ → Type 0) (i n m : ℕ) → IsPairSum full p Marked i n → IsPairSum full p Marked i m → n ≡ m
one_pair_sum full p Marked i n m h g =
    let e = run_end p i h.to g.to h.split.run g.split.run in
    let a = next_is_first full p Marked i h.to h.from_next h.to_next h.next in
    let b = next_is_first full p Marked i g.to g.from_next g.to_next g.next in
    let o = first_once full p Marked g.to h.from_next h.to_next g.from_next g.to_next (subst (λ k. IsFirstDeclared full p Marked k h.from_next h.to_next) e a) b in
    let x = o.from in
    let y = o.to in
    let u = h.sum in
    let v = g.sum in
    omega arith

-- the sum at the place where the first of two declared rests begins, which is split
pub pair_of : (full : ℕ) (p : List Activity) (Marked : ℕ → Type 0) (i a b c d : ℕ) → a ≡ i → b < a + full → IsFirstDeclared full p Marked i a b → IsFirstDeclared full p Marked b c d → IsPairSum full p Marked i ((b - a) + (d - c))
pair_of full p Marked i a b c d e short f g =
    let s : IsSplitRest full p Marked i b = subst (λ k. IsSplitRest full p Marked k b) e (short_is_split full p Marked a b f.declared short) in
    record {
      to = b;
      split = s;
      from_next = c;
      to_next = d;
      next = first_is_next full p Marked i b c d s g;
      sum = omega arith;
    }
