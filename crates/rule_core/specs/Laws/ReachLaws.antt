-- Paths put together and taken apart.
use Rattle.std.proofs.Common.{◌≡◌, ℕ, ◌+◌, ◌*◌, List, [], ◌∷◌, ◌++◌, length, refl, sym, ◌∙◌, ap, subst, arith, append_assoc}
use Rattle.std.specs.Prelude.{replicate}
use Rattle.std.specs.Option.{option_to_list}
use Rattle.std.proofs.lemmas.List.{length-replicate}
use Rattle.duty_core.specs.declared.activity.Activity.{Activity}
use Rattle.duty_core.specs.declared.mark.Mark.{Mark}
use Rattle.rule_core.specs.declared.nexts.Next.{Next}
use Rattle.rule_core.specs.Reach.{IsOneOf, Reaches}

-- one path after another
pub reaches-append : {S : Type 0} (unit : ℕ) (nexts : S → ℕ → Activity → List (Next S)) (xs ys : List Activity) (s : S) (at : ℕ) (marks : List Mark) (t : S) (later : List Mark) (u : S) →
    Reaches unit nexts s at xs marks t → Reaches unit nexts t (at + unit * length xs) ys later u → Reaches unit nexts s at (xs ++ ys) (marks ++ later) u
reaches-append unit nexts [] ys s at marks t later u r q =
    subst (λ m. Reaches unit nexts s at ys (m ++ later) u) (sym r.1)
    (subst (λ v. Reaches unit nexts v at ys later u) (sym r.0) (subst (λ n. Reaches unit nexts t n ys later u) (let e : at + unit * 0 ≡ at = omega arith in e) q))
reaches-append unit nexts (x ∷ xs) ys s at marks t later u r q =
    let e : at + unit * length (x ∷ xs) ≡ at + unit + unit * length xs = omega arith in (
      r.0,
      r.1,
      r.2 ++ later,
      ap (λ m. m ++ later) r.3 ∙ append_assoc (option_to_list r.0.mark) r.2 later,
      reaches-append unit nexts xs ys r.0.state (at + unit) r.2 t later u r.4 (subst (λ n. Reaches unit nexts t n ys later u) e q),
    )

-- where a path comes by
pub record PartedPath {S : Type 0} (unit : ℕ) (nexts : S → ℕ → Activity → List (Next S)) (xs ys : List Activity) (s : S) (at : ℕ) (marks : List Mark) (u : S) : Type 0 where
  pub between : S
  pub earlier : List Mark
  pub later : List Mark
  pub marked : marks ≡ earlier ++ later
  pub front : Reaches unit nexts s at xs earlier between
  pub rest : Reaches unit nexts between (at + unit * length xs) ys later u

pub reaches_parted : {S : Type 0} (unit : ℕ) (nexts : S → ℕ → Activity → List (Next S)) (xs ys : List Activity) (s : S) (at : ℕ) (marks : List Mark) (u : S) →
    Reaches unit nexts s at (xs ++ ys) marks u → PartedPath unit nexts xs ys s at marks u
reaches_parted unit nexts [] ys s at marks u r = record {
  between = s;
  earlier = [];
  later = marks;
  marked = refl;
  front = (refl, refl);
  rest = subst (λ n. Reaches unit nexts s n ys marks u) (let e : at ≡ at + unit * 0 = omega arith in e) r;
}
reaches_parted unit nexts (x ∷ xs) ys s at marks u r =
    let q = reaches_parted unit nexts xs ys r.0.state (at + unit) r.2 u r.4 in
    let e : at + unit + unit * length xs ≡ at + unit * length (x ∷ xs) = omega arith in
    record {
      between = q.between;
      earlier = option_to_list r.0.mark ++ q.earlier;
      later = q.later;
      marked = r.3 ∙ (ap (λ m. option_to_list r.0.mark ++ m) q.marked ∙ sym (append_assoc (option_to_list r.0.mark) q.earlier q.later));
      front = (r.0, r.1, q.earlier, refl, q.front);
      rest = subst (λ n. Reaches unit nexts q.between n ys q.later u) e q.rest;
    }

-- what a path reaches is a state
pub reached_state : {S : Type 0} (unit : ℕ) (is_state : S → ℕ → Type 0) (nexts : S → ℕ → Activity → List (Next S)) →
    ((s : S) (at : ℕ) (x : Activity) (n : Next S) → is_state s at → IsOneOf (nexts s at x) n → is_state n.state (at + unit)) →
    (xs : List Activity) (s : S) (at : ℕ) (marks : List Mark) (t : S) → is_state s at → Reaches unit nexts s at xs marks t → is_state t (at + unit * length xs)
reached_state unit is_state nexts next [] s at marks t i r =
    subst (λ u. is_state u (at + unit * 0)) r.0 (subst (is_state s) (let e : at ≡ at + unit * 0 = omega arith in e) i)
reached_state unit is_state nexts next (x ∷ xs) s at marks t i r =
    subst (is_state t) (let e : at + unit + unit * length xs ≡ at + unit * length (x ∷ xs) = omega arith in e)
    (reached_state unit is_state nexts next xs r.0.state (at + unit) r.2 t (next s at x r.0 i r.1) r.4)

-- many equal units reach a state
pub equal_units_state : {S : Type 0} (unit : ℕ) (is_state : S → ℕ → Type 0) (nexts : S → ℕ → Activity → List (Next S)) →
    ((s : S) (at : ℕ) (x : Activity) (n : Next S) → is_state s at → IsOneOf (nexts s at x) n → is_state n.state (at + unit)) →
    (s : S) (at : ℕ) (x : Activity) (n : ℕ) (marks : List Mark) (t : S) → is_state s at → Reaches unit nexts s at (replicate n x) marks t → is_state t (at + unit * n)
equal_units_state unit is_state nexts next s at x n marks t i r =
    subst (λ m. is_state t (at + unit * m)) (length-replicate n x) (reached_state unit is_state nexts next (replicate n x) s at marks t i r)
