-- Following a history with given marks, unit by unit.
use Rattle.std.proofs.Common.{◌≡◌, ℕ, ◌+◌, ◌*◌, ◌<◌, ◌≤◌, List, [], ◌∷◌, ◌++◌, length, take, get_or, refl, sym, ◌∙◌, ap, subst, arith, append-nil, inl, inr, length-append}
use Rattle.std.specs.Prelude.{None, Some}
use Rattle.std.specs.Option.{option_to_list}
use Rattle.std.proofs.lemmas.List.{take_more, take_all, length-take-le, take-take, take_at, get_or-take, get_or_push, length_push}
use Rattle.duty_core.specs.declared.activity.Activity.{Activity}
use Rattle.duty_core.specs.declared.mark.Mark.{Mark}
use Rattle.rule_core.specs.declared.nexts.Next.{Next}
use Rattle.rule_core.specs.Reach.{IsOneOf, Reaches}
use Rattle.rule_core.specs.Laws.ReachLaws.{reaches-append, reaches_parted, reached_state}
use Rattle.rule_core.specs.Laws.OneOf.{one_of-append, one_of-append_left, one_of-append_right}
use Rattle.cert_checker.specs.declared.follow.Held.{Held}
use Rattle.cert_checker.specs.Followed.{FollowsTo, AddsNexts, AreAfter, AreHeld, HasAllUsed}

-- so many of the marks
taken_long : (marks : List Mark) (n : ℕ) (xs : List Mark) → n ≤ length marks → take n marks ≡ xs → n ≡ length xs
taken_long marks n xs le e = sym (length-take-le n marks le) ∙ ap length e

same_used : (marks : List Mark) (e u : ℕ) → e ≤ length marks → u ≤ length marks → take e marks ≡ take u marks → e ≡ u
same_used marks e u i j h = taken_long marks e (take u marks) i h ∙ length-take-le u marks j

-- What one mark more means.
record IsOneMore (marks : List Mark) (e u : ℕ) (m : Mark) : Type 0 where
  more : e ≡ u + 1
  some : u < length marks
  here : get_or marks u m ≡ m

one_more : (marks : List Mark) (e u : ℕ) (m : Mark) → e ≤ length marks → u ≤ length marks → take e marks ≡ take u marks ++ m ∷ [] → IsOneMore marks e u m
one_more marks e u m i j h =
    let n = length-take-le u marks j in
    let more : e ≡ u + 1 = taken_long marks e (take u marks ++ m ∷ []) i h ∙ (length_push (take u marks) m ∙ ap (λ k. k + 1) n) in
    record {
      more = more;
      some = omega arith;
      here = sym (get_or-take e marks u m (omega arith)) ∙ (ap (λ ys. get_or ys u m) h ∙ get_or_push (take u marks) m m u n);
    }

pub adds_none : {S : Type 0} (marks : List Mark) (used : ℕ) (old : List (Held S)) → AddsNexts marks used [] old old
adds_none marks used old = record { keeps = λ e o. o; only = λ e o. inl o; all = λ n e o f. absurd o }

held_same : {S : Type 0} (e d : Held S) → e.state ≡ d.state → e.used ≡ d.used → d ≡ e
held_same e d s u = sym (ap (λ x. record { state = x; used = e.used }) s ∙ ap (λ k. record { state = d.state; used = k }) u)

-- the one successor's state is added
adds_one : {S : Type 0} (marks : List Mark) (used : ℕ) (n : Next S) (d : Held S) (old : List (Held S)) → FollowsTo marks used n d → ((e : Held S) → FollowsTo marks used n e → e.used ≡ d.used) →
    AddsNexts marks used (n ∷ []) old (old ++ d ∷ [])
adds_one marks used n d old f same = record {
  keeps = λ e o. one_of-append_left old (d ∷ []) e o;
  only = λ e o. elim (one_of-append old (d ∷ []) e o) [
    | inl a ↦ inl a
    | inr q ↦ elim q [ inl eq ↦ inr (n, inl refl, subst (λ x. FollowsTo marks used n x) eq f) | inr z ↦ absurd z ]
  ];
  all = λ m e o g. elim o [
    | inl eq ↦ (let h : FollowsTo marks used n e = subst (λ x. FollowsTo marks used x e) (sym eq) g in
        one_of-append_right old (d ∷ []) e (inl (held_same e d (h.state ∙ sym f.state) (same e h))))
    | inr z ↦ absurd z
  ];
}

pub adds_unmarked : {S : Type 0} (marks : List Mark) (used : ℕ) (n : Next S) (d : Held S) (old new : List (Held S)) → used ≤ length marks → n.mark ≡ None → d.state ≡ n.state → d.used ≡ used → new ≡ old ++ d ∷ [] → AddsNexts marks used (n ∷ []) old new
adds_unmarked marks used n d old new le m s u is =
    let empty : take used marks ≡ take used marks ++ option_to_list n.mark = sym (ap (λ o. take used marks ++ option_to_list o) m ∙ append-nil (take used marks)) in
    subst (λ ys. AddsNexts marks used (n ∷ []) old ys) (sym is)
    (adds_one marks used n d old (record { state = s; within = subst (λ k. k ≤ length marks) (sym u) le; marked = ap (λ k. take k marks) u ∙ empty })
    (λ e f. same_used marks e.used used f.within le (f.marked ∙ sym empty) ∙ sym u))

pub adds_marked : {S : Type 0} (marks : List Mark) (used : ℕ) (n : Next S) (m : Mark) (d : Held S) (old new : List (Held S)) → used < length marks → get_or marks used m ≡ m → n.mark ≡ Some m → d.state ≡ n.state → d.used ≡ used + 1 → new ≡ old ++ d ∷ [] →
    AddsNexts marks used (n ∷ []) old new
adds_marked marks used n m d old new lt here is s u new_is =
    let more : take (used + 1) marks ≡ take used marks ++ m ∷ [] = take_more marks used m lt ∙ ap (λ x. take used marks ++ x ∷ []) here in
    let one : take used marks ++ option_to_list n.mark ≡ take used marks ++ m ∷ [] = ap (λ o. take used marks ++ option_to_list o) is in
    subst (λ ys. AddsNexts marks used (n ∷ []) old ys) (sym new_is)
    (adds_one marks used n d old (record { state = s; within = (let e = u in omega arith); marked = ap (λ k. take k marks) u ∙ (more ∙ sym one) })
    (λ e f. (one_more marks e.used used m f.within (omega arith) (f.marked ∙ one)).more ∙ sym u))

pub adds_other : {S : Type 0} (marks : List Mark) (used : ℕ) (n : Next S) (m : Mark) (old : List (Held S)) → used ≤ length marks → n.mark ≡ Some m → (used < length marks → get_or marks used m ≡ m → ⊥) → AddsNexts marks used (n ∷ []) old old
adds_other marks used n m old le is never =
    let one : take used marks ++ option_to_list n.mark ≡ take used marks ++ m ∷ [] = ap (λ o. take used marks ++ option_to_list o) is in
    record {
      keeps = λ e o. o;
      only = λ e o. inl o;
      all = λ k e o g. elim o [
        | inl eq ↦ (let h : FollowsTo marks used n e = subst (λ x. FollowsTo marks used x e) (sym eq) g in let q = one_more marks e.used used m h.within le (h.marked ∙ one) in absurd (never q.some q.here))
        | inr z ↦ absurd z
      ];
    }

pub adds_append : {S : Type 0} (marks : List Mark) (used : ℕ) (a b : List (Next S)) (old mid new : List (Held S)) → AddsNexts marks used a old mid → AddsNexts marks used b mid new → AddsNexts marks used (a ++ b) old new
adds_append marks used a b old mid new x y = record {
  keeps = λ e o. y.keeps e (x.keeps e o);
  only = λ e o. elim (y.only e o) [
    | inl i ↦ elim (x.only e i) [ inl j ↦ inl j | inr q ↦ inr (q.0, one_of-append_left a b q.0 q.1, q.2) ]
    | inr q ↦ inr (q.0, one_of-append_right a b q.0 q.1, q.2)
  ];
  all = λ n e o f. elim (one_of-append a b n o) [ inl i ↦ y.keeps e (x.all n e i f) | inr i ↦ y.all n e i f ];
}

-- ---- one unit

pub after_none : {S : Type 0} (nexts : S → ℕ → Activity → List (Next S)) (at : ℕ) (act : Activity) (marks : List Mark) → AreAfter nexts at act marks [] []
after_none nexts at act marks = record { only = λ e o. absurd o; all = λ d e n o i f. absurd o }

pub after_more : {S : Type 0} (nexts : S → ℕ → Activity → List (Next S)) (at : ℕ) (act : Activity) (marks : List Mark) (ys : List (Held S)) (d : Held S) (ns : List (Next S)) (a b : List (Held S)) →
    AreAfter nexts at act marks ys a → ns ≡ nexts d.state at act → AddsNexts marks d.used ns a b → AreAfter nexts at act marks (ys ++ d ∷ []) b
after_more nexts at act marks ys d ns a b h is adds = record {
  only = λ e o. elim (adds.only e o) [
    | inl i ↦ (let q = h.only e i in (q.0, one_of-append_left ys (d ∷ []) q.0 q.1, q.2, q.3, q.4))
    | inr q ↦ (d, one_of-append_right ys (d ∷ []) d (inl refl), q.0, subst (λ ms. IsOneOf ms q.0) is q.1, q.2)
  ];
  all = λ c e n o i f. elim (one_of-append ys (d ∷ []) c o) [
    | inl j ↦ adds.keeps e (h.all c e n j i f)
    | inr j ↦ elim j [
      | inl eq ↦ adds.all n e (subst (λ ms. IsOneOf ms n) (sym is) (subst (λ x. IsOneOf (nexts x.state at act) n) (sym eq) i)) (subst (λ x. FollowsTo marks x.used n e) (sym eq) f)
      | inr z ↦ absurd z
    ]
  ];
}

-- ---- all units

pub held_first : {S : Type 0} (unit : ℕ) (nexts : S → ℕ → Activity → List (Next S)) (start : S) (first : ℕ) (marks : List Mark) (held : List (Held S)) (d : Held S) → d.state ≡ start → d.used ≡ 0 → held ≡ [] ++ d ∷ [] → AreHeld unit nexts start first [] marks held
held_first unit nexts start first marks held d s u is = record {
  within = λ e o. elim (subst (λ ys. IsOneOf ys e) is o) [ inl eq ↦ subst (λ x. x.used ≤ length marks) eq (omega arith) | inr z ↦ absurd z ];
  reached = λ e o. elim (subst (λ ys. IsOneOf ys e) is o) [ inl eq ↦ subst (λ x. Reaches unit nexts start first [] (take x.used marks) x.state) eq (sym s, ap (λ k. take k marks) u) | inr z ↦ absurd z ];
  all = λ e le r. subst (λ ys. IsOneOf ys e) (sym is) (inl (held_same e d (sym r.0 ∙ sym s) (taken_long marks e.used [] le r.1 ∙ sym u)));
}

pub held_more : {S : Type 0} (unit : ℕ) (nexts : S → ℕ → Activity → List (Next S)) (start : S) (first : ℕ) (h : List Activity) (marks : List Mark) (held after : List (Held S)) (at : ℕ) (x : Activity) → at ≡ first + unit * length h →
    AreHeld unit nexts start first h marks held → AreAfter nexts at x marks held after → AreHeld unit nexts start first (h ++ x ∷ []) marks after
held_more unit nexts start first h marks held after at x is old new = record {
  within = λ e o. (new.only e o).4.within;
  reached = λ e o. (
      let q = new.only e o in
      let step : Reaches unit nexts q.0.state at (x ∷ []) (option_to_list q.2.mark) q.2.state = (q.2, q.3, [], sym (append-nil (option_to_list q.2.mark)), (refl, refl)) in
      let whole = reaches-append unit nexts h (x ∷ []) start first (take q.0.used marks) q.0.state (option_to_list q.2.mark) q.2.state (old.reached q.0 q.1) (subst (λ n. Reaches unit nexts q.0.state n (x ∷ []) (option_to_list q.2.mark) q.2.state) is step) in
      subst (λ s. Reaches unit nexts start first (h ++ x ∷ []) (take e.used marks) s) (sym q.4.state) (subst (λ ms. Reaches unit nexts start first (h ++ x ∷ []) ms q.2.state) (sym q.4.marked) whole)
      );
  all = λ e le r. (
      let p = reaches_parted unit nexts h (x ∷ []) start first (take e.used marks) e.state r in
      let k = length p.earlier in
      let both : length (p.earlier ++ p.later) ≡ k + length p.later = length-append p.earlier p.later in
      let long : e.used ≡ length (p.earlier ++ p.later) = taken_long marks e.used (p.earlier ++ p.later) le p.marked in
      let within : k ≤ e.used = omega arith in
      let front : take k marks ≡ p.earlier = sym (take-take k e.used marks within) ∙ (ap (take k) p.marked ∙ take_at p.earlier p.later k refl) in
      let d : Held _ = record { state = p.between; used = k } in
      let there = old.all d (omega arith) (subst (λ ms. Reaches unit nexts start first h ms p.between) (sym front) p.front) in
      let n = p.rest.0 in
      let later : p.later ≡ option_to_list n.mark = p.rest.3 ∙ (ap (λ ms. option_to_list n.mark ++ ms) p.rest.4.1 ∙ append-nil (option_to_list n.mark)) in
      new.all d e n there (subst (λ m. IsOneOf (nexts p.between m x) n) (sym is) p.rest.1)
      (record { state = sym p.rest.4.0; within = le; marked = p.marked ∙ (ap (λ ms. ms ++ p.later) (sym front) ∙ ap (λ ms. take k marks ++ ms) later) })
      );
}

pub held_states : {S : Type 0} (unit : ℕ) (is_state : S → ℕ → Type 0) (nexts : S → ℕ → Activity → List (Next S)) (start : S) (first : ℕ) (h : List Activity) (marks : List Mark) (held : List (Held S)) (at : ℕ) → at ≡ first + unit * length h →
    ((s : S) (at : ℕ) (x : Activity) (n : Next S) → is_state s at → IsOneOf (nexts s at x) n → is_state n.state (at + unit)) → is_state start first →
    AreHeld unit nexts start first h marks held → (e : Held S) → IsOneOf held e → is_state e.state at
held_states unit is_state nexts start first h marks held at is next root old e o =
    subst (is_state e.state) (sym is) (reached_state unit is_state nexts next h start first (take e.used marks) e.state root (old.reached e o))

pub held_lawful : {S : Type 0} (unit : ℕ) (nexts : S → ℕ → Activity → List (Next S)) (start : S) (first : ℕ) (h : List Activity) (marks : List Mark) (held : List (Held S)) → AreHeld unit nexts start first h marks held →
    HasAllUsed marks held → (s : S) × Reaches unit nexts start first h marks s
held_lawful unit nexts start first h marks held old a =
    let whole : take a.0.used marks ≡ marks = take_all a.0.used marks (let e = a.2 in omega arith) in
    (a.0.state, subst (λ ms. Reaches unit nexts start first h ms a.0.state) whole (old.reached a.0 a.1))

pub lawful_held : {S : Type 0} (unit : ℕ) (nexts : S → ℕ → Activity → List (Next S)) (start : S) (first : ℕ) (h : List Activity) (marks : List Mark) (held : List (Held S)) → AreHeld unit nexts start first h marks held →
    (s : S) → Reaches unit nexts start first h marks s → HasAllUsed marks held
lawful_held unit nexts start first h marks held old s r =
    let d : Held _ = record { state = s; used = length marks } in
    let whole : take (length marks) marks ≡ marks = take_all (length marks) marks (omega arith) in
    (d, old.all d (omega arith) (subst (λ ms. Reaches unit nexts start first h ms s) (sym whole) r), refl)
