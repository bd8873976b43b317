-- A machine goes on with no units exactly where no marks help them, where a history with its marks reaches one state, and a mark is chosen only where it is first possible.
use Rattle.std.proofs.Common.{◌≡◌, ◌↔◌, ℕ, ◌+◌, ◌*◌, List, [], ◌∷◌, ◌++◌, length, refl, sym, ◌∙◌, ap, subst, arith, length-append, append-nil, append_assoc, ◌⊎◌, inl, inr, suc}
use Rattle.std.specs.Prelude.{Option, None, Some}
use Rattle.std.specs.Option.{option_to_list}
use Rattle.duty_core.specs.declared.activity.Activity.{Activity}
use Rattle.duty_core.specs.declared.mark.Mark.{Mark}
use Rattle.duty_core.specs.declared.params.Params.{Params}
use Rattle.duty_core.specs.Params.{unit_minutes}
use Rattle.duty_core.specs.History.{IsTimed}
use Rattle.duty_core.specs.Laws.HistoryLaws.{length-one_more}
use Rattle.duty_core.specs.Lawful.{IsLawfulWith}
use Rattle.duty_core.specs.Laws.BetweenLaws.{between_keeps}
use Rattle.rule_core.specs.declared.nexts.Next.{Next}
use Rattle.rule_core.specs.Reach.{IsOneOf, Reaches}
use Rattle.rule_core.specs.Laws.ReachLaws.{reaches-append, reaches_parted}
use Rattle.rule_core.specs.Refusal.{IsRefused}
use Rattle.rule_core.specs.Machine.{Machine, LeadsTo}
use Rattle.rule_core.specs.Book.{IsExact}

-- What the law needs of a machine: it is exact, a history with its marks reaches one state, and with a mark that a unit chooses the history before the unit is not lawful.
pub record IsSingle {S : Type 0} (params : Params) (m : Machine S) (first : ℕ) : Type 0 where
  pub exact : IsExact params m first
  pub one : (h : List Activity) (marks : List Mark) (s t : S) → IsTimed params first h → LeadsTo (unit_minutes params) m first h marks s → LeadsTo (unit_minutes params) m first h marks t → s ≡ t
  pub chosen : (h : List Activity) (marks : List Mark) (s : S) (x : Activity) (n : Next S) (mark : Mark) → IsTimed params first h → LeadsTo (unit_minutes params) m first h marks s →
      IsOneOf (m.nexts s (first + unit_minutes params * length h) x) n → n.mark ≡ Some mark → IsLawfulWith params first h (marks ++ mark ∷ []) → ⊥

-- What these units lead the state s to, the first of which begins at this minute. They choose one mark at most.
pub record AreAfter {S : Type 0} (unit : ℕ) (nexts : S → ℕ → Activity → List (Next S)) (s : S) (at : ℕ) (units : List Activity) (after : List (Next S)) : Type 0 where
  pub reached : (t : Next S) → IsOneOf after t → Reaches unit nexts s at units (option_to_list t.mark) t.state
  pub all : (marks : List Mark) (u : S) → Reaches unit nexts s at units marks u → (t : Next S) × IsOneOf after t × (t.state ≡ u) × (marks ≡ option_to_list t.mark)

-- one unit leads to the successors
pub one_after : {S : Type 0} (unit : ℕ) (nexts : S → ℕ → Activity → List (Next S)) (s : S) (at : ℕ) (x : Activity) → AreAfter unit nexts s at (x ∷ []) (nexts s at x)
one_after unit nexts s at x = record {
  reached = λ t o. (t, o, [], sym (append-nil (option_to_list t.mark)), (refl, refl));
  all = λ marks u r. (r.0, r.1, r.4.0, r.3 ∙ (ap (λ ms. option_to_list r.0.mark ++ ms) r.4.1 ∙ append-nil (option_to_list r.0.mark)));
}

-- a front of a timed history is timed
timed_front : (params : Params) (first : ℕ) (h g : List Activity) → IsTimed params first (h ++ g) → IsTimed params first h
timed_front params first h g t =
    let l : unit_minutes params * length (h ++ g) ≡ unit_minutes params * (length h + length g) = ap (λ n. unit_minutes params * n) (length-append h g) in
    let e = t.ends in
    record { begins = t.begins; long = let b = t.long in omega (arith, length-append h g); ends = omega arith }

none_of : {X : Type 0} (xs : List X) → ((x : X) → IsOneOf xs x → ⊥) → xs ≡ []
none_of [] h = refl
none_of (x ∷ xs) h = absurd (h x (inl refl))

-- what a path of h and these units comes by
record Parts {S : Type 0} (unit : ℕ) (nexts : S → ℕ → Activity → List (Next S)) (root : S) (first : ℕ) (h units : List Activity) (marks : List Mark) (after : S → List (Next S)) : Type 0 where
  state : S
  next : Next S
  earlier : List Mark
  front : Reaches unit nexts root first h earlier state
  there : IsOneOf (after state) next
  rest : Reaches unit nexts state (first + unit * length h) units (option_to_list next.mark) next.state
  marked : marks ≡ earlier ++ option_to_list next.mark

-- these units lead each state that h reaches to these successors
abbrev pub LeadTo : {S : Type 0} → ℕ → (S → ℕ → Activity → List (Next S)) → S → ℕ → List Activity → List Activity → (S → List (Next S)) → Type 0
LeadTo {S} unit nexts root first h units after =
    (earlier : List Mark) (t : S) → Reaches unit nexts root first h earlier t → AreAfter unit nexts t (first + unit * length h) units (after t)

parts : {S : Type 0} (unit : ℕ) (nexts : S → ℕ → Activity → List (Next S)) (root : S) (first : ℕ) (h units : List Activity) (marks : List Mark) (after : S → List (Next S)) (u : S) →
    LeadTo unit nexts root first h units after → Reaches unit nexts root first (h ++ units) marks u → Parts unit nexts root first h units marks after
parts unit nexts root first h units marks after u lead r =
    let p = reaches_parted unit nexts h units root first marks u r in
    let a = lead p.earlier p.between p.front in
    let q = a.all p.later u p.rest in
    record {
      state = p.between;
      next = q.0;
      earlier = p.earlier;
      front = p.front;
      there = q.1;
      rest = a.reached q.0 q.1;
      marked = p.marked ∙ ap (λ ms. p.earlier ++ ms) q.3;
    }

length_more : {X : Type 0} (xs : List X) (x : X) → length (xs ++ x ∷ []) ≡ length xs + 1
length_more xs x = omega (arith, length-append xs (x ∷ []))

-- lists with one more at the end
same_front : {X : Type 0} (xs ys : List X) (x y : X) → xs ++ x ∷ [] ≡ ys ++ y ∷ [] → xs ≡ ys
same_front [] [] x y e = refl
same_front [] (z ∷ ys) x y e = absurd (let l : 1 ≡ suc (length (ys ++ y ∷ [])) = ap length e in omega (arith, length_more ys y))
same_front (w ∷ xs) [] x y e = absurd (let l : suc (length (xs ++ x ∷ [])) ≡ 1 = ap length e in omega (arith, length_more xs x))
same_front (w ∷ xs) (z ∷ ys) x y e =
    let a : w ≡ z = cc in
    let b : xs ++ x ∷ [] ≡ ys ++ y ∷ [] = cc in
    let c : xs ≡ ys = same_front xs ys x y b in
    cc

-- the marks of a path whose last units choose none, or one
unmarked_last : (earlier marks : List Mark) (o : Option Mark) → marks ≡ earlier ++ option_to_list o → o ≡ None → earlier ≡ marks
unmarked_last earlier marks o e n = sym (e ∙ (ap (λ p. earlier ++ option_to_list p) n ∙ append-nil earlier))

marked_last : (earlier marks : List Mark) (o : Option Mark) (m : Mark) → marks ≡ earlier ++ option_to_list o → o ≡ Some m → marks ≡ earlier ++ m ∷ []
marked_last earlier marks o m e n = e ∙ ap (λ p. earlier ++ option_to_list p) n

told : (o : Option Mark) → (o ≡ None) ⊎ ((m : Mark) × (o ≡ Some m))
told None = inl refl
told (Some m) = inr (m, refl)

-- With a mark that one of these units chooses h is not lawful, though the history with the units is: else it would be lawful up to that unit.
first_chosen : {S : Type 0} (params : Params) (m : Machine S) (first : ℕ) (units h : List Activity) (marks : List Mark) (s : S) (mark : Mark) (u : S) →
    IsSingle params m first → IsTimed params first (h ++ units) → LeadsTo (unit_minutes params) m first h marks s →
    Reaches (unit_minutes params) m.nexts s (first + unit_minutes params * length h) units (mark ∷ []) u →
    IsLawfulWith params first (h ++ units) (marks ++ mark ∷ []) → IsLawfulWith params first h (marks ++ mark ∷ []) → ⊥
first_chosen params m first [] h marks s mark u d timed r q whole front = let e : mark ∷ [] ≡ [] = q.1 in cc
first_chosen {S} params m first (x ∷ units) h marks s mark u d timed r q whole front =
    let unit : ℕ = unit_minutes params in
    let more : (h ++ x ∷ []) ++ units ≡ h ++ x ∷ units = append_assoc h (x ∷ []) units in
    elim (told q.0.mark) [
      | inr k ↦
          let e : mark ∷ [] ≡ k.0 ∷ q.2 = q.3 ∙ ap (λ o. option_to_list o ++ q.2) k.1 in
          let f : k.0 ≡ mark = cc in
          d.chosen h marks s x q.0 mark (timed_front params first h (x ∷ units) timed) r q.1 (k.1 ∙ ap (λ v. Some v) f) front
      | inl n ↦
          let e : q.2 ≡ mark ∷ [] = sym (q.3 ∙ ap (λ o. option_to_list o ++ q.2) n) in
          let lawful : IsLawfulWith params first ((h ++ x ∷ []) ++ units) (marks ++ mark ∷ []) = subst (λ g. IsLawfulWith params first g (marks ++ mark ∷ [])) (sym more) whole in
          let l : unit * length (h ++ x ∷ []) ≡ unit * (length h + 1) = ap (λ k. unit * k) (length-one_more h x) in
          let on : first + unit * length h + unit ≡ first + unit * length (h ++ x ∷ []) = omega arith in
          let here : Reaches unit m.nexts (m.root first) first (h ++ x ∷ []) (marks ++ option_to_list q.0.mark) q.0.state =
          reaches-append unit m.nexts h (x ∷ []) (m.root first) first marks s (option_to_list q.0.mark) q.0.state r ((one_after unit m.nexts s (first + unit * length h) x).reached q.0 q.1) in
          first_chosen params m first units (h ++ x ∷ []) marks q.0.state mark u d (subst (IsTimed params first) (sym more) timed)
          (subst (λ ms. Reaches unit m.nexts (m.root first) first (h ++ x ∷ []) ms q.0.state) (ap (λ o. marks ++ option_to_list o) n ∙ append-nil marks) here)
          (subst (λ ms. Reaches unit m.nexts q.0.state (first + unit * length (h ++ x ∷ [])) units ms u) e (subst (λ k. Reaches unit m.nexts q.0.state k units q.2 u) on q.4)) lawful
          (between_keeps params first h (x ∷ []) units (marks ++ mark ∷ []) front lawful)
    ]

-- What these units lead a state to is nothing exactly where they are refused.
pub refused_exactly : {S : Type 0} (params : Params) (m : Machine S) (first : ℕ) (h : List Activity) (marks : List Mark) (s : S) (units : List Activity) (after : S → List (Next S)) →
    IsSingle params m first → LeadTo (unit_minutes params) m.nexts (m.root first) first h units after → IsTimed params first (h ++ units) → LeadsTo (unit_minutes params) m first h marks s →
    (after s ≡ []) ↔ IsRefused params first h marks units
refused_exactly {S} params m first h marks s units after d lead timed r =
    let unit : ℕ = unit_minutes params in
    let before : IsTimed params first h = timed_front params first h units timed in
    let none : (all : List Mark) → after s ≡ [] → (l : Parts unit m.nexts (m.root first) first h units all after) → l.earlier ≡ marks → ⊥ =
    (λ all e l f.
    let same : l.state ≡ s = d.one h marks l.state s before (subst (λ ms. Reaches unit m.nexts (m.root first) first h ms l.state) f l.front) r in
    subst (λ ns. IsOneOf ns l.next) e (subst (λ t. IsOneOf (after t) l.next) same l.there)) in (
      (λ e. record {
        unmarked = λ lawful.
            let p = (d.exact (h ++ units) marks timed).1 lawful in
            let l = parts unit m.nexts (m.root first) first h units marks after p.0 lead p.1 in
            elim (told l.next.mark) [
              | inl n ↦ none marks e l (unmarked_last l.earlier marks l.next.mark l.marked n)
              | inr mark ↦
                  let f : marks ≡ l.earlier ++ mark.0 ∷ [] = marked_last l.earlier marks l.next.mark mark.0 l.marked mark.1 in
                  first_chosen params m first units h l.earlier l.state mark.0 l.next.state d timed l.front
                  (subst (λ o. Reaches unit m.nexts l.state (first + unit * length h) units (option_to_list o) l.next.state) mark.1 l.rest) (subst (IsLawfulWith params first (h ++ units)) f lawful)
                  (subst (IsLawfulWith params first h) f ((d.exact h marks before).0 (s, r)))
            ];
        marked = λ mark first_here lawful.
            let p = (d.exact (h ++ units) (marks ++ mark ∷ []) timed).1 lawful in
            let l = parts unit m.nexts (m.root first) first h units (marks ++ mark ∷ []) after p.0 lead p.1 in
            elim (told l.next.mark) [
              | inl n ↦ first_here ((d.exact h (marks ++ mark ∷ []) before).0
                  (l.state, subst (λ ms. Reaches unit m.nexts (m.root first) first h ms l.state) (unmarked_last l.earlier (marks ++ mark ∷ []) l.next.mark l.marked n) l.front))
              | inr k ↦ none (marks ++ mark ∷ []) e l (sym (same_front marks l.earlier mark k.0 (marked_last l.earlier (marks ++ mark ∷ []) l.next.mark k.0 l.marked k.1)))
            ];
      }),
      (λ refused. none_of (after s) (λ n o.
          let on = (lead marks s r).reached n o in
          let q = reaches-append unit m.nexts h units (m.root first) first marks s (option_to_list n.mark) n.state r on in
          let lawful = (d.exact (h ++ units) (marks ++ option_to_list n.mark) timed).0 (n.state, q) in
          elim (told n.mark) [
            | inl e ↦ refused.unmarked (subst (IsLawfulWith params first (h ++ units)) (ap (λ p. marks ++ option_to_list p) e ∙ append-nil marks) lawful)
            | inr mark ↦
                let whole : IsLawfulWith params first (h ++ units) (marks ++ mark.0 ∷ []) = subst (IsLawfulWith params first (h ++ units)) (ap (λ p. marks ++ option_to_list p) mark.1) lawful in
                refused.marked mark.0
                (λ front. first_chosen params m first units h marks s mark.0 n.state d timed r
                (subst (λ p. Reaches unit m.nexts s (first + unit * length h) units (option_to_list p) n.state) mark.1 on) whole front) whole
          ])),
    )

-- the same of one unit
pub refused_at_unit : {S : Type 0} (params : Params) (m : Machine S) (first : ℕ) (h : List Activity) (marks : List Mark) (s : S) (x : Activity) →
    IsSingle params m first → IsTimed params first (h ++ x ∷ []) → LeadsTo (unit_minutes params) m first h marks s →
    (m.nexts s (first + unit_minutes params * length h) x ≡ []) ↔ IsRefused params first h marks (x ∷ [])
refused_at_unit params m first h marks s x d timed r =
    refused_exactly params m first h marks s (x ∷ []) (λ t. m.nexts t (first + unit_minutes params * length h) x) d (λ earlier t q. one_after (unit_minutes params) m.nexts t (first + unit_minutes params * length h) x)
    timed r

-- a call that gives these successors, at a minute that is told otherwise
pub given_refused : {X : Type 0} (given : List X) (after : ℕ → List X) (at from : ℕ) (Refused : Type 0) → given ≡ after at → from ≡ at → (after from ≡ []) ↔ Refused → (given ≡ []) ↔ Refused
given_refused given after at from Refused is e h = subst (λ ns. (ns ≡ []) ↔ Refused) (sym is) (subst (λ k. (after k ≡ []) ↔ Refused) e h)
