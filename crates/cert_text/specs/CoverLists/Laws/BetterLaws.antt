-- A better label, taken apart, put together and followed by one more step.
use Rattle.std.proofs.Common.{◌≡◌, ℕ, ◌+◌, ◌<◌, ◌≤◌, Bool, true, false, ◌∷◌, refl, sym, ◌∙◌, subst, arith, inl, inr}
use Rattle.std.specs.Prelude.{Option, None, Some, nat_le, nat_lt, ◌==◌, ◌&&◌, ◌||◌, ◌⊎◌, unwrap_or}
use Rattle.std.proofs.lemmas.Bool.{and_parts, and_from}
use Rattle.std.proofs.lemmas.Bool.Decides.{nat_tests}
use Rattle.duty_core.specs.declared.activity.Activity.{Activity}
use Rattle.duty_core.specs.declared.activity.Activity.TheVariants.{Drive, Serve, Wait, Off, Berth}
use Rattle.duty_core.specs.Activity.{idles}
use Rattle.rule_core.specs.declared.nexts.Next.{Next}
use Rattle.rule_core.specs.Reach.{IsOneOf}
use Rattle.rule_core.specs.Laws.OneOf.{one_of_map, one_of_flat_map, one_of-map, one_of-flat_map}
use Rattle.tour_model.specs.declared.label.Label.{Label}
use Rattle.cert_text.specs.declared.cover_lists.grown.Grown.{Grown}
use Rattle.tour_model.specs.Way.{done}
use Rattle.cert_text.specs.CoverLists.Problem.{Problem, departed, grow, grown_by, successors_of, later, can_wait_for, is_better}
use Rattle.cert_text.specs.CoverLists.Laws.ProblemLaws.{IsProblem}

-- the parts of waiting
pub record CanWaitFor {S : Type 0} (problem : Problem S) (a b : Label S) : Type 0 where
  pub more : b.progress < a.progress
  pub may_idle : problem.may_idle a.progress ≡ true
  pub ahead : problem.ahead a.state ≡ true

-- It has done as much, or can wait.
abbrev pub KeepsUp : {S : Type 0} → Problem S → Label S → Label S → Type 0
KeepsUp problem a b = (a.progress ≡ b.progress) ⊎ CanWaitFor problem a b

-- the parts of better
pub record AreBetter {S : Type 0} (problem : Problem S) (step : ℕ) (a b : Label S) : Type 0 where
  pub depart : later a.depart b.depart ≡ true
  pub progress : KeepsUp problem a b
  pub state : problem.covers a.state b.state step ≡ true

wait_means : {S : Type 0} (problem : Problem S) (a b : Label S) → can_wait_for problem a b ≡ true → CanWaitFor problem a b
wait_means problem a b h =
    let p = and_parts (nat_lt b.progress a.progress && problem.may_idle a.progress) (problem.ahead a.state) h in
    let q = and_parts (nat_lt b.progress a.progress) (problem.may_idle a.progress) p.0 in
    record { more = (let e = q.0 in grind (arith, nat_tests, e)); may_idle = q.1; ahead = p.1 }

wait_from : {S : Type 0} (problem : Problem S) (a b : Label S) → CanWaitFor problem a b → can_wait_for problem a b ≡ true
wait_from problem a b h =
    let e : nat_lt b.progress a.progress ≡ true = (let f = h.more in grind (arith, nat_tests, f)) in
    and_from (nat_lt b.progress a.progress && problem.may_idle a.progress) (problem.ahead a.state) (and_from (nat_lt b.progress a.progress) (problem.may_idle a.progress) e h.may_idle) h.ahead

-- one of two tests
either : (x y : Bool) → (x || y) ≡ true → (x ≡ true) ⊎ (y ≡ true)
either true y h = inl refl
either false y h = inr h

left_or : (x y : Bool) → x ≡ true → (x || y) ≡ true
left_or true y h = refl
left_or false y h = absurd (let z : false ≡ true = h in cc)

right_or : (x y : Bool) → y ≡ true → (x || y) ≡ true
right_or true y h = refl
right_or false y h = h

up_means : {S : Type 0} (problem : Problem S) (a b : Label S) → (a.progress == b.progress || can_wait_for problem a b) ≡ true → KeepsUp problem a b
up_means problem a b h = elim (either (a.progress == b.progress) (can_wait_for problem a b) h) [
  | inl e ↦ inl (grind (arith, nat_tests, e))
  | inr w ↦ inr (wait_means problem a b w)
]

up_from : {S : Type 0} (problem : Problem S) (a b : Label S) → KeepsUp problem a b → (a.progress == b.progress || can_wait_for problem a b) ≡ true
up_from problem a b (inl e) = left_or (a.progress == b.progress) (can_wait_for problem a b) (grind (arith, nat_tests, e))
up_from problem a b (inr w) = right_or (a.progress == b.progress) (can_wait_for problem a b) (wait_from problem a b w)

pub better_means : {S : Type 0} (problem : Problem S) (step : ℕ) (a b : Label S) → is_better problem step a b ≡ true → AreBetter problem step a b
better_means problem step a b h =
    let up = a.progress == b.progress || can_wait_for problem a b in
    let p = and_parts (later a.depart b.depart && up) (problem.covers a.state b.state step) h in
    let q = and_parts (later a.depart b.depart) up p.0 in
    record { depart = q.0; progress = up_means problem a b q.1; state = p.1 }

pub better_from : {S : Type 0} (problem : Problem S) (step : ℕ) (a b : Label S) → AreBetter problem step a b → is_better problem step a b ≡ true
better_from problem step a b h =
    let up = a.progress == b.progress || can_wait_for problem a b in
    and_from (later a.depart b.depart && up) (problem.covers a.state b.state step) (and_from (later a.depart b.depart) up h.depart (up_from problem a b h.progress)) h.state

pub later_on : (a b c : Option ℕ) → later a b ≡ true → later b c ≡ true → later a c ≡ true
later_on None b c h i = refl
later_on (Some x) None c h i = absurd (let e : false ≡ true = h in cc)
later_on (Some x) (Some y) None h i = absurd (let e : false ≡ true = i in cc)
later_on (Some x) (Some y) (Some z) h i = grind (arith, nat_tests)

-- a departure that is not earlier than one that is there
pub later_some : (x : ℕ) (d : Option ℕ) → later (Some x) d ≡ true → (c : ℕ) × (d ≡ Some c) × (c ≤ x)
later_some x None h = absurd (let e : false ≡ true = h in cc)
later_some x (Some c) h = (c, refl, grind (arith, nat_tests))

-- a departure that is not after this step
abbrev pub IsPast : Option ℕ → ℕ → Type 0
IsPast None k = Unit {0}
IsPast (Some y) k = y ≤ k

le_test : (x y : ℕ) → x ≤ y → nat_le x y ≡ true
le_test x y h = grind (arith, nat_tests)

later_work : (a b : Option ℕ) (k : ℕ) → IsPast b k → later a b ≡ true → later (Some (unwrap_or a k)) (Some (unwrap_or b k)) ≡ true
later_work None None k p h = le_test k k (omega arith)
later_work None (Some y) k p h = le_test y k p
later_work (Some x) None k p h = absurd (let e : false ≡ true = h in cc)
later_work (Some x) (Some y) k p h = h

-- one more step of the same activity
pub later_departed : (a b : Option ℕ) (x : Activity) (k : ℕ) → IsPast b k → later a b ≡ true → later (departed a x k) (departed b x k) ≡ true
later_departed a b Drive k p h = later_work a b k p h
later_departed a b Serve k p h = later_work a b k p h
later_departed a b Wait k p h = h
later_departed a b Off k p h = h
later_departed a b Berth k p h = h

pub past_more : (d : Option ℕ) (x : Activity) (k : ℕ) → IsPast d k → IsPast (departed d x k) (k + 1)
past_more None Drive k p = omega arith
past_more None Serve k p = omega arith
past_more None Wait k p = tt
past_more None Off k p = tt
past_more None Berth k p = tt
past_more (Some y) Drive k p = let q : y ≤ k = p in omega arith
past_more (Some y) Serve k p = let q : y ≤ k = p in omega arith
past_more (Some y) Wait k p = let q : y ≤ k = p in omega arith
past_more (Some y) Off k p = let q : y ≤ k = p in omega arith
past_more (Some y) Berth k p = let q : y ≤ k = p in omega arith

-- what an idle activity leaves
pub departed_idle : (d : Option ℕ) (x : Activity) (k : ℕ) → idles x ≡ true → departed d x k ≡ d
departed_idle d Drive k i = absurd (let e : false ≡ true = i in cc)
departed_idle d Serve k i = absurd (let e : false ≡ true = i in cc)
departed_idle d Wait k i = refl
departed_idle d Off k i = refl
departed_idle d Berth k i = refl

pub done_idle : (p : ℕ) (x : Activity) → idles x ≡ true → done p x ≡ p
done_idle p Drive i = absurd (let e : false ≡ true = i in cc)
done_idle p Serve i = absurd (let e : false ≡ true = i in cc)
done_idle p Wait i = refl
done_idle p Off i = refl
done_idle p Berth i = refl

-- a departure stays
pub departed_once : (d : ℕ) (x : Activity) (k : ℕ) → departed (Some d) x k ≡ Some d
departed_once d Drive k = refl
departed_once d Serve k = refl
departed_once d Wait k = refl
departed_once d Off k = refl
departed_once d Berth k = refl

-- what idles stays no earlier than what does anything, once it has departed
pub later_idle : (a b : Option ℕ) (y x : Activity) (k c : ℕ) → idles y ≡ true → a ≡ Some c → later a b ≡ true → later (departed a y k) (departed b x k) ≡ true
later_idle a None y x k c i e h = absurd (let z : false ≡ true = subst (λ o. later o None ≡ true) e h in cc)
later_idle a (Some d) y x k c i e h =
    subst (λ o. later o (departed (Some d) x k) ≡ true) (sym (departed_idle a y k i)) (subst (λ o. later a o ≡ true) (sym (departed_once d x k)) h)

-- one activity does one step of the work at most
pub done_by_one : (p : ℕ) (x : Activity) → done p x ≤ p + 1
done_by_one p Drive = omega arith
done_by_one p Serve = omega arith
done_by_one p Wait = omega arith
done_by_one p Off = omega arith
done_by_one p Berth = omega arith

-- where the tour allows an activity and the book has a successor, the label has one
pub grown_may : {S : Type 0} (problem : Problem S) (step : ℕ) (l : Label S) (x : Activity) (n : Next S) → problem.may step l.progress x ≡ true → IsOneOf (problem.nexts l.state step x) n → IsOneOf (grown_by problem step l x) (grow l step x n)
grown_may problem step l x n m h = rw m (one_of_map (grow l step x) (problem.nexts l.state step x) n h)

-- a successor by an activity is one
pub successor_by : {S : Type 0} (problem : Problem S) (step : ℕ) (l : Label S) (x : Activity) (g : Grown S) → IsOneOf (Drive ∷ Serve ∷ problem.tries l.state) x → IsOneOf (grown_by problem step l x) g → IsOneOf (successors_of problem step l) g
unfolding successors_of
successor_by problem step l x g i h = one_of_flat_map (grown_by problem step l) (Drive ∷ Serve ∷ problem.tries l.state) x g i h

-- a successor, taken apart
pub record IsGrown {S : Type 0} (problem : Problem S) (step : ℕ) (l : Label S) (g : Grown S) : Type 0 where
  pub by : Activity
  pub tried : IsOneOf (Drive ∷ Serve ∷ problem.tries l.state) by
  pub may : problem.may step l.progress by ≡ true
  pub next : Next S
  pub follows : IsOneOf (problem.nexts l.state step by) next
  pub is : grow l step by next ≡ g

grown_of : {S : Type 0} (problem : Problem S) (step : ℕ) (l : Label S) (x : Activity) (g : Grown S) → IsOneOf (Drive ∷ Serve ∷ problem.tries l.state) x → (b : Bool) → problem.may step l.progress x ≡ b → IsOneOf (grown_by problem step l x) g → IsGrown problem step l g
grown_of problem step l x g i true m h =
    let q = one_of-map (grow l step x) (problem.nexts l.state step x) g (rw m at h) in
    record { by = x; tried = i; may = m; next = q.0; follows = q.1; is = q.2 }
grown_of problem step l x g i false m h = absurd (rw m at h)

pub grown_from : {S : Type 0} (problem : Problem S) (step : ℕ) (l : Label S) (g : Grown S) → IsOneOf (successors_of problem step l) g → IsGrown problem step l g
unfolding successors_of
grown_from problem step l g h =
    let q = one_of-flat_map (grown_by problem step l) (Drive ∷ Serve ∷ problem.tries l.state) g h in
    grown_of problem step l q.0 g q.1 (problem.may step l.progress q.0) refl q.2

-- what keeps up with a label keeps up with each that has done as much
up_on : {S : Type 0} (problem : Problem S) (a b c : Label S) → b.progress ≡ c.progress → KeepsUp problem a b → KeepsUp problem a c
up_on problem a b c e (inl f) = inl (f ∙ e)
up_on problem a b c e (inr w) = inr (record { more = subst (λ p. p < a.progress) e w.more; may_idle = w.may_idle; ahead = w.ahead })

-- better than what is better, and has done as much
pub better_on : {S : Type 0} (problem : Problem S) (is_state : S → ℕ → Type 0) (allowed : Activity → Bool) → IsProblem problem is_state allowed → (step : ℕ) (a b c : Label S) →
    is_state a.state step → is_state b.state step → is_state c.state step → b.progress ≡ c.progress → is_better problem step a b ≡ true → is_better problem step b c ≡ true → is_better problem step a c ≡ true
better_on problem is_state allowed laws step a b c i j l e h g =
    let x = better_means problem step a b h in let y = better_means problem step b c g in
    better_from problem step a c (record {
      depart = later_on a.depart b.depart c.depart x.depart y.depart;
      progress = up_on problem a b c e x.progress;
      state = laws.on a.state b.state c.state step i j l x.state y.state;
    })

pub later_itself : (d : Option ℕ) → later d d ≡ true
later_itself None = refl
later_itself (Some x) = le_test x x (omega arith)

-- a label is better than itself
pub better_itself : {S : Type 0} (problem : Problem S) (is_state : S → ℕ → Type 0) (allowed : Activity → Bool) → IsProblem problem is_state allowed → (step : ℕ) (a : Label S) →
    is_state a.state step → is_better problem step a a ≡ true
better_itself problem is_state allowed laws step a i =
    better_from problem step a a (record { depart = later_itself a.depart; progress = inl refl; state = laws.itself a.state step i })
