-- From a cover list it follows that no solution is shorter than its target.
use Rattle.std.proofs.Common.{◌≡◌, ℕ, ◌+◌, ◌-◌, ◌≤◌, Bool, true, List, [], ◌∷◌, length, refl, sym, ◌∙◌, ap, subst, arith, zero, suc, inl, inr}
use Rattle.std.specs.Prelude.{Option, None, Some, unwrap_or}
use Rattle.duty_core.specs.declared.activity.Activity.{Activity}
use Rattle.duty_core.specs.declared.activity.Activity.TheVariants.{Drive, Serve, Wait, Off, Berth}
use Rattle.duty_core.specs.declared.mark.Mark.{Mark}
use Rattle.duty_core.specs.Activity.{idles}
use Rattle.rule_core.specs.declared.nexts.Next.{Next}
use Rattle.rule_core.specs.Reach.{IsOneOf, Reaches}
use Rattle.tour_model.specs.declared.label.Label.{Label}
use Rattle.tour_model.specs.Way.{done_after}
use Rattle.tour_model.specs.Schedule.{depart_from, duration}
use Rattle.tour_model.specs.Layer.{layer_at}
use Rattle.cert_text.specs.CoverLists.Problem.{Problem, departed, root_label, grow, successors_of, later, is_better}
use Rattle.cert_text.specs.CoverLists.Cover.{IsAtLeast, IsPrunedBy, IsPruned, IsLabelAt, IsCoverList}
use Rattle.cert_text.specs.CoverLists.Continuation.{IsAllowedFrom, departed_after, Continues, takes}
use Rattle.cert_text.specs.CoverLists.Laws.ProblemLaws.{IsProblem}
use Rattle.cert_text.specs.CoverLists.Laws.BetterLaws.{better_from, better_itself, later_itself, departed_idle, departed_once, done_idle, grown_may, successor_by}
use Rattle.cert_text.specs.CoverLists.Laws.ContinuationLaws.{fewer, better_answers, label_more, rest_of, takes_more, bound_by}

pub at_least_more : (target : Option ℕ) (n m : ℕ) → n ≤ m → IsAtLeast target n → IsAtLeast target m
at_least_more None n m l h = h
at_least_more (Some t) n m l h = let i : t ≤ n = h in omega arith

-- what is pruned by one measure is pruned by each that holds wherever the first does
pub pruned_more : (long more : ℕ → Type 0) (depart bound : Option ℕ) → ((n : ℕ) → long n → more n) → IsPrunedBy long depart bound → IsPrunedBy more depart bound
pruned_more long more depart None above h = tt
pruned_more long more None (Some bound) above h = h
pruned_more long more (Some depart) (Some bound) above h = above (bound - depart) h

-- what is pruned and ends somewhere has departed, and takes long
pub pruned_departed : (long : ℕ → Type 0) (depart : Option ℕ) (bound : ℕ) → IsPrunedBy long depart (Some bound) → (d : ℕ) × (depart ≡ Some d) × long (bound - d)
pruned_departed long None bound h = absurd h
pruned_departed long (Some depart) bound h = (depart, refl, h)

-- a departure stays
pub departed_stays : (c k : ℕ) (ys : List Activity) → departed_after (Some c) k ys ≡ Some c
departed_stays c k [] = refl
departed_stays c k (x ∷ ys) = ap (λ o. departed_after o (k + 1) ys) (departed_once c x k) ∙ departed_stays c (k + 1) ys

pub departed_from : (k : ℕ) (ys : List Activity) → departed_after None k ys ≡ depart_from k ys
departed_from k [] = refl
departed_from k (Drive ∷ ys) = departed_stays k (k + 1) ys
departed_from k (Serve ∷ ys) = departed_stays k (k + 1) ys
departed_from k (Wait ∷ ys) = departed_from (k + 1) ys
departed_from k (Off ∷ ys) = departed_from (k + 1) ys
departed_from k (Berth ∷ ys) = departed_from (k + 1) ys

-- where a label is pruned, nothing that continues it takes less than the target
pub pruned_takes : {S : Type 0} (problem : Problem S) (is_state : S → ℕ → Type 0) (allowed : Activity → Bool) (target : Option ℕ) → IsProblem problem is_state allowed → (xs : List Activity) (k : ℕ) (l : Label S) →
    IsLabelAt is_state problem.goal k l → Continues problem allowed k l xs → IsPruned problem target k l → IsAtLeast target (takes k l xs)
pruned_takes problem is_state allowed target laws xs k l here c off =
    let q = bound_by problem is_state allowed laws xs k l here c in
    let by = q.by in
    let long = pruned_departed (IsAtLeast target) l.depart q.at (subst (IsPrunedBy (IsAtLeast target) l.depart) q.is off) in
    let f : departed_after l.depart k xs ≡ Some long.0 = ap (λ o. departed_after o k xs) long.1 ∙ departed_stays long.0 k xs in
    at_least_more target (q.at - long.0) (takes k l xs)
    (fewer q.at (k + length xs) (Some long.0) (departed_after l.depart k xs) long.0 long.0 refl f (omega arith) (omega arith)) long.2

-- A successor that is better than a label.
pub record Answer {S : Type 0} (problem : Problem S) (k : ℕ) (l after : Label S) : Type 0 where
  pub act : Activity
  pub next : Next S
  pub may : problem.may k l.progress act ≡ true
  pub follows : IsOneOf (problem.nexts l.state k act) next
  pub is : IsOneOf (successors_of problem k l) (grow l k act next)
  pub better : is_better problem (k + 1) (grow l k act next).label after ≡ true

-- by driving and service it is the same
answer_work : {S : Type 0} (problem : Problem S) (is_state : S → ℕ → Type 0) (allowed : Activity → Bool) → IsProblem problem is_state allowed → (k : ℕ) (l : Label S) (x : Activity) (n : Next S) →
    IsOneOf (Drive ∷ Serve ∷ problem.tries l.state) x → IsLabelAt is_state problem.goal k l → problem.may k l.progress x ≡ true → IsOneOf (problem.nexts l.state k x) n → Answer problem k l (grow l k x n).label
answer_work problem is_state allowed laws k l x n tried here may follows = record {
  act = x;
  next = n;
  may = may;
  follows = follows;
  is = successor_by problem k l x (grow l k x n) tried (grown_may problem k l x n may follows);
  better = better_itself problem is_state allowed laws (k + 1) (grow l k x n).label (laws.next_is l.state k x n here.state follows);
}

-- by an idle activity it is by one to try
answer_idle : {S : Type 0} (problem : Problem S) (is_state : S → ℕ → Type 0) (allowed : Activity → Bool) → IsProblem problem is_state allowed → (k : ℕ) (l : Label S) (x : Activity) (n : Next S) →
    idles x ≡ true → allowed x ≡ true → IsLabelAt is_state problem.goal k l → problem.may k l.progress x ≡ true → IsOneOf (problem.nexts l.state k x) n → Answer problem k l (grow l k x n).label
answer_idle problem is_state allowed laws k l x n idle ok here may follows =
    let q = laws.tries_cover l.state k x n here.state idle ok follows in
    let y = q.0 in
    let u = q.2 in
    let i = laws.tries_idle l.state k y here.state q.1 in
    let may_y = laws.may_idle k l.progress x y idle i.0 may in
    let same : departed l.depart x k ≡ departed l.depart y k = departed_idle l.depart x k idle ∙ sym (departed_idle l.depart y k i.0) in
    record {
      act = y;
      next = u.0;
      may = may_y;
      follows = u.1;
      is = successor_by problem k l y (grow l k y u.0) (inr (inr q.1)) (grown_may problem k l y u.0 may_y u.1);
      better = better_from problem (k + 1) (grow l k y u.0).label (grow l k x n).label (record {
        depart = subst (λ o. later (departed l.depart y k) o ≡ true) (sym same) (later_itself (departed l.depart y k));
        progress = inl (done_idle l.progress y i.0 ∙ sym (done_idle l.progress x idle));
        state = u.2;
      });
    }

pub answer : {S : Type 0} (problem : Problem S) (is_state : S → ℕ → Type 0) (allowed : Activity → Bool) → IsProblem problem is_state allowed → (k : ℕ) (l : Label S) (x : Activity) (n : Next S) →
    allowed x ≡ true → IsLabelAt is_state problem.goal k l → problem.may k l.progress x ≡ true → IsOneOf (problem.nexts l.state k x) n → Answer problem k l (grow l k x n).label
answer problem is_state allowed laws k l Drive n ok here may follows = answer_work problem is_state allowed laws k l Drive n (inl refl) here may follows
answer problem is_state allowed laws k l Serve n ok here may follows = answer_work problem is_state allowed laws k l Serve n (inr (inl refl)) here may follows
answer problem is_state allowed laws k l Wait n ok here may follows = answer_idle problem is_state allowed laws k l Wait n refl ok here may follows
answer problem is_state allowed laws k l Off n ok here may follows = answer_idle problem is_state allowed laws k l Off n refl ok here may follows
answer problem is_state allowed laws k l Berth n ok here may follows = answer_idle problem is_state allowed laws k l Berth n refl ok here may follows

-- Whatever continues a label of the list takes no less than the target. This goes by the number of the steps: what answers a continuation has as many.
listed_takes : {S : Type 0} (problem : Problem S) (is_state : S → ℕ → Type 0) (allowed : Activity → Bool) (starts : S → Type 0) (target : Option ℕ) (layers : List (List (Label S))) →
    IsProblem problem is_state allowed → IsCoverList problem is_state starts target layers →
    (n : ℕ) (xs : List Activity) → length xs ≡ n → (k : ℕ) (l : Label S) → IsOneOf (layer_at layers k) l → Continues problem allowed k l xs → IsAtLeast target (takes k l xs)
listed_takes problem is_state allowed starts target layers laws covers n [] many k l o c =
    subst (λ n. IsAtLeast target (n - unwrap_or l.depart 0)) (let e : k ≡ k + 0 = omega arith in e) (covers.finished k l o c.finishes)
listed_takes problem is_state allowed starts target layers laws covers zero (x ∷ xs) many k l o c = absurd (omega arith)
listed_takes problem is_state allowed starts target layers laws covers (suc n) (x ∷ xs) many k l o c =
    let here = covers.labels k l o in
    let may = c.goes.0 in
    let r = rest_of problem allowed k l x xs c in
    let after = (grow l k x r.next).label in
    let a = answer problem is_state allowed laws k l x r.next c.goes.1 here may r.follows in
    let g = grow l k a.act a.next in
    let there = label_more problem is_state allowed laws k l a.act a.next here a.may a.follows in
    let w = better_answers problem is_state allowed laws (k + 1) g.label after there (label_more problem is_state allowed laws k l x r.next here may r.follows) a.better xs r.rest in
    let same = w.2 in
    subst (IsAtLeast target) (takes_more k l x r.next xs)
    (at_least_more target (takes (k + 1) g.label w.0) (takes (k + 1) after xs) w.3 (elim (covers.answered k l o (laws.may_before k l.progress x may) g a.is) [
      | inl off ↦ pruned_takes problem is_state allowed target laws w.0 (k + 1) g.label there w.1 off
      | inr kept ↦
          let v = better_answers problem is_state allowed laws (k + 1) kept.0 g.label (covers.labels (k + 1) kept.0 kept.1) there kept.2 w.0 w.1 in
          let long = v.2 in
          at_least_more target (takes (k + 1) kept.0 v.0) (takes (k + 1) g.label w.0) v.3
          (listed_takes problem is_state allowed starts target layers laws covers n v.0 (omega arith) (k + 1) kept.0 kept.1 v.1)
    ]))

-- A whole way through the problem from a state that it may start in takes no less than the target of a cover list.
pub no_shorter : {S : Type 0} (problem : Problem S) (is_state : S → ℕ → Type 0) (allowed : Activity → Bool) (starts : S → Type 0) (target : Option ℕ) (layers : List (List (Label S))) →
    IsProblem problem is_state allowed → IsCoverList problem is_state starts target layers →
    (s : S) → starts s → is_state s 0 →
    (xs : List Activity) (marks : List Mark) (t : S) → IsAllowedFrom problem allowed 0 0 xs → done_after 0 xs ≡ problem.goal →
    Reaches 1 problem.nexts s 0 xs marks t → IsAtLeast target (duration xs)
no_shorter problem is_state allowed starts target layers laws covers s start there xs marks t goes ends path =
    let c = covers.started s start in
    let root : IsLabelAt is_state problem.goal 0 (root_label s) = record { state = there; progress = omega arith; still = λ e. refl; departed = λ some. absurd (omega arith) } in
    let w = better_answers problem is_state allowed laws 0 c.0 (root_label s) (covers.labels 0 c.0 c.1) root c.2 xs (record { goes = goes; finishes = ends; marks = marks; end = t; path = path }) in
    let whole = at_least_more target (takes 0 c.0 w.0) (takes 0 (root_label s) xs) w.3 (listed_takes problem is_state allowed starts target layers laws covers (length w.0) w.0 refl 0 c.0 c.1 w.1) in
    let z : 0 + length xs ≡ length xs = omega arith in
    subst (λ o. IsAtLeast target (length xs - unwrap_or o 0)) (departed_from 0 xs)
    (subst (λ m. IsAtLeast target (m - unwrap_or (departed_after None 0 xs) 0)) z whole)
