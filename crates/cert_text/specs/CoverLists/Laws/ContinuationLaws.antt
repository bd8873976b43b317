-- A better label answers each continuation of the other, and a label ends no sooner than its bound.
use Rattle.std.proofs.Common.{◌≡◌, ℕ, ◌+◌, ◌-◌, ◌<◌, ◌≤◌, Bool, true, List, [], ◌∷◌, ◌++◌, length, refl, sym, ◌∙◌, ap, subst, arith, zero, suc, inl, inr}
use Rattle.std.specs.Prelude.{Option, None, Some, unwrap_or}
use Rattle.std.specs.Option.{option_to_list}
use Rattle.std.proofs.lemmas.Bool.{cases_lt}
use Rattle.duty_core.specs.declared.activity.Activity.{Activity}
use Rattle.duty_core.specs.declared.activity.Activity.TheVariants.{Drive, Serve, Wait, Off, Berth}
use Rattle.duty_core.specs.declared.mark.Mark.{Mark}
use Rattle.duty_core.specs.Activity.{idles}
use Rattle.rule_core.specs.declared.nexts.Next.{Next}
use Rattle.rule_core.specs.Reach.{IsOneOf, Reaches}
use Rattle.tour_model.specs.declared.label.Label.{Label}
use Rattle.tour_model.specs.Way.{done, done_after}
use Rattle.tour_model.specs.Laws.WindowLaws.{IsBy}
use Rattle.cert_text.specs.CoverLists.Problem.{Problem, departed, grow, later, is_better}
use Rattle.cert_text.specs.CoverLists.Cover.{IsLabelAt}
use Rattle.cert_text.specs.CoverLists.Continuation.{IsAllowedFrom, departed_after, Continues, takes, AnswersContinuations}
use Rattle.cert_text.specs.CoverLists.Laws.ProblemLaws.{IsProblem}
use Rattle.cert_text.specs.CoverLists.Laws.BetterLaws.{CanWaitFor, KeepsUp, AreBetter, better_means, later_some, later_idle, IsPast, later_departed, past_more, done_idle, done_by_one}

-- A path along these activities.
pub record HasPath {S : Type 0} (problem : Problem S) (s : S) (k : ℕ) (xs : List Activity) : Type 0 where
  pub marks : List Mark
  pub end : S
  pub path : Reaches 1 problem.nexts s k xs marks end

-- a state that covers another goes along with it
pub goes_along : {S : Type 0} (problem : Problem S) (is_state : S → ℕ → Type 0) (allowed : Activity → Bool) → IsProblem problem is_state allowed →
    (xs : List Activity) (a b : S) (k p : ℕ) (marks : List Mark) (t : S) → is_state a k → is_state b k → problem.covers a b k ≡ true → IsAllowedFrom problem allowed k p xs →
    Reaches 1 problem.nexts b k xs marks t → HasPath problem a k xs
goes_along problem is_state allowed laws [] a b k p marks t i j c goes r = record { marks = []; end = a; path = (refl, refl) }
goes_along problem is_state allowed laws (x ∷ xs) a b k p marks t i j c goes r =
    let s = laws.simulates a b k x r.0 i j c goes.1 r.1 in
    let q = goes_along problem is_state allowed laws xs s.0.state r.0.state (k + 1) (done p x) r.2 t (laws.next_is a k x s.0 i s.1) (laws.next_is b k x r.0 j r.1) s.2 goes.2 r.4 in
    record { marks = option_to_list s.0.mark ++ q.marks; end = q.end; path = (s.0, s.1, q.marks, refl, q.path) }

-- a later departure stays later
later_after : (xs : List Activity) (a b : Option ℕ) (k : ℕ) → IsPast b k → later a b ≡ true → later (departed_after a k xs) (departed_after b k xs) ≡ true
later_after [] a b k p h = h
later_after (x ∷ xs) a b k p h = later_after xs (departed a x k) (departed b x k) (k + 1) (past_more b x k p) (later_departed a b x k p h)

-- what has done something has departed
HasDeparted : Option ℕ → ℕ → Type 0
HasDeparted d p = 0 < p → (c : ℕ) × (d ≡ Some c)

departed_more : (d : Option ℕ) (p k : ℕ) (x : Activity) → HasDeparted d p → HasDeparted (departed d x k) (done p x)
unfolding HasDeparted
departed_more d p k Drive h = λ some. (unwrap_or d k, refl)
departed_more d p k Serve h = λ some. (unwrap_or d k, refl)
departed_more d p k Wait h = h
departed_more d p k Off h = h
departed_more d p k Berth h = h

departed_whole : (xs : List Activity) (d : Option ℕ) (p k : ℕ) → HasDeparted d p → HasDeparted (departed_after d k xs) (done_after p xs)
departed_whole [] d p k h = h
departed_whole (x ∷ xs) d p k h = departed_whole xs (departed d x k) (done p x) (k + 1) (departed_more d p k x h)

label_departed : {S : Type 0} (is_state : S → ℕ → Type 0) (goal k : ℕ) (l : Label S) → IsLabelAt is_state goal k l → HasDeparted l.depart l.progress
unfolding HasDeparted
label_departed is_state goal k l h = λ some. (let d = h.departed some in (d.0, d.1))

past_of : (d : Option ℕ) (p k : ℕ) → (p ≡ 0 → d ≡ None) → (0 < p → (c : ℕ) × (d ≡ Some c) × (c < k)) → IsPast d k
past_of None p k still gone = tt
past_of (Some y) zero k still gone = absurd (let e = still refl in cc)
past_of (Some y) (suc p) k still gone = let g = gone (omega arith) in let e : y ≡ g.0 = (let f = g.1 in cc) in let lt = g.2 in omega arith

-- a later departure leaves fewer steps
pub fewer : (n m : ℕ) (a d : Option ℕ) (x c : ℕ) → a ≡ Some x → d ≡ Some c → c ≤ x → n ≤ m → n - unwrap_or a 0 ≤ m - unwrap_or d 0
fewer n m a d x c e f l h = rw (e, f) (omega arith)

takes_no_more : {S : Type 0} (problem : Problem S) (is_state : S → ℕ → Type 0) (allowed : Activity → Bool) → IsProblem problem is_state allowed → (step : ℕ) (a b : Label S) (xs : List Activity) →
    IsLabelAt is_state problem.goal step a → IsLabelAt is_state problem.goal step b → later a.depart b.depart ≡ true → done_after a.progress xs ≡ problem.goal → takes step a xs ≤ takes step b xs
unfolding HasDeparted
takes_no_more problem is_state allowed laws step a b xs i j h ends =
    let goal = laws.goal_some in
    let d = departed_whole xs a.depart a.progress step (label_departed is_state problem.goal step a i) (omega arith) in
    let l = later_after xs a.depart b.depart step (past_of b.depart b.progress step j.still j.departed) h in
    let old = later_some d.0 (departed_after b.depart step xs) (subst (λ o. later o (departed_after b.depart step xs) ≡ true) d.1 l) in
    fewer (step + length xs) (step + length xs) (departed_after a.depart step xs) (departed_after b.depart step xs) d.0 old.0 d.1 old.1 old.2 (omega arith)

-- A continuation of a that ends where one of b does, and takes no more.
abbrev pub IsMatched : {S : Type 0} → Problem S → (Activity → Bool) → ℕ → Label S → Label S → List Activity → Type 0
IsMatched problem allowed step a b xs = (ys : List Activity) × Continues problem allowed step a ys × (length ys ≡ length xs) × (takes step a ys ≤ takes step b xs)

-- Where a better label has done as much, it goes along.
level_matched : {S : Type 0} (problem : Problem S) (is_state : S → ℕ → Type 0) (allowed : Activity → Bool) → IsProblem problem is_state allowed → (step : ℕ) (a b : Label S) →
    IsLabelAt is_state problem.goal step a → IsLabelAt is_state problem.goal step b → AreBetter problem step a b → a.progress ≡ b.progress →
    (xs : List Activity) → Continues problem allowed step b xs → IsMatched problem allowed step a b xs
level_matched problem is_state allowed laws step a b i j h e xs c =
    let goes = subst (λ p. IsAllowedFrom problem allowed step p xs) (sym e) c.goes in
    let ends = ap (λ p. done_after p xs) e ∙ c.finishes in
    let w = goes_along problem is_state allowed laws xs a.state b.state step b.progress c.marks c.end i.state j.state h.state c.goes c.path in (
      xs,
      record { goes = goes; finishes = ends; marks = w.marks; end = w.end; path = w.path },
      refl,
      takes_no_more problem is_state allowed laws step a b xs i j h.depart ends,
    )

-- what an activity makes of a label of one step is a label of the next
label_work : {S : Type 0} (is_state : S → ℕ → Type 0) (goal k p : ℕ) (d : Option ℕ) (s t : S) → p < goal → IsLabelAt is_state goal k (record { depart = d; progress = p; state = s }) → is_state t (k + 1) →
    IsLabelAt is_state goal (k + 1) (record { depart = Some (unwrap_or d k); progress = p + 1; state = t })
label_work is_state goal k p None s t less h there = record { state = there; progress = omega arith; still = λ e. absurd (omega arith); departed = λ some. (k, refl, omega arith) }
label_work is_state goal k zero (Some d) s t less h there = absurd (let e = h.still refl in cc)
label_work is_state goal k (suc p) (Some d) s t less h there = record {
  state = there;
  progress = omega arith;
  still = λ e. absurd (omega arith);
  departed = λ some. (let q = h.departed (omega arith) in let e : d ≡ q.0 = (let f = q.1 in cc) in let early = q.2 in (d, refl, omega arith));
}

label_idle : {S : Type 0} (is_state : S → ℕ → Type 0) (goal k p : ℕ) (d : Option ℕ) (s t : S) → IsLabelAt is_state goal k (record { depart = d; progress = p; state = s }) → is_state t (k + 1) →
    IsLabelAt is_state goal (k + 1) (record { depart = d; progress = p; state = t })
label_idle is_state goal k p d s t h there =
    record { state = there; progress = h.progress; still = h.still; departed = λ some. (let q = h.departed some in let early = q.2 in (q.0, q.1, omega arith)) }

pub label_by : {S : Type 0} (is_state : S → ℕ → Type 0) (goal k p : ℕ) (d : Option ℕ) (s t : S) (x : Activity) → p < goal → IsLabelAt is_state goal k (record { depart = d; progress = p; state = s }) → is_state t (k + 1) →
    IsLabelAt is_state goal (k + 1) (record { depart = departed d x k; progress = done p x; state = t })
label_by is_state goal k p d s t Drive less h there = label_work is_state goal k p d s t less h there
label_by is_state goal k p d s t Serve less h there = label_work is_state goal k p d s t less h there
label_by is_state goal k p d s t Wait less h there = label_idle is_state goal k p d s t h there
label_by is_state goal k p d s t Off less h there = label_idle is_state goal k p d s t h there
label_by is_state goal k p d s t Berth less h there = label_idle is_state goal k p d s t h there

pub label_more : {S : Type 0} (problem : Problem S) (is_state : S → ℕ → Type 0) (allowed : Activity → Bool) → IsProblem problem is_state allowed → (k : ℕ) (l : Label S) (x : Activity) (n : Next S) →
    IsLabelAt is_state problem.goal k l → problem.may k l.progress x ≡ true → IsOneOf (problem.nexts l.state k x) n → IsLabelAt is_state problem.goal (k + 1) (grow l k x n).label
label_more problem is_state allowed laws k l x n here may follows =
    label_by is_state problem.goal k l.progress l.depart l.state n.state x (laws.may_before k l.progress x may)
    (record { state = here.state; progress = here.progress; still = here.still; departed = here.departed }) (laws.next_is l.state k x n here.state follows)

-- The first step of a continuation, and the rest, which continues what the step makes of the label.
pub record HasRest {S : Type 0} (problem : Problem S) (allowed : Activity → Bool) (k : ℕ) (l : Label S) (x : Activity) (xs : List Activity) : Type 0 where
  pub next : Next S
  pub follows : IsOneOf (problem.nexts l.state k x) next
  pub rest : Continues problem allowed (k + 1) (grow l k x next).label xs

pub rest_of : {S : Type 0} (problem : Problem S) (allowed : Activity → Bool) (k : ℕ) (l : Label S) (x : Activity) (xs : List Activity) → Continues problem allowed k l (x ∷ xs) → HasRest problem allowed k l x xs
rest_of problem allowed k l x xs c =
    let path = c.path in record { next = path.0; follows = path.1; rest = record { goes = c.goes.2; finishes = c.finishes; marks = path.2; end = c.end; path = path.4 } }

-- A step of rest after which a label that waits is still better than what the other has become.
record Waits {S : Type 0} (problem : Problem S) (rest : Activity) (k : ℕ) (a after : Label S) : Type 0 where
  next : Next S
  may : problem.may k a.progress rest ≡ true
  follows : IsOneOf (problem.nexts a.state k rest) next
  better : AreBetter problem (k + 1) (grow a k rest next).label after

-- After a step of rest and one of anything, a label that waits has still done more, or just as much.
keeps_up : {S : Type 0} (problem : Problem S) (k : ℕ) (a b : Label S) (rest x : Activity) (u n : Next S) → idles rest ≡ true → CanWaitFor problem a b → problem.ahead u.state ≡ true → KeepsUp problem (grow a k rest u).label (grow b k x n).label
keeps_up problem k a b rest x u n idle w ahead =
    let e = done_idle a.progress rest idle in
    let one = done_by_one b.progress x in
    let more = w.more in
    elim (cases_lt (done b.progress x) (done a.progress rest)) [
      | inl lt ↦ inr (record { more = lt; may_idle = subst (λ p. problem.may_idle p ≡ true) (sym e) w.may_idle; ahead = ahead })
      | inr le ↦ inl (omega arith)
    ]

waits : {S : Type 0} (problem : Problem S) (is_state : S → ℕ → Type 0) (allowed : Activity → Bool) (laws : IsProblem problem is_state allowed) (k : ℕ) (a b : Label S) (x : Activity) (n : Next S) →
    IsLabelAt is_state problem.goal k a → IsLabelAt is_state problem.goal k b → AreBetter problem k a b → CanWaitFor problem a b → allowed x ≡ true → IsOneOf (problem.nexts b.state k x) n → Waits problem laws.rest k a (grow b k x n).label
waits problem is_state allowed laws k a b x n i j h w ok follows =
    let s = laws.simulates a.state b.state k x n i.state j.state h.state ok follows in
    let u = laws.ahead_rests a.state k x s.0 i.state w.ahead ok s.1 in
    let more = w.more in
    let gone = i.departed (omega arith) in
    record {
      next = u.0;
      may = laws.idles_there k a.progress laws.rest w.may_idle laws.rest_idle;
      follows = u.1;
      better = record {
        depart = later_idle a.depart b.depart laws.rest x k gone.0 laws.rest_idle gone.1 h.depart;
        progress = keeps_up problem k a b laws.rest x u.0 n laws.rest_idle w u.2;
        state = laws.on u.0.state s.0.state n.state (k + 1) (laws.next_is a.state k laws.rest u.0 i.state u.1) (laws.next_is a.state k x s.0 i.state s.1) (laws.next_is b.state k x n j.state follows) u.3 s.2;
      };
    }

-- the same end, seen one step later
pub takes_more : {S : Type 0} (k : ℕ) (l : Label S) (x : Activity) (n : Next S) (xs : List Activity) → takes (k + 1) (grow l k x n).label xs ≡ takes k l (x ∷ xs)
takes_more k l x n xs = ap (λ m. m - unwrap_or (departed_after (departed l.depart x k) (k + 1) xs) 0) (let e : k + 1 + length xs ≡ k + length (x ∷ xs) = omega arith in e)

-- what a label that waits has become is matched, so it is
rest_matched : {S : Type 0} (problem : Problem S) (allowed : Activity → Bool) (rest : Activity) (k : ℕ) (a b : Label S) (x : Activity) (n : Next S) (xs : List Activity) → allowed rest ≡ true →
    (w : Waits problem rest k a (grow b k x n).label) → IsMatched problem allowed (k + 1) (grow a k rest w.next).label (grow b k x n).label xs → IsMatched problem allowed k a b (x ∷ xs)
rest_matched problem allowed rest k a b x n xs ok w q =
    let c = q.1 in
    let len = q.2 in (
      rest ∷ q.0,
      record { goes = (w.may, ok, c.goes); finishes = c.finishes; marks = option_to_list w.next.mark ++ c.marks; end = c.end; path = (w.next, w.follows, c.marks, refl, c.path) },
      omega arith,
      subst (λ m. takes k a (rest ∷ q.0) ≤ m) (takes_more k b x n xs) (subst (λ m. m ≤ takes (k + 1) (grow b k x n).label xs) (takes_more k a rest w.next q.0) q.3),
    )

-- A better label goes along where it has done as much, and rests until then.
better_matched : {S : Type 0} (problem : Problem S) (is_state : S → ℕ → Type 0) (allowed : Activity → Bool) → IsProblem problem is_state allowed → (xs : List Activity) (step : ℕ) (a b : Label S) →
    IsLabelAt is_state problem.goal step a → IsLabelAt is_state problem.goal step b → AreBetter problem step a b → Continues problem allowed step b xs → IsMatched problem allowed step a b xs
better_matched problem is_state allowed laws [] step a b i j h c = elim h.progress [
  | inl e ↦ level_matched problem is_state allowed laws step a b i j h e [] c
  | inr w ↦ absurd (let whole = c.finishes in let within = i.progress in let more = w.more in omega arith)
]
better_matched problem is_state allowed laws (x ∷ xs) step a b i j h c = elim h.progress [
  | inl e ↦ level_matched problem is_state allowed laws step a b i j h e (x ∷ xs) c
  | inr w ↦
      let r = rest_of problem allowed step b x xs c in
      let v = waits problem is_state allowed laws step a b x r.next i j h w c.goes.1 r.follows in
      rest_matched problem allowed laws.rest step a b x r.next xs laws.rest_allowed v
      (better_matched problem is_state allowed laws xs (step + 1) (grow a step laws.rest v.next).label (grow b step x r.next).label
      (label_more problem is_state allowed laws step a laws.rest v.next i v.may v.follows) (label_more problem is_state allowed laws step b x r.next j c.goes.0 r.follows) v.better r.rest)
]

-- Each continuation of a label is answered by one of a better label.
pub better_answers : {S : Type 0} (problem : Problem S) (is_state : S → ℕ → Type 0) (allowed : Activity → Bool) → IsProblem problem is_state allowed → (step : ℕ) (a b : Label S) →
    IsLabelAt is_state problem.goal step a → IsLabelAt is_state problem.goal step b → is_better problem step a b ≡ true → AnswersContinuations problem allowed step a b
better_answers problem is_state allowed laws step a b i j h xs c = better_matched problem is_state allowed laws xs step a b i j (better_means problem step a b h) c

-- Whatever continues a label ends no sooner than its bound; where it has none, nothing continues it.
pub bound_by : {S : Type 0} (problem : Problem S) (is_state : S → ℕ → Type 0) (allowed : Activity → Bool) → IsProblem problem is_state allowed → (xs : List Activity) (k : ℕ) (l : Label S) →
    IsLabelAt is_state problem.goal k l → Continues problem allowed k l xs → IsBy (problem.bound k l) (k + length xs)
bound_by problem is_state allowed laws [] k l here c = record { at = k; is = laws.bounded.full k l c.finishes; by = omega arith }
bound_by problem is_state allowed laws (x ∷ xs) k l here c =
    let r = rest_of problem allowed k l x xs c in
    let q = bound_by problem is_state allowed laws xs (k + 1) (grow l k x r.next).label (label_more problem is_state allowed laws k l x r.next here c.goes.0 r.follows) r.rest in
    let b = laws.bounded.before k l x r.next q.at here c.goes.0 c.goes.1 r.follows q.is in
    let i = b.by in let j = q.by in
    record { at = b.at; is = b.is; by = omega arith }
