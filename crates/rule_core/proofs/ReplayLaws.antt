-- The roots of a log, run by run.
use Rattle.std.proofs.Common.{◌≡◌, ℕ, ◌+◌, ◌*◌, ◌-◌, ◌<◌, ◌≤◌, true, List, [], ◌∷◌, ◌++◌, length, take, drop, get_or, refl, sym, ◌∙◌, ap, subst, arith, append-nil, append_assoc, inl, inr, zero, suc, length-append}
use Rattle.std.specs.Prelude.{map, replicate}
use Rattle.std.specs.Option.{option_to_list}
use Rattle.std.proofs.lemmas.List.{take_more, take_all, take-take, take-append-drop, replicate_more, length-replicate, length-take-le, flat_map_more}
use Rattle.std.proofs.Math.Nat.{mul-le-mul_left}
use Rattle.duty_core.specs.declared.activity.Activity.{Activity}
use Rattle.duty_core.specs.declared.activity.Activity.TheVariants.{Off}
use Rattle.duty_core.specs.declared.mark.Mark.{Mark}
use Rattle.duty_core.specs.declared.params.Params.{Params}
use Rattle.duty_core.specs.declared.limits.TheConstants.{LONGEST_HISTORY, MINUTE_LIMIT}
use Rattle.duty_core.specs.Params.{unit_minutes}
use Rattle.duty_core.specs.History.{IsTimed, unit_at}
use Rattle.duty_core.specs.Lawful.{IsLawful}
use Rattle.duty_core.specs.Laws.BookLaws.{front_lawful}
use Rattle.timeline.specs.declared.run.Run.{Run}
use Rattle.timeline.specs.Runs.{units_of, spread, AreRuns}
use Rattle.timeline.specs.Laws.RunLaws.{IsRunOf, each_run, length-spread-take}
use Rattle.rule_core.specs.declared.nexts.Next.{Next}
use Rattle.rule_core.specs.declared.roots.Root.{Root}
use Rattle.rule_core.specs.Reach.{IsOneOf, Reaches}
use Rattle.rule_core.specs.Laws.ReachLaws.{reaches-append, reaches_parted, reached_state}
use Rattle.rule_core.specs.Laws.OneOf.{one_of-map, one_of_map, one_of-flat_map, one_of_flat_map}
use Rattle.rule_core.specs.Pruned.{ArePruned}
use Rattle.rule_core.proofs.PrunedLaws.{some_pruned, some_one}
use Rattle.rule_core.specs.Machine.{Machine, LeadsTo}
use Rattle.rule_core.specs.Book.{IsBook, IsExact, IsLasting}
use Rattle.rule_core.specs.Replay.{root_by, roots_over, MayAdvance, GoesOn, IsFirstRefused, AreRootStates, AreRootsOf, IsFirstUnlawful}

-- one root more
pub roots_more : {S : Type 0} (m : Machine S) (at : ℕ) (act : Activity) (n : ℕ) (ys a b : List (Root S)) (root : Root S) (ns : List (Next S)) →
    a ≡ roots_over m at act n ys → ns ≡ m.advances root.state at act n → b ≡ a ++ map (root_by root.marks) ns → b ≡ roots_over m at act n (ys ++ root ∷ [])
roots_more m at act n ys a b root ns old is new =
    new ∙ (ap (λ xs. xs ++ map (root_by root.marks) ns) old ∙ (ap (λ xs. roots_over m at act n ys ++ map (root_by root.marks) xs) is
    ∙ flat_map_more (λ r. map (root_by r.marks) (m.advances r.state at act n)) [] ys root))

-- The history reaches each root with its marks, and each state that it reaches is some root's.
pub record AreReached {S : Type 0} (unit : ℕ) (m : Machine S) (first : ℕ) (h : List Activity) (roots : List (Root S)) : Type 0 where
  pub reached : (root : Root S) → IsOneOf roots root → LeadsTo unit m first h root.marks root.state
  pub all : (s : S) (marks : List Mark) → LeadsTo unit m first h marks s → (root : Root S) × IsOneOf roots root × (root.state ≡ s)

pub reached_none : {S : Type 0} (unit : ℕ) (m : Machine S) (first : ℕ) → AreReached unit m first [] (record { state = m.root first; marks = [] } ∷ [])
reached_none unit m first = record {
  reached = λ root o. elim o [ inl e ↦ (ap (λ r. r.state) e, sym (ap (λ r. r.marks) e)) | inr t ↦ absurd t ];
  all = λ s marks r. (record { state = m.root first; marks = [] }, inl refl, r.0);
}

-- a root that goes on shows where the units after the history lead
reached_by : {S : Type 0} (params : Params) (m : Machine S) (first : ℕ) (h : List Activity) (roots : List (Root S)) (at : ℕ) (act : Activity) (n : ℕ) (root : Root S) (next : Next S) →
    IsBook params m → at ≡ first + unit_minutes params * length h → AreRootStates m at roots → AreReached (unit_minutes params) m first h roots →
    IsOneOf roots root → IsOneOf (m.advances root.state at act n) next → LeadsTo (unit_minutes params) m first (h ++ replicate n act) (root.marks ++ option_to_list next.mark) next.state
reached_by params m first h roots at act n root next law is states here o q =
    reaches-append (unit_minutes params) m.nexts h (replicate n act) (m.root first) first root.marks root.state (option_to_list next.mark) next.state (here.reached root o)
    (subst (λ k. Reaches (unit_minutes params) m.nexts root.state k (replicate n act) (option_to_list next.mark) next.state) is
    (law.advances_reach root.state at act n next (states root o) q))

-- what a history with equal units after it leads to, a root goes on to
record ReachedFrom {S : Type 0} (m : Machine S) (roots : List (Root S)) (at : ℕ) (act : Activity) (n : ℕ) (s : S) : Type 0 where
  root : Root S
  next : Next S
  is_root : IsOneOf roots root
  is_next : IsOneOf (m.advances root.state at act n) next
  same : next.state ≡ s

reached_from : {S : Type 0} (params : Params) (m : Machine S) (first : ℕ) (h : List Activity) (roots : List (Root S)) (at : ℕ) (act : Activity) (n : ℕ) (marks : List Mark) (s : S) →
    IsBook params m → at ≡ first + unit_minutes params * length h → AreRootStates m at roots → AreReached (unit_minutes params) m first h roots →
    LeadsTo (unit_minutes params) m first (h ++ replicate n act) marks s → ReachedFrom m roots at act n s
reached_from params m first h roots at act n marks s law is states here r =
    let p = reaches_parted (unit_minutes params) m.nexts h (replicate n act) (m.root first) first marks s r in
    let q = here.all p.between p.earlier p.front in
    let on = subst (λ t. Reaches (unit_minutes params) m.nexts t at (replicate n act) p.later s) (sym q.2)
    (subst (λ k. Reaches (unit_minutes params) m.nexts p.between k (replicate n act) p.later s) (sym is) p.rest) in
    let t = law.advances_all q.0.state at act n p.later s (states q.0 q.1) on in
    record { root = q.0; next = t.0; is_root = q.1; is_next = t.1; same = t.2 }

-- the roots after equal units
pub reached_on : {S : Type 0} (params : Params) (m : Machine S) (first : ℕ) (h : List Activity) (roots : List (Root S)) (at : ℕ) (act : Activity) (n : ℕ) →
    IsBook params m → at ≡ first + unit_minutes params * length h → AreRootStates m at roots → AreReached (unit_minutes params) m first h roots →
    AreReached (unit_minutes params) m first (h ++ replicate n act) (roots_over m at act n roots)
reached_on {S} params m first h roots at act n law is states here =
    let by : Root S → List (Root S) = λ root. map (root_by root.marks) (m.advances root.state at act n) in
    record {
      reached = λ root o.
          let p = one_of-flat_map by roots root o in
          let q = one_of-map (root_by p.0.marks) (m.advances p.0.state at act n) root p.2 in
          subst (λ r. LeadsTo (unit_minutes params) m first (h ++ replicate n act) r.marks r.state) q.2
          (reached_by params m first h roots at act n p.0 q.0 law is states here p.1 q.1);
      all = λ s marks r.
          let p = reached_from params m first h roots at act n marks s law is states here r in (
            root_by p.root.marks p.next,
            one_of_flat_map by roots p.root (root_by p.root.marks p.next) p.is_root (one_of_map (root_by p.root.marks) (m.advances p.root.state at act n) p.next p.is_next),
            p.same,
          );
    }

-- of equal states one is enough
pub reached_kept : {S : Type 0} (unit : ℕ) (m : Machine S) (first : ℕ) (h : List Activity) (roots kept : List (Root S)) →
    AreReached unit m first h roots → ArePruned (λ a b. a ≡ b) roots kept → AreReached unit m first h kept
reached_kept unit m first h roots kept here so = record {
  reached = λ root o. here.reached root (so.among root o);
  all = λ s marks r. (let p = here.all s marks r in let q = so.all p.0 p.1 in (q.0, q.1, q.2 ∙ p.2));
}

-- what a history reaches are states of the minute after it
reached_states : {S : Type 0} (params : Params) (m : Machine S) (first : ℕ) (h : List Activity) (roots : List (Root S)) (at : ℕ) →
    IsLasting params m → m.is_state (m.root first) first → at ≡ first + unit_minutes params * length h → AreReached (unit_minutes params) m first h roots → AreRootStates m at roots
reached_states params m first h roots at lasts i is here root o =
    subst (m.is_state root.state) (sym is) (reached_state (unit_minutes params) m.is_state m.nexts lasts.next_is_state h (m.root first) first root.marks root.state i (here.reached root o))

-- the roots after equal units are states of the minute after them
pub states_after : {S : Type 0} (params : Params) (m : Machine S) (at : ℕ) (act : Activity) (n : ℕ) (roots : List (Root S)) →
    IsBook params m → AreRootStates m at roots → AreRootStates m (at + unit_minutes params * n) (roots_over m at act n roots)
states_after {S} params m at act n roots law states root o =
    let by : Root S → List (Root S) = λ r. map (root_by r.marks) (m.advances r.state at act n) in
    let p = one_of-flat_map by roots root o in
    let q = one_of-map (root_by p.0.marks) (m.advances p.0.state at act n) root p.2 in
    let t = law.advances_reach p.0.state at act n q.0 (states p.0 p.1) q.1 in
    subst (λ r. m.is_state r.state (at + unit_minutes params * n)) q.2
    (subst (λ k. m.is_state q.0.state (at + unit_minutes params * k)) (length-replicate n act)
    (reached_state (unit_minutes params) m.is_state m.nexts law.lasts.next_is_state (replicate n act) p.0.state at (option_to_list q.0.mark) q.0.state (states p.0 p.1) t))

-- some root goes on exactly where there are roots after the units
pub goes_on_some : {S : Type 0} (m : Machine S) (at : ℕ) (act : Activity) (n : ℕ) (roots : List (Root S)) → GoesOn m at act n roots → 0 < length (roots_over m at act n roots)
goes_on_some {S} m at act n roots on =
    let by : Root S → List (Root S) = λ root. map (root_by root.marks) (m.advances root.state at act n) in
    some_one (roots_over m at act n roots) (root_by on.0.marks on.2)
    (one_of_flat_map by roots on.0 (root_by on.0.marks on.2) on.1 (one_of_map (root_by on.0.marks) (m.advances on.0.state at act n) on.2 on.3))

-- the units of a log from place k on, where they are equal
pub take_run : (log : List Activity) (k n : ℕ) (act : Activity) → k + n ≤ length log → ((i : ℕ) → k ≤ i → i < k + n → unit_at log i ≡ act) →
    take (k + n) log ≡ take k log ++ replicate n act
take_run log k zero act l same = (let e : k + 0 ≡ k = omega arith in ap (λ i. take i log) e) ∙ sym (append-nil (take k log))
take_run log k (suc n) act l same =
    let e : k + suc n ≡ k + n + 1 = omega arith in
    let f : n + 1 ≡ suc n = omega arith in
    ap (λ i. take i log) e ∙ (take_more log (k + n) Off (omega arith) ∙ (ap (λ xs. xs ++ unit_at log (k + n) ∷ []) (take_run log k n act (omega arith) (λ i a b. same i a (omega arith)))
    ∙ (ap (λ x. (take k log ++ replicate n act) ++ x ∷ []) (same (k + n) (omega arith) (omega arith))
    ∙ (append_assoc (take k log) (replicate n act) (act ∷ []) ∙ ap (λ xs. take k log ++ xs) (replicate_more n act ∙ ap (λ i. replicate i act) f)))))

-- the place up to which the first runs of a log go
abbrev pub place : List Run → ℕ → ℕ
place runs i = length (spread (take i runs))

-- where a run lies in its log: from the place of the runs before it up to that of those with it
pub record IsRunAt (log : List Activity) (runs : List Run) (i : ℕ) (run : Run) : Type 0 where
  pub from : place runs i ≡ run.from
  pub to : place runs (i + 1) ≡ run.to
  pub part : IsRunOf log run

pub run_at : (runs : List Run) (log : List Activity) (i : ℕ) (d : Run) → AreRuns runs log → i < length runs → IsRunAt log runs i (get_or runs i d)
run_at runs log i d are l =
    let run : Run = get_or runs i d in
    let here : IsRunOf log run = each_run runs log i d are l in
    let from : place runs i ≡ run.from = omega (arith, length-spread-take runs 0 (length log) i d are.joined l) in
    let more : spread (take (i + 1) runs) ≡ spread (take i runs) ++ units_of run = ap spread (take_more runs i d l) ∙ sym (flat_map_more units_of [] (take i runs) run) in
    let some = here.some in
    record {
      from = from;
      to = omega (arith, ap length more, length-append (spread (take i runs)) (units_of run), length-replicate (run.to - run.from) run.act);
      part = here;
    }

-- a part of a log is timed as the log is
timed_part : (params : Params) (first : ℕ) (log : List Activity) (k : ℕ) → k ≤ length log → IsTimed params first log → IsTimed params first (take k log)
timed_part params first log k l timed =
    let long = timed.long in
    let ends = timed.ends in
    let e : length (take k log) ≡ k = length-take-le k log l in
    let less : unit_minutes params * k ≤ unit_minutes params * length log = mul-le-mul_left (unit_minutes params) l in
    record {
      begins = timed.begins;
      long = omega arith;
      ends = subst (λ n. first + unit_minutes params * n < MINUTE_LIMIT) (sym e) (omega arith);
    }

-- What is known at place k of a log: its roots.
pub record IsReplaying {S : Type 0} (params : Params) (m : Machine S) (first : ℕ) (log : List Activity) (k : ℕ) (roots : List (Root S)) : Type 0 where
  pub here : AreReached (unit_minutes params) m first (take k log) roots
  pub some : 0 < length roots
  pub few : length roots < 4294967295

-- what a root shows of its history
lawful_by : {S : Type 0} (params : Params) (m : Machine S) (first : ℕ) (h : List Activity) (roots : List (Root S)) →
    IsExact params m first → IsTimed params first h → AreReached (unit_minutes params) m first h roots → 0 < length roots → IsLawful params first h
lawful_by params m first h [] exact timed here some = absurd (omega arith)
lawful_by params m first h (root ∷ roots) exact timed here some = record { marks = root.marks; keeps = (exact h root.marks timed).0 (root.state, here.reached root (inl refl)) }

pub replaying_first : {S : Type 0} (params : Params) (m : Machine S) (first : ℕ) (log : List Activity) (roots : List (Root S)) →
    roots ≡ record { state = m.root first; marks = [] } ∷ [] → IsReplaying params m first log 0 roots
replaying_first params m first log roots is =
    let one : length roots ≡ 1 = ap length is in
    record {
      here = subst (λ rs. AreReached (unit_minutes params) m first [] rs) (sym is) (reached_none (unit_minutes params) m first);
      some = omega arith;
      few = omega arith;
    }

-- the roots of a part of a log are states of the minute after it
pub replaying_states : {S : Type 0} (params : Params) (m : Machine S) (first : ℕ) (log : List Activity) (k : ℕ) (roots : List (Root S)) (at : ℕ) →
    IsBook params m → IsTimed params first log → k ≤ length log → at ≡ first + unit_minutes params * k → IsReplaying params m first log k roots → AreRootStates m at roots
replaying_states params m first log k roots at law timed l is so =
    reached_states params m first (take k log) roots at law.lasts (law.root_is_state first timed.begins)
    (is ∙ ap (λ n. first + unit_minutes params * n) (sym (length-take-le k log l))) so.here

-- What a log has from place k on: so many equal units, the first of which begins at this minute.
pub record AreEqual (params : Params) (first : ℕ) (log : List Activity) (k at : ℕ) (act : Activity) (n : ℕ) : Type 0 where
  pub begins : at ≡ first + unit_minutes params * k
  pub inside : k + n ≤ length log
  pub same : (i : ℕ) → k ≤ i → i < k + n → unit_at log i ≡ act

-- those of a run
pub equal_run : (params : Params) (first : ℕ) (log : List Activity) (runs : List Run) (i at : ℕ) (run : Run) → at ≡ first + unit_minutes params * run.from → IsRunAt log runs i run →
    AreEqual params first log (place runs i) at run.act (run.to - run.from)
equal_run params first log runs i at run is so =
    let from = so.from in
    let some = so.part.some in
    let inside = so.part.inside in
    record {
      begins = is ∙ ap (λ k. first + unit_minutes params * k) (sym so.from);
      inside = omega arith;
      same = λ k low high. so.part.same k (omega arith) (omega arith);
    }

-- after a run is the place of the next
pub after_run : (log : List Activity) (runs : List Run) (i : ℕ) (run : Run) → IsRunAt log runs i run → place runs i + (run.to - run.from) ≡ place runs (i + 1)
after_run log runs i run so = let from = so.from in let to = so.to in let some = so.part.some in omega arith

-- after all runs it is the log's end
pub place_all : (runs : List Run) (log : List Activity) (i : ℕ) → AreRuns runs log → length runs ≤ i → place runs i ≡ length log
place_all runs log i are l = ap (λ rs. length (spread rs)) (take_all i runs l) ∙ ap length are.spread

-- fewer of them
fewer : (params : Params) (first : ℕ) (log : List Activity) (k at : ℕ) (act : Activity) (n less : ℕ) → less ≤ n → AreEqual params first log k at act n → AreEqual params first log k at act less
fewer params first log k at act n less l equal =
    let inside = equal.inside in record { begins = equal.begins; inside = omega arith; same = λ i a b. equal.same i a (omega arith) }

-- a book may be asked what equal units of a log make of the roots before them
pub may_advance : {S : Type 0} (m : Machine S) (first : ℕ) (log : List Activity) (k at : ℕ) (act : Activity) (n : ℕ) (roots : List (Root S)) →
    IsBook m.params m → IsTimed m.params first log → AreEqual m.params first log k at act n → 0 < n → IsReplaying m.params m first log k roots → MayAdvance m at n roots
may_advance m first log k at act n roots law timed equal some so =
    let unit : ℕ = unit_minutes m.params in
    let inside : k + n ≤ length log = equal.inside in
    let begins : at ≡ first + unit * k = equal.begins in
    let long : length log ≤ LONGEST_HISTORY = timed.long in
    let ends : first + unit * length log < MINUTE_LIMIT = timed.ends in
    let less : unit * (k + n) ≤ unit * length log = mul-le-mul_left unit inside in
    record { states = replaying_states m.params m first log k roots at law timed (omega arith) begins so; some = omega arith; long = omega arith; range = omega arith }

-- the roots of a log up to the end of equal units
replayed_units : {S : Type 0} (params : Params) (m : Machine S) (first : ℕ) (log : List Activity) (k at : ℕ) (act : Activity) (n : ℕ) (roots : List (Root S)) →
    IsBook params m → IsTimed params first log → AreEqual params first log k at act n → IsReplaying params m first log k roots →
    AreReached (unit_minutes params) m first (take (k + n) log) (roots_over m at act n roots)
replayed_units params m first log k at act n roots law timed equal so =
    let inside = equal.inside in
    let l : k ≤ length log = omega arith in
    let is : at ≡ first + unit_minutes params * length (take k log) = equal.begins ∙ ap (λ i. first + unit_minutes params * i) (sym (length-take-le k log l)) in
    subst (λ h. AreReached (unit_minutes params) m first h (roots_over m at act n roots)) (sym (take_run log k n act inside equal.same))
    (reached_on params m first (take k log) roots at act n law is (replaying_states params m first log k roots at law timed l equal.begins so) so.here)

-- over equal units where some root goes on
pub replaying_more : {S : Type 0} (params : Params) (m : Machine S) (first : ℕ) (log : List Activity) (k at : ℕ) (act : Activity) (n : ℕ) (roots after : List (Root S)) →
    IsBook params m → IsTimed params first log → AreEqual params first log k at act n → IsReplaying params m first log k roots → GoesOn m at act n roots →
    ArePruned (λ a b. a ≡ b) (roots_over m at act n roots) after → length after < 4294967295 → IsReplaying params m first log (k + n) after
replaying_more params m first log k at act n roots after law timed equal so on made few = record {
  here = reached_kept (unit_minutes params) m first (take (k + n) log) (roots_over m at act n roots) after (replayed_units params m first log k at act n roots law timed equal so) made;
  some = some_pruned (λ a b. a ≡ b) (roots_over m at act n roots) after made (goes_on_some m at act n roots on);
  few = few;
}

-- the log is lawful up to the end of equal units where some root goes on over them
lawful_on : {S : Type 0} (params : Params) (m : Machine S) (first : ℕ) (log : List Activity) (k at : ℕ) (act : Activity) (n : ℕ) (roots : List (Root S)) →
    IsBook params m → IsTimed params first log → AreEqual params first log k at act n → IsReplaying params m first log k roots → (0 < n → GoesOn m at act n roots) → IsLawful params first (take (k + n) log)
lawful_on params m first log k at act zero roots law timed equal so on =
    let inside = equal.inside in
    let e : k ≡ k + 0 = omega arith in
    subst (λ i. IsLawful params first (take i log)) e (lawful_by params m first (take k log) roots (law.exact first) (timed_part params first log k (omega arith) timed) so.here so.some)
lawful_on params m first log k at act (suc n) roots law timed equal so on =
    lawful_by params m first (take (k + suc n) log) (roots_over m at act (suc n) roots) (law.exact first) (timed_part params first log (k + suc n) equal.inside timed)
    (replayed_units params m first log k at act (suc n) roots law timed equal so) (goes_on_some m at act (suc n) roots (on (omega arith)))

-- no marks help equal units over which no root goes on
unlawful_on : {S : Type 0} (params : Params) (m : Machine S) (first : ℕ) (log : List Activity) (k at : ℕ) (act : Activity) (n : ℕ) (roots : List (Root S)) →
    IsBook params m → IsTimed params first log → AreEqual params first log k at act n → IsReplaying params m first log k roots → (GoesOn m at act n roots → ⊥) →
    IsLawful params first (take (k + n) log) → ⊥
unlawful_on {S} params m first log k at act n roots law timed equal so none lawful =
    let inside = equal.inside in
    let l : k ≤ length log = omega arith in
    let is : at ≡ first + unit_minutes params * length (take k log) = equal.begins ∙ ap (λ i. first + unit_minutes params * i) (sym (length-take-le k log l)) in
    let reached = (law.exact first (take (k + n) log) lawful.marks (timed_part params first log (k + n) inside timed)).1 lawful.keeps in
    let p = reached_from params m first (take k log) roots at act n lawful.marks reached.0 law is (replaying_states params m first log k roots at law timed l equal.begins so) so.here
    (subst (λ h. LeadsTo (unit_minutes params) m first h lawful.marks reached.0) (take_run log k n act inside equal.same) reached.1) in
    none (p.root, p.is_root, p.next, p.is_next)

-- a part of a lawful part
lawful_part : (params : Params) (first : ℕ) (log : List Activity) (k n : ℕ) → k ≤ n → IsLawful params first (take n log) → IsLawful params first (take k log)
lawful_part params first log k n l lawful =
    subst (IsLawful params first) (take-take k n log l)
    (front_lawful params first (take k (take n log)) (drop k (take n log)) (subst (IsLawful params first) (sym (take-append-drop k (take n log))) lawful))

-- where no root goes on over equal units, the first over which none does is the first unlawful one
pub replaying_ends : {S : Type 0} (params : Params) (m : Machine S) (first : ℕ) (log : List Activity) (k at : ℕ) (act : Activity) (n : ℕ) (roots : List (Root S)) (unit : ℕ) →
    IsBook params m → IsTimed params first log → AreEqual params first log k at act n → IsReplaying params m first log k roots → IsFirstRefused m at act n roots unit →
    IsFirstUnlawful params first log (k + unit)
replaying_ends params m first log k at act n roots unit law timed equal so ends =
    let inside = equal.inside in
    let l = ends.inside in
    let e : k + (unit + 1) ≡ k + unit + 1 = omega arith in
    record {
      inside = omega arith;
      unlawful = λ lawful. unlawful_on params m first log k at act (unit + 1) roots law timed (fewer params first log k at act n (unit + 1) (omega arith) equal) so ends.refused
          (subst (λ i. IsLawful params first (take i log)) (sym e) lawful);
      before = λ i u. lawful_part params first log (i + 1) (k + unit) (omega arith)
          (lawful_on params m first log k at act unit roots law timed (fewer params first log k at act n unit (omega arith) equal) so ends.before);
    }

-- what the whole log reaches
replayed_all : {S : Type 0} (params : Params) (m : Machine S) (first : ℕ) (log : List Activity) (k : ℕ) (roots : List (Root S)) →
    length log ≤ k → IsReplaying params m first log k roots → AreReached (unit_minutes params) m first log roots
replayed_all params m first log k roots l so = subst (λ h. AreReached (unit_minutes params) m first h roots) (take_all k log l) so.here

-- at the log's end
pub replayed_lawful : {S : Type 0} (params : Params) (m : Machine S) (first : ℕ) (log : List Activity) (k : ℕ) (roots : List (Root S)) →
    IsBook params m → IsTimed params first log → length log ≤ k → IsReplaying params m first log k roots → IsLawful params first log
replayed_lawful params m first log k roots law timed l so =
    lawful_by params m first log roots (law.exact first) timed (replayed_all params m first log k roots l so) so.some

-- of these roots those that no other covers
pub replayed_roots : {S : Type 0} (params : Params) (m : Machine S) (first : ℕ) (log : List Activity) (k : ℕ) (roots kept : List (Root S)) (at : ℕ) →
    length log ≤ k → at ≡ first + unit_minutes params * length log → ArePruned (λ a b. m.covers a b at ≡ true) roots kept → IsReplaying params m first log k roots →
    AreRootsOf (unit_minutes params) m first log kept
replayed_roots params m first log k roots kept at l is pruned so =
    let here = replayed_all params m first log k roots l so in
    record {
      reached = λ root o. here.reached root (pruned.among root o);
      all = λ s marks r.
          let p = here.all s marks r in
          let q = pruned.all p.0 p.1 in
          (q.0, q.1, subst (λ n. m.covers q.0.state s n ≡ true) is (subst (λ t. m.covers q.0.state t at ≡ true) p.2 q.2));
      some = some_pruned (λ a b. m.covers a b at ≡ true) roots kept pruned so.some;
      few = let a = so.few in let b = pruned.few in omega arith;
    }

-- and those of the whole log of the minute after that
pub replayed_states : {S : Type 0} (params : Params) (m : Machine S) (first : ℕ) (log : List Activity) (k : ℕ) (roots : List (Root S)) (at : ℕ) →
    IsBook params m → IsTimed params first log → length log ≤ k → at ≡ first + unit_minutes params * length log → IsReplaying params m first log k roots → AreRootStates m at roots
replayed_states params m first log k roots at law timed l is so =
    reached_states params m first log roots at law.lasts (law.root_is_state first timed.begins) is (replayed_all params m first log k roots l so)
