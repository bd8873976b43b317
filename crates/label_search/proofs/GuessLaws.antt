-- What the first guess proves.
use Rattle.std.proofs.Common.{◌≡◌, ℕ, ◌+◌, ◌-◌, ◌<◌, ◌≤◌, suc, Bool, List, [], ◌∷◌, ◌++◌, length, take, get_or, refl, sym, ◌∙◌, ap, ap₂, subst, arith, add-one, inl, inr}
use Rattle.std.specs.Prelude.{Option, None, Some, unwrap_or}
use Rattle.std.specs.Option.{option_to_list}
use Rattle.std.proofs.lemmas.List.{take_more, take_all}
use Rattle.duty_core.specs.declared.activity.Activity.{Activity}
use Rattle.rule_core.specs.Reach.{IsOneOf}
use Rattle.rule_core.specs.Laws.OneOf.{one_of-append, one_of-append_left, one_of-append_right}
use Rattle.tour_model.specs.declared.label.Label.{Label}
use Rattle.cert_text.specs.declared.cover_lists.grown.Grown.{Grown}
use Rattle.cert_text.specs.CoverLists.Problem.{Problem, root_label, successors_of, HasBound}
use Rattle.cert_text.specs.CoverLists.Cover.{IsLabelAt, taken}
use Rattle.cert_text.specs.CoverLists.Continuation.{takes}
use Rattle.cert_text.specs.CoverLists.Laws.ProblemLaws.{IsProblem}
use Rattle.cert_text.specs.CoverLists.Laws.CoverLaws.{departed_from}
use Rattle.label_search.specs.Searching.{IsSolved, IsLimit}
use Rattle.label_search.specs.Ways.{IsWay, IsReached, AreReached, IsGuess, IsLessOf, IsLeastOf, ArePartsOf}
use Rattle.label_search.proofs.SoundLaws.{way_more, root_way}

-- a root's label is reached
pub root_reached : {S : Type 0} (problem : Problem S) (is_state : S → ℕ → Type 0) (allowed : Activity → Bool) (starts : S → Type 0) (s : S) → starts s → is_state s 0 → IsReached problem is_state allowed starts 0 (root_label s)
root_reached problem is_state allowed starts s start there = record {
  start = s;
  acts = [];
  marks = [];
  way = root_way problem allowed starts s (root_label s) start refl;
  at = record { state = there; progress = omega arith; still = λ e. refl; departed = λ some. absurd (omega arith) };
}

-- a successor that can be finished is reached
pub grown_reached : {S : Type 0} (problem : Problem S) (is_state : S → ℕ → Type 0) (allowed : Activity → Bool) (starts : S → Type 0) → IsProblem problem is_state allowed → ((s : S) → starts s → is_state s 0) →
    (step : ℕ) (l : Label S) (g : Grown S) → IsReached problem is_state allowed starts step l → IsOneOf (successors_of problem step l) g → HasBound problem (step + 1) g.label → IsLabelAt is_state problem.goal (step + 1) g.label →
    IsReached problem is_state allowed starts (step + 1) g.label
grown_reached problem is_state allowed starts laws states step l g r o bound at =
    let one : step + 1 ≡ suc step = add-one step in
    record {
      start = r.start;
      acts = r.acts ++ g.act ∷ [];
      marks = r.marks ++ option_to_list g.mark;
      way = subst (λ n. IsWay problem allowed starts r.start n (r.acts ++ g.act ∷ []) (r.marks ++ option_to_list g.mark) g.label) (sym one)
          (way_more problem is_state allowed starts laws states r.start step r.acts r.marks l g r.way o (subst (λ n. HasBound problem n g.label) one bound));
      at = at;
    }

-- what holds of each of a list, and of one more
pub each_push : {X : Type 0} (P : X → Type 0) (xs : List X) (x : X) → ((y : X) → IsOneOf xs y → P y) → P x → (y : X) → IsOneOf (xs ++ x ∷ []) y → P y
each_push P xs x h here y o = elim (one_of-append xs (x ∷ []) y o) [
  | inl a ↦ h y a
  | inr q ↦ elim q [ inl e ↦ subst P e here | inr z ↦ absurd z ]
]

-- a finished label that is reached is a whole way
pub reached_solves : {S : Type 0} (problem : Problem S) (is_state : S → ℕ → Type 0) (allowed : Activity → Bool) (starts : S → Type 0) (step : ℕ) (l : Label S) → IsReached problem is_state allowed starts step l → l.progress ≡ problem.goal → IsSolved problem allowed starts (taken step l)
reached_solves problem is_state allowed starts step l r done =
    let w = r.way in
    let e : takes 0 (root_label r.start) r.acts ≡ taken step l =
    ap₂ (λ n o. n - unwrap_or o 0) (let z : 0 + length r.acts ≡ step = (let f = w.long in omega arith) in z) (departed_from 0 r.acts ∙ sym w.depart) in
    record {
      start = r.start;
      starts_there = w.start;
      way = r.acts;
      goes = record { goes = w.goes; finishes = sym w.progress ∙ done; marks = r.marks; end = l.state; path = w.path };
      within = omega arith;
    }

pub guess_more : {S : Type 0} (problem : Problem S) (is_state : S → ℕ → Type 0) (allowed : Activity → Bool) (starts : S → Type 0) (step : ℕ) (ls : List (Label S)) (old new : Option ℕ) → AreReached problem is_state allowed starts step ls → IsLeastOf problem.goal ls step old new →
    IsGuess problem allowed starts old → IsGuess problem allowed starts new
guess_more problem is_state allowed starts step ls old new h l g = elim l [
  | inl e ↦ subst (IsGuess problem allowed starts) (sym e) g
  | inr q ↦ subst (IsGuess problem allowed starts) (sym q.3) (reached_solves problem is_state allowed starts step q.0 (h q.0 q.1) q.2)
]

-- the least of the labels read so far
pub least_more : {S : Type 0} (goal step : ℕ) (ls : List (Label S)) (i : ℕ) (x : Label S) (a b c : Option ℕ) → i < length ls → x ≡ get_or ls i x → IsLeastOf goal (take i ls) step a b → IsLessOf goal x step b c → IsLeastOf goal (take (i + 1) ls) step a c
least_more {S} goal step ls i x a b c lt e h f =
    let more : take (i + 1) ls ≡ take i ls ++ x ∷ [] = take_more ls i x lt ∙ ap (λ y. take i ls ++ y ∷ []) (sym e) in
    subst (λ ys. IsLeastOf goal ys step a c) (sym more)
    (elim f [
      | inl same ↦ elim h [ inl old ↦ inl (same ∙ old) | inr q ↦ inr (q.0, one_of-append_left (take i ls) (x ∷ []) q.0 q.1, q.2, same ∙ q.3) ]
      | inr q ↦ inr (x, one_of-append_right (take i ls) (x ∷ []) x (inl refl), q.0, q.1)
    ])

pub least_whole : {S : Type 0} (goal step : ℕ) (ls : List (Label S)) (i : ℕ) (a b : Option ℕ) → length ls ≤ i → IsLeastOf goal (take i ls) step a b → IsLeastOf goal ls step a b
least_whole goal step ls i a b le h = subst (λ ys. IsLeastOf goal ys step a b) (take_all i ls le) h

-- a guess as a limit
pub limit_of_guess : {S : Type 0} (problem : Problem S) (allowed : Activity → Bool) (starts : S → Type 0) (n : ℕ) (o : Option ℕ) → IsGuess problem allowed starts (Some n) → ((m : ℕ) → o ≡ Some m → m ≡ n + 1) → IsLimit problem allowed starts o
limit_of_guess problem allowed starts n None g h = tt
limit_of_guess problem allowed starts n (Some m) g h = (n, g, (let e = h m refl in omega arith))

-- ---- parts

pub parts_none : {X : Type 0} → ArePartsOf {X = X} [] [] []
parts_none = record { departed_there = λ x o. o; others_there = λ x o. o }

pub parts_departed : {X : Type 0} (xs departed others : List X) (x : X) → ArePartsOf xs departed others → ArePartsOf (xs ++ x ∷ []) (departed ++ x ∷ []) others
parts_departed xs departed others x h = record {
  departed_there = λ y o. elim (one_of-append departed (x ∷ []) y o) [ inl a ↦ one_of-append_left xs (x ∷ []) y (h.departed_there y a) | inr q ↦ one_of-append_right xs (x ∷ []) y q ];
  others_there = λ y o. one_of-append_left xs (x ∷ []) y (h.others_there y o);
}

pub parts_others : {X : Type 0} (xs departed others : List X) (x : X) → ArePartsOf xs departed others → ArePartsOf (xs ++ x ∷ []) departed (others ++ x ∷ [])
parts_others xs departed others x h = record {
  departed_there = λ y o. one_of-append_left xs (x ∷ []) y (h.departed_there y o);
  others_there = λ y o. elim (one_of-append others (x ∷ []) y o) [ inl a ↦ one_of-append_left xs (x ∷ []) y (h.others_there y a) | inr q ↦ one_of-append_right xs (x ∷ []) y q ];
}
