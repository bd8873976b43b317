-- The earliest end is exact: some activities reach it, and none end before it.
use Rattle.std.proofs.Common.{◌≡◌, ℕ, zero, suc, ◌+◌, ◌-◌, ◌≤◌, true, false, refl, sym, ◌∙◌, ap, subst, arith, List, [], ◌∷◌, length, drop}
use Rattle.std.specs.Prelude.{Option, None, Some}
use Rattle.std.specs.Option.{option_and_then}
use Rattle.std.proofs.lemmas.List.{drop_all}
use Rattle.std.proofs.lemmas.Option.{option_and_then_some}
use Rattle.duty_core.specs.declared.activity.Activity.{Activity}
use Rattle.duty_core.specs.declared.activity.Activity.TheVariants.{Drive, Serve, Wait, Off, Berth}
use Rattle.tour_model.specs.declared.window.Window.{Window}
use Rattle.tour_model.specs.declared.piece.Piece.{Piece}
use Rattle.tour_model.specs.declared.piece.Piece.TheVariants as piece
use Rattle.tour_model.specs.declared.tour.Tour.{Tour}
use Rattle.tour_model.specs.Window.{first_open}
use Rattle.tour_model.specs.Laws.WindowLaws.{IsBy, open_is, open_sooner, open_now}
use Rattle.tour_model.specs.Word.{word_of, word_length, windows_at, allows_piece, is_pause, may_do}
use Rattle.tour_model.specs.Way.{done, EndsAt, IsEarliestEnd, HasNoWay}
use Rattle.tour_model.specs.Eta.{end_after, eta_of}
use Rattle.tour_model.specs.Laws.WayLaws.{head, tail, after, Goes, after_drop, head_drop, goes_of, of_goes}

-- Who is sooner ends no later.
end_sooner : (windows : ℕ → List Window) (ps : List Piece) (j k e : ℕ) → j ≤ k → end_after windows k ps ≡ Some e → IsBy (end_after windows j ps) e
end_sooner windows [] j k e l h = let f : k ≡ e = cc in record { at = j; is = refl; by = omega arith }
end_sooner windows (piece.Drive n ∷ ps) j k e l h = end_sooner windows ps (j + 1) (k + 1) e (omega arith) h
end_sooner windows (piece.Serve n true ∷ ps) j k e l h =
    option_and_then_some (λ begins. end_after windows (begins + 1) ps) (first_open (windows n) k) e h (λ at o f.
    let q = open_sooner (windows n) j k at l o in
    let m = q.by in
    let r = end_sooner windows ps (q.at + 1) (at + 1) e (omega arith) f in
    record { at = r.at; is = ap (option_and_then (λ begins. end_after windows (begins + 1) ps)) q.is ∙ r.is; by = r.by })
end_sooner windows (piece.Serve n false ∷ ps) j k e l h = end_sooner windows ps (j + 1) (k + 1) e (omega arith) h

-- What can be ended after an allowed activity could be ended before it, and no later.
step_sooner : (windows : ℕ → List Window) (x : Activity) (ps : List Piece) (k e : ℕ) → allows_piece windows k x (head ps) ≡ true →
    end_after windows (k + 1) (after x ps) ≡ Some e → IsBy (end_after windows k ps) e
step_sooner windows Drive [] k e h i = absurd (let z : false ≡ true = h in cc)
step_sooner windows Drive (piece.Drive n ∷ ps) k e h i = record { at = e; is = i; by = omega arith }
step_sooner windows Drive (piece.Serve n f ∷ ps) k e h i = absurd (let z : false ≡ true = h in cc)
step_sooner windows Serve [] k e h i = absurd (let z : false ≡ true = h in cc)
step_sooner windows Serve (piece.Drive n ∷ ps) k e h i = absurd (let z : false ≡ true = h in cc)
step_sooner windows Serve (piece.Serve n true ∷ ps) k e h i =
    record { at = e; is = ap (option_and_then (λ begins. end_after windows (begins + 1) ps)) (open_now (windows n) k h) ∙ i; by = omega arith }
step_sooner windows Serve (piece.Serve n false ∷ ps) k e h i = record { at = e; is = i; by = omega arith }
step_sooner windows Wait ps k e h i = end_sooner windows ps k (k + 1) e (omega arith) i
step_sooner windows Off ps k e h i = end_sooner windows ps k (k + 1) e (omega arith) i
step_sooner windows Berth ps k e h i = end_sooner windows ps k (k + 1) e (omega arith) i

-- whatever goes to the end ends no sooner
goes_by : (windows : ℕ → List Window) (xs : List Activity) (ps : List Piece) (k : ℕ) → Goes windows k ps xs → IsBy (end_after windows k ps) (k + length xs)
goes_by windows [] ps k g = record { at = k; is = ap (end_after windows k) g; by = omega arith }
goes_by windows (x ∷ xs) ps k g =
    let q = goes_by windows xs (after x ps) (k + 1) g.1 in
    let r = step_sooner windows x ps k q.at g.0 q.is in
    let l = q.by in let m = r.by in
    record { at = r.at; is = r.is; by = omega arith }

-- A way to the end of the pieces, which ends at `end`.
record HasWay (windows : ℕ → List Window) (k : ℕ) (ps : List Piece) (end : ℕ) : Type 0 where
  way : List Activity
  goes : Goes windows k ps way
  ends : k + length way ≡ end

-- to wait first
waits : (windows : ℕ → List Window) (m k j e : ℕ) (ps : List Piece) → k + m ≡ j → is_pause (head ps) ≡ true → HasWay windows j ps e → HasWay windows k ps e
waits windows zero k j e ps s h w = subst (λ i. HasWay windows i ps e) (let z : j ≡ k = omega arith in z) w
waits windows (suc m) k j e ps s h w =
    let q = waits windows m (k + 1) j e ps (omega arith) h w in
    let l = q.ends in
    record { way = Wait ∷ q.way; goes = (h, q.goes); ends = omega arith }

-- the first activity, and then a way
first : (windows : ℕ → List Window) (x : Activity) (k e : ℕ) (ps : List Piece) → allows_piece windows k x (head ps) ≡ true → HasWay windows (k + 1) (after x ps) e → HasWay windows k ps e
first windows x k e ps h w = let l = w.ends in record { way = x ∷ w.way; goes = (h, w.goes); ends = omega arith }

way_to : (windows : ℕ → List Window) (ps : List Piece) (k e : ℕ) → end_after windows k ps ≡ Some e → HasWay windows k ps e
way_to windows [] k e h = let f : k ≡ e = cc in record { way = []; goes = refl; ends = omega arith }
way_to windows (piece.Drive n ∷ ps) k e h = first windows Drive k e (piece.Drive n ∷ ps) refl (way_to windows ps (k + 1) e h)
way_to windows (piece.Serve n true ∷ ps) k e h =
    option_and_then_some (λ begins. end_after windows (begins + 1) ps) (first_open (windows n) k) e h (λ at o f.
    let q = open_is (windows n) k at o in
    let l = q.0 in
    waits windows (at - k) k at e (piece.Serve n true ∷ ps) (omega arith) refl
    (first windows Serve at e (piece.Serve n true ∷ ps) q.1 (way_to windows ps (at + 1) e f)))
way_to windows (piece.Serve n false ∷ ps) k e h = first windows Serve k e (piece.Serve n false ∷ ps) refl (way_to windows ps (k + 1) e h)

-- at full progress the tour has ended
pub eta_full : (tour : Tour) (step : ℕ) → eta_of tour step (word_length tour) ≡ Some step
unfolding eta_of
eta_full tour step = ap (end_after (windows_at tour.stops) step) (drop_all (word_length tour) (word_of tour) (omega arith))

-- What can be finished after an allowed step could be finished before it, and no later.
pub eta_before : (tour : Tour) (step progress : ℕ) (x : Activity) (e : ℕ) → may_do tour step progress x ≡ true → eta_of tour (step + 1) (done progress x) ≡ Some e →
    (d : ℕ) × (eta_of tour step progress ≡ Some d) × (d ≤ e)
unfolding eta_of
eta_before tour k p x e h i =
    let q = step_sooner (windows_at tour.stops) x (drop p (word_of tour)) k e (ap (allows_piece (windows_at tour.stops) k x) (head_drop (word_of tour) p) ∙ h)
    (ap (end_after (windows_at tour.stops) (k + 1)) (after_drop x (word_of tour) p) ∙ i) in
    (q.at, q.is, q.by)

-- whatever goes to the end of the tour ends no sooner
pub eta_by : (tour : Tour) (step progress : ℕ) (xs : List Activity) (other : ℕ) → EndsAt tour step progress xs other → IsBy (eta_of tour step progress) other
unfolding eta_of
eta_by tour k p xs other w =
    let q = goes_by (windows_at tour.stops) xs (drop p (word_of tour)) k (goes_of tour xs k p w.goes w.finishes) in
    let l = w.ends in let m = q.by in
    record { at = q.at; is = q.is; by = omega arith }

-- and something does end then
pub eta_reached : (tour : Tour) (step progress e : ℕ) → progress ≤ word_length tour → eta_of tour step progress ≡ Some e → (xs : List Activity) × EndsAt tour step progress xs e
unfolding eta_of
eta_reached tour k p e l h =
    let w = way_to (windows_at tour.stops) (drop p (word_of tour)) k e h in
    let g = of_goes tour w.way k p l w.goes in
    (w.way, record { goes = g.0; finishes = g.1; ends = w.ends })

pub eta_earliest : (tour : Tour) (step progress e : ℕ) → progress ≤ word_length tour → eta_of tour step progress ≡ Some e → IsEarliestEnd tour step progress e
eta_earliest tour k p e l h =
    let w = eta_reached tour k p e l h in
    record {
      way = w.0;
      reached = w.1;
      earliest = λ xs other u. (let q = eta_by tour k p xs other u in let z : Some e ≡ Some q.at = sym h ∙ q.is in let f : e ≡ q.at = cc in let m = q.by in omega arith);
    }

pub eta_none : (tour : Tour) (step progress : ℕ) → eta_of tour step progress ≡ None → HasNoWay tour step progress
eta_none tour k p h = λ xs other u. (let q = eta_by tour k p xs other u in let z : None ≡ Some q.at = sym h ∙ q.is in absurd cc)

-- The converses: the earliest end is the only answer, and where there is no way there is none.
pub earliest_eta : (tour : Tour) (step progress e : ℕ) → progress ≤ word_length tour → IsEarliestEnd tour step progress e → eta_of tour step progress ≡ Some e
earliest_eta tour k p e l h =
    let q = eta_by tour k p h.way e h.reached in
    let w = eta_reached tour k p q.at l q.is in
    let m = q.by in
    let n = h.earliest w.0 q.at w.1 in
    q.is ∙ ap Some (let f : q.at ≡ e = omega arith in f)

none_of : (o : Option ℕ) → ((e : ℕ) → o ≡ Some e → ⊥) → o ≡ None
none_of None h = refl
none_of (Some e) h = absurd (h e refl)

pub none_eta : (tour : Tour) (step progress : ℕ) → progress ≤ word_length tour → HasNoWay tour step progress → eta_of tour step progress ≡ None
none_eta tour k p l h = none_of (eta_of tour k p) (λ e i. (let w = eta_reached tour k p e l i in h w.0 e w.1))

-- Who is sooner, with as much done, ends no later.
pub eta_sooner : (tour : Tour) (sooner step progress e : ℕ) → sooner ≤ step → eta_of tour step progress ≡ Some e → (d : ℕ) × (eta_of tour sooner progress ≡ Some d) × (d ≤ e)
unfolding eta_of
eta_sooner tour j k p e l h = let q = end_sooner (windows_at tour.stops) (drop p (word_of tour)) j k e l h in (q.at, q.is, q.by)

-- With one piece less to do, the end is no later,
less_sooner : (windows : ℕ → List Window) (ps : List Piece) (k e : ℕ) → end_after windows k ps ≡ Some e → IsBy (end_after windows k (tail ps)) e
less_sooner windows [] k e h = let f : k ≡ e = cc in record { at = k; is = refl; by = omega arith }
less_sooner windows (piece.Drive n ∷ ps) k e h = end_sooner windows ps k (k + 1) e (omega arith) h
less_sooner windows (piece.Serve n true ∷ ps) k e h =
    option_and_then_some (λ begins. end_after windows (begins + 1) ps) (first_open (windows n) k) e h (λ at o f.
    let l = (open_is (windows n) k at o).0 in end_sooner windows ps k (at + 1) e (omega arith) f)
less_sooner windows (piece.Serve n false ∷ ps) k e h = end_sooner windows ps k (k + 1) e (omega arith) h

more_done : (tour : Tour) (m k p e : ℕ) → eta_of tour k p ≡ Some e → IsBy (eta_of tour k (p + m)) e
unfolding eta_of
more_done tour zero k p e h = record { at = e; is = ap (λ n. end_after (windows_at tour.stops) k (drop n (word_of tour))) (let f : p + 0 ≡ p = omega arith in f) ∙ h; by = omega arith }
more_done tour (suc m) k p e h =
    let q = less_sooner (windows_at tour.stops) (drop p (word_of tour)) k e h in
    let r = more_done tour m k (p + 1) q.at (ap (end_after (windows_at tour.stops) k) (sym (after_drop Drive (word_of tour) p)) ∙ q.is) in
    let l = q.by in let n = r.by in
    record { at = r.at; is = ap (λ i. end_after (windows_at tour.stops) k (drop i (word_of tour))) (let f : p + suc m ≡ p + 1 + m = omega arith in f) ∙ r.is; by = omega arith }

-- Who has done more by the same step ends no later.
pub eta_further : (tour : Tour) (step progress further e : ℕ) → progress ≤ further → eta_of tour step progress ≡ Some e → (d : ℕ) × (eta_of tour step further ≡ Some d) × (d ≤ e)
eta_further tour k p q e l h =
    let r = more_done tour (q - p) k p e h in
    (r.at, ap (eta_of tour k) (let f : q ≡ p + (q - p) = omega arith in f) ∙ r.is, r.by)
