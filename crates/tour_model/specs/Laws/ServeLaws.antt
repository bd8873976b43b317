-- A schedule serves a tour exactly where it goes step by step from the start to the end of the word.
use Rattle.std.proofs.Common.{◌≡◌, ℕ, zero, suc, ◌+◌, ◌≤◌, true, false, refl, sym, ◌∙◌, ap, subst, arith, List, [], ◌∷◌, ◌++◌, length, replicate, filter, All}
use Rattle.std.specs.Prelude.{None}
use Rattle.std.proofs.lemmas.List.Elements.{All-head, All-tail}
use Rattle.duty_core.specs.declared.activity.Activity.{Activity}
use Rattle.duty_core.specs.declared.activity.Activity.TheVariants.{Drive, Serve, Wait, Off, Berth}
use Rattle.duty_core.specs.Params.{allows}
use Rattle.tour_model.specs.declared.window.Window.{Window}
use Rattle.tour_model.specs.declared.stop.Stop.{Stop}
use Rattle.tour_model.specs.declared.piece.Piece.{Piece}
use Rattle.tour_model.specs.declared.piece.Piece.TheVariants as piece
use Rattle.tour_model.specs.declared.tour.Tour.{Tour}
use Rattle.tour_model.specs.Window.{is_open}
use Rattle.tour_model.specs.Tour.{IsStop, IsTour}
use Rattle.tour_model.specs.Word.{service_word, word_from, word_length, windows_at, allows_piece, is_pause}
use Rattle.tour_model.specs.Way.{progresses, done_after, GoesFrom}
use Rattle.tour_model.specs.Schedule.{ServesStop, ServesFrom, ServesTour}
use Rattle.tour_model.specs.Laws.WayLaws.{head, Goes, goes_of, of_goes}

-- The windows by number are those of the stops, the first of which has this number.
abbrev pub AreNumbered : (ℕ → List Window) → ℕ → List Stop → Type 0
AreNumbered windows n [] = Unit {0}
AreNumbered windows n (s ∷ stops) = (windows n ≡ s.windows) × AreNumbered windows (n + 1) stops

numbered_from : (windows : ℕ → List Window) (stops : List Stop) (n : ℕ) → ((i : ℕ) → windows (n + i) ≡ windows_at stops i) → AreNumbered windows n stops
numbered_from windows [] n f = tt
numbered_from windows (s ∷ stops) n f = (
  ap windows (let e : n ≡ n + 0 = omega arith in e) ∙ f 0,
  numbered_from windows stops (n + 1) (λ i. ap windows (let e : n + 1 + i ≡ n + suc i = omega arith in e) ∙ f (suc i)),
)

pub numbered : (stops : List Stop) → AreNumbered (windows_at stops) 0 stops
numbered stops = numbered_from (windows_at stops) stops 0 (λ i. ap (windows_at stops) (let e : 0 + i ≡ i = omega arith in e))

-- After the last piece nothing is allowed.
nothing : (windows : ℕ → List Window) (k : ℕ) (x : Activity) → allows_piece windows k x None ≡ true → ⊥
nothing windows k Drive h = let z : false ≡ true = h in absurd cc
nothing windows k Serve h = let z : false ≡ true = h in absurd cc
nothing windows k Wait h = let z : false ≡ true = h in absurd cc
nothing windows k Off h = let z : false ≡ true = h in absurd cc
nothing windows k Berth h = let z : false ≡ true = h in absurd cc

-- A part of a way: activities up to the end of a service, and a way from there.
record IsPart (windows : ℕ → List Window) (k m n : ℕ) (rest : List Piece) (xs : List Activity) : Type 0 where
  later : List Activity
  whole : xs ≡ replicate m Serve ++ later
  goes : Goes windows n rest later

-- once a service has begun, it goes on to its end
serving : (windows : ℕ → List Window) (number m : ℕ) (rest : List Piece) (xs : List Activity) (k n : ℕ) → k + m ≡ n →
    Goes windows k (replicate m (piece.Serve number false) ++ rest) xs → IsPart windows k m n rest xs
serving windows number zero rest xs k n e g = record { later = xs; whole = refl; goes = subst (λ i. Goes windows i rest xs) (let f : k ≡ n = omega arith in f) g }
serving windows number (suc m) rest [] k n e g = absurd cc
serving windows number (suc m) rest (Drive ∷ xs) k n e g = absurd (let z : false ≡ true = g.0 in cc)
serving windows number (suc m) rest (Wait ∷ xs) k n e g = absurd (let z : false ≡ true = g.0 in cc)
serving windows number (suc m) rest (Off ∷ xs) k n e g = absurd (let z : false ≡ true = g.0 in cc)
serving windows number (suc m) rest (Berth ∷ xs) k n e g = absurd (let z : false ≡ true = g.0 in cc)
serving windows number (suc m) rest (Serve ∷ xs) k n e g =
    let q = serving windows number m rest xs (k + 1) n (omega arith) g.1 in
    record { later = q.later; whole = ap (λ ys. Serve ∷ ys) q.whole; goes = q.goes }

-- A stop is served, with so much driving, and then the way goes on.
record IsServed (windows : ℕ → List Window) (number k m more : ℕ) (rest : List Piece) (xs : List Activity) : Type 0 where
  before : List Activity
  later : List Activity
  whole : xs ≡ before ++ (replicate (suc more) Serve ++ later)
  driving : filter progresses before ≡ replicate m Drive
  opens : is_open (windows number) (k + length before) ≡ true
  goes : Goes windows (k + length before + suc more) rest later

-- the same from one step sooner, after one more activity
sooner : (windows : ℕ → List Window) (number k m n more : ℕ) (rest : List Piece) (x : Activity) (xs : List Activity) →
    ((ys : List Activity) → filter progresses ys ≡ replicate m Drive → filter progresses (x ∷ ys) ≡ replicate n Drive) →
    IsServed windows number (k + 1) m more rest xs → IsServed windows number k n more rest (x ∷ xs)
sooner windows number k m n more rest x xs f s =
    let e : k + 1 + length s.before ≡ k + length (x ∷ s.before) = omega arith in
    record {
      before = x ∷ s.before;
      later = s.later;
      whole = ap (λ ys. x ∷ ys) s.whole;
      driving = f s.before s.driving;
      opens = ap (is_open (windows number)) (sym e) ∙ s.opens;
      goes = subst (λ i. Goes windows (i + suc more) rest s.later) e s.goes;
    }

driving : (windows : ℕ → List Window) (number more : ℕ) (rest : List Piece) (xs : List Activity) (k m : ℕ) →
    Goes windows k (replicate m (piece.Drive number) ++ (piece.Serve number true ∷ replicate more (piece.Serve number false) ++ rest)) xs → IsServed windows number k m more rest xs
driving windows number more rest [] k zero g = absurd cc
driving windows number more rest [] k (suc m) g = absurd cc
driving windows number more rest (Drive ∷ xs) k zero g = absurd (let z : false ≡ true = g.0 in cc)
driving windows number more rest (Drive ∷ xs) k (suc m) g = sooner windows number k m (suc m) more rest Drive xs (λ ys e. ap (λ zs. Drive ∷ zs) e) (driving windows number more rest xs (k + 1) m g.1)
driving windows number more rest (Serve ∷ xs) k (suc m) g = absurd (let z : false ≡ true = g.0 in cc)
driving windows number more rest (Serve ∷ xs) k zero g =
    let q = serving windows number more rest xs (k + 1) (k + 0 + suc more) (omega arith) g.1 in
    record {
      before = [];
      later = q.later;
      whole = ap (λ ys. Serve ∷ ys) q.whole;
      driving = refl;
      opens = ap (is_open (windows number)) (let e : k + 0 ≡ k = omega arith in e) ∙ g.0;
      goes = q.goes;
    }
driving windows number more rest (Wait ∷ xs) k zero g = sooner windows number k 0 0 more rest Wait xs (λ ys e. e) (driving windows number more rest xs (k + 1) zero g.1)
driving windows number more rest (Off ∷ xs) k zero g = sooner windows number k 0 0 more rest Off xs (λ ys e. e) (driving windows number more rest xs (k + 1) zero g.1)
driving windows number more rest (Berth ∷ xs) k zero g = sooner windows number k 0 0 more rest Berth xs (λ ys e. e) (driving windows number more rest xs (k + 1) zero g.1)
driving windows number more rest (Wait ∷ xs) k (suc m) g = sooner windows number k (suc m) (suc m) more rest Wait xs (λ ys e. e) (driving windows number more rest xs (k + 1) (suc m) g.1)
driving windows number more rest (Off ∷ xs) k (suc m) g = sooner windows number k (suc m) (suc m) more rest Off xs (λ ys e. e) (driving windows number more rest xs (k + 1) (suc m) g.1)
driving windows number more rest (Berth ∷ xs) k (suc m) g = sooner windows number k (suc m) (suc m) more rest Berth xs (λ ys e. e) (driving windows number more rest xs (k + 1) (suc m) g.1)

-- One stop: its service has some steps.
one_served : (windows : ℕ → List Window) (s : Stop) (service number : ℕ) (rest : List Piece) (xs : List Activity) (k : ℕ) → s.service ≡ service → 1 ≤ service → windows number ≡ s.windows →
    Goes windows k (replicate s.drive (piece.Drive number) ++ (service_word number service ++ rest)) xs →
    (before : List Activity) × (later : List Activity) × ServesStop k s xs before later × Goes windows (k + length before + s.service) rest later
one_served windows s zero number rest xs k e l w g = absurd (omega arith)
one_served windows s (suc more) number rest xs k e l w g =
    let q = driving windows number more rest xs k s.drive g in (
      q.before,
      q.later,
      record {
        whole = subst (λ m. xs ≡ q.before ++ (replicate m Serve ++ q.later)) (sym e) q.whole;
        driving = q.driving;
        opens = subst (λ ws. is_open ws (k + length q.before) ≡ true) w q.opens;
      },
      subst (λ m. Goes windows (k + length q.before + m) rest q.later) (sym e) q.goes,
    )

pub goes_serves : (windows : ℕ → List Window) (grid : ℕ) (stops : List Stop) (n k : ℕ) (xs : List Activity) → All (IsStop grid) stops → AreNumbered windows n stops →
    Goes windows k (word_from n stops) xs → ServesFrom k stops xs
goes_serves windows grid [] n k [] a w g = refl
goes_serves windows grid [] n k (x ∷ xs) a w g = absurd (nothing windows k x g.0)
goes_serves windows grid (s ∷ stops) n k xs a w g =
    let q = one_served windows s s.service n (word_from (n + 1) stops) xs k refl (All-head (IsStop grid) s stops a).some_service w.0 g in
    (q.0, q.1, q.2, goes_serves windows grid stops (n + 1) (k + length q.0 + s.service) q.1 (All-tail (IsStop grid) s stops a) w.1 q.3)

-- back: the service
serving_goes : (windows : ℕ → List Window) (number m : ℕ) (rest : List Piece) (later : List Activity) (k n : ℕ) → k + m ≡ n → Goes windows n rest later →
    Goes windows k (replicate m (piece.Serve number false) ++ rest) (replicate m Serve ++ later)
serving_goes windows number zero rest later k n e g = subst (λ i. Goes windows i rest later) (let f : n ≡ k = omega arith in f) g
serving_goes windows number (suc m) rest later k n e g = (refl, serving_goes windows number m rest later (k + 1) n (omega arith) g)

-- the driving that is left, after the first of it
tail_drive : (x : Activity) (xs : List Activity) (m : ℕ) → x ∷ xs ≡ replicate m Drive → (n : ℕ) × (m ≡ suc n) × (x ≡ Drive) × (xs ≡ replicate n Drive)
tail_drive x xs zero e = absurd (let z : x ∷ xs ≡ [] = e in cc)
tail_drive x xs (suc n) e = let z : x ∷ xs ≡ Drive ∷ replicate n Drive = e in (n, refl, cc, cc)

-- an idle activity may stand before the driving that is left, and before the service
pause_head : (number m : ℕ) (rest : List Piece) → is_pause (head (replicate m (piece.Drive number) ++ (piece.Serve number true ∷ rest))) ≡ true
pause_head number zero rest = refl
pause_head number (suc m) rest = refl

driving_goes : (windows : ℕ → List Window) (number more : ℕ) (rest : List Piece) (later before : List Activity) (k m n : ℕ) → filter progresses before ≡ replicate m Drive →
    is_open (windows number) (k + length before) ≡ true → k + length before + suc more ≡ n → Goes windows n rest later →
    Goes windows k (replicate m (piece.Drive number) ++ (piece.Serve number true ∷ replicate more (piece.Serve number false) ++ rest)) (before ++ (replicate (suc more) Serve ++ later))
driving_goes windows number more rest later [] k zero n d o e g = (
  ap (is_open (windows number)) (let f : k ≡ k + 0 = omega arith in f) ∙ o,
  serving_goes windows number more rest later (k + 1) n (omega arith) g,
)
driving_goes windows number more rest later [] k (suc m) n d o e g = absurd cc
driving_goes windows number more rest later (Drive ∷ xs) k m n d o e g =
    let q = tail_drive Drive (filter progresses xs) m d in
    let f : k + 1 + length xs ≡ k + length (Drive ∷ xs) = omega arith in
    subst (λ i. Goes windows k (replicate i (piece.Drive number) ++ (piece.Serve number true ∷ replicate more (piece.Serve number false) ++ rest)) (Drive ∷ (xs ++ (replicate (suc more) Serve ++ later)))) (sym q.1)
    (refl, driving_goes windows number more rest later xs (k + 1) q.0 n q.3 (ap (is_open (windows number)) f ∙ o) (omega arith) g)
driving_goes windows number more rest later (Serve ∷ xs) k m n d o e g = let q = tail_drive Serve (filter progresses xs) m d in absurd (let z = q.2 in cc)
driving_goes windows number more rest later (Wait ∷ xs) k m n d o e g =
    let f : k + 1 + length xs ≡ k + length (Wait ∷ xs) = omega arith in
    (pause_head number m (replicate more (piece.Serve number false) ++ rest), driving_goes windows number more rest later xs (k + 1) m n d (ap (is_open (windows number)) f ∙ o) (omega arith) g)
driving_goes windows number more rest later (Off ∷ xs) k m n d o e g =
    let f : k + 1 + length xs ≡ k + length (Off ∷ xs) = omega arith in
    (pause_head number m (replicate more (piece.Serve number false) ++ rest), driving_goes windows number more rest later xs (k + 1) m n d (ap (is_open (windows number)) f ∙ o) (omega arith) g)
driving_goes windows number more rest later (Berth ∷ xs) k m n d o e g =
    let f : k + 1 + length xs ≡ k + length (Berth ∷ xs) = omega arith in
    (pause_head number m (replicate more (piece.Serve number false) ++ rest), driving_goes windows number more rest later xs (k + 1) m n d (ap (is_open (windows number)) f ∙ o) (omega arith) g)

one_goes : (windows : ℕ → List Window) (s : Stop) (service number : ℕ) (rest : List Piece) (xs before later : List Activity) (k : ℕ) → s.service ≡ service → 1 ≤ service → windows number ≡ s.windows →
    ServesStop k s xs before later → Goes windows (k + length before + s.service) rest later →
    Goes windows k (replicate s.drive (piece.Drive number) ++ (service_word number service ++ rest)) xs
one_goes windows s zero number rest xs before later k e l w v g = absurd (omega arith)
one_goes windows s (suc more) number rest xs before later k e l w v g =
    subst (Goes windows k (replicate s.drive (piece.Drive number) ++ (piece.Serve number true ∷ replicate more (piece.Serve number false) ++ rest)))
    (sym (v.whole ∙ ap (λ m. before ++ (replicate m Serve ++ later)) e))
    (driving_goes windows number more rest later before k s.drive (k + length before + s.service) v.driving
    (subst (λ ws. is_open ws (k + length before) ≡ true) (sym w) v.opens) (omega arith) g)

pub serves_goes : (windows : ℕ → List Window) (grid : ℕ) (stops : List Stop) (n k : ℕ) (xs : List Activity) → All (IsStop grid) stops → AreNumbered windows n stops →
    ServesFrom k stops xs → Goes windows k (word_from n stops) xs
serves_goes windows grid [] n k xs a w v = subst (Goes windows k []) (sym v) refl
serves_goes windows grid (s ∷ stops) n k xs a w v =
    one_goes windows s s.service n (word_from (n + 1) stops) xs v.0 v.1 k refl (All-head (IsStop grid) s stops a).some_service w.0 v.2
    (serves_goes windows grid stops (n + 1) (k + length v.0 + s.service) v.1 (All-tail (IsStop grid) s stops a) w.1 v.3)

-- What goes step by step from the start to the end of the word, with activities that the book allows, serves the tour.
pub way_serves : (tour : Tour) → IsTour tour → (xs : List Activity) → GoesFrom tour 0 0 xs → done_after 0 xs ≡ word_length tour → All (λ x. allows tour.params x ≡ true) xs → ServesTour tour xs
way_serves tour t xs g d u =
    record { stops = goes_serves (windows_at tour.stops) tour.grid tour.stops 0 0 xs t.stops (numbered tour.stops) (goes_of tour xs 0 0 g d); usable = u }

whole_way : (tour : Tour) → IsTour tour → (xs : List Activity) → ServesTour tour xs → GoesFrom tour 0 0 xs × (done_after 0 xs ≡ word_length tour)
whole_way tour t xs s = of_goes tour xs 0 0 (omega arith) (serves_goes (windows_at tour.stops) tour.grid tour.stops 0 0 xs t.stops (numbered tour.stops) s.stops)

-- What serves the tour goes step by step from the start,
pub serves_way : (tour : Tour) → IsTour tour → (xs : List Activity) → ServesTour tour xs → GoesFrom tour 0 0 xs
serves_way tour t xs s = (whole_way tour t xs s).0

-- to the end of the word.
pub serves_done : (tour : Tour) → IsTour tour → (xs : List Activity) → ServesTour tour xs → done_after 0 xs ≡ word_length tour
serves_done tour t xs s = (whole_way tour t xs s).1
