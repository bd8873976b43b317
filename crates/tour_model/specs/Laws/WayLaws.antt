-- What a tour allows, by the pieces that are left of its word.
use Rattle.std.proofs.Common.{◌≡◌, ℕ, zero, suc, ◌+◌, ◌<◌, ◌≤◌, true, false, refl, sym, ◌∙◌, ap, subst, arith, List, [], ◌∷◌, length, drop}
use Rattle.std.specs.Prelude.{Option, None, Some, slice_get}
use Rattle.std.proofs.lemmas.List.{drop_all, length-drop}
use Rattle.std.proofs.lemmas.Option.{slice_get_within}
use Rattle.duty_core.specs.declared.activity.Activity.{Activity}
use Rattle.duty_core.specs.declared.activity.Activity.TheVariants.{Drive, Serve, Wait, Off, Berth}
use Rattle.duty_core.specs.Activity.{idles}
use Rattle.tour_model.specs.declared.window.Window.{Window}
use Rattle.tour_model.specs.declared.piece.Piece.{Piece}
use Rattle.tour_model.specs.declared.tour.Tour.{Tour}
use Rattle.tour_model.specs.Word.{word_of, word_length, next_piece, windows_at, allows_piece, is_pause, may_do}
use Rattle.tour_model.specs.Way.{done, done_after, GoesFrom}

-- the first of the pieces that are left
abbrev pub head : List Piece → Option Piece
head [] = None
head (y ∷ ps) = Some y

-- the pieces after it
abbrev pub tail : List Piece → List Piece
tail [] = []
tail (y ∷ ps) = ps

-- the pieces that are left after an activity
abbrev pub after : Activity → List Piece → List Piece
after Drive ps = tail ps
after Serve ps = tail ps
after Wait ps = ps
after Off ps = ps
after Berth ps = ps

-- From this step on, the activities are allowed one after the other, and no piece is left after them.
abbrev pub Goes : (ℕ → List Window) → ℕ → List Piece → List Activity → Type 0
Goes windows k ps [] = ps ≡ []
Goes windows k ps (x ∷ xs) = (allows_piece windows k x (head ps) ≡ true) × Goes windows (k + 1) (after x ps) xs

pub head_drop : (ps : List Piece) (p : ℕ) → head (drop p ps) ≡ slice_get ps p
head_drop [] zero = refl
head_drop [] (suc p) = refl
head_drop (y ∷ ps) zero = refl
head_drop (y ∷ ps) (suc p) = head_drop ps p

tail_drop_suc : (ps : List Piece) (p : ℕ) → tail (drop p ps) ≡ drop (suc p) ps
tail_drop_suc [] zero = refl
tail_drop_suc [] (suc p) = refl
tail_drop_suc (y ∷ ps) zero = refl
tail_drop_suc (y ∷ ps) (suc p) = tail_drop_suc ps p

tail_drop : (ps : List Piece) (p : ℕ) → tail (drop p ps) ≡ drop (p + 1) ps
tail_drop ps p = tail_drop_suc ps p ∙ ap (λ n. drop n ps) (let e : suc p ≡ p + 1 = omega arith in e)

pub after_drop : (x : Activity) (ps : List Piece) (p : ℕ) → after x (drop p ps) ≡ drop (done p x) ps
after_drop Drive ps p = tail_drop ps p
after_drop Serve ps p = tail_drop ps p
after_drop Wait ps p = refl
after_drop Off ps p = refl
after_drop Berth ps p = refl

-- What is allowed is allowed before some piece.
allowed_some : (windows : ℕ → List Window) (k : ℕ) (x : Activity) (o : Option Piece) → allows_piece windows k x o ≡ true → (y : Piece) × (o ≡ Some y)
allowed_some windows k x (Some y) h = (y, refl)
allowed_some windows k Drive None h = absurd (let z : false ≡ true = h in cc)
allowed_some windows k Serve None h = absurd (let z : false ≡ true = h in cc)
allowed_some windows k Wait None h = absurd (let z : false ≡ true = h in cc)
allowed_some windows k Off None h = absurd (let z : false ≡ true = h in cc)
allowed_some windows k Berth None h = absurd (let z : false ≡ true = h in cc)

-- Nothing is allowed once the word is done.
pub may_before : (tour : Tour) (step progress : ℕ) (x : Activity) → may_do tour step progress x ≡ true → progress < word_length tour
may_before tour k p x h =
    let q = allowed_some (windows_at tour.stops) k x (next_piece tour p) h in slice_get_within (word_of tour) p q.0 q.1

idle_pause : (windows : ℕ → List Window) (k : ℕ) (x : Activity) (o : Option Piece) → idles x ≡ true → allows_piece windows k x o ≡ is_pause o
idle_pause windows k Drive o i = absurd (let z : false ≡ true = i in cc)
idle_pause windows k Serve o i = absurd (let z : false ≡ true = i in cc)
idle_pause windows k Wait o i = refl
idle_pause windows k Off o i = refl
idle_pause windows k Berth o i = refl

-- Where one idle activity is allowed, each is.
pub may_idle_all : (tour : Tour) (step progress : ℕ) (x y : Activity) → idles x ≡ true → idles y ≡ true → may_do tour step progress x ≡ true → may_do tour step progress y ≡ true
may_idle_all tour k p x y i j h =
    idle_pause (windows_at tour.stops) k y (next_piece tour p) j ∙ (sym (idle_pause (windows_at tour.stops) k x (next_piece tour p) i) ∙ h)

-- A way by progress is a way by the pieces that are left.
pub goes_of : (tour : Tour) (xs : List Activity) (k p : ℕ) → GoesFrom tour k p xs → done_after p xs ≡ word_length tour → Goes (windows_at tour.stops) k (drop p (word_of tour)) xs
goes_of tour [] k p g d = drop_all p (word_of tour) (omega arith)
goes_of tour (x ∷ xs) k p g d = (
  ap (allows_piece (windows_at tour.stops) k x) (head_drop (word_of tour) p) ∙ g.0,
  subst (λ ps. Goes (windows_at tour.stops) (k + 1) ps xs) (sym (after_drop x (word_of tour) p)) (goes_of tour xs (k + 1) (done p x) g.1 d),
)

done_within : (x : Activity) (p n : ℕ) → p < n → done p x ≤ n
done_within Drive p n l = omega arith
done_within Serve p n l = omega arith
done_within Wait p n l = omega arith
done_within Off p n l = omega arith
done_within Berth p n l = omega arith

-- and back
pub of_goes : (tour : Tour) (xs : List Activity) (k p : ℕ) → p ≤ word_length tour → Goes (windows_at tour.stops) k (drop p (word_of tour)) xs → GoesFrom tour k p xs × (done_after p xs ≡ word_length tour)
of_goes tour [] k p l g = (tt, let e = ap length g in let f = length-drop p (word_of tour) in omega arith)
of_goes tour (x ∷ xs) k p l g =
    let h : may_do tour k p x ≡ true = sym (ap (allows_piece (windows_at tour.stops) k x) (head_drop (word_of tour) p)) ∙ g.0 in
    let q = of_goes tour xs (k + 1) (done p x) (done_within x p (word_length tour) (may_before tour k p x h))
    (subst (λ ps. Goes (windows_at tour.stops) (k + 1) ps xs) (after_drop x (word_of tour) p) g.1) in
    ((h, q.0), q.1)
