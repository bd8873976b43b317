-- The first step at which a piece may be done, and the pieces of a tour's work one by one.
use Rattle.std.proofs.Common.{◌≡◌, ℕ, ◌+◌, ◌≤◌, true, false, List, [], ◌∷◌, ◌++◌, take, length, refl, ◌∙◌, ap, arith, zero, suc}
use Rattle.std.specs.Prelude.{Option, None, Some, IfSome, slice_get, ◌||◌}
use Rattle.std.proofs.Math.Seq.{take-suc}
use Rattle.std.proofs.lemmas.Option.{slice_get_within, get_or_from_slice_get}
use Rattle.tour_model.specs.declared.piece.Piece.{Piece}
use Rattle.tour_model.specs.declared.piece.Piece.TheVariants as piece
use Rattle.tour_model.specs.declared.window.Window.{Window}
use Rattle.tour_model.specs.Window.{is_open, first_open}
use Rattle.tour_model.specs.Word.{is_drive, is_service}
use Rattle.tour_model.specs.Laws.WindowLaws.{IsBy, open_is, open_by}
use Rattle.rest_bound.specs.Runs.{AtMost}
use Rattle.us_bound.specs.Work.{first_step}

opens_step : (o : Option ℕ) (ws : List Window) → ((at : ℕ) → o ≡ Some at → is_open ws at ≡ true) → IfSome o (λ at. is_open ws at ≡ true)
opens_step None ws h = tt
opens_step (Some at) ws h = h at refl

later_step : (o : Option ℕ) (from : ℕ) → ((at : ℕ) → o ≡ Some at → from ≤ at) → IfSome o (λ at. from ≤ at)
later_step None from h = tt
later_step (Some at) from h = h at refl

pub first_opened : (windows : ℕ → List Window) (from : ℕ) (o : Option Piece) → IfSome (first_step windows from o) (λ at. (is_drive o || is_service windows at o) ≡ true)
first_opened windows from None = tt
first_opened windows from (Some (piece.Drive stop)) = refl
first_opened windows from (Some (piece.Serve stop true)) = opens_step (first_open (windows stop) from) (windows stop) (λ at e. (open_is (windows stop) from at e).1)
first_opened windows from (Some (piece.Serve stop false)) = refl

pub first_later : (windows : ℕ → List Window) (from : ℕ) (o : Option Piece) → IfSome (first_step windows from o) (λ at. from ≤ at)
first_later windows from None = tt
first_later windows from (Some (piece.Drive stop)) = omega arith
first_later windows from (Some (piece.Serve stop true)) = later_step (first_open (windows stop) from) from (λ at e. (open_is (windows stop) from at e).0)
first_later windows from (Some (piece.Serve stop false)) = omega arith

at_most_by : (o : Option ℕ) (b : ℕ) → IsBy o b → AtMost o b
at_most_by None b h = absurd (let z = h.is in cc)
at_most_by (Some at) b h = let z = h.is in let e : at ≡ h.at = cc in let l = h.by in omega arith

pub first_first : (windows : ℕ → List Window) (from : ℕ) (o : Option Piece) (b : ℕ) → (is_drive o || is_service windows b o) ≡ true → from ≤ b → AtMost (first_step windows from o) b
first_first windows from None b h l = absurd (let z : false ≡ true = h in cc)
first_first windows from (Some (piece.Drive stop)) b h l = l
first_first windows from (Some (piece.Serve stop true)) b h l = at_most_by (first_open (windows stop) from) b (open_by (windows stop) from b l h)
first_first windows from (Some (piece.Serve stop false)) b h l = l

-- one piece more of the word
pub take_more : (ps : List Piece) (p : ℕ) (x : Piece) → slice_get ps p ≡ Some x → take (p + 1) ps ≡ take p ps ++ x ∷ []
take_more ps p x h =
    let e : p + 1 ≡ suc p = omega arith in
    ap (λ k. take k ps) e ∙ (take-suc ps p x (slice_get_within ps p x h) ∙ ap (λ y. take p ps ++ y ∷ []) (get_or_from_slice_get ps p x x h))

-- all of it
pub take_whole : (n : ℕ) (ps : List Piece) → length ps ≤ n → take n ps ≡ ps
take_whole zero [] l = refl
take_whole zero (x ∷ ps) l = absurd (omega arith)
take_whole (suc n) [] l = refl
take_whole (suc n) (x ∷ ps) l = ap (λ qs. x ∷ qs) (take_whole n ps (omega arith))
