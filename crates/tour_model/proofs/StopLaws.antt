-- The numbers of a tour's stops are small.
use Rattle.std.proofs.Common.{◌≡◌, ℕ, ◌+◌, ◌-◌, ◌*◌, ◌<◌, ◌≤◌, true, false, cond, refl, sym, ◌∙◌, ap, subst, arith, inl, inr, List, [], ◌∷◌, length, get_or, All, drop}
use Rattle.std.specs.Prelude.{Option, None, Some, nat_le}
use Rattle.std.specs.Option.{option_map}
use Rattle.std.proofs.Math.Nat.{mul-le-mul_left}
use Rattle.std.proofs.lemmas.Bool.{and_parts, or_cases, leb-true, lt-ltb, le-ltb, cases_lt}
use Rattle.std.proofs.lemmas.List.{drop_more}
use Rattle.std.proofs.lemmas.List.Elements.{All-head, All-tail, All-get_or, All-weaker}
use Rattle.tour_model.specs.declared.limits.TheConstants.{LONGEST_TOUR}
use Rattle.tour_model.specs.declared.window.Window.{Window}
use Rattle.tour_model.specs.declared.stop.Stop.{Stop}
use Rattle.tour_model.specs.declared.tour.Tour.{Tour}
use Rattle.tour_model.specs.Window.{is_within, is_open, first_open}
use Rattle.tour_model.specs.Laws.WindowLaws.{open_is}
use Rattle.tour_model.specs.Tour.{IsWindow, IsStop, IsTour}
use Rattle.tour_model.specs.Stop.{IsSmall, leaves_at}
use Rattle.tour_model.specs.Laws.LengthLaws.{tour_grid_some}

-- as many steps as minutes at most
few_steps : (a grid n : ℕ) → 1 ≤ grid → a * grid ≤ n → a ≤ n
few_steps a grid n g l = let m : a * 1 ≤ a * grid = mul-le-mul_left a g in omega arith

small_stop : (grid : ℕ) (s : Stop) → 1 ≤ grid → IsStop grid s → IsSmall s
small_stop grid s g i =
    let d = few_steps s.drive grid 10080 g i.drive in
    let e = few_steps s.service grid 1440 g i.service in
    record {
      drive = omega arith;
      service = omega arith;
      windows = All-weaker (IsWindow grid s.service) (λ w. w.closes ≤ LONGEST_TOUR) (λ w v. (let c = few_steps (w.closes + s.service) grid LONGEST_TOUR g v.ends in omega arith)) s.windows i.windows;
    }

-- a stop of a tour
pub stop_is : (tour : Tour) → IsTour tour → (s : Stop) (i : ℕ) → i < length tour.stops → s ≡ get_or tour.stops i s → IsStop tour.grid s
stop_is tour t s i l e = subst (IsStop tour.grid) (sym e) (All-get_or (IsStop tour.grid) tour.stops i s l t.stops)

pub stop_small : (tour : Tour) → IsTour tour → (s : Stop) (i : ℕ) → i < length tour.stops → s ≡ get_or tour.stops i s → IsSmall s
stop_small tour t s i l e = small_stop tour.grid s (tour_grid_some tour t) (stop_is tour t s i l e)

-- a window that closes by then holds no later step
open_within : (ws : List Window) (at n : ℕ) → All (λ w. w.closes ≤ n) ws → is_open ws at ≡ true → at ≤ n
open_within [] at n a h = absurd (let z : false ≡ true = h in cc)
open_within (w ∷ ws) at n a h = elim (or_cases (is_within at w) (is_open ws at) h) [
  | inl e ↦ (
      let c : at ≤ w.closes = leb-true at w.closes (and_parts (nat_le w.opens at) (nat_le at w.closes) e).1 in
      let d = All-head (λ v. v.closes ≤ n) w ws a in omega arith
      )
  | inr e ↦ open_within ws at n (All-tail (λ v. v.closes ≤ n) w ws a) e
]

-- a service of a small stop begins soon
pub begins_soon : (s : Stop) (at k : ℕ) → IsSmall s → first_open s.windows k ≡ Some at → at ≤ LONGEST_TOUR
begins_soon s at k i h = open_within s.windows at LONGEST_TOUR i.windows (open_is s.windows k at h).1

mapped_soon : (o : Option ℕ) (m e n : ℕ) → ((b : ℕ) → o ≡ Some b → b ≤ n) → option_map (λ b. b + m) o ≡ Some e → e ≤ n + m
mapped_soon None m e n f h = absurd cc
mapped_soon (Some b) m e n f h = let l = f b refl in let z : b + m ≡ e = cc in omega arith

-- a small stop is left soon
pub leaves_soon : (s : Stop) (at left e : ℕ) → IsSmall s → leaves_at s at left ≡ Some e → e ≤ at + 3 * LONGEST_TOUR
leaves_soon s at left e i h =
    let d = i.drive in let v = i.service in
    elim (cases_lt s.drive left) [
      | inl l ↦ (
          let z : Some (at + (s.drive + s.service - left)) ≡ Some e =
          sym (ap (λ t. cond t (Some (at + (s.drive + s.service - left))) (option_map (λ begins. begins + s.service) (first_open s.windows (at + (s.drive - left))))) (lt-ltb s.drive left l)) ∙ h in
          let y : at + (s.drive + s.service - left) ≡ e = cc in omega arith
          )
      | inr l ↦ (
          let z : option_map (λ begins. begins + s.service) (first_open s.windows (at + (s.drive - left))) ≡ Some e =
          sym (ap (λ t. cond t (Some (at + (s.drive + s.service - left))) (option_map (λ begins. begins + s.service) (first_open s.windows (at + (s.drive - left))))) (le-ltb s.drive left l)) ∙ h in
          let y = mapped_soon (first_open s.windows (at + (s.drive - left))) s.service e LONGEST_TOUR (λ b o. begins_soon s b (at + (s.drive - left)) i o) z in
          omega arith
          )
    ]

-- the stops from this one on
pub stop_here : (items stops : List Stop) (i : ℕ) (s : Stop) → items ≡ stops → i < length items → s ≡ get_or items i s → drop i stops ≡ s ∷ drop (i + 1) stops
stop_here items stops i s a l e =
    sym (ap (drop i) a) ∙ (drop_more items i s l ∙ (ap (λ t. t ∷ drop (i + 1) items) (sym e) ∙ ap (λ xs. s ∷ drop (i + 1) xs) a))

-- it is a stop of the tour, and small
pub stop_of : (tour : Tour) → IsTour tour → (items : List Stop) (i : ℕ) (s : Stop) → items ≡ tour.stops → i < length items → s ≡ get_or items i s → IsStop tour.grid s × IsSmall s
stop_of tour t items i s a l e =
    let m : i < length tour.stops = subst (λ xs. i < length xs) a l in
    let f : s ≡ get_or tour.stops i s = e ∙ ap (λ xs. get_or xs i s) a in
    (stop_is tour t s i m f, stop_small tour t s i m f)
