-- The stops of a made tour, one by one.
use Rattle.std.proofs.Common.{◌≡◌, ℕ, ◌+◌, ◌*◌, List, ◌++◌, map, refl, sym, ap, subst, ◌∙◌, suc, arith}
use Rattle.std.specs.Prelude.{flat_map}
use Rattle.std.specs.List.{range_with_len}
use Rattle.std.proofs.lemmas.List.{flat_map_more}
use Rattle.std.proofs.lemmas.List.FromFn.{map-range_with_len_more}
use Rattle.report_text.specs.Draws.{next_number, drawn, number_after}
use Rattle.report_text.specs.Made.{drive_drawn, service_drawn, stops_drawn, stop_text, stop_made}

-- one stop more
pub stops_more : (f : ℕ → List ℕ) (old : List ℕ) (n : ℕ) → (old ++ flat_map (λ (stop : List ℕ). stop) (map f (range_with_len 0 n))) ++ f n ≡ old ++ flat_map (λ (stop : List ℕ). stop) (map f (range_with_len 0 (n + 1)))
stops_more f old n =
    flat_map_more (λ (stop : List ℕ). stop) old (map f (range_with_len 0 n)) (f n)
    ∙ ap (λ stops. old ++ flat_map (λ (stop : List ℕ). stop) stops) (sym (map-range_with_len_more f 0 n n (omega arith)))

-- the numbers of a stop's draws follow the number of the draw before them
pub next_draws : (seed before x : ℕ) → x ≡ number_after seed (2 * before + 1) → (next_number x ≡ number_after seed (2 * before + 2)) × (next_number (next_number x) ≡ number_after seed (2 * before + 3)) × (number_after seed (2 * before + 3) ≡ number_after seed (2 * (before + 1) + 1))
next_draws seed before x is =
    let one : 2 * before + 2 ≡ suc (2 * before + 1) = omega arith in
    let two : 2 * before + 3 ≡ suc (suc (2 * before + 1)) = omega arith in
    let more : 2 * before + 3 ≡ 2 * (before + 1) + 1 = omega arith in (
      ap next_number is ∙ sym (ap (number_after seed) one),
      ap (λ y. next_number (next_number y)) is ∙ sym (ap (number_after seed) two),
      ap (number_after seed) more,
    )

-- the stop that these numbers draw
pub stop_is : (seed before driving serving : ℕ) → driving ≡ number_after seed (2 * before + 2) → serving ≡ number_after seed (2 * before + 3) → stop_text before (drive_drawn (drawn driving)) (service_drawn (drawn serving)) ≡ stop_made seed before
unfolding stop_made
stop_is seed before driving serving d s = rw (d, s) refl

-- so many stops are all of them
pub stops_all : (seed n : ℕ) (old text : List ℕ) → n ≡ stops_drawn seed → text ≡ old ++ flat_map (λ (stop : List ℕ). stop) (map (stop_made seed) (range_with_len 0 n))
    → text ≡ old ++ flat_map (λ (stop : List ℕ). stop) (map (stop_made seed) (range_with_len 0 (stops_drawn seed)))
stops_all seed n old text all made = subst (λ m. text ≡ old ++ flat_map (λ (stop : List ℕ). stop) (map (stop_made seed) (range_with_len 0 m))) all made
