-- The best of the finished labels.
use Rattle.std.proofs.Common.{◌≡◌, ℕ, ◌+◌, ◌<◌, ◌≤◌, true, false, List, [], ◌∷◌, ◌++◌, length, take, get_or, refl, sym, ◌∙◌, ap, subst, arith, inl, inr, ◌⊎◌}
use Rattle.std.specs.Prelude.{Option, None, Some, slice_get, nat_lt}
use Rattle.std.proofs.lemmas.List.{take_more, take_all}
use Rattle.std.proofs.lemmas.Option.{slice_get_read}
use Rattle.std.proofs.lemmas.Bool.Decides.{nat_tests}
use Rattle.rule_core.specs.Reach.{IsOneOf}
use Rattle.rule_core.specs.Laws.OneOf.{one_of-append}
use Rattle.tour_model.specs.declared.label.Label.{Label}
use Rattle.label_state.specs.declared.kept.Kept.{Kept}
use Rattle.label_state.specs.declared.kept.Place.{Place}
use Rattle.label_search.specs.declared.best.Best.{Best}
use Rattle.cert_text.specs.CoverLists.Cover.{IsAtLeast, taken}
use Rattle.label_search.specs.Searching.{IsBestOf, IsBestWith, is_below}

-- the best of the labels up to a place of the layer
pub record IsBestSoFar {S : Type 0} (goal step : ℕ) (layer : List (Kept S)) (i : ℕ) (old new : Best) : Type 0 where
  pub keeps : (n : ℕ) → IsAtLeast old.limit n → IsAtLeast new.limit n
  pub each : (k : Kept S) → IsOneOf (take i layer) k → k.label.progress ≡ goal → IsAtLeast new.limit (taken step k.label)
  pub made : (new ≡ old) ⊎ ((place : Place) × (kept : Kept S) × (new.place ≡ Some place) × (place.layer ≡ step) × (slice_get layer place.index ≡ Some kept) × (kept.label.progress ≡ goal) × (new.limit ≡ Some (taken step kept.label)))

-- a label that is not finished, or is no better
pub best_same : {S : Type 0} (goal : ℕ) (l : Label S) (place : Place) (best : Best) → (l.progress ≡ goal → IsAtLeast best.limit (taken place.layer l)) → IsBestWith goal l place best best
best_same goal l place best f = record { keeps = λ n h. h; each = f; made = inl refl }

at_least_of : (limit : Option ℕ) (n : ℕ) → is_below n limit ≡ false → IsAtLeast limit n
at_least_of None n h = absurd (let z : true ≡ false = h in cc)
at_least_of (Some t) n h = let z : nat_lt n t ≡ false = h in let r : t ≤ n = grind (arith, nat_tests) in r

pub best_above : {S : Type 0} (goal : ℕ) (l : Label S) (place : Place) (best : Best) → is_below (taken place.layer l) best.limit ≡ false → IsBestWith goal l place best best
best_above goal l place best h = best_same goal l place best (λ e. at_least_of best.limit (taken place.layer l) h)

lower : (limit : Option ℕ) (t n : ℕ) → is_below t limit ≡ true → IsAtLeast limit n → IsAtLeast (Some t) n
lower None t n h a = absurd a
lower (Some u) t n h a = let z : nat_lt t u ≡ true = h in let b : u ≤ n = a in let r : t ≤ n = grind (arith, nat_tests) in r

pub best_new : {S : Type 0} (goal : ℕ) (l : Label S) (place : Place) (best new : Best) → l.progress ≡ goal → is_below (taken place.layer l) best.limit ≡ true → new ≡ record { limit = Some (taken place.layer l); place = Some place } → IsBestWith goal l place best new
best_new goal l place best new done h e =
    let limit : new.limit ≡ Some (taken place.layer l) = ap (λ b. b.limit) e in
    record {
      keeps = λ n a. subst (λ o. IsAtLeast o n) (sym limit) (lower best.limit (taken place.layer l) n h a);
      each = λ f. subst (λ o. IsAtLeast o (taken place.layer l)) (sym limit) (let r : taken place.layer l ≤ taken place.layer l = omega arith in r);
      made = inr (e, done);
    }

pub best_first : {S : Type 0} (goal step : ℕ) (layer : List (Kept S)) (o : Best) → IsBestSoFar goal step layer 0 o o
best_first goal step layer o = record { keeps = λ n h. h; each = λ k h e. absurd h; made = inl refl }

pub best_more : {S : Type 0} (goal step : ℕ) (layer : List (Kept S)) (i : ℕ) (x : Kept S) (place : Place) (a b c : Best) → i < length layer → x ≡ get_or layer i x → place ≡ record { layer = step; index = i } →
    IsBestSoFar goal step layer i a b → IsBestWith goal x.label place b c → IsBestSoFar goal step layer (i + 1) a c
best_more {S} goal step layer i x place a b c lt e p h f =
    let more : take (i + 1) layer ≡ take i layer ++ x ∷ [] = take_more layer i x lt ∙ ap (λ y. take i layer ++ y ∷ []) (sym e) in
    let of_step : place.layer ≡ step = ap (λ q. q.layer) p in
    record {
      keeps = λ n q. f.keeps n (h.keeps n q);
      each = λ k o done. elim (one_of-append (take i layer) (x ∷ []) k (subst (λ ys. IsOneOf ys k) more o)) [
        | inl q ↦ f.keeps (taken step k.label) (h.each k q done)
        | inr q ↦ elim q [
          | inl eq ↦ subst (λ j. IsAtLeast c.limit (taken step j.label)) eq
              (subst (λ j. IsAtLeast c.limit (taken j x.label)) of_step (f.each (ap (λ j. j.label.progress) eq ∙ done)))
          | inr z ↦ absurd z
        ]
      ];
      made = elim f.made [
        | inl same ↦ subst (λ b. (b ≡ a) ⊎ ((place : Place) × (kept : Kept S) × (b.place ≡ Some place) × (place.layer ≡ step) × (slice_get layer place.index ≡ Some kept) × (kept.label.progress ≡ goal) × (b.limit ≡ Some (taken step kept.label)))) (sym same) h.made
        | inr q ↦ inr (
          place,
          x,
          ap (λ b. b.place) q.0,
          of_step,
          subst (λ j. slice_get layer j ≡ Some x) (sym (ap (λ q. q.index) p)) (slice_get_read layer (length layer) i x refl lt e),
          q.1,
          ap (λ b. b.limit) q.0 ∙ ap (λ j. Some (taken j x.label)) of_step,
        )
      ];
    }

pub best_whole : {S : Type 0} (goal step : ℕ) (layer : List (Kept S)) (i : ℕ) (a b : Best) → length layer ≤ i → IsBestSoFar goal step layer i a b → IsBestOf goal step layer a b
best_whole goal step layer i a b le h = record {
  keeps = h.keeps;
  each = λ k o done. h.each k (subst (λ ys. IsOneOf ys k) (sym (take_all i layer le)) o) done;
  made = h.made;
}
