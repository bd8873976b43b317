-- Runs that get more units at their end.
use Rattle.std.proofs.Common.{◌≡◌, ℕ, ◌+◌, ◌-◌, ◌<◌, ◌≤◌, ◌≢◌, List, [], ◌∷◌, ◌++◌, length, get_or, take, replicate, refl, sym, ◌∙◌, ap, subst, arith, append_assoc, suc}
use Rattle.std.proofs.Math.ListN.{set}
use Rattle.std.proofs.lemmas.List.{append-nil, replicate-append-replicate, set_split, take_more, take_all, drop_all}
use Rattle.std.proofs.lemmas.List.Concat.{flat_map-append}
use Rattle.duty_core.specs.declared.activity.Activity.{Activity}
use Rattle.timeline.specs.declared.run.Run.{Run}
use Rattle.timeline.specs.Runs.{units_of, spread, AreJoined, BeginsOther, AreApart, EndsIn, EndsOther, AreRuns}
use Rattle.timeline.specs.Laws.RunLaws.{joined_to_length}

-- one more run after the others
pub joined_push : (runs : List Run) (new : Run) (from to : ℕ) → AreJoined runs from to → new.from ≡ to → to < new.to → AreJoined (runs ++ new ∷ []) from new.to
joined_push [] new from to joined begins some = (begins ∙ sym joined, omega (arith, joined), refl)
joined_push (run ∷ later) new from to joined begins some = (joined.0, joined.1, joined_push later new run.to to joined.2 begins some)

pub apart_push : (runs : List Run) (new : Run) → ((i : ℕ) → suc i ≡ length runs → (d : Run) → (get_or runs i d).act ≢ new.act) → AreApart runs → AreApart (runs ++ new ∷ [])
apart_push [] new other apart = (tt, tt)
apart_push (run ∷ []) new other apart = (other 0 refl new, (tt, tt))
apart_push (run ∷ (next ∷ later)) new other apart = (apart.0, apart_push (next ∷ later) new (λ i e d. other (suc i) (ap suc e) d) apart.1)

pub spread_push : (runs : List Run) (new : Run) → spread (runs ++ new ∷ []) ≡ spread runs ++ units_of new
spread_push runs new = flat_map-append units_of runs (new ∷ []) ∙ ap (λ xs. spread runs ++ xs) (append-nil (units_of new))

-- a longer run in the place of the last
joined_grow : (init : List Run) (old new : Run) (at from : ℕ) → AreJoined (init ++ old ∷ []) at from → new.from ≡ old.from → from < new.to → AreJoined (init ++ new ∷ []) at new.to
joined_grow [] old new at from joined begins longer = (begins ∙ joined.0, omega (arith, joined.1, joined.2), refl)
joined_grow (run ∷ init) old new at from joined begins longer = (joined.0, joined.1, joined_grow init old new run.to from joined.2 begins longer)

begins_grow : (init : List Run) (old new : Run) (act : Activity) → new.act ≡ old.act → BeginsOther act (init ++ old ∷ []) → BeginsOther act (init ++ new ∷ [])
begins_grow [] old new act same other = subst (λ a. act ≢ a) (sym same) other
begins_grow (run ∷ init) old new act same other = other

apart_grow : (init : List Run) (old new : Run) → new.act ≡ old.act → AreApart (init ++ old ∷ []) → AreApart (init ++ new ∷ [])
apart_grow [] old new same apart = (tt, tt)
apart_grow (run ∷ init) old new same apart = (begins_grow init old new run.act same apart.0, apart_grow init old new same apart.1)

last_run : (init : List Run) (old : Run) (at from : ℕ) → AreJoined (init ++ old ∷ []) at from → (old.from < old.to) × (old.to ≡ from)
last_run [] old at from joined = (omega (arith, joined.0, joined.1), joined.2)
last_run (run ∷ init) old at from joined = last_run init old run.to from joined.2

spread_grow : (init : List Run) (old new : Run) (at from : ℕ) → AreJoined (init ++ old ∷ []) at from → new.from ≡ old.from → new.act ≡ old.act → from < new.to → spread (init ++ new ∷ []) ≡ spread (init ++ old ∷ []) ++ replicate (new.to - from) new.act
spread_grow init old new at from joined begins same longer =
    let l = last_run init old at from joined in
    let n : new.to - new.from ≡ (old.to - old.from) + (new.to - from) = omega (arith, l.0, l.1, begins) in
    let u : units_of new ≡ units_of old ++ replicate (new.to - from) new.act = ap (λ k. replicate k new.act) n ∙ (sym (replicate-append-replicate (old.to - old.from) (new.to - from) new.act) ∙ ap (λ a. replicate (old.to - old.from) a ++ replicate (new.to - from) new.act) same) in
    spread_push init new ∙ (ap (λ xs. spread init ++ xs) u ∙ (sym (append_assoc (spread init) (units_of old) (replicate (new.to - from) new.act)) ∙ ap (λ xs. xs ++ replicate (new.to - from) new.act) (sym (spread_push init old))))

-- what the runs are with so many more units of one activity
pub record AreLonger (runs longer : List Run) (n : ℕ) (act : Activity) : Type 0 where
  pub whole : AreRuns longer (spread longer)
  pub units : spread longer ≡ spread runs ++ replicate n act

-- the last run, i, is made longer
pub grown : (runs : List Run) (i : ℕ) (old : Run) (act : Activity) (from to : ℕ) → i ≡ length runs - 1 → EndsIn act runs → old ≡ get_or runs i old → AreRuns runs (spread runs) → length (spread runs) ≡ from → from < to → AreLonger runs (set runs i (record { act = old.act; from = old.from; to = to })) (to - from) act
grown runs i old act from to last ends is kept thereafter longer =
    let new : Run = record { act = old.act; from = old.from; to = to } in
    let l : i < length runs = omega (arith, ends.0) in
    let m : length runs ≤ i + 1 = omega (arith, ends.0) in
    let was : runs ≡ take i runs ++ old ∷ [] = sym (take_all (i + 1) runs m) ∙ (take_more runs i old l ∙ ap (λ r. take i runs ++ r ∷ []) (sym is)) in
    let now : set runs i new ≡ take i runs ++ new ∷ [] = set_split runs i new l ∙ ap (λ xs. take i runs ++ new ∷ xs) (drop_all (suc i) runs (omega arith)) in
    let j : AreJoined (take i runs ++ old ∷ []) 0 from = subst (λ xs. AreJoined xs 0 from) was (subst (λ n. AreJoined runs 0 n) thereafter kept.joined) in
    let a : AreApart (take i runs ++ old ∷ []) = subst AreApart was kept.apart in
    let same : old.act ≡ act = ap (λ r. r.act) is ∙ (ap (λ k. (get_or runs k old).act) last ∙ ends.1 old) in
    record {
      whole = record {
        joined = joined_to_length (set runs i new) to (subst (λ xs. AreJoined xs 0 to) (sym now) (joined_grow (take i runs) old new 0 from j refl longer));
        apart = subst AreApart (sym now) (apart_grow (take i runs) old new refl a);
        spread = refl;
      };
      units = ap spread now ∙ (spread_grow (take i runs) old new 0 from j refl refl longer ∙ (ap (λ xs. spread xs ++ replicate (to - from) old.act) (sym was) ∙ ap (λ x. spread runs ++ replicate (to - from) x) same));
    }

-- one more run, of another activity than the last
pub pushed : (runs : List Run) (act : Activity) (from to : ℕ) → EndsOther act runs → AreRuns runs (spread runs) → length (spread runs) ≡ from → from < to → AreLonger runs (runs ++ record { act = act; from = from; to = to } ∷ []) (to - from) act
pushed runs act from to other kept thereafter some =
    let new : Run = record { act = act; from = from; to = to } in
    let different : (i : ℕ) → suc i ≡ length runs → (d : Run) → (get_or runs i d).act ≢ act = λ i e d. let f : length runs - 1 ≡ i = omega arith in subst (λ k. (get_or runs k d).act ≢ act) f (other (omega arith) d) in
    record {
      whole = record {
        joined = joined_to_length (runs ++ new ∷ []) to (joined_push runs new 0 from (subst (λ n. AreJoined runs 0 n) thereafter kept.joined) refl some);
        apart = apart_push runs new different kept.apart;
        spread = refl;
      };
      units = spread_push runs new;
    }
