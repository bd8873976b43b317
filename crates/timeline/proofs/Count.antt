-- How many units of a kind lie between two places.
use Rattle.std.proofs.Common.{◌≡◌, ℕ, ◌+◌, ◌-◌, ◌<◌, ◌≤◌, Bool, true, false, cond, min, max, List, [], ◌∷◌, ◌++◌, length, get_or, take, drop, replicate, refl, sym, ◌∙◌, ap, arith, length-append, suc, zero}
use Rattle.std.specs.List.{count_by}
use Rattle.std.proofs.lemmas.List.{length-take, length-drop, take_more, take_min, take-replicate, drop-replicate, take-append-drop, length-replicate}
use Rattle.std.proofs.lemmas.List.Concat.{flat_map-append}
use Rattle.std.proofs.lemmas.List.Sums.{sum_by-append, count_by-le-length}
use Rattle.duty_core.specs.declared.activity.Activity.{Activity}
use Rattle.duty_core.specs.History.{between}
use Rattle.timeline.specs.declared.run.Run.{Run}
use Rattle.timeline.specs.Runs.{units_of, spread, AreJoined}
use Rattle.timeline.specs.Laws.RunLaws.{length-spread-take, run_some}
use Rattle.timeline.proofs.Grow.{spread_push}

take-append : {X : Type 0} (n : ℕ) (xs ys : List X) → take n (xs ++ ys) ≡ take n xs ++ take (n - length xs) ys
take-append zero xs ys = let e : 0 ≡ 0 - length xs = omega arith in ap (λ k. take k ys) e
take-append (suc n) [] ys = let e : suc n ≡ suc n - 0 = omega arith in ap (λ k. take k ys) e
take-append (suc n) (x ∷ xs) ys =
    let e : n - length xs ≡ suc n - suc (length xs) = omega arith in
    ap (λ zs. x ∷ zs) (take-append n xs ys ∙ ap (λ k. take n xs ++ take k ys) e)

drop-append : {X : Type 0} (n : ℕ) (xs ys : List X) → drop n (xs ++ ys) ≡ drop n xs ++ drop (n - length xs) ys
drop-append zero xs ys = let e : 0 ≡ 0 - length xs = omega arith in ap (λ k. xs ++ drop k ys) e
drop-append (suc n) [] ys = let e : suc n ≡ suc n - 0 = omega arith in ap (λ k. drop k ys) e
drop-append (suc n) (x ∷ xs) ys =
    let e : n - length xs ≡ suc n - suc (length xs) = omega arith in drop-append n xs ys ∙ ap (λ k. drop n xs ++ drop k ys) e

take_of-replicate : {X : Type 0} (m n : ℕ) (x : X) → take m (replicate n x) ≡ replicate (min m n) x
take_of-replicate m n x =
    sym (take_min m (replicate n x)) ∙ (ap (λ k. take (min m k) (replicate n x)) (length-replicate n x) ∙ take-replicate (min m n) n x (omega arith))

-- what a run after the units adds to those between two places
between_more : (xs : List Activity) (n from to : ℕ) (x : Activity) → between (xs ++ replicate n x) from to ≡ between xs from to ++ replicate (min (to - length xs) n - (from - min to (length xs))) x
between_more xs n from to x =
    let m = min (to - length xs) n in
    let t : take to (xs ++ replicate n x) ≡ take to xs ++ replicate m x = take-append to xs (replicate n x) ∙ ap (λ zs. take to xs ++ zs) (take_of-replicate (to - length xs) n x) in
    ap (drop from) t ∙ (drop-append from (take to xs) (replicate m x) ∙ (ap (λ zs. drop from (take to xs) ++ zs) (drop-replicate (from - length (take to xs)) m x) ∙ ap (λ k. between xs from to ++ replicate (m - (from - k)) x) (length-take to xs)))

count_append : (test : Activity → Bool) (xs ys : List Activity) → count_by test (xs ++ ys) ≡ count_by test xs + count_by test ys
count_append test xs ys = sum_by-append (λ x. cond (test x) 1 0) xs ys

-- a run's units are all of the kind, or none is
count_all : (test : Activity → Bool) (n : ℕ) (x : Activity) → test x ≡ true → count_by test (replicate n x) ≡ n
count_all test zero x passes = refl
count_all test (suc n) x passes =
    count_append test (x ∷ []) (replicate n x) ∙ (ap (λ (b : Bool). (0 + cond b 1 0) + count_by test (replicate n x)) passes ∙ omega (arith, count_all test n x passes))

count_none : (test : Activity → Bool) (n : ℕ) (x : Activity) → test x ≡ false → count_by test (replicate n x) ≡ 0
count_none test zero x fails = refl
count_none test (suc n) x fails =
    count_append test (x ∷ []) (replicate n x) ∙ (ap (λ (b : Bool). (0 + cond b 1 0) + count_by test (replicate n x)) fails ∙ omega (arith, count_none test n x fails))

-- the units of the runs so far, and those of one more
spread_more : (runs : List Run) (i : ℕ) (d : Run) → i < length runs → spread (take (i + 1) runs) ≡ spread (take i runs) ++ units_of (get_or runs i d)
spread_more runs i d inside = ap spread (take_more runs i d inside) ∙ spread_push (take i runs) (get_or runs i d)

pub count_more_yes : (test : Activity → Bool) (runs : List Run) (len i from to : ℕ) (d : Run) → AreJoined runs 0 len → i < length runs → from ≤ to → test (get_or runs i d).act ≡ true → count_by test (between (spread (take (i + 1) runs)) from to) ≡ count_by test (between (spread (take i runs)) from to) + (min (get_or runs i d).to to - max (get_or runs i d).from from)
count_more_yes test runs len i from to d joined inside order passes =
    let run = get_or runs i d in
    let xs = spread (take i runs) in
    let n = run.to - run.from in
    let m = min (to - length xs) n - (from - min to (length xs)) in
    let k : m ≡ min run.to to - max run.from from = omega (arith, length-spread-take runs 0 len i d joined inside, run_some runs 0 len i d joined inside) in
    ap (λ zs. count_by test (between zs from to)) (spread_more runs i d inside) ∙ (ap (count_by test) (between_more xs n from to run.act) ∙ (count_append test (between xs from to) (replicate m run.act) ∙ (ap (λ c. count_by test (between xs from to) + c) (count_all test m run.act passes ∙ k))))

pub count_more_no : (test : Activity → Bool) (runs : List Run) (i from to : ℕ) (d : Run) → i < length runs → test (get_or runs i d).act ≡ false → count_by test (between (spread (take (i + 1) runs)) from to) ≡ count_by test (between (spread (take i runs)) from to)
count_more_no test runs i from to d inside fails =
    let run = get_or runs i d in
    let xs = spread (take i runs) in
    let n = run.to - run.from in
    let m = min (to - length xs) n - (from - min to (length xs)) in
    ap (λ zs. count_by test (between zs from to)) (spread_more runs i d inside) ∙ (ap (count_by test) (between_more xs n from to run.act) ∙ (count_append test (between xs from to) (replicate m run.act) ∙ omega (arith, count_none test m run.act fails)))

-- no count is above the number of all units
pub count_small : (test : Activity → Bool) (runs : List Run) (i from to : ℕ) → count_by test (between (spread (take i runs)) from to) ≤ length (spread runs)
count_small test runs i from to =
    let xs = spread (take i runs) in
    let whole : spread runs ≡ xs ++ spread (drop i runs) = ap spread (sym (take-append-drop i runs)) ∙ flat_map-append units_of (take i runs) (drop i runs) in
    omega (arith, ap length whole, length-append xs (spread (drop i runs)), count_by-le-length test (between xs from to), length-drop from (take to xs), length-take to xs)
