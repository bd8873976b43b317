-- Reading the numbers of a state one after the other, as a loop does.
use Rattle.std.proofs.Common.{◌≡◌, ℕ, suc, ◌-◌, ◌+◌, ◌≤◌, ◌<◌, List, [], ◌∷◌, ◌++◌, codes, None, Some, Result, Ok, Err, refl, sym, ap, ◌∙◌, arith}
use Rattle.std.proofs.lemmas.List.{append-nil}
use Rattle.cert_text.specs.declared.text.fault.Stop.{Stop}
use Rattle.cert_text.specs.declared.text.fault.Stop.TheVariants as stop
use Rattle.cert_text.specs.Text.Reading.{Fails, strip_at, number_at, numbers_at}
use Rattle.cert_text.proofs.Loop.{with_front, regroup}

-- one number more
pub number_more : (front : List ℕ) (count i : ℕ) (bytes rest : List ℕ) (n : ℕ) (after : List ℕ) (total : Result (List ℕ × List ℕ) ℕ) → i < count → strip_at (codes " ") bytes ≡ Some rest → number_at rest ≡ Ok (n, after)
    → with_front front (numbers_at (count - i) bytes) ≡ total → with_front (front ++ n ∷ []) (numbers_at (count - (i + 1)) after) ≡ total
unfolding numbers_at
number_more front count i bytes rest n after total lt space h so_far =
    let k : count - i ≡ suc (count - (i + 1)) = omega arith in
    let one : with_front front (numbers_at (count - i) bytes) ≡ with_front (front ++ n ∷ []) (numbers_at (count - (i + 1)) after) = rw (k, space, h) (regroup front n (numbers_at (count - (i + 1)) after)) in
    sym one ∙ so_far

-- what stands after the space is no number
pub number_ends : (e : Stop) (front : List ℕ) (count i : ℕ) (bytes rest : List ℕ) (total : Result (List ℕ × List ℕ) ℕ) → i < count → strip_at (codes " ") bytes ≡ Some rest → Fails e (number_at rest)
    → with_front front (numbers_at (count - i) bytes) ≡ total → Fails e total
unfolding numbers_at
number_ends stop.Memory front count i bytes rest total lt space h so_far = tt
number_ends (stop.Left f) front count i bytes rest total lt space h so_far =
    let k : count - i ≡ suc (count - (i + 1)) = omega arith in
    let one : with_front front (numbers_at (count - i) bytes) ≡ Err f = rw (k, space, h) refl in
    sym so_far ∙ one

-- no number may follow
pub numbers_full : (front : List ℕ) (count i : ℕ) (bytes : List ℕ) (total : Result (List ℕ × List ℕ) ℕ) → count ≤ i
    → with_front front (numbers_at (count - i) bytes) ≡ total → total ≡ Ok (front, bytes)
unfolding numbers_at
numbers_full front count i bytes total le so_far =
    let k : count - i ≡ 0 = omega arith in
    let one : with_front front (numbers_at (count - i) bytes) ≡ Ok (front, bytes) = rw k (ap (λ (ns : List ℕ). Ok (ns, bytes)) (append-nil front)) in
    sym so_far ∙ one

-- no space stands at the front
pub numbers_done : (front : List ℕ) (count i : ℕ) (bytes : List ℕ) (total : Result (List ℕ × List ℕ) ℕ) → i < count → strip_at (codes " ") bytes ≡ None
    → with_front front (numbers_at (count - i) bytes) ≡ total → total ≡ Ok (front, bytes)
unfolding numbers_at
numbers_done front count i bytes total lt space so_far =
    let k : count - i ≡ suc (count - (i + 1)) = omega arith in
    let one : with_front front (numbers_at (count - i) bytes) ≡ Ok (front, bytes) = rw (k, space) (ap (λ (ns : List ℕ). Ok (ns, bytes)) (append-nil front)) in
    sym so_far ∙ one
