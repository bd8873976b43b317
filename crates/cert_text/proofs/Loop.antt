-- Reading items one after the other, as a loop does.
use Rattle.std.proofs.Common.{◌≡◌, ℕ, suc, ◌-◌, ◌+◌, ◌≤◌, ◌<◌, List, [], ◌∷◌, ◌++◌, Result, Ok, Err, refl, sym, ap, ◌∙◌, append_assoc, arith}
use Rattle.std.proofs.lemmas.List.{append-nil}
use Rattle.cert_text.specs.declared.text.fault.Stop.{Stop}
use Rattle.cert_text.specs.declared.text.fault.Stop.TheVariants as stop
use Rattle.cert_text.specs.Text.Reading.{◌>>=◌, Fails, repeat_at}

-- what was read before, and what is still read
abbrev pub with_front : {B : Type 0} → List B → Result (List B × List ℕ) ℕ → Result (List B × List ℕ) ℕ
with_front front read = read >>= λ x. Ok (front ++ x.0, x.1)

pub regroup : {B : Type 0} (front : List B) (n : B) (read : Result (List B × List ℕ) ℕ) → with_front front (read >>= λ x. Ok (n ∷ x.0, x.1)) ≡ with_front (front ++ n ∷ []) read
regroup front n (Ok x) = ap (λ ns. Ok (ns, x.1)) (sym (append_assoc front (n ∷ []) x.0))
regroup front n (Err f) = refl

pub begins : {B : Type 0} (read : Result (List B × List ℕ) ℕ) → with_front [] read ≡ read
begins (Ok x) = refl
begins (Err f) = refl

pub goes_on : {S A B : Type 0} (view : A → B) (step : S → List ℕ → Result (A × List ℕ) ℕ) (next : S → A → S) (s : S) (front : List B) (count i : ℕ) (bytes : List ℕ) (x : A) (after : List ℕ) (total : Result (List B × List ℕ) ℕ)
    → i < count → step s bytes ≡ Ok (x, after)
    → with_front front (repeat_at view step next (count - i) s bytes) ≡ total → with_front (front ++ view x ∷ []) (repeat_at view step next (count - (i + 1)) (next s x) after) ≡ total
unfolding repeat_at
goes_on view step next s front count i bytes x after total lt h so_far =
    let k : count - i ≡ suc (count - (i + 1)) = omega arith in
    let one : with_front front (repeat_at view step next (count - i) s bytes) ≡ with_front (front ++ view x ∷ []) (repeat_at view step next (count - (i + 1)) (next s x) after) = rw (k, h) (regroup front (view x) (repeat_at view step next (count - (i + 1)) (next s x) after)) in
    sym one ∙ so_far

pub ends : {S A B : Type 0} (view : A → B) (step : S → List ℕ → Result (A × List ℕ) ℕ) (next : S → A → S) (s : S) (e : Stop) (front : List B) (count i : ℕ) (bytes : List ℕ) (total : Result (List B × List ℕ) ℕ)
    → i < count → Fails e (step s bytes)
    → with_front front (repeat_at view step next (count - i) s bytes) ≡ total → Fails e total
unfolding repeat_at
ends view step next s stop.Memory front count i bytes total lt h so_far = tt
ends view step next s (stop.Left f) front count i bytes total lt h so_far =
    let k : count - i ≡ suc (count - (i + 1)) = omega arith in
    let one : with_front front (repeat_at view step next (count - i) s bytes) ≡ Err f = rw (k, h) refl in
    sym so_far ∙ one

pub is_done : {S A B : Type 0} (view : A → B) (step : S → List ℕ → Result (A × List ℕ) ℕ) (next : S → A → S) (s : S) (front : List B) (count i : ℕ) (bytes : List ℕ) (total : Result (List B × List ℕ) ℕ)
    → count ≤ i → with_front front (repeat_at view step next (count - i) s bytes) ≡ total → total ≡ Ok (front, bytes)
unfolding repeat_at
is_done view step next s front count i bytes total le so_far =
    let k : count - i ≡ 0 = omega arith in
    let one : with_front front (repeat_at view step next (count - i) s bytes) ≡ Ok (front, bytes) = rw k (ap (λ ns. Ok (ns, bytes)) (append-nil front)) in
    sym so_far ∙ one
