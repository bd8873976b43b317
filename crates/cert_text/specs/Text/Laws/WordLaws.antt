-- Words and numbers: what is read is spelled so, and what is spelled so is read.
use Rattle.std.proofs.Common.{◌≡◌, ℕ, zero, suc, ◌+◌, ◌-◌, ◌*◌, ◌/◌, ◌%◌, ◌<◌, ◌≤◌, ◌^◌, ◌&&◌, Bool, true, false, cond, eqb, ltb, List, [], ◌∷◌, ◌++◌, length, take, drop, Option, None, Some, Result, Ok, Err, refl, sym, ap, ◌∙◌, append_assoc, arith}
use Rattle.std.specs.Str.{bytes_eq}
use Rattle.std.specs.Char.{is_ascii_digit}
use Rattle.std.specs.Fmt.{decimal}
use Rattle.std.proofs.lemmas.Bool.{lt-ltb, eqb-true}
use Rattle.std.proofs.lemmas.Bool.Decides.{nat_tests}
use Rattle.std.proofs.lemmas.List.{take_at, drop_at, take-append-drop}
use Rattle.std.proofs.lemmas.Slice.Eq.{bytes_eq-Decides}
use Rattle.std.proofs.lemmas.Fmt.{decimal_digit, decimal_step, decimal_by_steps}
use Rattle.rule_core.specs.declared.numbers.TheConstants.{NUMBER_LIMIT}
use Rattle.cert_text.specs.Text.Reading.{◌>>=◌, or_left, strip_at, word_at, digits_at, number_at}

-- the value of a step that did not fail
pub bind_ok : {A B : Type 0} (r : Result A ℕ) (f : A → Result B ℕ) (y : B) → (r >>= f) ≡ Ok y → (x : A) × (r ≡ Ok x) × (f x ≡ Ok y)
bind_ok (Ok x) f y e = (x, refl, e)
bind_ok (Err d) f y e = absurd cc

-- and back
pub bind_is : {A B : Type 0} (r : Result A ℕ) (f : A → Result B ℕ) (x : A) (z : Result B ℕ) → r ≡ Ok x → f x ≡ z → (r >>= f) ≡ z
bind_is r f x z e g = rw e g

abbrev done : {A : Type 0} → A → Result A ℕ
done x = Ok x

pub ok_is : {A : Type 0} (x y : A) → done x ≡ done y → x ≡ y
ok_is x y e = cc

-- a test that did not fail
pub guard_ok : {A : Type 0} (b : Bool) (left : ℕ) (r : Result A ℕ) (y : A) → cond b r (Err left) ≡ Ok y → (b ≡ true) × (r ≡ Ok y)
guard_ok true left r y e = (refl, e)
guard_ok false left r y e = absurd cc

pub both_true : (a b : Bool) → (a && b) ≡ true → (a ≡ true) × (b ≡ true)
both_true true b p = (refl, p)
both_true false b p = absurd cc

pub and_true : (a b : Bool) → a ≡ true → b ≡ true → (a && b) ≡ true
and_true true b p q = q
and_true false b p q = p

-- ---- words

some_word : (word bytes rest : List ℕ) (b : Bool) → bytes_eq (take (length word) bytes) word ≡ b → cond b (Some (drop (length word) bytes)) None ≡ Some rest → bytes ≡ word ++ rest
some_word word bytes rest true e s =
    let front : take (length word) bytes ≡ word = (bytes_eq-Decides (take (length word) bytes) word).0 e in
    let back : drop (length word) bytes ≡ rest = cc in
    sym (take-append-drop (length word) bytes) ∙ rw (front, back) refl
some_word word bytes rest false e s = absurd cc

pub strip_takes : (word bytes rest : List ℕ) → strip_at word bytes ≡ Some rest → bytes ≡ word ++ rest
unfolding strip_at
strip_takes word bytes rest e = some_word word bytes rest (bytes_eq (take (length word) bytes) word) refl e

pub strip_again : (word rest : List ℕ) → strip_at word (word ++ rest) ≡ Some rest
unfolding strip_at
strip_again word rest =
    let same : bytes_eq word word ≡ true = (bytes_eq-Decides word word).1 refl in
    rw (take_at word rest (length word) refl, drop_at word rest (length word) refl, same) refl

or_left_ok : {A : Type 0} (left : ℕ) (o : Option A) (x : A) → or_left left o ≡ Ok x → o ≡ Some x
or_left_ok left None x e = absurd cc
or_left_ok left (Some y) x e = cc

pub word_takes : (word bytes rest : List ℕ) → word_at word bytes ≡ Ok rest → bytes ≡ word ++ rest
word_takes word bytes rest e = strip_takes word bytes rest (or_left_ok (length bytes) (strip_at word bytes) rest e)

pub word_again : (word rest : List ℕ) → word_at word (word ++ rest) ≡ Ok rest
word_again word rest = ap (or_left (length (word ++ rest))) (strip_again word rest)

-- ---- numbers

-- bytes that no number goes on with
abbrev pub IsBehindNumber : List ℕ → Type 0
IsBehindNumber [] = Unit {0}
IsBehindNumber (b ∷ rest) = is_ascii_digit b ≡ false

digit_range : (b : ℕ) → is_ascii_digit b ≡ true → (48 ≤ b) × (b ≤ 57)
digit_range b is = (grind (arith, nat_tests), grind (arith, nat_tests))

is_digit : (b : ℕ) → 48 ≤ b → b ≤ 57 → is_ascii_digit b ≡ true
is_digit b low high = grind (arith, nat_tests)

below_limit : (n : ℕ) → n < NUMBER_LIMIT → n < 2 ^ 64
below_limit n lt = omega arith

pair_is : (a b : ℕ) (x y : List ℕ) → ◌≡◌ {A = ℕ × List ℕ} (a, x) (b, y) → (a ≡ b) × (x ≡ y)
pair_is a b x y e = (ap (λ (p : ℕ × List ℕ). p.0) e, ap (λ (p : ℕ × List ℕ). p.1) e)

-- a digit more is the next number's text
digit_more : (n b : ℕ) → 1 ≤ n → n * 10 < NUMBER_LIMIT → 48 ≤ b → b ≤ 57 → decimal (n * 10 + (b - 48)) ≡ decimal n ++ b ∷ []
digit_more n b some lt low high =
    let big : 10 ≤ n * 10 + (b - 48) = omega arith in
    let small : n * 10 + (b - 48) < 2 ^ 64 = omega arith in
    let front : (n * 10 + (b - 48)) / 10 ≡ n = omega arith in
    let back : 48 + (n * 10 + (b - 48)) % 10 ≡ b = omega arith in
    decimal_step (n * 10 + (b - 48)) big small ∙ rw (front, back) refl

digits_take : (n : ℕ) (bytes : List ℕ) (m : ℕ) (rest : List ℕ) → 1 ≤ n → n < NUMBER_LIMIT → digits_at n bytes ≡ (m, rest) → (decimal n ++ bytes ≡ decimal m ++ rest) × (m < NUMBER_LIMIT)
unfolding digits_at
digits_take n [] m rest some lt e =
    let p = pair_is n m [] rest e in (rw (p.0, p.1) refl, rw (← p.0) lt)
digits_take n (b ∷ bytes) m rest some lt e = go (λ k. digits_take k bytes m rest) (is_ascii_digit b && ltb (n * 10) NUMBER_LIMIT) refl e
  where
    go : ((k : ℕ) → 1 ≤ k → k < NUMBER_LIMIT → digits_at k bytes ≡ (m, rest) → (decimal k ++ bytes ≡ decimal m ++ rest) × (m < NUMBER_LIMIT)) → (t : Bool) → (is_ascii_digit b && ltb (n * 10) NUMBER_LIMIT) ≡ t → cond t (digits_at (n * 10 + (b - 48)) bytes) (n, b ∷ bytes) ≡ (m, rest) → (decimal n ++ b ∷ bytes ≡ decimal m ++ rest) × (m < NUMBER_LIMIT)
    go later true is e =
        let p = both_true (is_ascii_digit b) (ltb (n * 10) NUMBER_LIMIT) is in
        let r = digit_range b p.0 in
        let room : n * 10 < NUMBER_LIMIT = (let q = p.1 in grind (arith, nat_tests)) in
        let more = later (n * 10 + (b - 48)) (omega (arith, r.0)) (omega (arith, r.0, r.1)) e in
        let one = digit_more n b some room r.0 r.1 in
        (sym (append_assoc (decimal n) (b ∷ []) bytes) ∙ ap (λ (t : List ℕ). t ++ bytes) (sym one) ∙ more.0, more.1)
    go later false is e = let p = pair_is n m (b ∷ bytes) rest e in (rw (p.0, p.1) refl, rw (← p.0) lt)

digits_stop : (n : ℕ) (rest : List ℕ) → IsBehindNumber rest → digits_at n rest ≡ (n, rest)
unfolding digits_at
digits_stop n [] h = refl
digits_stop n (b ∷ rest) h = rw h refl

-- a number is read digit by digit
abbrev IsReadOn : ℕ → List ℕ → Type 0
IsReadOn n ds = 1 ≤ n → n < NUMBER_LIMIT → (tail : List ℕ) → number_at (ds ++ tail) ≡ Ok (digits_at n tail)

one_digit : (n : ℕ) → n < 10 → IsReadOn n ((48 + n) ∷ [])
unfolding number_at
one_digit n lt some below tail =
    let not_zero : eqb (48 + n) 48 ≡ false = grind (arith, nat_tests) in
    let digit = is_digit (48 + n) (omega arith) (omega arith) in
    let back : 48 + n - 48 ≡ n = omega arith in
    rw (not_zero, digit, back) refl

next_digit : (n b : ℕ) (tail : List ℕ) → n * 10 < NUMBER_LIMIT → 48 ≤ b → b ≤ 57 → digits_at n (b ∷ tail) ≡ digits_at (n * 10 + (b - 48)) tail
unfolding digits_at
next_digit n b tail lt low high =
    let t = and_true (is_ascii_digit b) (ltb (n * 10) NUMBER_LIMIT) (is_digit b low high) (lt-ltb _ _ lt) in
    rw t refl

more_digits : (n : ℕ) (ds : List ℕ) → 10 ≤ n → IsReadOn (n / 10) ds → IsReadOn n (ds ++ ((48 + n % 10) ∷ []))
more_digits n ds big before some below tail =
    let front = before (omega arith) (omega arith) ((48 + n % 10) ∷ tail) in
    let next = next_digit (n / 10) (48 + n % 10) tail (omega arith) (omega arith) (omega arith) in
    let same : n / 10 * 10 + (48 + n % 10 - 48) ≡ n = omega arith in
    ap number_at (append_assoc ds ((48 + n % 10) ∷ []) tail) ∙ front ∙ ap Ok (next ∙ ap (λ k. digits_at k tail) same)

pub number_again : (n : ℕ) (rest : List ℕ) → n < NUMBER_LIMIT → IsBehindNumber rest → number_at (decimal n ++ rest) ≡ Ok (n, rest)
unfolding number_at
number_again zero rest lt h = ap (λ (t : List ℕ). number_at (t ++ rest)) (decimal_digit 0 (omega arith))
number_again (suc k) rest lt h =
    decimal_by_steps IsReadOn one_digit more_digits (suc k) (below_limit (suc k) lt) (omega arith) lt rest ∙ ap Ok (digits_stop (suc k) rest h)

pub number_takes : (bytes : List ℕ) (n : ℕ) (rest : List ℕ) → number_at bytes ≡ Ok (n, rest) → (bytes ≡ decimal n ++ rest) × (n < NUMBER_LIMIT)
unfolding number_at
number_takes [] n rest e = absurd cc
number_takes (b ∷ bytes) n rest e = zero_or (eqb b 48) refl e
  where
    digit_or : (t : Bool) → is_ascii_digit b ≡ t → eqb b 48 ≡ false → cond t (Ok (digits_at (b - 48) bytes)) (Err (length (b ∷ bytes))) ≡ Ok (n, rest) → (b ∷ bytes ≡ decimal n ++ rest) × (n < NUMBER_LIMIT)
    digit_or true is not_zero e =
        let r = digit_range b is in
        let other : 49 ≤ b = (let z = not_zero in let low = r.0 in grind (arith, nat_tests)) in
        let on = digits_take (b - 48) bytes n rest (omega arith) (omega (arith, r.1)) (ok_is _ _ e) in
        let back : 48 + (b - 48) ≡ b = omega arith in
        let one : decimal (b - 48) ≡ b ∷ [] = decimal_digit (b - 48) (omega (arith, r.1)) ∙ ap (λ k. k ∷ []) back in
        (ap (λ (t : List ℕ). t ++ bytes) (sym one) ∙ on.0, on.1)
    digit_or false is not_zero e = absurd cc

    zero_or : (t : Bool) → eqb b 48 ≡ t → cond t (Ok (0, bytes)) (cond (is_ascii_digit b) (Ok (digits_at (b - 48) bytes)) (Err (length (b ∷ bytes)))) ≡ Ok (n, rest) → (b ∷ bytes ≡ decimal n ++ rest) × (n < NUMBER_LIMIT)
    zero_or true is e =
        let p = pair_is 0 n bytes rest (ok_is _ _ e) in
        let one : decimal 0 ≡ 48 ∷ [] = decimal_digit 0 (omega arith) in
        let same : b ≡ 48 = eqb-true _ _ is in
        (rw (← p.0, ← p.1, one, same) refl, rw (← p.0) (omega arith))
    zero_or false is e = digit_or (is_ascii_digit b) refl is e

-- a piece and what stands after it
pub then_takes : (bytes a r t rest : List ℕ) → bytes ≡ a ++ r → r ≡ t ++ rest → bytes ≡ (a ++ t) ++ rest
then_takes bytes a r t rest p q = p ∙ ap (λ (x : List ℕ). a ++ x) q ∙ sym (append_assoc a t rest)
