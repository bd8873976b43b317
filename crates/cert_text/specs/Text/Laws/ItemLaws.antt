-- Items one after the other: what is read is spelled so, and what is spelled so is read.
use Rattle.std.proofs.Common.{◌≡◌, ℕ, zero, suc, ◌<◌, List, [], ◌∷◌, ◌++◌, length, codes, Result, Ok, refl, sym, ap, subst, ◌∙◌, append_assoc}
use Rattle.std.specs.Fmt.{decimal}
use Rattle.rule_core.specs.declared.numbers.TheConstants.{NUMBER_LIMIT}
use Rattle.cert_text.specs.Text.Spelling.{number_line}
use Rattle.cert_text.specs.Text.Reading.{◌>>=◌, word_at, number_at, number_line_at, repeat_at}
use Rattle.cert_text.specs.Text.Laws.WordLaws.{bind_ok, bind_is, ok_is, word_takes, word_again, number_again, number_takes}

-- ---- a number to the end of its line

pub number_line_takes : (word bytes : List ℕ) (n : ℕ) (rest : List ℕ) → number_line_at word bytes ≡ Ok (n, rest) → (bytes ≡ number_line word n ++ rest) × (n < NUMBER_LIMIT)
unfolding number_line_at
number_line_takes word bytes n rest e =
    let a = bind_ok (word_at word bytes) (λ a. number_at a >>= λ n. word_at (codes "\n") n.1 >>= λ b. Ok (n.0, b)) (n, rest) e in
    let k = bind_ok (number_at a.0) (λ n. word_at (codes "\n") n.1 >>= λ b. Ok (n.0, b)) (n, rest) a.2 in
    let b = bind_ok (word_at (codes "\n") k.0.1) (λ b. Ok (k.0.0, b)) (n, rest) k.2 in
    let t0 = word_takes word bytes a.0 a.1 in
    let t1 = number_takes a.0 k.0.0 k.0.1 k.1 in
    let t2 = word_takes (codes "\n") k.0.1 b.0 b.1 in
    let whole : bytes ≡ number_line word k.0.0 ++ b.0 =
    t0 ∙ ap (λ (t : List ℕ). word ++ t) (t1.0 ∙ ap (λ (t : List ℕ). decimal k.0.0 ++ t) t2 ∙ sym (append_assoc (decimal k.0.0) (codes "\n") b.0))
    ∙ sym (append_assoc word (decimal k.0.0 ++ codes "\n") b.0) in
    subst (λ (x : ℕ × List ℕ). (bytes ≡ number_line word x.0 ++ x.1) × (x.0 < NUMBER_LIMIT)) (ok_is (k.0.0, b.0) (n, rest) b.2) (whole, t1.1)

pub number_line_again : (word : List ℕ) (n : ℕ) (rest : List ℕ) → n < NUMBER_LIMIT → number_line_at word (number_line word n ++ rest) ≡ Ok (n, rest)
unfolding number_line_at
number_line_again word n rest lt =
    let regrouped : number_line word n ++ rest ≡ word ++ (decimal n ++ (codes "\n" ++ rest)) = append_assoc word (decimal n ++ codes "\n") rest ∙ ap (λ (t : List ℕ). word ++ t) (append_assoc (decimal n) (codes "\n") rest) in
    ap (number_line_at word) regrouped
    ∙ bind_is (word_at word (word ++ (decimal n ++ (codes "\n" ++ rest)))) (λ a. number_at a >>= λ n. word_at (codes "\n") n.1 >>= λ b. Ok (n.0, b)) (decimal n ++ (codes "\n" ++ rest)) (Ok (n, rest)) (word_again word (decimal n ++ (codes "\n" ++ rest)))
    (bind_is (number_at (decimal n ++ (codes "\n" ++ rest))) (λ n. word_at (codes "\n") n.1 >>= λ b. Ok (n.0, b)) (n, codes "\n" ++ rest) (Ok (n, rest)) (number_again n (codes "\n" ++ rest) lt refl)
    (bind_is (word_at (codes "\n") (codes "\n" ++ rest)) (λ b. Ok (n, b)) rest (Ok (n, rest)) (word_again (codes "\n") rest) refl))

-- ---- so many items

-- The text is that of these items, as `view` sees them, one after the other: each is good at its place.
abbrev pub AreGood : {S A B : Type 0} → (A → B) → (S → A → S) → (S → A → List ℕ → Type 0) → S → List B → List ℕ → Type 0
AreGood view next good s [] text = text ≡ []
AreGood {S} {A} view next good s (b ∷ bs) text =
    (a : A) × (front : List ℕ) × (back : List ℕ) × (b ≡ view a) × (text ≡ front ++ back) × good s a front × AreGood view next good (next s a) bs back

-- what one step takes is good
abbrev pub Takes : {S A : Type 0} → (S → List ℕ → Result (A × List ℕ) ℕ) → (S → A → List ℕ → Type 0) → Type 0
Takes {S} {A} step good = (s : S) (bytes : List ℕ) (a : A) (rest : List ℕ) → step s bytes ≡ Ok (a, rest) → (front : List ℕ) × (bytes ≡ front ++ rest) × good s a front

-- what is good is read again, whatever follows
abbrev pub IsReadAgain : {S A : Type 0} → (S → List ℕ → Result (A × List ℕ) ℕ) → (S → A → List ℕ → Type 0) → Type 0
IsReadAgain {S} {A} step good = (s : S) (a : A) (front rest : List ℕ) → good s a front → step s (front ++ rest) ≡ Ok (a, rest)

-- what the items took of the bytes
pub record TakesItems {S A B : Type 0} (view : A → B) (next : S → A → S) (good : S → A → List ℕ → Type 0) (n : ℕ) (s : S) (bytes : List ℕ) (bs : List B) (rest : List ℕ) : Type 0 where
  pub text : List ℕ
  pub parts : bytes ≡ text ++ rest
  pub are_good : AreGood view next good s bs text
  pub count : length bs ≡ n

pub repeat_takes : {S A B : Type 0} (view : A → B) (step : S → List ℕ → Result (A × List ℕ) ℕ) (next : S → A → S) (good : S → A → List ℕ → Type 0) → Takes step good
    → (n : ℕ) (s : S) (bytes : List ℕ) (x : List B × List ℕ) → repeat_at view step next n s bytes ≡ Ok x → TakesItems view next good n s bytes x.0 x.1
unfolding repeat_at
repeat_takes view step next good takes zero s bytes x e =
    subst (λ y. TakesItems view next good 0 s bytes y.0 y.1) (ok_is ([], bytes) x e) (record { text = []; parts = refl; are_good = refl; count = refl })
repeat_takes view step next good takes (suc n) s bytes x e =
    let a = bind_ok (step s bytes) (λ first. repeat_at view step next n (next s first.0) first.1 >>= λ others. Ok (view first.0 ∷ others.0, others.1)) x e in
    let b = bind_ok (repeat_at view step next n (next s a.0.0) a.0.1) (λ others. Ok (view a.0.0 ∷ others.0, others.1)) x a.2 in
    let first = takes s bytes a.0.0 a.0.1 a.1 in
    let later = repeat_takes view step next good takes n (next s a.0.0) a.0.1 b.0 b.1 in
    subst (λ y. TakesItems view next good (suc n) s bytes y.0 y.1) (ok_is (view a.0.0 ∷ b.0.0, b.0.1) x b.2) (record {
      text = first.0 ++ later.text;
      parts = first.1 ∙ ap (λ (t : List ℕ). first.0 ++ t) later.parts ∙ sym (append_assoc first.0 later.text b.0.1);
      are_good = (a.0.0, first.0, later.text, refl, refl, first.2, later.are_good);
      count = ap suc later.count;
    })

pub repeat_again : {S A B : Type 0} (view : A → B) (step : S → List ℕ → Result (A × List ℕ) ℕ) (next : S → A → S) (good : S → A → List ℕ → Type 0) → IsReadAgain step good
    → (bs : List B) (s : S) (text rest : List ℕ) → AreGood view next good s bs text → repeat_at view step next (length bs) s (text ++ rest) ≡ Ok (bs, rest)
unfolding repeat_at
repeat_again view step next good again [] s text rest are = rw are refl
repeat_again view step next good again (b ∷ bs) s text rest are =
    let a = are.0 in
    let front = are.1 in
    let back = are.2 in
    let one = again s a front (back ++ rest) are.5 in
    let others = repeat_again view step next good again bs (next s a) back rest are.6 in
    let regrouped : text ++ rest ≡ front ++ (back ++ rest) = ap (λ (t : List ℕ). t ++ rest) are.4 ∙ append_assoc front back rest in
    ap (repeat_at view step next (suc (length bs)) s) regrouped
    ∙ bind_is (step s (front ++ (back ++ rest))) (λ first. repeat_at view step next (length bs) (next s first.0) first.1 >>= λ others. Ok (view first.0 ∷ others.0, others.1)) (a, back ++ rest) (Ok (b ∷ bs, rest)) one
    (bind_is (repeat_at view step next (length bs) (next s a) (back ++ rest)) (λ others. Ok (view a ∷ others.0, others.1)) (bs, rest) (Ok (b ∷ bs, rest)) others (ap (λ c. Ok (c ∷ bs, rest)) (sym are.3)))
