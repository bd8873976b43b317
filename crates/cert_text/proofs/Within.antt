-- Readers within a line: what they take and where they stop has no LF before it.
use Rattle.std.proofs.Common.{◌≡◌, ℕ, zero, suc, ◌+◌, ◌-◌, ◌%◌, ◌<◌, ◌⊎◌, inl, inr, Bool, true, false, cond, eqb, ltb, List, [], ◌∷◌, ◌++◌, length, take, drop, codes, Option, None, Some, Result, Ok, Err, refl, sym, ap, ◌∙◌, append_assoc, arith}
use Rattle.std.specs.Prelude.{IfSome}
use Rattle.std.specs.Char.{is_ascii_digit}
use Rattle.std.specs.Fmt.{decimal}
use Rattle.std.specs.List.{flat_map, AllByRecursion}
use Rattle.std.proofs.lemmas.List.Concat.{flat_map-cons}
use Rattle.std.proofs.lemmas.Bool.Decides.{nat_tests}
use Rattle.std.proofs.lemmas.Fmt.{decimal_by_steps}
use Rattle.civil_minutes.specs.Time.{digit, IsTimeText}
use Rattle.civil_minutes.specs.TimeOf.{time_of}
use Rattle.duty_core.specs.declared.activity.Activity.{Activity}
use Rattle.duty_core.specs.declared.activity.Activity.TheVariants.{Drive, Serve, Wait, Off, Berth}
use Rattle.rule_core.specs.declared.numbers.TheConstants.{NUMBER_LIMIT}
use Rattle.cert_text.specs.Text.BadLine.{line_feeds}
use Rattle.cert_text.specs.Text.Spelling.{letter, number_or_dash, state_number}
use Rattle.cert_text.specs.Text.Reading.{◌>>=◌, strip_at, word_at, digits_at, number_at, dash_or_number_at, act_of, letter_is, letter_at, time_is, time_at, or_defer, mark_word_at, after_space, numbers_at}
use Rattle.cert_text.specs.Text.Laws.WordLaws.{strip_takes, word_takes, number_takes}
use Rattle.cert_text.specs.Text.Laws.RunLaws.{letter_takes}
use Rattle.cert_text.specs.Text.Laws.MarkTextLaws.{time_takes, word_of, mark_word_takes}
use Rattle.cert_text.specs.Text.Laws.LayerLaws.{dash_takes, numbers_take}
use Rattle.cert_text.proofs.Lines.{none_append}
use Rattle.cert_text.proofs.Readers.{bind_err, not_both, word_left, word_alone, StopsWithin, stops_here}

-- A reader within a line.
pub record Within {X : Type 0} (p : List ℕ → Result (X × List ℕ) ℕ) : Type 0 where
  pub takes : (bytes : List ℕ) (x : X × List ℕ) → p bytes ≡ Ok x → (front : List ℕ) × (bytes ≡ front ++ x.1) × (line_feeds front ≡ 0)
  pub stops : (bytes : List ℕ) (left : ℕ) → p bytes ≡ Err left → StopsWithin bytes left

-- Where it stops, it stops within the line that it began in `base`.
abbrev pub Stays : {B : Type 0} → List ℕ → (List ℕ → Result B ℕ) → Type 0
Stays base f = (front rest : List ℕ) → base ≡ front ++ rest → line_feeds front ≡ 0 → (left : ℕ) → f rest ≡ Err left → StopsWithin base left

further : (base front rest : List ℕ) (left : ℕ) → base ≡ front ++ rest → line_feeds front ≡ 0 → StopsWithin rest left → StopsWithin base left
further base front rest left parts none s = record {
  within = front ++ s.within;
  at = s.at;
  parts = parts ∙ ap (λ (t : List ℕ). front ++ t) s.parts ∙ sym (append_assoc front s.within s.at);
  one = none_append front s.within none s.one;
  left_is = s.left_is;
}

pub stays_then : {X B : Type 0} (base : List ℕ) (p : List ℕ → Result (X × List ℕ) ℕ) → Within p → (f : X → List ℕ → Result B ℕ) → ((x : X) → Stays base (f x)) → Stays base (λ bytes. p bytes >>= λ x. f x.0 x.1)
stays_then {X} base p within f later front rest parts none left e = go (bind_err (p rest) (λ x. f x.0 x.1) left e)
  where
    go : (p rest ≡ Err left) ⊎ ((x : X × List ℕ) × (p rest ≡ Ok x) × (f x.0 x.1 ≡ Err left)) → StopsWithin base left
    go (inl h) = further base front rest left parts none (within.stops rest left h)
    go (inr t) =
        let a = within.takes rest t.0 t.1 in
        later t.0.0 (front ++ a.0) t.0.1 (parts ∙ ap (λ (z : List ℕ). front ++ z) a.1 ∙ sym (append_assoc front a.0 t.0.1)) (none_append front a.0 none a.2) left t.2

pub stays_word : {B : Type 0} (base word : List ℕ) → line_feeds word ≡ 0 → (f : List ℕ → Result B ℕ) → Stays base f → Stays base (λ bytes. word_at word bytes >>= f)
stays_word base word plain f later front rest parts none left e = go (bind_err (word_at word rest) f left e)
  where
    go : (word_at word rest ≡ Err left) ⊎ ((x : List ℕ) × (word_at word rest ≡ Ok x) × (f x ≡ Err left)) → StopsWithin base left
    go (inl h) = further base front rest left parts none (stops_here rest left (word_left word rest left h))
    go (inr t) = later (front ++ word) t.0 (parts ∙ ap (λ (z : List ℕ). front ++ z) (word_takes word rest t.0 t.1) ∙ sym (append_assoc front word t.0)) (none_append front word none plain) left t.2

-- the end of the line; what is asked after it fails for the whole line
pub stays_end : {B : Type 0} (base : List ℕ) (g : List ℕ → Result B ℕ) → ((rest : List ℕ) (left : ℕ) → g rest ≡ Err left → left ≡ length base) → Stays base (λ bytes. word_at (codes "\n") bytes >>= g)
stays_end base g whole front rest parts none left e = go (bind_err (word_at (codes "\n") rest) g left e)
  where
    go : (word_at (codes "\n") rest ≡ Err left) ⊎ ((x : List ℕ) × (word_at (codes "\n") rest ≡ Ok x) × (g x ≡ Err left)) → StopsWithin base left
    go (inl h) = further base front rest left parts none (stops_here rest left (word_left (codes "\n") rest left h))
    go (inr t) = stops_here base left (whole t.0 left t.2)

-- nothing is asked there
pub never_fails : {B : Type 0} (f : List ℕ → B) (n : ℕ) (rest : List ℕ) (left : ℕ) → ◌≡◌ {A = Result B ℕ} (Ok (f rest)) (Err left) → left ≡ n
never_fails f n rest left e = absurd (not_both (f rest) left e)

-- a test that fails for the whole line
pub test_left : {B : Type 0} (t : Bool) (r : Result B ℕ) (n left : ℕ) → ((m : ℕ) → r ≡ Err m → m ≡ n) → cond t r (Err n) ≡ Err left → left ≡ n
test_left true r n left h e = h left e
test_left false r n left h e = cc

-- ---- numbers

plain_digit : (n : ℕ) → n < 10 → line_feeds ((48 + n) ∷ []) ≡ 0
plain_digit n lt = let no : eqb (48 + n) 10 ≡ false = grind (arith, nat_tests) in rw no refl

pub plain_decimal : (n : ℕ) → n < NUMBER_LIMIT → line_feeds (decimal n) ≡ 0
plain_decimal n lt =
    decimal_by_steps (λ n ds. line_feeds ds ≡ 0) plain_digit (λ n ds big h. none_append ds ((48 + n % 10) ∷ []) h (plain_digit (n % 10) (omega arith))) n (omega arith)

number_left : (bytes : List ℕ) (left : ℕ) → number_at bytes ≡ Err left → left ≡ length bytes
unfolding number_at
number_left [] left e = cc
number_left (b ∷ rest) left e = zero_or (eqb b 48) e
  where
    digit_or : (t : Bool) → cond t (Ok (digits_at (b - 48) rest)) (Err (length (b ∷ rest))) ≡ Err left → left ≡ length (b ∷ rest)
    digit_or true e = absurd cc
    digit_or false e = cc

    zero_or : (t : Bool) → cond t (Ok (0, rest)) (cond (is_ascii_digit b) (Ok (digits_at (b - 48) rest)) (Err (length (b ∷ rest)))) ≡ Err left → left ≡ length (b ∷ rest)
    zero_or true e = absurd cc
    zero_or false e = digit_or (is_ascii_digit b) e

pub number_within : Within number_at
number_within = record {
  takes = λ bytes x e. let t = number_takes bytes x.0 x.1 e in (decimal x.0, t.0, plain_decimal x.0 t.1);
  stops = λ bytes left e. stops_here bytes left (number_left bytes left e);
}

pub plain_dash : (o : Option ℕ) → IfSome o (λ d. d < NUMBER_LIMIT) → line_feeds (number_or_dash o) ≡ 0
plain_dash None few = refl
plain_dash (Some n) few = plain_decimal n few

dash_left : (bytes : List ℕ) (left : ℕ) → dash_or_number_at bytes ≡ Err left → left ≡ length bytes
unfolding dash_or_number_at
dash_left [] left e = cc
dash_left (b ∷ rest) left e = go (eqb b 45) e
  where
    number : (number_at (b ∷ rest) ≡ Err left) ⊎ ((x : ℕ × List ℕ) × (number_at (b ∷ rest) ≡ Ok x) × (◌≡◌ {A = Result (Option ℕ × List ℕ) ℕ} (Ok (Some x.0, x.1)) (Err left))) → left ≡ length (b ∷ rest)
    number (inl h) = number_left (b ∷ rest) left h
    number (inr t) = absurd (not_both (Some t.0.0, t.0.1) left t.2)

    go : (t : Bool) → cond {A = Result (Option ℕ × List ℕ) ℕ} t (Ok (None, rest)) (number_at (b ∷ rest) >>= λ n. Ok (Some n.0, n.1)) ≡ Err left → left ≡ length (b ∷ rest)
    go true e = absurd cc
    go false e = number (bind_err (number_at (b ∷ rest)) (λ n. Ok (Some n.0, n.1)) left e)

pub dash_within : Within dash_or_number_at
dash_within = record {
  takes = λ bytes x e. let t = dash_takes bytes x e in (number_or_dash x.0, t.0, plain_dash x.0 t.1);
  stops = λ bytes left e. stops_here bytes left (dash_left bytes left e);
}

pub numbers_stay : (base : List ℕ) (most : ℕ) → Stays base (numbers_at most)
unfolding numbers_at
numbers_stay base zero front rest parts none left e = absurd (not_both ([], rest) left e)
numbers_stay base (suc most) front rest parts none left e = go (numbers_stay base most) (strip_at (codes " ") rest) refl e
  where
    end : (n : ℕ) → Stays base (numbers_at most) → Stays {B = List ℕ × List ℕ} base (λ bytes. numbers_at most bytes >>= λ others. Ok (n ∷ others.0, others.1))
    end n later front rest parts none left e = last (bind_err (numbers_at most rest) (λ others. Ok (n ∷ others.0, others.1)) left e)
      where
        last : (numbers_at most rest ≡ Err left) ⊎ ((x : List ℕ × List ℕ) × (numbers_at most rest ≡ Ok x) × (◌≡◌ {A = Result (List ℕ × List ℕ) ℕ} (Ok (n ∷ x.0, x.1)) (Err left))) → StopsWithin base left
        last (inl h) = later front rest parts none left h
        last (inr t) = absurd (not_both (n ∷ t.0.0, t.0.1) left t.2)

    go : Stays base (numbers_at most) → (o : Option (List ℕ)) → strip_at (codes " ") rest ≡ o → after_space rest o (λ rest. number_at rest >>= λ n. numbers_at most n.1 >>= λ others. Ok (n.0 ∷ others.0, others.1)) ≡ Err left → StopsWithin base left
    go later None is e = absurd (not_both ([], rest) left e)
    go later (Some digits) is e =
        stays_then base number_at number_within (λ n bytes. numbers_at most bytes >>= λ others. Ok (n ∷ others.0, others.1)) (λ n. end n later) (front ++ codes " ") digits
        (parts ∙ ap (λ (z : List ℕ). front ++ z) (strip_takes (codes " ") rest digits is) ∙ sym (append_assoc front (codes " ") digits)) (none_append front (codes " ") none refl) left e

plain_number : (n : ℕ) → n < NUMBER_LIMIT → line_feeds (state_number n) ≡ 0
plain_number n lt = none_append (codes " ") (decimal n) refl (plain_decimal n lt)

pub plain_numbers : (ns : List ℕ) → AllByRecursion (λ n. n < NUMBER_LIMIT) ns → line_feeds (flat_map state_number ns) ≡ 0
plain_numbers [] below = refl
plain_numbers (n ∷ ns) below = ap line_feeds (flat_map-cons state_number n ns) ∙ none_append (state_number n) (flat_map state_number ns) (plain_number n below.0) (plain_numbers ns below.1)

pub numbers_within : (most : ℕ) → Within (numbers_at most)
numbers_within most = record {
  takes = λ bytes x e. let t = numbers_take most bytes x e in (flat_map state_number x.0, t.parts, plain_numbers x.0 t.below);
  stops = λ bytes left e. numbers_stay bytes most [] bytes refl refl left e;
}

-- ---- letters

pub plain_letter : (act : Activity) → line_feeds (letter act) ≡ 0
plain_letter Drive = refl
plain_letter Serve = refl
plain_letter Wait = refl
plain_letter Off = refl
plain_letter Berth = refl

letter_missing : (n : ℕ) (rest : List ℕ) (o : Option Activity) (left : ℕ) → letter_is n rest o ≡ Err left → left ≡ n
letter_missing n rest None left e = cc
letter_missing n rest (Some act) left e = absurd (not_both (act, rest) left e)

letter_left : (bytes : List ℕ) (left : ℕ) → letter_at bytes ≡ Err left → left ≡ length bytes
unfolding letter_at
letter_left [] left e = cc
letter_left (b ∷ rest) left e = letter_missing (length (b ∷ rest)) rest (act_of b) left e

pub letter_within : Within letter_at
letter_within = record {
  takes = λ bytes x e. (letter x.0, letter_takes bytes x e, plain_letter x.0);
  stops = λ bytes left e. stops_here bytes left (letter_left bytes left e);
}

-- ---- times and words of marks

plain_byte : (n : ℕ) → eqb (digit n) 10 ≡ false
plain_byte n = grind (arith, nat_tests)

pub plain_time : (text : List ℕ) (at : ℕ) → IsTimeText text at → line_feeds text ≡ 0
plain_time text at is = ap line_feeds is.spelled ∙ simp plain_byte

time_missing : (n : ℕ) (rest : List ℕ) (o : Option ℕ) (left : ℕ) → time_is n rest o ≡ Err left → left ≡ n
time_missing n rest None left e = cc
time_missing n rest (Some at) left e = absurd (not_both (at, rest) left e)

time_left : (bytes : List ℕ) (left : ℕ) → time_at bytes ≡ Err left → left ≡ length bytes
unfolding time_at
time_left bytes left e = go (ltb (length bytes) 16) e
  where
    go : (t : Bool) → cond t (Err (length bytes)) (time_is (length bytes) (drop 16 bytes) (time_of (take 16 bytes))) ≡ Err left → left ≡ length bytes
    go true e = cc
    go false e = time_missing (length bytes) (drop 16 bytes) (time_of (take 16 bytes)) left e

pub time_within : Within time_at
time_within = record {
  takes = λ bytes x e. let t = time_takes bytes x e in (t.0, t.1, plain_time t.0 x.0 t.2);
  stops = λ bytes left e. stops_here bytes left (time_left bytes left e);
}

plain_word : (defers : Bool) → line_feeds (word_of defers) ≡ 0
plain_word false = refl
plain_word true = refl

word_missing : (bytes : List ℕ) (o : Option (List ℕ)) (left : ℕ) → or_defer bytes o ≡ Err left → left ≡ length bytes
word_missing bytes (Some rest) left e = absurd (not_both (false, rest) left e)
word_missing bytes None left e = word_alone (codes "defer ") bytes true left e

word_fails : (bytes : List ℕ) (left : ℕ) → mark_word_at bytes ≡ Err left → left ≡ length bytes
unfolding mark_word_at
word_fails bytes left e = word_missing bytes (strip_at (codes "split ") bytes) left e

pub mark_word_within : Within mark_word_at
mark_word_within = record {
  takes = λ bytes x e. (word_of x.0, mark_word_takes bytes x e, plain_word x.0);
  stops = λ bytes left e. stops_here bytes left (word_fails bytes left e);
}
