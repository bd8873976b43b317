-- Lines, one after the other.
use Rattle.std.proofs.Common.{◌≡◌, ℕ, zero, suc, ◌+◌, ◌≤◌, cond, eqb, List, [], ◌∷◌, ◌++◌, codes, refl, sym, ap, subst, ◌∙◌, append_assoc, arith}
use Rattle.std.proofs.lemmas.List.{append-nil}
use Rattle.std.proofs.lemmas.List.Sums.{sum_by-cons, sum_by-append}
use Rattle.cert_text.specs.Text.BadLine.{line_feeds, IsLine, AreLines}

abbrev feed : ℕ → ℕ
feed b = cond (eqb b 10) 1 0

pub feeds_append : (a b : List ℕ) → line_feeds (a ++ b) ≡ line_feeds a + line_feeds b
feeds_append a b = sum_by-append feed a b

feeds_cons : (x : ℕ) (a : List ℕ) → line_feeds (x ∷ a) ≡ feed x + line_feeds a
feeds_cons x a = sum_by-cons feed x a

-- two pieces without an LF
pub none_append : (a b : List ℕ) → line_feeds a ≡ 0 → line_feeds b ≡ 0 → line_feeds (a ++ b) ≡ 0
none_append a b h k = feeds_append a b ∙ rw (h, k) refl

pub line_feed_of : (line : List ℕ) → IsLine line → line_feeds line ≡ 1
line_feed_of line is = ap line_feeds is.ended ∙ feeds_append is.words (codes "\n") ∙ rw is.one refl

pub feeds_of_lines : (n : ℕ) (text : List ℕ) → AreLines n text → line_feeds text ≡ n
feeds_of_lines zero text are = ap line_feeds are
feeds_of_lines (suc n) text are =
    let first = line_feed_of are.0 are.3 in
    let later = feeds_of_lines n are.1 are.4 in
    let both : line_feeds text ≡ line_feeds are.0 + line_feeds are.1 = ap line_feeds are.2 ∙ feeds_append are.0 are.1 in
    omega (arith, first, later, both)

pub a_line : (line : List ℕ) → IsLine line → AreLines 1 line
a_line line is = (line, [], sym (append-nil line), is, refl)

pub lines_append : (n m k : ℕ) (a b : List ℕ) → n + m ≡ k → AreLines n a → AreLines m b → AreLines k (a ++ b)
lines_append zero m k a b e h l =
    let same : m ≡ k = omega arith in
    subst (λ (t : List ℕ). AreLines k (t ++ b)) (sym h) (subst (λ i. AreLines i b) same l)
lines_append (suc n) m zero a b e h l = absurd (omega arith)
lines_append (suc n) m (suc k) a b e h l =
    (h.0, h.1 ++ b, ap (λ (t : List ℕ). t ++ b) h.2 ∙ append_assoc h.0 h.1 b, h.3, lines_append n m k h.1 b (omega arith) h.4 l)

-- the first line of bytes is theirs alone
pub same_words : (w : List ℕ) (u : List ℕ) (a b : List ℕ) → line_feeds w ≡ 0 → line_feeds u ≡ 0 → w ++ 10 ∷ a ≡ u ++ 10 ∷ b → (w ≡ u) × (a ≡ b)
same_words [] [] a b h k e = (refl, (let same : 10 ∷ a ≡ 10 ∷ b = e in cc))
same_words [] (y ∷ u) a b h k e =
    let same : 10 ≡ y = cc in
    let feeds = feeds_cons y u in
    let one : feed y ≡ 1 = rw (← same) refl in
    absurd (omega (arith, k, feeds, one))
same_words (x ∷ w) [] a b h k e =
    let same : x ≡ 10 = cc in
    let feeds = feeds_cons x w in
    let one : feed x ≡ 1 = rw same refl in
    absurd (omega (arith, h, feeds, one))
same_words (x ∷ w) (y ∷ u) a b h k e =
    let first : x ≡ y = cc in
    let rest : w ++ 10 ∷ a ≡ u ++ 10 ∷ b = cc in
    let feeds_w = feeds_cons x w in
    let feeds_u = feeds_cons y u in
    let later = same_words w u a b (omega (arith, h, feeds_w)) (omega (arith, k, feeds_u)) rest in
    (ap (λ i. i ∷ w) first ∙ ap (λ t. y ∷ t) later.0, later.1)

pub same_line : (l m a b : List ℕ) → IsLine l → IsLine m → l ++ a ≡ m ++ b → (l ≡ m) × (a ≡ b)
same_line l m a b h k e =
    let left : l ++ a ≡ h.words ++ 10 ∷ a = ap (λ (t : List ℕ). t ++ a) h.ended ∙ append_assoc h.words (codes "\n") a in
    let right : m ++ b ≡ k.words ++ 10 ∷ b = ap (λ (t : List ℕ). t ++ b) k.ended ∙ append_assoc k.words (codes "\n") b in
    let same = same_words h.words k.words a b h.one k.one (sym left ∙ e ∙ right) in
    (h.ended ∙ ap (λ (w : List ℕ). w ++ codes "\n") same.0 ∙ sym k.ended, same.1)

-- and so are the first lines
pub same_lines : (n : ℕ) (a b u v : List ℕ) → AreLines n a → AreLines n b → a ++ u ≡ b ++ v → (a ≡ b) × (u ≡ v)
same_lines zero a b u v h k e = (h ∙ sym k, sym (ap (λ (t : List ℕ). t ++ u) h) ∙ e ∙ ap (λ (t : List ℕ). t ++ v) k)
same_lines (suc n) a b u v h k e =
    let left : a ++ u ≡ h.0 ++ (h.1 ++ u) = ap (λ (t : List ℕ). t ++ u) h.2 ∙ append_assoc h.0 h.1 u in
    let right : b ++ v ≡ k.0 ++ (k.1 ++ v) = ap (λ (t : List ℕ). t ++ v) k.2 ∙ append_assoc k.0 k.1 v in
    let first = same_line h.0 k.0 (h.1 ++ u) (k.1 ++ v) h.3 k.3 (sym left ∙ e ∙ right) in
    let later = same_lines n h.1 k.1 u v h.4 k.4 first.1 in
    (h.2 ∙ ap (λ (t : List ℕ). t ++ h.1) first.0 ∙ ap (λ (t : List ℕ). k.0 ++ t) later.0 ∙ sym k.2, later.1)

-- some of the first lines, and what stands after them
pub record Split (k : ℕ) (text : List ℕ) : Type 0 where
  pub front : List ℕ
  pub back : List ℕ
  pub are_lines : AreLines k front
  pub parts : text ≡ front ++ back

pub fewer_lines : (k n : ℕ) (text : List ℕ) → k ≤ n → AreLines n text → Split k text
fewer_lines zero n text le are = record { front = []; back = text; are_lines = refl; parts = refl }
fewer_lines (suc k) zero text le are = absurd (omega arith)
fewer_lines (suc k) (suc n) text le are =
    let later = fewer_lines k n are.1 (omega arith) are.4 in
    record {
      front = are.0 ++ later.front;
      back = later.back;
      are_lines = (are.0, later.front, refl, are.3, later.are_lines);
      parts = are.2 ∙ ap (λ (t : List ℕ). are.0 ++ t) later.parts ∙ sym (append_assoc are.0 later.front later.back);
    }

-- the last line, and those before it
pub record Last (n : ℕ) (text : List ℕ) : Type 0 where
  pub front : List ℕ
  pub line : List ℕ
  pub are_lines : AreLines n front
  pub is_line : IsLine line
  pub parts : text ≡ front ++ line

pub last_line : (n : ℕ) (text : List ℕ) → AreLines (suc n) text → Last n text
last_line zero text are = record { front = []; line = text; are_lines = refl; is_line = record { words = are.3.words; one = are.3.one; ended = are.2 ∙ ap (λ (t : List ℕ). are.0 ++ t) are.4 ∙ append-nil are.0 ∙ are.3.ended }; parts = refl }
last_line (suc n) text are =
    let later = last_line n are.1 are.4 in
    record {
      front = are.0 ++ later.front;
      line = later.line;
      are_lines = (are.0, later.front, refl, are.3, later.are_lines);
      is_line = later.is_line;
      parts = are.2 ∙ ap (λ (t : List ℕ). are.0 ++ t) later.parts ∙ sym (append_assoc are.0 later.front later.line);
    }
