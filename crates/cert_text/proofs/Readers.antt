-- Readers of whole lines: what they take, how a text goes on where they stop, and that none goes on with the line at which they stop.
use Rattle.std.proofs.Common.{◌≡◌, ℕ, zero, suc, ◌+◌, ◌⊎◌, inl, inr, List, [], ◌∷◌, ◌++◌, length, codes, Option, None, Some, Result, Ok, Err, refl, sym, ap, subst, ◌∙◌, append_assoc}
use Rattle.cert_text.specs.Text.BadLine.{line_feeds, IsLine, AreLines}
use Rattle.cert_text.specs.Text.Reading.{◌>>=◌, or_left, strip_at, repeat_at, word_at}
use Rattle.cert_text.specs.Text.Laws.WordLaws.{bind_ok, bind_is, ok_is, then_takes, word_takes, word_again}
use Rattle.cert_text.proofs.Lines.{a_line, lines_append, same_words}

-- where two readers stop
pub bind_err : {A B : Type 0} (r : Result A ℕ) (f : A → Result B ℕ) (left : ℕ) → (r >>= f) ≡ Err left → (r ≡ Err left) ⊎ ((x : A) × (r ≡ Ok x) × (f x ≡ Err left))
bind_err (Ok x) f left e = inr (x, refl, e)
bind_err (Err d) f left e = inl (let same : d ≡ left = cc in ap (λ i. Err i) same)

-- what is read is not left
pub not_both : {A : Type 0} (x : A) (left : ℕ) → ◌≡◌ {A = Result A ℕ} (Ok x) (Err left) → ⊥
not_both x left e = absurd cc

or_left_left : {A : Type 0} (n : ℕ) (o : Option A) (left : ℕ) → or_left n o ≡ Err left → left ≡ n
or_left_left n None left e = cc
or_left_left n (Some x) left e = absurd cc

-- a word that does not stand there
pub word_left : (word bytes : List ℕ) (left : ℕ) → word_at word bytes ≡ Err left → left ≡ length bytes
word_left word bytes left e = or_left_left (length bytes) (strip_at word bytes) left e

-- a word alone, which does not stand there
pub word_alone : {X : Type 0} (word bytes : List ℕ) (x : X) (left : ℕ) → ◌≡◌ {A = Result (X × List ℕ) ℕ} (word_at word bytes >>= λ rest. Ok (x, rest)) (Err left) → left ≡ length bytes
word_alone {X} word bytes x left e = go (bind_err (word_at word bytes) (λ rest. Ok (x, rest)) left e)
  where
    go : (word_at word bytes ≡ Err left) ⊎ ((rest : List ℕ) × (word_at word bytes ≡ Ok rest) × (◌≡◌ {A = Result (X × List ℕ) ℕ} (Ok (x, rest)) (Err left))) → left ≡ length bytes
    go (inl h) = word_left word bytes left h
    go (inr t) = absurd (not_both (x, t.0) left t.2)

-- What a reader took: whole lines, which it takes again whatever follows.
pub record Passes {X : Type 0} (p : List ℕ → Result (X × List ℕ) ℕ) (Good : X → Type 0) (bytes : List ℕ) (x : X) (rest : List ℕ) : Type 0 where
  pub count : ℕ
  pub took : List ℕ
  pub are_lines : AreLines count took
  pub parts : bytes ≡ took ++ rest
  pub again : (tail : List ℕ) → p (took ++ tail) ≡ Ok (x, tail)
  pub good : Good x

-- What may follow these bytes, so that a reader takes it whatever follows.
pub record Fills {X : Type 0} (p : List ℕ → Result (X × List ℕ) ℕ) (Good : X → Type 0) (front : List ℕ) : Type 0 where
  pub fill : List ℕ
  pub value : X
  pub good : Good value
  pub filled : (tail : List ℕ) → p (front ++ (fill ++ tail)) ≡ Ok (value, tail)

-- Where a reader stops: within the line after some lines. These may go on; with that line none does.
pub record Stops {X : Type 0} (p : List ℕ → Result (X × List ℕ) ℕ) (Good : X → Type 0) (bytes : List ℕ) (left : ℕ) : Type 0 where
  pub count : ℕ
  pub front : List ℕ
  pub are_lines : AreLines count front
  pub within : List ℕ
  pub at : List ℕ
  pub parts : bytes ≡ front ++ (within ++ at)
  pub one : line_feeds within ≡ 0
  pub left_is : left ≡ length at
  pub fills : Fills p Good front
  pub stuck : (words thereafter tail : List ℕ) → line_feeds words ≡ 0 → within ++ at ≡ words ++ 10 ∷ thereafter → (y : X × List ℕ) → p (front ++ (words ++ 10 ∷ tail)) ≡ Ok y → ⊥

-- where one reader stops, another stops that goes on no further
stops_as : {X Y : Type 0} {p : List ℕ → Result (X × List ℕ) ℕ} {q : List ℕ → Result (Y × List ℕ) ℕ} {Good : X → Type 0} {Next : Y → Type 0} {bytes : List ℕ} {left : ℕ} (s : Stops p Good bytes left) → Fills q Next s.front →
    ((words thereafter tail : List ℕ) → line_feeds words ≡ 0 → s.within ++ s.at ≡ words ++ 10 ∷ thereafter → (y : Y × List ℕ) → q (s.front ++ (words ++ 10 ∷ tail)) ≡ Ok y → ⊥) → Stops q Next bytes left
stops_as s fills stuck = record { count = s.count; front = s.front; are_lines = s.are_lines; within = s.within; at = s.at; parts = s.parts; one = s.one; left_is = s.left_is; fills = fills; stuck = stuck }

-- a reader of whole lines
pub record Reads {X : Type 0} (p : List ℕ → Result (X × List ℕ) ℕ) (Good : X → Type 0) : Type 0 where
  pub fills : Fills p Good []
  pub passes : (bytes : List ℕ) (x : X × List ℕ) → p bytes ≡ Ok x → Passes p Good bytes x.0 x.1
  pub stops : (bytes : List ℕ) (left : ℕ) → p bytes ≡ Err left → Stops p Good bytes left

-- the same reader in other words
pub reads_as : {X : Type 0} (p q : List ℕ → Result (X × List ℕ) ℕ) (Good : X → Type 0) → ((bytes : List ℕ) → p bytes ≡ q bytes) → Reads p Good → Reads q Good
reads_as {X} p q Good e r = subst (λ (z : List ℕ → Result (X × List ℕ) ℕ). Reads z Good) (λ i bytes. e bytes i) r

-- a reader of which less is asked
pub reads_weaker : {X : Type 0} (p : List ℕ → Result (X × List ℕ) ℕ) (Good Less : X → Type 0) → ((x : X) → Good x → Less x) → Reads p Good → Reads p Less
reads_weaker p Good Less f r = record {
  fills = record { fill = r.fills.fill; value = r.fills.value; good = f r.fills.value r.fills.good; filled = r.fills.filled };
  passes = λ bytes x e. let a = r.passes bytes x e in record { count = a.count; took = a.took; are_lines = a.are_lines; parts = a.parts; again = a.again; good = f x.0 a.good };
  stops = λ bytes left e.
      let s = r.stops bytes left e in
      stops_as s (record { fill = s.fills.fill; value = s.fills.value; good = f s.fills.value s.fills.good; filled = s.fills.filled }) s.stuck;
}

-- ---- nothing more

pub nothing_reads : {X : Type 0} (x : X) (Good : X → Type 0) → Good x → Reads (λ bytes. Ok (x, bytes)) Good
nothing_reads {X} x Good good = record {
  fills = record { fill = []; value = x; good = good; filled = λ tail. refl };
  passes = λ bytes y e. subst (λ (z : X × List ℕ). Passes (λ bytes. Ok (x, bytes)) Good bytes z.0 z.1) (ok_is (x, bytes) y e) (record { count = 0; took = []; are_lines = refl; parts = refl; again = λ tail. refl; good = good });
  stops = λ bytes left e. absurd (not_both (x, bytes) left e);
}

-- ---- one after the other

abbrev pub and_then : {X Y : Type 0} → (List ℕ → Result (X × List ℕ) ℕ) → (X → List ℕ → Result (Y × List ℕ) ℕ) → List ℕ → Result (Y × List ℕ) ℕ
and_then p f bytes = p bytes >>= λ x. f x.0 x.1

then_fills : {X Y : Type 0} (p : List ℕ → Result (X × List ℕ) ℕ) (Good : X → Type 0) (f : X → List ℕ → Result (Y × List ℕ) ℕ) (Next : Y → Type 0) (front : List ℕ) (a : Fills p Good front) → Reads (f a.value) Next → Fills (and_then p f) Next front
then_fills p Good f Next front a next =
    let b = next.fills in
    record {
      fill = a.fill ++ b.fill;
      value = b.value;
      good = b.good;
      filled = λ tail.
          ap (λ (t : List ℕ). and_then p f (front ++ t)) (append_assoc a.fill b.fill tail)
          ∙ bind_is (p (front ++ (a.fill ++ (b.fill ++ tail)))) (λ x. f x.0 x.1) (a.value, b.fill ++ tail) (Ok (b.value, tail)) (a.filled (b.fill ++ tail)) (b.filled tail);
    }

then_passes : {X Y : Type 0} (p : List ℕ → Result (X × List ℕ) ℕ) (Good : X → Type 0) (f : X → List ℕ → Result (Y × List ℕ) ℕ) (Next : Y → Type 0) → Reads p Good → ((x : X) → Good x → Reads (f x) Next) → (bytes : List ℕ) (y : Y × List ℕ) → and_then p f bytes ≡ Ok y → Passes (and_then p f) Next bytes y.0 y.1
then_passes p Good f Next reads next bytes y e =
    let x = bind_ok (p bytes) (λ x. f x.0 x.1) y e in
    let a = reads.passes bytes x.0 x.1 in
    let b = (next x.0.0 a.good).passes x.0.1 y x.2 in
    record {
      count = a.count + b.count;
      took = a.took ++ b.took;
      are_lines = lines_append a.count b.count (a.count + b.count) a.took b.took refl a.are_lines b.are_lines;
      parts = then_takes bytes a.took x.0.1 b.took y.1 a.parts b.parts;
      again = λ tail.
          ap (and_then p f) (append_assoc a.took b.took tail)
          ∙ bind_is (p (a.took ++ (b.took ++ tail))) (λ x. f x.0 x.1) (x.0.0, b.took ++ tail) (Ok (y.0, tail)) (a.again (b.took ++ tail)) (b.again tail);
      good = b.good;
    }

stops_first : {X Y : Type 0} (p : List ℕ → Result (X × List ℕ) ℕ) (Good : X → Type 0) (f : X → List ℕ → Result (Y × List ℕ) ℕ) (Next : Y → Type 0) → ((x : X) → Good x → Reads (f x) Next) → (bytes : List ℕ) (left : ℕ) → Stops p Good bytes left → Stops (and_then p f) Next bytes left
stops_first p Good f Next next bytes left s =
    stops_as s (then_fills p Good f Next s.front s.fills (next s.fills.value s.fills.good))
    (λ words thereafter tail none same y h.
    let x = bind_ok (p (s.front ++ (words ++ 10 ∷ tail))) (λ x. f x.0 x.1) y h in
    s.stuck words thereafter tail none same x.0 x.1)

stops_later : {X Y : Type 0} (p : List ℕ → Result (X × List ℕ) ℕ) (Good : X → Type 0) (f : X → List ℕ → Result (Y × List ℕ) ℕ) (Next : Y → Type 0) (bytes : List ℕ) (x : X) (rest : List ℕ) (left : ℕ) → Passes p Good bytes x rest → Stops (f x) Next rest left → Stops (and_then p f) Next bytes left
stops_later p Good f Next bytes x rest left a s = record {
  count = a.count + s.count;
  front = a.took ++ s.front;
  are_lines = lines_append a.count s.count (a.count + s.count) a.took s.front refl a.are_lines s.are_lines;
  within = s.within;
  at = s.at;
  parts = then_takes bytes a.took rest s.front (s.within ++ s.at) a.parts s.parts;
  one = s.one;
  left_is = s.left_is;
  fills = record {
    fill = s.fills.fill;
    value = s.fills.value;
    good = s.fills.good;
    filled = λ tail.
        ap (and_then p f) (append_assoc a.took s.front (s.fills.fill ++ tail))
        ∙ bind_is (p (a.took ++ (s.front ++ (s.fills.fill ++ tail)))) (λ x. f x.0 x.1) (x, s.front ++ (s.fills.fill ++ tail)) (Ok (s.fills.value, tail)) (a.again (s.front ++ (s.fills.fill ++ tail))) (s.fills.filled tail);
  };
  stuck = λ words thereafter tail none same y h.
      let later = s.front ++ (words ++ 10 ∷ tail) in
      let here : and_then p f (a.took ++ later) ≡ f x later = bind_is (p (a.took ++ later)) (λ x. f x.0 x.1) (x, later) (f x later) (a.again later) refl in
      s.stuck words thereafter tail none same y (sym here ∙ ap (and_then p f) (sym (append_assoc a.took s.front (words ++ 10 ∷ tail))) ∙ h);
}

pub then_reads : {X Y : Type 0} (p : List ℕ → Result (X × List ℕ) ℕ) (Good : X → Type 0) (f : X → List ℕ → Result (Y × List ℕ) ℕ) (Next : Y → Type 0) → Reads p Good → ((x : X) → Good x → Reads (f x) Next) → Reads (and_then p f) Next
then_reads {X} {Y} p Good f Next reads next = record {
  fills = then_fills p Good f Next [] reads.fills (next reads.fills.value reads.fills.good);
  passes = then_passes p Good f Next reads next;
  stops = λ bytes left e. stop bytes left (bind_err (p bytes) (λ x. f x.0 x.1) left e);
}
  where
    stop : (bytes : List ℕ) (left : ℕ) → (p bytes ≡ Err left) ⊎ ((x : X × List ℕ) × (p bytes ≡ Ok x) × (f x.0 x.1 ≡ Err left)) → Stops (and_then p f) Next bytes left
    stop bytes left (inl h) = stops_first p Good f Next next bytes left (reads.stops bytes left h)
    stop bytes left (inr t) =
        let a = reads.passes bytes t.0 t.1 in
        stops_later p Good f Next bytes t.0.0 t.0.1 left a ((next t.0.0 a.good).stops t.0.1 left t.2)

-- ---- so many, one after the other

pub repeat_reads : {S A B : Type 0} (view : A → B) (step : S → List ℕ → Result (A × List ℕ) ℕ) (next : S → A → S) (Inv : ℕ → S → Type 0) → ((n : ℕ) (s : S) → Inv (suc n) s → Reads (step s) (λ a. Inv n (next s a)))
    → (n : ℕ) (s : S) → Inv n s → Reads (repeat_at view step next n s) (λ bs. Unit {0})
unfolding repeat_at
repeat_reads view step next Inv each zero s inv = nothing_reads [] (λ bs. Unit {0}) tt
repeat_reads view step next Inv each (suc n) s inv =
    then_reads (step s) (λ a. Inv n (next s a)) (λ a bytes. repeat_at view step next n (next s a) bytes >>= λ others. Ok (view a ∷ others.0, others.1)) (λ bs. Unit {0}) (each n s inv)
    (λ a good. then_reads (repeat_at view step next n (next s a)) (λ bs. Unit {0}) (λ others bytes. Ok (view a ∷ others, bytes)) (λ bs. Unit {0}) (repeat_reads view step next Inv each n (next s a) good)
    (λ others fine. nothing_reads (view a ∷ others) (λ bs. Unit {0}) tt))

-- ---- one line

-- where a reader stops within a line
pub record StopsWithin (bytes : List ℕ) (left : ℕ) : Type 0 where
  pub within : List ℕ
  pub at : List ℕ
  pub parts : bytes ≡ within ++ at
  pub one : line_feeds within ≡ 0
  pub left_is : left ≡ length at

-- it stops where it begins
pub stops_here : (bytes : List ℕ) (left : ℕ) → left ≡ length bytes → StopsWithin bytes left
stops_here bytes left e = record { within = []; at = bytes; parts = refl; one = refl; left_is = e }

-- A reader of one line: what it takes is a line, which it takes again whatever follows; it stops within the line; and there is a line that it takes.
pub record ReadsLine {X : Type 0} (p : List ℕ → Result (X × List ℕ) ℕ) (Good : X → Type 0) (Spells : X → List ℕ → Type 0) : Type 0 where
  pub takes : (bytes : List ℕ) (x : X × List ℕ) → p bytes ≡ Ok x → (line : List ℕ) × (bytes ≡ line ++ x.1) × Spells x.0 line
  pub again : (x : X) (line rest : List ℕ) → Spells x line → p (line ++ rest) ≡ Ok (x, rest)
  pub is_line : (x : X) (line : List ℕ) → Spells x line → IsLine line
  pub good : (x : X) (line : List ℕ) → Spells x line → Good x
  pub stops : (bytes : List ℕ) (left : ℕ) → p bytes ≡ Err left → StopsWithin bytes left
  pub example : X
  pub line : List ℕ
  pub spelled : Spells example line

pub line_reads : {X : Type 0} (p : List ℕ → Result (X × List ℕ) ℕ) (Good : X → Type 0) (Spells : X → List ℕ → Type 0) → ReadsLine p Good Spells → Reads p Good
line_reads {X} p Good Spells r = record {
  fills = record { fill = r.line; value = r.example; good = r.good r.example r.line r.spelled; filled = λ tail. r.again r.example r.line tail r.spelled };
  passes = λ bytes x e.
      let t = r.takes bytes x e in
      record { count = 1; took = t.0; are_lines = a_line t.0 (r.is_line x.0 t.0 t.2); parts = t.1; again = λ tail. r.again x.0 t.0 tail t.2; good = r.good x.0 t.0 t.2 };
  stops = λ bytes left e.
      let s = r.stops bytes left e in
      record {
        count = 0;
        front = [];
        are_lines = refl;
        within = s.within;
        at = s.at;
        parts = s.parts;
        one = s.one;
        left_is = s.left_is;
        fills = record { fill = r.line; value = r.example; good = r.good r.example r.line r.spelled; filled = λ tail. r.again r.example r.line tail r.spelled };
        stuck = λ words thereafter tail none same y h. no_line bytes left e words thereafter tail none (s.parts ∙ same) y h;
      };
}
  where
    no_line : (bytes : List ℕ) (left : ℕ) → p bytes ≡ Err left → (words thereafter tail : List ℕ) → line_feeds words ≡ 0 → bytes ≡ words ++ 10 ∷ thereafter → (y : X × List ℕ) → p (words ++ 10 ∷ tail) ≡ Ok y → ⊥
    no_line bytes left e words thereafter tail none parts y h =
        let t = r.takes (words ++ 10 ∷ tail) y h in
        let l = r.is_line y.0 t.0 t.2 in
        let split : words ++ 10 ∷ tail ≡ l.words ++ 10 ∷ y.1 = t.1 ∙ ap (λ (z : List ℕ). z ++ y.1) l.ended ∙ append_assoc l.words (codes "\n") y.1 in
        let same = same_words words l.words tail y.1 none l.one split in
        let whole : bytes ≡ t.0 ++ thereafter = parts ∙ ap (λ (z : List ℕ). z ++ 10 ∷ thereafter) same.0 ∙ sym (append_assoc l.words (codes "\n") thereafter) ∙ ap (λ (z : List ℕ). z ++ thereafter) (sym l.ended) in
        let reads : p bytes ≡ Ok (y.0, thereafter) = ap p whole ∙ r.again y.0 t.0 thereafter t.2 in
        not_both (y.0, thereafter) left (sym reads ∙ e)

-- a line of words, and what is read after it
pub word_reads : {Y : Type 0} (word : List ℕ) → IsLine word → (f : List ℕ → Result (Y × List ℕ) ℕ) (Next : Y → Type 0) → Reads f Next → Reads (λ bytes. word_at word bytes >>= f) Next
word_reads {Y} word line f Next next =
    let p : List ℕ → Result (Unit {0} × List ℕ) ℕ = λ bytes. word_at word bytes >>= λ rest. Ok (tt, rest) in
    reads_as (and_then p (λ x. f)) (λ bytes. word_at word bytes >>= f) Next (λ bytes. regroup (word_at word bytes))
    (then_reads p (λ x. Unit {0}) (λ x. f) Next (line_reads p (λ x. Unit {0}) (λ x text. text ≡ word) (record {
      takes = λ bytes x e. let t = bind_ok (word_at word bytes) (λ rest. Ok (tt, rest)) x e in (word, word_takes word bytes t.0 t.1 ∙ ap (λ (z : Unit {0} × List ℕ). word ++ z.1) (ok_is (tt, t.0) x t.2), refl);
      again = λ x text rest is. ap (λ (t : List ℕ). p (t ++ rest)) is ∙ bind_is (word_at word (word ++ rest)) (λ rest. Ok (tt, rest)) rest (Ok (tt, rest)) (word_again word rest) refl;
      is_line = λ x text is. subst IsLine (sym is) line;
      good = λ x text is. tt;
      stops = λ bytes left e. stop bytes left (bind_err (word_at word bytes) (λ rest. Ok (tt, rest)) left e);
      example = tt;
      line = word;
      spelled = refl;
    })) (λ x good. next))
  where
    regroup : (r : Result (List ℕ) ℕ) → ((r >>= λ rest. Ok (tt, rest)) >>= λ (x : Unit {0} × List ℕ). f x.1) ≡ (r >>= f)
    regroup (Ok rest) = refl
    regroup (Err left) = refl

    stop : (bytes : List ℕ) (left : ℕ) → (word_at word bytes ≡ Err left) ⊎ ((rest : List ℕ) × (word_at word bytes ≡ Ok rest) × (◌≡◌ {A = Result (Unit {0} × List ℕ) ℕ} (Ok (tt, rest)) (Err left))) → StopsWithin bytes left
    stop bytes left (inl h) = stops_here bytes left (word_left word bytes left h)
    stop bytes left (inr t) = absurd (not_both (tt, t.0) left t.2)
