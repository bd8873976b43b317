-- The reader of a certificate, line by line, and where it stops.
use Rattle.std.proofs.Common.{◌≡◌, ℕ, suc, ◌+◌, ◌-◌, ◌<◌, ◌≤◌, ◌⊎◌, inl, inr, List, [], ◌∷◌, ◌++◌, length, take, codes, None, Some, Result, Ok, Err, refl, sym, ap, subst, ◌∙◌, append_assoc, arith, length-append}
use Rattle.std.proofs.lemmas.List.{append-nil, take_at}
use Rattle.duty_core.specs.declared.mark.Mark.{Mark}
use Rattle.duty_core.specs.declared.params.Params.{Params}
use Rattle.duty_core.specs.Day.{day_start}
use Rattle.rule_core.specs.declared.numbers.TheConstants.{NUMBER_LIMIT}
use Rattle.cert_text.specs.declared.cert.Cert.{Cert}
use Rattle.cert_text.specs.declared.cert.CertKind.{CertKind}
use Rattle.cert_text.specs.declared.cert.CertKind.TheVariants.{Shortest, Infeasible}
use Rattle.cert_text.specs.declared.cert.CertLabel.{CertLabel}
use Rattle.cert_text.specs.declared.cert.StepRun.{StepRun}
use Rattle.cert_text.specs.declared.text.claim.Claim.{Claim}
use Rattle.cert_text.specs.declared.text.marks.Marked.{Marked}
use Rattle.cert_text.specs.Text.BadLine.{line_feeds, AreLines, BeginsCert, IsBadLine}
use Rattle.cert_text.specs.Text.Form.{IsCertForm}
use Rattle.cert_text.specs.Text.Spelling.{IsCertText}
use Rattle.cert_text.specs.Text.Reading.{◌>>=◌, word_at, number_line_at, run_at, after_run, runs_at, mark_at, after_mark, marks_at, target_at, shortest_at, infeasible_at, kind_at, claim_of, claim_at, label_at, labels_at, layer_head_at, layer_at, layers_at, whole_at, ended, cert_at, line_at}
use Rattle.cert_text.specs.Text.Laws.WordLaws.{bind_is}
use Rattle.cert_text.specs.Text.Laws.CertTextLaws.{whole_takes, cert_again}
use Rattle.cert_text.proofs.Lines.{feeds_append, feeds_of_lines, same_lines, fewer_lines, last_line}
use Rattle.cert_text.proofs.Readers.{bind_err, Reads, Passes, Stops, reads_weaker, nothing_reads, then_reads, repeat_reads, word_reads}
use Rattle.cert_text.proofs.LineReaders.{HasRoom, number_line_reads, target_reads, kind_reads, run_reads, mark_reads, label_reads, head_reads}

-- of what was read nothing is asked
abbrev Any : {X : Type 0} → X → Type 0
Any x = Unit {0}

labels_reads : (n : ℕ) → Reads (labels_at n) Any
unfolding labels_at
labels_reads n = repeat_reads (λ (l : CertLabel). l) (λ (s : ℕ). label_at) (λ s l. s) (λ n s. Unit {0}) (λ n s inv. label_reads) n 0 tt

layer_reads : (step : ℕ) → step < NUMBER_LIMIT → Reads (layer_at step) Any
unfolding layer_at
layer_reads step low = then_reads (layer_head_at step) Any labels_at Any (head_reads step low) (λ n any. labels_reads n)

layers_reads : (n : ℕ) → n < NUMBER_LIMIT → Reads (layers_at n) Any
unfolding layers_at
layers_reads n few =
    repeat_reads (λ (l : List CertLabel). l) layer_at (λ s l. s + 1) (λ n s. s + n ≤ NUMBER_LIMIT)
    (λ n s inv. reads_weaker (layer_at s) Any (λ l. s + 1 + n ≤ NUMBER_LIMIT) (λ l any. omega (arith, inv)) (layer_reads s (omega (arith, inv)))) n 0 (omega (arith, few))

runs_reads : (n : ℕ) → Reads (runs_at n) Any
unfolding runs_at
runs_reads n = repeat_reads (λ (r : StepRun). r) run_at after_run (λ n s. Unit {0}) (λ n s inv. run_reads s) n None tt

marks_reads : (params : Params) → day_start params < 1440 → (n : ℕ) → n < NUMBER_LIMIT → Reads (marks_at params n) Any
unfolding marks_at
marks_reads params low n few = repeat_reads (λ (m : Marked). m.mark) (mark_at params) after_mark HasRoom (mark_reads params low) n (record { least = 0; left = n }) (refl, omega (arith, few))

shortest_reads : (params : Params) → day_start params < 1440 → Reads (shortest_at params) Any
unfolding shortest_at
shortest_reads params low =
    then_reads target_at Any (λ t bytes. number_line_at (codes "schedule ") bytes >>= λ r. runs_at r.0 r.1 >>= λ runs. number_line_at (codes "marks ") runs.1 >>= λ m. marks_at params m.0 m.1 >>= λ marks. Ok (record { kind = Shortest; target = Some t; schedule = runs.0; marks = marks.0 }, marks.1)) Any target_reads
    (λ t any. then_reads (number_line_at (codes "schedule ")) (λ n. n < NUMBER_LIMIT) (λ r bytes. runs_at r bytes >>= λ runs. number_line_at (codes "marks ") runs.1 >>= λ m. marks_at params m.0 m.1 >>= λ marks. Ok (record { kind = Shortest; target = Some t; schedule = runs.0; marks = marks.0 }, marks.1)) Any (number_line_reads (codes "schedule ") refl)
    (λ r few. then_reads (runs_at r) Any (λ runs bytes. number_line_at (codes "marks ") bytes >>= λ m. marks_at params m.0 m.1 >>= λ marks. Ok (record { kind = Shortest; target = Some t; schedule = runs; marks = marks.0 }, marks.1)) Any (runs_reads r)
    (λ runs any. then_reads (number_line_at (codes "marks ")) (λ n. n < NUMBER_LIMIT) (λ m bytes. marks_at params m bytes >>= λ marks. Ok (record { kind = Shortest; target = Some t; schedule = runs; marks = marks.0 }, marks.1)) Any (number_line_reads (codes "marks ") refl)
    (λ m few. then_reads (marks_at params m) Any (λ marks bytes. Ok (record { kind = Shortest; target = Some t; schedule = runs; marks = marks }, bytes)) Any (marks_reads params low m few)
    (λ marks any. nothing_reads (the_claim t runs marks) Any tt)))))
  where
    the_claim : ℕ → List StepRun → List Mark → Claim
    the_claim t runs marks = record { kind = Shortest; target = Some t; schedule = runs; marks = marks }

abbrev none_claimed : Claim
none_claimed = record { kind = Infeasible; target = None; schedule = []; marks = [] }

infeasible_reads : Reads infeasible_at Any
unfolding infeasible_at
infeasible_reads =
    word_reads (codes "target -\n") (record { words = codes "target -"; one = refl; ended = refl }) (λ a. word_at (codes "schedule 0\n") a >>= λ b. word_at (codes "marks 0\n") b >>= λ c. Ok (none_claimed, c)) Any
    (word_reads (codes "schedule 0\n") (record { words = codes "schedule 0"; one = refl; ended = refl }) (λ b. word_at (codes "marks 0\n") b >>= λ c. Ok (none_claimed, c)) Any
    (word_reads (codes "marks 0\n") (record { words = codes "marks 0"; one = refl; ended = refl }) (λ c. Ok (none_claimed, c)) Any
    (nothing_reads none_claimed Any tt)))

held_reads : (params : Params) → day_start params < 1440 → (kind : CertKind) → Reads (claim_of params kind) Any
held_reads params low Shortest = shortest_reads params low
held_reads params low Infeasible = infeasible_reads

claim_reads : (params : Params) → day_start params < 1440 → Reads (claim_at params) Any
unfolding claim_at
claim_reads params low =
    word_reads (codes "duty-cert 1\n") (record { words = codes "duty-cert 1"; one = refl; ended = refl }) (λ a. kind_at a >>= λ kind. claim_of params kind.0 kind.1) Any
    (then_reads kind_at Any (claim_of params) Any kind_reads (λ kind any. held_reads params low kind))

abbrev cert_of : Claim → List (List CertLabel) → Cert
cert_of claim layers = record { kind = claim.kind; target = claim.target; schedule = claim.schedule; marks = claim.marks; layers = layers }

whole_reads : (params : Params) → day_start params < 1440 → Reads (whole_at params) Any
unfolding whole_at
whole_reads params low =
    then_reads (claim_at params) Any (λ claim bytes. number_line_at (codes "layers ") bytes >>= λ n. layers_at n.0 n.1 >>= λ layers. word_at (codes "end\n") layers.1 >>= λ rest. Ok (cert_of claim layers.0, rest)) Any (claim_reads params low)
    (λ claim any. then_reads (number_line_at (codes "layers ")) (λ n. n < NUMBER_LIMIT) (λ n bytes. layers_at n bytes >>= λ layers. word_at (codes "end\n") layers.1 >>= λ rest. Ok (cert_of claim layers.0, rest)) Any (number_line_reads (codes "layers ") refl)
    (λ n few. then_reads (layers_at n) Any (λ layers bytes. word_at (codes "end\n") bytes >>= λ rest. Ok (cert_of claim layers, rest)) Any (layers_reads n few)
    (λ layers any. word_reads (codes "end\n") (record { words = codes "end"; one = refl; ended = refl }) (λ rest. Ok (cert_of claim layers, rest)) Any (nothing_reads (cert_of claim layers) Any tt))))

-- ---- the first bad line

-- Where reading a certificate stops: within the line after some lines, with which a text begins; with that line none does.
record Breaks (params : Params) (bytes : List ℕ) (left : ℕ) : Type 0 where
  count : ℕ
  front : List ℕ
  are_lines : AreLines count front
  within : List ℕ
  at : List ℕ
  parts : bytes ≡ front ++ (within ++ at)
  one : line_feeds within ≡ 0
  left_is : left ≡ length at
  cert : Cert
  rest : List ℕ
  form : IsCertForm params cert
  text : IsCertText params cert (front ++ rest)
  stuck : (words thereafter tail : List ℕ) → line_feeds words ≡ 0 → within ++ at ≡ words ++ 10 ∷ thereafter → (other : Cert) → cert_at params (front ++ (words ++ 10 ∷ tail)) ≡ Ok other → ⊥

-- what is read is a text
text_of : (params : Params) (text : List ℕ) (cert : Cert) → day_start params < 1440 → whole_at params (text ++ []) ≡ Ok (cert, []) → IsCertForm params cert × IsCertText params cert text
text_of params text cert low e =
    let t = whole_takes params (text ++ []) (cert, []) low e in
    let same : t.text ≡ text = sym (append-nil t.text) ∙ sym t.parts ∙ append-nil text in
    (t.form, subst (λ (z : List ℕ). IsCertText params cert z) same t.spelled)

stops_whole : (params : Params) (bytes : List ℕ) (left : ℕ) → day_start params < 1440 → Stops (whole_at params) Any bytes left → Breaks params bytes left
unfolding cert_at
stops_whole params bytes left low s =
    let filled = s.fills.filled [] in
    let is = text_of params (s.front ++ s.fills.fill) s.fills.value low (ap (whole_at params) (append_assoc s.front s.fills.fill []) ∙ filled) in
    record {
      count = s.count;
      front = s.front;
      are_lines = s.are_lines;
      within = s.within;
      at = s.at;
      parts = s.parts;
      one = s.one;
      left_is = s.left_is;
      cert = s.fills.value;
      rest = s.fills.fill;
      form = is.0;
      text = is.1;
      stuck = λ words thereafter tail none same other h. stuck words thereafter tail none same other (whole_at params (s.front ++ (words ++ 10 ∷ tail))) refl h;
    }
  where
    stuck : (words thereafter tail : List ℕ) → line_feeds words ≡ 0 → s.within ++ s.at ≡ words ++ 10 ∷ thereafter → (other : Cert) (r : Result (Cert × List ℕ) ℕ) → whole_at params (s.front ++ (words ++ 10 ∷ tail)) ≡ r → (r >>= λ c. ended c.1 c.0) ≡ Ok other → ⊥
    stuck words thereafter tail none same other (Ok c) is h = s.stuck words thereafter tail none same c is
    stuck words thereafter tail none same other (Err m) is h = absurd cc

never_ended : (rest : List ℕ) (b : ℕ) (more : List ℕ) (cert other : Cert) → rest ≡ b ∷ more → ended rest cert ≡ Ok other → ⊥
never_ended [] b more cert other e h = absurd cc
never_ended (x ∷ rest) b more cert other e h = absurd cc

breaks_after : (params : Params) (bytes : List ℕ) (left : ℕ) (cert : Cert) (rest : List ℕ) → day_start params < 1440 → Passes (whole_at params) Any bytes cert rest → ended rest cert ≡ Err left → Breaks params bytes left
unfolding cert_at
breaks_after params bytes left cert [] low a e = absurd cc
breaks_after params bytes left cert (b ∷ rest) low a e =
    let is = text_of params a.took cert low (a.again []) in
    record {
      count = a.count;
      front = a.took;
      are_lines = a.are_lines;
      within = [];
      at = b ∷ rest;
      parts = a.parts;
      one = refl;
      left_is = (let same : length (b ∷ rest) ≡ left = cc in sym same);
      cert = cert;
      rest = [];
      form = is.0;
      text = subst (λ (z : List ℕ). IsCertText params cert z) (sym (append-nil a.took)) is.1;
      stuck = λ words thereafter tail none same other h. stuck words tail other h;
    }
  where
    not_done : (words tail : List ℕ) (other : Cert) → ended (words ++ 10 ∷ tail) cert ≡ Ok other → ⊥
    not_done [] tail other h = absurd cc
    not_done (x ∷ words) tail other h = absurd cc

    stuck : (words tail : List ℕ) (other : Cert) → (whole_at params (a.took ++ (words ++ 10 ∷ tail)) >>= λ c. ended c.1 c.0) ≡ Ok other → ⊥
    stuck words tail other h =
        let here = bind_is (whole_at params (a.took ++ (words ++ 10 ∷ tail))) (λ c. ended c.1 c.0) (cert, words ++ 10 ∷ tail) (ended (words ++ 10 ∷ tail) cert) (a.again (words ++ 10 ∷ tail)) refl in
        not_done words tail other (sym here ∙ h)

breaks : (params : Params) (bytes : List ℕ) (left : ℕ) → day_start params < 1440 → cert_at params bytes ≡ Err left → Breaks params bytes left
unfolding cert_at
breaks params bytes left low e = go (bind_err (whole_at params bytes) (λ c. ended c.1 c.0) left e)
  where
    go : (whole_at params bytes ≡ Err left) ⊎ ((c : Cert × List ℕ) × (whole_at params bytes ≡ Ok c) × (ended c.1 c.0 ≡ Err left)) → Breaks params bytes left
    go (inl h) = stops_whole params bytes left low ((whole_reads params low).stops bytes left h)
    go (inr t) = breaks_after params bytes left t.0.0 t.0.1 low ((whole_reads params low).passes bytes t.0 t.1) t.2

-- the line at which reading stops is the one after those lines
line_after : (params : Params) (bytes : List ℕ) (left : ℕ) (b : Breaks params bytes left) → line_at bytes left ≡ 1 + b.count
line_after params bytes left b =
    let before = b.front ++ b.within in
    let whole : bytes ≡ before ++ b.at = b.parts ∙ sym (append_assoc b.front b.within b.at) in
    let long : length bytes ≡ length before + length b.at = ap (λ (z : List ℕ). length z) whole ∙ length-append before b.at in
    let left_is = b.left_is in
    let back : length bytes - left ≡ length before = omega (arith, long, left_is) in
    let taken : take (length bytes - left) bytes ≡ before = ap (λ n. take n bytes) back ∙ ap (λ (z : List ℕ). take (length before) z) whole ∙ take_at before b.at (length before) refl in
    let feeds : line_feeds before ≡ b.count = feeds_append b.front b.within ∙ (let one = b.one in let lines = feeds_of_lines b.count b.front b.are_lines in omega (arith, one, lines)) in
    ap (λ (z : List ℕ). 1 + line_feeds z) taken ∙ ap (λ n. 1 + n) feeds

-- and it is the first bad one
pub bad_line : (params : Params) (bytes : List ℕ) (left : ℕ) → day_start params < 1440 → cert_at params bytes ≡ Err left → IsBadLine params bytes (line_at bytes left)
bad_line params bytes left low e =
    let b = breaks params bytes left low e in
    let next : 1 + b.count ≡ suc b.count = omega arith in
    subst (λ n. IsBadLine params bytes n) (sym (line_after params bytes left b ∙ next)) (record {
      some = omega arith;
      before = λ n lt. begun b n (omega (arith, lt));
      bad = bad b;
    })
  where
    begun : (b : Breaks params bytes left) (n : ℕ) → n ≤ b.count → BeginsCert params bytes n
    begun b n le =
        let f = fewer_lines n b.count b.front le b.are_lines in
        record {
          lines = f.front;
          thereafter = f.back ++ (b.within ++ b.at);
          are_lines = f.are_lines;
          parts = b.parts ∙ ap (λ (z : List ℕ). z ++ (b.within ++ b.at)) f.parts ∙ append_assoc f.front f.back (b.within ++ b.at);
          cert = b.cert;
          rest = f.back ++ b.rest;
          form = b.form;
          text = subst (λ (z : List ℕ). IsCertText params b.cert z) (ap (λ (z : List ℕ). z ++ b.rest) f.parts ∙ append_assoc f.front f.back b.rest) b.text;
        }

    bad : (b : Breaks params bytes left) → BeginsCert params bytes (suc b.count) → ⊥
    bad b begins =
        let l = last_line b.count begins.lines begins.are_lines in
        let w = l.is_line.words in
        let line_then : (z : List ℕ) → l.line ++ z ≡ w ++ 10 ∷ z = λ z. ap (λ (t : List ℕ). t ++ z) l.is_line.ended ∙ append_assoc w (codes "\n") z in
        let there : l.front ++ (l.line ++ begins.thereafter) ≡ b.front ++ (b.within ++ b.at) = sym (append_assoc l.front l.line begins.thereafter) ∙ ap (λ (t : List ℕ). t ++ begins.thereafter) (sym l.parts) ∙ sym begins.parts ∙ b.parts in
        let same = same_lines b.count l.front b.front (l.line ++ begins.thereafter) (b.within ++ b.at) l.are_lines b.are_lines there in
        let here : begins.lines ++ begins.rest ≡ b.front ++ (w ++ 10 ∷ begins.rest) =
        ap (λ (t : List ℕ). t ++ begins.rest) l.parts ∙ append_assoc l.front l.line begins.rest ∙ ap (λ (t : List ℕ). t ++ (l.line ++ begins.rest)) same.0 ∙ ap (λ (t : List ℕ). b.front ++ t) (line_then begins.rest) in
        let read = cert_again params (begins.lines ++ begins.rest) begins.cert low begins.form begins.text in
        b.stuck w begins.thereafter begins.rest l.is_line.one (sym same.1 ∙ line_then begins.thereafter) begins.cert (ap (cert_at params) (sym here) ∙ read)
