-- The readers of the lines of a certificate.
use Rattle.std.proofs.Common.{◌≡◌, ℕ, suc, ◌+◌, ◌<◌, ◌≤◌, ◌⊎◌, inl, inr, ◌&&◌, true, cond, eqb, ltb, List, [], ◌++◌, length, codes, Option, None, Some, Result, Ok, Err, refl, sym, ap, ◌∙◌, append_assoc, arith}
use Rattle.std.specs.Fmt.{decimal}
use Rattle.std.specs.List.{flat_map}
use Rattle.civil_minutes.specs.declared.century.TheConstants.{MINUTES_OF_CENTURY}
use Rattle.duty_core.specs.declared.activity.Activity.{Activity}
use Rattle.duty_core.specs.declared.activity.Activity.TheVariants.{Drive, Serve, Wait, Off, Berth}
use Rattle.duty_core.specs.declared.mark.Mark.{Mark}
use Rattle.duty_core.specs.declared.mark.Mark.TheVariants.{SplitRest, DeferDay}
use Rattle.duty_core.specs.declared.params.Params.{Params}
use Rattle.duty_core.specs.Day.{day_start}
use Rattle.rule_core.specs.declared.numbers.TheConstants.{NUMBER_LIMIT, MOST_NUMBERS}
use Rattle.cert_text.specs.declared.cert.CertKind.{CertKind}
use Rattle.cert_text.specs.declared.cert.CertKind.TheVariants.{Shortest, Infeasible}
use Rattle.cert_text.specs.declared.cert.CertLabel.{CertLabel}
use Rattle.cert_text.specs.declared.cert.StepRun.{StepRun}
use Rattle.cert_text.specs.declared.text.marks.Marked.{Marked}
use Rattle.cert_text.specs.declared.text.marks.MarkPlace.{MarkPlace}
use Rattle.cert_text.specs.Text.BadLine.{line_feeds, IsLine}
use Rattle.cert_text.specs.Text.Form.{IsLabelForm}
use Rattle.cert_text.specs.Text.Spelling.{letter, number_line, kind_line, number_or_dash, target_line, run_line, mark_word, state_number, label_line, layer_head}
use Rattle.cert_text.specs.Text.Reading.{◌>>=◌, strip_at, word_at, number_at, dash_or_number_at, number_line_at, letter_at, may_follow, run_at, time_at, mark_word_at, mark_of, marked_is, has_room, mark_at, after_mark, target_at, or_infeasible, kind_at, numbers_at, label_at, layer_head_at}
use Rattle.cert_text.specs.Text.Laws.ItemLaws.{number_line_takes, number_line_again}
use Rattle.cert_text.specs.Text.Laws.RunLaws.{follows, GoodRun, run_takes, run_again}
use Rattle.cert_text.specs.Text.Laws.MarkTextLaws.{GoodMark, mark_takes, mark_again}
use Rattle.cert_text.specs.Text.Laws.LayerLaws.{GoodLabel, label_takes, label_again, layer_head_takes, layer_head_again}
use Rattle.cert_text.specs.Text.Laws.CertTextLaws.{target_takes, target_again, kind_takes, kind_again}
use Rattle.cert_text.proofs.Lines.{none_append}
use Rattle.cert_text.proofs.Readers.{bind_err, not_both, word_alone, Reads, StopsWithin, stops_here, line_reads}
use Rattle.cert_text.proofs.Within.{stays_then, stays_word, stays_end, test_left, plain_decimal, number_within, plain_dash, dash_within, plain_numbers, numbers_within, plain_letter, letter_within, plain_time, time_within, mark_word_within}
use Rattle.cert_text.proofs.MinuteTexts.{minute_text}

-- ---- lines in pieces

end_line : IsLine (codes "\n")
end_line = record { words = []; one = refl; ended = refl }

line_more : (front text : List ℕ) → line_feeds front ≡ 0 → IsLine text → IsLine (front ++ text)
line_more front text none l = record { words = front ++ l.words; one = none_append front l.words none l.one; ended = ap (λ (t : List ℕ). front ++ t) l.ended ∙ sym (append_assoc front l.words (codes "\n")) }

line_is : (a b : List ℕ) → a ≡ b → IsLine b → IsLine a
line_is a b e l = record { words = l.words; one = l.one; ended = e ∙ l.ended }

-- ---- a word and a number

number_line_stops : (word : List ℕ) → line_feeds word ≡ 0 → (bytes : List ℕ) (left : ℕ) → number_line_at word bytes ≡ Err left → StopsWithin bytes left
unfolding number_line_at
number_line_stops word plain bytes left e =
    stays_word bytes word plain (λ a. number_at a >>= λ n. word_at (codes "\n") n.1 >>= λ b. Ok (n.0, b))
    (stays_then bytes number_at number_within (λ n a. word_at (codes "\n") a >>= λ b. Ok (n, b))
    (λ n. stays_end bytes (λ b. Ok (n, b)) (λ rest left f. absurd (not_both (n, rest) left f)))) [] bytes refl refl left e

is_number_line : (word : List ℕ) (n : ℕ) → line_feeds word ≡ 0 → n < NUMBER_LIMIT → IsLine (number_line word n)
is_number_line word n plain lt = line_more word (decimal n ++ codes "\n") plain (line_more (decimal n) (codes "\n") (plain_decimal n lt) end_line)

abbrev SpellsNumber : List ℕ → ℕ → List ℕ → Type 0
SpellsNumber word n text = (text ≡ number_line word n) × (n < NUMBER_LIMIT)

pub number_line_reads : (word : List ℕ) → line_feeds word ≡ 0 → Reads (number_line_at word) (λ n. n < NUMBER_LIMIT)
number_line_reads word plain = line_reads (number_line_at word) (λ n. n < NUMBER_LIMIT) (SpellsNumber word) (record {
  takes = λ bytes x e. let t = number_line_takes word bytes x.0 x.1 e in (number_line word x.0, t.0, (refl, t.1));
  again = λ n text rest is. ap (λ (t : List ℕ). number_line_at word (t ++ rest)) is.0 ∙ number_line_again word n rest is.1;
  is_line = λ n text is. line_is text (number_line word n) is.0 (is_number_line word n plain is.1);
  good = λ n text is. is.1;
  stops = number_line_stops word plain;
  example = 0;
  line = number_line word 0;
  spelled = (refl, omega arith);
})

-- ---- the target

target_stops : (bytes : List ℕ) (left : ℕ) → target_at bytes ≡ Err left → StopsWithin bytes left
unfolding target_at
target_stops bytes left e = go (bind_err (number_line_at (codes "target ") bytes) (λ t. cond (ltb 0 t.0) (Ok t) (Err (length bytes))) left e)
  where
    go : (number_line_at (codes "target ") bytes ≡ Err left) ⊎ ((x : ℕ × List ℕ) × (number_line_at (codes "target ") bytes ≡ Ok x) × (cond (ltb 0 x.0) (Ok x) (Err (length bytes)) ≡ Err left)) → StopsWithin bytes left
    go (inl h) = number_line_stops (codes "target ") refl bytes left h
    go (inr t) = stops_here bytes left (test_left (ltb 0 t.0.0) (Ok t.0) (length bytes) left (λ m f. absurd (not_both t.0 m f)) t.2)

abbrev SpellsTarget : ℕ → List ℕ → Type 0
SpellsTarget n text = (text ≡ target_line (Some n)) × (1 ≤ n) × (n < NUMBER_LIMIT)

pub target_reads : Reads target_at (λ n. Unit {0})
target_reads = line_reads target_at (λ n. Unit {0}) SpellsTarget (record {
  takes = λ bytes x e. let t = target_takes bytes x e in (target_line (Some x.0), t.0, (refl, t.1, t.2));
  again = λ n text rest is. ap (λ (t : List ℕ). target_at (t ++ rest)) is.0 ∙ target_again n rest is.1 is.2;
  is_line = λ n text is. line_is text (number_line (codes "target ") n) is.0 (is_number_line (codes "target ") n refl is.2);
  good = λ n text is. tt;
  stops = target_stops;
  example = 1;
  line = target_line (Some 1);
  spelled = (refl, omega arith, omega arith);
})

-- ---- the kind

kind_missing : (bytes : List ℕ) (o : Option (List ℕ)) (left : ℕ) → or_infeasible bytes o ≡ Err left → left ≡ length bytes
kind_missing bytes (Some rest) left e = absurd (not_both (Shortest, rest) left e)
kind_missing bytes None left e = word_alone (codes "kind infeasible\n") bytes Infeasible left e

kind_stops : (bytes : List ℕ) (left : ℕ) → kind_at bytes ≡ Err left → StopsWithin bytes left
unfolding kind_at
kind_stops bytes left e = stops_here bytes left (kind_missing bytes (strip_at (codes "kind shortest\n") bytes) left e)

is_kind_line : (kind : CertKind) → IsLine (kind_line kind)
is_kind_line Shortest = record { words = codes "kind shortest"; one = refl; ended = refl }
is_kind_line Infeasible = record { words = codes "kind infeasible"; one = refl; ended = refl }

pub kind_reads : Reads kind_at (λ kind. Unit {0})
kind_reads = line_reads kind_at (λ kind. Unit {0}) (λ kind text. text ≡ kind_line kind) (record {
  takes = λ bytes x e. (kind_line x.0, kind_takes bytes x e, refl);
  again = λ kind text rest is. ap (λ (t : List ℕ). kind_at (t ++ rest)) is ∙ kind_again kind rest;
  is_line = λ kind text is. line_is text (kind_line kind) is (is_kind_line kind);
  good = λ kind text is. tt;
  stops = kind_stops;
  example = Shortest;
  line = kind_line Shortest;
  spelled = refl;
})

-- ---- runs

run_stops : (before : Option Activity) (bytes : List ℕ) (left : ℕ) → run_at before bytes ≡ Err left → StopsWithin bytes left
unfolding run_at
run_stops before bytes left e =
    stays_word bytes (codes "r ") refl (λ a. number_at a >>= λ n. word_at (codes " ") n.1 >>= λ b. letter_at b >>= λ act. word_at (codes "\n") act.1 >>= λ c. cond (ltb 0 n.0 && may_follow before act.0) (Ok (record { count = n.0; act = act.0 }, c)) (Err (length bytes)))
    (stays_then bytes number_at number_within (λ n a. word_at (codes " ") a >>= λ b. letter_at b >>= λ act. word_at (codes "\n") act.1 >>= λ c. cond (ltb 0 n && may_follow before act.0) (Ok (record { count = n; act = act.0 }, c)) (Err (length bytes)))
    (λ n. stays_word bytes (codes " ") refl (λ b. letter_at b >>= λ act. word_at (codes "\n") act.1 >>= λ c. cond (ltb 0 n && may_follow before act.0) (Ok (record { count = n; act = act.0 }, c)) (Err (length bytes)))
    (stays_then bytes letter_at letter_within (λ act b. word_at (codes "\n") b >>= λ c. cond (ltb 0 n && may_follow before act) (Ok (record { count = n; act = act }, c)) (Err (length bytes)))
    (λ act. stays_end bytes (λ c. cond (ltb 0 n && may_follow before act) (Ok (record { count = n; act = act }, c)) (Err (length bytes)))
    (λ c left f. test_left (ltb 0 n && may_follow before act) (Ok (record { count = n; act = act }, c)) (length bytes) left (λ m g. absurd (never_run n act c m g)) f))))) [] bytes refl refl left e
  where
    never_run : (n : ℕ) (act : Activity) (c : List ℕ) (m : ℕ) → ◌≡◌ {A = Result (StepRun × List ℕ) ℕ} (Ok (record { count = n; act = act }, c)) (Err m) → ⊥
    never_run n act c m g = not_both (record { count = n; act = act }, c) m g

is_run_line : (run : StepRun) → run.count < NUMBER_LIMIT → IsLine (run_line run)
is_run_line run lt =
    line_more (codes "r ") (decimal run.count ++ (codes " " ++ (letter run.act ++ codes "\n"))) refl
    (line_more (decimal run.count) (codes " " ++ (letter run.act ++ codes "\n")) (plain_decimal run.count lt)
    (line_more (codes " ") (letter run.act ++ codes "\n") refl
    (line_more (letter run.act) (codes "\n") (plain_letter run.act) end_line)))

-- an activity that may follow
another : Option Activity → Activity
another None = Drive
another (Some Drive) = Serve
another (Some Serve) = Drive
another (Some Wait) = Drive
another (Some Off) = Drive
another (Some Berth) = Drive

may_come : (before : Option Activity) → may_follow before (another before) ≡ true
unfolding another
may_come None = refl
may_come (Some Drive) = refl
may_come (Some Serve) = refl
may_come (Some Wait) = refl
may_come (Some Off) = refl
may_come (Some Berth) = refl

pub run_reads : (before : Option Activity) → Reads (run_at before) (λ run. Unit {0})
run_reads before = line_reads (run_at before) (λ run. Unit {0}) (GoodRun before) (record {
  takes = λ bytes x e. run_takes before bytes x.0 x.1 e;
  again = λ run text rest is. run_again before run text rest is;
  is_line = λ run text is. line_is text (run_line run) is.1 (is_run_line run is.0.few);
  good = λ run text is. tt;
  stops = run_stops before;
  example = record { count = 1; act = another before };
  line = run_line (record { count = 1; act = another before });
  spelled = (record { some = omega arith; few = omega arith; other = follows before (another before) (may_come before) }, refl);
})

-- ---- marks

marked_missing : (n : ℕ) (rest : List ℕ) (at : ℕ) (o : Option Mark) (left : ℕ) → marked_is n rest at o ≡ Err left → left ≡ n
marked_missing n rest at None left e = cc
marked_missing n rest at (Some mark) left e = absurd (never_marked mark e)
  where
    never_marked : (mark : Mark) → ◌≡◌ {A = Result (Marked × List ℕ) ℕ} (Ok (record { mark = mark; at = at }, rest)) (Err left) → ⊥
    never_marked mark e = not_both (record { mark = mark; at = at }, rest) left e

mark_stops : (params : Params) (place : MarkPlace) (bytes : List ℕ) (left : ℕ) → mark_at params place bytes ≡ Err left → StopsWithin bytes left
unfolding mark_at
mark_stops params place bytes left e =
    stays_word bytes (codes "m ") refl (λ a. mark_word_at a >>= λ d. time_at d.1 >>= λ t. word_at (codes "\n") t.1 >>= λ b. cond (has_room place t.0) (marked_is (length bytes) b t.0 (mark_of params d.0 t.0)) (Err (length bytes)))
    (stays_then bytes mark_word_at mark_word_within (λ d a. time_at a >>= λ t. word_at (codes "\n") t.1 >>= λ b. cond (has_room place t.0) (marked_is (length bytes) b t.0 (mark_of params d t.0)) (Err (length bytes)))
    (λ d. stays_then bytes time_at time_within (λ t a. word_at (codes "\n") a >>= λ b. cond (has_room place t) (marked_is (length bytes) b t (mark_of params d t)) (Err (length bytes)))
    (λ t. stays_end bytes (λ b. cond (has_room place t) (marked_is (length bytes) b t (mark_of params d t)) (Err (length bytes)))
    (λ b left f. test_left (has_room place t) (marked_is (length bytes) b t (mark_of params d t)) (length bytes) left (λ m g. marked_missing (length bytes) b t (mark_of params d t) m g) f)))) [] bytes refl refl left e

plain_mark_word : (mark : Mark) → line_feeds (mark_word mark) ≡ 0
plain_mark_word (SplitRest at) = refl
plain_mark_word (DeferDay day) = refl

is_mark_line : (params : Params) (place : MarkPlace) (marked : Marked) (text : List ℕ) → GoodMark params place marked text → IsLine text
is_mark_line params place marked text good =
    line_is text (codes "m " ++ (mark_word marked.mark ++ (good.time ++ codes "\n"))) good.spelled
    (line_more (codes "m ") (mark_word marked.mark ++ (good.time ++ codes "\n")) refl
    (line_more (mark_word marked.mark) (good.time ++ codes "\n") (plain_mark_word marked.mark)
    (line_more good.time (codes "\n") (plain_time good.time marked.at good.time_text) end_line)))

-- so many marks have room from this place on
abbrev pub HasRoom : ℕ → MarkPlace → Type 0
HasRoom n place = (place.left ≡ n) × (place.least + n ≤ MINUTES_OF_CENTURY)

pub mark_reads : (params : Params) → day_start params < 1440 → (n : ℕ) (place : MarkPlace) → HasRoom (suc n) place → Reads (mark_at params place) (λ marked. HasRoom n (after_mark place marked))
mark_reads params low n place room =
    let time = minute_text place.least (omega (arith, room.1)) in
    let mark : Mark = SplitRest place.least in
    let first : Marked = record { mark = mark; at = place.least } in
    line_reads (mark_at params place) (λ marked. HasRoom n (after_mark place marked)) (GoodMark params place) (record {
      takes = λ bytes x e. mark_takes params low place bytes x.0 x.1 e;
      again = λ marked text rest is. mark_again params low place marked text rest is;
      is_line = is_mark_line params place;
      good = λ marked text is. let most = is.room in (omega (arith, room.0), omega (arith, most, room.0));
      stops = mark_stops params place;
      example = first;
      line = codes "m " ++ (mark_word mark ++ (time.0 ++ codes "\n"));
      spelled = record { minute = refl; late = omega arith; room = omega (arith, room.0, room.1); time = time.0; time_text = time.1; spelled = refl };
    })

-- ---- labels

label_stops : (bytes : List ℕ) (left : ℕ) → label_at bytes ≡ Err left → StopsWithin bytes left
unfolding label_at
label_stops bytes left e =
    stays_word bytes (codes "l ") refl (λ a. dash_or_number_at a >>= λ d. word_at (codes " ") d.1 >>= λ b. number_at b >>= λ p. numbers_at MOST_NUMBERS p.1 >>= λ ns. word_at (codes "\n") ns.1 >>= λ c. Ok (record { depart = d.0; progress = p.0; numbers = ns.0 }, c))
    (stays_then bytes dash_or_number_at dash_within (λ d a. word_at (codes " ") a >>= λ b. number_at b >>= λ p. numbers_at MOST_NUMBERS p.1 >>= λ ns. word_at (codes "\n") ns.1 >>= λ c. Ok (record { depart = d; progress = p.0; numbers = ns.0 }, c))
    (λ d. stays_word bytes (codes " ") refl (λ b. number_at b >>= λ p. numbers_at MOST_NUMBERS p.1 >>= λ ns. word_at (codes "\n") ns.1 >>= λ c. Ok (record { depart = d; progress = p.0; numbers = ns.0 }, c))
    (stays_then bytes number_at number_within (λ p b. numbers_at MOST_NUMBERS b >>= λ ns. word_at (codes "\n") ns.1 >>= λ c. Ok (record { depart = d; progress = p; numbers = ns.0 }, c))
    (λ p. stays_then bytes (numbers_at MOST_NUMBERS) (numbers_within MOST_NUMBERS) (λ ns b. word_at (codes "\n") b >>= λ c. Ok (record { depart = d; progress = p; numbers = ns }, c))
    (λ ns. stays_end bytes (λ c. Ok (record { depart = d; progress = p; numbers = ns }, c)) (λ c left f. absurd (never_label d p ns c left f))))))) [] bytes refl refl left e
  where
    never_label : (d : Option ℕ) (p : ℕ) (ns c : List ℕ) (m : ℕ) → ◌≡◌ {A = Result (CertLabel × List ℕ) ℕ} (Ok (record { depart = d; progress = p; numbers = ns }, c)) (Err m) → ⊥
    never_label d p ns c m g = not_both (record { depart = d; progress = p; numbers = ns }, c) m g

is_label_line : (label : CertLabel) → IsLabelForm label → IsLine (label_line label)
is_label_line label form =
    line_more (codes "l ") (number_or_dash label.depart ++ (codes " " ++ (decimal label.progress ++ (flat_map state_number label.numbers ++ codes "\n")))) refl
    (line_more (number_or_dash label.depart) (codes " " ++ (decimal label.progress ++ (flat_map state_number label.numbers ++ codes "\n"))) (plain_dash label.depart form.depart)
    (line_more (codes " ") (decimal label.progress ++ (flat_map state_number label.numbers ++ codes "\n")) refl
    (line_more (decimal label.progress) (flat_map state_number label.numbers ++ codes "\n") (plain_decimal label.progress form.progress)
    (line_more (flat_map state_number label.numbers) (codes "\n") (plain_numbers label.numbers form.numbers) end_line))))

pub label_reads : Reads label_at (λ label. Unit {0})
label_reads =
    let least : CertLabel = record { depart = None; progress = 0; numbers = [] } in
    line_reads label_at (λ label. Unit {0}) (GoodLabel 0) (record {
      takes = λ bytes x e. label_takes 0 bytes x.0 x.1 e;
      again = λ label text rest is. label_again 0 label text rest is;
      is_line = λ label text is. line_is text (label_line label) is.1 (is_label_line label is.0);
      good = λ label text is. tt;
      stops = label_stops;
      example = least;
      line = label_line least;
      spelled = (record { depart = tt; progress = omega arith; few = omega arith; numbers = tt }, refl);
    })

-- ---- the heads of layers

head_stops : (step : ℕ) (bytes : List ℕ) (left : ℕ) → layer_head_at step bytes ≡ Err left → StopsWithin bytes left
unfolding layer_head_at
head_stops step bytes left e =
    stays_word bytes (codes "layer ") refl (λ a. number_at a >>= λ k. word_at (codes " ") k.1 >>= λ b. number_at b >>= λ n. word_at (codes "\n") n.1 >>= λ c. cond (eqb k.0 step) (Ok (n.0, c)) (Err (length bytes)))
    (stays_then bytes number_at number_within (λ k a. word_at (codes " ") a >>= λ b. number_at b >>= λ n. word_at (codes "\n") n.1 >>= λ c. cond (eqb k step) (Ok (n.0, c)) (Err (length bytes)))
    (λ k. stays_word bytes (codes " ") refl (λ b. number_at b >>= λ n. word_at (codes "\n") n.1 >>= λ c. cond (eqb k step) (Ok (n.0, c)) (Err (length bytes)))
    (stays_then bytes number_at number_within (λ n b. word_at (codes "\n") b >>= λ c. cond (eqb k step) (Ok (n, c)) (Err (length bytes)))
    (λ n. stays_end bytes (λ c. cond (eqb k step) (Ok (n, c)) (Err (length bytes)))
    (λ c left f. test_left (eqb k step) (Ok (n, c)) (length bytes) left (λ m g. absurd (not_both (n, c) m g)) f))))) [] bytes refl refl left e

is_head_line : (step count : ℕ) → step < NUMBER_LIMIT → count < NUMBER_LIMIT → IsLine (layer_head step count)
is_head_line step count low few =
    line_more (codes "layer ") (decimal step ++ (codes " " ++ (decimal count ++ codes "\n"))) refl
    (line_more (decimal step) (codes " " ++ (decimal count ++ codes "\n")) (plain_decimal step low)
    (line_more (codes " ") (decimal count ++ codes "\n") refl
    (line_more (decimal count) (codes "\n") (plain_decimal count few) end_line)))

abbrev SpellsHead : ℕ → ℕ → List ℕ → Type 0
SpellsHead step count text = (text ≡ layer_head step count) × (count < NUMBER_LIMIT)

pub head_reads : (step : ℕ) → step < NUMBER_LIMIT → Reads (layer_head_at step) (λ count. Unit {0})
head_reads step low = line_reads (layer_head_at step) (λ count. Unit {0}) (SpellsHead step) (record {
  takes = λ bytes x e. let t = layer_head_takes step bytes x e in (layer_head step x.0, t.parts, (refl, t.count_below));
  again = λ count text rest is. ap (λ (t : List ℕ). layer_head_at step (t ++ rest)) is.0 ∙ layer_head_again step count rest low is.1;
  is_line = λ count text is. line_is text (layer_head step count) is.0 (is_head_line step count low is.1);
  good = λ count text is. tt;
  stops = head_stops step;
  example = 0;
  line = layer_head step 0;
  spelled = (refl, omega arith);
})
