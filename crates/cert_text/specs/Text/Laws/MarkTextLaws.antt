-- Marks: what is read is spelled so, and what is spelled so is read.
use Rattle.std.proofs.Common.{◌≡◌, ℕ, ◌+◌, ◌<◌, ◌≤◌, Bool, true, false, cond, eqb, ltb, nat_le, ℤ, pos, ◌+ℤ◌, ◌*ℤ◌, List, [], ◌∷◌, ◌++◌, length, take, drop, codes, Option, None, Some, Ok, Err, refl, sym, ap, subst, ◌∙◌, append_assoc, arith}
use Rattle.std.proofs.lemmas.Bool.{le-ltb, eqb-true}
use Rattle.std.proofs.lemmas.Bool.Decides.{nat_tests}
use Rattle.std.proofs.lemmas.Int.{ints}
use Rattle.std.proofs.lemmas.List.{take_at, drop_at, take-append-drop, length-append}
use Rattle.civil_minutes.specs.declared.century.TheConstants.{MINUTES_OF_CENTURY}
use Rattle.civil_minutes.specs.Day.{day_of_minute, minute_in_day}
use Rattle.civil_minutes.specs.Time.{IsTimeText}
use Rattle.civil_minutes.specs.TimeOf.{time_of}
use Rattle.civil_minutes.specs.Laws.TimeOfLaws.{time_of_text, text_of_time}
use Rattle.duty_core.specs.declared.mark.Mark.{Mark}
use Rattle.duty_core.specs.declared.mark.Mark.TheVariants.{SplitRest, DeferDay}
use Rattle.duty_core.specs.declared.params.Params.{Params}
use Rattle.duty_core.specs.Day.{day_start}
use Rattle.duty_core.specs.Marks.{mark_minute}
use Rattle.cert_text.specs.declared.text.marks.Marked.{Marked}
use Rattle.cert_text.specs.declared.text.marks.MarkPlace.{MarkPlace}
use Rattle.cert_text.specs.Text.Form.{IsMarkForm, AreMarkForms}
use Rattle.cert_text.specs.Text.Spelling.{mark_word, AreMarkLines}
use Rattle.cert_text.specs.Text.Reading.{◌>>=◌, strip_at, word_at, time_is, time_at, or_defer, mark_word_at, mark_of, marked_is, has_room, mark_at, after_mark, marks_at}
use Rattle.cert_text.specs.Text.Laws.WordLaws.{bind_ok, ok_is, guard_ok, both_true, and_true, strip_takes, strip_again, word_takes, then_takes}
use Rattle.cert_text.specs.Text.Laws.ItemLaws.{AreGood, Takes, IsReadAgain, repeat_takes, repeat_again}

-- ---- times

time_found : (left : ℕ) (rest : List ℕ) (o : Option ℕ) (x : ℕ × List ℕ) → time_is left rest o ≡ Ok x → (o ≡ Some x.0) × (rest ≡ x.1)
time_found left rest None x e = absurd cc
time_found left rest (Some at) x e =
    let same = ok_is (at, rest) x e in (ap (λ (y : ℕ × List ℕ). Some y.0) same, ap (λ (y : ℕ × List ℕ). y.1) same)

pub time_takes : (bytes : List ℕ) (x : ℕ × List ℕ) → time_at bytes ≡ Ok x → (time : List ℕ) × (bytes ≡ time ++ x.1) × IsTimeText time x.0
unfolding time_at
time_takes bytes x e = go (ltb (length bytes) 16) e
  where
    go : (t : Bool) → cond t (Err (length bytes)) (time_is (length bytes) (drop 16 bytes) (time_of (take 16 bytes))) ≡ Ok x → (time : List ℕ) × (bytes ≡ time ++ x.1) × IsTimeText time x.0
    go true e = absurd cc
    go false e =
        let f = time_found (length bytes) (drop 16 bytes) (time_of (take 16 bytes)) x e in
        (take 16 bytes, sym (take-append-drop 16 bytes) ∙ ap (λ (t : List ℕ). take 16 bytes ++ t) f.1, text_of_time (take 16 bytes) x.0 f.0)

time_again : (time : List ℕ) (at : ℕ) (rest : List ℕ) → IsTimeText time at → time_at (time ++ rest) ≡ Ok (at, rest)
unfolding time_at
time_again time at rest is =
    let len : length time ≡ 16 = ap (λ (t : List ℕ). length t) is.spelled in
    let long : ltb (length (time ++ rest)) 16 ≡ false = le-ltb _ _ (omega (arith, length-append time rest, len)) in
    rw (long, take_at time rest 16 len, drop_at time rest 16 len, time_of_text time at is) refl

-- ---- words of marks

-- the word of a deferral, or of a split rest
abbrev pub word_of : Bool → List ℕ
word_of false = codes "split "
word_of true = codes "defer "

pub mark_word_takes : (bytes : List ℕ) (x : Bool × List ℕ) → mark_word_at bytes ≡ Ok x → bytes ≡ word_of x.0 ++ x.1
unfolding mark_word_at
mark_word_takes bytes x e = go (strip_at (codes "split ") bytes) refl e
  where
    go : (o : Option (List ℕ)) → strip_at (codes "split ") bytes ≡ o → or_defer bytes o ≡ Ok x → bytes ≡ word_of x.0 ++ x.1
    go (Some rest) is e =
        subst (λ (y : Bool × List ℕ). bytes ≡ word_of y.0 ++ y.1) (ok_is (false, rest) x e) (strip_takes (codes "split ") bytes rest is)
    go None is e =
        let b = bind_ok (word_at (codes "defer ") bytes) (λ rest. Ok (true, rest)) x e in
        subst (λ (y : Bool × List ℕ). bytes ≡ word_of y.0 ++ y.1) (ok_is (true, b.0) x b.2) (word_takes (codes "defer ") bytes b.0 b.1)

not_split : (rest : List ℕ) → strip_at (codes "split ") (codes "defer " ++ rest) ≡ None
unfolding strip_at
not_split rest = refl

mark_word_again : (defers : Bool) (rest : List ℕ) → mark_word_at (word_of defers ++ rest) ≡ Ok (defers, rest)
unfolding mark_word_at
mark_word_again false rest = rw (strip_again (codes "split ") rest) refl
mark_word_again true rest = rw (not_split rest, strip_again (codes "defer ") rest) refl

-- ---- the mark of a minute

-- whether a mark is a deferral
abbrev defers_of : Mark → Bool
defers_of (SplitRest at) = false
defers_of (DeferDay day) = true

word_of_mark : (mark : Mark) → word_of (defers_of mark) ≡ mark_word mark
word_of_mark (SplitRest at) = refl
word_of_mark (DeferDay day) = refl

day_begins : (at start : ℕ) → start < 1440 → minute_in_day at start ≡ 0 → pos at ≡ day_of_minute at start *ℤ pos 1440 +ℤ pos start
day_begins at start low begins = omega (arith, ints)

mark_found : (params : Params) (defers : Bool) (at : ℕ) (mark : Mark) → day_start params < 1440 → mark_of params defers at ≡ Some mark → (pos at ≡ mark_minute params mark) × (word_of defers ≡ mark_word mark)
mark_found params false at mark low e =
    let same : SplitRest at ≡ mark = cc in subst (λ m. (pos at ≡ mark_minute params m) × (word_of false ≡ mark_word m)) same (refl, refl)
mark_found params true at mark low e = go (eqb (minute_in_day at (day_start params)) 0) refl e
  where
    go : (t : Bool) → eqb (minute_in_day at (day_start params)) 0 ≡ t → cond t (Some (DeferDay (day_of_minute at (day_start params)))) None ≡ Some mark → (pos at ≡ mark_minute params mark) × (word_of true ≡ mark_word mark)
    go true is e =
        let same : DeferDay (day_of_minute at (day_start params)) ≡ mark = cc in
        subst (λ m. (pos at ≡ mark_minute params m) × (word_of true ≡ mark_word m)) same (day_begins at (day_start params) low (eqb-true _ _ is), refl)
    go false is e = absurd cc

begins_day : (at start : ℕ) (day : ℤ) → start < 1440 → pos at ≡ day *ℤ pos 1440 +ℤ pos start → minute_in_day at start ≡ 0
begins_day at start day low is = omega (arith, ints)

begun_day : (at start : ℕ) (day : ℤ) → start < 1440 → pos at ≡ day *ℤ pos 1440 +ℤ pos start → day_of_minute at start ≡ day
begun_day at start day low is = omega (arith, ints)

mark_made : (params : Params) (at : ℕ) (mark : Mark) → day_start params < 1440 → pos at ≡ mark_minute params mark → mark_of params (defers_of mark) at ≡ Some mark
mark_made params at (SplitRest a) low is = let same : at ≡ a = cc in ap (λ k. Some (SplitRest k)) same
mark_made params at (DeferDay day) low is =
    rw (begins_day at (day_start params) day low is, begun_day at (day_start params) day low is) refl

marked_found : (left : ℕ) (rest : List ℕ) (at : ℕ) (o : Option Mark) (x : Marked × List ℕ) → marked_is left rest at o ≡ Ok x → (o ≡ Some x.0.mark) × (at ≡ x.0.at) × (rest ≡ x.1)
marked_found left rest at None x e = absurd cc
marked_found left rest at (Some mark) x e =
    let made : Marked × List ℕ = (record { mark = mark; at = at }, rest) in
    let same = ok_is made x e in (ap (λ (y : Marked × List ℕ). Some y.0.mark) same, ap (λ (y : Marked × List ℕ). y.0.at) same, ap (λ (y : Marked × List ℕ). y.1) same)

-- ---- a mark

-- a mark at its minute, which may stand at the place, and its line
pub record GoodMark (params : Params) (place : MarkPlace) (marked : Marked) (text : List ℕ) : Type 0 where
  pub minute : pos marked.at ≡ mark_minute params marked.mark
  pub late : place.least ≤ marked.at
  pub room : marked.at + place.left ≤ MINUTES_OF_CENTURY
  pub time : List ℕ
  pub time_text : IsTimeText time marked.at
  pub spelled : text ≡ codes "m " ++ (mark_word marked.mark ++ (time ++ codes "\n"))

pub mark_takes : (params : Params) → day_start params < 1440 → Takes (mark_at params) (GoodMark params)
unfolding mark_at
mark_takes params low place bytes marked rest e =
    let a = bind_ok (word_at (codes "m ") bytes) (λ a. mark_word_at a >>= λ d. time_at d.1 >>= λ t. word_at (codes "\n") t.1 >>= λ b. cond (has_room place t.0) (marked_is (length bytes) b t.0 (mark_of params d.0 t.0)) (Err (length bytes))) (marked, rest) e in
    let d = bind_ok (mark_word_at a.0) (λ d. time_at d.1 >>= λ t. word_at (codes "\n") t.1 >>= λ b. cond (has_room place t.0) (marked_is (length bytes) b t.0 (mark_of params d.0 t.0)) (Err (length bytes))) (marked, rest) a.2 in
    let t = bind_ok (time_at d.0.1) (λ t. word_at (codes "\n") t.1 >>= λ b. cond (has_room place t.0) (marked_is (length bytes) b t.0 (mark_of params d.0.0 t.0)) (Err (length bytes))) (marked, rest) d.2 in
    let b = bind_ok (word_at (codes "\n") t.0.1) (λ b. cond (has_room place t.0.0) (marked_is (length bytes) b t.0.0 (mark_of params d.0.0 t.0.0)) (Err (length bytes))) (marked, rest) t.2 in
    let g = guard_ok (has_room place t.0.0) (length bytes) (marked_is (length bytes) b.0 t.0.0 (mark_of params d.0.0 t.0.0)) (marked, rest) b.2 in
    let f = marked_found (length bytes) b.0 t.0.0 (mark_of params d.0.0 t.0.0) (marked, rest) g.1 in
    let tests = both_true (nat_le place.least t.0.0) (nat_le (t.0.0 + place.left) MINUTES_OF_CENTURY) g.0 in
    let late : place.least ≤ t.0.0 = (let p = tests.0 in grind (arith, nat_tests)) in
    let room : t.0.0 + place.left ≤ MINUTES_OF_CENTURY = (let p = tests.1 in grind (arith, nat_tests)) in
    let is = mark_found params d.0.0 t.0.0 marked.mark low f.0 in
    let time = time_takes d.0.1 t.0 t.1 in
    let word : a.0 ≡ mark_word marked.mark ++ d.0.1 = mark_word_takes a.0 d.0 d.1 ∙ ap (λ (w : List ℕ). w ++ d.0.1) is.1 in
    let end : t.0.1 ≡ codes "\n" ++ rest = word_takes (codes "\n") t.0.1 b.0 b.1 ∙ ap (λ (r : List ℕ). codes "\n" ++ r) f.2 in
    let whole : bytes ≡ (codes "m " ++ (mark_word marked.mark ++ (time.0 ++ codes "\n"))) ++ rest =
    then_takes bytes (codes "m ") a.0 (mark_word marked.mark ++ (time.0 ++ codes "\n")) rest (word_takes (codes "m ") bytes a.0 a.1)
    (then_takes a.0 (mark_word marked.mark) d.0.1 (time.0 ++ codes "\n") rest word
    (then_takes d.0.1 time.0 t.0.1 (codes "\n") rest time.1 end)) in (
      codes "m " ++ (mark_word marked.mark ++ (time.0 ++ codes "\n")),
      whole,
      record {
        minute = ap (λ k. pos k) (sym f.1) ∙ is.0;
        late = rw (← f.1) late;
        room = rw (← f.1) room;
        time = time.0;
        time_text = subst (λ k. IsTimeText time.0 k) f.1 time.2;
        spelled = refl;
      },
    )

pub mark_again : (params : Params) → day_start params < 1440 → IsReadAgain (mark_at params) (GoodMark params)
unfolding mark_at
mark_again params low place marked front rest good =
    let tail = codes "\n" ++ rest in
    let word = word_of_mark marked.mark in
    let regrouped : front ++ rest ≡ codes "m " ++ (word_of (defers_of marked.mark) ++ (good.time ++ tail)) =
    ap (λ (t : List ℕ). t ++ rest) good.spelled ∙ ap (λ (t : List ℕ). codes "m " ++ t) (append_assoc (mark_word marked.mark) (good.time ++ codes "\n") rest ∙ ap (λ (t : List ℕ). mark_word marked.mark ++ t) (append_assoc good.time (codes "\n") rest) ∙ ap (λ (w : List ℕ). w ++ (good.time ++ tail)) (sym word)) in
    let low_test : nat_le place.least marked.at ≡ true = (let p = good.late in grind (arith, nat_tests)) in
    let room_test : nat_le (marked.at + place.left) MINUTES_OF_CENTURY ≡ true = (let p = good.room in grind (arith, nat_tests)) in
    let tests = and_true (nat_le place.least marked.at) (nat_le (marked.at + place.left) MINUTES_OF_CENTURY) low_test room_test in
    ap (mark_at params place) regrouped ∙ rw (
      strip_again (codes "m ") (word_of (defers_of marked.mark) ++ (good.time ++ tail)),
      mark_word_again (defers_of marked.mark) (good.time ++ tail),
      time_again good.time marked.at tail good.time_text,
      strip_again (codes "\n") rest,
      tests,
      mark_made params marked.at marked.mark low good.minute,
    ) refl

-- ---- marks

pub one_minute : (params : Params) (mark : Mark) (a b : ℕ) → pos a ≡ mark_minute params mark → pos b ≡ mark_minute params mark → a ≡ b
one_minute params mark a b h k = let same : pos a ≡ pos b = h ∙ sym k in cc

marks_good : (params : Params) (place : MarkPlace) (marks : List Mark) (text : List ℕ) → place.left ≡ length marks
    → AreGood (λ (m : Marked). m.mark) after_mark (GoodMark params) place marks text → AreMarkForms params place.least marks × AreMarkLines params marks text
marks_good params place [] text few are = (tt, are)
marks_good params place (mark ∷ marks) text few are =
    let good = are.5 in
    let minute : pos are.0.at ≡ mark_minute params mark = good.minute ∙ ap (λ m. mark_minute params m) (sym are.3) in
    let later = marks_good params (after_mark place are.0) marks are.2 (omega (arith, few)) are.6 in (
      (record { at = are.0.at; minute = minute; late = good.late; century = omega (arith, good.room, few) }, later.0),
      (are.1, are.2, are.4, record { at = are.0.at; minute = minute; time = good.time; time_is = good.time_text; spelled = good.spelled ∙ ap (λ m. codes "m " ++ (mark_word m ++ (good.time ++ codes "\n"))) (sym are.3) }, later.1),
    )

-- marks of the century leave room for those after them
room_of : (params : Params) (least : ℕ) (mark : Mark) (marks : List Mark) (form : IsMarkForm params least mark) → AreMarkForms params (form.at + 1) marks → form.at + length (mark ∷ marks) ≤ MINUTES_OF_CENTURY
room_of params least mark [] form later = omega (arith, form.century)
room_of params least mark (next ∷ marks) form later =
    let more = room_of params (form.at + 1) next marks later.0 later.1 in
    omega (arith, more, later.0.late)

good_marks : (params : Params) (place : MarkPlace) (marks : List Mark) (text : List ℕ) → place.left ≡ length marks
    → AreMarkForms params place.least marks → AreMarkLines params marks text → AreGood (λ (m : Marked). m.mark) after_mark (GoodMark params) place marks text
good_marks params place [] text few forms lines = lines
good_marks params place (mark ∷ marks) text few forms lines =
    let form = forms.0 in
    let line = lines.3 in
    let marked : Marked = record { mark = mark; at = form.at } in
    let room = room_of params place.least mark marks form forms.1 in
    let same = one_minute params mark line.at form.at line.minute form.minute in (
      marked,
      lines.0,
      lines.1,
      refl,
      lines.2,
      record { minute = form.minute; late = form.late; room = rw few room; time = line.time; time_text = subst (λ k. IsTimeText line.time k) same line.time_is; spelled = line.spelled },
      good_marks params (after_mark place marked) marks lines.1 (omega (arith, few)) forms.1 lines.4,
    )

-- what so many marks take of the bytes
pub record TakesMarks (params : Params) (n : ℕ) (bytes : List ℕ) (marks : List Mark) (rest : List ℕ) : Type 0 where
  pub text : List ℕ
  pub parts : bytes ≡ text ++ rest
  pub forms : AreMarkForms params 0 marks
  pub lines : AreMarkLines params marks text
  pub count : length marks ≡ n

pub marks_take : (params : Params) (n : ℕ) (bytes : List ℕ) (x : List Mark × List ℕ) → day_start params < 1440 → marks_at params n bytes ≡ Ok x → TakesMarks params n bytes x.0 x.1
unfolding marks_at
marks_take params n bytes x low e =
    let place : MarkPlace = record { least = 0; left = n } in
    let t = repeat_takes (λ (m : Marked). m.mark) (mark_at params) after_mark (GoodMark params) (mark_takes params low) n place bytes x e in
    let g = marks_good params place x.0 t.text (sym t.count) t.are_good in
    record { text = t.text; parts = t.parts; forms = g.0; lines = g.1; count = t.count }

pub marks_again : (params : Params) (marks : List Mark) (text rest : List ℕ) → day_start params < 1440 → AreMarkForms params 0 marks → AreMarkLines params marks text → marks_at params (length marks) (text ++ rest) ≡ Ok (marks, rest)
unfolding marks_at
marks_again params marks text rest low forms lines =
    let place : MarkPlace = record { least = 0; left = length marks } in
    repeat_again (λ (m : Marked). m.mark) (mark_at params) after_mark (GoodMark params) (mark_again params low) marks place text rest (good_marks params place marks text refl forms lines)
