-- Reading the text of a certificate from left to right. Each part is a value and the bytes after it; where it is none, the answer is the number of the bytes that are left there.
use Rattle.std.specs.Prelude.{◌≡◌, ℕ, zero, suc, ◌+◌, ◌-◌, ◌*◌, ◌==◌, ◌&&◌, not, nat_le, nat_lt, if◌then◌else◌, Bool, true, false, List, [], ◌∷◌, length, take, drop, codes, Option, None, Some, Result, Ok, Err}
use Rattle.std.specs.Char.{is_ascii_digit}
use Rattle.std.specs.Str.{bytes_eq}
use Rattle.std.specs.List.{count_by}
use Rattle.civil_minutes.specs.declared.century.TheConstants.{MINUTES_OF_CENTURY}
use Rattle.civil_minutes.specs.Day.{day_of_minute, minute_in_day}
use Rattle.civil_minutes.specs.TimeOf.{time_of}
use Rattle.duty_core.specs.declared.activity.Activity.{Activity}
use Rattle.duty_core.specs.declared.activity.Activity.TheVariants.{Drive, Serve, Wait, Off, Berth}
use Rattle.duty_core.specs.declared.mark.Mark.{Mark}
use Rattle.duty_core.specs.declared.mark.Mark.TheVariants.{SplitRest, DeferDay}
use Rattle.duty_core.specs.declared.params.Params.{Params}
use Rattle.duty_core.specs.Day.{day_start}
use Rattle.rule_core.specs.declared.numbers.TheConstants.{NUMBER_LIMIT, MOST_NUMBERS}
use Rattle.cert_text.specs.declared.cert.Cert.{Cert}
use Rattle.cert_text.specs.declared.cert.CertKind.{CertKind}
use Rattle.cert_text.specs.declared.cert.CertKind.TheVariants.{Shortest, Infeasible}
use Rattle.cert_text.specs.declared.cert.CertLabel.{CertLabel}
use Rattle.cert_text.specs.declared.cert.StepRun.{StepRun}
use Rattle.cert_text.specs.declared.text.claim.Claim.{Claim}
use Rattle.cert_text.specs.declared.text.marks.Marked.{Marked}
use Rattle.cert_text.specs.declared.text.marks.MarkPlace.{MarkPlace}
use Rattle.cert_text.specs.declared.text.fault.CertFault.{CertFault}
use Rattle.cert_text.specs.declared.text.fault.CertFault.TheVariants as fault
use Rattle.cert_text.specs.declared.text.fault.Stop.{Stop}
use Rattle.cert_text.specs.declared.text.fault.Stop.TheVariants as stop

infixl 10 ◌>>=◌
abbrev pub ◌>>=◌ : {A B : Type 0} → Result A ℕ → (A → Result B ℕ) → Result B ℕ
(Ok x) >>= f = f x
(Err left) >>= f = Err left

-- What a function returned, seen by view, is what reading gives, unless memory ran out.
abbrev pub Fails : {Y : Type 0} → Stop → Result Y ℕ → Type 0
Fails stop.Memory read = Unit {0}
Fails (stop.Left left) read = read ≡ Err left

abbrev pub Gives : {X Y : Type 0} → (X → Y) → Result X Stop → Result Y ℕ → Type 0
Gives view (Ok x) read = read ≡ Ok (view x)
Gives view (Err e) read = Fails e read

-- ---- words and numbers

-- what stands after a word, where it stands at the front
unfoldable pub strip_at : List ℕ → List ℕ → Option (List ℕ)
strip_at word bytes = if bytes_eq (take (length word) bytes) word then Some (drop (length word) bytes) else None

abbrev pub or_left : {A : Type 0} → ℕ → Option A → Result A ℕ
or_left left None = Err left
or_left left (Some x) = Ok x

-- what stands after a word
abbrev pub word_at : List ℕ → List ℕ → Result (List ℕ) ℕ
word_at word bytes = or_left (length bytes) (strip_at word bytes)

-- a number that goes on with the digits at the front, as long as it stays below the limit
unfoldable pub digits_at : ℕ → List ℕ → ℕ × List ℕ
digits_at n [] = (n, [])
digits_at n (b ∷ rest) = if is_ascii_digit b && nat_lt (n * 10) NUMBER_LIMIT then digits_at (n * 10 + (b - 48)) rest else (n, b ∷ rest)

-- a number without leading zeros
unfoldable pub number_at : List ℕ → Result (ℕ × List ℕ) ℕ
number_at [] = Err 0
number_at (b ∷ rest) = if b == 48 then Ok (0, rest) else if is_ascii_digit b then Ok (digits_at (b - 48) rest) else Err (length (b ∷ rest))

-- a dash, or else a number
unfoldable pub dash_or_number_at : List ℕ → Result (Option ℕ × List ℕ) ℕ
dash_or_number_at [] = Err 0
dash_or_number_at (b ∷ rest) = if b == 45 then Ok (None, rest) else (number_at (b ∷ rest) >>= λ n. Ok (Some n.0, n.1))

-- the number after a word, to the end of the line
unfoldable pub number_line_at : List ℕ → List ℕ → Result (ℕ × List ℕ) ℕ
number_line_at word bytes = do
  a ← word_at word bytes
  n ← number_at a
  b ← word_at (codes "\n") n.1
  Ok (n.0, b)

-- so many items as `view` sees them, one after the other, where `next` tells what each leaves for the one after it
unfoldable pub repeat_at : {S A B : Type 0} → (A → B) → (S → List ℕ → Result (A × List ℕ) ℕ) → (S → A → S) → ℕ → S → List ℕ → Result (List B × List ℕ) ℕ
repeat_at view step next zero s bytes = Ok ([], bytes)
repeat_at view step next (suc n) s bytes = do
  first ← step s bytes
  others ← repeat_at view step next n (next s first.0) first.1
  Ok (view first.0 ∷ others.0, others.1)

-- ---- runs

-- the activity of a letter
abbrev pub act_of : ℕ → Option Activity
act_of b =
    if b == 68 then Some Drive else if b == 83 then Some Serve else if b == 87 then Some Wait
    else if b == 79 then Some Off else if b == 66 then Some Berth else None

abbrev pub letter_is : ℕ → List ℕ → Option Activity → Result (Activity × List ℕ) ℕ
letter_is left rest None = Err left
letter_is left rest (Some act) = Ok (act, rest)

unfoldable pub letter_at : List ℕ → Result (Activity × List ℕ) ℕ
letter_at [] = Err 0
letter_at (b ∷ rest) = letter_is (length (b ∷ rest)) rest (act_of b)

-- whether two activities are the same
abbrev pub same_act : Activity → Activity → Bool
same_act Drive Drive = true
same_act Serve Serve = true
same_act Wait Wait = true
same_act Off Off = true
same_act Berth Berth = true
same_act _ _ = false

-- whether a run of this activity may stand after one of the activity before
abbrev pub may_follow : Option Activity → Activity → Bool
may_follow None act = true
may_follow (Some before) act = not (same_act before act)

unfoldable pub run_at : Option Activity → List ℕ → Result (StepRun × List ℕ) ℕ
run_at before bytes = do
  a ← word_at (codes "r ") bytes
  n ← number_at a
  b ← word_at (codes " ") n.1
  act ← letter_at b
  c ← word_at (codes "\n") act.1
  if nat_lt 0 n.0 && may_follow before act.0 then Ok (record { count = n.0; act = act.0 }, c) else Err (length bytes)

abbrev pub after_run : Option Activity → StepRun → Option Activity
after_run before run = Some run.act

-- ---- marks

-- the minute of a time
abbrev pub time_is : ℕ → List ℕ → Option ℕ → Result (ℕ × List ℕ) ℕ
time_is left rest None = Err left
time_is left rest (Some at) = Ok (at, rest)

unfoldable pub time_at : List ℕ → Result (ℕ × List ℕ) ℕ
time_at bytes = if nat_lt (length bytes) 16 then Err (length bytes) else time_is (length bytes) (drop 16 bytes) (time_of (take 16 bytes))

-- whether a mark is a deferral: the word says which
abbrev pub or_defer : List ℕ → Option (List ℕ) → Result (Bool × List ℕ) ℕ
or_defer bytes (Some rest) = Ok (false, rest)
or_defer bytes None = word_at (codes "defer ") bytes >>= λ rest. Ok (true, rest)

unfoldable pub mark_word_at : List ℕ → Result (Bool × List ℕ) ℕ
mark_word_at bytes = or_defer bytes (strip_at (codes "split ") bytes)

-- the mark of this minute; none for a deferral where no day begins
abbrev pub mark_of : Params → Bool → ℕ → Option Mark
mark_of params false at = Some (SplitRest at)
mark_of params true at = if minute_in_day at (day_start params) == 0 then Some (DeferDay (day_of_minute at (day_start params))) else None

abbrev pub marked_is : ℕ → List ℕ → ℕ → Option Mark → Result (Marked × List ℕ) ℕ
marked_is left rest at None = Err left
marked_is left rest at (Some mark) = Ok (record { mark = mark; at = at }, rest)

-- whether a mark may stand at the minute, so that the marks after it have room before the century ends
abbrev pub has_room : MarkPlace → ℕ → Bool
has_room place at = nat_le place.least at && nat_le (at + place.left) MINUTES_OF_CENTURY

unfoldable pub mark_at : Params → MarkPlace → List ℕ → Result (Marked × List ℕ) ℕ
mark_at params place bytes = do
  a ← word_at (codes "m ") bytes
  defers ← mark_word_at a
  t ← time_at defers.1
  b ← word_at (codes "\n") t.1
  if has_room place t.0 then marked_is (length bytes) b t.0 (mark_of params defers.0 t.0) else Err (length bytes)

abbrev pub after_mark : MarkPlace → Marked → MarkPlace
after_mark place marked = record { least = marked.at + 1; left = place.left - 1 }

unfoldable pub marks_at : Params → ℕ → List ℕ → Result (List Mark × List ℕ) ℕ
marks_at params n bytes = repeat_at (λ (m : Marked). m.mark) (mark_at params) after_mark n (record { least = 0; left = n }) bytes

unfoldable pub runs_at : ℕ → List ℕ → Result (List StepRun × List ℕ) ℕ
runs_at n bytes = repeat_at (λ (r : StepRun). r) run_at after_run n None bytes

-- ---- what the certificate claims

-- a target of at least 1
unfoldable pub target_at : List ℕ → Result (ℕ × List ℕ) ℕ
target_at bytes = do
  t ← number_line_at (codes "target ") bytes
  if nat_lt 0 t.0 then Ok t else Err (length bytes)

unfoldable pub shortest_at : Params → List ℕ → Result (Claim × List ℕ) ℕ
shortest_at params bytes = do
  t ← target_at bytes
  r ← number_line_at (codes "schedule ") t.1
  runs ← runs_at r.0 r.1
  m ← number_line_at (codes "marks ") runs.1
  marks ← marks_at params m.0 m.1
  Ok (record { kind = Shortest; target = Some t.0; schedule = runs.0; marks = marks.0 }, marks.1)

unfoldable pub infeasible_at : List ℕ → Result (Claim × List ℕ) ℕ
infeasible_at bytes = do
  a ← word_at (codes "target -\n") bytes
  b ← word_at (codes "schedule 0\n") a
  c ← word_at (codes "marks 0\n") b
  Ok (record { kind = Infeasible; target = None; schedule = []; marks = [] }, c)

abbrev pub or_infeasible : List ℕ → Option (List ℕ) → Result (CertKind × List ℕ) ℕ
or_infeasible bytes (Some rest) = Ok (Shortest, rest)
or_infeasible bytes None = word_at (codes "kind infeasible\n") bytes >>= λ rest. Ok (Infeasible, rest)

unfoldable pub kind_at : List ℕ → Result (CertKind × List ℕ) ℕ
kind_at bytes = or_infeasible bytes (strip_at (codes "kind shortest\n") bytes)

abbrev pub claim_of : Params → CertKind → List ℕ → Result (Claim × List ℕ) ℕ
claim_of params Shortest bytes = shortest_at params bytes
claim_of params Infeasible bytes = infeasible_at bytes

unfoldable pub claim_at : Params → List ℕ → Result (Claim × List ℕ) ℕ
claim_at params bytes = do
  a ← word_at (codes "duty-cert 1\n") bytes
  kind ← kind_at a
  claim_of params kind.0 kind.1

-- ---- layers

-- what is read after a space; nothing where no space stands at the front
abbrev pub after_space : List ℕ → Option (List ℕ) → (List ℕ → Result (List ℕ × List ℕ) ℕ) → Result (List ℕ × List ℕ) ℕ
after_space bytes None read = Ok ([], bytes)
after_space bytes (Some rest) read = read rest

-- at most so many numbers, each after a space
unfoldable pub numbers_at : ℕ → List ℕ → Result (List ℕ × List ℕ) ℕ
numbers_at zero bytes = Ok ([], bytes)
numbers_at (suc most) bytes = after_space bytes (strip_at (codes " ") bytes) (λ rest. number_at rest >>= λ n. numbers_at most n.1 >>= λ others. Ok (n.0 ∷ others.0, others.1))

unfoldable pub label_at : List ℕ → Result (CertLabel × List ℕ) ℕ
label_at bytes = do
  a ← word_at (codes "l ") bytes
  depart ← dash_or_number_at a
  b ← word_at (codes " ") depart.1
  progress ← number_at b
  numbers ← numbers_at MOST_NUMBERS progress.1
  c ← word_at (codes "\n") numbers.1
  Ok (record { depart = depart.0; progress = progress.0; numbers = numbers.0 }, c)

unfoldable pub labels_at : ℕ → List ℕ → Result (List CertLabel × List ℕ) ℕ
labels_at n bytes = repeat_at (λ (l : CertLabel). l) (λ (s : ℕ). label_at) (λ s l. s) n 0 bytes

-- the number of labels of the layer of this step
unfoldable pub layer_head_at : ℕ → List ℕ → Result (ℕ × List ℕ) ℕ
layer_head_at step bytes = do
  a ← word_at (codes "layer ") bytes
  k ← number_at a
  b ← word_at (codes " ") k.1
  n ← number_at b
  c ← word_at (codes "\n") n.1
  if k.0 == step then Ok (n.0, c) else Err (length bytes)

-- the layer of this step
unfoldable pub layer_at : ℕ → List ℕ → Result (List CertLabel × List ℕ) ℕ
layer_at step bytes = do
  n ← layer_head_at step bytes
  labels_at n.0 n.1

unfoldable pub layers_at : ℕ → List ℕ → Result (List (List CertLabel) × List ℕ) ℕ
layers_at n bytes = repeat_at (λ (l : List CertLabel). l) layer_at (λ s l. s + 1) n 0 bytes

-- ---- the certificate

abbrev pub ended : List ℕ → Cert → Result Cert ℕ
ended [] cert = Ok cert
ended (b ∷ rest) cert = Err (length (b ∷ rest))

-- a certificate, and the bytes after its text
unfoldable pub whole_at : Params → List ℕ → Result (Cert × List ℕ) ℕ
whole_at params bytes = do
  claim ← claim_at params bytes
  n ← number_line_at (codes "layers ") claim.1
  layers ← layers_at n.0 n.1
  rest ← word_at (codes "end\n") layers.1
  Ok (record { kind = claim.0.kind; target = claim.0.target; schedule = claim.0.schedule; marks = claim.0.marks; layers = layers.0 }, rest)

unfoldable pub cert_at : Params → List ℕ → Result Cert ℕ
cert_at params bytes = do
  c ← whole_at params bytes
  ended c.1 c.0

-- the line that holds the first of the bytes that are left, counted from 1
abbrev pub line_at : List ℕ → ℕ → ℕ
line_at bytes left = 1 + count_by (λ b. b == 10) (take (length bytes - left) bytes)

-- an answer of reading the bytes, from what reading gives: the certificate, or the line at which reading stops; or memory ran out
abbrev pub IsOutcome : List ℕ → Result Cert CertFault → Result Cert ℕ → Type 0
IsOutcome bytes (Ok cert) read = read ≡ Ok cert
IsOutcome bytes (Err (fault.Bad line)) read = (left : ℕ) × (read ≡ Err left) × (line ≡ line_at bytes left)
IsOutcome bytes (Err fault.Memory) read = Unit {0}
