-- The plain forms, form by form.
use Rattle.std.proofs.Common.{◌≡◌, ◌∷◌, ◌++◌, ℕ, List, [], Bool, true, false, Some, None, codes, ap, subst, inl, refl, length, arith}
use Rattle.std.specs.Prelude.{slice_index, nat_lt}
use Rattle.std.specs.List.{list_all}
use Rattle.std.specs.Char.{digit_value}
use Rattle.clap.specs.Kinds.{or_else, value_kinds}
use Rattle.clap.specs.Values.{IsUnsignedIn}
use Rattle.clap.specs.ValueTests.{accepts, is_numeral, is_unsigned_in}
use Rattle.clap.specs.Walk.{Held, Rule, Row, Text, Walk, idle, option, nothing_held, walk_from}
use Rattle.clap.specs.declared.builder.value_parser.Reading.TheVariants.{AsWritten}
use Rattle.clap.specs.declared.builder.value_parser.ValueParser.{ValueParser}
use Rattle.clap.specs.declared.builder.value_parser.ValueParser.TheVariants.{Unsigned}
use Rattle.clap.specs.declared.parser.matches.ValueSource.TheVariants.{CommandLine}
use Rattle.clap.proofs.OnLiterals.{clap_on_literals}
use Rattle.clap.proofs.ValueTestLemmas.{accepts-Accepts, Accepts-accepts}
use Rattle.outside.specs.Outside.{Bytes}
use Rattle.cert_text.specs.declared.text.limits.TheConstants.{MOST_LABELS}
use Rattle.command_words.specs.declared.command.Command.TheVariants.{Plan, Check, Audit, Graph, Make}
use Rattle.report_text.specs.declared.maker.TheConstants.{MOST_MADE}
use Rattle.command_words.specs.declared.command.TheConstants.{BUDGET}
use Rattle.command_words.specs.Calls.{call, place, number_place, budget_option}
use Rattle.command_words.specs.Command.{Takes, HasWord, IsNumber, IsCommandLine}
use Rattle.command_words.specs.Names.{IsPlainName}
use Rattle.command_words.proofs.Known.{both}
use Rattle.command_words.proofs.PlainForms.{WalksTo, shape, ends_here, ends_after, place_step, plain_no_flag, taken_by, turn_plain, walked_plain, word_by, walk_at}

-- ---- numbers

no_sign : (least most : ℕ) (xs : List ℕ) → is_unsigned_in least most (45 ∷ xs) ≡ true → ⊥
no_sign least most xs e =
    let numeral = (both (is_numeral (45 ∷ xs)) _ e).0 in
    let digits = (both (nat_lt 0 (length (45 ∷ xs))) (list_all (λ d. nat_lt (digit_value d) 10) (45 ∷ xs)) numeral).1 in
    let first : nat_lt (digit_value 45) 10 ≡ true = (both (nat_lt (digit_value 45) 10) (list_all (λ d. nat_lt (digit_value d) 10) xs) digits).0 in
    cc

first_of_number : (least most : ℕ) (text : Text) → IsUnsignedIn least most text → slice_index text 0 ≡ 45 → ⊥
first_of_number least most [] h e = absurd (omega arith)
first_of_number least most (x ∷ xs) h e =
    no_sign least most xs (subst (λ (y : ℕ). is_unsigned_in least most (y ∷ xs) ≡ true) e (Accepts-accepts false (Unsigned least most) (x ∷ xs) h))

-- a number does not begin with a hyphen
number_plain : (text : Text) (least most n : ℕ) → IsNumber text least most n → IsPlainName text
number_plain text least most n h = inl (first_of_number least most text h.0)

kinds_pass : (ignore_case : Bool) (q : ValueParser) (text : Text) → accepts ignore_case q text ≡ true → value_kinds ignore_case q text ≡ []
kinds_pass ignore_case q text e = rw e refl

number_passes : (text : Text) (least most n : ℕ) → IsNumber text least most n → value_kinds false (Unsigned least most) text ≡ []
number_passes text least most n h = kinds_pass false (Unsigned least most) text (Accepts-accepts false (Unsigned least most) text h.0)

usual_budget : IsNumber (codes "200000") 1 MOST_LABELS BUDGET
usual_budget = (accepts-Accepts false (Unsigned 1 MOST_LABELS) (codes "200000") refl, refl)

-- ---- what is held

-- a word that was given for an argument
abbrev given : Text → Text → Row
given id word = record { id = id; values = word ∷ []; count = None; source = Some CommandLine; reading = AsWritten }

-- what is held while the word of an argument is the last that was read
abbrev holding : List Row → Text → Text → Held
holding rows id word = record { rows = rows; pending = Some (id, word ∷ []); skip = 0 }

-- what is held while the option waits for its value
abbrev wanting : List Row → Held
wanting rows = record { rows = rows; pending = Some (codes "budget", []); skip = 0 }

abbrev names : Text → Text → List Row
names t l = given (codes "tour") t ∷ given (codes "log") l ∷ []

abbrev three_names : Text → Text → Text → List Row
three_names t l c = given (codes "tour") t ∷ given (codes "log") l ∷ given (codes "cert") c ∷ []

-- ---- two names

abbrev two : List Rule
two = place (codes "tour") ∷ place (codes "log") ∷ []

abbrev two_walk : Text → Text → Walk
two_walk t l = walk_at (holding (given (codes "tour") t ∷ []) (codes "log") l) idle 3

two_ends : (name t l : Text) → IsPlainName t → IsPlainName l → WalksTo (shape name two) (walk_from nothing_held) (t ∷ l ∷ []) (two_walk t l)
unfolding clap_on_literals
two_ends name t l p q =
    let s = shape name two in
    place_step s nothing_held (holding [] (codes "tour") t) 1 2 t (l ∷ []) (two_walk t l) p refl refl
    (place_step s (holding [] (codes "tour") t) (two_walk t l).held 2 3 l [] (two_walk t l) q refl refl
    (ends_here s (two_walk t l)))

-- the words ask for a command of this name with these two files
two_form : (name t l : Text) → IsPlainName t → IsPlainName l
    → Takes (call name two) (name ∷ t ∷ l ∷ []) × HasWord (call name two) (name ∷ t ∷ l ∷ []) (codes "tour") t
    × HasWord (call name two) (name ∷ t ∷ l ∷ []) (codes "log") l
unfolding clap_on_literals
two_form name t l p q =
    let w = two_walk t l in
    let e = two_ends name t l p q in
    let words = t ∷ l ∷ [] in
    ((refl, taken_by name two words w e refl refl), word_by name two words w (codes "tour") t e refl, word_by name two words w (codes "log") l e refl)

pub audit_form : (t l : Bytes) → IsPlainName t → IsPlainName l → IsCommandLine (codes "audit" ∷ t ∷ l ∷ []) (Audit t l)
audit_form t l p q = two_form (codes "audit") t l p q

pub graph_form : (t l : Bytes) → IsPlainName t → IsPlainName l → IsCommandLine (codes "graph" ∷ t ∷ l ∷ []) (Graph t l)
graph_form t l p q = two_form (codes "graph") t l p q

-- ---- three names

abbrev three : List Rule
three = place (codes "tour") ∷ place (codes "log") ∷ place (codes "cert") ∷ []

abbrev three_walk : Text → Text → Text → Walk
three_walk t l c = walk_at (holding (names t l) (codes "cert") c) idle 4

three_ends : (name t l c : Text) → IsPlainName t → IsPlainName l → IsPlainName c
    → WalksTo (shape name three) (walk_from nothing_held) (t ∷ l ∷ c ∷ []) (three_walk t l c)
unfolding clap_on_literals
three_ends name t l c p q r =
    let s = shape name three in
    place_step s nothing_held (holding [] (codes "tour") t) 1 2 t (l ∷ c ∷ []) (three_walk t l c) p refl refl
    (place_step s (holding [] (codes "tour") t) (holding (given (codes "tour") t ∷ []) (codes "log") l) 2 3 l (c ∷ []) (three_walk t l c) q refl refl
    (place_step s (holding (given (codes "tour") t ∷ []) (codes "log") l) (three_walk t l c).held 3 4 c [] (three_walk t l c) r refl refl
    (ends_here s (three_walk t l c))))

pub check_form : (t l c : Bytes) → IsPlainName t → IsPlainName l → IsPlainName c
    → IsCommandLine (codes "check" ∷ t ∷ l ∷ c ∷ []) (Check t l c)
unfolding clap_on_literals
check_form t l c p q r =
    let e = three_ends (codes "check") t l c p q r in
    let words = t ∷ l ∷ c ∷ [] in (
      (refl, taken_by (codes "check") three words (three_walk t l c) e refl refl),
      word_by (codes "check") three words (three_walk t l c) (codes "tour") t e refl,
      word_by (codes "check") three words (three_walk t l c) (codes "log") l e refl,
      word_by (codes "check") three words (three_walk t l c) (codes "cert") c e refl,
    )

-- ---- three names and a budget

abbrev four : List Rule
four = place (codes "tour") ∷ place (codes "log") ∷ place (codes "cert") ∷ budget_option ∷ []

-- three names, and what comes after them
names_then : (t l c : Text) (rest : List Text) (w : Walk) → IsPlainName t → IsPlainName l → IsPlainName c
    → WalksTo (shape (codes "plan") four) (three_walk t l c) rest w
    → WalksTo (shape (codes "plan") four) (walk_from nothing_held) (t ∷ l ∷ c ∷ rest) w
unfolding clap_on_literals
names_then t l c rest w p q r e =
    let s = shape (codes "plan") four in
    place_step s nothing_held (holding [] (codes "tour") t) 1 2 t (l ∷ c ∷ rest) w p refl refl
    (place_step s (holding [] (codes "tour") t) (holding (given (codes "tour") t ∷ []) (codes "log") l) 2 3 l (c ∷ rest) w q refl refl
    (place_step s (holding (given (codes "tour") t ∷ []) (codes "log") l) (three_walk t l c).held 3 4 c rest w r refl refl e))

pub plan_form : (t l c : Bytes) → IsPlainName t → IsPlainName l → IsPlainName c
    → IsCommandLine (codes "plan" ∷ t ∷ l ∷ c ∷ []) (Plan t l c BUDGET)
unfolding clap_on_literals
plan_form t l c p q r =
    let w = three_walk t l c in
    let e = names_then t l c [] w p q r (ends_here (shape (codes "plan") four) w) in
    let words = t ∷ l ∷ c ∷ [] in (
      (refl, taken_by (codes "plan") four words w e refl refl),
      word_by (codes "plan") four words w (codes "tour") t e refl,
      word_by (codes "plan") four words w (codes "log") l e refl,
      word_by (codes "plan") four words w (codes "cert") c e refl,
      (codes "200000", word_by (codes "plan") four words w (codes "budget") (codes "200000") e refl, usual_budget),
    )

-- the value after the option
value_then : (rows : List Row) (i : ℕ) (text : Text) (rest : List Text) (w : Walk) → IsPlainName text
    → WalksTo (shape (codes "plan") four) (walk_at (holding rows (codes "budget") text) idle i) rest w
    → WalksTo (shape (codes "plan") four) (walk_at (wanting rows) (option (codes "budget")) i) (text ∷ rest) w
unfolding clap_on_literals
value_then rows i text rest w plain e =
    let s = shape (codes "plan") four in
    let bare = plain_no_flag text plain in
    ends_after s (walk_at (wanting rows) (option (codes "budget")) i) (walk_at (holding rows (codes "budget") text) idle i) w text rest
    (turn_plain s (wanting rows) (option (codes "budget")) i text bare) (walked_plain s.rules (wanting rows) (option (codes "budget")) i text bare) e

pub budget_after : (t l c text : Bytes) (n : ℕ) → IsPlainName t → IsPlainName l → IsPlainName c → IsNumber text 1 MOST_LABELS n
    → IsCommandLine (codes "plan" ∷ t ∷ l ∷ c ∷ codes "--budget" ∷ text ∷ []) (Plan t l c n)
unfolding clap_on_literals
budget_after t l c text n p q r number =
    let s = shape (codes "plan") four in
    let w = walk_at (holding (three_names t l c) (codes "budget") text) idle 4 in
    let e = names_then t l c (codes "--budget" ∷ text ∷ []) w p q r
    (ends_after s (three_walk t l c) (walk_at (wanting (three_names t l c)) (option (codes "budget")) 4) w (codes "--budget") (text ∷ []) refl refl
    (value_then (three_names t l c) 4 text [] w (number_plain text 1 MOST_LABELS n number) (ends_here s w))) in
    let words = t ∷ l ∷ c ∷ codes "--budget" ∷ text ∷ [] in (
      (refl, taken_by (codes "plan") four words w e refl (ap (λ ks. or_else (or_else ks []) []) (number_passes text 1 MOST_LABELS n number))),
      word_by (codes "plan") four words w (codes "tour") t e refl,
      word_by (codes "plan") four words w (codes "log") l e refl,
      word_by (codes "plan") four words w (codes "cert") c e refl,
      (text, word_by (codes "plan") four words w (codes "budget") text e refl, number),
    )

abbrev before_walk : Text → Text → Text → Text → Walk
before_walk t l c text = walk_at (holding (given (codes "budget") text ∷ names t l) (codes "cert") c) idle 4

before_ends : (t l c text : Text) (n : ℕ) → IsPlainName t → IsPlainName l → IsPlainName c → IsNumber text 1 MOST_LABELS n
    → WalksTo (shape (codes "plan") four) (walk_from nothing_held) (codes "--budget" ∷ text ∷ t ∷ l ∷ c ∷ []) (before_walk t l c text)
unfolding clap_on_literals
before_ends t l c text n p q r number =
    let s = shape (codes "plan") four in
    let w = before_walk t l c text in
    let b = given (codes "budget") text in
    let one = holding (b ∷ []) (codes "tour") t in
    let two = holding (b ∷ given (codes "tour") t ∷ []) (codes "log") l in
    ends_after s (walk_from nothing_held) (walk_at (wanting []) (option (codes "budget")) 1) w (codes "--budget") (text ∷ t ∷ l ∷ c ∷ []) refl refl
    (value_then [] 1 text (t ∷ l ∷ c ∷ []) w (number_plain text 1 MOST_LABELS n number)
    (place_step s (holding [] (codes "budget") text) one 1 2 t (l ∷ c ∷ []) w p
    (ap (λ ks. or_else ks []) (number_passes text 1 MOST_LABELS n number)) refl
    (place_step s one two 2 3 l (c ∷ []) w q refl refl
    (place_step s two w.held 3 4 c [] w r refl refl (ends_here s w)))))

pub budget_before : (t l c text : Bytes) (n : ℕ) → IsPlainName t → IsPlainName l → IsPlainName c → IsNumber text 1 MOST_LABELS n
    → IsCommandLine (codes "plan" ∷ codes "--budget" ∷ text ∷ t ∷ l ∷ c ∷ []) (Plan t l c n)
unfolding clap_on_literals
budget_before t l c text n p q r number =
    let w = before_walk t l c text in
    let e = before_ends t l c text n p q r number in
    let words = codes "--budget" ∷ text ∷ t ∷ l ∷ c ∷ [] in (
      (refl, taken_by (codes "plan") four words w e refl refl),
      word_by (codes "plan") four words w (codes "tour") t e refl,
      word_by (codes "plan") four words w (codes "log") l e refl,
      word_by (codes "plan") four words w (codes "cert") c e refl,
      (text, word_by (codes "plan") four words w (codes "budget") text e refl, number),
    )

abbrev joined_walk : Text → Text → Text → Text → Walk
joined_walk t l c text =
    walk_at (record {
      rows = given (codes "tour") t ∷ given (codes "log") l ∷ given (codes "cert") c ∷ given (codes "budget") text ∷ [];
      pending = None;
      skip = 0;
    }) idle 4

pub budget_joined : (t l c text : Bytes) (n : ℕ) → IsPlainName t → IsPlainName l → IsPlainName c → IsNumber text 1 MOST_LABELS n
    → IsCommandLine (codes "plan" ∷ t ∷ l ∷ c ∷ (codes "--budget=" ++ text) ∷ []) (Plan t l c n)
unfolding clap_on_literals
budget_joined t l c text n p q r number =
    let s = shape (codes "plan") four in
    let w = joined_walk t l c text in
    let e = names_then t l c ((codes "--budget=" ++ text) ∷ []) w p q r
    (ends_after s (three_walk t l c) w w (codes "--budget=" ++ text) []
    (ap (λ ks. or_else (or_else ks []) []) (number_passes text 1 MOST_LABELS n number)) refl (ends_here s w)) in
    let words = t ∷ l ∷ c ∷ (codes "--budget=" ++ text) ∷ [] in (
      (refl, taken_by (codes "plan") four words w e refl refl),
      word_by (codes "plan") four words w (codes "tour") t e refl,
      word_by (codes "plan") four words w (codes "log") l e refl,
      word_by (codes "plan") four words w (codes "cert") c e refl,
      (text, word_by (codes "plan") four words w (codes "budget") text e refl, number),
    )

-- ---- a number and two names

abbrev made : List Rule
made = number_place (codes "number") MOST_MADE ∷ place (codes "tour") ∷ place (codes "log") ∷ []

abbrev made_walk : Text → Text → Text → Walk
made_walk text t l = walk_at (holding (given (codes "number") text ∷ given (codes "tour") t ∷ []) (codes "log") l) idle 4

made_ends : (text t l : Text) (n : ℕ) → IsNumber text 0 MOST_MADE n → IsPlainName t → IsPlainName l
    → WalksTo (shape (codes "make") made) (walk_from nothing_held) (text ∷ t ∷ l ∷ []) (made_walk text t l)
unfolding clap_on_literals
made_ends text t l n number p q =
    let s = shape (codes "make") made in
    let w = made_walk text t l in
    let one = holding [] (codes "number") text in
    let two = holding (given (codes "number") text ∷ []) (codes "tour") t in
    place_step s nothing_held one 1 2 text (t ∷ l ∷ []) w (number_plain text 0 MOST_MADE n number) refl refl
    (place_step s one two 2 3 t (l ∷ []) w p (ap (λ ks. or_else ks []) (number_passes text 0 MOST_MADE n number)) refl
    (place_step s two w.held 3 4 l [] w q refl refl (ends_here s w)))

pub make_form : (text t l : Bytes) (n : ℕ) → IsNumber text 0 MOST_MADE n → IsPlainName t → IsPlainName l
    → IsCommandLine (codes "make" ∷ text ∷ t ∷ l ∷ []) (Make n t l)
unfolding clap_on_literals
make_form text t l n number p q =
    let w = made_walk text t l in
    let e = made_ends text t l n number p q in
    let words = text ∷ t ∷ l ∷ [] in (
      (refl, taken_by (codes "make") made words w e refl refl),
      (text, word_by (codes "make") made words w (codes "number") text e refl, number),
      word_by (codes "make") made words w (codes "tour") t e refl,
      word_by (codes "make") made words w (codes "log") l e refl,
    )

-- ---- after two hyphens

pub plan_after : (t l c : Bytes) → IsCommandLine (codes "plan" ∷ codes "--" ∷ t ∷ l ∷ c ∷ []) (Plan t l c BUDGET)
unfolding clap_on_literals
plan_after t l c = ((refl, refl), refl, refl, refl, (codes "200000", refl, usual_budget))

pub check_after : (t l c : Bytes) → IsCommandLine (codes "check" ∷ codes "--" ∷ t ∷ l ∷ c ∷ []) (Check t l c)
unfolding clap_on_literals
check_after t l c = ((refl, refl), refl, refl, refl)

pub audit_after : (t l : Bytes) → IsCommandLine (codes "audit" ∷ codes "--" ∷ t ∷ l ∷ []) (Audit t l)
unfolding clap_on_literals
audit_after t l = ((refl, refl), refl, refl)

pub graph_after : (t l : Bytes) → IsCommandLine (codes "graph" ∷ codes "--" ∷ t ∷ l ∷ []) (Graph t l)
unfolding clap_on_literals
graph_after t l = ((refl, refl), refl, refl)

abbrev trailing_at : Held → ℕ → Walk
trailing_at h i = record { held = h; waiting = idle; position = i; is_trailing = true; stopped = None }

made_after : (text t l : Text) (n : ℕ) → IsNumber text 0 MOST_MADE n
    → WalksTo (shape (codes "make") made) (walk_from nothing_held) (codes "--" ∷ text ∷ t ∷ l ∷ []) (trailing_at (made_walk text t l).held 4)
unfolding clap_on_literals
made_after text t l n number =
    let s = shape (codes "make") made in
    let w = trailing_at (made_walk text t l).held 4 in
    let start = trailing_at nothing_held 1 in
    let one = trailing_at (holding [] (codes "number") text) 2 in
    let two = trailing_at (holding (given (codes "number") text ∷ []) (codes "tour") t) 3 in
    ends_after s (walk_from nothing_held) start w (codes "--") (text ∷ t ∷ l ∷ []) refl refl
    (ends_after s start one w text (t ∷ l ∷ []) refl refl
    (ends_after s one two w t (l ∷ []) (ap (λ ks. or_else ks []) (number_passes text 0 MOST_MADE n number)) refl
    (ends_after s two w w l [] refl refl (ends_here s w))))

pub make_after : (text t l : Bytes) (n : ℕ) → IsNumber text 0 MOST_MADE n
    → IsCommandLine (codes "make" ∷ codes "--" ∷ text ∷ t ∷ l ∷ []) (Make n t l)
unfolding clap_on_literals
make_after text t l n number =
    let w = trailing_at (made_walk text t l).held 4 in
    let e = made_after text t l n number in
    let words = codes "--" ∷ text ∷ t ∷ l ∷ [] in (
      (refl, taken_by (codes "make") made words w e refl refl),
      (text, word_by (codes "make") made words w (codes "number") text e refl, number),
      word_by (codes "make") made words w (codes "tour") t e refl,
      word_by (codes "make") made words w (codes "log") l e refl,
    )
