-- From what a parse gives to a command.
use Rattle.std.proofs.Common.{◌≡◌, ◌∙◌, ◌≤◌, ◌^◌, ◌-◌, ℕ, List, [], Some, codes, false, true, is_some, inl, inr, refl, ap, sym, subst, arith}
use Rattle.std.specs.Prelude.{Option, None, Result, Ok, Err, IfOk, IfNone, IfSome, MatchOption, slice_get, slice_index}
use Rattle.std.specs.Str.Parse.{digits_value, without_leading_plus}
use Rattle.clap.specs.Walk.{Text, first_of, rows_of}
use Rattle.clap.specs.Values.{IsUnsignedIn}
use Rattle.clap.specs.Simple.{App, app_of, matches_of}
use Rattle.clap.specs.Built.{IsParsedFrom}
use Rattle.clap.specs.Faults.{fault_of}
use Rattle.clap.specs.Matches.{first_value, found_of, one_text}
use Rattle.clap.specs.declared.builder.command.Command.{Command}
use Rattle.clap.specs.declared.builder.value_parser.ValueParser.TheVariants.{Unsigned}
use Rattle.clap.specs.declared.parser.matches.ArgMatches.{ArgMatches}
use Rattle.clap.proofs.WalkLemmas.{first_value-rows}
use Rattle.outside.specs.Outside.{Bytes}
use Rattle.cert_text.specs.declared.text.limits.TheConstants.{MOST_LABELS}
use Rattle.report_text.specs.declared.maker.TheConstants.{MOST_MADE}
use Rattle.command_words.specs.declared.command.Command as planner
use Rattle.command_words.specs.declared.command.Command.TheVariants.{Plan, Check, Audit, Graph, Make}
use Rattle.command_words.specs.Calls.{place, number_place, budget_option, plan_call, check_call, audit_call, graph_call, make_call}
use Rattle.command_words.specs.Command.{Takes, HasWord, HasNumber, IsCommandLine, IsNoCommandLine, AreRefused, HasBudget}
use Rattle.command_words.proofs.Known.{FirstValue, is_known, value_given, value_read}

pub words_taken : (c : Command) (a : App) (words : List Bytes) → app_of c ≡ a → slice_get words 0 ≡ Some a.top.name
    → fault_of (app_of c) words ≡ [] → Takes a words
words_taken c a words e name faults = (name, subst (λ (x : App). fault_of x words ≡ []) e faults)

pub words_refused : (c : Command) (a : App) (words : List Bytes) → app_of c ≡ a
    → (fault_of (app_of c) words ≡ [] → ⊥) → Takes a words → ⊥
words_refused c a words e faults taken = faults (subst (λ (x : App). fault_of x words ≡ []) (sym e) taken.1)

pub word_found : (c : Command) (a : App) (m : ArgMatches) (words : List Bytes) (id : Text) (w : Bytes) → app_of c ≡ a
    → rows_of (found_of m) ≡ matches_of (app_of c) words → first_value (found_of m) id ≡ Some w → HasWord a words id w
word_found c a m words id w e rows value =
    let here : first_of id (matches_of (app_of c) words) ≡ Some w =
    subst (λ rs. first_of id rs ≡ Some w) rows (sym (first_value-rows (found_of m) id) ∙ value) in
    subst (λ (x : App). first_of id (matches_of x words) ≡ Some w) e here

pub number_found : (c : Command) (a : App) (m : ArgMatches) (words : List Bytes) (id : Text) (least most n : ℕ) → app_of c ≡ a
    → rows_of (found_of m) ≡ matches_of (app_of c) words → FirstValue (found_of m) id false (Unsigned least most)
    → ((text : List ℕ) → one_text (found_of m) id ≡ Some text → n ≡ digits_value 10 (without_leading_plus text))
    → HasNumber a words id least most n
number_found c a m words id least most n e rows value is =
    (value.text, word_found c a m words id value.text e rows value.written, (value.passed, is value.text value.read))

-- such a number can be read as a `u32`
pub number_fits : (m : ArgMatches) (id : Text) (least most : ℕ) → most ≤ 2 ^ 32 - 1 → FirstValue (found_of m) id false (Unsigned least most)
    → (text : List ℕ) × (one_text (found_of m) id ≡ Some text) × IsUnsignedIn 0 (2 ^ 32 - 1) text
number_fits m id least most fits value =
    let passed : IsUnsignedIn least most value.text = value.passed in
    let high = passed.3 in
    (value.text, value.read, (passed.0, passed.1, omega arith, omega arith))

-- ---- the arguments of the commands

-- an argument that has to be there has a word
pub name_given : (c : Command) (a : App) (m : ArgMatches) → app_of c ≡ a → is_known a ≡ true → IsParsedFrom c m
    → (k : ℕ) (id : Text) → slice_get a.top.rules k ≡ Some (place id) → is_some (first_value (found_of m) id) ≡ true
name_given c a m e known p k id at = value_given c a m e known p k (place id) at (refl, refl, inl refl)

-- the number of a made tour has a value that passed
pub made_number_given : (c : Command) (m : ArgMatches) → app_of c ≡ make_call → IsParsedFrom c m
    → FirstValue (found_of m) (codes "number") false (Unsigned 0 MOST_MADE)
made_number_given c m e p =
    value_read c make_call m e refl p 0 (number_place (codes "number") MOST_MADE) refl (refl, refl, inl refl) (Unsigned 0 MOST_MADE) refl

-- so has the budget
pub budget_given : (c : Command) (m : ArgMatches) → app_of c ≡ plan_call → IsParsedFrom c m
    → FirstValue (found_of m) (codes "budget") false (Unsigned 1 MOST_LABELS)
budget_given c m e p =
    value_read c plan_call m e refl p 3 budget_option refl (refl, refl, inr (omega arith)) (Unsigned 1 MOST_LABELS) refl

-- where the command takes the words, the names of a tour and a log are those that were found
pub names_found : (c : Command) (a : App) (m : ArgMatches) (words : List Bytes) (tour log : Bytes) → app_of c ≡ a
    → slice_get words 0 ≡ Some a.top.name → fault_of (app_of c) words ≡ [] → rows_of (found_of m) ≡ matches_of (app_of c) words
    → first_value (found_of m) (codes "tour") ≡ Some tour → first_value (found_of m) (codes "log") ≡ Some log
    → Takes a words × HasWord a words (codes "tour") tour × HasWord a words (codes "log") log
names_found c a m words tour log e name faults rows t l = (
  words_taken c a words e name faults,
  word_found c a m words (codes "tour") tour e rows t,
  word_found c a m words (codes "log") log e rows l,
)

-- and so is that of a certificate
pub three_names_found : (c : Command) (a : App) (m : ArgMatches) (words : List Bytes) (tour log cert : Bytes) → app_of c ≡ a
    → slice_get words 0 ≡ Some a.top.name → fault_of (app_of c) words ≡ [] → rows_of (found_of m) ≡ matches_of (app_of c) words
    → first_value (found_of m) (codes "tour") ≡ Some tour → first_value (found_of m) (codes "log") ≡ Some log
    → first_value (found_of m) (codes "cert") ≡ Some cert
    → Takes a words × HasWord a words (codes "tour") tour × HasWord a words (codes "log") log × HasWord a words (codes "cert") cert
three_names_found c a m words tour log cert e name faults rows t l k =
    let names = names_found c a m words tour log e name faults rows t l in
    (names.0, names.1, names.2, word_found c a m words (codes "cert") cert e rows k)

-- ---- words that are no command

-- where no command takes the words, they are no command
pub refused_is_none : (words : List Bytes) → AreRefused words → IsNoCommandLine words
refused_is_none words none (Plan tour log cert budget) s = none 0 plan_call (omega arith) s.0
refused_is_none words none (Check tour log cert) s = none 1 plan_call (omega arith) s.0
refused_is_none words none (Audit tour log) s = none 2 plan_call (omega arith) s.0
refused_is_none words none (Graph tour log) s = none 3 plan_call (omega arith) s.0
refused_is_none words none (Make number tour log) s = none 4 plan_call (omega arith) s.0

-- so of what is read
pub read_of : {E : Type 0} (words : List Bytes) (r : Result (Option planner.Command) E)
    → IfOk r (λ read. MatchOption read (AreRefused words) (IsCommandLine words))
    → IfOk r (λ read. MatchOption read (IsNoCommandLine words) (IsCommandLine words))
read_of words (Ok (Some command)) h = h
read_of words (Ok None) h = refused_is_none words h
read_of words (Err e) h = h

pub refused_of : {E : Type 0} (words : List Bytes) (r : Result (Option planner.Command) E)
    → IfOk r (λ read. MatchOption read (AreRefused words) (IsCommandLine words))
    → IfOk r (λ read. IfNone read (AreRefused words))
refused_of words (Ok (Some command)) h = tt
refused_of words (Ok None) h = h
refused_of words (Err e) h = h

number_in : (call : App) (words : List Bytes) (id : Text) (least most n : ℕ) → HasNumber call words id least most n → (least ≤ n) × (n ≤ most)
number_in call words id least most n h =
    let low = h.2.0.2 in
    let high = h.2.0.3 in
    let is = h.2.1 in
    (omega arith, omega arith)

-- the numbers of a command line are such as may be given
pub command_line_budget : (words : List Bytes) (c : planner.Command) → IsCommandLine words c → HasBudget c
command_line_budget words (Plan tour log cert budget) s = number_in plan_call words (codes "budget") 1 MOST_LABELS budget s.4
command_line_budget words (Check tour log cert) s = tt
command_line_budget words (Audit tour log) s = tt
command_line_budget words (Graph tour log) s = tt
command_line_budget words (Make number tour log) s = (number_in make_call words (codes "number") 0 MOST_MADE number s.1).1

pub budget_of : {E : Type 0} (words : List Bytes) (r : Result (Option planner.Command) E)
    → IfOk r (λ read. MatchOption read (AreRefused words) (IsCommandLine words))
    → IfOk r (λ read. IfSome read HasBudget)
budget_of words (Ok (Some command)) h = command_line_budget words command h
budget_of words (Ok None) h = tt
budget_of words (Err e) h = h

-- ---- one command

abbrev name_of : planner.Command → Text
name_of (Plan tour log cert budget) = codes "plan"
name_of (Check tour log cert) = codes "check"
name_of (Audit tour log) = codes "audit"
name_of (Graph tour log) = codes "graph"
name_of (Make number tour log) = codes "make"

first_word : (words : List Bytes) (c : planner.Command) → IsCommandLine words c → slice_get words 0 ≡ Some (name_of c)
first_word words (Plan tour log cert budget) s = s.0.0
first_word words (Check tour log cert) s = s.0.0
first_word words (Audit tour log) s = s.0.0
first_word words (Graph tour log) s = s.0.0
first_word words (Make number tour log) s = s.0.0

abbrev first_letter : Option Text → ℕ
first_letter None = 0
first_letter (Some name) = slice_index name 0

letters : (words : List Bytes) (c d : planner.Command) → IsCommandLine words c → IsCommandLine words d
    → first_letter (Some (name_of c)) ≡ first_letter (Some (name_of d))
letters words c d p q = ap first_letter (sym (first_word words c p) ∙ first_word words d q)

same_word : (call : App) (words : List Bytes) (id : Text) (a b : Bytes) → HasWord call words id a → HasWord call words id b → a ≡ b
same_word call words id a b p q = let both : Some a ≡ Some b = sym p ∙ q in cc

same_number : (call : App) (words : List Bytes) (id : Text) (least most a b : ℕ) → HasNumber call words id least most a
    → HasNumber call words id least most b → a ≡ b
same_number call words id least most a b p q =
    let text : p.0 ≡ q.0 = same_word call words id p.0 q.0 p.1 q.1 in
    p.2.1 ∙ ap (λ t. digits_value 10 (without_leading_plus t)) text ∙ sym q.2.1

-- the words ask for one command at most
pub one_command : (words : List Bytes) (c d : planner.Command) → IsCommandLine words c → IsCommandLine words d → c ≡ d
one_command words (Plan tour log cert budget) (Plan tour' log' cert' budget') p q =
    let t = same_word plan_call words (codes "tour") tour tour' p.1 q.1 in
    let l = same_word plan_call words (codes "log") log log' p.2 q.2 in
    let c = same_word plan_call words (codes "cert") cert cert' p.3 q.3 in
    let n = same_number plan_call words (codes "budget") 1 MOST_LABELS budget budget' p.4 q.4 in
    rw (t, l, c, n) refl
one_command words (Check tour log cert) (Check tour' log' cert') p q =
    let t = same_word check_call words (codes "tour") tour tour' p.1 q.1 in
    let l = same_word check_call words (codes "log") log log' p.2 q.2 in
    let c = same_word check_call words (codes "cert") cert cert' p.3 q.3 in
    rw (t, l, c) refl
one_command words (Audit tour log) (Audit tour' log') p q =
    let t = same_word audit_call words (codes "tour") tour tour' p.1 q.1 in
    let l = same_word audit_call words (codes "log") log log' p.2 q.2 in
    rw (t, l) refl
one_command words (Graph tour log) (Graph tour' log') p q =
    let t = same_word graph_call words (codes "tour") tour tour' p.1 q.1 in
    let l = same_word graph_call words (codes "log") log log' p.2 q.2 in
    rw (t, l) refl
one_command words (Make number tour log) (Make number' tour' log') p q =
    let n = same_number make_call words (codes "number") 0 MOST_MADE number number' p.1 q.1 in
    let t = same_word make_call words (codes "tour") tour tour' p.2 q.2 in
    let l = same_word make_call words (codes "log") log log' p.3 q.3 in
    rw (n, t, l) refl
one_command words c d p q = let e = letters words c d p q in absurd (omega arith)
