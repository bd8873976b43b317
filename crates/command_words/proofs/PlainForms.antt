-- The walk of the parser over words of the plain forms.
use Rattle.std.proofs.Common.{◌≡◌, ◌∙◌, ◌∷◌, ap, ℕ, List, [], Bool, false, Some, None, refl, sym, subst, inl, inr, is_some}
use Rattle.std.specs.Prelude.{fold, if◌then◌else◌}
use Rattle.std.specs.Str.{bytes_eq}
use Rattle.std.proofs.lemmas.Bool.{ne_eqb}
use Rattle.clap.specs.Kinds.{Kinds, or_else}
use Rattle.clap.specs.Lexer.{long_of, short_of}
use Rattle.clap.specs.Walk.{Held, Rule, Step, Text, Walk, Waiting, idle, option, positional, trailing, value, walk, walk_from, walked, word_met, after_step, first_of, finished, nothing_held, settled, plain_word, long_or_other, short_or_plain}
use Rattle.clap.specs.Simple.{App, Shape, built, entered}
use Rattle.clap.specs.Faults.{built_fault, check_fault, defaults_fault, entered_fault, fault_of, flag_word_fault, level_fault, settle_fault, step_fault, turn_fault, walk_fault, word_fault}
use Rattle.command_words.specs.Calls.{call}
use Rattle.command_words.specs.Command.{HasWord}
use Rattle.command_words.specs.Names.{IsPlainName}

-- ---- one word

-- the word is neither `--` nor a flag
abbrev pub IsNoFlag : Text → Type 0
IsNoFlag t = (bytes_eq t (45 ∷ 45 ∷ []) ≡ false) × (long_of t ≡ None) × (short_of t ≡ None)

pub plain_no_flag : (t : Text) → IsPlainName t → IsNoFlag t
plain_no_flag [] plain = (refl, refl, refl)
plain_no_flag (x ∷ xs) (inl other) = let e = ne_eqb x 45 other in (rw e refl, rw e refl, rw e refl)
plain_no_flag (x ∷ xs) (inr hyphen) = subst IsNoFlag (sym hyphen) (refl, refl, refl)

met_by : (c : List Rule) (waiting : Waiting) (i : ℕ) (t : Text) (h : Held) → IsNoFlag t
    → (if bytes_eq t (45 ∷ 45 ∷ []) then (h, trailing i) else long_or_other c waiting t (long_of t) h) ≡ plain_word c waiting t h
met_by c waiting i t h bare =
    let P : Bool → Held × Step = λ b. if b then (h, trailing i) else long_or_other c waiting t (long_of t) h in
    ap P bare.0 ∙ (ap (λ l. long_or_other c waiting t l h) bare.1 ∙ ap (λ s. short_or_plain c waiting t s h) bare.2)

met_plain : (c : List Rule) (waiting : Waiting) (i : ℕ) (t : Text) (h : Held) → IsNoFlag t
    → word_met c [] false waiting i t h ≡ plain_word c waiting t h
met_plain c idle i t h bare = met_by c idle i t h bare
met_plain c (option id) i t h bare = met_by c (option id) i t h bare
met_plain c positional i t h bare = met_by c positional i t h bare

fault_by : (s : Shape) (t : Text) (h : Held) → IsNoFlag t
    → (if bytes_eq t (45 ∷ 45 ∷ []) then [] else flag_word_fault s.rules s.args_override_self (long_of t) t h) ≡ []
fault_by s t h bare =
    let P : Bool → Kinds = λ b. if b then [] else flag_word_fault s.rules s.args_override_self (long_of t) t h in
    ap P bare.0 ∙ (ap (λ l. flag_word_fault s.rules s.args_override_self l t h) bare.1 ∙ rw bare.2 refl)

fault_plain : (s : Shape) (waiting : Waiting) (t : Text) (h : Held) → IsNoFlag t → word_fault s [] false waiting t h ≡ []
fault_plain s idle t h bare = fault_by s t h bare
fault_plain s (option id) t h bare = fault_by s t h bare
fault_plain s positional t h bare = fault_by s t h bare

-- the walk before a word, where this waits
abbrev pub walk_at : Held → Waiting → ℕ → Walk
walk_at h waiting i = record { held = h; waiting = waiting; position = i; is_trailing = false; stopped = None }

pub walked_plain : (c : List Rule) (h : Held) (waiting : Waiting) (i : ℕ) (t : Text) → IsNoFlag t
    → walked c [] (walk_at h waiting i) t
    ≡ after_step c t (walk_at h waiting i) (plain_word c waiting t h).0 (plain_word c waiting t h).1
unfolding walked
walked_plain c h waiting i t bare = ap (λ (met : Held × Step). after_step c t (walk_at h waiting i) met.0 met.1) (met_plain c waiting i t h bare)

pub turn_plain : (s : Shape) (h : Held) (waiting : Waiting) (i : ℕ) (t : Text) → IsNoFlag t
    → turn_fault s [] (walk_at h waiting i) t ≡ step_fault s i (plain_word s.rules waiting t h).0 (plain_word s.rules waiting t h).1
turn_plain s h waiting i t bare =
    let met = word_met s.rules [] false waiting i t h in
    ap (λ ks. or_else ks (step_fault s i met.0 met.1)) (fault_plain s waiting t h bare)
    ∙ ap (λ (m : Held × Step). step_fault s i m.0 m.1) (met_plain s.rules waiting i t h bare)

-- ---- many words

-- a walk over the words ends at this one, with no fault
abbrev pub WalksTo : Shape → Walk → List Text → Walk → Type 0
WalksTo s w words w' = (fold (walked s.rules []) w words ≡ w') × (walk_fault s [] w words ≡ [])

pub ends_here : (s : Shape) (w : Walk) → WalksTo s w [] w
unfolding walk_fault
ends_here s w = (refl, refl)

pub ends_after : (s : Shape) (w after w' : Walk) (t : Text) (rest : List Text) → turn_fault s [] w t ≡ [] → walked s.rules [] w t ≡ after
    → WalksTo s after rest w' → WalksTo s w (t ∷ rest) w'
unfolding walk_fault
ends_after s w after w' t rest none step e = (
  ap (λ z. fold (walked s.rules []) z rest) step ∙ e.0,
  ap (λ ks. or_else ks (walk_fault s [] (walked s.rules [] w t) rest)) none ∙ (ap (λ z. walk_fault s [] z rest) step ∙ e.1),
)

-- the faults after the walk
abbrev pub end_fault : Shape → Walk → Kinds
end_fault s w = or_else (settle_fault s.rules s.args_override_self w.held)
    (or_else (defaults_fault (settled s.rules w.held).rows s.rules) (check_fault s (finished s.rules w.held) false))

abbrev pub shape : Text → List Rule → Shape
shape name rules = (built (call name rules)).top

level_by : (s : Shape) (words : List Text) (w : Walk) → WalksTo s (walk_from nothing_held) words w → end_fault s w ≡ []
    → level_fault s [] nothing_held words false [] ≡ []
level_by s words w e none =
    ap (λ ks. or_else ks (end_fault s (walk s.rules [] nothing_held words))) e.1 ∙ (ap (end_fault s) e.0 ∙ none)

app_by : (s : Shape) (words : List Text) (w : Walk) → WalksTo s (walk_from nothing_held) words w → w.stopped ≡ None → end_fault s w ≡ []
    → built_fault (record { top = s; subs = [] }) nothing_held words ≡ []
app_by s words w e stop none =
    let a : App = record { top = s; subs = [] } in
    let ended : (walk s.rules [] nothing_held words).stopped ≡ None = ap (λ (z : Walk). z.stopped) e.0 ∙ stop in
    ap (λ st. level_fault s [] nothing_held words (is_some (entered a st)) (entered_fault a st)) ended ∙ level_by s words w e none

pub taken_by : (name : Text) (rules : List Rule) (words : List Text) (w : Walk) → WalksTo (shape name rules) (walk_from nothing_held) words w
    → w.stopped ≡ None → end_fault (shape name rules) w ≡ [] → fault_of (call name rules) (name ∷ words) ≡ []
taken_by name rules words w e stop none = app_by (shape name rules) words w e stop none

pub word_by : (name : Text) (rules : List Rule) (words : List Text) (w : Walk) (id word : Text) → WalksTo (shape name rules) (walk_from nothing_held) words w
    → first_of id (finished (shape name rules).rules w.held) ≡ Some word → HasWord (call name rules) (name ∷ words) id word
word_by name rules words w id word e found = ap (λ (z : Walk). first_of id (finished (shape name rules).rules z.held)) e.0 ∙ found

-- a plain word that goes to a positional
pub place_step : (s : Shape) (h h' : Held) (i i' : ℕ) (t : Text) (rest : List Text) (w : Walk) → IsPlainName t → step_fault s i h value ≡ []
    → after_step s.rules t (walk_at h idle i) h value ≡ walk_at h' idle i' → WalksTo s (walk_at h' idle i') rest w
    → WalksTo s (walk_at h idle i) (t ∷ rest) w
place_step s h h' i i' t rest w plain none step e =
    let bare = plain_no_flag t plain in
    ends_after s (walk_at h idle i) (walk_at h' idle i') w t rest (turn_plain s h idle i t bare ∙ none) (walked_plain s.rules h idle i t bare ∙ step) e
