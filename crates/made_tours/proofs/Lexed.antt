-- The tokens of a made tour's text.
use Rattle.std.proofs.Common.{◌≡◌, ℕ, zero, suc, ◌+◌, ◌^◌, ◌<◌, ◌≤◌, true, List, [], ◌∷◌, ◌++◌, map, drop, codes, refl, sym, ap, ap₂, ◌∙◌, append_assoc, arith}
use Rattle.std.specs.Prelude.{flat_map}
use Rattle.std.specs.Fmt.{decimal}
use Rattle.std.specs.List.{range_with_len}
use Rattle.std.proofs.lemmas.Bool.{ne_eqb}
use Rattle.json.specs.Json.{Json, boolean, number, string, array, object, Items, no_items, item, no_members, member}
use Rattle.json.specs.Lex.{Lexeme, token, comma, colon, string_token, lex, between, in_string, fresh, after_value, punctuate, tokens}
use Rattle.json.specs.Print.{escape}
use Rattle.json.specs.Text.{content, plain}
use Rattle.json.specs.Token as token_of
use Rattle.json.specs.Token.{Token}
use Rattle.json.specs.Tree.{json_tokens, items_tokens}
use Rattle.json.specs.Word.{after_number}
use Rattle.json.proofs.OnLiterals.{json_on_literals}
use Rattle.json.proofs.Printed.Decimals.{IsNumber-decimal}
use Rattle.json.proofs.Printed.Numbers.{lex-number}
use Rattle.json.proofs.Printed.Strings.{content-escape, lex-escape}
use Rattle.report_text.specs.Made.{comma_before, stop_text, tour_head}
use Rattle.made_tours.specs.Drawn.{name_drawn}
use Rattle.made_tours.proofs.Names.{plain_name}

-- ---- the JSON of the text

-- an array of one span, from the start to the end of the windows
abbrev pub windows_json : Json
windows_json = array (item (array (item (string (codes "2026-03-02T06:00")) (item (string (codes "2026-03-15T06:00")) no_items))) no_items)

-- a stop of this name, driving and service
abbrev pub stop_json : List ℕ → ℕ → ℕ → Json
stop_json name drive service =
    object (member (codes "name") (string name) (member (codes "drive") (number (decimal drive)) (member (codes "service") (number (decimal service)) (member (codes "windows") windows_json no_members))))

-- n stops, the first of which has so many before it
abbrev pub stops_json : (ℕ → ℕ) → (ℕ → ℕ) → ℕ → ℕ → Items
stops_json drive service before zero = no_items
stops_json drive service before (suc n) = item (stop_json (name_drawn before) (drive before) (service before)) (stops_json drive service (before + 1) n)

-- a tour of these stops
abbrev pub tour_json : Items → Json
tour_json stops =
    object (member (codes "book") (string (codes "us")) (member (codes "grid") (number (codes "30")) (member (codes "start") (string (codes "2026-03-02T06:00")) (member (codes "berth") (boolean true)
    (member (codes "days") (number (codes "8")) (member (codes "day_start") (string (codes "00:00")) (member (codes "stops") (array stops) no_members)))))))

-- ---- one stop

-- what stands after the numbers of a stop
abbrev pub windows_text : List ℕ
windows_text = codes ",\"windows\":[[\"2026-03-02T06:00\",\"2026-03-15T06:00\"]]}"

abbrev windows_lexemes : List Lexeme → List Lexeme
windows_lexemes rest =
    comma ∷ token (token_of.string (codes "windows")) ∷ colon ∷ token token_of.begin_array ∷ token token_of.begin_array ∷ token (token_of.string (codes "2026-03-02T06:00")) ∷ comma
    ∷ token (token_of.string (codes "2026-03-15T06:00")) ∷ token token_of.end_array ∷ token token_of.end_array ∷ token token_of.end_object ∷ rest

lex-windows : (rest : List ℕ) → lex between (windows_text ++ rest) ≡ windows_lexemes (lex between rest)
unfolding json_on_literals
lex-windows rest = refl

-- a string of bytes that JSON writes as they are
lex-string : (s rest : List ℕ) → escape s ≡ s → lex between (34 ∷ (s ++ 34 ∷ rest)) ≡ token (token_of.string s) ∷ lex between rest
unfolding lex
lex-string s rest as_is =
    ap (λ (z : List ℕ). token (string_token (content plain (z ++ 34 ∷ rest))) ∷ lex in_string (z ++ 34 ∷ rest)) (sym as_is)
    ∙ ap₂ (λ o l. token (string_token o) ∷ l) (content-escape s rest) (lex-escape s rest)

abbrev service_lexemes : ℕ → List Lexeme → List Lexeme
service_lexemes service rest = comma ∷ token (token_of.string (codes "service")) ∷ colon ∷ token (token_of.number (decimal service)) ∷ windows_lexemes rest

lex-service : (service : ℕ) (rest : List ℕ) → service < 2 ^ 64 → lex between (codes ",\"service\":" ++ (decimal service ++ (windows_text ++ rest))) ≡ service_lexemes service (lex between rest)
unfolding lex content
lex-service service rest small =
    ap (λ l. comma ∷ token (token_of.string (codes "service")) ∷ colon ∷ l)
    (lex-number (decimal service) (windows_text ++ rest) (IsNumber-decimal service small) refl ∙ ap (λ l. token (token_of.number (decimal service)) ∷ l) (lex-windows rest))

abbrev drive_lexemes : ℕ → ℕ → List Lexeme → List Lexeme
drive_lexemes drive service rest = comma ∷ token (token_of.string (codes "drive")) ∷ colon ∷ token (token_of.number (decimal drive)) ∷ service_lexemes service rest

lex-drive : (drive service : ℕ) (rest : List ℕ) → drive < 2 ^ 64 → service < 2 ^ 64
    → lex between (codes ",\"drive\":" ++ (decimal drive ++ (codes ",\"service\":" ++ (decimal service ++ (windows_text ++ rest))))) ≡ drive_lexemes drive service (lex between rest)
unfolding lex content
lex-drive drive service rest small short =
    let more = codes ",\"service\":" ++ (decimal service ++ (windows_text ++ rest)) in
    ap (λ l. comma ∷ token (token_of.string (codes "drive")) ∷ colon ∷ l)
    (lex-number (decimal drive) more (IsNumber-decimal drive small) refl ∙ ap (λ l. token (token_of.number (decimal drive)) ∷ l) (lex-service service rest short))

-- a stop's text without the comma before it, and what comes after it
abbrev stop_then : (before drive service : ℕ) → List ℕ → List ℕ
stop_then before drive service rest =
    codes "{\"name\":\"S" ++ (decimal (before + 1) ++ (codes "\",\"drive\":" ++ (decimal drive ++ (codes ",\"service\":" ++ (decimal service ++ (windows_text ++ rest))))))

abbrev stop_lexemes : (before drive service : ℕ) → List Lexeme → List Lexeme
stop_lexemes before drive service rest =
    token token_of.begin_object ∷ token (token_of.string (codes "name")) ∷ colon ∷ token (token_of.string (name_drawn before)) ∷ drive_lexemes drive service rest

lex-stop : (before drive service : ℕ) (rest : List ℕ) → escape (name_drawn before) ≡ name_drawn before → drive < 2 ^ 64 → service < 2 ^ 64
    → lex between (stop_then before drive service rest) ≡ stop_lexemes before drive service (lex between rest)
unfolding lex content
lex-stop before drive service rest as_is small short =
    let more = codes ",\"drive\":" ++ (decimal drive ++ (codes ",\"service\":" ++ (decimal service ++ (windows_text ++ rest)))) in
    ap (λ l. token token_of.begin_object ∷ token (token_of.string (codes "name")) ∷ colon ∷ l)
    (lex-string (name_drawn before) more as_is ∙ ap (λ l. token (token_of.string (name_drawn before)) ∷ l) (lex-drive drive service rest small short))

regroup : (o a x b y c z d r : List ℕ) → (((((((o ++ a) ++ x) ++ b) ++ y) ++ c) ++ z) ++ d) ++ r ≡ o ++ (a ++ (x ++ (b ++ (y ++ (c ++ (z ++ (d ++ r)))))))
regroup o a x b y c z d r = simp append_assoc

stop_text_then : (before drive service : ℕ) (rest : List ℕ) → stop_text before drive service ++ rest ≡ comma_before before ++ stop_then before drive service rest
stop_text_then before drive service rest =
    regroup (comma_before before) (codes "{\"name\":\"S") (decimal (before + 1)) (codes "\",\"drive\":") (decimal drive) (codes ",\"service\":") (decimal service) windows_text rest

-- the tokens of a stop, after the bracket of the array and after another stop
first_stop_tokens : (before drive service : ℕ) (ls : List Lexeme) → punctuate fresh (stop_lexemes before drive service ls) ≡ json_tokens (stop_json (name_drawn before) drive service) ++ punctuate after_value ls
unfolding punctuate
first_stop_tokens before drive service ls = refl

later_stop_tokens : (before drive service : ℕ) (ls : List Lexeme) → punctuate after_value (comma ∷ stop_lexemes before drive service ls) ≡ json_tokens (stop_json (name_drawn before) drive service) ++ punctuate after_value ls
unfolding punctuate
later_stop_tokens before drive service ls = refl

-- ---- the stops

-- what stands after the stops
abbrev pub tour_end : List ℕ
tour_end = codes "]}\n"

abbrev pub stops_text : (ℕ → ℕ) → (ℕ → ℕ) → ℕ → ℕ → List ℕ
stops_text drive service before n = flat_map (λ (stop : List ℕ). stop) (map (λ (k : ℕ). stop_text k (drive k) (service k)) (range_with_len before n))

-- numbers that are drawn
pub record AreDrawn (drive service : ℕ → ℕ) : Type 0 where
  pub drive_most : (k : ℕ) → drive k ≤ 240
  pub service_least : (k : ℕ) → 30 ≤ service k
  pub service_most : (k : ℕ) → service k ≤ 90

later_comma : (before : ℕ) → 0 < before → comma_before before ≡ codes ","
later_comma before some = rw (ne_eqb before 0 (λ e. omega arith)) refl

-- one stop, and those after it
stop_and_others : (drive service : ℕ → ℕ) → AreDrawn drive service → (n before : ℕ) → before < 20
    → lex between (stops_text drive service before (suc n) ++ tour_end) ≡ lex between (comma_before before ++ stop_then before (drive before) (service before) (stops_text drive service (before + 1) n ++ tour_end))
stop_and_others drive service drawn n before few =
    ap (lex between)
    (append_assoc (stop_text before (drive before) (service before)) (stops_text drive service (before + 1) n) tour_end
    ∙ stop_text_then before (drive before) (service before) (stops_text drive service (before + 1) n ++ tour_end))

stop_lexed : (drive service : ℕ → ℕ) → AreDrawn drive service → (before : ℕ) (rest : List ℕ) → before < 20
    → lex between (stop_then before (drive before) (service before) rest) ≡ stop_lexemes before (drive before) (service before) (lex between rest)
stop_lexed drive service drawn before rest few =
    lex-stop before (drive before) (service before) rest (plain_name before few).plain (omega (arith, drawn.drive_most before)) (omega (arith, drawn.service_most before))

after_comma_lexed : (text : List ℕ) → lex between (codes "," ++ text) ≡ comma ∷ lex between text
unfolding lex
after_comma_lexed text = refl

end_tokens : punctuate after_value (lex between tour_end) ≡ token_of.end_array ∷ token_of.end_object ∷ []
unfolding lex punctuate
end_tokens = refl

later_stops : (drive service : ℕ → ℕ) → AreDrawn drive service → (n before : ℕ) → 0 < before → before + n ≤ 20
    → punctuate after_value (lex between (stops_text drive service before n ++ tour_end)) ≡ items_tokens (stops_json drive service before n) ++ token_of.end_object ∷ []
later_stops drive service drawn zero before some few = end_tokens
later_stops drive service drawn (suc n) before some few =
    let stop = json_tokens (stop_json (name_drawn before) (drive before) (service before)) in
    let rest = stops_text drive service (before + 1) n ++ tour_end in
    let body = stop_then before (drive before) (service before) rest in
    ap (punctuate after_value)
    (stop_and_others drive service drawn n before (omega arith)
    ∙ ap (λ (z : List ℕ). lex between (z ++ body)) (later_comma before some)
    ∙ after_comma_lexed body
    ∙ ap (λ l. comma ∷ l) (stop_lexed drive service drawn before rest (omega arith)))
    ∙ later_stop_tokens before (drive before) (service before) (lex between rest)
    ∙ ap (λ ts. stop ++ ts) (later_stops drive service drawn n (before + 1) (omega arith) (omega arith))
    ∙ sym (append_assoc stop (items_tokens (stops_json drive service (before + 1) n)) (token_of.end_object ∷ []))

all_stops : (drive service : ℕ → ℕ) → AreDrawn drive service → (n : ℕ) → n < 20
    → punctuate fresh (lex between (stops_text drive service 0 (suc n) ++ tour_end)) ≡ items_tokens (stops_json drive service 0 (suc n)) ++ token_of.end_object ∷ []
all_stops drive service drawn n few =
    let stop = json_tokens (stop_json (name_drawn 0) (drive 0) (service 0)) in
    let rest = stops_text drive service 1 n ++ tour_end in
    ap (punctuate fresh)
    (stop_and_others drive service drawn n 0 (omega arith)
    ∙ stop_lexed drive service drawn 0 rest (omega arith))
    ∙ first_stop_tokens 0 (drive 0) (service 0) (lex between rest)
    ∙ ap (λ ts. stop ++ ts) (later_stops drive service drawn n 1 (omega arith) (omega arith))
    ∙ sym (append_assoc stop (items_tokens (stops_json drive service 1 n)) (token_of.end_object ∷ []))

-- ---- the tour

-- what stands before the stops, and the numbers in it
abbrev grid_text : List ℕ
grid_text = codes "{\"book\":\"us\",\"grid\":"

abbrev start_text : List ℕ
start_text = codes ",\"start\":\"2026-03-02T06:00\",\"berth\":true,\"days\":"

abbrev days_text : List ℕ
days_text = codes ",\"day_start\":\"00:00\",\"stops\":["

abbrev days_lexemes : List Lexeme → List Lexeme
days_lexemes rest =
    token (token_of.number (codes "8")) ∷ comma ∷ token (token_of.string (codes "day_start")) ∷ colon ∷ token (token_of.string (codes "00:00")) ∷ comma ∷ token (token_of.string (codes "stops")) ∷ colon ∷ token token_of.begin_array ∷ rest

lex-days : (rest : List ℕ) → lex between (days_text ++ rest) ≡ drop 1 (days_lexemes (lex between rest))
unfolding json_on_literals
lex-days rest = refl

lex-eight : (rest : List ℕ) → lex between (codes "8" ++ (days_text ++ rest)) ≡ days_lexemes (lex between rest)
unfolding after_number
lex-eight rest = lex-number (codes "8") (days_text ++ rest) refl refl ∙ ap (λ l. token (token_of.number (codes "8")) ∷ l) (lex-days rest)

abbrev start_lexemes : List Lexeme → List Lexeme
start_lexemes rest =
    token (token_of.number (codes "30")) ∷ comma ∷ token (token_of.string (codes "start")) ∷ colon ∷ token (token_of.string (codes "2026-03-02T06:00")) ∷ comma ∷ token (token_of.string (codes "berth")) ∷ colon ∷ token (token_of.boolean true)
    ∷ comma ∷ token (token_of.string (codes "days")) ∷ colon ∷ rest

lex-start : (rest : List ℕ) → lex between (start_text ++ rest) ≡ drop 1 (start_lexemes (lex between rest))
unfolding json_on_literals
lex-start rest = refl

lex-thirty : (rest : List ℕ) → lex between (codes "30" ++ (start_text ++ rest)) ≡ start_lexemes (lex between rest)
unfolding after_number
lex-thirty rest = lex-number (codes "30") (start_text ++ rest) refl refl ∙ ap (λ l. token (token_of.number (codes "30")) ∷ l) (lex-start rest)

abbrev head_lexemes : List Lexeme → List Lexeme
head_lexemes rest = token token_of.begin_object ∷ token (token_of.string (codes "book")) ∷ colon ∷ token (token_of.string (codes "us")) ∷ comma ∷ token (token_of.string (codes "grid")) ∷ colon ∷ rest

lex-grid : (rest : List ℕ) → lex between (grid_text ++ rest) ≡ head_lexemes (lex between rest)
unfolding json_on_literals
lex-grid rest = refl

lex-head : (rest : List ℕ) → lex between (tour_head ++ rest) ≡ head_lexemes (start_lexemes (days_lexemes (lex between rest)))
lex-head rest =
    lex-grid (codes "30" ++ (start_text ++ (codes "8" ++ (days_text ++ rest))))
    ∙ ap head_lexemes (lex-thirty (codes "8" ++ (days_text ++ rest)) ∙ ap start_lexemes (lex-eight rest))

-- the tokens of what stands before the stops, and after it
head_tokens : (ls : List Lexeme) (js : Items) → punctuate fresh ls ≡ items_tokens js ++ token_of.end_object ∷ [] → punctuate fresh (head_lexemes (start_lexemes (days_lexemes ls))) ≡ json_tokens (tour_json js)
unfolding punctuate
head_tokens ls js stops =
    ap (λ ts. token_of.begin_object ∷ token_of.key (codes "book") ∷ token_of.string (codes "us") ∷ token_of.key (codes "grid") ∷ token_of.number (codes "30") ∷ token_of.key (codes "start") ∷ token_of.string (codes "2026-03-02T06:00")
    ∷ token_of.key (codes "berth") ∷ token_of.boolean true ∷ token_of.key (codes "days") ∷ token_of.number (codes "8") ∷ token_of.key (codes "day_start") ∷ token_of.string (codes "00:00") ∷ token_of.key (codes "stops") ∷ token_of.begin_array ∷ ts) stops

-- the tokens of a tour's text are those of its JSON
pub text_tokens : (drive service : ℕ → ℕ) → AreDrawn drive service → (n : ℕ) → n < 20
    → tokens ((tour_head ++ stops_text drive service 0 (suc n)) ++ tour_end) ≡ json_tokens (tour_json (stops_json drive service 0 (suc n)))
text_tokens drive service drawn n few =
    let stops = stops_text drive service 0 (suc n) in
    ap tokens (append_assoc tour_head stops tour_end)
    ∙ ap (punctuate fresh) (lex-head (stops ++ tour_end))
    ∙ head_tokens (lex between (stops ++ tour_end)) (stops_json drive service 0 (suc n)) (all_stops drive service drawn n few)
