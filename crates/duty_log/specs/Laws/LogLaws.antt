-- The bytes of a log read as one answer.
use Rattle.std.proofs.Common.{◌≡◌, ℕ, ◌+◌, List, [], ◌∷◌, Option, Some, None, Result, Ok, Err, refl, sym, ap, ◌∙◌, arith, inl, inr}
use Rattle.std.specs.Prelude.{◌≢◌, IfOk, IfErr, MatchResult}
use Rattle.csv.specs.Reading.{default_config, records, strip_bom}
use Rattle.civil_minutes.proofs.TimeTexts.{one_minute}
use Rattle.duty_core.specs.declared.activity.Activity.{Activity}
use Rattle.duty_core.specs.declared.params.Params.{Params}
use Rattle.duty_log.specs.declared.fault.LogFault.{LogFault}
use Rattle.duty_log.specs.declared.fault.LogFault.TheVariants.{Memory}
use Rattle.duty_log.specs.declared.row.Row.{Row}
use Rattle.duty_log.specs.declared.row.Span.{Span}
use Rattle.duty_log.specs.Log.{at_start, thereafter, Answers, IsTimeOf, Place, ReadsFields, ReadsLog, ReadsRecords, ReadsRow, ReadsRows}

-- a text is of one time at most
one_time : (text : List ℕ) (a b : Option ℕ) → IsTimeOf text a → IsTimeOf text b → a ≡ b
one_time text None None h k = refl
one_time text None (Some b) h k = absurd (h b k)
one_time text (Some a) None h k = absurd (k a h)
one_time text (Some a) (Some b) h k = ap Some (one_minute text a b h k)

one_fields : (params : Params) (number : ℕ) (before : Option Span) (from to status : List ℕ) (a b : Result Row LogFault) → ReadsFields params number before from to status a → ReadsFields params number before from to status b → a ≡ b
one_fields params number before from to status a b h k =
    let begins = one_time from h.begins k.begins h.from_is k.from_is in
    let ends = one_time to h.ends k.ends h.to_is k.to_is in
    h.told ∙ (rw (begins, ends) (sym k.told))

one_row : (params : Params) (number : ℕ) (before : Option Span) (fields : List (List ℕ)) (a b : Result Row LogFault) → ReadsRow params number before fields a → ReadsRow params number before fields b → a ≡ b
one_row params number before [] a b h k = h ∙ sym k
one_row params number before (x ∷ []) a b h k = h ∙ sym k
one_row params number before (x ∷ y ∷ []) a b h k = h ∙ sym k
one_row params number before (from ∷ to ∷ status ∷ []) a b h k = one_fields params number before from to status a b h k
one_row params number before (x ∷ y ∷ z ∷ w ∷ more) a b h k = h ∙ sym k

one_rows : (params : Params) (start : ℕ) (place : Place) (rows : List (List (List ℕ))) (a b : Result (List Activity) LogFault) → ReadsRows params start place rows a → ReadsRows params start place rows b → a ≡ b
one_rows params start place [] a b h k = h ∙ sym k
one_rows params start place (first ∷ later) a b h k =
    let same : h.0 ≡ k.0 = one_row params (place.rows + 1) place.span first h.0 k.0 h.1 k.1 in
    go_on h.0 h.2 (rw (← same) at k.2) (λ row. one_rows params start (thereafter params place row) later a b)
  where
    go_on : (row : Result Row LogFault)
        → MatchResult row (λ row. ReadsRows params start (thereafter params place row) later a) (λ fault. a ≡ Err fault)
        → MatchResult row (λ row. ReadsRows params start (thereafter params place row) later b) (λ fault. b ≡ Err fault)
        → ((row : Row) → ReadsRows params start (thereafter params place row) later a → ReadsRows params start (thereafter params place row) later b → a ≡ b)
        → a ≡ b
    go_on (Ok row) x y more = more row x y
    go_on (Err fault) x y more = x ∙ sym y

one_records : (params : Params) (start : ℕ) (rows : List (List (List ℕ))) (a b : Result (List Activity) LogFault) → ReadsRecords params start rows a → ReadsRecords params start rows b → a ≡ b
one_records params start [] a b h k = h ∙ sym k
one_records params start (first ∷ rows) a b (inl h) (inl k) = one_rows params start at_start rows a b h.1 k.1
one_records params start (first ∷ rows) a b (inl h) (inr k) = absurd (k.0 h.0)
one_records params start (first ∷ rows) a b (inr h) (inl k) = absurd (h.0 k.0)
one_records params start (first ∷ rows) a b (inr h) (inr k) = h.1 ∙ sym k.1

-- the bytes of a log read as one answer
pub one_log : (bytes : List ℕ) (params : Params) (start : ℕ) (a b : Result (List Activity) LogFault) → ReadsLog bytes params start a → ReadsLog bytes params start b → a ≡ b
one_log bytes params start a b (inl h) (inl k) = h.1 ∙ sym k.1
one_log bytes params start a b (inl h) (inr k) = absurd (let long = h.0 in let short = k.0 in omega arith)
one_log bytes params start a b (inr h) (inl k) = absurd (let short = h.0 in let long = k.0 in omega arith)
one_log bytes params start a b (inr h) (inr k) = one_records params start (records default_config (strip_bom bytes)) a b h.1 k.1

-- so an answer that the bytes read as is the only one
pub only_answer : (bytes : List ℕ) (params : Params) (start : ℕ) (result : Result (List Activity) LogFault)
    → IfOk result (λ units. ReadsLog bytes params start (Ok units)) → IfErr result (λ fault. fault ≢ Memory → ReadsLog bytes params start (Err fault))
    → (answer : Result (List Activity) LogFault) → ReadsLog bytes params start answer → Answers result answer
only_answer bytes params start (Ok units) log fault answer h = one_log bytes params start answer (Ok units) h log
only_answer bytes params start (Err e) log fault answer h = λ not_memory. one_log bytes params start answer (Err e) h (fault not_memory)
