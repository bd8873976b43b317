-- How the records that a reader has left follow its reads.
use Rattle.std.proofs.Common.{◌≡◌, ℕ, zero, suc, ◌+◌, ◌-◌, ◌<◌, ◌≤◌, Bool, true, false, cond, List, [], ◌∷◌, ◌++◌, length, Option, Some, None, refl, ap, ◌∙◌, arith, add-one}
use Rattle.std.specs.Prelude.{Result, Ok, Err, MatchResult, ◌==◌, ◌||◌, IsSome, unwrap_or}
use Rattle.std.specs.Borrow.{Bor}
use Rattle.csv.specs.Machine.{Read, ends_at_end, field_after, fields_after, in_field, is_end, next_record, start_field, start_record, step}
use Rattle.csv.specs.Reading.{NextIs, ReadRecord, Ready, ReadsNext, default_config, pending_of, records_from, records_next, source_of}
use Rattle.csv.specs.declared.parser.Action.{Action}
use Rattle.csv.specs.declared.parser.Action.TheVariants as act
use Rattle.csv.specs.declared.parser.State.{State}
use Rattle.csv.specs.declared.parser.State.TheVariants as st
use Rattle.csv.specs.declared.reader.Reader.{Reader}
use Rattle.csv.proofs.ReadFacts.{rows-end}
use Rattle.duty_log.specs.declared.fault.LogFault.{LogFault}
use Rattle.duty_log.specs.Records.{IsBetween, bytes_left, records_left}

-- ---- a byte that ends a record leaves a state between records

-- where a step ends the record, it leaves such a state
abbrev Ended : State × Action → Type 0
Ended p = is_end p.1 ≡ true → ends_at_end p.0 ≡ false

ended_choice : (b : Bool) (p q : State × Action) → Ended p → Ended q → Ended (cond b p q)
ended_choice true p q x y = x
ended_choice false p q x y = y

ended_by_mark : (b : Bool) → Ended (cond b st.AfterCr st.StartRecord, act.EndRecord)
ended_by_mark true e = refl
ended_by_mark false e = refl

ended_not : (s : State) (a : Action) → is_end a ≡ false → Ended (s, a)
ended_not s a not e = absurd cc

ended_in_field : (c : ℕ) → Ended (in_field default_config c)
ended_in_field c =
    ended_choice (c == 44) (st.StartField, act.EndField) (cond ((c == 13) || (c == 10)) (cond (c == 13) st.AfterCr st.StartRecord, act.EndRecord) (st.InField, act.Copy)) (ended_not st.StartField act.EndField refl)
    (ended_choice ((c == 13) || (c == 10)) (cond (c == 13) st.AfterCr st.StartRecord, act.EndRecord) (st.InField, act.Copy) (ended_by_mark (c == 13)) (ended_not st.InField act.Copy refl))

ended_start_field : (c : ℕ) → Ended (start_field default_config c)
ended_start_field c = ended_choice (c == 34) (st.InQuoted, act.Skip) (in_field default_config c) (ended_not st.InQuoted act.Skip refl) (ended_in_field c)

ended_start_record : (c : ℕ) → Ended (start_record default_config c)
ended_start_record c = ended_choice ((c == 13) || (c == 10)) (st.StartRecord, act.Skip) (start_field default_config c) (ended_not st.StartRecord act.Skip refl) (ended_start_field c)

ended : (s : State) (c : ℕ) → Ended (step default_config s c)
ended st.StartRecord c = ended_start_record c
ended st.StartField c = ended_start_field c
ended st.InField c = ended_in_field c
ended st.InQuoted c = ended_choice (c == 34) (st.AfterQuote, act.Skip) (st.InQuoted, act.Copy) (ended_not st.AfterQuote act.Skip refl) (ended_not st.InQuoted act.Copy refl)
ended st.InEscape c = ended_not st.InQuoted act.Copy refl
ended st.AfterQuote c = ended_choice (c == 34) (st.InQuoted, act.Copy) (in_field default_config c) (ended_not st.InQuoted act.Copy refl) (ended_in_field c)
ended st.InComment c = ended_choice (c == 10) (st.StartRecord, act.Skip) (st.InComment, act.Skip) (ended_not st.StartRecord act.Skip refl) (ended_not st.InComment act.Skip refl)
ended st.AfterCr c = ended_choice (c == 10) (st.StartRecord, act.Skip) (start_record default_config c) (ended_not st.StartRecord act.Skip refl) (ended_start_record c)

-- ---- a record takes bytes, and as many records as bytes are all

-- What the next record leaves: a state between records, and fewer bytes.
record Leaves (xs : List ℕ) (p : Read) : Type 0 where
  between : ends_at_end p.1 ≡ false
  fewer : length p.2 ≤ length xs - 1

leaves : (s : State) (fields : List (List ℕ)) (field xs : List ℕ) (p : Read) → next_record default_config s fields field xs ≡ Some p → Leaves xs p
unfolding next_record
leaves s fields field [] p e = last (ends_at_end s) e
  where
    last : (b : Bool) → cond b (Some (fields ++ (field ∷ []), st.StartRecord, [])) None ≡ Some p → Leaves [] p
    last true e = let is : (fields ++ (field ∷ []), st.StartRecord, []) ≡ p = cc in rw (← is) record { between = refl; fewer = omega arith }
    last false e = absurd cc
leaves s fields field (c ∷ rest) p e = byte (is_end (step default_config s c).1) refl e (leaves (step default_config s c).0 (fields_after (step default_config s c).1 fields field) (field_after (step default_config s c).1 c field) rest p)
  where
    byte : (b : Bool) → is_end (step default_config s c).1 ≡ b
        → cond b (Some (fields_after (step default_config s c).1 fields field, (step default_config s c).0, rest)) (next_record default_config (step default_config s c).0 (fields_after (step default_config s c).1 fields field) (field_after (step default_config s c).1 c field) rest) ≡ Some p
        → (next_record default_config (step default_config s c).0 (fields_after (step default_config s c).1 fields field) (field_after (step default_config s c).1 c field) rest ≡ Some p → Leaves rest p)
        → Leaves (c ∷ rest) p
    byte true is e more =
        let here : (fields_after (step default_config s c).1 fields field, (step default_config s c).0, rest) ≡ p = cc in
        rw (← here) record { between = ended s c is; fewer = omega arith }
    byte false is e more =
        let later = more e in
        record { between = later.between; fewer = omega (arith, later.fewer) }

-- between records, a next record takes a byte
fewer_left : (s : State) (xs : List ℕ) (p : Read) → ends_at_end s ≡ false → next_record default_config s [] [] xs ≡ Some p → length p.2 < length xs
unfolding next_record
fewer_left s [] p between e = absurd (at_end (ends_at_end s) between e)
  where
    at_end : (b : Bool) → b ≡ false → cond b (Some ([] ++ ([] ∷ []), st.StartRecord, [])) None ≡ Some p → ⊥
    at_end true not e = cc
    at_end false not e = cc
fewer_left s (c ∷ rest) p between e = let after = leaves s [] [] (c ∷ rest) p e in omega (arith, after.fewer)

-- so as many records as bytes, and one, are all of them
enough : (n m : ℕ) (s : State) (xs : List ℕ) → ends_at_end s ≡ false → length xs < n → length xs < m → records_from default_config n s xs ≡ records_from default_config m s xs
unfolding records_from
enough zero m s xs between below above = absurd (omega arith)
enough (suc n) zero s xs between below above = absurd (omega arith)
enough (suc n) (suc m) s xs between below above = next (next_record default_config s [] [] xs) refl (enough n m)
  where
    next : (o : Option Read) → next_record default_config s [] [] xs ≡ o
        → ((t : State) (ys : List ℕ) → ends_at_end t ≡ false → length ys < n → length ys < m → records_from default_config n t ys ≡ records_from default_config m t ys)
        → records_next (records_from default_config n) o ≡ records_next (records_from default_config m) o
    next None is more = refl
    next (Some p) is more =
        let left = fewer_left s xs p between is in
        let after = leaves s [] [] xs p is in
        ap (λ (rows : List (List (List ℕ))). p.0 ∷ rows) (more p.1 p.2 after.between (omega arith) (omega arith))

-- the records of a text are the next one, and those of the bytes after it
records_step : (s t : State) (xs ys : List ℕ) (fields : List (List ℕ)) → ends_at_end s ≡ false → next_record default_config s [] [] xs ≡ Some (fields, t, ys)
    → records_from default_config (length xs + 1) s xs ≡ fields ∷ records_from default_config (length ys + 1) t ys
unfolding records_from
records_step s t xs ys fields between is =
    let left = fewer_left s xs (fields, t, ys) between is in
    let after = leaves s [] [] xs (fields, t, ys) is in
    rw (add-one, is) (ap (λ (rows : List (List (List ℕ))). fields ∷ rows) (enough (length xs) (length ys + 1) t ys after.between left (omega arith)))

records_end : (s : State) (xs : List ℕ) → next_record default_config s [] [] xs ≡ None → records_from default_config (length xs + 1) s xs ≡ []
unfolding records_from
records_end s xs is = rw (add-one, is) refl

-- ---- what a reader has left

-- a read that found a record
found_next : (o : Option Read) (fields : List (List ℕ)) (s : State) (rest : List ℕ) → NextIs o true fields s rest → o ≡ Some (fields, s, rest)
found_next None fields s rest h = absurd cc
found_next (Some p) fields s rest h = rw (h.1, h.2, h.3) refl

-- What a read leaves, by the bytes before and after it.
record Goes (s t : State) (xs : List ℕ) (fields : List (List ℕ)) (after : Option (List ℕ)) : Type 0 where
  rest : List ℕ
  is : after ≡ Some rest
  next : next_record default_config s [] [] xs ≡ Some (fields, t, rest)

goes : (s t : State) (xs : List ℕ) (fields : List (List ℕ)) (after : Option (List ℕ)) → ReadsNext default_config s (Some xs) after true fields t → Goes s t xs fields after
goes s t xs fields None h = absurd h
goes s t xs fields (Some ys) h = record { rest = ys; is = refl; next = found_next _ fields t ys h }

known_source : (o : Option (List ℕ)) → IsSome o → o ≡ Some (unwrap_or o [])
known_source None h = absurd cc
known_source (Some xs) h = refl

some_known : (o : Option (List ℕ)) (xs : List ℕ) → o ≡ Some xs → IsSome o × (unwrap_or o [] ≡ xs)
some_known o xs e = rw e (refl, refl)

-- What a read that found a record leaves to read.
pub record Moves (old new : Reader (Bor (List ℕ))) (fields : List (List ℕ)) : Type 0 where
  pub between : IsBetween new
  pub left : records_left old ≡ fields ∷ records_left new

pub read_moves : (old new : Reader (Bor (List ℕ))) (fields : List (List ℕ)) → IsBetween old → Ready new → new.flexible ≡ old.flexible → ReadRecord (λ text. Some text.now) old new true fields → Moves old new fields
read_moves old new fields h ready flexible r =
    let source : source_of (λ text. Some text.now) old ≡ Some (bytes_left old) = known_source _ h.known in
    let g = goes old.state new.state (bytes_left old) fields (pending_of (Some new.rdr.now) new) (rw (h.plain, source) at r.0) in
    let after : source_of (λ text. Some text.now) new ≡ Some g.rest = rw r.1 g.is in
    let k = some_known _ _ after in
    let state = leaves old.state [] [] (bytes_left old) (fields, new.state, g.rest) g.next in
    record {
      between = record {
        plain = r.2 ∙ h.plain;
        flexible = flexible ∙ h.flexible;
        untrimmed = r.3 ∙ h.untrimmed;
        ready = ready;
        known = k.0;
        between = state.between;
      };
      left = records_step old.state new.state (bytes_left old) g.rest fields h.between g.next ∙ (rw k.1 refl);
    }

-- a read that found none is at the end
pub read_ends : (old new : Reader (Bor (List ℕ))) (fields : List (List ℕ)) → IsBetween old → ReadRecord (λ text. Some text.now) old new false fields → records_left old ≡ []
read_ends old new fields h r =
    let source : source_of (λ text. Some text.now) old ≡ Some (bytes_left old) = known_source _ h.known in
    records_end old.state (bytes_left old) (rows-end (λ text. Some text.now) old new fields default_config (bytes_left old) h.plain source r)

-- the value of a result whose error was changed
pub mapped_ok : {A D : Type 0} (r : Result A D) (y : A) → MatchResult r (λ x. ◌≡◌ {A = Result A LogFault} (Ok y) (Ok x)) (λ d. ⊥) → r ≡ Ok y
mapped_ok {A = A} (Ok x) y h = let same : ◌≡◌ {A = Result A LogFault} (Ok y) (Ok x) = h in cc
mapped_ok (Err d) y h = absurd h
