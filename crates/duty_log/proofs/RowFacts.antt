-- What a row reads as, from what its fields read as, and what is true of a row that is read.
use Rattle.std.proofs.Common.{◌≡◌, ℕ, ◌-◌, ◌<◌, ◌≤◌, ◌%◌, Bool, true, false, cond, List, [], ◌∷◌, Option, Some, None, Result, Ok, Err, refl, sym, subst, arith}
use Rattle.std.specs.Prelude.{IfOk, IfErr, nat_le, nat_lt, not, ◌&&◌}
use Rattle.std.specs.Result.{result_ok}
use Rattle.std.proofs.lemmas.Bool.Decides.{nat_tests}
use Rattle.civil_minutes.specs.Time.{IsTimeText, IsBadFrom}
use Rattle.civil_minutes.specs.declared.read.BadTime.{BadTime}
use Rattle.duty_core.specs.declared.activity.Activity.{Activity}
use Rattle.duty_core.specs.declared.params.Params.{Params}
use Rattle.duty_core.specs.Params.{unit_minutes}
use Rattle.duty_log.specs.declared.fault.LogFault.{LogFault}
use Rattle.duty_log.specs.declared.fault.LogFault.TheVariants.{Empty, Gap, NotOnUnit, TooLong}
use Rattle.duty_core.specs.declared.limits.TheConstants.{LONGEST_LOG}
use Rattle.duty_log.specs.declared.row.Row.{Row}
use Rattle.duty_log.specs.declared.row.Span.{Span}
use Rattle.duty_log.specs.Words.{activity_of}
use Rattle.duty_log.specs.Log.{checked, first_of, follows, is_on_unit, row_at, with_act, IsTimeOf, ReadsRow}

-- what was read of a text is the minute that it stands for, if it is a time
time_read : (text : List ℕ) (r : Result ℕ BadTime) → IfOk r (IsTimeText text) → IfErr r (λ bad. IsBadFrom text bad.place) → IsTimeOf text (result_ok r)
time_read text (Ok at) time bad = time
time_read text (Err e) time bad = bad.none

-- a record of three fields, of which two were read as times
pub fields_read : (params : Params) (number : ℕ) (before : Option Span) (fields : List (List ℕ)) (from to status : List ℕ) (r s : Result ℕ BadTime) (answer : Result Row LogFault)
    → fields ≡ from ∷ to ∷ status ∷ []
    → IfOk r (IsTimeText from) → IfErr r (λ bad. IsBadFrom from bad.place)
    → IfOk s (IsTimeText to) → IfErr s (λ bad. IsBadFrom to bad.place)
    → answer ≡ row_at params number before (result_ok r) (result_ok s) status
    → ReadsRow params number before fields answer
fields_read params number before fields from to status r s answer three a b c d told =
    rw three record { begins = result_ok r; ends = result_ok s; from_is = time_read from r a b; to_is = time_read to s c d; told = told }

-- What is true of a row after rows that span `before`.
pub record IsNext (params : Params) (before : Option Span) (row : Row) : Type 0 where
  pub some : row.from < row.to
  pub follows : follows before row.from ≡ true
  pub begins : row.from % unit_minutes params ≡ 0
  pub ends : row.to % unit_minutes params ≡ 0
  pub short : row.to - first_of before row.from ≤ LONGEST_LOG

-- the tests of a row that were all passed
passed : (p q r s : Bool) (e f g h : LogFault) (row last : Row) → cond p (Err e) (cond q (Err f) (cond r (Err g) (cond s (Err h) (Ok row)))) ≡ Ok last
    → (p ≡ false) × (q ≡ false) × (r ≡ false) × (s ≡ false) × (row ≡ last)
passed true q r s e f g h row last is = absurd cc
passed false true r s e f g h row last is = absurd cc
passed false false true s e f g h row last is = absurd cc
passed false false false true e f g h row last is = absurd cc
passed false false false false e f g h row last is = (refl, refl, refl, refl, cc)

not_false : (p : Bool) → not p ≡ false → p ≡ true
not_false true e = refl
not_false false e = absurd cc

both_true : (p q : Bool) → (p && q) ≡ true → (p ≡ true) × (q ≡ true)
both_true true true e = (refl, refl)
both_true true false e = absurd cc
both_true false q e = absurd cc

is_next : (params : Params) (number : ℕ) (before : Option Span) (row last : Row) → checked params number before row ≡ Ok last → IsNext params before last
is_next params number before row last e =
    let t = passed (nat_le row.to row.from) (not (follows before row.from)) (not (is_on_unit params row.from && is_on_unit params row.to)) (nat_lt LONGEST_LOG (row.to - first_of before row.from)) (Empty number) (Gap number) (NotOnUnit number) (TooLong number) row last e in
    let on = both_true (is_on_unit params row.from) (is_on_unit params row.to) (not_false (is_on_unit params row.from && is_on_unit params row.to) t.2) in
    let is : row ≡ last = t.4 in
    subst (IsNext params before) is record {
      some = grind (arith, nat_tests, t.0);
      follows = not_false (follows before row.from) t.1;
      begins = grind (arith, nat_tests, on.0);
      ends = grind (arith, nat_tests, on.1);
      short = grind (arith, nat_tests, t.3);
    }

with_act_next : (params : Params) (number : ℕ) (before : Option Span) (from to : ℕ) (act : Option Activity) (row : Row) → Ok row ≡ with_act params number before from to act → IsNext params before row
with_act_next params number before from to None row e = absurd cc
with_act_next params number before from to (Some act) row e = is_next params number before _ row (sym e)

row_at_next : (params : Params) (number : ℕ) (before : Option Span) (begins ends : Option ℕ) (status : List ℕ) (row : Row) → Ok row ≡ row_at params number before begins ends status → IsNext params before row
row_at_next params number before None ends status row e = absurd cc
row_at_next params number before (Some from) None status row e = absurd cc
row_at_next params number before (Some from) (Some to) status row e = with_act_next params number before from to (activity_of params status) row e

-- a row that is read may stand after the rows before
pub row_next : (params : Params) (number : ℕ) (before : Option Span) (fields : List (List ℕ)) (row : Row) → ReadsRow params number before fields (Ok row) → IsNext params before row
row_next params number before [] row e = absurd cc
row_next params number before (a ∷ []) row e = absurd cc
row_next params number before (a ∷ b ∷ []) row e = absurd cc
row_next params number before (from ∷ to ∷ status ∷ []) row e = row_at_next params number before e.begins e.ends status row e.told
row_next params number before (a ∷ b ∷ c ∷ d ∷ more) row e = absurd cc
