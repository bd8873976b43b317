-- What a parse gives of one argument of a command of a known shape.
use Rattle.std.proofs.Common.{◌≡◌, ◌⊎◌, ◌∙◌, ◌<◌, ◌≤◌, ◌&&◌, ◌||◌, ap, ℕ, zero, suc, Bool, true, false, not, List, [], ◌∷◌, length, map, is_some, Option, Some, None, refl, sym, subst, inl, inr, arith, codes}
use Rattle.std.specs.List.{All, slice_index_or, list_any, list_all}
use Rattle.std.specs.Str.{bytes_eq}
use Rattle.std.specs.Prelude.{find, option_map, slice_get}
use Rattle.std.specs.Borrow.{Bor}
use Rattle.std.proofs.lemmas.Bool.Decides.{nat_tests}
use Rattle.std.proofs.lemmas.Slice.Eq.{bytes_eq-Decides}
use Rattle.std.proofs.lemmas.Option.{slice_get-map, slice_get_within, get_or_from_slice_get, slice_get-get_or}
use Rattle.std.proofs.lemmas.List.Elements.{All-get_or}
use Rattle.std.proofs.lemmas.List.{length-map}
use Rattle.clap.specs.Texts.{items_of}
use Rattle.clap.specs.Walk.{Rule, Text, is_empty, is_simple_arg, is_free_arg, rule_of, rules_of, texts}
use Rattle.clap.specs.Simple.{App, app_of, has_plain_fields}
use Rattle.clap.specs.Facts.{args_of, groups_of, Entry, EntryPasses, ValuesPass, PassesArg, HasReading, least_values, parser_of, parser_of_value, unwrap_or_range}
use Rattle.clap.specs.Built.{IsPlain, IsPlainArg, IsParsedFrom, SameRules}
use Rattle.clap.specs.Matches.{matched_of, first_value, one_text, found_of}
use Rattle.clap.specs.Values.{Accepts, read_as, reading_of}
use Rattle.clap.specs.declared.builder.action.ArgAction.TheVariants.{Set, Count}
use Rattle.clap.specs.declared.builder.arg.Arg.{Arg}
use Rattle.clap.specs.declared.builder.command.Command.{Command}
use Rattle.clap.specs.declared.builder.command.Command.TheViews.{out-Command}
use Rattle.clap.specs.declared.builder.value_parser.ValueParser.{ValueParser}
use Rattle.clap.specs.declared.builder.value_parser.Reading.{Reading}
use Rattle.clap.specs.declared.parser.matches.ArgMatches.{ArgMatches}
use Rattle.clap.specs.declared.parser.matches.Found.{Found}
use Rattle.clap.specs.declared.parser.matches.MatchedArg.{MatchedArg}
use Rattle.clap.proofs.CallerLemmas.{entry_by_id, same_rules_by_id, required_present, default_present, present_has_entry}

-- ---- tests of a command's arguments

abbrev pub has_id : Text → List Rule → Bool
has_id id = list_any (λ r. bytes_eq r.id id)

-- no two arguments have one id
abbrev pub ids_apart : List Rule → Bool
ids_apart [] = true
ids_apart (r ∷ rs) = not (has_id r.id rs) && ids_apart rs

-- the id is a text of the caller's own
abbrev pub is_own : Text → Bool
is_own id = not (is_empty id) && (not (bytes_eq id (codes "help")) && not (bytes_eq id (codes "version")))

abbrev pub stands_alone : Rule → Bool
stands_alone r = r.is_simple && (r.is_free && is_own r.id)

-- nothing in the command excludes anything, and each argument has an id of its own
abbrev pub is_known : App → Bool
is_known a = (a.top.is_plain && not a.top.subcommand_negates_reqs) && (list_all stands_alone a.top.rules && ids_apart a.top.rules)

-- ---- tests, read

pub both : (a b : Bool) → (a && b) ≡ true → (a ≡ true) × (b ≡ true)
both true true e = (refl, refl)
both true false e = cc
both false b e = cc

pub off : (a : Bool) → not a ≡ true → a ≡ false
off true e = cc
off false e = refl

empty_is : {X : Type 0} (xs : List X) → is_empty xs ≡ true → xs ≡ []
empty_is [] e = refl
empty_is (x ∷ xs) e = absurd (grind (arith, nat_tests))

any_at : (P : Rule → Bool) (rs : List Rule) (k : ℕ) (y : Rule) → slice_get rs k ≡ Some y → P y ≡ true → list_any P rs ≡ true
any_at P [] k y at t = cc
any_at P (r ∷ rs) zero y at t = let same : r ≡ y = cc in rw (same, t) refl
any_at P (r ∷ rs) (suc k) y at t = go (P r) (any_at P rs k y at t)
  where
    go : (b : Bool) → list_any P rs ≡ true → (b || list_any P rs) ≡ true
    go true e = refl
    go false e = e

-- the place of an id
apart_places : (rs : List Rule) → ids_apart rs ≡ true → (j k : ℕ) (x y : Rule) → slice_get rs j ≡ Some x → slice_get rs k ≡ Some y → x.id ≡ y.id → j ≡ k
apart_places [] e j k x y p q same = cc
apart_places (r ∷ rs) e zero zero x y p q same = refl
apart_places (r ∷ rs) e zero (suc k) x y p q same =
    let first : r ≡ x = cc in
    let id : y.id ≡ r.id = rw (first, same) refl in
    let has = any_at (λ z. bytes_eq z.id r.id) rs k y q ((bytes_eq-Decides y.id r.id).1 id) in
    let no = off (has_id r.id rs) (both (not (has_id r.id rs)) (ids_apart rs) e).0 in
    cc
apart_places (r ∷ rs) e (suc j) zero x y p q same =
    let first : r ≡ y = cc in
    let id : x.id ≡ r.id = rw (first, same) refl in
    let has = any_at (λ z. bytes_eq z.id r.id) rs j x p ((bytes_eq-Decides x.id r.id).1 id) in
    let no = off (has_id r.id rs) (both (not (has_id r.id rs)) (ids_apart rs) e).0 in
    cc
apart_places (r ∷ rs) e (suc j) (suc k) x y p q same = ap suc (apart_places rs (both (not (has_id r.id rs)) (ids_apart rs) e).1 j k x y p q same)

own_id : (id : Text) → is_own id ≡ true → (id ≡ [] → ⊥) × (id ≡ codes "help" → ⊥) × (id ≡ codes "version" → ⊥)
own_id id e =
    let help = bytes_eq id (codes "help") in
    let version = bytes_eq id (codes "version") in
    let a = both (not (is_empty id)) (not help && not version) e in
    let b = both (not help) (not version) a.1 in
    let some = off (is_empty id) a.0 in
    let no_help = off help b.0 in
    let no_version = off version b.1 in (
      (λ is. let bad : is_empty {X = ℕ} [] ≡ false = subst (λ (t : Text). is_empty t ≡ false) is some in cc),
      (λ is. let yes = (bytes_eq-Decides id (codes "help")).1 is in cc),
      (λ is. let yes = (bytes_eq-Decides id (codes "version")).1 is in cc),
    )

all_at : (P : Rule → Bool) (rs : List Rule) (k : ℕ) (y : Rule) → list_all P rs ≡ true → slice_get rs k ≡ Some y → P y ≡ true
all_at P [] k y all at = cc
all_at P (r ∷ rs) zero y all at = let same : r ≡ y = cc in rw (← same) (both _ _ all).0
all_at P (r ∷ rs) (suc k) y all at = all_at P rs k y (both _ _ all).1 at

-- ---- what is known of the command

none_is : {X : Type 0} (o : Option X) → not (is_some o) ≡ true → o ≡ None
none_is None e = refl
none_is (Some x) e = cc

arg_plain : (x : Arg) → is_simple_arg x ≡ true → is_free_arg x ≡ true → IsPlainArg x
arg_plain x s f =
    let s1 = both (is_empty x.overrides.items) _ s in
    let s2 = both (is_empty x.default_vals_ifs.items) _ s1.1 in
    let s3 = both (is_empty x.groups.items) _ s2.1 in
    let f1 = both (not x.exclusive) _ f in
    let f2 = both (is_empty x.conflicts.items) _ f1.1 in
    (off x.exclusive f1.0, empty_is x.conflicts.items f2.0, empty_is x.overrides.items s1.0, empty_is x.groups.items s3.0)

-- no default hangs on a condition, and no value is cut
arg_whole : (x : Arg) → is_simple_arg x ≡ true → (x.default_vals_ifs.items ≡ []) × (x.val_delim ≡ None)
arg_whole x s =
    let s1 = both (is_empty x.overrides.items) _ s in
    let s2 = both (is_empty x.default_vals_ifs.items) _ s1.1 in
    let s3 = both (is_empty x.groups.items) _ s2.1 in
    let s4 = both (not (is_some x.val_delim)) _ s3.1 in
    (empty_is x.default_vals_ifs.items s2.0, none_is x.val_delim s4.0)

rule_at : (xs : List Arg) (k : ℕ) (d : Arg) → k < length xs → slice_get (map rule_of xs) k ≡ Some (rule_of (slice_index_or xs k d))
rule_at xs k d lt = slice_get-map rule_of xs k ∙ ap (option_map rule_of) (slice_get-get_or xs k d lt)

arg_at : (xs : List Arg) (k : ℕ) (r : Rule) → slice_get (map rule_of xs) k ≡ Some r → (x : Arg) × (slice_get xs k ≡ Some x) × (rule_of x ≡ r)
arg_at [] k r e = cc
arg_at (x ∷ xs) zero r e = (x, refl, let same : rule_of x ≡ r = cc in same)
arg_at (x ∷ xs) (suc k) r e = arg_at xs k r e

-- nothing in the command excludes anything, and each argument has an id of its own
pub record HasShape (c : Command) : Type 0 where
  pub plain : IsPlain c
  pub globals : (out-Command c).has_globals ≡ false
  pub negates : (out-Command c).subcommand_negates_reqs ≡ false
  pub alone : list_all stands_alone (rules_of c) ≡ true
  pub apart : ids_apart (rules_of c) ≡ true

-- what stands alone, read
alone_at : (c : Command) → list_all stands_alone (rules_of c) ≡ true → (k : ℕ) (d : Arg) → k < length (args_of c)
    → (is_simple_arg (slice_index_or (args_of c) k d) ≡ true) × (is_free_arg (slice_index_or (args_of c) k d) ≡ true)
    × (is_own (slice_index_or (args_of c) k d).id.now ≡ true)
alone_at c all k d lt =
    let x = slice_index_or (args_of c) k d in
    let a = all_at stands_alone (rules_of c) k (rule_of x) all (rule_at (args_of c) k d lt) in
    let b = both (is_simple_arg x) (is_free_arg x && is_own x.id.now) a in
    let f = both (is_free_arg x) (is_own x.id.now) b.1 in
    (b.0, f.0, f.1)

pub known_shape : (c : Command) → is_known (app_of c) ≡ true → HasShape c
known_shape c e =
    let fields = out-Command c in
    let rules = rules_of c in
    let e1 = both (has_plain_fields fields && not fields.subcommand_negates_reqs) (list_all stands_alone rules && ids_apart rules) e in
    let e2 = both (has_plain_fields fields) (not fields.subcommand_negates_reqs) e1.0 in
    let e3 = both (list_all stands_alone rules) (ids_apart rules) e1.1 in
    let p1 = both (is_empty fields.groups.items) _ e2.0 in
    let p2 = both (not fields.allow_external_subcommands) _ p1.1 in
    let p3 = both (not fields.has_globals) _ p2.1 in
    record {
      plain = (
        (λ k d lt. let a = alone_at c e3.0 k d lt in arg_plain (slice_index_or (args_of c) k d) a.0 a.1),
        empty_is fields.groups.items p1.0,
      );
      globals = off fields.has_globals p3.0;
      negates = off fields.subcommand_negates_reqs e2.1;
      alone = e3.0;
      apart = e3.1;
    }

-- an id stands for one place
one_place : (c : Command) → HasShape c → (k : ℕ) (d : Arg) → k < length (args_of c) → (j : ℕ) (e : Arg) → j < length (args_of c)
    → bytes_eq (slice_index_or (args_of c) j e).id.now (slice_index_or (args_of c) k d).id.now ≡ true → j ≡ k
one_place c s k d lt j e low same =
    apart_places (rules_of c) s.apart j k (rule_of (slice_index_or (args_of c) j e)) (rule_of (slice_index_or (args_of c) k d))
    (rule_at (args_of c) j e low) (rule_at (args_of c) k d lt)
    ((bytes_eq-Decides (slice_index_or (args_of c) j e).id.now (slice_index_or (args_of c) k d).id.now).0 same)

-- ---- what a parse gives

first_some : (xs : List (Bor (List ℕ))) → 0 < length xs → is_some (option_map (λ s. s.now) (slice_get xs 0)) ≡ true
first_some [] lt = absurd (omega arith)
first_some (x ∷ xs) lt = refl

-- the facts of an argument's place
record Place (old : Command) (m : ArgMatches) (p : IsParsedFrom old m) (k : ℕ) (d : Arg) : Type 0 where
  lt : k < length (args_of old)
  same : (j : ℕ) (x : Arg) → j < length (args_of p.built) → slice_index_or (args_of p.built) j x ≡ x
      → bytes_eq x.id.now (slice_index_or (args_of old) k d).id.now ≡ true → SameRules (slice_index_or (args_of old) k d) x
  named : (slice_index_or (args_of old) k d).id.now ≡ [] → ⊥
  no_groups : groups_of p.built ≡ []
  values : ValuesPass p.built (found_of m)

place_facts : (old : Command) (m : ArgMatches) (p : IsParsedFrom old m) → HasShape old → (k : ℕ) (d : Arg) → k < length (args_of old) → Place old m p k d
place_facts old m p s k d lt =
    let own = own_id (slice_index_or (args_of old) k d).id.now (alone_at old s.alone k d lt).2 in
    record {
      lt = lt;
      same = same_rules_by_id old m p k d lt (one_place old s k d lt)
          (λ auto. elim auto [ inl h ↦ own.1 h | inr h ↦ own.2 h ]);
      named = own.0;
      no_groups = (p.from.plain s.plain).1;
      values = (p.parsed (p.from.globals ∙ s.globals)).values;
    }

-- an argument with an entry has a value, where each use has one
entry_has_value : (old : Command) (m : ArgMatches) (p : IsParsedFrom old m) (k : ℕ) (d : Arg) → Place old m p k d
    → (slice_index_or (args_of old) k d).action ≡ Some Set → (slice_index_or (args_of old) k d).val_delim ≡ None
    → 1 ≤ least_values (slice_index_or (args_of old) k d)
    → is_some (matched_of (found_of m) (slice_index_or (args_of old) k d).id.now) ≡ true
    → is_some (first_value (found_of m) (slice_index_or (args_of old) k d).id.now) ≡ true
entry_has_value old m p k d place set delim least some = go (matched_of (found_of m) (slice_index_or (args_of old) k d).id.now) refl some
  where
    go : (o : Option MatchedArg) → matched_of (found_of m) (slice_index_or (args_of old) k d).id.now ≡ o
        → is_some (matched_of (found_of m) (slice_index_or (args_of old) k d).id.now) ≡ true
        → is_some (first_value (found_of m) (slice_index_or (args_of old) k d).id.now) ≡ true
    go None e some = cc
    go (Some x) e some =
        let got = entry_by_id (EntryPasses p.built) (found_of m).entries.items (slice_index_or (args_of old) k d).id.now x place.values e in
        let same_x : got.0.1 ≡ x = got.1 in
        let key : bytes_eq got.0.0.now (slice_index_or (args_of old) k d).id.now ≡ true = got.2 in
        let key_id : got.0.0.now ≡ (slice_index_or (args_of old) k d).id.now = (bytes_eq-Decides _ _).0 key in
        let no_groups = place.no_groups in
        elim got.3.1 [
          | inl h ↦ elim h.1 [
            | inl empty ↦ absurd (place.named (sym key_id ∙ empty))
            | inr has ↦
                let bad : 0 < 0 = rw no_groups at has in
                absurd (omega arith)
          ]
          | inr (inl v) ↦ rw e (first_some x.vals.items (rw same_x at v))
          | inr (inr (inl h)) ↦
              let any = h.1 in
              let s = place.same any.0 any.1 any.2 any.3 (rw key_id at any.4.0) in
              let is_set : any.1.action ≡ Some Set = s.action Set set in
              let bad : Set ≡ Count = rw is_set at any.4.1 in
              cc
          | inr (inr (inr h)) ↦
              let s = place.same h.0 h.1 h.2 h.3 (rw key_id at h.4.0) in
              elim h.4.1 [
                | inl none ↦
                    let one = s.least set least in
                    absurd (omega arith)
                | inr has ↦
                    let bad : false ≡ true = rw (s.val_delim, delim) at has in
                    cc
              ]
        ]

-- and its first value passed its parser, by which it is read
head_passes : (P : Bor (List ℕ) → Type 0) (how : Reading) (vs : List (Bor (List ℕ))) → All P vs
    → is_some (option_map (λ s. s.now) (slice_get vs 0)) ≡ true
    → (v : Bor (List ℕ)) × (option_map (λ s. read_as how s.now) (slice_get vs 0) ≡ Some (read_as how v.now))
    × (option_map (λ s. s.now) (slice_get vs 0) ≡ Some v.now) × P v
head_passes P how [] h some = cc
head_passes P how (v ∷ vs) h some = (v, refl, refl, All-get_or P (v ∷ vs) 0 v (omega arith) h)

accepts_of : (a y : Arg) (q : ValueParser) (t : List ℕ) → SameRules a y → a.value_parser ≡ Some q
    → Accepts y.ignore_case (parser_of y) t → Accepts a.ignore_case q t
accepts_of a y q t s parser read =
    let is_q : parser_of y ≡ q = ap parser_of_value (s.parser q parser) in
    let as_q : Accepts y.ignore_case q t = subst (λ (w : ValueParser). Accepts y.ignore_case w t) is_q read in
    subst (λ (b : Bool). Accepts b q t) s.ignore_case as_q

-- the first value of an argument: as it was written, as it is read, and that it passed
pub record FirstValue (f : Found) (id : Text) (ignore_case : Bool) (q : ValueParser) : Type 0 where
  pub text : List ℕ
  pub written : first_value f id ≡ Some text
  pub read : one_text f id ≡ Some (read_as (reading_of q) text)
  pub passed : Accepts ignore_case q text

written_at : (f : Found) (id : Text) (x : MatchedArg) (t : List ℕ) → matched_of f id ≡ Some x
    → option_map (λ s. s.now) (slice_get x.vals.items 0) ≡ Some t → first_value f id ≡ Some t
written_at f id x t found v = rw found v

read_at : (f : Found) (id : Text) (x : MatchedArg) (how : Reading) (t : List ℕ) → matched_of f id ≡ Some x → x.reading ≡ how
    → option_map (λ s. read_as how s.now) (slice_get x.vals.items 0) ≡ Some t → one_text f id ≡ Some t
read_at f id x how t found is v = rw (found, is) v

entry_gives : (c : Command) (f : Found) (id : List ℕ) (ignore_case : Bool) (q : ValueParser) (x : MatchedArg) (e : Entry)
    → groups_of c ≡ [] → (id ≡ [] → ⊥) → ((r : Reading) → HasReading c id r → r ≡ reading_of q)
    → ((v : Bor (List ℕ)) → PassesArg c id v.now → Accepts ignore_case q v.now)
    → matched_of f id ≡ Some x → is_some (option_map (λ s. s.now) (slice_get x.vals.items 0)) ≡ true
    → e.1 ≡ x → e.0.now ≡ id → EntryPasses c e → FirstValue f id ignore_case q
entry_gives c f id ignore_case q x e no_groups named reads passes found first same_x key_id pass =
    let no_group : e.1.is_group ≡ true → ⊥ = λ g. elim (pass.3 g) [
      | inl empty ↦ named (sym key_id ∙ empty)
      | inr lots ↦
          let bad : 0 < 0 = rw no_groups at lots in
          absurd (omega arith)
    ] in
    let all : All (λ v. PassesArg c id v.now) x.vals.items = elim pass.0 [
      | inl g ↦ absurd (no_group g)
      | inr vals ↦ subst (λ (w : List ℕ). All (λ v. PassesArg c w v.now) x.vals.items) key_id (rw same_x at vals)
    ] in
    let how : e.1.reading ≡ reading_of q = elim pass.4 [
      | inl g ↦ absurd (no_group g)
      | inr h ↦ reads e.1.reading (subst (λ (w : List ℕ). HasReading c w e.1.reading) key_id h)
    ] in
    finish (head_passes (λ v. PassesArg c id v.now) (reading_of q) x.vals.items all first) (ap (λ (y : MatchedArg). y.reading) (sym same_x) ∙ how)
  where
    finish : ((v : Bor (List ℕ)) × (option_map (λ s. read_as (reading_of q) s.now) (slice_get x.vals.items 0) ≡ Some (read_as (reading_of q) v.now))
        × (option_map (λ s. s.now) (slice_get x.vals.items 0) ≡ Some v.now) × PassesArg c id v.now)
        → x.reading ≡ reading_of q → FirstValue f id ignore_case q
    finish head is = record {
      text = head.0.now;
      written = written_at f id x head.0.now found head.2;
      read = read_at f id x (reading_of q) (read_as (reading_of q) head.0.now) found is head.1;
      passed = passes head.0 head.3;
    }

place_reads : (old : Command) (m : ArgMatches) (p : IsParsedFrom old m) (k : ℕ) (d : Arg) → Place old m p k d
    → (q : ValueParser) → (slice_index_or (args_of old) k d).value_parser ≡ Some q
    → (r : Reading) → HasReading p.built (slice_index_or (args_of old) k d).id.now r → r ≡ reading_of q
place_reads old m p k d place q parser r any =
    let s = place.same any.0 any.1 any.2 any.3 any.4.0 in
    let is_q : parser_of any.1 ≡ q = ap parser_of_value (s.parser q parser) in
    sym any.4.1 ∙ ap reading_of is_q

place_passes : (old : Command) (m : ArgMatches) (p : IsParsedFrom old m) (k : ℕ) (d : Arg) → Place old m p k d
    → (q : ValueParser) → (slice_index_or (args_of old) k d).value_parser ≡ Some q
    → (v : Bor (List ℕ)) → PassesArg p.built (slice_index_or (args_of old) k d).id.now v.now
    → Accepts (slice_index_or (args_of old) k d).ignore_case q v.now
place_passes old m p k d place q parser v pass =
    accepts_of _ pass.1 q v.now (place.same pass.0 pass.1 pass.2 pass.3 pass.4.0) parser pass.4.1

entry_value : (old : Command) (m : ArgMatches) (p : IsParsedFrom old m) (k : ℕ) (d : Arg) → Place old m p k d
    → (q : ValueParser) → (slice_index_or (args_of old) k d).value_parser ≡ Some q
    → is_some (first_value (found_of m) (slice_index_or (args_of old) k d).id.now) ≡ true
    → FirstValue (found_of m) (slice_index_or (args_of old) k d).id.now (slice_index_or (args_of old) k d).ignore_case q
entry_value old m p k d place q parser some = go (matched_of (found_of m) (slice_index_or (args_of old) k d).id.now) refl some
  where
    step : (x : MatchedArg) → matched_of (found_of m) (slice_index_or (args_of old) k d).id.now ≡ Some x
        → is_some (option_map (λ s. s.now) (slice_get x.vals.items 0)) ≡ true
        → ((e : Entry) × (e.1 ≡ x) × (bytes_eq e.0.now (slice_index_or (args_of old) k d).id.now ≡ true) × EntryPasses p.built e)
        → FirstValue (found_of m) (slice_index_or (args_of old) k d).id.now (slice_index_or (args_of old) k d).ignore_case q
    step x found first got =
        entry_gives p.built (found_of m) (slice_index_or (args_of old) k d).id.now (slice_index_or (args_of old) k d).ignore_case q x got.0
        place.no_groups place.named (place_reads old m p k d place q parser) (place_passes old m p k d place q parser)
        found first got.1 ((bytes_eq-Decides got.0.0.now (slice_index_or (args_of old) k d).id.now).0 got.2) got.3

    go : (o : Option MatchedArg) → matched_of (found_of m) (slice_index_or (args_of old) k d).id.now ≡ o
        → is_some (first_value (found_of m) (slice_index_or (args_of old) k d).id.now) ≡ true
        → FirstValue (found_of m) (slice_index_or (args_of old) k d).id.now (slice_index_or (args_of old) k d).ignore_case q
    go None e some =
        let bad : false ≡ true = rw e at some in
        cc
    go (Some x) e some =
        step x e (rw e at some)
        (entry_by_id (EntryPasses p.built) (found_of m).entries.items (slice_index_or (args_of old) k d).id.now x place.values e)

-- ---- the same, of a command of a known shape

found_in : (xs : List Entry) (id : Text) (i : ℕ) → i < length xs → ((d : Entry) → bytes_eq (slice_index_or xs i d).0.now id ≡ true)
    → is_some (option_map (λ e. e.1) (find (λ e. bytes_eq e.0.now id) xs)) ≡ true
found_in [] id i lt h = absurd (omega arith)
found_in (x ∷ xs) id zero lt h = let t : bytes_eq x.0.now id ≡ true = h x in rw t refl
found_in (x ∷ xs) id (suc i) lt h = go (bytes_eq x.0.now id) refl (found_in xs id i (omega arith) h)
  where
    go : (t : Bool) → bytes_eq x.0.now id ≡ t → is_some (option_map (λ e. e.1) (find (λ e. bytes_eq e.0.now id) xs)) ≡ true
        → is_some (option_map (λ e. e.1) (find (λ e. bytes_eq e.0.now id) (x ∷ xs))) ≡ true
    go true t rest = rw t refl
    go false t rest = rw t rest

-- an argument is given a value in each parse that succeeds
abbrev pub IsGiven : Rule → Type 0
IsGiven r = (r.action ≡ Some Set) × (r.range ≡ None) × ((r.required ≡ true) ⊎ (0 < length r.defaults))

-- the argument in place k is told by the rule r
record Slot (c : Command) (k : ℕ) (r : Rule) : Type 0 where
  arg : Arg
  lt : k < length (args_of c)
  rule : rule_of (slice_index_or (args_of c) k arg) ≡ r

slot : (c : Command) (a : App) → app_of c ≡ a → (k : ℕ) (r : Rule) → slice_get a.top.rules k ≡ Some r → Slot c k r
slot c a e k r at =
    let own : slice_get (rules_of c) k ≡ Some r = subst (λ (x : App). slice_get x.top.rules k ≡ Some r) (sym e) at in
    let x = arg_at (args_of c) k r own in
    record {
      arg = x.0;
      lt = slice_get_within (args_of c) k x.0 x.1;
      rule = ap rule_of (get_or_from_slice_get (args_of c) k x.0 x.0 x.1) ∙ x.2;
    }

slot_entry : (c : Command) (m : ArgMatches) → IsParsedFrom c m → HasShape c → (k : ℕ) (r : Rule) (s : Slot c k r)
    → (r.required ≡ true) ⊎ (0 < length r.defaults)
    → is_some (matched_of (found_of m) (slice_index_or (args_of c) k s.arg).id.now) ≡ true
slot_entry c m p shape k r s (inl required) =
    present_has_entry (found_of m) (slice_index_or (args_of c) k s.arg).id.now
    (required_present c m p shape.plain shape.globals shape.negates k s.arg s.lt (ap (λ (z : Rule). z.required) s.rule ∙ required))
slot_entry c m p shape k r s (inr defaults) =
    let x = slice_index_or (args_of c) k s.arg in
    let whole = arg_whole x (alone_at c shape.alone k s.arg s.lt).0 in
    let same : length (texts (items_of x.default_vals)) ≡ length r.defaults = ap (λ (z : Rule). length z.defaults) s.rule in
    let some : 0 < length (items_of x.default_vals) = omega (arith, length-map (items_of x.default_vals) (λ (w : Bor (List ℕ)). w.now)) in
    let has = default_present c m p shape.globals k s.arg s.lt (whole.0, some) in
    found_in (found_of m).entries.items x.id.now has.0 has.1 has.2

slot_has_value : (c : Command) (m : ArgMatches) → IsParsedFrom c m → HasShape c → (k : ℕ) (r : Rule) (s : Slot c k r) → IsGiven r
    → is_some (first_value (found_of m) (slice_index_or (args_of c) k s.arg).id.now) ≡ true
slot_has_value c m p shape k r s given =
    let x = slice_index_or (args_of c) k s.arg in
    let whole = arg_whole x (alone_at c shape.alone k s.arg s.lt).0 in
    let one : x.num_vals ≡ None = ap (λ (z : Rule). z.range) s.rule ∙ given.1 in
    entry_has_value c m p k s.arg (place_facts c m p shape k s.arg s.lt)
    (ap (λ (z : Rule). z.action) s.rule ∙ given.0) whole.1
    (subst (λ o. 1 ≤ (unwrap_or_range o).start_inclusive) (sym one) (omega arith)) (slot_entry c m p shape k r s given.2)

shape_of_app : (c : Command) (a : App) → app_of c ≡ a → is_known a ≡ true → HasShape c
shape_of_app c a e known = known_shape c (subst (λ (x : App). is_known x ≡ true) (sym e) known)

-- such an argument has a value
pub value_given : (c : Command) (a : App) (m : ArgMatches) → app_of c ≡ a → is_known a ≡ true → IsParsedFrom c m
    → (k : ℕ) (r : Rule) → slice_get a.top.rules k ≡ Some r → IsGiven r → is_some (first_value (found_of m) r.id) ≡ true
value_given c a m e known p k r at given =
    let s = slot c a e k r at in
    subst (λ (id : Text). is_some (first_value (found_of m) id) ≡ true) (ap (λ (z : Rule). z.id) s.rule)
    (slot_has_value c m p (shape_of_app c a e known) k r s given)

-- and where it has a parser, the value passed that
pub value_read : (c : Command) (a : App) (m : ArgMatches) → app_of c ≡ a → is_known a ≡ true → IsParsedFrom c m
    → (k : ℕ) (r : Rule) → slice_get a.top.rules k ≡ Some r → IsGiven r → (q : ValueParser) → r.parser ≡ Some q
    → FirstValue (found_of m) r.id r.ignore_case q
value_read c a m e known p k r at given q parser =
    let s = slot c a e k r at in
    let shape = shape_of_app c a e known in
    let value = entry_value c m p k s.arg (place_facts c m p shape k s.arg s.lt) q (ap (λ (z : Rule). z.parser) s.rule ∙ parser)
    (slot_has_value c m p shape k r s given) in
    subst (λ (z : Rule). FirstValue (found_of m) z.id z.ignore_case q) s.rule value
