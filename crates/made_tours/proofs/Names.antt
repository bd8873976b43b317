-- The names of the stops: each may be a stop's, has no byte that JSON escapes, and is another than those before it.
use Rattle.std.proofs.Common.{◌≡◌, ℕ, zero, suc, ◌+◌, ◌<◌, ◌≤◌, ◌&&◌, Bool, true, Option, None, Some, List, [], map, refl, subst, arith, inl, inr}
use Rattle.std.specs.Prelude.{is_none}
use Rattle.std.specs.Fmt.{digits}
use Rattle.std.specs.List.{list_all, range_with_len}
use Rattle.std.specs.Str.{bytes_eq}
use Rattle.std.proofs.lemmas.Bool.{and_parts, cases_lt}
use Rattle.std.proofs.lemmas.Slice.Eq.{bytes_eq-Decides}
use Rattle.json.specs.Print.{escape, escape_byte}
use Rattle.tour_reader.specs.Checks.{first_repeated}
use Rattle.tour_reader.specs.Written.{is_name}
use Rattle.made_tours.specs.Drawn.{name_drawn}

-- what each number of a range passes
in_range : (p : ℕ → Bool) (n from k : ℕ) → list_all p (range_with_len from n) ≡ true → from ≤ k → k < from + n → p k ≡ true
in_range p zero from k all low high = absurd (omega arith)
in_range p (suc n) from k all low high =
    let both = and_parts (p from) (list_all p (range_with_len (from + 1) n)) all in
    elim (cases_lt from k) [
      | inl lt ↦ in_range p n (from + 1) k both.1 (omega arith) (omega arith)
      | inr le ↦ (let same : from ≡ k = omega arith in subst (λ i. p i ≡ true) same both.0)
    ]

-- a name of a stop, whose bytes JSON writes as they are
pub record IsPlainName (name : List ℕ) : Type 0 where
  pub good : is_name name ≡ true
  pub plain : escape name ≡ name

abbrev passes : ℕ → Bool
passes before = is_name (name_drawn before) && bytes_eq (escape (name_drawn before)) (name_drawn before)

all_pass : list_all passes (range_with_len 0 20) ≡ true
unfolding digits escape_byte
all_pass = refl

pub plain_name : (before : ℕ) → before < 20 → IsPlainName (name_drawn before)
plain_name before few =
    let p = and_parts (is_name (name_drawn before)) (bytes_eq (escape (name_drawn before)) (name_drawn before)) (in_range passes 20 0 before all_pass (omega arith) (omega arith)) in
    record { good = p.0; plain = (bytes_eq-Decides (escape (name_drawn before)) (name_drawn before)).0 p.1 }

-- whether so many names are all different
abbrev differ : ℕ → Bool
differ more = is_none (first_repeated [] (map name_drawn (range_with_len 0 (12 + more))))

all_differ : list_all differ (range_with_len 0 9) ≡ true
unfolding digits
all_differ = refl

none_from : {A : Type 0} (o : Option A) → is_none o ≡ true → o ≡ None
none_from None e = refl
none_from (Some a) e = absurd cc

-- from 12 to 20 names
pub different_names : (more : ℕ) → more < 9 → first_repeated [] (map name_drawn (range_with_len 0 (12 + more))) ≡ None
different_names more few = none_from (first_repeated [] (map name_drawn (range_with_len 0 (12 + more)))) (in_range differ 9 0 more all_differ (omega arith) (omega arith))
