-- The first declared rest after a place, among the rest runs of a padded history.
use Rattle.std.proofs.Common.{◌≡◌, ℕ, ◌+◌, ◌<◌, ◌≤◌, List, length, get_or, leb, true, false, sym, ◌∙◌, ap, subst, arith, inl, inr}
use Rattle.std.proofs.lemmas.Bool.{cases_lt, cases_eq, leb-true}
use Rattle.std.proofs.lemmas.Bool.Decides.{nat_tests}
use Rattle.std.proofs.lemmas.List.{get_or_default}
use Rattle.std.specs.List.Sorted.{IsPartitionPoint}
use Rattle.duty_core.specs.declared.activity.Activity.{Activity}
use Rattle.duty_core.specs.DeclaredRest.{IsDeclared}
use Rattle.duty_core.specs.Laws.UniqueLaws.{declared_run}
use Rattle.rule_readings.specs.declared.padded.RestRun.{RestRun}
use Rattle.rule_readings.specs.Padded.{AreRestRuns}
use Rattle.rule_readings.specs.Found.{DeclaresRun, IsFirstDeclared}
use Rattle.rule_readings.proofs.DeclaredRuns.{declared_of, declares_of, run_at, ends_in_order}

-- None of the first `next` runs is declared and ends after place i, and the later ones end after it.
pub record SkipsNone (full : ℕ) (Marked : ℕ → Type 0) (i : ℕ) (runs : List RestRun) (next : ℕ) : Type 0 where
  pub none : (k : ℕ) (d : RestRun) → k < next → k < length runs → DeclaresRun full Marked (get_or runs k d).from (get_or runs k d).to → i < (get_or runs k d).to → ⊥
  pub thereafter : (k : ℕ) (d : RestRun) → next ≤ k → k < length runs → i < (get_or runs k d).to

-- where the search begins: at the first run that ends after the place
pub skips_first : (full : ℕ) (Marked : ℕ → Type 0) (i : ℕ) (runs : List RestRun) (next : ℕ) → IsPartitionPoint (λ run. leb run.to i ≡ true) (λ run. leb run.to i ≡ false) runs next → SkipsNone full Marked i runs next
skips_first full Marked i runs next point = record {
  none = λ k d l m h o. let z = leb-true (get_or runs k d).to i (point.0 k d (omega arith) l) in omega arith;
  thereafter = λ k d l m. grind (arith, nat_tests, point.1 k d l m);
}

-- a declared run of the history is one of the list
record IsListed (full : ℕ) (Marked : ℕ → Type 0) (runs : List RestRun) (d : RestRun) (b : ℕ) : Type 0 where
  place : ℕ
  inside : place < length runs
  ends : (get_or runs place d).to ≡ b
  declares : DeclaresRun full Marked (get_or runs place d).from (get_or runs place d).to

listed : (full : ℕ) (p : List Activity) (Marked : ℕ → Type 0) (runs : List RestRun) (d : RestRun) (a b : ℕ) → AreRestRuns p runs → IsDeclared full p Marked a b → IsListed full Marked runs d b
listed full p Marked runs d a b h c =
    let y = run_at p runs a b h (declared_run full p Marked a b c) in
    record {
      place = y.place;
      inside = y.inside;
      ends = y.to d;
      declares = subst (λ z. DeclaresRun full Marked (get_or runs y.place d).from z) (sym (y.to d)) (subst (λ z. DeclaresRun full Marked z b) (sym (y.from d)) (declares_of full p Marked a b c));
    }

-- the next run, declared, is the first declared rest after the place
pub skips_found : (full : ℕ) (p : List Activity) (Marked : ℕ → Type 0) (i : ℕ) (runs : List RestRun) (next : ℕ) (d : RestRun) → AreRestRuns p runs → SkipsNone full Marked i runs next → next < length runs →
    DeclaresRun full Marked (get_or runs next d).from (get_or runs next d).to → IsFirstDeclared full p Marked i (get_or runs next d).from (get_or runs next d).to
skips_found full p Marked i runs next d h g l m = record {
  declared = declared_of full p Marked (get_or runs next d).from (get_or runs next d).to (h.each next d l) m;
  thereafter = g.thereafter next d (omega arith) l;
  first = λ a b c o.
      let y = listed full p Marked runs d a b h c in
      let e = y.ends in
      let w = y.inside in
      elim (cases_lt y.place next) [
        | inl u ↦ absurd (g.none y.place d u w y.declares (omega arith))
        | inr u ↦ (let z = ends_in_order p runs next y.place d h u w in omega arith)
      ];
}

-- one run more, which is not declared
pub skips_more : (full : ℕ) (Marked : ℕ → Type 0) (i : ℕ) (runs : List RestRun) (next : ℕ) (d : RestRun) → SkipsNone full Marked i runs next → next < length runs →
    (DeclaresRun full Marked (get_or runs next d).from (get_or runs next d).to → ⊥) → SkipsNone full Marked i runs (next + 1)
skips_more full Marked i runs next d g l undeclared = record {
  none = λ k e m o h n. elim (cases_eq k next) [
    | inl q ↦
        let same : get_or runs k e ≡ get_or runs next d = ap (λ j. get_or runs j e) q ∙ get_or_default runs next e d l in
        undeclared (subst (λ x. DeclaresRun full Marked x.from x.to) same h)
    | inr q ↦ g.none k e (omega arith) o h n
  ];
  thereafter = λ k e m o. g.thereafter k e (omega arith) o;
}

-- after the last run there is none
pub skips_all : (full : ℕ) (p : List Activity) (Marked : ℕ → Type 0) (i : ℕ) (runs : List RestRun) (next : ℕ) → AreRestRuns p runs → SkipsNone full Marked i runs next → length runs ≤ next →
    (a b : ℕ) → IsDeclared full p Marked a b → i < b → ⊥
skips_all full p Marked i runs next h g l a b c o =
    let d : RestRun = record { from = a; to = b } in
    let y = listed full p Marked runs d a b h c in
    let e = y.ends in
    let w = y.inside in
    g.none y.place d (omega arith) w y.declares (omega arith)
