-- Declared rests among the rest runs of a padded history.
use Rattle.std.proofs.Common.{◌≡◌, ℕ, ◌+◌, ◌-◌, ◌*◌, ◌<◌, ◌≤◌, ◌↔◌, List, Option, Some, None, Contains, length, get_or, leb, true, false, sym, ◌∙◌, ap, subst, arith, inl, inr}
use Rattle.std.specs.Option.{SomeIff}
use Rattle.std.proofs.lemmas.Bool.{cases_lt, cases_eq, leb-true}
use Rattle.std.proofs.lemmas.Bool.Decides.{nat_tests}
use Rattle.std.specs.List.Sorted.{IsNonDecreasingBy, IsPartitionPoint}
use Rattle.std.proofs.lemmas.Int.{ints}
use Rattle.std.proofs.lemmas.List.{get_or_default}
use Rattle.duty_core.specs.declared.activity.Activity.{Activity}
use Rattle.duty_core.specs.declared.params.Params.{Params}
use Rattle.duty_core.specs.declared.limits.TheConstants.{PADDING_MINUTES}
use Rattle.duty_core.specs.Params.{unit_minutes}
use Rattle.duty_core.specs.History.{pad_units}
use Rattle.duty_core.specs.declared.mark.Mark.{Mark}
use Rattle.duty_core.specs.declared.mark.Mark.TheVariants.{SplitRest}
use Rattle.duty_core.specs.Marks.{IsMinuteOf, IsSplitAt}
use Rattle.duty_core.specs.RestRun.{IsRun}
use Rattle.duty_core.specs.DeclaredRest.{IsDeclared, IsLastDeclared}
use Rattle.duty_core.specs.Laws.UniqueLaws.{declared_run}
use Rattle.rule_readings.specs.declared.padded.RestRun.{RestRun}
use Rattle.rule_readings.specs.Padded.{AreRestRuns}
use Rattle.rule_readings.specs.Found.{DeclaresRun}
use Rattle.rule_readings.proofs.Books.{book_unit}

-- # Minutes

padding_minutes : (params : Params) → unit_minutes params * pad_units params ≡ PADDING_MINUTES
padding_minutes params = elim (book_unit params) [ inl h ↦ ap (λ u. u * pad_units params) h.unit ∙ h.padding | inr h ↦ ap (λ u. u * pad_units params) h.unit ∙ h.padding ]

pub minute_is : (params : Params) (first place at : ℕ) → IsMinuteOf params first at place ↔ (at + PADDING_MINUTES ≡ first + unit_minutes params * place)
minute_is params first place at = (
  (λ e. let m = padding_minutes params in omega (arith, ints, e)),
  (λ e. let m = padding_minutes params in omega (arith, ints, e)),
)

pub minute_answer : (r : Option ℕ) (n : ℕ) → SomeIff r (PADDING_MINUTES ≤ n) (n - PADDING_MINUTES) → (at : ℕ) → (at + PADDING_MINUTES ≡ n) ↔ (r ≡ Some at)
minute_answer None n h at = ((λ e. absurd (h (omega arith))), (λ e. absurd (cc)))
minute_answer (Some m) n h at = (
  (λ e. let l = h.0 in let v = h.1 in let q : m ≡ at = omega arith in ap Some q),
  (λ e. let l = h.0 in let v = h.1 in let q : m ≡ at = cc in omega arith),
)

-- # Runs that are declared

pub declared_of : (full : ℕ) (p : List Activity) (Marked : ℕ → Type 0) (a b : ℕ) → IsRun p a b → DeclaresRun full Marked a b → IsDeclared full p Marked a b
declared_of full p Marked a b r h = elim h [
  | inl l ↦ inl (record { run = r; long = l })
  | inr m ↦ elim (cases_lt b (a + full)) [
    | inl l ↦ inr (record { run = r; short = l; marked = m })
    | inr l ↦ inl (record { run = r; long = l })
  ]
]

pub declares_of : (full : ℕ) (p : List Activity) (Marked : ℕ → Type 0) (a b : ℕ) → IsDeclared full p Marked a b → DeclaresRun full Marked a b
declares_of full p Marked a b h = elim h [ inl f ↦ inl f.long | inr s ↦ inr s.marked ]

-- The first `rest` runs end at place i or before, and no later run that ends there is declared.
pub record LeavesNone (full : ℕ) (Marked : ℕ → Type 0) (i : ℕ) (runs : List RestRun) (rest : ℕ) : Type 0 where
  pub in_range : rest ≤ length runs
  pub reached : (k : ℕ) (d : RestRun) → k < rest → (get_or runs k d).to ≤ i
  pub none : (k : ℕ) (d : RestRun) → rest ≤ k → k < length runs → DeclaresRun full Marked (get_or runs k d).from (get_or runs k d).to → i < (get_or runs k d).to

-- a rest run of p is one of its list
pub record IsAt (runs : List RestRun) (a b : ℕ) : Type 0 where
  pub place : ℕ
  pub inside : place < length runs
  pub from : (d : RestRun) → (get_or runs place d).from ≡ a
  pub to : (d : RestRun) → (get_or runs place d).to ≡ b

pub run_at : (p : List Activity) (runs : List RestRun) (a b : ℕ) → AreRestRuns p runs → IsRun p a b → IsAt runs a b
run_at p runs a b h r =
    let c = h.every a b r in
    let x : RestRun = record { from = a; to = b } in
    record {
      place = c.0;
      inside = c.1;
      from = λ d. ap (λ y. y.from) (get_or_default runs c.0 d x c.1 ∙ c.2);
      to = λ d. ap (λ y. y.to) (get_or_default runs c.0 d x c.1 ∙ c.2);
    }

-- the runs end in order
pub ends_in_order : (p : List Activity) (runs : List RestRun) (j k : ℕ) (d : RestRun) → AreRestRuns p runs → j ≤ k → k < length runs → (get_or runs j d).to ≤ (get_or runs k d).to
ends_in_order p runs j k d h l m = elim (cases_eq j k) [
  | inl e ↦ (let q = ap (λ n. (get_or runs n d).to) e in omega arith)
  | inr n ↦ (let o = h.ordered j k d (omega arith) m in let s = (h.each k d m).some in omega arith)
]

-- the last run that is left, declared, is the last declared rest
pub found_last : (full : ℕ) (p : List Activity) (Marked : ℕ → Type 0) (i : ℕ) (runs : List RestRun) (rest : ℕ) (d : RestRun) → AreRestRuns p runs → LeavesNone full Marked i runs rest → 0 < rest →
    DeclaresRun full Marked (get_or runs (rest - 1) d).from (get_or runs (rest - 1) d).to → IsLastDeclared full p Marked i (get_or runs (rest - 1) d).from (get_or runs (rest - 1) d).to
found_last full p Marked i runs rest d h g l m =
    let n = g.in_range in
    let run = get_or runs (rest - 1) d in
    record {
      declared = declared_of full p Marked run.from run.to (h.each (rest - 1) d (omega arith)) m;
      before = g.reached (rest - 1) d (omega arith);
      last = λ a b c o.
          let y = run_at p runs a b h (declared_run full p Marked a b c) in
          let f = y.from d in
          let t = y.to d in
          let w = y.inside in
          elim (cases_lt (rest - 1) y.place) [
            | inl u ↦
                let e : DeclaresRun full Marked (get_or runs y.place d).from (get_or runs y.place d).to =
                subst (λ z. DeclaresRun full Marked (get_or runs y.place d).from z) (sym t) (subst (λ z. DeclaresRun full Marked z b) (sym f) (declares_of full p Marked a b c)) in
                let z = g.none y.place d (omega arith) w e in
                absurd (omega arith)
            | inr u ↦ (let z = ends_in_order p runs y.place (rest - 1) d h u (omega arith) in omega arith)
          ];
    }

-- where no run is left, there is none
pub found_none : (full : ℕ) (p : List Activity) (Marked : ℕ → Type 0) (i : ℕ) (runs : List RestRun) (rest : ℕ) → AreRestRuns p runs → LeavesNone full Marked i runs rest → rest ≤ 0 →
    (a b : ℕ) → IsDeclared full p Marked a b → b ≤ i → ⊥
found_none full p Marked i runs rest h g n a b c l =
    let x : RestRun = record { from = a; to = b } in
    let y = run_at p runs a b h (declared_run full p Marked a b c) in
    let f = y.from x in
    let t = y.to x in
    let d : DeclaresRun full Marked (get_or runs y.place x).from (get_or runs y.place x).to =
    subst (λ z. DeclaresRun full Marked (get_or runs y.place x).from z) (sym t) (subst (λ z. DeclaresRun full Marked z b) (sym f) (declares_of full p Marked a b c)) in
    let z = g.none y.place x (omega arith) y.inside d in
    omega arith

-- one run less, which is not declared
pub leaves_less : (full : ℕ) (Marked : ℕ → Type 0) (i : ℕ) (runs : List RestRun) (rest : ℕ) (d : RestRun) → LeavesNone full Marked i runs rest → 0 < rest →
    (DeclaresRun full Marked (get_or runs (rest - 1) d).from (get_or runs (rest - 1) d).to → ⊥) → LeavesNone full Marked i runs (rest - 1)
leaves_less full Marked i runs rest d g l undeclared = let n = g.in_range in record {
  in_range = omega arith;
  reached = λ k e m. g.reached k e (omega arith);
  none = λ k e m o h. elim (cases_eq k (rest - 1)) [
    | inl q ↦
        let same : get_or runs k e ≡ get_or runs (rest - 1) d = ap (λ j. get_or runs j e) q ∙ get_or_default runs (rest - 1) e d (omega arith) in
        absurd (undeclared (subst (λ x. DeclaresRun full Marked x.from x.to) same h))
    | inr q ↦ g.none k e (omega arith) o h
  ];
}

-- the runs end later and later
pub runs_rise : (p : List Activity) (runs : List RestRun) → AreRestRuns p runs → IsNonDecreasingBy (λ run. run.to) runs
runs_rise p runs h i j d l m = ends_in_order p runs i j d h l m

-- where the search begins: before the first run that ends after the place
pub leaves_first : (full : ℕ) (Marked : ℕ → Type 0) (i : ℕ) (runs : List RestRun) (rest : ℕ) → rest ≤ length runs → IsPartitionPoint (λ run. leb run.to i ≡ true) (λ run. leb run.to i ≡ false) runs rest →
    LeavesNone full Marked i runs rest
leaves_first full Marked i runs rest l point = record {
  in_range = l;
  reached = λ k d m. leb-true (get_or runs k d).to i (point.0 k d (omega arith) m);
  none = λ k d m o h. grind (arith, nat_tests, point.1 k d m o);
}

-- # What a mark names

-- a mark of the minute of a place names the run there
pub split_found : (params : Params) (first : ℕ) (marks : List Mark) (place at : ℕ) → IsMinuteOf params first at place → Contains marks (SplitRest at) ↔ IsSplitAt params first marks place
split_found params first marks place at m = (
  (λ c. record { at = at; minute = m; marked = c }),
  (λ s.
      let x = (minute_is params first place at).0 m in
      let y = (minute_is params first place s.at).0 s.minute in
      let q : s.at ≡ at = omega arith in
      subst (λ n. Contains marks (SplitRest n)) q s.marked),
)
