-- The rest runs of a list of units, found in one pass.
use Rattle.std.proofs.Common.{◌≡◌, ℕ, ◌+◌, ◌-◌, ◌<◌, ◌≤◌, true, false, List, [], ◌∷◌, ◌++◌, length, sym, ◌∙◌, ap, subst, arith, inl, inr}
use Rattle.std.specs.Prelude.{Contains, All, AllPairs}
use Rattle.std.proofs.lemmas.Bool.{cases_lt}
use Rattle.std.proofs.lemmas.List.Elements.{All-push, All-weaker, Contains-push, Contains-append_left}
use Rattle.std.proofs.lemmas.List.Quantifiers.{all_pairs_push}
use Rattle.duty_core.specs.declared.activity.Activity.{Activity}
use Rattle.duty_core.specs.Activity.{rests}
use Rattle.duty_core.specs.History.{unit_at}
use Rattle.duty_core.specs.RestRun.{IsRun}
use Rattle.duty_core.specs.Laws.RunLaws.{run_inside}
use Rattle.duty_core.specs.Laws.UniqueLaws.{run_start}
use Rattle.rule_readings.specs.declared.padded.RestRun.{RestRun}
use Rattle.rule_readings.specs.Padded.{AreRestRuns}

-- The runs that ended before place i, and the place from which the rest before place i lasts.
pub record AreRunsBefore (p : List Activity) (i from : ℕ) (runs : List RestRun) : Type 0 where
  pub there : from ≤ i
  pub rest : (k : ℕ) → from ≤ k → k < i → rests (unit_at p k) ≡ true
  pub starts : (k : ℕ) → k + 1 ≡ from → rests (unit_at p k) ≡ false
  pub each : All (λ run. IsRun p run.from run.to) runs
  pub every : (a b : ℕ) → IsRun p a b → b < i → Contains runs (record { from = a; to = b })
  pub ordered : AllPairs (λ run later. run.to < later.from) runs
  pub before : All (λ run. run.to < from) runs

pub runs_none : (p : List Activity) → AreRunsBefore p 0 0 []
runs_none p = record {
  there = omega arith;
  rest = λ k l m. absurd (omega arith);
  starts = λ k e. absurd (omega arith);
  each = λ k d l. absurd (omega arith);
  every = λ a b r l. absurd (omega arith);
  ordered = λ i j d l m. absurd (omega arith);
  before = λ k d l. absurd (omega arith);
}

-- one more unit of rest
pub runs_rest : (p : List Activity) (i from : ℕ) (runs : List RestRun) → rests (unit_at p i) ≡ true → AreRunsBefore p i from runs → AreRunsBefore p (i + 1) from runs
runs_rest p i from runs r h = record {
  there = let t = h.there in omega arith;
  rest = λ k l m. elim (cases_lt k i) [
    | inl o ↦ h.rest k l o
    | inr o ↦ (let q : k ≡ i = omega arith in ap (λ n. rests (unit_at p n)) q ∙ r)
  ];
  starts = h.starts;
  each = h.each;
  every = λ a b g l. elim (cases_lt b i) [
    | inl o ↦ h.every a b g o
    | inr o ↦ (let q : b ≡ i = omega arith in absurd (let z : true ≡ false = sym r ∙ (ap (λ n. rests (unit_at p n)) (sym q) ∙ g.ended) in cc))
  ];
  ordered = h.ordered;
  before = h.before;
}

-- a unit of duty after duty
pub runs_duty : (p : List Activity) (i from : ℕ) (runs : List RestRun) → rests (unit_at p i) ≡ false → i ≤ from → AreRunsBefore p i from runs → AreRunsBefore p (i + 1) (i + 1) runs
runs_duty p i from runs d e h = let t = h.there in record {
  there = omega arith;
  rest = λ k l m. absurd (omega arith);
  starts = λ k q. let s : k ≡ i = omega arith in ap (λ n. rests (unit_at p n)) s ∙ d;
  each = h.each;
  every = λ a b g l. elim (cases_lt b i) [
    | inl o ↦ h.every a b g o
    | inr o ↦
        let s = g.some in
        absurd (let z : true ≡ false = sym (g.rest (i - 1) (omega arith) (omega arith)) ∙ h.starts (i - 1) (omega arith) in cc)
  ];
  ordered = h.ordered;
  before = All-weaker (λ run. run.to < from) (λ run. run.to < i + 1) (λ run l. omega arith) runs h.before;
}

-- a unit of duty ends the run before it
run_here : (p : List Activity) (i from : ℕ) (runs : List RestRun) → rests (unit_at p i) ≡ false → from < i → AreRunsBefore p i from runs → IsRun p from i
run_here p i from runs d l h = record { some = l; rest = h.rest; starts = h.starts; ended = d }

pub runs_ended : (p : List Activity) (i from : ℕ) (runs : List RestRun) → rests (unit_at p i) ≡ false → from < i → AreRunsBefore p i from runs →
    AreRunsBefore p (i + 1) (i + 1) (runs ++ record { from = from; to = i } ∷ [])
runs_ended p i from runs d l h =
    let new : RestRun = record { from = from; to = i } in
    let here = run_here p i from runs d l h in
    record {
      there = omega arith;
      rest = λ k m n. absurd (omega arith);
      starts = λ k q. let s : k ≡ i = omega arith in ap (λ n. rests (unit_at p n)) s ∙ d;
      each = All-push (λ run. IsRun p run.from run.to) runs new h.each here;
      every = λ a b g m. elim (cases_lt b i) [
        | inl o ↦ Contains-append_left runs (new ∷ []) (record { from = a; to = b }) (h.every a b g o)
        | inr o ↦
            let q : b ≡ i = omega arith in
            let s : a ≡ from = run_start p a from i (subst (λ n. IsRun p a n) q g) here in
            let same : new ≡ record { from = a; to = b } = ap (λ x. record { from = x; to = i }) (sym s) ∙ ap (λ x. record { from = a; to = x }) (sym q) in
            subst (λ x. Contains (runs ++ new ∷ []) x) same (Contains-push runs new)
      ];
      ordered = all_pairs_push (λ run later. run.to < later.from) runs new h.ordered h.before;
      before = All-push (λ run. run.to < i + 1) runs new (All-weaker (λ run. run.to < from) (λ run. run.to < i + 1) (λ run m. omega arith) runs h.before) (omega arith);
    }

-- at the end of the list
pub runs_all : (p : List Activity) (i from : ℕ) (runs : List RestRun) → length p ≤ i → AreRunsBefore p i from runs → AreRestRuns p runs
runs_all p i from runs l h = record {
  each = h.each;
  every = λ a b g. h.every a b g (let z = run_inside p a b g in omega arith);
  ordered = h.ordered;
}
