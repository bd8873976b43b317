-- Stretches in the berth, and pairs among the rest runs of a padded history.
use Rattle.std.proofs.Common.{◌≡◌, ℕ, ◌+◌, ◌-◌, ◌<◌, ◌≤◌, List, length, get_or, sym, ◌∙◌, ap, subst, arith, inl, inr}
use Rattle.std.proofs.lemmas.Bool.{cases_lt}
use Rattle.duty_core.specs.declared.activity.Activity.{Activity}
use Rattle.duty_core.specs.declared.activity.Activity.TheVariants.{Berth}
use Rattle.duty_core.specs.declared.params.Params.{Params}
use Rattle.duty_core.specs.History.{unit_at}
use Rattle.duty_core.specs.Stretch.{HoldsBerth, IsBerth}
use Rattle.duty_core.specs.DeclaredRest.{IsSplitRest, IsDeclared, IsLastDeclared, ArePairedAt}
use Rattle.duty_core.specs.Laws.UniqueLaws.{declared_run, last_declared_start, last_declared_end}
use Rattle.rule_readings.specs.declared.padded.RestRun.{RestRun}
use Rattle.rule_readings.specs.Padded.{AreRestRuns}
use Rattle.rule_readings.specs.Found.{DeclaresRun}
use Rattle.rule_readings.specs.Pairs.{IsPairedRun, NamesSplit}
use Rattle.rule_readings.proofs.DeclaredRuns.{run_at, declares_of}

-- # Stretches in the berth

-- The last `run` units before a place are Berth, and no stretch that is long enough has ended before the place.
pub record IsBerthSoFar (least : ℕ) (p : List Activity) (from place run : ℕ) : Type 0 where
  pub there : from + run ≤ place
  pub berth : (k : ℕ) → place ≤ k + run → k < place → unit_at p k ≡ Berth
  pub stops : (k : ℕ) → k + 1 + run ≡ place → from ≤ k → unit_at p k ≡ Berth → ⊥
  pub none : (at : ℕ) → from ≤ at → at + least < place → IsBerth p at (at + least) → ⊥

pub berth_none : (least : ℕ) (p : List Activity) (from : ℕ) → IsBerthSoFar least p from from 0
berth_none least p from = record {
  there = omega arith;
  berth = λ k a b. absurd (omega arith);
  stops = λ k e a b. omega arith;
  none = λ at a b h. omega arith;
}

-- a stretch that is long enough has been found
pub berth_found : (least : ℕ) (p : List Activity) (from to place run : ℕ) → IsBerthSoFar least p from place run → least ≤ run → place ≤ to → HoldsBerth least p from to
berth_found least p from to place run h l m = let t = h.there in record {
  at = place - run;
  after = omega arith;
  before = omega arith;
  berth = λ k a b. h.berth k (omega arith) (omega arith);
}

-- none has ended at the place either
none_here : (least : ℕ) (p : List Activity) (from place run : ℕ) → IsBerthSoFar least p from place run → run < least → (at : ℕ) → from ≤ at → at + least ≤ place → IsBerth p at (at + least) → ⊥
none_here least p from place run h l at a b g = elim (cases_lt (at + least) place) [
  | inl o ↦ h.none at a o g
  | inr o ↦ (let k : ℕ = place - run - 1 in h.stops k (omega arith) (omega arith) (g k (omega arith) (omega arith)))
]

pub berth_more : (least : ℕ) (p : List Activity) (from place run : ℕ) → IsBerthSoFar least p from place run → run < least → unit_at p place ≡ Berth → IsBerthSoFar least p from (place + 1) (run + 1)
berth_more least p from place run h l e = let t = h.there in record {
  there = omega arith;
  berth = λ k a b. elim (cases_lt k place) [
    | inl o ↦ h.berth k (omega arith) o
    | inr o ↦ (let q : k ≡ place = omega arith in ap (unit_at p) q ∙ e)
  ];
  stops = λ k q a b. h.stops k (omega arith) a b;
  none = λ at a b g. none_here least p from place run h l at a (omega arith) g;
}

pub berth_stops : (least : ℕ) (p : List Activity) (from place run : ℕ) → IsBerthSoFar least p from place run → run < least → (unit_at p place ≡ Berth → ⊥) → IsBerthSoFar least p from (place + 1) 0
berth_stops least p from place run h l e = let t = h.there in record {
  there = omega arith;
  berth = λ k a b. absurd (omega arith);
  stops = λ k q a b. (let s : k ≡ place = omega arith in e (ap (unit_at p) (sym s) ∙ b));
  none = λ at a b g. none_here least p from place run h l at a (omega arith) g;
}

-- at the end none was found
pub berth_all : (least : ℕ) (p : List Activity) (from place run : ℕ) → IsBerthSoFar least p from place run → run < least → HoldsBerth least p from place → ⊥
berth_all least p from place run h l g = none_here least p from place run h l g.at g.after g.before g.berth

-- # Pairs

-- a run that is not declared pairs with nothing
pub undeclared_paired : (full : ℕ) (Pair : ℕ → ℕ → ℕ → ℕ → Type 0) (p : List Activity) (Marked : ℕ → Type 0) (c d : ℕ) → (DeclaresRun full Marked c d → ⊥) → IsPairedRun full Pair p Marked c d
undeclared_paired full Pair p Marked c d no_rest a b s n = absurd (no_rest (declares_of full p Marked c d n.next))

-- where no declared rest has ended before the run
pub first_paired : (full : ℕ) (Pair : ℕ → ℕ → ℕ → ℕ → Type 0) (p : List Activity) (Marked : ℕ → Type 0) (c d : ℕ) → ((a b : ℕ) → IsDeclared full p Marked a b → b ≤ c → ⊥) → IsPairedRun full Pair p Marked c d
first_paired full Pair p Marked c d none a b s n = absurd (none a b n.last.declared n.last.before)

-- where the last declared rest before it is full
pub full_paired : (full : ℕ) (Pair : ℕ → ℕ → ℕ → ℕ → Type 0) (p : List Activity) (Marked : ℕ → Type 0) (x y c d : ℕ) → IsLastDeclared full p Marked c x y → x + full ≤ y → IsPairedRun full Pair p Marked c d
full_paired full Pair p Marked x y c d l long a b s n =
    let e = last_declared_start full p Marked c x y a b l n.last in
    let f = last_declared_end full p Marked c x y a b l n.last in
    let o = s.short in
    absurd (omega arith)

-- where it is split, the two are what is asked for
pub split_paired : (full : ℕ) (Pair : ℕ → ℕ → ℕ → ℕ → Type 0) (p : List Activity) (Marked : ℕ → Type 0) (x y c d : ℕ) → IsLastDeclared full p Marked c x y → Pair x y c d → IsPairedRun full Pair p Marked c d
split_paired full Pair p Marked x y c d l h a b s n =
    let e = last_declared_start full p Marked c x y a b l n.last in
    let f = last_declared_end full p Marked c x y a b l n.last in
    subst (λ m. Pair m b c d) e (subst (λ m. Pair x m c d) f h)

split_of : (full : ℕ) (p : List Activity) (Marked : ℕ → Type 0) (x y : ℕ) → IsDeclared full p Marked x y → y < x + full → IsSplitRest full p Marked x y
split_of full p Marked x y h short = elim h [ inl f ↦ (let l = f.long in absurd (omega arith)) | inr s ↦ s ]

pub paired_split : (full : ℕ) (Pair : ℕ → ℕ → ℕ → ℕ → Type 0) (p : List Activity) (Marked : ℕ → Type 0) (x y c d : ℕ) → IsDeclared full p Marked c d → IsLastDeclared full p Marked c x y → y < x + full →
    IsPairedRun full Pair p Marked c d → Pair x y c d
paired_split full Pair p Marked x y c d next l short h = h x y (split_of full p Marked x y l.declared short) (record { next = next; last = l })

-- what holds of each rest run holds where any declared rest ends
pub all_paired : (full : ℕ) (Pair : ℕ → ℕ → ℕ → ℕ → Type 0) (p : List Activity) (Marked : ℕ → Type 0) (runs : List RestRun) → AreRestRuns p runs →
    ((k : ℕ) (e : RestRun) → k < length runs → IsPairedRun full Pair p Marked (get_or runs k e).from (get_or runs k e).to) → (d : ℕ) → ArePairedAt full Pair p Marked d
all_paired full Pair p Marked runs h g d a b c s n =
    let x : RestRun = record { from = c; to = d } in
    let y = run_at p runs c d h (declared_run full p Marked c d n.next) in
    subst (λ z. IsPairedRun full Pair p Marked z d) (y.from x) (subst (λ z. IsPairedRun full Pair p Marked (get_or runs y.place x).from z) (y.to x) (g y.place x y.inside)) a b s n

-- # Runs that may be split

pub none_split : (params : Params) (first least full : ℕ) (p : List Activity) (at : ℕ) (runs : List RestRun) → AreRestRuns p runs →
    ((k : ℕ) (e : RestRun) → k < length runs → NamesSplit params first least full p at (get_or runs k e).from (get_or runs k e).to → ⊥) →
    (from to : ℕ) → NamesSplit params first least full p at from to → ⊥
none_split params first least full p at runs h g from to n =
    let x : RestRun = record { from = from; to = to } in
    let y = run_at p runs from to h n.run in
    g y.place x y.inside
    (subst (λ z. NamesSplit params first least full p at (get_or runs y.place x).from z) (sym (y.to x)) (subst (λ z. NamesSplit params first least full p at z to) (sym (y.from x)) n))
