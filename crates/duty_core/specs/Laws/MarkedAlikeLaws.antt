-- Two histories with marks that are alike below a place: one list of units, and each run that ends there is marked in both or in neither.
use Rattle.std.proofs.Common.{ℕ, ◌<◌, List, arith, inl, inr}
use Rattle.duty_core.specs.declared.activity.Activity.{Activity}
use Rattle.duty_core.specs.RestRun.{IsRun}
use Rattle.duty_core.specs.DeclaredRest.{IsSplitRest, IsDeclared, IsLastDeclared, IsWaiting}
use Rattle.duty_core.specs.Base.{IsBase}
use Rattle.duty_core.specs.Laws.HistoryLaws.{AreAlike, alike_back}
use Rattle.duty_core.specs.Laws.RunLaws.{run_alike, long_alike}

-- The histories p and q are alike below place n, and a run that ends below n is marked in both or in neither.
pub record AreMarkedAlike (p : List Activity) (Marked : ℕ → Type 0) (q : List Activity) (Other : ℕ → Type 0) (n : ℕ) : Type 0 where
  pub alike : AreAlike p q n
  pub marks : (a b : ℕ) → b < n → IsRun p a b → Marked a → Other a
  pub back : (a b : ℕ) → b < n → IsRun q a b → Other a → Marked a

-- the other way round
pub marked_back : {p q : List Activity} {Marked Other : ℕ → Type 0} {n : ℕ} → AreMarkedAlike p Marked q Other n → AreMarkedAlike q Other p Marked n
marked_back g = record { alike = alike_back g.alike; marks = g.back; back = g.marks }

-- with one set of marks, histories that are alike are alike with them
pub one_marking : {p q : List Activity} {n : ℕ} (Marked : ℕ → Type 0) → AreAlike p q n → AreMarkedAlike p Marked q Marked n
one_marking Marked g = record { alike = g; marks = λ a b l r m. m; back = λ a b l r m. m }

-- a split rest of one is one of the other
pub split_marked : {full : ℕ} {p q : List Activity} {Marked Other : ℕ → Type 0} {n a b : ℕ} → AreMarkedAlike p Marked q Other n → b < n → IsSplitRest full p Marked a b → IsSplitRest full q Other a b
split_marked g l h = record { run = run_alike g.alike l h.run; short = h.short; marked = g.marks _ _ l h.run h.marked }

-- and so is a declared rest
pub declared_marked : {full : ℕ} {p q : List Activity} {Marked Other : ℕ → Type 0} {n a b : ℕ} → AreMarkedAlike p Marked q Other n → b < n → IsDeclared full p Marked a b → IsDeclared full q Other a b
declared_marked g l h = elim h [ inl f ↦ inl (long_alike g.alike l f) | inr s ↦ inr (split_marked g l s) ]

-- the last declared rest of one is that of the other
pub last_marked : {full : ℕ} {p q : List Activity} {Marked Other : ℕ → Type 0} {n i a b : ℕ} → AreMarkedAlike p Marked q Other n → i < n → IsLastDeclared full p Marked i a b → IsLastDeclared full q Other i a b
last_marked g l h = let z = h.before in record {
  declared = declared_marked g (omega arith) h.declared;
  before = z;
  last = λ c d e y. h.last c d (declared_marked (marked_back g) (omega arith) e) y;
}

-- the split rest that waits in one is that which waits in the other
pub waiting_marked : {full : ℕ} {p q : List Activity} {Marked Other : ℕ → Type 0} {n i a b : ℕ} → AreMarkedAlike p Marked q Other n → i < n → IsWaiting full p Marked i a b → IsWaiting full q Other i a b
waiting_marked g l h = let z = h.last.before in record { last = last_marked g l h.last; split = split_marked g (omega arith) h.split }

-- both have one base
pub base_marked : {full : ℕ} {p q : List Activity} {Marked Other : ℕ → Type 0} {n i base omitted : ℕ} → AreMarkedAlike p Marked q Other n → i < n → IsBase full p Marked i base omitted → IsBase full q Other i base omitted
base_marked g l h = elim h [
  | inl f ↦ (let z = f.last.before in inl (record { from = f.from; last = last_marked g l f.last; rest = long_alike g.alike (omega arith) f.rest; none = f.none }))
  | inr s ↦
      let z = s.waits.last.before in
      let y = s.waits.split.run.some in
      inr (record {
        from = s.from;
        to = s.to;
        waits = waiting_marked g l s.waits;
        earlier = s.earlier;
        before = last_marked g (omega arith) s.before;
        omits = s.omits;
      })
]
