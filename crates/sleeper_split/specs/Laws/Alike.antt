-- More of two histories with marks that are alike below a place.
use Rattle.std.proofs.Common.{ℕ, ◌<◌, ◌≤◌, List, ◌++◌, length, sym, ◌∙◌, arith}
use Rattle.duty_core.specs.declared.activity.Activity.{Activity}
use Rattle.duty_core.specs.RestRun.{IsRun}
use Rattle.duty_core.specs.Stretch.{IsBerth, HoldsBerth}
use Rattle.duty_core.specs.DeclaredRest.{IsDeclared, IsNextDeclared}
use Rattle.duty_core.specs.Laws.HistoryLaws.{AreAlike, alike_append}
use Rattle.duty_core.specs.Laws.MarkedAlikeLaws.{one_marking}
pub use Rattle.duty_core.specs.Laws.MarkedAlikeLaws.{AreMarkedAlike, marked_back, split_marked, declared_marked, last_marked, base_marked}
use Rattle.duty_core.specs.Laws.UniqueLaws.{declared_run}

-- one set of marks, and units after
pub marked_append : (p q : List Activity) (Marked : ℕ → Type 0) → AreMarkedAlike p Marked (p ++ q) Marked (length p)
marked_append p q Marked = one_marking Marked (alike_append p q)

pub run_of : {full : ℕ} {p : List Activity} {Marked : ℕ → Type 0} {a b : ℕ} → IsDeclared full p Marked a b → IsRun p a b
run_of {full} {p} {Marked} {a} {b} h = declared_run full p Marked a b h

pub next_marked : {full : ℕ} {p q : List Activity} {Marked Other : ℕ → Type 0} {n a b c d : ℕ} → AreMarkedAlike p Marked q Other n → d < n → IsNextDeclared full p Marked a b c d → IsNextDeclared full q Other a b c d
next_marked g l h = record {
  next = declared_marked g l h.next;
  last = let r = run_of h.next in let s = r.some in last_marked g (omega arith) h.last;
}

pub berth_alike : {p q : List Activity} {n a b : ℕ} → AreAlike p q n → b ≤ n → IsBerth p a b → IsBerth q a b
berth_alike g l h k x y = sym (g.units k (omega arith)) ∙ h k x y

pub holds_berth_alike : {p q : List Activity} {n m a b : ℕ} → AreAlike p q n → b ≤ n → HoldsBerth m p a b → HoldsBerth m q a b
holds_berth_alike g l h = let z = h.before in record { at = h.at; after = h.after; before = z; berth = berth_alike g (omega arith) h.berth }
