-- One history, its runs marked in two ways.
use Rattle.std.proofs.Common.{ℕ, ◌+◌, List, refl, arith}
use Rattle.std.specs.Prelude.{map, Contains}
use Rattle.duty_core.specs.declared.activity.Activity.{Activity}
use Rattle.duty_core.specs.declared.params.Params.{Params}
use Rattle.duty_core.specs.DeclaredRest.{ArePairedAt}
use Rattle.duty_core.specs.Marks.{IsSplitAt}
use Rattle.duty_core.specs.Laws.HistoryLaws.{AreAlike}
use Rattle.sleeper_split.specs.Laws.Alike.{AreMarkedAlike, split_marked, next_marked}
use Rattle.sleeper_split.specs.Laws.Places.{IsOfMinutes, HaveMinutes, mark_at, marked_place, place_marked}

-- The marks are those of runs that begin at these places.
pub record AreSame (Marked Other : ℕ → Type 0) : Type 0 where
  pub marks : (a : ℕ) → Marked a → Other a
  pub back : (a : ℕ) → Other a → Marked a

pub same_back : {Marked Other : ℕ → Type 0} → AreSame Marked Other → AreSame Other Marked
same_back g = record { marks = g.back; back = g.marks }

alike_itself : (p : List Activity) (n : ℕ) → AreAlike p p n
alike_itself p n = record { fronts = λ k l. refl; units = λ k l. refl }

pub marked_alike : (p : List Activity) (Marked Other : ℕ → Type 0) (n : ℕ) → AreSame Marked Other → AreMarkedAlike p Marked p Other n
marked_alike p Marked Other n g = record { alike = alike_itself p n; marks = λ a b l r m. g.marks a m; back = λ a b l r m. g.back a m }

pub paired_same : (full : ℕ) (p : List Activity) (Marked Other : ℕ → Type 0) (Pair : ℕ → ℕ → ℕ → ℕ → Type 0) (d : ℕ) → AreSame Marked Other → ArePairedAt full Pair p Marked d → ArePairedAt full Pair p Other d
paired_same full p Marked Other Pair d g h a b c s n =
    let back = marked_alike p Other Marked (b + d + 1) (same_back g) in
    h a b c (split_marked back (omega arith) s) (next_marked back (omega arith) n)

-- the marks of these places are those of runs that begin there
pub same_marks : (params : Params) (first : ℕ) (starts : List ℕ) → IsOfMinutes params → HaveMinutes first starts → AreSame (Contains starts) (IsSplitAt params first (map (mark_at first) starts))
same_marks params first starts by have = record {
  marks = λ a i. place_marked params first starts a by have i;
  back = λ a i. marked_place params first starts a by have i;
}
