-- Each prefix of a lawful history is lawful.
use Rattle.std.proofs.Common.{ℕ, List, take, drop, subst, sym}
use Rattle.std.proofs.lemmas.List.{take-append-drop}
use Rattle.duty_core.specs.declared.activity.Activity.{Activity}
use Rattle.duty_core.specs.declared.params.Params.{Params}
use Rattle.duty_core.specs.Laws.BookLaws.{front_lawful}
use Rattle.duty_core.specs.Lawful.{IsLawful}

pub lawful_before : (params : Params) (first : ℕ) (h : List Activity) (n : ℕ) → IsLawful params first h → IsLawful params first (take n h)
lawful_before params first h n l = front_lawful params first (take n h) (drop n h) (subst (IsLawful params first) (sym (take-append-drop n h)) l)
