-- The roots of a log, covered by a layer.
use Rattle.std.specs.Prelude.{List}
use Rattle.rule_core.specs.declared.roots.Root.{Root}
use Rattle.rule_core.specs.Reach.{IsOneOf}
use Rattle.tour_model.specs.declared.label.Label.{Label}
use Rattle.cert_text.specs.CoverLists.Problem.{Problem, root_label}
use Rattle.cert_text.specs.CoverLists.Cover.{IsCovered}

-- Each root's state is covered by a label of the layer that has not departed and has done nothing.
abbrev pub AreRooted : {S : Type 0} → Problem S → List (Label S) → List (Root S) → Type 0
AreRooted {S} problem layer roots = (root : Root S) → IsOneOf roots root → IsCovered problem 0 layer (root_label root.state)
