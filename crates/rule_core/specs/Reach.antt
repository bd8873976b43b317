-- Successors and paths of a book's states.
use Rattle.std.specs.Prelude.{◌≡◌, ℕ, ◌+◌, Bool, true, Option, List, [], ◌∷◌, ◌++◌, ◌⊎◌}
use Rattle.std.specs.Option.{option_to_list}
use Rattle.duty_core.specs.declared.activity.Activity.{Activity}
use Rattle.duty_core.specs.declared.mark.Mark.{Mark}
use Rattle.rule_core.specs.declared.nexts.Next.{Next}
use Rattle.rule_core.specs.declared.nexts.Nexts.{Nexts}
use Rattle.rule_core.specs.declared.nexts.Idles.{Idles}

-- the successors that are there
abbrev pub listed : {S : Type 0} → Nexts S → List (Next S)
listed n = option_to_list n.a ++ (option_to_list n.b ++ option_to_list n.c)

-- three successors, each of which may be there
abbrev pub nexts_made : {S : Type 0} → Option (Next S) → Option (Next S) → Option (Next S) → Nexts S
nexts_made a b c = record { a = a; b = b; c = c }

-- the idle activities, one or two
abbrev pub idle_list : Idles → List Activity
idle_list i = i.first ∷ option_to_list i.second

-- x stands in the list
abbrev pub IsOneOf : {X : Type 0} → List X → X → Type 0
IsOneOf [] x = ⊥
IsOneOf (y ∷ ys) x = (y ≡ x) ⊎ IsOneOf ys x

-- some successor passes the test
abbrev pub IsAnswered : {S : Type 0} → List (Next S) → (S → Bool) → Type 0
IsAnswered {S} ns test = (n : Next S) × IsOneOf ns n × (test n.state ≡ true)

-- A path of successors from s along these units, the first of which begins at this minute, chooses these marks and ends in t.
abbrev pub Reaches : {S : Type 0} → ℕ → (S → ℕ → Activity → List (Next S)) → S → ℕ → List Activity → List Mark → S → Type 0
Reaches unit nexts s at [] marks t = (s ≡ t) × (marks ≡ [])
Reaches {S} unit nexts s at (x ∷ xs) marks t =
    (n : Next S) × IsOneOf (nexts s at x) n × (later : List Mark) × (marks ≡ option_to_list n.mark ++ later) × Reaches unit nexts n.state (at + unit) xs later t
