-- The readings of the rules so far.
use Rattle.std.proofs.Common.{◌≡◌, List, Option, [], ◌∷◌, ◌++◌, refl, ◌∙◌, ap, arith}
use Rattle.std.specs.Prelude.{All, map}
use Rattle.std.proofs.lemmas.List.{map_push}
use Rattle.std.proofs.lemmas.List.Elements.{All-push}
use Rattle.duty_core.specs.declared.rule.Rule.{Rule}
use Rattle.rule_readings.specs.declared.reading.Reading.{Reading}

-- each of these rules has its reading
pub record AreReadingsOf (Found : Rule → Option Reading → Type 0) (rules : List Rule) (readings : List (Rule × Option Reading)) : Type 0 where
  pub told : map (λ (line : Rule × Option Reading). line.0) readings ≡ rules
  pub each : All (λ (line : Rule × Option Reading). Found line.0 line.1) readings

pub readings_none : (Found : Rule → Option Reading → Type 0) → AreReadingsOf Found [] []
readings_none Found = record { told = refl; each = λ k d l. absurd (omega arith) }

-- one more rule
pub readings_more : (Found : Rule → Option Reading → Type 0) (rules : List Rule) (readings : List (Rule × Option Reading)) (rule : Rule) (reading : Option Reading) → AreReadingsOf Found rules readings → Found rule reading →
    AreReadingsOf Found (rules ++ rule ∷ []) (readings ++ (rule, reading) ∷ [])
readings_more Found rules readings rule reading h f = record {
  told = map_push (λ (line : Rule × Option Reading). line.0) readings (rule, reading) ∙ ap (λ rs. rs ++ rule ∷ []) h.told;
  each = All-push (λ (line : Rule × Option Reading). Found line.0 line.1) readings (rule, reading) h.each f;
}
