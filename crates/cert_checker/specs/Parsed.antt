-- Labels as they are read from a certificate.
use Rattle.std.specs.Prelude.{◌≡◌, ℕ, ◌<◌, ◌≤◌, List, Option, None, Some, nat_le, map, flat_map, if◌then◌else◌}
use Rattle.std.specs.Option.{option_to_list}
use Rattle.rule_core.specs.Reach.{IsOneOf}
use Rattle.tour_model.specs.declared.label.Label.{Label}
use Rattle.cert_text.specs.declared.cert.CertLabel.{CertLabel}

-- the label in this state, where its progress is no more than there is to do
abbrev pub label_with : {S : Type 0} → ℕ → CertLabel → Option S → Option (Label S)
label_with goal c None = None
label_with goal c (Some s) = if nat_le c.progress goal then Some (record { depart = c.depart; progress = c.progress; state = s }) else None

-- the label that is written here, where its numbers are those of a state at this minute, and its progress is no more than there is to do
abbrev pub label_of : {S : Type 0} → (List ℕ → ℕ → Option S) → ℕ → ℕ → CertLabel → Option (Label S)
label_of state_of goal at c = label_with goal c (state_of c.numbers at)

-- the labels of a layer, one for each that is written
abbrev pub labels_of : {S : Type 0} → (List ℕ → ℕ → Option S) → ℕ → ℕ → List CertLabel → List (Option (Label S))
labels_of state_of goal at cs = map (label_of state_of goal at) cs

-- those that are there
abbrev pub there : {X : Type 0} → List (Option X) → List X
there os = flat_map option_to_list os

-- The states of the labels that are there are states.
abbrev pub AreStatesIn : {S : Type 0} → (S → Type 0) → List (Option (Label S)) → Type 0
AreStatesIn {S} is_state os = (l : Label S) → IsOneOf (there os) l → is_state l.state

-- The labels that are there have done no more than there is to do.
abbrev pub AreWithin : {S : Type 0} → ℕ → List (Option (Label S)) → Type 0
AreWithin {S} goal os = (l : Label S) → IsOneOf (there os) l → l.progress ≤ goal

-- A label has departed exactly where it has done something, and then before the step.
pub record HasLeft (step progress : ℕ) (depart : Option ℕ) : Type 0 where
  pub still : progress ≡ 0 → depart ≡ None
  pub departed : 0 < progress → (d : ℕ) × (depart ≡ Some d) × (d < step)
