-- A rule is among the broken ones exactly where it is not kept.
use Rattle.std.proofs.Common.{◌≡◌, ◌⊎◌, ◌↔◌, List, [], ◌∷◌, ◌++◌, Contains, zero, suc, refl, sym, subst, ap, arith, inl, inr}
use Rattle.duty_core.specs.declared.rule.Rule.{Rule}
use Rattle.rule_readings.specs.Broken.{AreBroken}

-- a rule of a list is its first, or one of the others
pub contains_cases : (first rule : Rule) (rules : List Rule) → Contains (first ∷ rules) rule → (first ≡ rule) ⊎ Contains rules rule
contains_cases first rule rules (zero, l, e) = inl e
contains_cases first rule rules (suc k, l, e) = inr (k, omega arith, e)

contains_first : (rule : Rule) (rules : List Rule) → Contains (rule ∷ rules) rule
contains_first rule rules = (0, omega arith, refl)

contains_later : (first rule : Rule) (rules : List Rule) → Contains rules rule → Contains (first ∷ rules) rule
contains_later first rule rules (k, l, e) = (suc k, omega arith, e)

-- a broken rule is not kept
pub listed_is_broken : (Kept : Rule → Type 0) (rules broken : List Rule) → AreBroken Kept rules broken → (rule : Rule) → Contains broken rule → Kept rule → ⊥
listed_is_broken Kept [] broken h rule c k = (let c2 = subst (λ rs. Contains rs rule) h c in let l = c2.1 in omega arith)
listed_is_broken Kept (first ∷ rules) broken (inl h) rule c k = listed_is_broken Kept rules broken h.1 rule c k
listed_is_broken Kept (first ∷ rules) broken (inr h) rule c k =
    elim (contains_cases first rule h.1.0 (subst (λ rs. Contains rs rule) h.1.1 c)) [
      | inl e ↦ h.0 (subst Kept (sym e) k)
      | inr d ↦ listed_is_broken Kept rules h.1.0 h.1.2 rule d k
    ]

-- and a rule that is not kept is among them
pub broken_is_listed : (Kept : Rule → Type 0) (rules broken : List Rule) → AreBroken Kept rules broken → (rule : Rule) → Contains rules rule → (Kept rule → ⊥) → Contains broken rule
broken_is_listed Kept [] broken h rule c k = absurd (let l = c.1 in omega arith)
broken_is_listed Kept (first ∷ rules) broken (inl h) rule c k =
    elim (contains_cases first rule rules c) [
      | inl e ↦ absurd (k (subst Kept e h.0))
      | inr d ↦ broken_is_listed Kept rules broken h.1 rule d k
    ]
broken_is_listed Kept (first ∷ rules) broken (inr h) rule c k =
    elim (contains_cases first rule rules c) [
      | inl e ↦ subst (λ rs. Contains rs rule) (sym h.1.1) (subst (λ r. Contains (first ∷ h.1.0) r) e (contains_first first h.1.0))
      | inr d ↦ subst (λ rs. Contains rs rule) (sym h.1.1) (contains_later first rule h.1.0 (broken_is_listed Kept rules h.1.0 h.1.2 rule d k))
    ]

pub broken_exactly : (Kept : Rule → Type 0) (rules broken : List Rule) → AreBroken Kept rules broken → (rule : Rule) → Contains rules rule → Contains broken rule ↔ (Kept rule → ⊥)
broken_exactly Kept rules broken h rule c = ((λ d. listed_is_broken Kept rules broken h rule d), (λ k. broken_is_listed Kept rules broken h rule c k))

-- one more rule, which is kept
pub broken_kept : (Kept : Rule → Type 0) (rules broken : List Rule) (rule : Rule) → AreBroken Kept rules broken → Kept rule → AreBroken Kept (rules ++ rule ∷ []) broken
broken_kept Kept [] broken rule h k = inl (k, h)
broken_kept Kept (first ∷ rules) broken rule (inl h) k = inl (h.0, broken_kept Kept rules broken rule h.1 k)
broken_kept Kept (first ∷ rules) broken rule (inr h) k = inr (h.0, (h.1.0, h.1.1, broken_kept Kept rules h.1.0 rule h.1.2 k))

-- one more rule, which is not kept
pub broken_more : (Kept : Rule → Type 0) (rules broken : List Rule) (rule : Rule) → AreBroken Kept rules broken → (Kept rule → ⊥) → AreBroken Kept (rules ++ rule ∷ []) (broken ++ rule ∷ [])
broken_more Kept [] broken rule h k = inr (k, ([], ap (λ rs. rs ++ rule ∷ []) h, refl))
broken_more Kept (first ∷ rules) broken rule (inl h) k = inl (h.0, broken_more Kept rules broken rule h.1 k)
broken_more Kept (first ∷ rules) broken rule (inr h) k = inr (h.0, (h.1.0 ++ rule ∷ [], ap (λ rs. rs ++ rule ∷ []) h.1.1, broken_more Kept rules h.1.0 rule h.1.2 k))
