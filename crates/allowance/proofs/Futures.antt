use Rattle.std.proofs.Common.{◌≡◌, ◌↔◌, ℕ, ◌≤◌, Bool, true, false, List, [], ◌∷◌, map, sym, ◌∙◌, ap, subst, refl}
use Rattle.std.specs.Prelude.{All, Result, Ok, Err, OnOk}
use Rattle.duty_core.specs.declared.activity.Activity.{Activity}
use Rattle.duty_core.specs.Activity.{works}
use Rattle.allowance.specs.declared.limit.Limit.{Limit}
use Rattle.allowance.specs.declared.limit.Need.{Need}
use Rattle.allowance.specs.Allow.{Held, Allows, KeepsLimit, MeetsNeed, IsHeld, settled, needed_needs, may_spend, spent, passed, added, needed, spent_limit, passed_need, added_limits}
use Rattle.allowance.specs.Laws.AllowLaws.{allows_duty, allows_rest, allows_none, allows_added, allows_needed, allows_settled, held_spent}

pub passes : (old h new : Held) → old ≡ h → IsHeld h → new ≡ passed h → (x : Activity) (xs : List Activity) → works x ≡ false → Allows old (x ∷ xs) ↔ Allows new xs
passes old h new o i g x xs w = subst (λ k. Allows k (x ∷ xs) ↔ Allows new xs) (sym o) (subst (λ k. Allows h (x ∷ xs) ↔ Allows k xs) (sym g) (allows_rest h x xs w i))

pub spends : (old h : Held) (ps : List Limit) (ns : List Need) → old ≡ h → IsHeld h → may_spend h ≡ true → ps ≡ map spent_limit h.limits → ns ≡ map passed_need h.needs →
    (x : Activity) (xs : List Activity) → works x ≡ true → Allows old (x ∷ xs) ↔ ((true ≡ true) × Allows (record { limits = ps; needs = ns; run = 0 }) xs)
spends old h ps ns o i m e f x xs w =
    let g : record { limits = ps; needs = ns; run = 0 } ≡ spent h = ap (λ qs. record { limits = qs; needs = ns; run = 0 }) e ∙ ap (λ ms. record { limits = map spent_limit h.limits; needs = ms; run = 0 }) f in
    let a = allows_duty h x xs w i in
    subst (λ k. Allows k (x ∷ xs) ↔ ((true ≡ true) × Allows (record { limits = ps; needs = ns; run = 0 }) xs)) (sym o)
    (subst (λ k. Allows h (x ∷ xs) ↔ ((true ≡ true) × Allows k xs)) (sym g) ((λ k. (refl, (a.0 k).1)), (λ k. a.1 (m, k.1))))

pub spends_not : (old h : Held) → old ≡ h → IsHeld h → may_spend h ≡ false →
    (x : Activity) (xs : List Activity) → works x ≡ true → Allows old (x ∷ xs) ↔ ((false ≡ true) × Allows old xs)
spends_not old h o i m x xs w =
    let a = allows_duty h x xs w i in
    ((λ k. absurd (let z : false ≡ true = sym m ∙ (a.0 (subst (λ g. Allows g (x ∷ xs)) o k)).0 in cc)), (λ k. absurd (let z = k.0 in cc)))

-- one duty unit alone, and rest for good after it
pub spends_alone : (old h : Held) (b : Bool) → old ≡ h → IsHeld h → may_spend h ≡ b → (x : Activity) → works x ≡ true → Allows old (x ∷ []) ↔ (b ≡ true)
spends_alone old h b o i m x w =
    let a = allows_duty h x [] w i in (
      (λ k. sym m ∙ (a.0 (subst (λ g. Allows g (x ∷ [])) o k)).0),
      (λ t. subst (λ g. Allows g (x ∷ [])) (sym o) (a.1 (m ∙ t, allows_none (spent h) (held_spent h i (m ∙ t))))),
    )

pub adds : {E : Type 0} (r : Result (Unit {0}) E) (old h : Held) (p : Limit) (ps : List Limit) → old ≡ h → OnOk r (ps ≡ added_limits h.limits p) →
    OnOk r ((xs : List Activity) → Allows (record h { limits = ps }) xs ↔ (Allows old xs × KeepsLimit xs p))
adds (Ok u) old h p ps o e = λ xs.
    subst (λ qs. Allows (record h { limits = qs }) xs ↔ (Allows old xs × KeepsLimit xs p)) (sym e)
    (subst (λ k. Allows (added h p) xs ↔ (Allows k xs × KeepsLimit xs p)) (sym o) (allows_added h p xs))
adds (Err y) old h p ps o e = tt

pub needs_more : {E : Type 0} (r : Result (Unit {0}) E) (old h : Held) (n : Need) (ns : List Need) → old ≡ h → OnOk r (ns ≡ needed_needs h.needs n) →
    OnOk r ((xs : List Activity) → Allows (record h { needs = ns }) xs ↔ (Allows old xs × MeetsNeed old.run xs n))
needs_more (Ok u) old h n ns o e = λ xs.
    subst (λ ms. Allows (record h { needs = ms }) xs ↔ (Allows old xs × MeetsNeed old.run xs n)) (sym e)
    (subst (λ k. Allows (needed h n) xs ↔ (Allows k xs × MeetsNeed k.run xs n)) (sym o) (allows_needed h n xs))
needs_more (Err y) old h n ns o e = tt

pub settles : (old h : Held) (longest : ℕ) → old ≡ h → IsHeld h → All (λ n. n.rest ≤ longest) old.needs → (xs : List Activity) → Allows old xs ↔ Allows (settled h longest) xs
settles old h longest o i l xs =
    subst (λ k. Allows k xs ↔ Allows (settled h longest) xs) (sym o) (allows_settled h longest xs i (subst (λ k. All (λ n. n.rest ≤ longest) k.needs) o l))
