use Rattle.std.proofs.Common.{◌≡◌, ℕ, Bool, cond, ◌+◌, ◌-◌, ◌<◌, List, [], ◌∷◌, ◌++◌, length, take, drop, set, get_or, map, sym, ◌∙◌, ap, subst, true, arith, length-append, append_assoc}
use Rattle.std.proofs.lemmas.List.{set-append_right, get_or-append_right, drop_more, map_more, get_or-drop, length-drop, length-take, length-map}
use Rattle.std.proofs.lemmas.Bool.{and_from}
use Rattle.std.specs.Prelude.{filter, nat_lt, Result, Ok, Err, OnOk, OnErr}
use Rattle.std.specs.List.{list_all}
use Rattle.std.specs.List.Retain.{RetainsInTurn}
use Rattle.allowance.specs.declared.limit.Limit.{Limit}
use Rattle.allowance.specs.declared.limit.Need.{Need}
use Rattle.allowance.specs.Allow.{Held, IsHeld, IsOpenNeed, one_more, passed, needed_needs, spent_limit, passed_limit, passed_need, is_open, waits, added_limits}
use Rattle.allowance.specs.Laws.AllowLaws.{held_spent, held_added, held_needed}

-- one more element is written
pub step_map : {X : Type 0} (f : X → X) (cur old : List X) (i : ℕ) (d : X) → i < length cur → cur ≡ map f (take i old) ++ drop i old →
    set cur i (f (get_or cur i d)) ≡ map f (take (i + 1) old) ++ drop (i + 1) old
step_map f cur old i d l e =
    let front = map f (take i old) in
    let le : length cur ≡ length (front ++ drop i old) = ap length e in
    let a = length-append front (drop i old) in
    let b = length-map (take i old) f in
    let c = length-take i old in
    let g = length-drop i old in
    let n : i < length old = omega arith in
    let m : length front ≡ i = omega arith in
    let z : i - i ≡ 0 = omega arith in
    let r : get_or cur i d ≡ get_or old i d = ap (λ xs. get_or xs i d) e ∙ (get_or-append_right front (drop i old) i i d m (omega arith) ∙ (get_or-drop i old (i - i) d ∙ ap (λ k. get_or old k d) (omega arith))) in
    let y = f (get_or old i d) in
    ap (λ xs. set xs i (f (get_or cur i d))) e ∙ (ap (λ v. set (front ++ drop i old) i (f v)) r ∙ (set-append_right front (drop i old) i i y m (omega arith) ∙ (ap (λ k. front ++ set (drop i old) k y) z ∙ (ap (λ xs. front ++ set xs 0 y) (drop_more old i d n) ∙ (sym (append_assoc front (y ∷ []) (drop (i + 1) old)) ∙ ap (λ xs. xs ++ drop (i + 1) old) (sym (map_more f old i d n)))))))

pub spent_is : (h : Held) (ps : List Limit) (ns : List Need) → IsHeld h → list_all (λ q. nat_lt 0 q.duty) h.limits ≡ true → list_all (λ m. nat_lt m.rest m.units) h.needs ≡ true →
    ps ≡ map spent_limit h.limits → ns ≡ map passed_need h.needs → IsHeld (record { limits = ps; needs = ns; run = 0 })
spent_is h ps ns i a b e f = subst IsHeld (ap (λ qs. record { limits = qs; needs = map passed_need h.needs; run = 0 }) (sym e) ∙ ap (λ ms. record { limits = ps; needs = ms; run = 0 }) (sym f)) (held_spent h i (and_from _ _ a b))

pub passed_is : (h : Held) (ps : List Limit) (ns : List Need) (run : ℕ) → IsHeld h → ps ≡ filter is_open (map passed_limit h.limits) → run ≡ one_more h.run → ns ≡ filter (waits run) (map passed_need h.needs) →
    record { limits = ps; needs = ns; run = run } ≡ passed h
passed_is h ps ns run i e r f =
    ap (λ qs. record { limits = qs; needs = ns; run = run }) e ∙ (ap (λ ms. record { limits = filter is_open (map passed_limit h.limits); needs = ms; run = run }) f ∙ ap (λ k. record { limits = filter is_open (map passed_limit h.limits); needs = filter (waits k) (map passed_need h.needs); run = k }) r)

pub added_is : {E : Type 0} (r : Result (Unit {0}) E) (h : Held) (p : Limit) (ps : List Limit) → IsHeld h → OnOk r (ps ≡ added_limits h.limits p) → OnErr r (ps ≡ h.limits) → IsHeld (record h { limits = ps })
added_is (Ok u) h p ps i e f = subst IsHeld (ap (λ qs. record { limits = qs; needs = h.needs; run = h.run }) (sym e)) (held_added h p i)
added_is (Err x) h p ps i e f = subst IsHeld (ap (λ qs. record { limits = qs; needs = h.needs; run = h.run }) (sym f)) i

pub needed_is : {E : Type 0} (r : Result (Unit {0}) E) (h : Held) (n : Need) (ns : List Need) → IsHeld h → IsOpenNeed h.run n → OnOk r (ns ≡ needed_needs h.needs n) → OnErr r (ns ≡ h.needs) → IsHeld (record h { needs = ns })
needed_is (Ok u) h n ns i o e f = subst IsHeld (ap (λ ms. record { limits = h.limits; needs = ms; run = h.run }) (sym e)) (held_needed h n i o)
needed_is (Err x) h n ns i o e f = subst IsHeld (ap (λ ms. record { limits = h.limits; needs = ms; run = h.run }) (sym f)) i

-- where no call changes the closure or the element, what `retain` keeps is what passes the test
pub kept_by_test : {X F : Type 0} (R : F → X → Bool → F → X → Type 0) (test : X → Bool) (f : F)
    → ((x : X) (b : Bool) (f' : F) (y : X) → R f x b f' y → (b ≡ test x) × (f' ≡ f) × (y ≡ x))
    → (xs ys : List X) → RetainsInTurn R f xs ys → ys ≡ filter test xs
kept_by_test R test f says [] ys h = h
kept_by_test R test f says (x ∷ xs) ys h =
    let said = says x h.0 h.1 h.2 h.3 in
    let rest = kept_by_test R test f says xs h.4 (subst (λ g. RetainsInTurn R g xs h.4) said.1 h.5) in
    h.6 ∙ (ap (λ b. cond b (h.2 ∷ h.4) h.4) said.0 ∙ (ap (λ y. cond (test x) (y ∷ h.4) h.4) said.2 ∙ ap (λ zs. cond (test x) (x ∷ zs) zs) rest))
