-- The successors that are listed, of three that may be there.
use Rattle.std.proofs.Common.{◌≡◌, ◌++◌, List, refl, sym, ◌∙◌, ap, subst, inl}
use Rattle.std.specs.Prelude.{Option, None, Some, map, flat_map, IfSome}
use Rattle.std.specs.Option.{option_to_list}
use Rattle.std.proofs.lemmas.List.{map-append}
use Rattle.std.proofs.lemmas.List.Concat.{flat_map-append}
use Rattle.rule_core.specs.declared.nexts.Next.{Next}
use Rattle.rule_core.specs.declared.nexts.Nexts.{Nexts}
use Rattle.rule_core.specs.Reach.{listed, nexts_made, IsOneOf}
use Rattle.rule_core.specs.Laws.OneOf.{one_of-append_left, one_of-append_right}

-- successors that are the images of three lists
pub listed_images : {S C : Type 0} (f : C → Next S) (a b c : Option (Next S)) (xs ys zs : List C) → option_to_list a ≡ map f xs → option_to_list b ≡ map f ys → option_to_list c ≡ map f zs →
    listed (nexts_made a b c) ≡ map f (xs ++ (ys ++ zs))
listed_images f a b c xs ys zs p q r =
    ap (λ l. l ++ (option_to_list b ++ option_to_list c)) p
    ∙ (ap (λ l. map f xs ++ l) (ap (λ l. l ++ option_to_list c) q ∙ (ap (λ l. map f ys ++ l) r ∙ sym (map-append f ys zs)))
    ∙ sym (map-append f xs (ys ++ zs)))

-- what each successor leads to
pub listed_later : {S : Type 0} (go : Option (Next S) → Option (Next S)) (f : Next S → List (Next S)) (ns : Nexts S) → ((o : Option (Next S)) → option_to_list (go o) ≡ flat_map f (option_to_list o)) →
    listed (nexts_made (go ns.a) (go ns.b) (go ns.c)) ≡ flat_map f (listed ns)
listed_later go f ns each =
    let a = option_to_list ns.a in
    let b = option_to_list ns.b in
    let c = option_to_list ns.c in
    ap (λ l. l ++ (option_to_list (go ns.b) ++ option_to_list (go ns.c))) (each ns.a)
    ∙ (ap (λ l. flat_map f a ++ l)
    (ap (λ l. l ++ option_to_list (go ns.c)) (each ns.b)
    ∙ (ap (λ l. flat_map f b ++ l) (each ns.c) ∙ sym (flat_map-append f b c)))
    ∙ sym (flat_map-append f a (b ++ c)))

if_some : {S : Type 0} (P : Next S → Type 0) (o : Option (Next S)) → ((t : Next S) → IsOneOf (option_to_list o) t → P t) → IfSome o P
if_some P None h = tt
if_some P (Some t) h = h t (inl refl)

-- what holds of each that is listed
pub is_listed : {S : Type 0} (P : Next S → Type 0) (ns : Nexts S) → ((t : Next S) → IsOneOf (listed ns) t → P t) → IfSome ns.a P × IfSome ns.b P × IfSome ns.c P
is_listed P ns h =
    let b = option_to_list ns.b in
    let c = option_to_list ns.c in (
      if_some P ns.a (λ t o. h t (one_of-append_left (option_to_list ns.a) (b ++ c) t o)),
      if_some P ns.b (λ t o. h t (one_of-append_right (option_to_list ns.a) (b ++ c) t (one_of-append_left b c t o))),
      if_some P ns.c (λ t o. h t (one_of-append_right (option_to_list ns.a) (b ++ c) t (one_of-append_right b c t o))),
    )

-- the first of the successors is one of those listed
pub first_listed : {S : Type 0} (ns : Nexts S) (t : Next S) (l : List (Next S)) → listed ns ≡ l → ns.a ≡ Some t → IsOneOf l t
first_listed ns t l e first =
    subst (λ m. IsOneOf m t) (ap (λ o. option_to_list o ++ (option_to_list ns.b ++ option_to_list ns.c)) (sym first) ∙ e) (inl refl)

-- so is the one in the middle
pub middle_listed : {S : Type 0} (ns : Nexts S) (t : Next S) (l : List (Next S)) → listed ns ≡ l → ns.b ≡ Some t → IsOneOf l t
middle_listed ns t l e middle =
    subst (λ m. IsOneOf m t) e
    (one_of-append_right (option_to_list ns.a) (option_to_list ns.b ++ option_to_list ns.c) t
    (subst (λ o. IsOneOf (option_to_list o ++ option_to_list ns.c) t) (sym middle) (inl refl)))

-- and so is the last
pub last_listed : {S : Type 0} (ns : Nexts S) (t : Next S) (l : List (Next S)) → listed ns ≡ l → ns.c ≡ Some t → IsOneOf l t
last_listed ns t l e last =
    subst (λ m. IsOneOf m t) e
    (one_of-append_right (option_to_list ns.a) (option_to_list ns.b ++ option_to_list ns.c) t
    (one_of-append_right (option_to_list ns.b) (option_to_list ns.c) t (subst (λ o. IsOneOf (option_to_list o) t) (sym last) (inl refl))))
