-- Labels read one by one, and looked through.
use Rattle.std.proofs.Common.{◌≡◌, ℕ, ◌+◌, ◌<◌, ◌≤◌, Bool, true, false, List, [], ◌∷◌, ◌++◌, length, take, get_or, refl, sym, ◌∙◌, ap, subst, arith, inl, inr}
use Rattle.std.specs.Prelude.{Option, None, Some, Result, Ok, Err, IfOk, nat_le, map, if◌then◌else◌}
use Rattle.std.specs.Option.{option_to_list}
use Rattle.std.proofs.lemmas.Bool.Decides.{nat_tests}
use Rattle.std.proofs.lemmas.List.{take_more, take_all, map-append, flat_map_more}
use Rattle.rule_core.specs.Reach.{IsOneOf}
use Rattle.rule_core.specs.Laws.OneOf.{one_of-append, one_of-map, one_of-flat_map, one_of_item, one_of_flat_map}
use Rattle.tour_model.specs.declared.label.Label.{Label}
use Rattle.cert_text.specs.declared.cert.CertLabel.{CertLabel}
use Rattle.cert_text.specs.CoverLists.Problem.{Problem, is_better}
use Rattle.cert_text.specs.CoverLists.Cover.{IsCovered, NoneCovers}
use Rattle.cert_checker.specs.Parsed.{label_with, label_of, labels_of, there, AreStatesIn, AreWithin}

-- what holds of a value that was made, by what is known of it
pub ok_also : {T E : Type 0} (r : Result T E) (P Q : T → Type 0) → ((v : T) → P v → Q v) → IfOk r P → IfOk r Q
ok_also (Ok v) P Q f h = f v h
ok_also (Err e) P Q f h = tt

-- one item more
pub mapped_more : {X Y : Type 0} (f : X → Y) (xs : List X) (i : ℕ) (x : X) (y : Y) (a b : List Y) → i < length xs → x ≡ get_or xs i x → a ≡ map f (take i xs) → y ≡ f x → b ≡ a ++ y ∷ [] → b ≡ map f (take (i + 1) xs)
mapped_more f xs i x y a b lt e h is new =
    let more : take (i + 1) xs ≡ take i xs ++ x ∷ [] = take_more xs i x lt ∙ ap (λ z. take i xs ++ z ∷ []) (sym e) in
    new ∙ (ap (λ ys. ys ++ y ∷ []) h ∙ (ap (λ z. map f (take i xs) ++ z ∷ []) is ∙ sym (ap (map f) more ∙ map-append f (take i xs) (x ∷ []))))

pub mapped_all : {X Y : Type 0} (f : X → Y) (xs : List X) (i : ℕ) (a : List Y) → length xs ≤ i → a ≡ map f (take i xs) → a ≡ map f xs
mapped_all f xs i a le h = h ∙ ap (map f) (take_all i xs le)

when_some : {X : Type 0} (b : Bool) (x y : X) → (if b then Some x else None) ≡ Some y → (b ≡ true) × (x ≡ y)
when_some true x y e = (refl, (let f : Some x ≡ Some y = e in cc))
when_some false x y e = absurd (let f : None ≡ Some y = e in cc)

-- What a label that is read says.
pub record IsRead {S : Type 0} (goal : ℕ) (c : CertLabel) (o : Option S) (l : Label S) : Type 0 where
  pub state : o ≡ Some l.state
  pub within : c.progress ≤ goal
  pub depart : l.depart ≡ c.depart
  pub progress : l.progress ≡ c.progress

pub label_read : {S : Type 0} (goal : ℕ) (c : CertLabel) (o : Option S) (l : Label S) → label_with goal c o ≡ Some l → IsRead goal c o l
label_read goal c None l e = absurd (let f : None ≡ Some l = e in cc)
label_read goal c (Some s) l e =
    let w = when_some (nat_le c.progress goal) (record { depart = c.depart; progress = c.progress; state = s }) l e in
    let le : nat_le c.progress goal ≡ true = w.0 in
    record {
      state = ap (λ m. Some m.state) w.1;
      within = grind (arith, nat_tests);
      depart = sym (ap (λ m. m.depart) w.1);
      progress = sym (ap (λ m. m.progress) w.1);
    }

pub in_option : {X : Type 0} (o : Option X) (x : X) → IsOneOf (option_to_list o) x → o ≡ Some x
in_option None x h = absurd h
in_option (Some y) x h = elim h [ inl e ↦ ap (λ z. Some z) e | inr z ↦ absurd z ]

pub option_in : {X : Type 0} (o : Option X) (x : X) → o ≡ Some x → IsOneOf (option_to_list o) x
option_in o x e = subst (λ p. IsOneOf (option_to_list p) x) (sym e) (inl refl)

-- a label that is there is read from one that is written
pub there_read : {S : Type 0} (state_of : List ℕ → ℕ → Option S) (goal at : ℕ) (cs : List CertLabel) (l : Label S) → IsOneOf (there (labels_of state_of goal at cs)) l →
    (c : CertLabel) × IsOneOf cs c × (label_of state_of goal at c ≡ Some l)
there_read state_of goal at cs l h =
    let q = one_of-flat_map option_to_list (labels_of state_of goal at cs) l h in
    let r = one_of-map (label_of state_of goal at) cs q.0 q.1 in
    (r.0, r.1, r.2 ∙ in_option q.0 l q.2)

pub states_read : {S : Type 0} (is_state : S → ℕ → Type 0) (state_of : List ℕ → ℕ → Option S) (numbers : S → ℕ → List ℕ) → ((ns : List ℕ) (s : S) (at : ℕ) → state_of ns at ≡ Some s → is_state s at × (numbers s at ≡ ns)) →
    (goal at : ℕ) (cs : List CertLabel) → AreStatesIn (λ s. is_state s at) (labels_of state_of goal at cs)
states_read is_state state_of numbers told goal at cs l h =
    let q = there_read state_of goal at cs l h in
    (told q.0.numbers l.state at (label_read goal q.0 (state_of q.0.numbers at) l q.2).state).0

pub within_read : {S : Type 0} (state_of : List ℕ → ℕ → Option S) (goal at : ℕ) (cs : List CertLabel) → AreWithin goal (labels_of state_of goal at cs)
within_read state_of goal at cs l h =
    let q = there_read state_of goal at cs l h in
    let r = label_read goal q.0 (state_of q.0.numbers at) l q.2 in
    let e = r.progress in let le = r.within in omega arith

-- ---- looking through the labels that are there

pub there_more : {X : Type 0} (os : List (Option X)) (i : ℕ) (o : Option X) → i < length os → o ≡ get_or os i o → there (take (i + 1) os) ≡ there (take i os) ++ option_to_list o
there_more os i o lt e =
    let more : take (i + 1) os ≡ take i os ++ o ∷ [] = take_more os i o lt ∙ ap (λ z. take i os ++ z ∷ []) (sym e) in
    ap there more ∙ sym (flat_map_more option_to_list [] (take i os) o)

pub there_item : {X : Type 0} (os : List (Option X)) (i : ℕ) (o : Option X) (x : X) → i < length os → o ≡ get_or os i o → o ≡ Some x → IsOneOf (there os) x
there_item os i o x lt e is = one_of_flat_map option_to_list os o x (one_of_item os i o lt e) (option_in o x is)

pub none_more : {S : Type 0} (problem : Problem S) (step : ℕ) (os : List (Option (Label S))) (l : Label S) (i : ℕ) (o : Option (Label S)) → i < length os → o ≡ get_or os i o →
    NoneCovers problem step (there (take i os)) l → NoneCovers problem step (option_to_list o) l → NoneCovers problem step (there (take (i + 1) os)) l
none_more problem step os l i o lt e h b m q =
    elim (one_of-append (there (take i os)) (option_to_list o) m (subst (λ ys. IsOneOf ys m) (there_more os i o lt e) q)) [ inl x ↦ h m x | inr y ↦ b m y ]

pub none_here : {S : Type 0} (problem : Problem S) (step : ℕ) (l : Label S) (o : Option (Label S)) (x : Label S) → o ≡ Some x → is_better problem step x l ≡ false → NoneCovers problem step (option_to_list o) l
none_here problem step l o x e b m q = subst (λ y. is_better problem step y l ≡ false) (let f : Some x ≡ Some m = sym e ∙ in_option o m q in let g : x ≡ m = cc in g) b

pub none_absent : {S : Type 0} (problem : Problem S) (step : ℕ) (l : Label S) (o : Option (Label S)) → o ≡ None → NoneCovers problem step (option_to_list o) l
none_absent problem step l o e m q = absurd (let f : None ≡ Some m = sym e ∙ in_option o m q in cc)

pub none_covered : {S : Type 0} (problem : Problem S) (step : ℕ) (layer : List (Label S)) (l : Label S) → NoneCovers problem step layer l → IsCovered problem step layer l → ⊥
none_covered problem step layer l h c = let f : is_better problem step c.0 l ≡ false = h c.0 c.1 in let g : is_better problem step c.0 l ≡ true = c.2 in absurd (let z : true ≡ false = sym g ∙ f in cc)

pub none_all : {S : Type 0} (problem : Problem S) (step : ℕ) (os : List (Option (Label S))) (l : Label S) (i : ℕ) → length os ≤ i → NoneCovers problem step (there (take i os)) l → IsCovered problem step (there os) l → ⊥
none_all problem step os l i le h c = none_covered problem step (there os) l (subst (λ ys. NoneCovers problem step (there ys) l) (take_all i os le) h) c

not_true : (b : Bool) → (b ≡ true → ⊥) → b ≡ false
not_true true h = absurd (h refl)
not_true false h = refl

pub uncovered : {S : Type 0} (problem : Problem S) (step : ℕ) (layer : List (Label S)) (l : Label S) → (IsCovered problem step layer l → ⊥) → NoneCovers problem step layer l
uncovered problem step layer l h m o = not_true (is_better problem step m l) (λ e. h (m, o, e))

le_is : (a b : ℕ) → a ≤ b → nat_le a b ≡ true
le_is a b h = grind (arith, nat_tests)

chosen : {X : Type 0} (b : Bool) (x y : X) → b ≡ true → (if b then x else y) ≡ x
chosen b x y e = ap (λ c. if c then x else y) e

-- what is written of a label is read as that label
pub label_back : {S : Type 0} (state_of : List ℕ → ℕ → Option S) (goal at : ℕ) (c : CertLabel) (l : Label S) → l.depart ≡ c.depart → l.progress ≡ c.progress → state_of c.numbers at ≡ Some l.state → l.progress ≤ goal → label_of state_of goal at c ≡ Some l
label_back {S} state_of goal at c l d p s le =
    let m : Label S = record { depart = c.depart; progress = c.progress; state = l.state } in
    let less : c.progress ≤ goal = omega arith in
    ap (label_with goal c) s ∙ (chosen (nat_le c.progress goal) (Some m) None (le_is c.progress goal less)
    ∙ ap (λ x. Some x) (ap (λ o. record { depart = o; progress = c.progress; state = l.state }) (sym d) ∙ ap (λ n. record { depart = l.depart; progress = n; state = l.state }) (sym p)))
