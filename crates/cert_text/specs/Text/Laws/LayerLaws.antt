-- Labels and layers: what is read is spelled so, and what is spelled so is read.
use Rattle.std.proofs.Common.{◌≡◌, ℕ, zero, suc, ◌+◌, ◌<◌, ◌≤◌, Bool, true, false, cond, eqb, List, [], ◌∷◌, ◌++◌, length, codes, Option, None, Some, Result, Ok, Err, refl, sym, ap, subst, ◌∙◌, append_assoc, arith}
use Rattle.std.specs.Prelude.{IfSome}
use Rattle.std.specs.Fmt.{decimal}
use Rattle.std.specs.List.{flat_map, AllByRecursion}
use Rattle.std.proofs.lemmas.Bool.{eqb-true}
use Rattle.std.proofs.lemmas.Bool.Decides.{nat_tests}
use Rattle.std.proofs.lemmas.List.Concat.{flat_map-cons}
use Rattle.cert_text.specs.declared.cert.CertLabel.{CertLabel}
use Rattle.rule_core.specs.declared.numbers.TheConstants.{NUMBER_LIMIT, MOST_NUMBERS}
use Rattle.cert_text.specs.Text.Form.{IsLabelForm, IsLayerForm}
use Rattle.cert_text.specs.Text.Spelling.{number_or_dash, state_number, label_line, layer_head, layer_lines, layers_lines}
use Rattle.cert_text.specs.Text.Reading.{◌>>=◌, word_at, strip_at, number_at, dash_or_number_at, after_space, numbers_at, label_at, labels_at, layer_head_at, layer_at, layers_at}
use Rattle.cert_text.specs.Text.Laws.WordLaws.{bind_ok, bind_is, ok_is, guard_ok, strip_takes, strip_again, word_takes, IsBehindNumber, number_again, number_takes, then_takes}
use Rattle.cert_text.specs.Text.Laws.ItemLaws.{AreGood, Takes, IsReadAgain, repeat_takes, repeat_again}

-- ---- a dash or a number

pub dash_takes : (bytes : List ℕ) (x : Option ℕ × List ℕ) → dash_or_number_at bytes ≡ Ok x → (bytes ≡ number_or_dash x.0 ++ x.1) × IfSome x.0 (λ d. d < NUMBER_LIMIT)
unfolding dash_or_number_at
dash_takes [] x e = absurd cc
dash_takes (b ∷ rest) x e = go (eqb b 45) refl e
  where
    go : (t : Bool) → eqb b 45 ≡ t → cond t (Ok (None, rest)) (number_at (b ∷ rest) >>= λ n. Ok (Some n.0, n.1)) ≡ Ok x → (b ∷ rest ≡ number_or_dash x.0 ++ x.1) × IfSome x.0 (λ d. d < NUMBER_LIMIT)
    go true is e =
        let same : b ≡ 45 = eqb-true _ _ is in
        subst (λ (y : Option ℕ × List ℕ). (b ∷ rest ≡ number_or_dash y.0 ++ y.1) × IfSome y.0 (λ d. d < NUMBER_LIMIT)) (ok_is (None, rest) x e) (ap (λ k. k ∷ rest) same, tt)
    go false is e =
        let n = bind_ok (number_at (b ∷ rest)) (λ n. Ok (Some n.0, n.1)) x e in
        subst (λ (y : Option ℕ × List ℕ). (b ∷ rest ≡ number_or_dash y.0 ++ y.1) × IfSome y.0 (λ d. d < NUMBER_LIMIT)) (ok_is (Some n.0.0, n.0.1) x n.2) (number_takes (b ∷ rest) n.0.0 n.0.1 n.1)

no_dash : (rest : List ℕ) (x : ℕ × List ℕ) → number_at (45 ∷ rest) ≡ Ok x → ⊥
unfolding number_at
no_dash rest x e = absurd cc

no_number : (x : ℕ × List ℕ) → number_at [] ≡ Ok x → ⊥
unfolding number_at
no_number x e = absurd cc

a_number : (bytes : List ℕ) (n : ℕ) (rest : List ℕ) → number_at bytes ≡ Ok (n, rest) → dash_or_number_at bytes ≡ Ok (Some n, rest)
unfolding dash_or_number_at
a_number [] n rest e = absurd (no_number (n, rest) e)
a_number (b ∷ bytes) n rest e = go (eqb b 45) refl
  where
    go : (t : Bool) → eqb b 45 ≡ t → ◌≡◌ {A = Result (Option ℕ × List ℕ) ℕ} (cond t (Ok (None, bytes)) (number_at (b ∷ bytes) >>= λ n. Ok (Some n.0, n.1))) (Ok (Some n, rest))
    go true is =
        let same : b ≡ 45 = eqb-true _ _ is in absurd (no_dash bytes (n, rest) (ap (λ k. number_at (k ∷ bytes)) (sym same) ∙ e))
    go false is = rw e refl

dash_again : (o : Option ℕ) (rest : List ℕ) → IfSome o (λ d. d < NUMBER_LIMIT) → IsBehindNumber rest → dash_or_number_at (number_or_dash o ++ rest) ≡ Ok (o, rest)
unfolding dash_or_number_at
dash_again None rest few thereafter = refl
dash_again (Some n) rest few thereafter = a_number (decimal n ++ rest) n rest (number_again n rest few thereafter)

-- ---- the numbers of a state

-- what numbers take of the bytes
pub record TakesNumbers (most : ℕ) (bytes ns rest : List ℕ) : Type 0 where
  pub parts : bytes ≡ flat_map state_number ns ++ rest
  pub few : length ns ≤ most
  pub below : AllByRecursion (λ n. n < NUMBER_LIMIT) ns

pub numbers_take : (most : ℕ) (bytes : List ℕ) (x : List ℕ × List ℕ) → numbers_at most bytes ≡ Ok x → TakesNumbers most bytes x.0 x.1
unfolding numbers_at
numbers_take zero bytes x e = subst (λ (y : List ℕ × List ℕ). TakesNumbers 0 bytes y.0 y.1) (ok_is ([], bytes) x e) (record { parts = refl; few = omega arith; below = tt })
numbers_take (suc most) bytes x e = go (λ rest y. numbers_take most rest y) (strip_at (codes " ") bytes) refl e
  where
    go : ((rest : List ℕ) (y : List ℕ × List ℕ) → numbers_at most rest ≡ Ok y → TakesNumbers most rest y.0 y.1) → (o : Option (List ℕ)) → strip_at (codes " ") bytes ≡ o
        → after_space bytes o (λ rest. number_at rest >>= λ n. numbers_at most n.1 >>= λ others. Ok (n.0 ∷ others.0, others.1)) ≡ Ok x → TakesNumbers (suc most) bytes x.0 x.1
    go later None is e = subst (λ (y : List ℕ × List ℕ). TakesNumbers (suc most) bytes y.0 y.1) (ok_is ([], bytes) x e) (record { parts = refl; few = omega arith; below = tt })
    go later (Some rest) is e =
        let n = bind_ok (number_at rest) (λ n. numbers_at most n.1 >>= λ others. Ok (n.0 ∷ others.0, others.1)) x e in
        let o = bind_ok (numbers_at most n.0.1) (λ others. Ok (n.0.0 ∷ others.0, others.1)) x n.2 in
        let number = number_takes rest n.0.0 n.0.1 n.1 in
        let others = later n.0.1 o.0 o.1 in
        let one : bytes ≡ state_number n.0.0 ++ n.0.1 = strip_takes (codes " ") bytes rest is ∙ ap (λ (t : List ℕ). codes " " ++ t) number.0 in
        let whole = then_takes bytes (state_number n.0.0) n.0.1 (flat_map state_number o.0.0) o.0.1 one others.parts in
        subst (λ (y : List ℕ × List ℕ). TakesNumbers (suc most) bytes y.0 y.1) (ok_is (n.0.0 ∷ o.0.0, o.0.1) x o.2)
        (record { parts = whole ∙ ap (λ (t : List ℕ). t ++ o.0.1) (sym (flat_map-cons state_number n.0.0 o.0.0)); few = omega (arith, others.few); below = (number.1, others.below) })

-- what follows a number of a state is no digit
after_numbers : (ns rest : List ℕ) → IsBehindNumber rest → IsBehindNumber (flat_map state_number ns ++ rest)
after_numbers [] rest h = h
after_numbers (n ∷ ns) rest h = refl

numbers_again : (most : ℕ) (ns rest : List ℕ) → length ns ≤ most → AllByRecursion (λ n. n < NUMBER_LIMIT) ns → IsBehindNumber rest → strip_at (codes " ") rest ≡ None
    → numbers_at most (flat_map state_number ns ++ rest) ≡ Ok (ns, rest)
unfolding numbers_at
numbers_again zero [] rest few below thereafter end = refl
numbers_again zero (n ∷ ns) rest few below thereafter end = absurd (omega arith)
numbers_again (suc most) [] rest few below thereafter end = rw end refl
numbers_again (suc most) (n ∷ ns) rest few below thereafter end =
    let tail = flat_map state_number ns ++ rest in
    let regrouped : flat_map state_number (n ∷ ns) ++ rest ≡ codes " " ++ (decimal n ++ tail) =
    ap (λ (t : List ℕ). t ++ rest) (flat_map-cons state_number n ns) ∙ append_assoc (state_number n) (flat_map state_number ns) rest ∙ append_assoc (codes " ") (decimal n) tail in
    let others = numbers_again most ns rest (omega arith) below.1 thereafter end in
    ap (numbers_at (suc most)) regrouped ∙ rw (strip_again (codes " ") (decimal n ++ tail), number_again n tail below.0 (after_numbers ns rest thereafter), others) refl

-- ---- labels

abbrev pub GoodLabel : ℕ → CertLabel → List ℕ → Type 0
GoodLabel s label text = IsLabelForm label × (text ≡ label_line label)

no_space : (rest : List ℕ) → strip_at (codes " ") (codes "\n" ++ rest) ≡ None
unfolding strip_at
no_space rest = refl

pub label_takes : Takes (λ (s : ℕ). label_at) GoodLabel
unfolding label_at
label_takes s bytes label rest e =
    let a = bind_ok (word_at (codes "l ") bytes) (λ a. dash_or_number_at a >>= λ d. word_at (codes " ") d.1 >>= λ b. number_at b >>= λ p. numbers_at MOST_NUMBERS p.1 >>= λ ns. word_at (codes "\n") ns.1 >>= λ c. Ok (record { depart = d.0; progress = p.0; numbers = ns.0 }, c)) (label, rest) e in
    let d = bind_ok (dash_or_number_at a.0) (λ d. word_at (codes " ") d.1 >>= λ b. number_at b >>= λ p. numbers_at MOST_NUMBERS p.1 >>= λ ns. word_at (codes "\n") ns.1 >>= λ c. Ok (record { depart = d.0; progress = p.0; numbers = ns.0 }, c)) (label, rest) a.2 in
    let b = bind_ok (word_at (codes " ") d.0.1) (λ b. number_at b >>= λ p. numbers_at MOST_NUMBERS p.1 >>= λ ns. word_at (codes "\n") ns.1 >>= λ c. Ok (record { depart = d.0.0; progress = p.0; numbers = ns.0 }, c)) (label, rest) d.2 in
    let p = bind_ok (number_at b.0) (λ p. numbers_at MOST_NUMBERS p.1 >>= λ ns. word_at (codes "\n") ns.1 >>= λ c. Ok (record { depart = d.0.0; progress = p.0; numbers = ns.0 }, c)) (label, rest) b.2 in
    let ns = bind_ok (numbers_at MOST_NUMBERS p.0.1) (λ ns. word_at (codes "\n") ns.1 >>= λ c. Ok (record { depart = d.0.0; progress = p.0.0; numbers = ns.0 }, c)) (label, rest) p.2 in
    let c = bind_ok (word_at (codes "\n") ns.0.1) (λ c. Ok (record { depart = d.0.0; progress = p.0.0; numbers = ns.0.0 }, c)) (label, rest) ns.2 in
    let made : CertLabel × List ℕ = (record { depart = d.0.0; progress = p.0.0; numbers = ns.0.0 }, c.0) in
    let depart = dash_takes a.0 d.0 d.1 in
    let progress = number_takes b.0 p.0.0 p.0.1 p.1 in
    let numbers = numbers_take MOST_NUMBERS p.0.1 ns.0 ns.1 in
    let line4 = flat_map state_number ns.0.0 ++ codes "\n" in
    let line3 = decimal p.0.0 ++ line4 in
    let line2 = codes " " ++ line3 in
    let whole : bytes ≡ label_line made.0 ++ c.0 =
    then_takes bytes (codes "l ") a.0 (number_or_dash d.0.0 ++ line2) c.0 (word_takes (codes "l ") bytes a.0 a.1)
    (then_takes a.0 (number_or_dash d.0.0) d.0.1 line2 c.0 depart.0
    (then_takes d.0.1 (codes " ") b.0 line3 c.0 (word_takes (codes " ") d.0.1 b.0 b.1)
    (then_takes b.0 (decimal p.0.0) p.0.1 line4 c.0 progress.0
    (then_takes p.0.1 (flat_map state_number ns.0.0) ns.0.1 (codes "\n") c.0 numbers.parts (word_takes (codes "\n") ns.0.1 c.0 c.1))))) in
    subst (λ (x : CertLabel × List ℕ). (front : List ℕ) × (bytes ≡ front ++ x.1) × GoodLabel s x.0 front) (ok_is made (label, rest) c.2)
    (label_line made.0, whole, (record { depart = depart.1; progress = progress.1; few = numbers.few; numbers = numbers.below }, refl))

pub label_again : IsReadAgain (λ (s : ℕ). label_at) GoodLabel
unfolding label_at
label_again s label front rest good =
    let form = good.0 in
    let t4 = codes "\n" ++ rest in
    let t3 = flat_map state_number label.numbers ++ t4 in
    let t2 = decimal label.progress ++ t3 in
    let t1 = codes " " ++ t2 in
    let regrouped : front ++ rest ≡ codes "l " ++ (number_or_dash label.depart ++ t1) =
    ap (λ (t : List ℕ). t ++ rest) good.1
    ∙ ap (λ (t : List ℕ). codes "l " ++ t) (append_assoc (number_or_dash label.depart) (codes " " ++ (decimal label.progress ++ (flat_map state_number label.numbers ++ codes "\n"))) rest
    ∙ ap (λ (t : List ℕ). number_or_dash label.depart ++ (codes " " ++ t)) (append_assoc (decimal label.progress) (flat_map state_number label.numbers ++ codes "\n") rest
    ∙ ap (λ (t : List ℕ). decimal label.progress ++ t) (append_assoc (flat_map state_number label.numbers) (codes "\n") rest))) in
    ap label_at regrouped ∙ rw (
      strip_again (codes "l ") (number_or_dash label.depart ++ t1),
      dash_again label.depart t1 form.depart refl,
      strip_again (codes " ") t2,
      number_again label.progress t3 form.progress (after_numbers label.numbers t4 refl),
      numbers_again MOST_NUMBERS label.numbers t4 form.few form.numbers refl (no_space rest),
      strip_again (codes "\n") rest,
    ) refl

labels_good : (labels : List CertLabel) (text : List ℕ) → AreGood (λ (l : CertLabel). l) (λ (s : ℕ) (l : CertLabel). s) GoodLabel 0 labels text → AllByRecursion IsLabelForm labels × (text ≡ flat_map label_line labels)
labels_good [] text are = (tt, are)
labels_good (label ∷ labels) text are =
    let first = subst (λ l. GoodLabel 0 l are.1) (sym are.3) are.5 in
    let later = labels_good labels are.2 are.6 in
    ((first.0, later.0), are.4 ∙ rw (first.1, later.1) (sym (flat_map-cons label_line label labels)))

good_labels : (labels : List CertLabel) → AllByRecursion IsLabelForm labels → AreGood (λ (l : CertLabel). l) (λ (s : ℕ) (l : CertLabel). s) GoodLabel 0 labels (flat_map label_line labels)
good_labels [] forms = refl
good_labels (label ∷ labels) forms = (label, label_line label, flat_map label_line labels, refl, flat_map-cons label_line label labels, (forms.0, refl), good_labels labels forms.1)

labels_take : (n : ℕ) (bytes : List ℕ) (x : List CertLabel × List ℕ) → labels_at n bytes ≡ Ok x → (bytes ≡ flat_map label_line x.0 ++ x.1) × AllByRecursion IsLabelForm x.0 × (length x.0 ≡ n)
unfolding labels_at
labels_take n bytes x e =
    let t = repeat_takes (λ (l : CertLabel). l) (λ (s : ℕ). label_at) (λ s l. s) GoodLabel label_takes n 0 bytes x e in
    let g = labels_good x.0 t.text t.are_good in
    (t.parts ∙ ap (λ (y : List ℕ). y ++ x.1) g.1, g.0, t.count)

labels_again : (labels : List CertLabel) (rest : List ℕ) → AllByRecursion IsLabelForm labels → labels_at (length labels) (flat_map label_line labels ++ rest) ≡ Ok (labels, rest)
unfolding labels_at
labels_again labels rest forms = repeat_again (λ (l : CertLabel). l) (λ (s : ℕ). label_at) (λ s l. s) GoodLabel label_again labels 0 (flat_map label_line labels) rest (good_labels labels forms)

-- ---- layers

abbrev GoodLayer : ℕ → List CertLabel → List ℕ → Type 0
GoodLayer step layer text = IsLayerForm layer × (step < NUMBER_LIMIT) × (text ≡ layer_lines step layer)

-- what a head line takes of the bytes
pub record TakesHead (step : ℕ) (bytes : List ℕ) (count : ℕ) (rest : List ℕ) : Type 0 where
  pub parts : bytes ≡ layer_head step count ++ rest
  pub step_below : step < NUMBER_LIMIT
  pub count_below : count < NUMBER_LIMIT

pub layer_head_takes : (step : ℕ) (bytes : List ℕ) (x : ℕ × List ℕ) → layer_head_at step bytes ≡ Ok x → TakesHead step bytes x.0 x.1
unfolding layer_head_at
layer_head_takes step bytes x e =
    let a = bind_ok (word_at (codes "layer ") bytes) (λ a. number_at a >>= λ k. word_at (codes " ") k.1 >>= λ b. number_at b >>= λ n. word_at (codes "\n") n.1 >>= λ c. cond (eqb k.0 step) (Ok (n.0, c)) (Err (length bytes))) x e in
    let k = bind_ok (number_at a.0) (λ k. word_at (codes " ") k.1 >>= λ b. number_at b >>= λ n. word_at (codes "\n") n.1 >>= λ c. cond (eqb k.0 step) (Ok (n.0, c)) (Err (length bytes))) x a.2 in
    let b = bind_ok (word_at (codes " ") k.0.1) (λ b. number_at b >>= λ n. word_at (codes "\n") n.1 >>= λ c. cond (eqb k.0.0 step) (Ok (n.0, c)) (Err (length bytes))) x k.2 in
    let n = bind_ok (number_at b.0) (λ n. word_at (codes "\n") n.1 >>= λ c. cond (eqb k.0.0 step) (Ok (n.0, c)) (Err (length bytes))) x b.2 in
    let c = bind_ok (word_at (codes "\n") n.0.1) (λ c. cond (eqb k.0.0 step) (Ok (n.0.0, c)) (Err (length bytes))) x n.2 in
    let made : ℕ × List ℕ = (n.0.0, c.0) in
    let g = guard_ok (eqb k.0.0 step) (length bytes) (Ok made) x c.2 in
    let same : k.0.0 ≡ step = eqb-true _ _ g.0 in
    let number = number_takes a.0 k.0.0 k.0.1 k.1 in
    let count = number_takes b.0 n.0.0 n.0.1 n.1 in
    let step_text : a.0 ≡ decimal step ++ k.0.1 = number.0 ∙ ap (λ i. decimal i ++ k.0.1) same in
    let line3 = decimal n.0.0 ++ codes "\n" in
    let line2 = codes " " ++ line3 in
    let whole : bytes ≡ layer_head step n.0.0 ++ c.0 =
    then_takes bytes (codes "layer ") a.0 (decimal step ++ line2) c.0 (word_takes (codes "layer ") bytes a.0 a.1)
    (then_takes a.0 (decimal step) k.0.1 line2 c.0 step_text
    (then_takes k.0.1 (codes " ") b.0 line3 c.0 (word_takes (codes " ") k.0.1 b.0 b.1)
    (then_takes b.0 (decimal n.0.0) n.0.1 (codes "\n") c.0 count.0 (word_takes (codes "\n") n.0.1 c.0 c.1)))) in
    subst (λ (y : ℕ × List ℕ). TakesHead step bytes y.0 y.1) (ok_is made x g.1) (record { parts = whole; step_below = rw (← same) number.1; count_below = count.1 })

pub layer_head_again : (step count : ℕ) (rest : List ℕ) → step < NUMBER_LIMIT → count < NUMBER_LIMIT → layer_head_at step (layer_head step count ++ rest) ≡ Ok (count, rest)
unfolding layer_head_at
layer_head_again step count rest low few =
    let t3 = codes "\n" ++ rest in
    let t2 = decimal count ++ t3 in
    let t1 = codes " " ++ t2 in
    let regrouped : layer_head step count ++ rest ≡ codes "layer " ++ (decimal step ++ t1) =
    ap (λ (t : List ℕ). codes "layer " ++ t) (append_assoc (decimal step) (codes " " ++ (decimal count ++ codes "\n")) rest ∙ ap (λ (t : List ℕ). decimal step ++ (codes " " ++ t)) (append_assoc (decimal count) (codes "\n") rest)) in
    let same : eqb step step ≡ true = grind (arith, nat_tests) in
    ap (layer_head_at step) regrouped ∙ rw (
      strip_again (codes "layer ") (decimal step ++ t1),
      number_again step t1 low refl,
      strip_again (codes " ") t2,
      number_again count t3 few refl,
      strip_again (codes "\n") rest,
      same,
    ) refl

layer_takes : Takes layer_at GoodLayer
unfolding layer_at
layer_takes step bytes layer rest e =
    let n = bind_ok (layer_head_at step bytes) (λ n. labels_at n.0 n.1) (layer, rest) e in
    let head = layer_head_takes step bytes n.0 n.1 in
    let labels = labels_take n.0.0 n.0.1 (layer, rest) n.2 in
    let text : bytes ≡ layer_head step (length layer) ++ n.0.1 = head.parts ∙ ap (λ i. layer_head step i ++ n.0.1) (sym labels.2) in
    (layer_lines step layer, then_takes bytes (layer_head step (length layer)) n.0.1 (flat_map label_line layer) rest text labels.0, (record { few = rw labels.2 head.count_below; labels = labels.1 }, head.step_below, refl))

layer_again : IsReadAgain layer_at GoodLayer
unfolding layer_at
layer_again step layer front rest good =
    let form = good.0 in
    let tail = flat_map label_line layer ++ rest in
    let regrouped : front ++ rest ≡ layer_head step (length layer) ++ tail = ap (λ (t : List ℕ). t ++ rest) good.2 ∙ append_assoc (layer_head step (length layer)) (flat_map label_line layer) rest in
    ap (layer_at step) regrouped ∙ bind_is (layer_head_at step (layer_head step (length layer) ++ tail)) (λ n. labels_at n.0 n.1) (length layer, tail) (Ok (layer, rest)) (layer_head_again step (length layer) tail good.1 form.few) (labels_again layer rest form.labels)

layers_good : (step : ℕ) (layers : List (List CertLabel)) (text : List ℕ) → AreGood (λ (l : List CertLabel). l) (λ (s : ℕ) (l : List CertLabel). s + 1) GoodLayer step layers text → AllByRecursion IsLayerForm layers × (text ≡ layers_lines step layers)
layers_good step [] text are = (tt, are)
layers_good step (layer ∷ layers) text are =
    let first = subst (λ l. GoodLayer step l are.1) (sym are.3) are.5 in
    let later = layers_good (step + 1) layers are.2 are.6 in
    ((first.0, later.0), are.4 ∙ rw (first.2, later.1) refl)

good_layers : (step : ℕ) (layers : List (List CertLabel)) → step + length layers ≤ NUMBER_LIMIT → AllByRecursion IsLayerForm layers → AreGood (λ (l : List CertLabel). l) (λ (s : ℕ) (l : List CertLabel). s + 1) GoodLayer step layers (layers_lines step layers)
good_layers step [] few forms = refl
good_layers step (layer ∷ layers) few forms =
    (layer, layer_lines step layer, layers_lines (step + 1) layers, refl, refl, (forms.0, omega arith, refl), good_layers (step + 1) layers (omega arith) forms.1)

pub layers_take : (n : ℕ) (bytes : List ℕ) (x : List (List CertLabel) × List ℕ) → layers_at n bytes ≡ Ok x → (bytes ≡ layers_lines 0 x.0 ++ x.1) × AllByRecursion IsLayerForm x.0 × (length x.0 ≡ n)
unfolding layers_at
layers_take n bytes x e =
    let t = repeat_takes (λ (l : List CertLabel). l) layer_at (λ s l. s + 1) GoodLayer layer_takes n 0 bytes x e in
    let g = layers_good 0 x.0 t.text t.are_good in
    (t.parts ∙ ap (λ (y : List ℕ). y ++ x.1) g.1, g.0, t.count)

pub layers_again : (layers : List (List CertLabel)) (rest : List ℕ) → length layers < NUMBER_LIMIT → AllByRecursion IsLayerForm layers → layers_at (length layers) (layers_lines 0 layers ++ rest) ≡ Ok (layers, rest)
unfolding layers_at
layers_again layers rest few forms = repeat_again (λ (l : List CertLabel). l) layer_at (λ s l. s + 1) GoodLayer layer_again layers 0 (layers_lines 0 layers) rest (good_layers 0 layers (omega arith) forms)
