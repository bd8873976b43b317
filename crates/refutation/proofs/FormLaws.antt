-- The certificate of layers has a text.
use Rattle.std.proofs.Common.{◌≡◌, ℕ, zero, suc, ◌+◌, ◌-◌, ◌/◌, ◌<◌, ◌≤◌, inl, inr, Bool, true, false, cond, List, [], ◌∷◌, ◌++◌, length, replicate, Option, None, Some, Result, Ok, Err, IfOk, All, refl, sym, ◌∙◌, ap, subst, arith}
use Rattle.std.specs.Prelude.{IfSome, sum_by, unwrap_or}
use Rattle.std.specs.List.{AllByRecursion}
use Rattle.std.proofs.Math.Nat.{div-le_self}
use Rattle.std.proofs.lemmas.List.{length-append, length-map}
use Rattle.std.proofs.lemmas.List.Elements.{recursion_from_All, All-head}
use Rattle.std.proofs.lemmas.List.Sums.{sum_by-cons}
use Rattle.duty_core.specs.declared.activity.Activity.{Activity}
use Rattle.duty_core.specs.declared.activity.Activity.TheVariants.{Serve}
use Rattle.rule_core.specs.declared.numbers.TheConstants.{NUMBER_LIMIT, MOST_NUMBERS}
use Rattle.rule_core.specs.Reach.{IsOneOf}
use Rattle.rule_core.specs.Machine.{Machine}
use Rattle.rule_core.specs.Book.{IsStateText}
use Rattle.tour_model.specs.declared.label.Label.{Label}
use Rattle.tour_model.specs.declared.schedule.Schedule.{Schedule}
use Rattle.tour_model.specs.declared.stop.Stop.{Stop}
use Rattle.tour_model.specs.declared.tour.Tour.{Tour}
use Rattle.tour_model.specs.Layer.{layer_at}
use Rattle.tour_model.specs.Laws.LengthLaws.{serves_few, history_short}
use Rattle.tour_model.specs.Schedule.{ServesFrom, depart_from, duration, log_start, history_of}
use Rattle.tour_model.specs.Tour.{IsStop, IsTour}
use Rattle.tour_model.specs.Way.{progresses}
use Rattle.tour_model.specs.Word.{word_length}
use Rattle.label_state.specs.declared.kept.Kept.{Kept}
use Rattle.label_state.specs.declared.layers.TheConstants.{LAYER_LIMIT}
use Rattle.label_state.specs.Layers.{label_count, labels_of, label_layers}
use Rattle.cert_text.specs.declared.cert.Cert.{Cert}
use Rattle.cert_text.specs.declared.cert.CertKind.TheVariants.{Shortest}
use Rattle.cert_text.specs.declared.cert.CertLabel.{CertLabel}
use Rattle.cert_text.specs.declared.cert.StepRun.{StepRun}
use Rattle.cert_text.specs.Cert.{acts_of_runs, IsLabelOf, AreLabelsOf, AreLayersOf}
use Rattle.cert_text.specs.CoverLists.Cover.{IsLabelAt}
use Rattle.cert_text.specs.Text.Form.{AreMarkForms, IsLabelForm, IsLayerForm, IsClaimForm, IsCertForm}
use Rattle.cert_text.specs.CoverLists.Planning.{minute_of, state_at}
use Rattle.cert_text.specs.CoverLists.Laws.ProblemOf.{word_few}
use Rattle.refutation.specs.Refutes.{Tells, IsSolved}
use Rattle.refutation.specs.Runs.{AreMaximal}
use Rattle.refutation.proofs.MarksLaws.{lawful_marks}
use Rattle.refutation.proofs.RunsLaws.{few_runs, run_forms}

-- ---- how many labels and layers there are

same_labels : {S : Type 0} (state_of : List ℕ → ℕ → Option S) (at : ℕ) (cs : List CertLabel) (ls : List (Label S)) → AreLabelsOf state_of at cs ls → length cs ≡ length ls
same_labels state_of at [] ls of = ap length (sym of)
same_labels state_of at (c ∷ cs) ls of = ap suc (same_labels state_of at cs of.1 of.4) ∙ ap length (sym of.2)

pub same_count : {S : Type 0} (state_of : List ℕ → ℕ → Option S) (tour : Tour) (step : ℕ) (css : List (List CertLabel)) (layers : List (List (Label S))) → AreLayersOf state_of tour step css layers → sum_by length css ≡ label_count layers
same_count state_of tour step [] layers of = ap label_count (sym of)
same_count state_of tour step (cs ∷ css) layers of =
    let first = same_labels state_of (minute_of tour step) cs of.0 of.3 in
    let later = same_count state_of tour (step + 1) css of.1 of.4 in
    let left = sum_by-cons length cs css in
    let right : label_count layers ≡ length of.0 + label_count of.1 = ap label_count of.2 ∙ sum_by-cons length of.0 of.1 in
    omega (arith, first, later, left, right)

same_long : {S : Type 0} (state_of : List ℕ → ℕ → Option S) (tour : Tour) (step : ℕ) (css : List (List CertLabel)) (layers : List (List (Label S))) → AreLayersOf state_of tour step css layers → length css ≡ length layers
same_long state_of tour step [] layers of = ap length (sym of)
same_long state_of tour step (cs ∷ css) layers of = ap suc (same_long state_of tour (step + 1) css of.1 of.4) ∙ ap length (sym of.2)

-- ---- labels

departed : {S : Type 0} (is_state : S → ℕ → Type 0) (goal step : ℕ) (l : Label S) → IsLabelAt is_state goal step l → step < NUMBER_LIMIT → IfSome l.depart (λ d. d < NUMBER_LIMIT)
departed {S} is_state goal step l is few = go l.progress refl
  where
    go : (p : ℕ) → l.progress ≡ p → IfSome l.depart (λ d. d < NUMBER_LIMIT)
    go zero e = subst (λ o. IfSome o (λ d. d < NUMBER_LIMIT)) (sym (is.still e)) tt
    go (suc p) e =
        let d = is.departed (omega (arith, e)) in
        subst (λ o. IfSome o (λ d. d < NUMBER_LIMIT)) (sym d.1) (let before = d.2 in let lt : d.0 < NUMBER_LIMIT = omega (arith, before, few) in lt)

label_form : {S : Type 0} (m : Machine S) (tour : Tour) (goal step : ℕ) (c : CertLabel) (l : Label S) → IsStateText m → goal < NUMBER_LIMIT → step < NUMBER_LIMIT
    → IsLabelOf m.state_of (minute_of tour step) c l → IsLabelAt (state_at tour m) goal step l → IsLabelForm c
label_form m tour goal step c l text small low of is =
    let told = text.numbers_told c.numbers l.state (minute_of tour step) of.state in
    let numbers = subst (λ (ns : List ℕ). (length ns ≤ MOST_NUMBERS) × All (λ n. n < NUMBER_LIMIT) ns) told.1 (text.numbers_few l.state (minute_of tour step) told.0) in
    let progress = of.progress in
    let within = is.progress in
    record {
      depart = subst (λ o. IfSome o (λ d. d < NUMBER_LIMIT)) of.depart (departed (state_at tour m) goal step l is low);
      progress = omega (arith, progress, within, small);
      few = numbers.0;
      numbers = recursion_from_All (λ n. n < NUMBER_LIMIT) c.numbers numbers.1;
    }

-- what is known of the labels of a step
abbrev pub AreLabelsAt : {S : Type 0} → Machine S → Tour → ℕ → ℕ → List (Label S) → Type 0
AreLabelsAt {S} m tour goal step layer = (l : Label S) → IsOneOf layer l → IsLabelAt (state_at tour m) goal step l

labels_form : {S : Type 0} (m : Machine S) (tour : Tour) (goal step : ℕ) (cs : List CertLabel) (ls : List (Label S)) → IsStateText m → goal < NUMBER_LIMIT → step < NUMBER_LIMIT
    → AreLabelsOf m.state_of (minute_of tour step) cs ls → AreLabelsAt m tour goal step ls → AllByRecursion IsLabelForm cs
labels_form m tour goal step [] ls text small low of at = tt
labels_form m tour goal step (c ∷ cs) ls text small low of at =
    let here : AreLabelsAt m tour goal step (of.0 ∷ of.1) = subst (AreLabelsAt m tour goal step) of.2 at in
    (label_form m tour goal step c of.0 text small low of.3 (here of.0 (inl refl)), labels_form m tour goal step cs of.1 text small low of.4 (λ l i. here l (inr i)))

layers_form : {S : Type 0} (m : Machine S) (tour : Tour) (goal step : ℕ) (css : List (List CertLabel)) (layers : List (List (Label S))) → IsStateText m → goal < NUMBER_LIMIT
    → step + length layers ≤ NUMBER_LIMIT → label_count layers < NUMBER_LIMIT → AreLayersOf m.state_of tour step css layers → ((k : ℕ) → AreLabelsAt m tour goal (step + k) (layer_at layers k)) → AllByRecursion IsLayerForm css
layers_form m tour goal step [] layers text small room count of at = tt
layers_form {S} m tour goal step (cs ∷ css) layers text small room count of at =
    let more : List (List (Label S)) = of.0 ∷ of.1 in
    let there : (k : ℕ) → AreLabelsAt m tour goal (step + k) (layer_at more k) = subst (λ ls. (k : ℕ) → AreLabelsAt m tour goal (step + k) (layer_at ls k)) of.2 at in
    let counted : label_count layers ≡ length of.0 + label_count of.1 = ap label_count of.2 ∙ sum_by-cons length of.0 of.1 in
    let long : length layers ≡ suc (length of.1) = ap length of.2 in
    let same = same_labels m.state_of (minute_of tour step) cs of.0 of.3 in (
      record {
        few = omega (arith, count, counted, same);
        labels = labels_form m tour goal step cs of.0 text small (omega (arith, room, long)) of.3 (subst (λ k. AreLabelsAt m tour goal k of.0) (let here : step + 0 ≡ step = omega arith in here) (there 0));
      },
      layers_form m tour goal (step + 1) css of.1 text small (omega (arith, room, long)) (omega (arith, count, counted)) of.4
          (λ k. subst (λ i. AreLabelsAt m tour goal i (layer_at of.1 k)) (let next : step + suc k ≡ step + 1 + k = omega arith in next) (there (suc k))),
    )

-- ---- the schedule

departs : (n : ℕ) (before after xs : List Activity) → xs ≡ before ++ (Serve ∷ after) → (d : ℕ) × (depart_from n xs ≡ Some d) × (d ≤ n + length before)
departs n [] after xs e = (n, ap (depart_from n) e, omega arith)
departs n (x ∷ before) after xs e = go (departs (n + 1) before after (before ++ (Serve ∷ after)) refl) (progresses x) refl
  where
    go : (d : ℕ) × (depart_from (n + 1) (before ++ (Serve ∷ after)) ≡ Some d) × (d ≤ n + 1 + length before) → (t : Bool) → progresses x ≡ t → (d : ℕ) × (depart_from n xs ≡ Some d) × (d ≤ n + length (x ∷ before))
    go later true is = (n, ap (depart_from n) e ∙ ap (λ b. cond b (Some n) (depart_from (n + 1) (before ++ (Serve ∷ after)))) is, omega arith)
    go later false is =
        let le = later.2 in
        (later.0, ap (depart_from n) e ∙ ap (λ b. cond b (Some n) (depart_from (n + 1) (before ++ (Serve ∷ after)))) is ∙ later.1, omega (arith, le))

lasts_some : (stops : List Stop) (grid : ℕ) (xs : List Activity) → 1 ≤ length stops → All (IsStop grid) stops → ServesFrom 0 stops xs → 1 ≤ duration xs
lasts_some [] grid xs some good s = absurd (omega (arith, some))
lasts_some (stop ∷ stops) grid xs some good s = go stop.service refl
  where
    go : (m : ℕ) → stop.service ≡ m → 1 ≤ duration xs
    go zero e = let some = (All-head (IsStop grid) stop stops good).some_service in absurd (omega (arith, some, e))
    go (suc m) e =
        let whole : xs ≡ s.0 ++ (Serve ∷ (replicate m Serve ++ s.1)) = s.2.whole ∙ ap (λ k. s.0 ++ (replicate k Serve ++ s.1)) e in
        let d = departs 0 s.0 (replicate m Serve ++ s.1) xs whole in
        let le = d.2 in
        let long = ap length whole ∙ length-append s.0 (Serve ∷ (replicate m Serve ++ s.1)) in
        let is : duration xs ≡ length xs - d.0 = ap (λ o. length xs - unwrap_or o 0) d.1 in
        omega (arith, le, long, is)

claim_form : (tour : Tour) (cert : Cert) (best : Schedule) → IsTour tour → cert.target ≡ Some (duration best.steps) → acts_of_runs cert.schedule ≡ best.steps → AreMaximal None cert.schedule → cert.marks ≡ best.marks → IsSolved tour (Some best)
    → IsClaimForm tour.params Shortest cert.target cert.schedule cert.marks
claim_form tour cert best is target schedule maximal marks solved =
    let log = solved.0 in
    let short = solved.1 in
    let solution = solved.2 in
    let few = serves_few tour is best.steps solution.serves in
    let less : 20_160 / tour.grid ≤ 20_160 = div-le_self 20_160 tour.grid in
    let early = is.not_early in
    let late = is.not_late in
    let long = history_short tour is log best.steps short solution.serves in
    let writable = lawful_marks tour.params (log_start tour log) (history_of tour log best.steps) best.marks is.params (omega (arith, early, short)) long (omega (arith, late, long)) solution.lawful in
    let lasts = lasts_some tour.stops tour.grid best.steps is.some_stops is.stops solution.serves.stops in
    let steps : length (acts_of_runs cert.schedule) ≡ length best.steps = ap length schedule in
    let runs = few_runs None cert.schedule maximal in
    let few_of = writable.few in (
      duration best.steps,
      target,
      lasts,
      omega (arith, few, less),
      omega (arith, few, less, steps, runs),
      run_forms None cert.schedule maximal (omega (arith, few, less, steps)),
      subst (λ ms. length ms < NUMBER_LIMIT) (sym marks) writable.few,
      subst (λ ms. AreMarkForms tour.params 0 ms) (sym marks) writable.forms,
    )

claimed : {S : Type 0} (state_of : List ℕ → ℕ → Option S) (tour : Tour) (best : Option Schedule) (listed : List (List (Label S))) (cert : Cert) → IsTour tour → Tells state_of tour best listed cert → AreMaximal None cert.schedule → IsSolved tour best
    → IsClaimForm tour.params cert.kind cert.target cert.schedule cert.marks
claimed state_of tour None listed cert is tells maximal solved =
    subst (λ k. IsClaimForm tour.params k cert.target cert.schedule cert.marks) (sym tells.kind) (tells.target, no_runs cert.schedule maximal tells.schedule, tells.marks)
  where
    no_runs : (runs : List StepRun) → AreMaximal None runs → acts_of_runs runs ≡ [] → runs ≡ []
    no_runs [] h e = refl
    no_runs (r ∷ runs) h e = let few = few_runs None (r ∷ runs) h in let none = ap length e in absurd (omega (arith, few, none))
claimed state_of tour (Some best) listed cert is tells maximal solved =
    subst (λ k. IsClaimForm tour.params k cert.target cert.schedule cert.marks) (sym tells.kind) (claim_form tour cert best is tells.target tells.schedule maximal tells.marks solved)

pub cert_form : {S : Type 0} (m : Machine S) (tour : Tour) (goal : ℕ) (best : Option Schedule) (listed : List (List (Label S))) (cert : Cert) → IsTour tour → IsStateText m → goal < NUMBER_LIMIT
    → length listed < NUMBER_LIMIT → label_count listed < NUMBER_LIMIT → ((k : ℕ) → AreLabelsAt m tour goal k (layer_at listed k)) → Tells m.state_of tour best listed cert → AreMaximal None cert.schedule → IsSolved tour best → IsCertForm tour.params cert
cert_form m tour goal best listed cert is text small few_layers count at tells maximal solved =
    let long = same_long m.state_of tour 0 cert.layers listed tells.layers in
    record {
      claim = claimed m.state_of tour best listed cert is tells maximal solved;
      few = omega (arith, long, few_layers);
      layers = layers_form m tour goal 0 cert.layers listed text small (omega (arith, few_layers)) count tells.layers (λ k. subst (λ i. AreLabelsAt m tour goal i (layer_at listed k)) (let same : k ≡ 0 + k = omega arith in same) (at k));
    }

-- ---- what a search keeps

-- the labels without their parents are as many
pub same_kept : {S : Type 0} (layers : List (List (Kept S))) → label_count (label_layers layers) ≡ label_count layers
same_kept [] = refl
same_kept (layer ∷ layers) =
    let left = sum_by-cons length (labels_of layer) (label_layers layers) in
    let right = sum_by-cons length layer layers in
    let first : length (labels_of layer) ≡ length layer = length-map layer (λ k. k.label) in
    let later = same_kept layers in
    omega (arith, left, right, first, later)

-- the certificate of the layers that a search keeps
pub kept_form : {S : Type 0} (m : Machine S) (tour : Tour) (best told : Option Schedule) (kept : List (List (Kept S))) (cert : Cert) → IsTour tour → IsStateText m → length kept ≤ LAYER_LIMIT
    → ((k : ℕ) → AreLabelsAt m tour (word_length tour) k (layer_at (label_layers kept) k)) → Tells m.state_of tour best (label_layers kept) cert → AreMaximal None cert.schedule → told ≡ best → IsSolved tour told → label_count kept < NUMBER_LIMIT → IsCertForm tour.params cert
kept_form m tour best told kept cert is text layers at tells maximal same solved count =
    let long : length (label_layers kept) ≡ length kept = length-map kept labels_of in
    let counted = same_kept kept in
    cert_form m tour (word_length tour) best (label_layers kept) cert is text (word_few tour is) (omega (arith, long, layers)) (omega (arith, count, counted)) at tells maximal (subst (IsSolved tour) same solved)

-- ---- what two facts say of a result

pub ok_both : {X E : Type 0} (P Q : X → Type 0) (r : Result X E) → IfOk r P → IfOk r Q → IfOk r (λ x. P x × Q x)
ok_both P Q (Ok x) p q = (p, q)
ok_both P Q (Err e) p q = tt

pub ok_more : {X E : Type 0} (P Q : X → Type 0) (r : Result X E) → ((x : X) → P x → Q x) → IfOk r P → IfOk r Q
ok_more P Q (Ok x) f p = f x p
ok_more P Q (Err e) f p = tt
