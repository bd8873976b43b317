-- Runs: what is read is spelled so, and what is spelled so is read.
use Rattle.std.proofs.Common.{◌≡◌, ◌≢◌, ℕ, ◌≤◌, ◌&&◌, Bool, true, false, cond, not, eqb, ltb, List, [], ◌∷◌, ◌++◌, length, codes, Option, None, Some, Ok, Err, refl, sym, ap, subst, ◌∙◌, append_assoc, arith}
use Rattle.std.specs.Fmt.{decimal}
use Rattle.std.specs.List.{flat_map}
use Rattle.std.proofs.lemmas.Bool.{lt-ltb}
use Rattle.std.proofs.lemmas.Bool.Decides.{nat_tests}
use Rattle.std.proofs.lemmas.List.Concat.{flat_map-cons}
use Rattle.duty_core.specs.declared.activity.Activity.{Activity}
use Rattle.duty_core.specs.declared.activity.Activity.TheVariants.{Drive, Serve, Wait, Off, Berth}
use Rattle.cert_text.specs.declared.cert.StepRun.{StepRun}
use Rattle.cert_text.specs.Text.Form.{IsRunForm, AreRunForms}
use Rattle.cert_text.specs.Text.Spelling.{letter, run_line}
use Rattle.cert_text.specs.Text.Reading.{◌>>=◌, word_at, number_at, act_of, letter_is, letter_at, same_act, may_follow, run_at, after_run, runs_at}
use Rattle.cert_text.specs.Text.Laws.WordLaws.{bind_ok, ok_is, guard_ok, both_true, and_true, word_takes, strip_again, number_again, number_takes, then_takes}
use Rattle.cert_text.specs.Text.Laws.ItemLaws.{AreGood, Takes, IsReadAgain, repeat_takes, repeat_again}

-- the letter of the activity that a letter stands for
act_letter : (b : ℕ) (act : Activity) → act_of b ≡ Some act → b ∷ [] ≡ letter act
act_letter b act e = d (eqb b 68) refl e
  where
    from : (n : ℕ) → eqb b n ≡ true → b ≡ n
    from n is = grind (arith, nat_tests)

    last : (t : Bool) → eqb b 66 ≡ t → cond t (Some Berth) None ≡ Some act → b ∷ [] ≡ letter act
    last true is e = let same : Berth ≡ act = cc in rw (from 66 is, ← same) refl
    last false is e = absurd cc

    o : (t : Bool) → eqb b 79 ≡ t → cond t (Some Off) (cond (eqb b 66) (Some Berth) None) ≡ Some act → b ∷ [] ≡ letter act
    o true is e = let same : Off ≡ act = cc in rw (from 79 is, ← same) refl
    o false is e = last (eqb b 66) refl e

    w : (t : Bool) → eqb b 87 ≡ t → cond t (Some Wait) (cond (eqb b 79) (Some Off) (cond (eqb b 66) (Some Berth) None)) ≡ Some act → b ∷ [] ≡ letter act
    w true is e = let same : Wait ≡ act = cc in rw (from 87 is, ← same) refl
    w false is e = o (eqb b 79) refl e

    s : (t : Bool) → eqb b 83 ≡ t → cond t (Some Serve) (cond (eqb b 87) (Some Wait) (cond (eqb b 79) (Some Off) (cond (eqb b 66) (Some Berth) None))) ≡ Some act → b ∷ [] ≡ letter act
    s true is e = let same : Serve ≡ act = cc in rw (from 83 is, ← same) refl
    s false is e = w (eqb b 87) refl e

    d : (t : Bool) → eqb b 68 ≡ t → cond t (Some Drive) (cond (eqb b 83) (Some Serve) (cond (eqb b 87) (Some Wait) (cond (eqb b 79) (Some Off) (cond (eqb b 66) (Some Berth) None)))) ≡ Some act → b ∷ [] ≡ letter act
    d true is e = let same : Drive ≡ act = cc in rw (from 68 is, ← same) refl
    d false is e = s (eqb b 83) refl e

letter_found : (left : ℕ) (rest : List ℕ) (o : Option Activity) (x : Activity × List ℕ) → letter_is left rest o ≡ Ok x → (o ≡ Some x.0) × (rest ≡ x.1)
letter_found left rest None x e = absurd cc
letter_found left rest (Some act) x e =
    let same = ok_is (act, rest) x e in (ap (λ (y : Activity × List ℕ). Some y.0) same, ap (λ (y : Activity × List ℕ). y.1) same)

pub letter_takes : (bytes : List ℕ) (x : Activity × List ℕ) → letter_at bytes ≡ Ok x → bytes ≡ letter x.0 ++ x.1
unfolding letter_at
letter_takes [] x e = absurd cc
letter_takes (b ∷ rest) x e =
    let f = letter_found (length (b ∷ rest)) rest (act_of b) x e in
    let one = act_letter b x.0 f.0 in
    ap (λ (t : List ℕ). t ++ rest) one ∙ ap (λ (t : List ℕ). letter x.0 ++ t) f.1

letter_again : (act : Activity) (rest : List ℕ) → letter_at (letter act ++ rest) ≡ Ok (act, rest)
unfolding letter_at
letter_again Drive rest = refl
letter_again Serve rest = refl
letter_again Wait rest = refl
letter_again Off rest = refl
letter_again Berth rest = refl

-- a run differs from one of another activity
differs : (before act : Activity) → same_act before act ≡ false → Some before ≢ Some act
differs before act other same =
    let is : before ≡ act = cc in absurd (go act (subst (λ a. same_act a act ≡ false) is other))
  where
    go : (a : Activity) → same_act a a ≡ false → ⊥
    go Drive e = absurd cc
    go Serve e = absurd cc
    go Wait e = absurd cc
    go Off e = absurd cc
    go Berth e = absurd cc

pub follows : (before : Option Activity) (act : Activity) → may_follow before act ≡ true → before ≢ Some act
follows None act e same = absurd cc
follows (Some before) act e same = go (same_act before act) refl e same
  where
    go : (t : Bool) → same_act before act ≡ t → not t ≡ true → Some before ≡ Some act → ⊥
    go true is e same = absurd cc
    go false is e same = differs before act is same

-- and back
following : (before : Option Activity) (act : Activity) → before ≢ Some act → may_follow before act ≡ true
following None act h = refl
following (Some Drive) Drive h = absurd (h refl)
following (Some Drive) Serve h = refl
following (Some Drive) Wait h = refl
following (Some Drive) Off h = refl
following (Some Drive) Berth h = refl
following (Some Serve) Drive h = refl
following (Some Serve) Serve h = absurd (h refl)
following (Some Serve) Wait h = refl
following (Some Serve) Off h = refl
following (Some Serve) Berth h = refl
following (Some Wait) Drive h = refl
following (Some Wait) Serve h = refl
following (Some Wait) Wait h = absurd (h refl)
following (Some Wait) Off h = refl
following (Some Wait) Berth h = refl
following (Some Off) Drive h = refl
following (Some Off) Serve h = refl
following (Some Off) Wait h = refl
following (Some Off) Off h = absurd (h refl)
following (Some Off) Berth h = refl
following (Some Berth) Drive h = refl
following (Some Berth) Serve h = refl
following (Some Berth) Wait h = refl
following (Some Berth) Off h = refl
following (Some Berth) Berth h = absurd (h refl)

-- a run that has a text, and the text
abbrev pub GoodRun : Option Activity → StepRun → List ℕ → Type 0
GoodRun before run text = IsRunForm before run × (text ≡ run_line run)

pub run_takes : Takes run_at GoodRun
unfolding run_at
run_takes before bytes run rest e =
    let a = bind_ok (word_at (codes "r ") bytes) (λ a. number_at a >>= λ n. word_at (codes " ") n.1 >>= λ b. letter_at b >>= λ act. word_at (codes "\n") act.1 >>= λ c. cond (ltb 0 n.0 && may_follow before act.0) (Ok (record { count = n.0; act = act.0 }, c)) (Err (length bytes))) (run, rest) e in
    let n = bind_ok (number_at a.0) (λ n. word_at (codes " ") n.1 >>= λ b. letter_at b >>= λ act. word_at (codes "\n") act.1 >>= λ c. cond (ltb 0 n.0 && may_follow before act.0) (Ok (record { count = n.0; act = act.0 }, c)) (Err (length bytes))) (run, rest) a.2 in
    let b = bind_ok (word_at (codes " ") n.0.1) (λ b. letter_at b >>= λ act. word_at (codes "\n") act.1 >>= λ c. cond (ltb 0 n.0.0 && may_follow before act.0) (Ok (record { count = n.0.0; act = act.0 }, c)) (Err (length bytes))) (run, rest) n.2 in
    let act = bind_ok (letter_at b.0) (λ act. word_at (codes "\n") act.1 >>= λ c. cond (ltb 0 n.0.0 && may_follow before act.0) (Ok (record { count = n.0.0; act = act.0 }, c)) (Err (length bytes))) (run, rest) b.2 in
    let c = bind_ok (word_at (codes "\n") act.0.1) (λ c. cond (ltb 0 n.0.0 && may_follow before act.0.0) (Ok (record { count = n.0.0; act = act.0.0 }, c)) (Err (length bytes))) (run, rest) act.2 in
    let made : StepRun × List ℕ = (record { count = n.0.0; act = act.0.0 }, c.0) in
    let g = guard_ok (ltb 0 n.0.0 && may_follow before act.0.0) (length bytes) (Ok made) (run, rest) c.2 in
    let tests = both_true (ltb 0 n.0.0) (may_follow before act.0.0) g.0 in
    let number = number_takes a.0 n.0.0 n.0.1 n.1 in
    let some : 1 ≤ n.0.0 = (let t = tests.0 in grind (arith, nat_tests)) in
    let whole : bytes ≡ run_line made.0 ++ c.0 =
    then_takes bytes (codes "r ") a.0 (decimal n.0.0 ++ (codes " " ++ (letter act.0.0 ++ codes "\n"))) c.0 (word_takes (codes "r ") bytes a.0 a.1)
    (then_takes a.0 (decimal n.0.0) n.0.1 (codes " " ++ (letter act.0.0 ++ codes "\n")) c.0 number.0
    (then_takes n.0.1 (codes " ") b.0 (letter act.0.0 ++ codes "\n") c.0 (word_takes (codes " ") n.0.1 b.0 b.1)
    (then_takes b.0 (letter act.0.0) act.0.1 (codes "\n") c.0 (letter_takes b.0 act.0 act.1) (word_takes (codes "\n") act.0.1 c.0 c.1)))) in
    subst (λ (x : StepRun × List ℕ). (front : List ℕ) × (bytes ≡ front ++ x.1) × GoodRun before x.0 front) (ok_is made (run, rest) g.1)
    (run_line made.0, whole, (record { some = some; few = number.1; other = follows before act.0.0 tests.1 }, refl))

pub run_again : IsReadAgain run_at GoodRun
unfolding run_at
run_again before run front rest good =
    let form = good.0 in
    let regrouped : front ++ rest ≡ codes "r " ++ (decimal run.count ++ (codes " " ++ (letter run.act ++ (codes "\n" ++ rest)))) =
    ap (λ (t : List ℕ). t ++ rest) good.1 ∙ ap (λ (t : List ℕ). codes "r " ++ t) (append_assoc (decimal run.count) (codes " " ++ (letter run.act ++ codes "\n")) rest ∙ ap (λ (t : List ℕ). decimal run.count ++ (codes " " ++ t)) (append_assoc (letter run.act) (codes "\n") rest)) in
    let tests = and_true (ltb 0 run.count) (may_follow before run.act) (lt-ltb _ _ form.some) (following before run.act form.other) in
    ap (run_at before) regrouped ∙ rw (
      strip_again (codes "r ") (decimal run.count ++ (codes " " ++ (letter run.act ++ (codes "\n" ++ rest)))),
      number_again run.count (codes " " ++ (letter run.act ++ (codes "\n" ++ rest))) form.few refl,
      strip_again (codes " ") (letter run.act ++ (codes "\n" ++ rest)),
      letter_again run.act (codes "\n" ++ rest),
      strip_again (codes "\n") rest,
      tests,
    ) refl

-- good runs are runs that have a text, and back
runs_good : (before : Option Activity) (runs : List StepRun) (text : List ℕ) → AreGood (λ (r : StepRun). r) after_run GoodRun before runs text → AreRunForms before runs × (text ≡ flat_map run_line runs)
runs_good before [] text are = (tt, are)
runs_good before (run ∷ runs) text are =
    let first = subst (λ r. GoodRun before r are.1) (sym are.3) are.5 in
    let later = runs_good (Some are.0.act) runs are.2 are.6 in
    let same : Some are.0.act ≡ Some run.act = ap (λ (r : StepRun). Some r.act) (sym are.3) in
    ((first.0, subst (λ b. AreRunForms b runs) same later.0), are.4 ∙ rw (first.1, later.1) (sym (flat_map-cons run_line run runs)))

good_runs : (before : Option Activity) (runs : List StepRun) → AreRunForms before runs → AreGood (λ (r : StepRun). r) after_run GoodRun before runs (flat_map run_line runs)
good_runs before [] forms = refl
good_runs before (run ∷ runs) forms = (run, run_line run, flat_map run_line runs, refl, flat_map-cons run_line run runs, (forms.0, refl), good_runs (Some run.act) runs forms.1)

pub runs_take : (n : ℕ) (bytes : List ℕ) (x : List StepRun × List ℕ) → runs_at n bytes ≡ Ok x → (bytes ≡ flat_map run_line x.0 ++ x.1) × AreRunForms None x.0 × (length x.0 ≡ n)
unfolding runs_at
runs_take n bytes x e =
    let t = repeat_takes (λ (r : StepRun). r) run_at after_run GoodRun run_takes n None bytes x e in
    let g = runs_good None x.0 t.text t.are_good in
    (t.parts ∙ ap (λ (y : List ℕ). y ++ x.1) g.1, g.0, t.count)

pub runs_again : (runs : List StepRun) (rest : List ℕ) → AreRunForms None runs → runs_at (length runs) (flat_map run_line runs ++ rest) ≡ Ok (runs, rest)
unfolding runs_at
runs_again runs rest forms = repeat_again (λ (r : StepRun). r) run_at after_run GoodRun run_again runs None (flat_map run_line runs) rest (good_runs None runs forms)
