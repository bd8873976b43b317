-- The runs of a schedule, read from its front.
use Rattle.std.proofs.Common.{◌≡◌, ℕ, ◌+◌, ◌*◌, ◌<◌, ◌≤◌, Bool, true, false, zero, suc, Option, None, Some, List, [], ◌∷◌, ◌++◌, length, take, get_or, replicate, cond, refl, sym, ap, subst, ◌∙◌, append_assoc, add-one, arith}
use Rattle.std.proofs.lemmas.Bool.{and_parts}
use Rattle.std.proofs.lemmas.Bool.Decides.{nat_tests}
use Rattle.std.proofs.lemmas.List.{append-nil}
use Rattle.std.proofs.Math.Nat.{mul-le-mul_left, mul-le-mul_right}
use Rattle.civil_minutes.specs.declared.century.TheConstants.{MINUTES_OF_CENTURY}
use Rattle.duty_core.specs.declared.activity.Activity.{Activity}
use Rattle.duty_core.specs.declared.activity.Activity.TheVariants.{Drive, Serve, Wait, Off, Berth}
use Rattle.duty_core.specs.declared.mark.Mark.{Mark}
use Rattle.duty_core.specs.declared.params.Params.{Params}
use Rattle.duty_core.specs.declared.rule.Rule.{Rule}
use Rattle.rule_readings.specs.declared.reading.Reading.{Reading}
use Rattle.tour_model.specs.declared.limits.TheConstants.{LONGEST_TOUR, LATEST_START}
use Rattle.tour_model.specs.declared.tour.Tour.{Tour}
use Rattle.tour_model.specs.Tour.{IsTour}
use Rattle.tour_model.specs.Way.{done}
use Rattle.tour_model.specs.Laws.LengthLaws.{tour_grid_some}
use Rattle.report_text.specs.declared.runs.Doing.{Doing}
use Rattle.text_parts.specs.Parts.{Part, Puts}
use Rattle.text_parts.specs.Laws.PartLaws.{puts_on}
use Rattle.cert_text.specs.Text.Reading.{same_act}
use Rattle.report_text.specs.Report.{same_stop, same, Run, runs_with, runs_of, doing_at, doings, minute_of, run_line, run_lines, mark_line, mark_lines, reading_line, reading_lines}

-- ---- what steps do the same

abbrev pub run : ℕ → Doing → Run
run count doing = record { count = count; doing = doing }

same_act-same : (x : Activity) → same_act x x ≡ true
same_act-same Drive = refl
same_act-same Serve = refl
same_act-same Wait = refl
same_act-same Off = refl
same_act-same Berth = refl

same_act_is : (x y : Activity) → same_act x y ≡ true → x ≡ y
same_act_is Drive Drive e = refl
same_act_is Serve Serve e = refl
same_act_is Wait Wait e = refl
same_act_is Off Off e = refl
same_act_is Berth Berth e = refl
same_act_is _ _ e = cc

same_stop-same : (s : Option ℕ) → same_stop s s ≡ true
same_stop-same None = refl
same_stop-same (Some a) = grind (arith, nat_tests)

same_stop_is : (s t : Option ℕ) → same_stop s t ≡ true → s ≡ t
same_stop_is None None e = refl
same_stop_is (Some a) (Some b) e = let q : a ≡ b = grind (arith, nat_tests) in ap (λ n. Some n) q
same_stop_is None (Some b) e = cc
same_stop_is (Some a) None e = cc

pub same-same : (x : Doing) → same x x ≡ true
same-same x = rw (same_act-same x.act, same_stop-same x.stop) refl

doing_of : Activity → Option ℕ → Doing
doing_of act stop = record { act = act; stop = stop }

pub same_is : (x y : Doing) → same x y ≡ true → x ≡ y
unfolding doing_of
same_is x y e =
    let parts = and_parts (same_act x.act y.act) (same_stop x.stop y.stop) e in
    ap (λ act. doing_of act x.stop) (same_act_is x.act y.act parts.0) ∙ ap (λ stop. doing_of y.act stop) (same_stop_is x.stop y.stop parts.1)

by_bool : (b : Bool) → (b ≡ true → ⊥) → b ≡ false
by_bool true no_way = absurd (no_way refl)
by_bool false no_way = refl

pub same_not : (x y : Doing) → (x ≡ y → ⊥) → same x y ≡ false
same_not x y differ = by_bool (same x y) (λ e. differ (same_is x y e))

-- ---- runs

-- a step that does another thing begins a run of its own
other_head : (x y : Doing) (runs : List Run) → same x y ≡ false → runs_with x (runs_with y runs) ≡ run 1 x ∷ runs_with y runs
other_head x y [] e = rw e refl
other_head x y (r ∷ rs) e = elim (same y r.doing) as (λ b. runs_with x (cond b (run (r.count + 1) y ∷ rs) (run 1 y ∷ (r ∷ rs))) ≡ run 1 x ∷ cond b (run (r.count + 1) y ∷ rs) (run 1 y ∷ (r ∷ rs))) [ true ↦ rw e refl | false ↦ rw e refl ]

runs_end : (n : ℕ) (x : Doing) → runs_of (replicate (suc n) x) ≡ run (suc n) x ∷ []
runs_end zero x = refl
runs_end (suc n) x = rw (runs_end n x, same-same x, add-one) refl

runs_other : (n : ℕ) (x y : Doing) (ys : List Doing) → same x y ≡ false → runs_of (replicate (suc n) x ++ y ∷ ys) ≡ run (suc n) x ∷ runs_of (y ∷ ys)
runs_other zero x y ys e = other_head x y (runs_of ys) e
runs_other (suc n) x y ys e = rw (runs_other n x y ys e, same-same x, add-one) refl

-- a step after a run of its kind belongs to the run
runs_more : (n : ℕ) (x : Doing) (ys : List Doing) → replicate n x ++ x ∷ ys ≡ replicate (suc n) x ++ ys
runs_more zero x ys = refl
runs_more (suc n) x ys = ap (λ zs. x ∷ zs) (runs_more n x ys)

-- ---- lines

-- The text so far, with the lines of the run in progress, from one step up to another, and of all that comes after it, is the whole.
pub record HasTold (tour : Tour) (old text : List ℕ) (from step : ℕ) (x : Doing) (rest : List Doing) (whole : List Part) : Type 0 where
  pub more : ℕ
  pub is : from + suc more ≡ step
  pub parts : List Part
  pub put : Puts parts old text
  pub told : parts ++ run_lines tour from (runs_of (replicate (suc more) x ++ rest)) ≡ whole

pub told_first : (tour : Tour) (text : List ℕ) (x : Activity) (xs all : List Activity) → all ≡ x ∷ xs → HasTold tour text text 0 1 (doing_at tour 0 x) (doings tour (done 0 x) xs) (run_lines tour 0 (runs_of (doings tour 0 all)))
told_first tour text x xs all e = rw e record { more = 0; is = refl; parts = []; put = refl; told = refl }

pub told_more : (tour : Tour) (old text : List ℕ) (from step : ℕ) (x y : Doing) (rest ys : List Doing) (whole : List Part) → rest ≡ y ∷ ys → y ≡ x → HasTold tour old text from step x rest whole → HasTold tour old text from (step + 1) x ys whole
told_more tour old text from step x y rest ys whole front is h = record {
  more = suc h.more;
  is = omega (arith, h.is);
  parts = h.parts;
  put = h.put;
  told =
      let e : replicate (suc h.more) x ++ rest ≡ replicate (suc (suc h.more)) x ++ ys = rw (front, is) (runs_more (suc h.more) x ys) in
      sym (ap (λ zs. h.parts ++ run_lines tour from (runs_of zs)) e) ∙ h.told;
}

pub told_other : (tour : Tour) (old text new : List ℕ) (from step : ℕ) (x y : Doing) (rest ys : List Doing) (whole : List Part) → rest ≡ y ∷ ys → (y ≡ x → ⊥) → Puts (run_line tour from step x) text new → HasTold tour old text from step x rest whole → HasTold tour old new step (step + 1) y ys whole
told_other tour old text new from step x y rest ys whole front differ line h =
    let runs : runs_of (replicate (suc h.more) x ++ rest) ≡ run (suc h.more) x ∷ runs_of (y ∷ ys) = rw front (runs_other h.more x y ys (same_not x y (λ p. differ (sym p)))) in
    let lines : run_lines tour from (runs_of (replicate (suc h.more) x ++ rest)) ≡ run_line tour from step x ++ run_lines tour step (runs_of (y ∷ ys)) = ap (run_lines tour from) runs ∙ ap (λ to. run_line tour from to x ++ run_lines tour to (runs_of (y ∷ ys))) h.is in
    record {
      more = 0;
      is = omega arith;
      parts = h.parts ++ run_line tour from step x;
      put = puts_on h.parts (run_line tour from step x) old text new h.put line;
      told = append_assoc h.parts (run_line tour from step x) (run_lines tour step (runs_of (y ∷ ys))) ∙ sym (ap (λ zs. h.parts ++ zs) lines) ∙ h.told;
    }

pub told_whole : (tour : Tour) (old text new : List ℕ) (from step : ℕ) (x : Doing) (rest : List Doing) (whole : List Part) → rest ≡ [] → Puts (run_line tour from step x) text new → HasTold tour old text from step x rest whole → Puts whole old new
told_whole tour old text new from step x rest whole none line h =
    let all : replicate (suc h.more) x ++ rest ≡ replicate (suc h.more) x = rw none (append-nil (replicate (suc h.more) x)) in
    let runs : runs_of (replicate (suc h.more) x ++ rest) ≡ run (suc h.more) x ∷ [] = ap runs_of all ∙ runs_end h.more x in
    let lines : run_lines tour from (runs_of (replicate (suc h.more) x ++ rest)) ≡ run_line tour from step x = ap (run_lines tour from) runs ∙ ap (λ to. run_line tour from to x ++ []) h.is ∙ append-nil (run_line tour from step x) in
    let e : h.parts ++ run_line tour from step x ≡ whole = sym (ap (λ zs. h.parts ++ zs) lines) ∙ h.told in
    subst (λ parts. Puts parts old new) e (puts_on h.parts (run_line tour from step x) old text new h.put line)

-- what the steps from one on do: the first of them, and the others
pub doings_front : (tour : Tour) (p q : ℕ) (y : Activity) (xs ys : List Activity) (d : Doing) → xs ≡ y ∷ ys → d ≡ doing_at tour p y → q ≡ done p y → doings tour p xs ≡ d ∷ doings tour q ys
doings_front tour p q y xs ys d front e f = rw (front, e, f) refl

-- an activity does at most one step
pub done_most : (p : ℕ) (x : Activity) → done p x ≤ p + 1
done_most p Drive = omega arith
done_most p Serve = omega arith
done_most p Wait = omega arith
done_most p Off = omega arith
done_most p Berth = omega arith

-- such a schedule has few steps
pub steps_few : (tour : Tour) (n : ℕ) → IsTour tour → n * tour.grid ≤ LONGEST_TOUR → n ≤ LONGEST_TOUR
steps_few tour n t short =
    let some : 1 ≤ tour.grid = tour_grid_some tour t in
    let m : n * 1 ≤ n * tour.grid = mul-le-mul_left n some in
    omega (arith, m, short)

-- a step of a schedule that is no longer than a tour begins within the century
pub minute_within : (tour : Tour) (n step : ℕ) → IsTour tour → n * tour.grid ≤ LONGEST_TOUR → step ≤ n → minute_of tour step < MINUTES_OF_CENTURY
minute_within tour n step t short le =
    let m : step * tour.grid ≤ n * tour.grid = mul-le-mul_right tour.grid le in
    let late : tour.start ≤ LATEST_START = t.not_late in
    omega (arith, m, short, late)

-- ---- marks

pub mark_lines_more : (params : Params) (marks : List Mark) (i : ℕ) (d : Mark) → i < length marks → mark_lines params (take (i + 1) marks) ≡ mark_lines params (take i marks) ++ mark_line params (get_or marks i d)
mark_lines_more params [] i d l = absurd (omega arith)
mark_lines_more params (m ∷ marks) zero d l = append-nil (mark_line params m)
mark_lines_more params (m ∷ marks) (suc i) d l =
    let e : suc i + 1 ≡ suc (i + 1) = omega arith in
    ap (λ n. mark_lines params (take n (m ∷ marks))) e
    ∙ ap (λ ps. mark_line params m ++ ps) (mark_lines_more params marks i d (omega arith)) ∙ sym (append_assoc (mark_line params m) (mark_lines params (take i marks)) (mark_line params (get_or marks i d)))

-- ---- readings

pub reading_lines_more : (lines : List (Rule × Option Reading)) (i : ℕ) (d : Rule × Option Reading) → i < length lines → reading_lines (take (i + 1) lines) ≡ reading_lines (take i lines) ++ reading_line (get_or lines i d)
reading_lines_more [] i d l = absurd (omega arith)
reading_lines_more (m ∷ lines) zero d l = append-nil (reading_line m)
reading_lines_more (m ∷ lines) (suc i) d l =
    let e : suc i + 1 ≡ suc (i + 1) = omega arith in
    ap (λ n. reading_lines (take n (m ∷ lines))) e
    ∙ ap (λ ps. reading_line m ++ ps) (reading_lines_more lines i d (omega arith)) ∙ sym (append_assoc (reading_line m) (reading_lines (take i lines)) (reading_line (get_or lines i d)))
