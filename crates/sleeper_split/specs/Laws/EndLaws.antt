-- The ends of the run in progress are the choices at a unit.
use Rattle.std.proofs.Common.{◌≡◌, Bool, true, false, cond, List, [], ◌∷◌, ◌++◌, refl, sym, ◌∙◌, ap, append-nil}
use Rattle.std.specs.Prelude.{Option, None, Some, nat_eq}
use Rattle.duty_core.specs.declared.activity.Activity.{Activity}
use Rattle.duty_core.specs.Activity.{rests, drives}
use Rattle.sleeper_split.specs.declared.rule.SplitRule.{SplitRule}
use Rattle.sleeper_split.specs.declared.count.SplitCount.{SplitCount}
use Rattle.sleeper_split.specs.declared.ends.Ends.{Ends}
use Rattle.sleeper_split.specs.Machine.{after_rest, after_duty, end_undeclared, end_split, end_full, run_of}
use Rattle.sleeper_split.specs.Choices.{Choice, choice, choices, sleeps, at_duty, after_run, run_choices}
use Rattle.sleeper_split.specs.Ends.{ends_made, duty_after, ends_of}

-- the choices that these are
abbrev pub chosen : Bool → Option SplitCount → List Choice
chosen split None = []
chosen split (Some s) = choice s split ∷ []

abbrev pub ends_list : Ends → List Choice
ends_list e = chosen false e.plain ++ (chosen true e.split ++ chosen false e.full)

chosen_duty : (x : Activity) (split b : Bool) (s : SplitCount) → cond b (choice s split ∷ []) [] ≡ chosen split (cond b (Some s) None)
chosen_duty x split true s = refl
chosen_duty x split false s = refl

pub after_is : (ok : SplitCount → Bool) (x : Activity) (split : Bool) (o : Option SplitCount) → after_run ok x split o ≡ chosen split (duty_after ok x o)
after_is ok x split None = refl
after_is ok x split (Some s) = chosen_duty x split (cond (drives x) (ok (after_duty (drives x) s)) true) (after_duty (drives x) s)

allowed_is : (ok : SplitCount → Bool) (x : Activity) (may : Bool) (o : Option SplitCount) → cond may (after_run ok x true o) [] ≡ chosen true (cond may (duty_after ok x o) None)
allowed_is ok x true o = after_is ok x true o
allowed_is ok x false o = refl

by_case : (b : Bool) (d e : Ends) (u v : List Choice) → ends_list d ≡ u → ends_list e ≡ v → ends_list (cond b d e) ≡ cond b u v
by_case true d e u v p q = p
by_case false d e u v p q = q

pub ends_are : (rule : SplitRule) (may : Bool) (ok : SplitCount → Bool) (s : SplitCount) (x : Activity) → ends_list (ends_of rule may ok s x) ≡ choices rule may ok s x
ends_are rule may ok s x =
    by_case (rests x) (ends_made (Some (after_rest (sleeps x) s)) None None)
    (cond (nat_eq (run_of s) 0) (ends_made (duty_after ok x (Some s)) None None) (ends_made (duty_after ok x (end_undeclared rule s)) (cond may (duty_after ok x (end_split rule s)) None) (duty_after ok x (end_full rule s))))
    (choice (after_rest (sleeps x) s) false ∷ []) (cond (nat_eq (run_of s) 0) (at_duty ok x false s) (run_choices rule may ok s x)) refl
    (by_case (nat_eq (run_of s) 0) (ends_made (duty_after ok x (Some s)) None None) (ends_made (duty_after ok x (end_undeclared rule s)) (cond may (duty_after ok x (end_split rule s)) None) (duty_after ok x (end_full rule s)))
    (at_duty ok x false s) (run_choices rule may ok s x)
    (append-nil (chosen false (duty_after ok x (Some s))) ∙ sym (after_is ok x false (Some s)))
    (ap (λ l. l ++ (chosen true (cond may (duty_after ok x (end_split rule s)) None) ++ chosen false (duty_after ok x (end_full rule s)))) (sym (after_is ok x false (end_undeclared rule s)))
    ∙ ap (λ l. after_run ok x false (end_undeclared rule s) ++ l)
    (ap (λ l. l ++ chosen false (duty_after ok x (end_full rule s))) (sym (allowed_is ok x may (end_split rule s)))
    ∙ ap (λ l. cond may (after_run ok x true (end_split rule s)) [] ++ l) (sym (after_is ok x false (end_full rule s))))))
