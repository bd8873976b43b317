-- How many successors a state has.
use Rattle.std.proofs.Common.{◌≡◌, ℕ, zero, suc, ◌+◌, ◌-◌, ◌<◌, ◌≤◌, Bool, true, false, cond, List, [], ◌∷◌, ◌++◌, length, sym, ap, subst, arith, length-append, inl, inr}
use Rattle.std.specs.Prelude.{Option, None, Some, map, flat_map, nat_eq, nat_lt, nat_le, ◌&&◌, if◌then◌else◌}
use Rattle.std.proofs.lemmas.Bool.{cases_lt}
use Rattle.std.proofs.lemmas.Bool.Decides.{nat_tests}
use Rattle.std.proofs.lemmas.List.{length-map}
use Rattle.duty_core.specs.declared.activity.Activity.{Activity}
use Rattle.duty_core.specs.declared.mark.Mark.{Mark}
use Rattle.duty_core.specs.Activity.{rests, drives}
use Rattle.rule_core.specs.declared.nexts.Next.{Next}
use Rattle.sleeper_split.specs.declared.rule.SplitRule.{SplitRule}
use Rattle.sleeper_split.specs.declared.rule.TheConstants.SplitRule.{US}
use Rattle.sleeper_split.specs.declared.count.SplitCount.{SplitCount}
use Rattle.sleeper_split.specs.Machine.{made, no_run, after_rest, after_duty, may_pair, rested_count, end_undeclared, end_split, end_full, run_of}
use Rattle.sleeper_split.specs.Choices.{Choice, choice, sleeps, at_duty, after_run, run_choices, choices}
use Rattle.us_rules.specs.declared.state.UsState.{UsState}
use Rattle.us_rules.specs.Machine.{us_fits, break_after, break_ok, week_after, week_ok, us_next, us_nexts, goes_on, marked_next, us_advances}

-- # Choices

one_choice : (b : Bool) (c : Choice) → length (cond b (c ∷ []) []) ≤ 1
one_choice true c = omega arith
one_choice false c = omega arith

-- one choice by each end of a run
behind_one : (ok : SplitCount → Bool) (x : Activity) (split : Bool) (o : Option SplitCount) → length (after_run ok x split o) ≤ 1
behind_one ok x split None = omega arith
behind_one ok x split (Some s) = one_choice (cond (drives x) (ok (after_duty (drives x) s)) true) (choice (after_duty (drives x) s) split)

behind_none : (ok : SplitCount → Bool) (x : Activity) (split : Bool) (o : Option SplitCount) → o ≡ None → length (after_run ok x split o) ≤ 0
behind_none ok x split o e = subst (λ p. length (after_run ok x split p) ≤ 0) (sym e) (omega arith)

allowed_one : (ok : SplitCount → Bool) (x : Activity) (may : Bool) (o : Option SplitCount) → length (cond may (after_run ok x true o) []) ≤ 1
allowed_one ok x true o = behind_one ok x true o
allowed_one ok x false o = omega arith

-- a run that may end undeclared is no full rest
not_full : (rule : SplitRule) (s : SplitCount) → s.run.long < rule.full → end_full rule s ≡ None
not_full rule s l =
    let b : nat_le rule.full s.run.long ≡ false = grind (arith, nat_tests) in
    ap (λ t. if t && may_pair rule s.waiting s.run then Some rested_count else None) b

not_undeclared : (rule : SplitRule) (s : SplitCount) → rule.full ≤ s.run.long → end_undeclared rule s ≡ None
not_undeclared rule s l =
    let b : nat_lt s.run.long rule.full ≡ false = grind (arith, nat_tests) in
    ap (λ t. if t then Some (made no_run s.base s.last s.waiting) else None) b

run_two : (rule : SplitRule) (may : Bool) (ok : SplitCount → Bool) (s : SplitCount) (x : Activity) → length (run_choices rule may ok s x) ≤ 2
run_two rule may ok s x =
    let plain : List Choice = after_run ok x false (end_undeclared rule s) in
    let split : List Choice = cond may (after_run ok x true (end_split rule s)) [] in
    let full : List Choice = after_run ok x false (end_full rule s) in
    let all : length (plain ++ (split ++ full)) ≡ length plain + (length split + length full) = omega (arith, length-append plain (split ++ full), length-append split full) in
    let middle = allowed_one ok x may (end_split rule s) in
    elim (cases_lt s.run.long rule.full) [
      | inl l ↦ (let a = behind_one ok x false (end_undeclared rule s) in let b = behind_none ok x false (end_full rule s) (not_full rule s l) in omega arith)
      | inr l ↦ (let a = behind_none ok x false (end_undeclared rule s) (not_undeclared rule s l) in let b = behind_one ok x false (end_full rule s) in omega arith)
    ]

either_two : (b : Bool) (xs ys : List Choice) → length xs ≤ 2 → length ys ≤ 2 → length (cond b xs ys) ≤ 2
either_two true xs ys h g = h
either_two false xs ys h g = g

choices_two : (rule : SplitRule) (may : Bool) (ok : SplitCount → Bool) (s : SplitCount) (x : Activity) → length (choices rule may ok s x) ≤ 2
choices_two rule may ok s x =
    let duty = one_choice (cond (drives x) (ok (after_duty (drives x) s)) true) (choice (after_duty (drives x) s) false) in
    either_two (rests x) (choice (after_rest (sleeps x) s) false ∷ []) (cond (nat_eq (run_of s) 0) (at_duty ok x false s) (run_choices rule may ok s x)) (omega arith)
    (either_two (nat_eq (run_of s) 0) (at_duty ok x false s) (run_choices rule may ok s x) (omega arith) (run_two rule may ok s x))

-- # Successors

map_two : {X Y : Type 0} (b : Bool) (f : X → Y) (xs : List X) → length xs ≤ 2 → length (if b then map f xs else []) ≤ 2
map_two true f xs h = omega (arith, length-map xs f)
map_two false f xs h = omega arith

-- A state has two successors at most by a unit.
pub us_nexts_two : (berth : Bool) (days day_start : ℕ) (s : UsState) (at : ℕ) (x : Activity) → length (us_nexts berth days day_start s at x) ≤ 2
us_nexts_two berth days day_start s at x =
    map_two (break_ok s.rest_break at x && week_ok days day_start s.week at x) (us_next (break_after s.rest_break at x) (week_after day_start s.week at x) (at - run_of s.split)) (choices US berth us_fits s.split x)
    (choices_two US berth us_fits s.split x)

marked_one : (mark : Option Mark) (o : Option UsState) → length (marked_next mark o) ≤ 1
marked_one mark None = omega arith
marked_one mark (Some s) = omega arith

flat_few : {X Y : Type 0} (f : X → List Y) → ((x : X) → length (f x) ≤ 1) → (xs : List X) → length (flat_map f xs) ≤ length xs
flat_few f h [] = omega arith
flat_few f h (x ∷ xs) = let a = h x in let b = flat_few f h xs in omega (arith, length-append (f x) (flat_map f xs))

-- And it has two at most by many equal units.
pub us_advances_two : (berth : Bool) (days day_start : ℕ) (s : UsState) (at : ℕ) (x : Activity) (n : ℕ) → length (us_advances berth days day_start s at x n) ≤ 2
us_advances_two berth days day_start s at x zero = omega arith
us_advances_two berth days day_start s at x (suc n) =
    let few = flat_few (λ (t : Next UsState). marked_next t.mark (goes_on berth days day_start (Some t.state) (at + 1) x n)) (λ t. marked_one t.mark (goes_on berth days day_start (Some t.state) (at + 1) x n))
    (us_nexts berth days day_start s at x) in
    let two = us_nexts_two berth days day_start s at x in
    omega arith
