-- The successors of a state, by the ends of its run in progress.
use Rattle.std.proofs.Common.{◌≡◌, ℕ, ◌-◌, Bool, true, false, cond, [], refl, sym, ◌∙◌, ap, append-nil}
use Rattle.std.specs.Prelude.{Option, None, Some, map, flat_map, ◌&&◌}
use Rattle.std.specs.Option.{option_to_list}
use Rattle.duty_core.specs.declared.activity.Activity.{Activity}
use Rattle.duty_core.specs.declared.mark.Mark.{Mark}
use Rattle.duty_core.specs.declared.mark.Mark.TheVariants.{SplitRest}
use Rattle.rule_core.specs.declared.nexts.Next.{Next}
use Rattle.rule_core.specs.declared.nexts.Nexts.{Nexts}
use Rattle.rule_core.specs.Reach.{listed, nexts_made}
use Rattle.rule_core.specs.Laws.ListedLaws.{listed_images, listed_later}
use Rattle.sleeper_split.specs.declared.rule.TheConstants.SplitRule.{US}
use Rattle.sleeper_split.specs.declared.count.SplitCount.{SplitCount}
use Rattle.sleeper_split.specs.declared.ends.Ends.{Ends}
use Rattle.sleeper_split.specs.Machine.{run_of}
use Rattle.sleeper_split.specs.Choices.{choices}
use Rattle.sleeper_split.specs.Ends.{ends_of}
use Rattle.sleeper_split.specs.Laws.EndLaws.{chosen, ends_list, ends_are}
use Rattle.us_rules.specs.declared.state.BreakCount.{BreakCount}
use Rattle.us_rules.specs.declared.state.WeekCount.{WeekCount}
use Rattle.us_rules.specs.declared.state.UsState.{UsState}
use Rattle.us_rules.specs.Machine.{us_fits, break_ok, break_after, week_ok, week_after, mark_of, us_next, us_nexts, goes_on, marked_next}
use Rattle.us_rules.specs.Ends.{next_with, with_mark, onward}

next_is : (rest_break : BreakCount) (week : WeekCount) (start : ℕ) (split : Bool) (o : Option SplitCount) →
    option_to_list (next_with o rest_break week (mark_of split start)) ≡ map (us_next rest_break week start) (chosen split o)
next_is rest_break week start split None = refl
next_is rest_break week start split (Some s) = refl

abbrev pub nexts_by : BreakCount → WeekCount → ℕ → Ends → Nexts UsState
nexts_by rest_break week start e =
    nexts_made (next_with e.plain rest_break week None) (next_with e.split rest_break week (Some (SplitRest start))) (next_with e.full rest_break week None)

pub nexts_are : (rest_break : BreakCount) (week : WeekCount) (start : ℕ) (e : Ends) → listed (nexts_by rest_break week start e) ≡ map (us_next rest_break week start) (ends_list e)
nexts_are rest_break week start e =
    listed_images (us_next rest_break week start) (next_with e.plain rest_break week None) (next_with e.split rest_break week (Some (SplitRest start))) (next_with e.full rest_break week None) (chosen false e.plain) (chosen true e.split) (chosen false e.full)
    (next_is rest_break week start false e.plain) (next_is rest_break week start true e.split) (next_is rest_break week start false e.full)

-- the successors of a state that the guards let pass
pub nexts_of_ends : (berth : Bool) (days day_start : ℕ) (s : UsState) (at : ℕ) (x : Activity) → break_ok s.rest_break at x ≡ true → week_ok days day_start s.week at x ≡ true →
    listed (nexts_by (break_after s.rest_break at x) (week_after day_start s.week at x) (at - run_of s.split) (ends_of US berth us_fits s.split x)) ≡ us_nexts berth days day_start s at x
nexts_of_ends berth days day_start s at x b w =
    let f = us_next (break_after s.rest_break at x) (week_after day_start s.week at x) (at - run_of s.split) in
    nexts_are (break_after s.rest_break at x) (week_after day_start s.week at x) (at - run_of s.split) (ends_of US berth us_fits s.split x)
    ∙ (ap (map f) (ends_are US berth us_fits s.split x)
    ∙ (sym (ap (λ c. cond (c && week_ok days day_start s.week at x) (map f (choices US berth us_fits s.split x)) []) b ∙ ap (λ c. cond c (map f (choices US berth us_fits s.split x)) []) w)))

-- the same, where the parts are known to be these
pub nexts_found : (berth : Bool) (days day_start : ℕ) (s : UsState) (at : ℕ) (x : Activity) (rest_break : BreakCount) (week : WeekCount) (start : ℕ) (e : Ends) (a b c : Option (Next UsState)) →
    break_ok s.rest_break at x ≡ true → week_ok days day_start s.week at x ≡ true →
    rest_break ≡ break_after s.rest_break at x → week ≡ week_after day_start s.week at x → start ≡ at - run_of s.split → e ≡ ends_of US berth us_fits s.split x →
    a ≡ next_with e.plain rest_break week None → b ≡ next_with e.split rest_break week (Some (SplitRest start)) → c ≡ next_with e.full rest_break week None →
    listed (nexts_made a b c) ≡ us_nexts berth days day_start s at x
nexts_found berth days day_start s at x rest_break week start e a b c ok fits p q r u f g h =
    ap (λ n. listed (nexts_made n b c)) f ∙ (ap (λ n. listed (nexts_made (next_with e.plain rest_break week None) n c)) g
    ∙ (ap (λ n. listed (nexts_made (next_with e.plain rest_break week None) (next_with e.split rest_break week (Some (SplitRest start))) n)) h
    ∙ (ap (λ v. listed (nexts_by v week start e)) p ∙ (ap (λ v. listed (nexts_by (break_after s.rest_break at x) v start e)) q
    ∙ (ap (λ v. listed (nexts_by (break_after s.rest_break at x) (week_after day_start s.week at x) v e)) r
    ∙ (ap (λ v. listed (nexts_by (break_after s.rest_break at x) (week_after day_start s.week at x) (at - run_of s.split) v)) u
    ∙ nexts_of_ends berth days day_start s at x ok fits))))))

-- and of one that they do not
pub nexts_of_none : (berth : Bool) (days day_start : ℕ) (s : UsState) (at : ℕ) (x : Activity) → (break_ok s.rest_break at x && week_ok days day_start s.week at x) ≡ false → [] ≡ us_nexts berth days day_start s at x
nexts_of_none berth days day_start s at x e =
    let f = us_next (break_after s.rest_break at x) (week_after day_start s.week at x) (at - run_of s.split) in
    sym (ap (λ c. cond c (map f (choices US berth us_fits s.split x)) []) e)

with_mark_is : (mark : Option Mark) (o : Option UsState) → option_to_list (with_mark mark o) ≡ marked_next mark o
with_mark_is mark None = refl
with_mark_is mark (Some s) = refl

onward_is : (berth : Bool) (days day_start : ℕ) (o : Option (Next UsState)) (at : ℕ) (x : Activity) (n : ℕ) →
    option_to_list (onward berth days day_start o at x n) ≡ flat_map (λ t. marked_next t.mark (goes_on berth days day_start (Some t.state) at x n)) (option_to_list o)
onward_is berth days day_start None at x n = refl
onward_is berth days day_start (Some t) at x n = with_mark_is t.mark (goes_on berth days day_start (Some t.state) at x n) ∙ sym (append-nil (marked_next t.mark (goes_on berth days day_start (Some t.state) at x n)))

-- what the first unit and the later ones lead to
pub advances_are : (berth : Bool) (days day_start : ℕ) (ns : Nexts UsState) (at : ℕ) (x : Activity) (n : ℕ) →
    listed (nexts_made (onward berth days day_start ns.a at x n) (onward berth days day_start ns.b at x n) (onward berth days day_start ns.c at x n))
    ≡ flat_map (λ t. marked_next t.mark (goes_on berth days day_start (Some t.state) at x n)) (listed ns)
advances_are berth days day_start ns at x n =
    listed_later (λ o. onward berth days day_start o at x n) (λ t. marked_next t.mark (goes_on berth days day_start (Some t.state) at x n)) ns (λ o. onward_is berth days day_start o at x n)
