-- The successors of a state, by the ends of its run in progress.
use Rattle.std.proofs.Common.{◌≡◌, ℕ, ◌-◌, Bool, true, false, [], refl, sym, ◌∙◌, ap, append-nil}
use Rattle.std.specs.Prelude.{Option, None, Some, map, flat_map}
use Rattle.std.specs.Option.{option_to_list}
use Rattle.duty_core.specs.declared.activity.Activity.{Activity}
use Rattle.duty_core.specs.declared.mark.Mark.{Mark}
use Rattle.duty_core.specs.declared.mark.Mark.TheVariants.{SplitRest}
use Rattle.rule_core.specs.declared.nexts.Next.{Next}
use Rattle.rule_core.specs.declared.nexts.Nexts.{Nexts}
use Rattle.rule_core.specs.Reach.{listed, nexts_made}
use Rattle.rule_core.specs.Laws.ListedLaws.{listed_images, listed_later}
use Rattle.sleeper_split.specs.declared.rule.TheConstants.SplitRule.{CANADA}
use Rattle.sleeper_split.specs.declared.count.SplitCount.{SplitCount}
use Rattle.sleeper_split.specs.declared.ends.Ends.{Ends}
use Rattle.sleeper_split.specs.Machine.{run_of}
use Rattle.sleeper_split.specs.Choices.{choices}
use Rattle.sleeper_split.specs.Ends.{ends_of}
use Rattle.sleeper_split.specs.Laws.EndLaws.{chosen, ends_list, ends_are}
use Rattle.canada_rules.specs.declared.state.Calendar.{Calendar}
use Rattle.canada_rules.specs.declared.state.CanadaState.{CanadaState}
use Rattle.canada_rules.specs.Machine.{ca_fits, calendar_after, mark_of, ca_next, nexts_with, ca_nexts, goes_on}
use Rattle.canada_rules.specs.Ends.{next_with}

next_is : (r : Calendar × Option Mark) (start : ℕ) (split : Bool) (o : Option SplitCount) → option_to_list (next_with o r.0 (mark_of split start r.1)) ≡ map (ca_next r start) (chosen split o)
next_is r start split None = refl
next_is r start split (Some s) = refl

abbrev pub nexts_by : Calendar × Option Mark → ℕ → Ends → Nexts CanadaState
nexts_by r start e = nexts_made (next_with e.plain r.0 r.1) (next_with e.split r.0 (Some (SplitRest start))) (next_with e.full r.0 r.1)

pub nexts_are : (r : Calendar × Option Mark) (start : ℕ) (e : Ends) → listed (nexts_by r start e) ≡ map (ca_next r start) (ends_list e)
nexts_are r start e =
    listed_images (ca_next r start) (next_with e.plain r.0 r.1) (next_with e.split r.0 (Some (SplitRest start))) (next_with e.full r.0 r.1) (chosen false e.plain) (chosen true e.split) (chosen false e.full)
    (next_is r start false e.plain) (next_is r start true e.split) (next_is r start false e.full)

-- the successors of a state whose calendar goes on, where the parts are known to be these
pub nexts_found : (may : Bool) (start : ℕ) (s : CanadaState) (at : ℕ) (x : Activity) (r : Calendar × Option Mark) (begin : ℕ) (e : Ends) (a b c : Option (Next CanadaState)) →
    calendar_after start s.calendar at x ≡ Some r → begin ≡ at - run_of s.split → e ≡ ends_of CANADA may ca_fits s.split x →
    a ≡ next_with e.plain r.0 r.1 → b ≡ next_with e.split r.0 (Some (SplitRest begin)) → c ≡ next_with e.full r.0 r.1 →
    listed (nexts_made a b c) ≡ ca_nexts may start s at x
nexts_found may start s at x r begin e a b c found p q f g h =
    ap (λ n. listed (nexts_made n b c)) f ∙ (ap (λ n. listed (nexts_made (next_with e.plain r.0 r.1) n c)) g
    ∙ (ap (λ n. listed (nexts_made (next_with e.plain r.0 r.1) (next_with e.split r.0 (Some (SplitRest begin))) n)) h
    ∙ (ap (λ v. listed (nexts_by r v e)) p ∙ (ap (λ v. listed (nexts_by r (at - run_of s.split) v)) q
    ∙ (nexts_are r (at - run_of s.split) (ends_of CANADA may ca_fits s.split x) ∙ (ap (map (ca_next r (at - run_of s.split))) (ends_are CANADA may ca_fits s.split x)
    ∙ sym (ap (λ o. nexts_with o (at - run_of s.split) (choices CANADA may ca_fits s.split x)) found)))))))

-- and of one whose calendar does not
pub nexts_of_none : (may : Bool) (start : ℕ) (s : CanadaState) (at : ℕ) (x : Activity) → calendar_after start s.calendar at x ≡ None → [] ≡ ca_nexts may start s at x
nexts_of_none may start s at x e = sym (ap (λ o. nexts_with o (at - run_of s.split) (choices CANADA may ca_fits s.split x)) e)

-- # Many units

onward_is : (may : Bool) (start : ℕ) (o : Option (Next CanadaState)) (at : ℕ) (x : Activity) (n : ℕ) →
    option_to_list (goes_on may start o at x n) ≡ flat_map (λ t. option_to_list (goes_on may start (Some t) at x n)) (option_to_list o)
onward_is may start None at x n = refl
onward_is may start (Some t) at x n = sym (append-nil (option_to_list (goes_on may start (Some t) at x n)))

-- what the first unit and the later ones lead to
pub advances_are : (may : Bool) (start : ℕ) (ns : Nexts CanadaState) (at : ℕ) (x : Activity) (n : ℕ) →
    listed (nexts_made (goes_on may start ns.a at x n) (goes_on may start ns.b at x n) (goes_on may start ns.c at x n)) ≡ flat_map (λ t. option_to_list (goes_on may start (Some t) at x n)) (listed ns)
advances_are may start ns at x n = listed_later (λ o. goes_on may start o at x n) (λ t. option_to_list (goes_on may start (Some t) at x n)) ns (λ o. onward_is may start o at x n)
