-- Which state may stand for which, whatever comes next: the relation, its order, and why it lasts.
use Rattle.std.proofs.Common.{◌≡◌, ◌↔◌, ℕ, ◌+◌, ◌-◌, ◌<◌, ◌≤◌, Bool, true, List, length, refl, sym, ◌∙◌, ap, subst, arith, ◌⊎◌, inl, inr}
use Rattle.std.specs.Prelude.{sum, nat_le, nat_lt, ◌&&◌}
use Rattle.std.proofs.lemmas.Bool.{and_parts, and_from, cases_lt}
use Rattle.std.proofs.lemmas.Bool.Decides.{nat_tests}
use Rattle.std.proofs.lemmas.List.{take_all}
use Rattle.duty_core.specs.declared.activity.Activity.{Activity}
use Rattle.duty_core.specs.declared.activity.Activity.TheVariants.{Drive, Serve, Wait, Off, Berth}
use Rattle.duty_core.specs.declared.limits.TheConstants.{US_BREAK, US_UNBROKEN_LIMIT, US_RESTART}
use Rattle.duty_core.specs.UsRules.{us_week_limit}
use Rattle.day_sums.specs.Sums.{first_days, added, cleared, LeavesNoLess, leaves_no_less}
use Rattle.day_sums.specs.Laws.SumLaws.{length-added, first_added, cleared_twice}
use Rattle.day_sums.specs.Laws.LeftLaws.{leaves_decides, leaves_same, leaves_over, leaves_cleared, leaves_turned, leaves_added, leaves_more, turned_none}
use Rattle.day_sums.specs.Counted.{turned, after_rest}
use Rattle.day_sums.specs.Laws.Counted.{length-turned}
use Rattle.sleeper_split.specs.declared.rule.TheConstants.SplitRule.{US}
use Rattle.sleeper_split.specs.Covers.{Covers, covers_count}
use Rattle.sleeper_split.specs.Laws.CoverLaws.{covers_same, covers_over}
use Rattle.sleeper_split.specs.Laws.CoverTests.{covers_decides}
use Rattle.sleeper_split.specs.Laws.BetterLaws.{us_pair_rule}
use Rattle.us_rules.specs.declared.state.BreakCount.{BreakCount}
use Rattle.us_rules.specs.declared.state.WeekCount.{WeekCount}
use Rattle.us_rules.specs.declared.state.UsState.{UsState}
use Rattle.us_rules.specs.Machine.{break_made, paused, break_after, break_ok, week_made, begins_day, week_rested, week_after, week_ok, IsUsState, break_covers, week_covers, us_covers}
use Rattle.us_rules.specs.Laws.BreakGuard.{paused_cases}

-- # The relation

pub record BreakCovers (c d : BreakCount) : Type 0 where
  pub still : d.still ≤ c.still
  pub driven : c.driven ≤ d.driven

pub record WeekCovers (days day_start at : ℕ) (c d : WeekCount) : Type 0 where
  pub rest : d.rest ≤ c.rest
  pub sums : LeavesNoLess (us_week_limit days) days (turned (begins_day day_start at) c.sums) (turned (begins_day day_start at) d.sums)

pub record UsCovers (berth : Bool) (days day_start : ℕ) (a b : UsState) (at : ℕ) : Type 0 where
  pub split : Covers US berth a.split b.split
  pub rest_break : BreakCovers a.rest_break b.rest_break
  pub week : WeekCovers days day_start at a.week b.week

upto : (a b : ℕ) → nat_le a b ≡ true → a ≤ b
upto a b h = grind (arith, nat_tests)

is_upto : (a b : ℕ) → a ≤ b → nat_le a b ≡ true
is_upto a b h = grind (arith, nat_tests)

covers_means : (berth : Bool) (days day_start : ℕ) (a b : UsState) (at : ℕ) → us_covers berth days day_start a b at ≡ true → UsCovers berth days day_start a b at
covers_means berth days day_start a b at h =
    let x = and_parts (covers_count US berth a.split b.split) (break_covers a.rest_break b.rest_break && week_covers days day_start at a.week b.week) h in
    let y = and_parts (break_covers a.rest_break b.rest_break) (week_covers days day_start at a.week b.week) x.1 in
    let turn : Bool = begins_day day_start at in
    let u = and_parts (nat_le b.rest_break.still a.rest_break.still) (nat_le a.rest_break.driven b.rest_break.driven) y.0 in
    let v = and_parts (nat_le b.week.rest a.week.rest) (leaves_no_less (us_week_limit days) days (turned turn a.week.sums) (turned turn b.week.sums)) y.1 in
    record {
      split = (covers_decides US berth a.split b.split).0 x.0;
      rest_break = record { still = upto b.rest_break.still a.rest_break.still u.0; driven = upto a.rest_break.driven b.rest_break.driven u.1 };
      week = record {
        rest = upto b.week.rest a.week.rest v.0;
        sums = (leaves_decides (us_week_limit days) days (turned turn a.week.sums) (turned turn b.week.sums)).0 v.1;
      };
    }

means_covers : (berth : Bool) (days day_start : ℕ) (a b : UsState) (at : ℕ) → UsCovers berth days day_start a b at → us_covers berth days day_start a b at ≡ true
means_covers berth days day_start a b at h =
    let turn : Bool = begins_day day_start at in
    and_from (covers_count US berth a.split b.split) (break_covers a.rest_break b.rest_break && week_covers days day_start at a.week b.week)
    ((covers_decides US berth a.split b.split).1 h.split)
    (and_from (break_covers a.rest_break b.rest_break) (week_covers days day_start at a.week b.week)
    (and_from (nat_le b.rest_break.still a.rest_break.still) (nat_le a.rest_break.driven b.rest_break.driven)
    (is_upto b.rest_break.still a.rest_break.still h.rest_break.still) (is_upto a.rest_break.driven b.rest_break.driven h.rest_break.driven))
    (and_from (nat_le b.week.rest a.week.rest) (leaves_no_less (us_week_limit days) days (turned turn a.week.sums) (turned turn b.week.sums))
    (is_upto b.week.rest a.week.rest h.week.rest)
    ((leaves_decides (us_week_limit days) days (turned turn a.week.sums) (turned turn b.week.sums)).1 h.week.sums)))

pub us_covers_decides : (berth : Bool) (days day_start : ℕ) (a b : UsState) (at : ℕ) → (us_covers berth days day_start a b at ≡ true) ↔ UsCovers berth days day_start a b at
us_covers_decides berth days day_start a b at = (covers_means berth days day_start a b at, means_covers berth days day_start a b at)

-- # Order

pub us_same : (berth : Bool) (days day_start : ℕ) (a : UsState) (at : ℕ) → UsCovers berth days day_start a a at
us_same berth days day_start a at = record {
  split = covers_same US berth a.split;
  rest_break = record { still = omega arith; driven = omega arith };
  week = record { rest = omega arith; sums = leaves_same (us_week_limit days) days (turned (begins_day day_start at) a.week.sums) };
}

pub us_over : (berth : Bool) (days day_start : ℕ) (a b c : UsState) (at : ℕ) → IsUsState berth days day_start a at → UsCovers berth days day_start a b at → UsCovers berth days day_start b c at → UsCovers berth days day_start a c at
us_over berth days day_start a b c at i h k =
    let u = h.rest_break.still in let v = h.rest_break.driven in let w = k.rest_break.still in let x = k.rest_break.driven in let y = h.week.rest in let z = k.week.rest in
    let turn : Bool = begins_day day_start at in
    record {
      split = covers_over US berth a.split b.split c.split us_pair_rule i.split h.split k.split;
      rest_break = record { still = omega arith; driven = omega arith };
      week = record {
        rest = omega arith;
        sums = leaves_over (us_week_limit days) days (turned turn a.week.sums) (turned turn b.week.sums) (turned turn c.week.sums) h.week.sums k.week.sums;
      };
    }

-- # Breaks

paused_covers : (c d : BreakCount) → BreakCovers c d → BreakCovers (paused c) (paused d)
paused_covers c d h = let s = h.still in let v = h.driven in elim (paused_cases c) [
  | inl x ↦ elim (paused_cases d) [
    | inl y ↦ subst (λ e. BreakCovers e (paused d)) (sym x.1) (subst (λ e. BreakCovers (break_made (c.still + 1) c.driven) e) (sym y.1) (record { still = omega arith; driven = v }))
    | inr y ↦ absurd (let a = x.0 in let b = y.0 in omega arith)
  ]
  | inr x ↦ elim (paused_cases d) [
    | inl y ↦ subst (λ e. BreakCovers e (paused d)) (sym x.1) (subst (λ e. BreakCovers (break_made US_BREAK 0) e) (sym y.1) (let a = y.0 in record { still = omega arith; driven = omega arith }))
    | inr y ↦ subst (λ e. BreakCovers e (paused d)) (sym x.1) (subst (λ e. BreakCovers (break_made US_BREAK 0) e) (sym y.1) (record { still = omega arith; driven = omega arith }))
  ]
]

pub break_covers_on : (c d : BreakCount) (at : ℕ) (x : Activity) → BreakCovers c d → BreakCovers (break_after c at x) (break_after d at x)
break_covers_on c d at Drive h = let v = h.driven in record { still = omega arith; driven = omega arith }
break_covers_on c d at Serve h = paused_covers c d h
break_covers_on c d at Wait h = paused_covers c d h
break_covers_on c d at Off h = paused_covers c d h
break_covers_on c d at Berth h = paused_covers c d h

is_below : (a b : ℕ) → a < b → nat_lt a b ≡ true
is_below a b h = grind (arith, nat_tests)

below : (a b : ℕ) → nat_lt a b ≡ true → a < b
below a b h = grind (arith, nat_tests)

pub break_covers_ok : (c d : BreakCount) (at : ℕ) (x : Activity) → BreakCovers c d → break_ok d at x ≡ true → break_ok c at x ≡ true
break_covers_ok c d at Drive h k = let v = h.driven in let l = below d.driven US_UNBROKEN_LIMIT k in is_below c.driven US_UNBROKEN_LIMIT (omega arith)
break_covers_ok c d at Serve h k = refl
break_covers_ok c d at Wait h k = refl
break_covers_ok c d at Off h k = refl
break_covers_ok c d at Berth h k = refl

paused_less : (c : BreakCount) → (paused c).driven ≤ c.driven
paused_less c = elim (paused_cases c) [
  | inl x ↦ subst (λ e. e.driven ≤ c.driven) (sym x.1) (omega arith)
  | inr x ↦ subst (λ e. e.driven ≤ c.driven) (sym x.1) (omega arith)
]

-- a pause against any other unit
pub pause_covers : (c : BreakCount) (at : ℕ) (x : Activity) → BreakCovers (paused c) (break_after c at x)
pause_covers c at Drive = let l = paused_less c in record { still = omega arith; driven = omega arith }
pause_covers c at Serve = record { still = omega arith; driven = omega arith }
pause_covers c at Wait = record { still = omega arith; driven = omega arith }
pause_covers c at Off = record { still = omega arith; driven = omega arith }
pause_covers c at Berth = record { still = omega arith; driven = omega arith }

-- # Weeks

-- what a state's week is counted by
pub record HasDays (days : ℕ) (c : WeekCount) : Type 0 where
  pub counted : length c.sums ≡ days
  pub some : 0 < days

rested_cases : (run : ℕ) (sums : List ℕ) → ((run < US_RESTART) × (after_rest US_RESTART run sums ≡ sums)) ⊎ ((US_RESTART ≤ run) × (after_rest US_RESTART run sums ≡ cleared sums))
rested_cases run sums = elim (cases_lt run US_RESTART) [ inl l ↦ inl (l, grind (arith, nat_tests)) | inr l ↦ inr (l, grind (arith, nat_tests)) ]

-- where no duty is left
cleared_covers : (limit days : ℕ) (turn : Bool) (zs xs ys : List ℕ) → zs ≡ cleared xs → LeavesNoLess limit days (turned turn zs) ys
cleared_covers limit days turn zs xs ys e = leaves_cleared limit days (turned turn zs) ys (turned_none turn zs (e ∙ (cleared_twice xs ∙ ap cleared (sym e))))

rested_covers : (days day_start at : ℕ) (c d : WeekCount) → HasDays days c → HasDays days d → WeekCovers days day_start at c d →
    WeekCovers days day_start (at + 1) (week_rested c.rest (turned (begins_day day_start at) c.sums)) (week_rested d.rest (turned (begins_day day_start at) d.sums))
rested_covers days day_start at c d hc hd h =
    let xs : List ℕ = turned (begins_day day_start at) c.sums in
    let ys : List ℕ = turned (begins_day day_start at) d.sums in
    let r = h.rest in
    let a = hc.counted in
    let b = hd.counted in
    let turn : Bool = begins_day day_start (at + 1) in
    record {
      rest = omega arith;
      sums = elim (rested_cases (c.rest + 1) xs) [
        | inr u ↦ cleared_covers (us_week_limit days) days turn (after_rest US_RESTART (c.rest + 1) xs) xs (turned turn (after_rest US_RESTART (d.rest + 1) ys)) u.1
        | inl u ↦ elim (rested_cases (d.rest + 1) ys) [
          | inr v ↦ absurd (let m = u.0 in let n = v.0 in omega arith)
          | inl v ↦ subst (λ zs. LeavesNoLess (us_week_limit days) days (turned turn zs) (turned turn (after_rest US_RESTART (d.rest + 1) ys))) (sym u.1)
              (subst (λ zs. LeavesNoLess (us_week_limit days) days (turned turn xs) (turned turn zs)) (sym v.1)
              (leaves_turned (us_week_limit days) days turn xs ys (omega (arith, length-turned (begins_day day_start at) c.sums)) (omega (arith, length-turned (begins_day day_start at) d.sums)) h.sums))
        ]
      ];
    }

worked_covers : (days day_start at : ℕ) (c d : WeekCount) → HasDays days c → HasDays days d → WeekCovers days day_start at c d →
    WeekCovers days day_start (at + 1) (week_made 0 (added 1 (turned (begins_day day_start at) c.sums))) (week_made 0 (added 1 (turned (begins_day day_start at) d.sums)))
worked_covers days day_start at c d hc hd h =
    let xs : List ℕ = turned (begins_day day_start at) c.sums in
    let ys : List ℕ = turned (begins_day day_start at) d.sums in
    let a : length xs ≡ days = length-turned (begins_day day_start at) c.sums ∙ hc.counted in
    let b : length ys ≡ days = length-turned (begins_day day_start at) d.sums ∙ hd.counted in
    let s = hc.some in
    record {
      rest = omega arith;
      sums = leaves_turned (us_week_limit days) days (begins_day day_start (at + 1)) (added 1 xs) (added 1 ys) (omega (arith, length-added 1 xs)) (omega (arith, length-added 1 ys))
          (leaves_added (us_week_limit days) days 1 xs ys (omega arith) (omega arith) h.sums);
    }

pub week_covers_on : (days day_start at : ℕ) (c d : WeekCount) (x : Activity) → HasDays days c → HasDays days d → WeekCovers days day_start at c d → WeekCovers days day_start (at + 1) (week_after day_start c at x) (week_after day_start d at x)
week_covers_on days day_start at c d Drive hc hd h = worked_covers days day_start at c d hc hd h
week_covers_on days day_start at c d Serve hc hd h = worked_covers days day_start at c d hc hd h
week_covers_on days day_start at c d Wait hc hd h = worked_covers days day_start at c d hc hd h
week_covers_on days day_start at c d Off hc hd h = rested_covers days day_start at c d hc hd h
week_covers_on days day_start at c d Berth hc hd h = rested_covers days day_start at c d hc hd h

-- all the days with a minute more
whole_added : (days : ℕ) (xs : List ℕ) → length xs ≡ days → 0 < days → sum (added 1 xs) ≡ first_days days xs + 1
whole_added days xs e s = let l : length (added 1 xs) ≤ days = omega (arith, length-added 1 xs) in sym (ap sum (take_all days (added 1 xs) l)) ∙ first_added days 1 xs s (omega arith)

pub week_covers_ok : (days day_start at : ℕ) (c d : WeekCount) (x : Activity) → HasDays days c → HasDays days d → WeekCovers days day_start at c d → week_ok days day_start d at x ≡ true → week_ok days day_start c at x ≡ true
week_covers_ok days day_start at c d Drive hc hd h k =
    let xs : List ℕ = turned (begins_day day_start at) c.sums in
    let ys : List ℕ = turned (begins_day day_start at) d.sums in
    let a = whole_added days xs (length-turned (begins_day day_start at) c.sums ∙ hc.counted) hc.some in
    let b = whole_added days ys (length-turned (begins_day day_start at) d.sums ∙ hd.counted) hd.some in
    let l : sum (added 1 ys) ≤ us_week_limit days = upto (sum (added 1 ys)) (us_week_limit days) k in
    let m : us_week_limit days - first_days days ys ≤ us_week_limit days - first_days days xs = h.sums days (omega arith) in
    is_upto (sum (added 1 xs)) (us_week_limit days) (omega arith)
week_covers_ok days day_start at c d Serve hc hd h k = refl
week_covers_ok days day_start at c d Wait hc hd h k = refl
week_covers_ok days day_start at c d Off hc hd h k = refl
week_covers_ok days day_start at c d Berth hc hd h k = refl

week_itself : (days day_start at : ℕ) (c : WeekCount) → WeekCovers days day_start at c c
week_itself days day_start at c = record { rest = omega arith; sums = leaves_same (us_week_limit days) days (turned (begins_day day_start at) c.sums) }

rest_against_duty : (days day_start at : ℕ) (c : WeekCount) → HasDays days c →
    WeekCovers days day_start (at + 1) (week_rested c.rest (turned (begins_day day_start at) c.sums)) (week_made 0 (added 1 (turned (begins_day day_start at) c.sums)))
rest_against_duty days day_start at c hc =
    let xs : List ℕ = turned (begins_day day_start at) c.sums in
    let a : length xs ≡ days = length-turned (begins_day day_start at) c.sums ∙ hc.counted in
    let s = hc.some in
    let turn : Bool = begins_day day_start (at + 1) in
    record {
      rest = omega arith;
      sums = elim (rested_cases (c.rest + 1) xs) [
        | inr u ↦ cleared_covers (us_week_limit days) days turn (after_rest US_RESTART (c.rest + 1) xs) xs (turned turn (added 1 xs)) u.1
        | inl u ↦ subst (λ zs. LeavesNoLess (us_week_limit days) days (turned turn zs) (turned turn (added 1 xs))) (sym u.1)
            (leaves_turned (us_week_limit days) days turn xs (added 1 xs) (omega arith) (omega (arith, length-added 1 xs)) (leaves_more (us_week_limit days) days 1 xs (omega arith)))
      ];
    }

-- rest against any other unit
pub week_rest_covers : (days day_start at : ℕ) (c : WeekCount) (x : Activity) → HasDays days c → WeekCovers days day_start (at + 1) (week_rested c.rest (turned (begins_day day_start at) c.sums)) (week_after day_start c at x)
week_rest_covers days day_start at c Drive hc = rest_against_duty days day_start at c hc
week_rest_covers days day_start at c Serve hc = rest_against_duty days day_start at c hc
week_rest_covers days day_start at c Wait hc = rest_against_duty days day_start at c hc
week_rest_covers days day_start at c Off hc = week_itself days day_start (at + 1) (week_rested c.rest (turned (begins_day day_start at) c.sums))
week_rest_covers days day_start at c Berth hc = week_itself days day_start (at + 1) (week_rested c.rest (turned (begins_day day_start at) c.sums))
