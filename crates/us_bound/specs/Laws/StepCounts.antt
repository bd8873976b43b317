-- What a step makes of a state's counts, in steps, is no better than what a lawful deed makes of them.
use Rattle.std.proofs.Common.{◌≡◌, ℕ, ◌+◌, ◌-◌, ◌<◌, ◌≤◌, Bool, true, false, cond, refl, sym, ◌∙◌, ap, subst, arith, ◌⊎◌, inl, inr, zero, suc}
use Rattle.std.specs.Prelude.{Option, None, Some, nat_eq, nat_lt, nat_le, ◌&&◌}
use Rattle.std.proofs.lemmas.Bool.{cases_lt, and_parts}
use Rattle.std.proofs.lemmas.Bool.Decides.{nat_tests}
use Rattle.duty_core.specs.declared.limits.TheConstants.{COUNT_LIMIT, US_FULL_REST, US_PAIR_LEAST, US_SPLIT_LEAST, US_WINDOW_LIMIT, US_DRIVING_LIMIT, US_UNBROKEN_LIMIT}
use Rattle.duty_core.specs.declared.activity.Activity.{Activity}
use Rattle.duty_core.specs.Activity.{rests, drives}
use Rattle.sleeper_split.specs.declared.rule.TheConstants.SplitRule.{US}
use Rattle.sleeper_split.specs.declared.count.WaitingRest.{WaitingRest}
use Rattle.sleeper_split.specs.declared.count.OpenRun.{OpenRun}
use Rattle.sleeper_split.specs.declared.count.SplitCount.{SplitCount}
use Rattle.sleeper_split.specs.Machine.{IsSplitCount, may_split, may_pair, has_split_berth, has_pair_berth, split_count}
use Rattle.sleeper_split.specs.Runs.{more}
use Rattle.sleeper_split.specs.Laws.Runs.{rest_run, duty_run, works_at_once}
use Rattle.us_rules.specs.declared.state.BreakCount.{BreakCount}
use Rattle.us_rules.specs.declared.state.UsState.{UsState}
use Rattle.rest_bound.specs.declared.limits.Limits.{Limits}
use Rattle.rest_bound.specs.declared.counts.Counts.{Counts}
use Rattle.rest_bound.specs.Ends.{Plan}
use Rattle.rest_bound.specs.CanEnd.{CanEnd}
use Rattle.rest_bound.specs.Order.{IsNoWorse}
use Rattle.rest_bound.specs.Runs.{after_full, after_undeclared, after_duty as duty_after, after_split, idled, MayWork, MaySplit, Pairs, AreCounts, AreLimits}
use Rattle.rest_bound.specs.Laws.CountLaws.{duty_full, duty_on}
use Rattle.rest_bound.specs.Laws.StepLaws.{step_work, step_split, step_wait, step_split_wait, step_idle}
use Rattle.rest_bound.specs.Laws.OrderLaws.{no_worse_ends}
use Rattle.us_bound.specs.Projection.{up, waiting_steps, streak_steps, counts_of, limits_of}
use Rattle.us_bound.specs.Laws.Rounding.{IsRounding}
use Rattle.us_bound.specs.Laws.Units.{KeepsLimits, IsStart, IsDuty, split_least}

-- The last step of which these laws speak, plus one: up to it no count that stays at its greatest matters.
abbrev pub last_step : ℕ
last_step = 20160

-- # Rounding

-- time that is a step more leaves no less, also where a count stays at its greatest
passes : (g k n : ℕ) → IsRounding g → k ≤ last_step → k + up g US_WINDOW_LIMIT - up g (more g n) ≤ k + up g US_WINDOW_LIMIT - (up g n + 1)
passes g k n r l = elim (cases_lt COUNT_LIMIT (n + g)) [
  | inl a ↦
      let e : more g n ≡ COUNT_LIMIT = omega arith in
      let f : up g (more g n) ≡ up g COUNT_LIMIT = ap (up g) e in
      let big = r.big in
      omega arith
  | inr a ↦
      let e : more g n ≡ n + g = omega arith in
      let f : up g (more g n) ≡ up g (n + g) = ap (up g) e in
      let q = r.next n in
      omega arith
]

-- driving that stays within its limit
drives_on : (g n : ℕ) → IsRounding g → more g n ≤ US_DRIVING_LIMIT → up g (more g n) ≡ up g n + 1
drives_on g n r l =
    let e : more g n ≡ n + g = omega arith in
    ap (up g) e ∙ r.next n

-- # Duty

-- What holds of the counts d after a step of duty that goes on from `start`, of which c is the break's count before.
record IsDutyCounts (berth : Bool) (g k : ℕ) (dr : Bool) (start : SplitCount) (streak : ℕ) (d : Counts) : Type 0 where
  elapsed : k + up g US_WINDOW_LIMIT - d.elapsed ≤ k + up g US_WINDOW_LIMIT - (up g start.base.elapsed + 1)
  since : k + up g US_WINDOW_LIMIT - d.since ≤ k + up g US_WINDOW_LIMIT - (up g start.last.elapsed + 1)
  driving : up g start.base.driving + cond dr 1 0 ≤ d.driving
  driven : up g start.last.driving + cond dr 1 0 ≤ d.driven
  run : d.run ≡ 0
  waiting : d.waiting ≡ waiting_steps g start.waiting
  streak_on : cond dr (streak + 1) 0 ≤ d.streak
  in_time : dr ≡ true → up g start.base.elapsed + 1 ≤ up g US_WINDOW_LIMIT
  spare : dr ≡ true → d.driving ≤ up g US_DRIVING_LIMIT
  unbroken : dr ≡ true → d.streak ≤ up g US_UNBROKEN_LIMIT

streak_cases : (b : Bool) (n : ℕ) → cond b n 0 ≤ n
streak_cases true n = omega arith
streak_cases false n = omega arith

-- the streak that a state has is at most its driving since the break
streak_most : (g : ℕ) (c : BreakCount) → streak_steps g c ≤ up g c.driven
streak_most g c = streak_cases (nat_eq c.still 0) (up g c.driven)

streak_now : (g : ℕ) (c : BreakCount) → c.still ≡ 0 → streak_steps g c ≡ up g c.driven
streak_now g c e = let t : nat_eq c.still 0 ≡ true = grind (arith, nat_tests) in ap (λ b. cond b (up g c.driven) 0) t

duty_counts : (berth : Bool) (g k : ℕ) (dr : Bool) (start : SplitCount) (s t : UsState) → IsRounding g → k ≤ last_step → t.split ≡ duty_run dr g start → start.last.driving ≤ start.base.driving →
    (dr ≡ true → t.rest_break.driven ≡ s.rest_break.driven + g) → (dr ≡ true → t.rest_break.still ≡ 0) → (dr ≡ true → KeepsLimits t) → IsDutyCounts berth g k dr start (streak_steps g s.rest_break) (counts_of g t)
duty_counts berth g k true start s t r l e fewer driven still keeps =
    let q = keeps refl in
    let e1 : t.split.base.elapsed ≡ more g start.base.elapsed = ap (λ (c : SplitCount). c.base.elapsed) e in
    let e2 : t.split.last.elapsed ≡ more g start.last.elapsed = ap (λ (c : SplitCount). c.last.elapsed) e in
    let e3 : t.split.base.driving ≡ more g start.base.driving = ap (λ (c : SplitCount). c.base.driving) e in
    let e4 : t.split.last.driving ≡ more g start.last.driving = ap (λ (c : SplitCount). c.last.driving) e in
    let u1 : up g t.split.base.elapsed ≡ up g (more g start.base.elapsed) = ap (up g) e1 in
    let u2 : up g t.split.last.elapsed ≡ up g (more g start.last.elapsed) = ap (up g) e2 in
    let b1 = q.elapsed in let b2 = q.driving in let b3 = q.driven in let small = r.few in
    let u3 : up g t.split.base.driving ≡ up g start.base.driving + 1 = ap (up g) e3 ∙ drives_on g start.base.driving r (omega arith) in
    let u4 : up g t.split.last.driving ≡ up g start.last.driving + 1 = ap (up g) e4 ∙ drives_on g start.last.driving r (omega arith) in
    let p1 = passes g k start.base.elapsed r l in
    let p2 = passes g k start.last.elapsed r l in
    let w : up g t.rest_break.driven ≡ up g s.rest_break.driven + 1 = ap (up g) (driven refl) ∙ r.next s.rest_break.driven in
    let v = streak_now g t.rest_break (still refl) in
    let z = streak_most g s.rest_break in
    let m1 : start.base.elapsed + g ≤ US_WINDOW_LIMIT = omega arith in
    let m2 = r.more (start.base.elapsed + g) US_WINDOW_LIMIT m1 in
    let m3 = r.next start.base.elapsed in
    let m4 = r.more t.split.base.driving US_DRIVING_LIMIT b2 in
    let m5 = r.more t.rest_break.driven US_UNBROKEN_LIMIT b3 in
    record {
      elapsed = omega arith;
      since = omega arith;
      driving = omega arith;
      driven = omega arith;
      run = ap (λ (c : SplitCount). up g c.run.long) e ∙ r.none;
      waiting = ap (λ (c : SplitCount). waiting_steps g c.waiting) e;
      streak_on = omega arith;
      in_time = λ h. omega arith;
      spare = λ h. m4;
      unbroken = λ h. omega arith;
    }
duty_counts berth g k false start s t r l e fewer driven still keeps =
    let u1 : up g t.split.base.elapsed ≡ up g (more g start.base.elapsed) = ap (λ (c : SplitCount). up g c.base.elapsed) e in
    let u2 : up g t.split.last.elapsed ≡ up g (more g start.last.elapsed) = ap (λ (c : SplitCount). up g c.last.elapsed) e in
    let u3 : up g t.split.base.driving ≡ up g start.base.driving = ap (λ (c : SplitCount). up g c.base.driving) e in
    let u4 : up g t.split.last.driving ≡ up g start.last.driving = ap (λ (c : SplitCount). up g c.last.driving) e in
    let p1 = passes g k start.base.elapsed r l in
    let p2 = passes g k start.last.elapsed r l in
    record {
      elapsed = omega arith;
      since = omega arith;
      driving = omega arith;
      driven = omega arith;
      run = ap (λ (c : SplitCount). up g c.run.long) e ∙ r.none;
      waiting = ap (λ (c : SplitCount). waiting_steps g c.waiting) e;
      streak_on = omega arith;
      in_time = λ h. absurd (let z : false ≡ true = h in cc);
      spare = λ h. absurd (let z : false ≡ true = h in cc);
      unbroken = λ h. absurd (let z : false ≡ true = h in cc);
    }

-- # Which deed does it

-- a deed of duty that goes on afresh is no worse
fresh_no_worse : (berth : Bool) (g k : ℕ) (dr : Bool) (start : SplitCount) (streak : ℕ) (d : Counts) → IsDutyCounts berth g k dr start streak d → IsNoWorse (limits_of berth g) k (after_full (cond dr 1 0) (cond dr (streak + 1) 0)) d
fresh_no_worse berth g k dr start streak d h =
    let a = h.elapsed in let b = h.since in let c = h.driving in let f = h.driven in
    record { elapsed = omega arith; driving = omega arith; since = omega arith; driven = omega arith; run = inl (sym h.run); waiting = inl refl; streak = h.streak_on }

-- one that declares no rest
undeclared_no_worse : (berth : Bool) (g k : ℕ) (dr : Bool) (s : UsState) (d : Counts) → IsDutyCounts berth g k dr s.split (streak_steps g s.rest_break) d →
    IsNoWorse (limits_of berth g) k (after_undeclared (cond dr 1 0) (cond dr (streak_steps g s.rest_break + 1) 0) (counts_of g s)) d
undeclared_no_worse berth g k dr s d h =
    let a = h.elapsed in let b = h.since in let c = h.driving in let f = h.driven in
    record { elapsed = a; driving = omega arith; since = b; driven = omega arith; run = inl (sym h.run); waiting = inr (sym h.waiting); streak = h.streak_on }

-- the time of a split rest that is left out, rounded
split_time : (g : ℕ) (s : SplitCount) → IsRounding g → IsSplitCount s → up g s.last.elapsed - up g s.run.long ≤ up g (s.last.elapsed - s.run.long)
split_time g s r i =
    let l = i.thereafter in
    let e : s.last.elapsed - s.run.long + s.run.long ≡ s.last.elapsed = omega arith in
    let q = r.sum (s.last.elapsed - s.run.long) s.run.long in
    let f : up g (s.last.elapsed - s.run.long + s.run.long) ≡ up g s.last.elapsed = ap (up g) e in
    omega arith

-- one that declares a split rest
split_no_worse : (berth : Bool) (g k : ℕ) (dr : Bool) (s : UsState) (d : Counts) → IsRounding g → IsSplitCount s.split → IsDutyCounts berth g k dr (split_count s.split) (streak_steps g s.rest_break) d →
    IsNoWorse (limits_of berth g) k (after_split (cond dr 1 0) (cond dr (streak_steps g s.rest_break + 1) 0) (counts_of g s)) d
split_no_worse berth g k dr s d r i h =
    let a = h.elapsed in let b = h.since in let c = h.driving in let f = h.driven in
    let m = split_time g s.split r i in
    let z = r.none in
    record { elapsed = omega arith; driving = omega arith; since = omega arith; driven = omega arith; run = inl (sym h.run); waiting = inr (sym h.waiting); streak = h.streak_on }

-- # What is lawful by minutes is so by steps

below : (a b : ℕ) → nat_lt a b ≡ true → a < b
below a b h = grind (arith, nat_tests)

upto : (a b : ℕ) → nat_le a b ≡ true → a ≤ b
upto a b h = grind (arith, nat_tests)

and_least : (s : SplitCount) → may_split US s ≡ true → (s.run.long < US_FULL_REST) × (may_pair US s.waiting s.run ≡ true)
and_least s h =
    let q = and_parts (nat_le US_SPLIT_LEAST s.run.long) (nat_lt s.run.long US_FULL_REST && (has_split_berth US.berth s.run && may_pair US s.waiting s.run)) h in
    let r = and_parts (nat_lt s.run.long US_FULL_REST) (has_split_berth US.berth s.run && may_pair US s.waiting s.run) q.1 in
    (below s.run.long US_FULL_REST r.0, (and_parts (has_split_berth US.berth s.run) (may_pair US s.waiting s.run) r.1).1)

pairs_of : (g : ℕ) (o : Option WaitingRest) (r : OpenRun) (berth : Bool) → IsRounding g → may_pair US o r ≡ true → Pairs (limits_of berth g) (up g r.long) (waiting_steps g o)
pairs_of g None r berth k h = tt
pairs_of g (Some w) r berth k h =
    let q = and_parts (nat_le US_PAIR_LEAST (w.long + r.long)) (has_pair_berth US.berth w r) h in
    let l = upto US_PAIR_LEAST (w.long + r.long) q.0 in
    let a = k.sum w.long r.long in
    let b = k.more US_FULL_REST (w.long + r.long) (omega arith) in
    omega arith

may_split_of : (g : ℕ) (s : UsState) → IsRounding g → may_split US s.split ≡ true → up g s.split.run.long < up g US_FULL_REST → MaySplit (limits_of true g) (counts_of g s)
may_split_of g s r h l =
    let a = r.more US_SPLIT_LEAST s.split.run.long (split_least s.split h) in
    record { least = a; most = omega arith; short = l; pairs = pairs_of g s.split.waiting s.split.run true r (and_least s.split h).1 }

-- a run that has steps has minutes
run_some : (g n : ℕ) → IsRounding g → 0 < up g n → 0 < n
run_some g zero r h = absurd (let z = r.none in omega arith)
run_some g (suc n) r h = omega arith

pub limits_hold : (berth : Bool) (g : ℕ) → IsRounding g → AreLimits (limits_of berth g)
limits_hold true g r = let a = r.whole US_SPLIT_LEAST (omega arith) in let b = r.more US_SPLIT_LEAST US_FULL_REST (omega arith) in record { some = a; split = b }
limits_hold false g r = let a = r.whole US_FULL_REST (omega arith) in record { some = a; split = omega arith }

pub counts_hold : (g : ℕ) (plan : Plan) (p : ℕ) (s : UsState) → IsRounding g → IsSplitCount s.split → (0 < s.split.run.long → plan.idles p ≡ true) → AreCounts plan p (counts_of g s)
counts_hold g plan p s r i rests =
    let w = i.later in
    let a = r.more s.split.last.elapsed s.split.base.elapsed w.less_elapsed in
    let b = r.more s.split.last.driving s.split.base.driving w.less_driving in
    record { shorter = a; fewer = b; rests = λ h. rests (run_some g s.split.run.long r h) }

-- # What can end after a step could end before it

-- the counts after a step of driving keep the limits
record KeepsShift (l : Limits) (dr : Bool) (x : Counts) : Type 0 where
  elapsed : dr ≡ true → x.elapsed ≤ l.elapsed
  driving : dr ≡ true → x.driving ≤ l.driving
  unbroken : dr ≡ true → x.streak ≤ l.unbroken

-- One of two deeds leads to counts that leave no less open: one that declares no split rest, or one that does.
duty_ends : {R : Type 0} (plan : Plan) (berth : Bool) (g n p k e : ℕ) (dr : Bool) (start : SplitCount) (s : UsState) (d : Counts) → IsRounding g → IsSplitCount s.split → IsStart berth s.split start →
    IsDutyCounts berth g k dr start (streak_steps g s.rest_break) d → CanEnd plan (limits_of berth g) n p k d e →
    ((x : Counts) → x ≡ duty_after (limits_of berth g) (cond dr 1 0) (cond dr (streak_steps g s.rest_break + 1) 0) (counts_of g s) → KeepsShift (limits_of berth g) dr x → CanEnd plan (limits_of berth g) n p k x e → R) →
    ((x : Counts) → x ≡ after_split (cond dr 1 0) (cond dr (streak_steps g s.rest_break + 1) 0) (counts_of g s) → MaySplit (limits_of berth g) (counts_of g s) → KeepsShift (limits_of berth g) dr x → CanEnd plan (limits_of berth g) n p k x e → R) → R
duty_ends plan berth g n p k e dr start s d r i starts h ends plain split =
    let l = limits_of berth g in
    let c = counts_of g s in
    let w : ℕ = cond dr 1 0 in
    let b : ℕ = cond dr (streak_steps g s.rest_break + 1) 0 in
    elim (cases_lt c.run l.full_rest) [
      | inl a ↦ elim starts [
        | inl u ↦
            let f : IsDutyCounts berth g k dr s.split (streak_steps g s.rest_break) d = subst (λ v. IsDutyCounts berth g k dr v (streak_steps g s.rest_break) d) u.1 h in
            plain (after_undeclared w b c) (sym (duty_on l w b c a))
            (record { elapsed = f.in_time; driving = λ q. (let y = f.driving in let z = f.spare q in omega arith); unbroken = λ q. (let y = f.streak_on in let z = f.unbroken q in omega arith) })
            (no_worse_ends plan l n p k e (after_undeclared w b c) d (undeclared_no_worse berth g k dr s d f) ends)
        | inr v ↦ elim v [
          | inl u ↦
              let f : IsDutyCounts berth g k dr (split_count s.split) (streak_steps g s.rest_break) d = subst (λ v. IsDutyCounts berth g k dr v (streak_steps g s.rest_break) d) u.2 h in
              let m = split_time g s.split r i in
              split (after_split w b c) refl (subst (λ v. MaySplit (limits_of v g) c) (sym u.0) (may_split_of g s r u.1 a))
              (record { elapsed = λ q. (let y : up g (s.split.last.elapsed - s.split.run.long) + 1 ≤ up g US_WINDOW_LIMIT = f.in_time q in omega arith); driving = λ q. (let y : up g s.split.last.driving + w ≤ d.driving = f.driving in let z = f.spare q in omega arith); unbroken = λ q. (let y = f.streak_on in let z = f.unbroken q in omega arith) })
              (no_worse_ends plan l n p k e (after_split w b c) d (split_no_worse berth g k dr s d r i f) ends)
          | inr u ↦ absurd (let y = r.more US_FULL_REST s.split.run.long u.0 in omega arith)
        ]
      ]
      | inr a ↦
          plain (after_full w b) (sym (duty_full l w b c a))
          (record { elapsed = λ q. (let y = h.in_time q in omega arith); driving = λ q. (let y = h.driving in let z = h.spare q in omega arith); unbroken = λ q. (let y = h.streak_on in let z = h.unbroken q in omega arith) })
          (no_worse_ends plan l n p k e (after_full w b) d (fresh_no_worse berth g k dr start (streak_steps g s.rest_break) d h) ends)
    ]

start_fewer : (berth : Bool) (s start : SplitCount) → IsSplitCount s → IsStart berth s start → start.last.driving ≤ start.base.driving
start_fewer berth s start i (inl h) = subst (λ (v : SplitCount). v.last.driving ≤ v.base.driving) (sym h.1) (i.later.less_driving)
start_fewer berth s start i (inr (inl h)) = subst (λ (v : SplitCount). v.last.driving ≤ v.base.driving) (sym h.2) (let z : 0 ≤ s.last.driving = omega arith in z)
start_fewer berth s start i (inr (inr h)) = subst (λ (v : SplitCount). v.last.driving ≤ v.base.driving) (sym h.1) (let z : 0 ≤ 0 = omega arith in z)

counts_after : (berth : Bool) (g k : ℕ) (x : Activity) (s t : UsState) (r : IsRounding g) (l : k ≤ last_step) (i : IsSplitCount s.split) (d : IsDuty berth x g s t) → IsDutyCounts berth g k (drives x) d.start (streak_steps g s.rest_break) (counts_of g t)
counts_after berth g k x s t r l i d =
    duty_counts berth g k (drives x) d.start s t r l (d.count ∙ sym (works_at_once (drives x) g d.start r.some)) (start_fewer berth s.split d.start i d.starts) d.driven d.still d.keeps

-- a step of driving or service
pub work_ends : (plan : Plan) (berth : Bool) (g n p k e : ℕ) (x : Activity) (s t : UsState) → IsRounding g → k + 1 ≤ last_step → IsSplitCount s.split → (0 < s.split.run.long → plan.idles p ≡ true) → plan.opens p k ≡ true → plan.drives p ≡ drives x →
    IsDuty berth x g s t → CanEnd plan (limits_of berth g) n (p + 1) (k + 1) (counts_of g t) e → CanEnd plan (limits_of berth g) (suc n) p k (counts_of g s) e
work_ends plan berth g n p k e x s t r l i rests opens same d ends =
    let lim = limits_of berth g in
    let c = counts_of g s in
    let z = limits_hold berth g r in
    let a = counts_hold g plan p s r i rests in
    let h : IsDutyCounts berth g (k + 1) (plan.drives p) d.start (streak_steps g s.rest_break) (counts_of g t) = subst (λ b. IsDutyCounts berth g (k + 1) b d.start (streak_steps g s.rest_break) (counts_of g t)) (sym same) (counts_after berth g (k + 1) x s t r l i d) in
    duty_ends plan berth g n (p + 1) (k + 1) e (plan.drives p) d.start s (counts_of g t) r i d.starts h ends
    (λ y q f w. step_work plan lim n p k e c z a (subst (MayWork plan lim p k) q (record { opened = opens; elapsed = f.elapsed; driving = f.driving; unbroken = f.unbroken })) (subst (λ v. CanEnd plan lim n (p + 1) (k + 1) v e) q w))
    (λ y q m f w. step_split plan lim n p k e c z a m (subst (MayWork plan lim p k) q (record { opened = opens; elapsed = f.elapsed; driving = f.driving; unbroken = f.unbroken })) (subst (λ v. CanEnd plan lim n (p + 1) (k + 1) v e) q w))

-- a step of waiting
pub wait_ends : (plan : Plan) (berth : Bool) (g n p k e : ℕ) (x : Activity) (s t : UsState) → IsRounding g → k + 1 ≤ last_step → IsSplitCount s.split → (0 < s.split.run.long → plan.idles p ≡ true) → drives x ≡ false →
    IsDuty berth x g s t → CanEnd plan (limits_of berth g) n p (k + 1) (counts_of g t) e → CanEnd plan (limits_of berth g) n p k (counts_of g s) e
wait_ends plan berth g n p k e x s t r l i rests still d ends =
    let lim = limits_of berth g in
    let c = counts_of g s in
    let z = limits_hold berth g r in
    let a = counts_hold g plan p s r i rests in
    let h : IsDutyCounts berth g (k + 1) false d.start (streak_steps g s.rest_break) (counts_of g t) = subst (λ b. IsDutyCounts berth g (k + 1) b d.start (streak_steps g s.rest_break) (counts_of g t)) still (counts_after berth g (k + 1) x s t r l i d) in
    duty_ends plan berth g n p (k + 1) e false d.start s (counts_of g t) r i d.starts h ends
    (λ y q f w. step_wait plan lim n p k e c z (subst (λ v. CanEnd plan lim n p (k + 1) v e) q w))
    (λ y q m f w. step_split_wait plan lim n p k e c z a m (subst (λ v. CanEnd plan lim n p (k + 1) v e) q w))

-- # Rest

-- a run goes on, or stays at its greatest and is a full rest
run_on : (g n m : ℕ) → IsRounding g → m ≡ up g (more g n) → (up g n + 1 ≡ m) ⊎ ((up g US_FULL_REST ≤ up g n + 1) × (up g US_FULL_REST ≤ m))
run_on g n m r e = elim (cases_lt COUNT_LIMIT (n + g)) [
  | inl a ↦ inr (
      let few = r.few in
      let q = r.more US_FULL_REST n (omega arith) in
      let f : up g (more g n) ≡ up g COUNT_LIMIT = ap (up g) (let z : more g n ≡ COUNT_LIMIT = omega arith in z) in
      let u = r.more US_FULL_REST COUNT_LIMIT (omega arith) in
      (omega arith, omega arith))
  | inr a ↦ inl (
      let f : up g (more g n) ≡ up g (n + g) = ap (up g) (let z : more g n ≡ n + g = omega arith in z) in
      let q = r.next n in
      omega arith)
]

rest_no_worse : (berth sleeps : Bool) (g k : ℕ) (s t : UsState) → IsRounding g → k ≤ last_step → t.split ≡ rest_run sleeps g s.split → IsNoWorse (limits_of berth g) k (idled (counts_of g s)) (counts_of g t)
rest_no_worse berth sleeps g k s t r l e =
    let u1 : up g t.split.base.elapsed ≡ up g (more g s.split.base.elapsed) = ap (λ (c : SplitCount). up g c.base.elapsed) e in
    let u2 : up g t.split.last.elapsed ≡ up g (more g s.split.last.elapsed) = ap (λ (c : SplitCount). up g c.last.elapsed) e in
    let u3 : up g t.split.base.driving ≡ up g s.split.base.driving = ap (λ (c : SplitCount). up g c.base.driving) e in
    let u4 : up g t.split.last.driving ≡ up g s.split.last.driving = ap (λ (c : SplitCount). up g c.last.driving) e in
    let p1 = passes g k s.split.base.elapsed r l in
    let p2 = passes g k s.split.last.elapsed r l in
    record {
      elapsed = omega arith;
      driving = omega arith;
      since = omega arith;
      driven = omega arith;
      run = run_on g s.split.run.long (up g t.split.run.long) r (ap (λ (c : SplitCount). up g c.run.long) e);
      waiting = inr (ap (λ (c : SplitCount). waiting_steps g c.waiting) (sym e));
      streak = omega arith;
    }

-- a step of rest
pub rest_ends : (plan : Plan) (berth sleeps : Bool) (g n p k e : ℕ) (s t : UsState) → IsRounding g → k + 1 ≤ last_step → plan.idles p ≡ true → t.split ≡ rest_run sleeps g s.split →
    CanEnd plan (limits_of berth g) n p (k + 1) (counts_of g t) e → CanEnd plan (limits_of berth g) n p k (counts_of g s) e
rest_ends plan berth sleeps g n p k e s t r l i q ends =
    step_idle plan (limits_of berth g) n p k e (counts_of g s) (limits_hold berth g r) i
    (no_worse_ends plan (limits_of berth g) n p (k + 1) e (idled (counts_of g s)) (counts_of g t) (rest_no_worse berth sleeps g (k + 1) s t r l q) ends)
