-- The relation between counts is reflexive and transitive, and what it relates goes on so, whatever comes.
use Rattle.std.proofs.Common.{◌≡◌, ℕ, ◌+◌, ◌<◌, ◌≤◌, Bool, true, false, refl, sym, ◌∙◌, ap, subst, arith, ◌⊎◌, inl, inr}
use Rattle.std.specs.Prelude.{Option, None, Some, not, max, nat_lt, nat_le, nat_eq, ◌&&◌, ◌||◌, Contains}
use Rattle.std.proofs.lemmas.Bool.{cases_lt}
use Rattle.duty_core.specs.declared.activity.Activity.{Activity}
use Rattle.duty_core.specs.declared.activity.Activity.TheVariants.{Drive, Serve, Wait, Off, Berth}
use Rattle.duty_core.specs.declared.limits.TheConstants.{COUNT_LIMIT, US_PAIR_BERTH}
use Rattle.duty_core.specs.Activity.{rests, drives}
use Rattle.sleeper_split.specs.declared.rule.BerthRule.{BerthRule}
use Rattle.sleeper_split.specs.declared.rule.BerthRule.TheVariants.{SevenInOne, AllOfNext}
use Rattle.sleeper_split.specs.declared.rule.SplitRule.{SplitRule}
use Rattle.sleeper_split.specs.declared.count.Used.{Used}
use Rattle.sleeper_split.specs.declared.count.OpenRun.{OpenRun}
use Rattle.sleeper_split.specs.declared.count.WaitingRest.{WaitingRest}
use Rattle.sleeper_split.specs.declared.count.SplitCount.{SplitCount}
use Rattle.sleeper_split.specs.Machine.{IsUsed, IsOpenRun, IsWithin, IsSplitCount, no_run, none_used, one_more, longer, rested, after_rest, worked, after_duty, has_pair_berth, has_split_berth, may_pair, may_split, without_run, split_count, rested_count, fresh_count}
use Rattle.sleeper_split.specs.Choices.{Choice, choice, sleeps, choices}
use Rattle.sleeper_split.specs.Laws.Limits.{and_left, and_right, and_both, below, upto, same, is_below, is_upto, is_same}
use Rattle.sleeper_split.specs.Laws.ChoiceLaws.{fits, IsUndeclared, IsAsSplit, IsAsFull, IsChoice, choice_cases, is_choice}
use Rattle.sleeper_split.specs.Covers.{AreLimits, IsSpent, IsWorn, IsNoMore, IsLastNoMore, IsBerthWithin, IsPairRule, WaitsWell, IsCountOf, allowed, own_rest, IsMonotone, IsBerthNoWorse, IsWaitNoWorse, IsDeep, IsBerthEnough, IsReady, IsNoWorse, IsFresher, as_waiting, IsOwed, IsOwing, Covers, is_free, is_ahead, waits_none}

-- # Tests and counts

pub bool_cases : (b : Bool) → (b ≡ true) ⊎ (b ≡ false)
bool_cases true = inl refl
bool_cases false = inr refl

pub or_cases : (a b : Bool) → (a || b) ≡ true → (a ≡ true) ⊎ (b ≡ true)
or_cases true b h = inl refl
or_cases false b h = inr h

pub or_left : (a b : Bool) → a ≡ true → (a || b) ≡ true
or_left a b h = rw h refl

pub or_right : (a b : Bool) → b ≡ true → (a || b) ≡ true
or_right true b h = refl
or_right false b h = h

pub within_same : (u : Used) → IsWithin u u
within_same u = record { less_driving = omega arith; less_duty = omega arith; less_elapsed = omega arith }

pub within_over : (u v w : Used) → IsWithin u v → IsWithin v w → IsWithin u w
within_over u v w h k = let a = h.less_driving in let b = h.less_duty in let c = h.less_elapsed in let d = k.less_driving in let e = k.less_duty in let f = k.less_elapsed in record { less_driving = omega arith; less_duty = omega arith; less_elapsed = omega arith }

within_rest : (u v : Used) → IsWithin u v → IsWithin (rested u) (rested v)
within_rest u v h = let c = h.less_elapsed in record { less_driving = h.less_driving; less_duty = h.less_duty; less_elapsed = omega arith }

within_duty : (d : Bool) (u v : Used) → IsWithin u v → IsWithin (worked d u) (worked d v)
within_duty true u v h = let a = h.less_driving in let b = h.less_duty in let c = h.less_elapsed in record { less_driving = omega arith; less_duty = omega arith; less_elapsed = omega arith }
within_duty false u v h = let b = h.less_duty in let c = h.less_elapsed in record { less_driving = h.less_driving; less_duty = omega arith; less_elapsed = omega arith }

within_least : (d : Bool) (u : Used) → IsWithin (worked d none_used) (worked d u)
within_least true u = record { less_driving = omega arith; less_duty = omega arith; less_elapsed = omega arith }
within_least false u = record { less_driving = omega arith; less_duty = omega arith; less_elapsed = omega arith }

-- rest adds no more than duty
within_idle : (d : Bool) (u : Used) → IsUsed u → IsWithin (rested u) (worked d u)
within_idle true u h = let a = h.works in let b = h.bounded_duty in record { less_driving = omega arith; less_duty = omega arith; less_elapsed = omega arith }
within_idle false u h = let b = h.bounded_duty in record { less_driving = omega arith; less_duty = omega arith; less_elapsed = omega arith }

within_run : (a b : SplitCount) → b.run.long ≤ a.run.long → IsWithin a.last b.last → IsWithin (without_run a) (without_run b)
within_run a b l h = let c = h.less_elapsed in record { less_driving = h.less_driving; less_duty = h.less_duty; less_elapsed = omega arith }

-- # Counts that allow nothing more

-- they stay so
spent_more : (limits : Option Used) (u v : Used) → IsWithin u v → IsSpent limits u → IsSpent limits v
spent_more None u v l h = h
spent_more (Some m) u v l (inl h) = inl (let a = l.less_driving in omega arith)
spent_more (Some m) u v l (inr (inl h)) = inr (inl (let a = l.less_duty in omega arith))
spent_more (Some m) u v l (inr (inr h)) = inr (inr (let a = l.less_elapsed in omega arith))

worn_more : (limits : Option Used) (u v : Used) → IsWithin u v → IsWorn limits u → IsWorn limits v
worn_more None u v l h = h
worn_more (Some m) u v l (inl h) = inl (let a = l.less_driving in omega arith)
worn_more (Some m) u v l (inr h) = inr (let a = l.less_duty in omega arith)

spent_duty : (limits : Option Used) (d : Bool) (u : Used) → AreLimits limits → IsSpent limits u → IsSpent limits (worked d u)
spent_duty None d u b h = h
spent_duty (Some m) true u b (inl h) = inl (let a = b.0 in omega arith)
spent_duty (Some m) false u b (inl h) = inl h
spent_duty (Some m) d u b (inr (inl h)) = inr (inl (let a = b.1 in omega arith))
spent_duty (Some m) d u b (inr (inr h)) = inr (inr (let a = b.2 in omega arith))

worn_duty : (limits : Option Used) (d : Bool) (u : Used) → AreLimits limits → IsWorn limits u → IsWorn limits (worked d u)
worn_duty None d u b h = h
worn_duty (Some m) true u b (inl h) = inl (let a = b.0 in omega arith)
worn_duty (Some m) false u b (inl h) = inl h
worn_duty (Some m) d u b (inr h) = inr (let a = b.1 in omega arith)

spent_rest : (limits : Option Used) (u : Used) → AreLimits limits → IsSpent limits u → IsSpent limits (rested u)
spent_rest None u b h = h
spent_rest (Some m) u b (inl h) = inl h
spent_rest (Some m) u b (inr (inl h)) = inr (inl h)
spent_rest (Some m) u b (inr (inr h)) = inr (inr (let a = b.2 in omega arith))

worn_rest : (limits : Option Used) (u : Used) → IsWorn limits u → IsWorn limits (rested u)
worn_rest None u h = h
worn_rest (Some m) u h = h

-- without the run in progress they are spent all the same
worn_run : (limits : Option Used) (s : SplitCount) → IsWorn limits s.last → IsSpent limits (without_run s)
worn_run None s h = h
worn_run (Some m) s (inl h) = inl h
worn_run (Some m) s (inr h) = inr (inl h)

no_more_over : (limits : Option Used) (u v w : Used) → IsNoMore limits u v → IsNoMore limits v w → IsNoMore limits u w
no_more_over limits u v w h (inl k) = inl k
no_more_over limits u v w (inl h) (inr k) = inl (spent_more limits v w k h)
no_more_over limits u v w (inr h) (inr k) = inr (within_over u v w h k)

no_more_duty : (limits : Option Used) (d : Bool) (u v : Used) → AreLimits limits → IsNoMore limits u v → IsNoMore limits (worked d u) (worked d v)
no_more_duty limits d u v b (inl h) = inl (spent_duty limits d v b h)
no_more_duty limits d u v b (inr h) = inr (within_duty d u v h)

no_more_rest : (limits : Option Used) (u v : Used) → AreLimits limits → IsNoMore limits u v → IsNoMore limits (rested u) (rested v)
no_more_rest limits u v b (inl h) = inl (spent_rest limits v b h)
no_more_rest limits u v b (inr h) = inr (within_rest u v h)

last_over : (limits : Option Used) (may : Bool) (u v w : Used) → IsLastNoMore limits may u v → IsLastNoMore limits may v w → IsLastNoMore limits may u w
last_over limits may u v w h (inl k) = inl k
last_over limits may u v w h (inr (inl k)) = inr (inl k)
last_over limits may u v w (inl h) (inr (inr k)) = inl h
last_over limits may u v w (inr (inl h)) (inr (inr k)) = inr (inl (worn_more limits v w k h))
last_over limits may u v w (inr (inr h)) (inr (inr k)) = inr (inr (within_over u v w h k))

last_duty : (limits : Option Used) (may d : Bool) (u v : Used) → AreLimits limits → IsLastNoMore limits may u v → IsLastNoMore limits may (worked d u) (worked d v)
last_duty limits may d u v b (inl h) = inl h
last_duty limits may d u v b (inr (inl h)) = inr (inl (worn_duty limits d v b h))
last_duty limits may d u v b (inr (inr h)) = inr (inr (within_duty d u v h))

last_rest : (limits : Option Used) (may : Bool) (u v : Used) → IsLastNoMore limits may u v → IsLastNoMore limits may (rested u) (rested v)
last_rest limits may u v (inl h) = inl h
last_rest limits may u v (inr (inl h)) = inr (inl (worn_rest limits v h))
last_rest limits may u v (inr (inr h)) = inr (inr (within_rest u v h))

-- counts since the last rest, without the run that ends as a split rest
no_more_run : (limits : Option Used) (may : Bool) (a b : SplitCount) → may ≡ true → b.run.long ≤ a.run.long → IsLastNoMore limits may a.last b.last → IsNoMore limits (without_run a) (without_run b)
no_more_run limits may a b m l (inl h) = absurd (let z : true ≡ false = sym m ∙ h in cc)
no_more_run limits may a b m l (inr (inl h)) = inl (worn_run limits b h)
no_more_run limits may a b m l (inr (inr h)) = inr (within_run a b l h)

-- # Values

longer_kept : (berth : Bool) (r : OpenRun) → IsOpenRun r → IsOpenRun (longer berth r)
longer_kept true r h = let a = h.ends in let b = h.inside in let c = h.bounded in record { ends = omega arith; inside = omega arith; bounded = omega arith }
longer_kept false r h = let a = h.ends in let b = h.inside in let c = h.bounded in record { ends = omega arith; inside = omega arith; bounded = omega arith }

rested_kept : (u : Used) → IsUsed u → IsUsed (rested u)
rested_kept u h = record { works = h.works; bounded_duty = h.bounded_duty; bounded = omega arith }

worked_kept : (d : Bool) (u : Used) → IsUsed u → IsUsed (worked d u)
worked_kept true u h = let a = h.works in let b = h.bounded_duty in record { works = omega arith; bounded_duty = omega arith; bounded = omega arith }
worked_kept false u h = let a = h.works in let b = h.bounded_duty in record { works = omega arith; bounded_duty = omega arith; bounded = omega arith }

no_run_kept : IsOpenRun no_run
no_run_kept = record { ends = omega arith; inside = omega arith; bounded = omega arith }

none_kept : IsUsed none_used
none_kept = record { works = omega arith; bounded_duty = omega arith; bounded = omega arith }

pub rest_kept : (berth : Bool) (s : SplitCount) → IsSplitCount s → IsSplitCount (after_rest berth s)
rest_kept berth s h = record {
  is_run = longer_kept berth s.run h.is_run;
  is_base = rested_kept s.base h.is_base;
  is_last = rested_kept s.last h.is_last;
  later = within_rest s.last s.base h.later;
  thereafter = let a = h.thereafter in omega arith;
  is_waiting = h.is_waiting;
  alone = λ n. ap rested (h.alone n);
}

pub duty_kept : (d : Bool) (s : SplitCount) → IsSplitCount s → IsSplitCount (after_duty d s)
duty_kept d s h = record {
  is_run = no_run_kept;
  is_base = worked_kept d s.base h.is_base;
  is_last = worked_kept d s.last h.is_last;
  later = within_duty d s.last s.base h.later;
  thereafter = omega arith;
  is_waiting = h.is_waiting;
  alone = λ n. ap (worked d) (h.alone n);
}

pub split_kept : (s : SplitCount) → IsSplitCount s → IsSplitCount (split_count s)
split_kept s h = let r = h.is_run in let a = r.inside in let b = r.bounded in let u = h.is_last in let e = u.bounded in record {
  is_run = no_run_kept;
  is_base = record { works = u.works; bounded_duty = u.bounded_duty; bounded = omega arith };
  is_last = none_kept;
  later = record { less_driving = omega arith; less_duty = omega arith; less_elapsed = omega arith };
  thereafter = omega arith;
  is_waiting = (a, b);
  alone = λ n. absurd (let z : Some (record { long = s.run.long; berth = s.run.longest }) ≡ None = n in cc);
}

pub rested_count_kept : IsSplitCount rested_count
rested_count_kept = record { is_run = no_run_kept; is_base = none_kept; is_last = none_kept; later = within_same none_used; thereafter = omega arith; is_waiting = tt; alone = λ n. refl }

pub fresh_kept : (rule : SplitRule) (may : Bool) → IsCountOf rule may fresh_count
fresh_kept rule may = record {
  is_count = record {
    is_run = record { ends = omega arith; inside = omega arith; bounded = omega arith };
    is_base = record { works = omega arith; bounded_duty = omega arith; bounded = omega arith };
    is_last = record { works = omega arith; bounded_duty = omega arith; bounded = omega arith };
    later = record { less_driving = omega arith; less_duty = omega arith; less_elapsed = omega arith };
    thereafter = omega arith;
    is_waiting = tt;
    alone = λ n. refl;
  };
  waits = tt;
}

split_length : (rule : SplitRule) (s : SplitCount) → may_split rule s ≡ true → (rule.least ≤ s.run.long) × (s.run.long < rule.full) × (has_split_berth rule.berth s.run ≡ true) × (may_pair rule s.waiting s.run ≡ true)
split_length rule s h =
    let a = and_right (nat_le rule.least s.run.long) (nat_lt s.run.long rule.full && (has_split_berth rule.berth s.run && may_pair rule s.waiting s.run)) h in
    let b = and_right (nat_lt s.run.long rule.full) (has_split_berth rule.berth s.run && may_pair rule s.waiting s.run) a in (
      upto rule.least s.run.long (and_left (nat_le rule.least s.run.long) (nat_lt s.run.long rule.full && (has_split_berth rule.berth s.run && may_pair rule s.waiting s.run)) h),
      below s.run.long rule.full (and_left (nat_lt s.run.long rule.full) (has_split_berth rule.berth s.run && may_pair rule s.waiting s.run) a),
      and_left (has_split_berth rule.berth s.run) (may_pair rule s.waiting s.run) b,
      and_right (has_split_berth rule.berth s.run) (may_pair rule s.waiting s.run) b,
    )

-- each choice leads to a count of the rule
pub choice_kept : (rule : SplitRule) (may : Bool) (ok : SplitCount → Bool) (s : SplitCount) (x : Activity) (c : Choice) → IsCountOf rule may s → IsChoice rule may ok s x c → IsCountOf rule may c.count
choice_kept rule may ok s x c h g = let Goal : Choice → Type 0 = λ d. IsCountOf rule may d.count in elim g [
  | inl k ↦ subst Goal k.is (record { is_count = rest_kept (sleeps x) s h.is_count; waits = h.waits })
  | inr w ↦ elim w [
    | inl k ↦ subst Goal k.is (record { is_count = duty_kept (drives x) s h.is_count; waits = h.waits })
    | inr v ↦ elim v [
      | inl k ↦ (let m = split_length rule s k.passes in subst Goal k.is (record { is_count = duty_kept (drives x) (split_count s) (split_kept s h.is_count); waits = (k.allowed, m.0, m.1) }))
      | inr k ↦ subst Goal k.is (record { is_count = duty_kept (drives x) rested_count rested_count_kept; waits = tt })
    ]
  ]
]

-- # Pairs

waits_cases : (rule : SplitRule) (may : Bool) (w : Option WaitingRest) → WaitsWell rule may w → (w ≡ None) ⊎ (may ≡ true)
waits_cases rule may None h = inl refl
waits_cases rule may (Some w) h = inr h.0

has_pair_more : (k : BerthRule) (w v : WaitingRest) (r q : OpenRun) → IsBerthNoWorse k w v → IsDeep k r q → has_pair_berth k v q ≡ true → has_pair_berth k w r ≡ true
has_pair_more SevenInOne w v r q b d t = elim (or_cases (nat_le US_PAIR_BERTH v.berth) (nat_le US_PAIR_BERTH q.longest) t) [
  | inl u ↦ (let n = upto US_PAIR_BERTH v.berth u in or_left (nat_le US_PAIR_BERTH w.berth) (nat_le US_PAIR_BERTH r.longest) (is_upto US_PAIR_BERTH w.berth (omega arith)))
  | inr u ↦ (let n = upto US_PAIR_BERTH q.longest u in let l = d.1 in or_right (nat_le US_PAIR_BERTH w.berth) (nat_le US_PAIR_BERTH r.longest) (is_upto US_PAIR_BERTH r.longest (omega arith)))
]
has_pair_more AllOfNext w v r q b d t = let e = same q.stretch q.long t in is_same r.stretch r.long (elim d [ inl i ↦ i | inr i ↦ (let x = i.0 in let y = i.1 in omega arith) ])

-- a rest that makes a pair with each second rest
berth_enough : (k : BerthRule) (w : WaitingRest) (r : OpenRun) → IsBerthEnough k w → IsReady k (Some w) r → has_pair_berth k w r ≡ true
berth_enough SevenInOne w r h g = or_left (nat_le US_PAIR_BERTH w.berth) (nat_le US_PAIR_BERTH r.longest) (is_upto US_PAIR_BERTH w.berth h)
berth_enough AllOfNext w r h (inl e) = is_same r.stretch r.long e
berth_enough AllOfNext w r h (inr t) = t

-- the pair test holds of more, where the run may be the second one of a pair
pair_more : (rule : SplitRule) (w v : Option WaitingRest) (r q : OpenRun) → IsWaitNoWorse rule r w v → rule.least ≤ q.long → q.long ≤ r.long → IsDeep rule.berth r q ⊎ (w ≡ None) → may_pair rule v q ≡ true → may_pair rule w r ≡ true
pair_more rule None v r q h m l d t = refl
pair_more rule (Some w) None r q h m l d t = and_both (nat_le rule.pair (w.long + r.long)) (has_pair_berth rule.berth w r) (is_upto rule.pair (w.long + r.long) (let x = h.0 in omega arith)) (berth_enough rule.berth w r h.1 h.2)
pair_more rule (Some w) (Some v) r q h m l (inr d) t = absurd (let z : Some w ≡ None = d in cc)
pair_more rule (Some w) (Some v) r q h m l (inl d) t =
    let c = upto rule.pair (v.long + q.long) (and_left (nat_le rule.pair (v.long + q.long)) (has_pair_berth rule.berth v q) t) in
    let x = h.0 in
    and_both (nat_le rule.pair (w.long + r.long)) (has_pair_berth rule.berth w r) (is_upto rule.pair (w.long + r.long) (omega arith))
    (has_pair_more rule.berth w v r q h.1 d (and_right (nat_le rule.pair (v.long + q.long)) (has_pair_berth rule.berth v q) t))

berth_on : (k : BerthRule) (w : WaitingRest) (r : OpenRun) → has_pair_berth k w r ≡ true → has_pair_berth k w (longer true r) ≡ true
berth_on SevenInOne w r t = elim (or_cases (nat_le US_PAIR_BERTH w.berth) (nat_le US_PAIR_BERTH r.longest) t) [
  | inl u ↦ or_left (nat_le US_PAIR_BERTH w.berth) (nat_le US_PAIR_BERTH (max r.longest (one_more r.stretch))) u
  | inr u ↦ (let n = upto US_PAIR_BERTH r.longest u in or_right (nat_le US_PAIR_BERTH w.berth) (nat_le US_PAIR_BERTH (max r.longest (one_more r.stretch))) (is_upto US_PAIR_BERTH (max r.longest (one_more r.stretch)) (omega arith)))
]
berth_on AllOfNext w r t = let e = same r.stretch r.long t in is_same (one_more r.stretch) (one_more r.long) (omega arith)

-- and of a run with one more unit of the tour's rest
pair_on : (rule : SplitRule) (w : Option WaitingRest) (r : OpenRun) (x : Activity) → IsOpenRun r → (w ≡ None) ⊎ (x ≡ Berth) → may_pair rule w r ≡ true → may_pair rule w (longer (sleeps x) r) ≡ true
pair_on rule None r x h e t = refl
pair_on rule (Some w) r x h (inl e) t = absurd (let z : Some w ≡ None = e in cc)
pair_on rule (Some w) r x h (inr e) t = subst (λ y. may_pair rule (Some w) (longer (sleeps y) r) ≡ true) (sym e) (
    let b = h.bounded in
    let c = upto rule.pair (w.long + r.long) (and_left (nat_le rule.pair (w.long + r.long)) (has_pair_berth rule.berth w r) t) in
    and_both (nat_le rule.pair (w.long + one_more r.long)) (has_pair_berth rule.berth w (longer true r)) (is_upto rule.pair (w.long + one_more r.long) (omega arith))
    (berth_on rule.berth w r (and_right (nat_le rule.pair (w.long + r.long)) (has_pair_berth rule.berth w r) t)))

berth_full : (k : BerthRule) (full : ℕ) (w : WaitingRest) (r : OpenRun) → IsBerthWithin k full → IsOpenRun r → full ≤ r.long → r.stretch ≡ r.long → has_pair_berth k w r ≡ true
berth_full SevenInOne full w r b h l e = let a = h.ends in or_right (nat_le US_PAIR_BERTH w.berth) (nat_le US_PAIR_BERTH r.longest) (is_upto US_PAIR_BERTH r.longest (omega arith))
berth_full AllOfNext full w r b h l e = is_same r.stretch r.long e

-- a full rest makes a pair, where it is ready
pair_full : (rule : SplitRule) (may : Bool) (w : Option WaitingRest) (r : OpenRun) → IsPairRule rule → WaitsWell rule may w → IsOpenRun r → rule.full ≤ r.long → IsReady rule.berth w r → may_pair rule w r ≡ true
pair_full rule may None r good h o l e = refl
pair_full rule may (Some w) r good h o l e =
    let p = good.pairs in
    let m = h.1 in
    and_both (nat_le rule.pair (w.long + r.long)) (has_pair_berth rule.berth w r) (is_upto rule.pair (w.long + r.long) (omega arith)) (elim e [ inl a ↦ berth_full rule.berth rule.full w r good.berth o l a | inr t ↦ t ])

-- # Reflexive and transitive

deep_same : (k : BerthRule) (r : OpenRun) → IsDeep k r r
deep_same SevenInOne r = (omega arith, omega arith)
deep_same AllOfNext r = inr (refl, refl)

deep_over : (k : BerthRule) (r q p : OpenRun) → IsDeep k r q → IsDeep k q p → IsDeep k r p
deep_over SevenInOne r q p h g = let a = h.0 in let b = h.1 in let c = g.0 in let d = g.1 in (omega arith, omega arith)
deep_over AllOfNext r q p (inl h) g = inl h
deep_over AllOfNext r q p (inr h) (inl g) = inl (let a = h.0 in let b = h.1 in omega arith)
deep_over AllOfNext r q p (inr h) (inr g) = inr (h.0 ∙ g.0, h.1 ∙ g.1)

berth_over : (k : BerthRule) (w v u : WaitingRest) → IsBerthNoWorse k w v → IsBerthNoWorse k v u → IsBerthNoWorse k w u
berth_over SevenInOne w v u h g = omega arith
berth_over AllOfNext w v u h g = tt

berth_same : (k : BerthRule) (w : WaitingRest) → IsBerthNoWorse k w w
berth_same SevenInOne w = omega arith
berth_same AllOfNext w = tt

wait_same : (rule : SplitRule) (r : OpenRun) (w : Option WaitingRest) → IsWaitNoWorse rule r w w
wait_same rule r None = tt
wait_same rule r (Some w) = (omega arith, berth_same rule.berth w)

enough_over : (k : BerthRule) (u w : WaitingRest) → IsBerthNoWorse k u w → IsBerthEnough k w → IsBerthEnough k u
enough_over SevenInOne u w h g = omega arith
enough_over AllOfNext u w h g = tt

enough_for : (k : BerthRule) (u v : WaitingRest) → IsBerthEnough k u → IsBerthNoWorse k u v
enough_for SevenInOne u v h = omega arith
enough_for AllOfNext u v h = tt

-- the run after a rest that is enough is ready, where a run after one that it is no worse than is so
enough_ready : (k : BerthRule) (u w : WaitingRest) (r q : OpenRun) → IsBerthEnough k u → IsDeep k r q → IsReady k (Some w) q → IsReady k (Some u) r
enough_ready SevenInOne u w r q h d g = inr (or_left (nat_le US_PAIR_BERTH u.berth) (nat_le US_PAIR_BERTH r.longest) (is_upto US_PAIR_BERTH u.berth h))
enough_ready AllOfNext u w r q h (inl d) g = inl d
enough_ready AllOfNext u w r q h (inr d) (inl e) = inl (let a = d.0 in let b = d.1 in omega arith)
enough_ready AllOfNext u w r q h (inr d) (inr t) = inl (let e = same q.stretch q.long t in let a = d.0 in let b = d.1 in omega arith)

wait_over : (rule : SplitRule) (r q : OpenRun) (u w v : Option WaitingRest) → IsDeep rule.berth r q ⊎ (u ≡ None) → IsWaitNoWorse rule r u w → IsWaitNoWorse rule q w v → IsWaitNoWorse rule r u v
wait_over rule r q None w v d p n = tt
wait_over rule r q (Some u) None None d p n = p
wait_over rule r q (Some u) None (Some v) d p n = (let a = p.0 in omega arith, enough_for rule.berth u v p.1)
wait_over rule r q (Some u) (Some w) None (inr d) p n = absurd (let z : Some u ≡ None = d in cc)
wait_over rule r q (Some u) (Some w) None (inl d) p n =
    let e = enough_over rule.berth u w p.1 n.1 in
    (let a = p.0 in let c = n.0 in omega arith, e, enough_ready rule.berth u w r q e d n.2)
wait_over rule r q (Some u) (Some w) (Some v) d p n = (let a = p.0 in let c = n.0 in omega arith, berth_over rule.berth u w v p.1 n.1)

-- where rests may not be split nothing waits
pub nothing_waits : (rule : SplitRule) (may : Bool) (a : SplitCount) → IsCountOf rule may a → may ≡ false → a.waiting ≡ None
nothing_waits rule may a va m = elim (waits_cases rule may a.waiting va.waits) [ inl n ↦ n | inr t ↦ absurd (let z : true ≡ false = sym t ∙ m in cc) ]

pub covers_same : (rule : SplitRule) (may : Bool) (a : SplitCount) → Covers rule may a a
covers_same rule may a = inr (inl (record {
  run = omega arith;
  deep = inl (deep_same rule.berth a.run);
  keeps = inl refl;
  less_base = inr (within_same a.base);
  less_last = inr (inr (within_same a.last));
  waiting = wait_same rule a.run a.waiting;
}))

no_worse_pair : (rule : SplitRule) (may : Bool) (a b : SplitCount) → IsNoWorse rule may a b → rule.least ≤ b.run.long → may_pair rule b.waiting b.run ≡ true → may_pair rule a.waiting a.run ≡ true
no_worse_pair rule may a b h m t = pair_more rule a.waiting b.waiting a.run b.run h.waiting m h.run (elim h.deep [ inl d ↦ inl d | inr d ↦ inr d.1 ]) t

-- equal runs, of which one is all in the berth
all_over : (k : BerthRule) (w : WaitingRest) (r q : OpenRun) → IsOpenRun r → IsDeep k r q → r.long ≡ q.long → q.stretch ≡ q.long → (r.stretch ≡ r.long) ⊎ (has_pair_berth k w r ≡ true)
all_over SevenInOne w r q o d e h = let a = o.ends in let b = o.inside in let c = d.0 in elim (cases_lt q.long US_PAIR_BERTH) [
  | inl l ↦ inl (omega arith)
  | inr l ↦ inr (or_right (nat_le US_PAIR_BERTH w.berth) (nat_le US_PAIR_BERTH r.longest) (is_upto US_PAIR_BERTH r.longest (omega arith)))
]
all_over AllOfNext w r q o (inl d) e h = inl d
all_over AllOfNext w r q o (inr d) e h = inl (let a = d.1 in omega arith)

ready_over : (rule : SplitRule) (w v : Option WaitingRest) (r q : OpenRun) → IsOpenRun r → IsWaitNoWorse rule r w v → IsDeep rule.berth r q → r.long ≡ q.long → IsReady rule.berth v q → IsReady rule.berth w r
ready_over rule None v r q o h d e g = tt
ready_over rule (Some w) None r q o h d e g = h.2
ready_over rule (Some w) (Some v) r q o h d e (inl g) = all_over rule.berth w r q o d e g
ready_over rule (Some w) (Some v) r q o h d e (inr g) = inr (has_pair_more rule.berth w v r q h.1 d g)

pub ready_none : (k : BerthRule) (w : Option WaitingRest) (r : OpenRun) → w ≡ None → IsReady k w r
ready_none k w r h = subst (λ v. IsReady k v r) (sym h) tt

pub ready_all : (k : BerthRule) (w : Option WaitingRest) (r : OpenRun) → r.stretch ≡ r.long → IsReady k w r
ready_all k None r h = tt
ready_all k (Some w) r h = inl h

no_worse_over : (rule : SplitRule) (may : Bool) (a b c : SplitCount) → IsCountOf rule may a → IsNoWorse rule may a b → IsNoWorse rule may b c → IsNoWorse rule may a c
no_worse_over rule may a b c va h k = let r1 = h.run in let r2 = k.run in record {
  run = omega arith;
  deep = elim h.deep [
    | inr u ↦ inr u
    | inl u ↦ elim k.deep [ inl v ↦ inl (deep_over rule.berth a.run b.run c.run u v) | inr v ↦ inr (v.0, nothing_waits rule may a va v.0) ]
  ];
  keeps = elim h.keeps [
    | inr u ↦ inr u
    | inl u ↦ elim k.keeps [
      | inl v ↦ inl (u ∙ v)
      | inr v ↦ inr (elim h.deep [
        | inl d ↦ ready_over rule a.waiting b.waiting a.run b.run va.is_count.is_run h.waiting d u v
        | inr d ↦ ready_none rule.berth a.waiting a.run d.1
      ])
    ]
  ];
  less_base = no_more_over rule.limits a.base b.base c.base h.less_base k.less_base;
  less_last = last_over rule.limits may a.last b.last c.last h.less_last k.less_last;
  waiting = wait_over rule a.run b.run a.waiting b.waiting c.waiting (elim h.deep [ inl d ↦ inl d | inr d ↦ inr d.1 ]) h.waiting k.waiting;
}

split_berth_more : (k : BerthRule) (r q : OpenRun) → IsDeep k r q → has_split_berth k q ≡ true → has_split_berth k r ≡ true
split_berth_more SevenInOne r q d t = refl
split_berth_more AllOfNext r q d t = let e = same q.stretch q.long t in is_same r.stretch r.long (elim d [ inl i ↦ i | inr i ↦ (let x = i.0 in let y = i.1 in omega arith) ])

-- where rests may be split, the berth serves
deep_of : (rule : SplitRule) (may : Bool) (a b : SplitCount) → may ≡ true → IsNoWorse rule may a b → IsDeep rule.berth a.run b.run
deep_of rule may a b m h = elim h.deep [ inl d ↦ d | inr d ↦ absurd (let z : true ≡ false = sym m ∙ d.0 in cc) ]

-- the runs as split rests that wait
deep_berth : (k : BerthRule) (r q : OpenRun) → IsDeep k r q → IsBerthNoWorse k (as_waiting r) (as_waiting q)
deep_berth SevenInOne r q d = d.1
deep_berth AllOfNext r q d = tt

deep_enough : (k : BerthRule) (r q : OpenRun) → IsDeep k r q → IsBerthEnough k (as_waiting q) → IsBerthEnough k (as_waiting r)
deep_enough k r q d h = enough_over k (as_waiting r) (as_waiting q) (deep_berth k r q d) h

owed_more : (rule : SplitRule) (r q : OpenRun) (u v : Used) (w : Option WaitingRest) (c : SplitCount) → q.long ≤ r.long → IsDeep rule.berth r q → IsNoMore rule.limits u v → IsOwed rule q v w c → IsOwed rule r u w c
owed_more rule r q u v None c l n i h = (let x = h.0 in omega arith, deep_enough rule.berth r q n h.1, no_more_over rule.limits u v c.base i h.2)
owed_more rule r q u v (Some w) c l n i h = (let x = h.0 in omega arith, berth_over rule.berth (as_waiting r) (as_waiting q) w (deep_berth rule.berth r q n) h.1, no_more_over rule.limits u v c.base i h.2)

no_worse_owing : (rule : SplitRule) (may : Bool) (a b c : SplitCount) → IsNoWorse rule may a b → IsOwing rule may b c → IsOwing rule may a c
no_worse_owing rule may a b c h k =
    let d = deep_of rule may a b k.allows h in
    let r = h.run in
    record {
      allows = k.allows;
      least = let l = k.least in omega arith;
      berth = split_berth_more rule.berth a.run b.run d k.berth;
      pair = no_worse_pair rule may a b h k.least k.pair;
      owed = owed_more rule a.run b.run (without_run a) (without_run b) c.waiting c r d (no_more_run rule.limits may a b k.allows r h.less_last) k.owed;
    }

owed_less : (rule : SplitRule) (r q : OpenRun) (u : Used) (w v : Option WaitingRest) (b c : SplitCount) → c.run.long ≤ b.run.long → IsNoMore rule.limits b.base c.base → IsWaitNoWorse rule q w v → IsOwed rule r u w b → IsOwed rule r u v c
owed_less rule r q u None None b c l i n h = (let x = h.0 in omega arith, h.1, no_more_over rule.limits u b.base c.base h.2 i)
owed_less rule r q u None (Some v) b c l i n h = (let x = h.0 in omega arith, enough_for rule.berth (as_waiting r) v h.1, no_more_over rule.limits u b.base c.base h.2 i)
owed_less rule r q u (Some w) None b c l i n h = (let x = h.0 in let y = n.0 in omega arith, enough_over rule.berth (as_waiting r) w h.1 n.1, no_more_over rule.limits u b.base c.base h.2 i)
owed_less rule r q u (Some w) (Some v) b c l i n h = (let x = h.0 in let y = n.0 in omega arith, berth_over rule.berth (as_waiting r) w v h.1 n.1, no_more_over rule.limits u b.base c.base h.2 i)

owing_no_worse : (rule : SplitRule) (may : Bool) (a b c : SplitCount) → IsOwing rule may a b → IsNoWorse rule may b c → IsOwing rule may a c
owing_no_worse rule may a b c h k = record {
  allows = h.allows;
  least = h.least;
  berth = h.berth;
  pair = h.pair;
  owed = owed_less rule a.run b.run (without_run a) b.waiting c.waiting b c k.run k.less_base k.waiting h.owed;
}

-- where b's run is a pair with what waits in it, a's run is as long as a pair
pair_owed : (rule : SplitRule) (r : OpenRun) (u : Used) (w : Option WaitingRest) (b : SplitCount) → IsOwed rule r u w b → rule.least ≤ b.run.long → may_pair rule w b.run ≡ true → rule.pair ≤ r.long
pair_owed rule r u None b h m t = let x = h.0 in omega arith
pair_owed rule r u (Some v) b h m t = let x = h.0 in let l = upto rule.pair (v.long + b.run.long) (and_left (nat_le rule.pair (v.long + b.run.long)) (has_pair_berth rule.berth v b.run) t) in omega arith

run_owed : (rule : SplitRule) (r : OpenRun) (u : Used) (w : Option WaitingRest) (b : SplitCount) → IsOwed rule r u w b → b.run.long ≤ r.long
run_owed rule r u None b h = let x = h.0 in omega arith
run_owed rule r u (Some v) b h = let x = h.0 in omega arith

pub covers_over : (rule : SplitRule) (may : Bool) (a b c : SplitCount) → IsPairRule rule → IsCountOf rule may a → Covers rule may a b → Covers rule may b c → Covers rule may a c
covers_over rule may a b c good va (inl f) k = inl f
covers_over rule may a b c good va (inr (inl h)) (inl f) = inl (record { long = let l = f.long in let r = h.run in omega arith; pair = no_worse_pair rule may a b h (let l = f.long in let m = good.shorter in omega arith) f.pair })
covers_over rule may a b c good va (inr (inl h)) (inr (inl k)) = inr (inl (no_worse_over rule may a b c va h k))
covers_over rule may a b c good va (inr (inl h)) (inr (inr k)) = inr (inr (no_worse_owing rule may a b c h k))
covers_over rule may a b c good va (inr (inr h)) (inl f) = inl (record { long = let l = f.long in let r = run_owed rule a.run (without_run a) b.waiting b h.owed in omega arith; pair = h.pair })
covers_over rule may a b c good va (inr (inr h)) (inr (inl k)) = inr (inr (owing_no_worse rule may a b c h k))
covers_over rule may a b c good va (inr (inr h)) (inr (inr k)) = inl (record { long = let l = pair_owed rule a.run (without_run a) b.waiting b h.owed k.least k.pair in let r = good.owed in omega arith; pair = h.pair })

-- # Simulation

-- a choice of a that covers this one of b
pub record HasCover (rule : SplitRule) (may : Bool) (ok : SplitCount → Bool) (a : SplitCount) (x : Activity) (c : Choice) : Type 0 where
  pub choice : Choice
  pub is : IsChoice rule may ok a x choice
  pub covers : Covers rule may choice.count c.count

fits_less : (rule : SplitRule) (ok : SplitCount → Bool) (x : Activity) (s t : SplitCount) → IsMonotone rule ok → IsNoMore rule.limits s.base t.base → fits ok x t ≡ true → fits ok x s ≡ true
fits_less rule ok Drive s t m (inl l) h = absurd (m.spent t l h)
fits_less rule ok Drive s t m (inr l) h = m.less (after_duty true s) (after_duty true t) (within_duty true s.base t.base l) h
fits_less rule ok Serve s t m l h = refl
fits_less rule ok Wait s t m l h = refl
fits_less rule ok Off s t m l h = refl
fits_less rule ok Berth s t m l h = refl

deep_none : (k : BerthRule) → IsDeep k no_run no_run
deep_none SevenInOne = (omega arith, omega arith)
deep_none AllOfNext = inl refl

wait_duty : (rule : SplitRule) (r : OpenRun) (w v : Option WaitingRest) → IsWaitNoWorse rule r w v → IsWaitNoWorse rule no_run w v
wait_duty rule r None v h = tt
wait_duty rule r (Some w) None h = (h.0, h.1, inl refl)
wait_duty rule r (Some w) (Some v) h = h

-- after a unit of duty
duty_no_worse : (rule : SplitRule) (may : Bool) (d : Bool) (r : OpenRun) (a b : SplitCount) → IsPairRule rule → IsNoMore rule.limits a.base b.base → IsLastNoMore rule.limits may a.last b.last → IsWaitNoWorse rule r a.waiting b.waiting → IsNoWorse rule may (after_duty d a) (after_duty d b)
duty_no_worse rule may d r a b good h g w = record {
  run = omega arith;
  deep = inl (deep_none rule.berth);
  keeps = inl refl;
  less_base = no_more_duty rule.limits d a.base b.base good.limits h;
  less_last = last_duty rule.limits may d a.last b.last good.limits g;
  waiting = wait_duty rule r a.waiting b.waiting w;
}

-- after a full rest and a unit of duty nothing is better
fresh_no_worse : (rule : SplitRule) (may : Bool) (d : Bool) (u : SplitCount) → IsNoWorse rule may (after_duty d rested_count) (after_duty d u)
fresh_no_worse rule may d u = record {
  run = omega arith;
  deep = inl (deep_none rule.berth);
  keeps = inl refl;
  less_base = inr (within_least d u.base);
  less_last = inr (inr (within_least d u.last));
  waiting = tt;
}

-- a unit of duty, whatever the run in progress was
record IsAtDuty (ok : SplitCount → Bool) (x : Activity) (c : Choice) : Type 0 where
  work : rests x ≡ false
  before : SplitCount
  fit : fits ok x before ≡ true
  is : after_duty (drives x) before ≡ c.count

count_is : (s : SplitCount) (split : Bool) (c : Choice) → choice s split ≡ c → s ≡ c.count
count_is s split c h = ap (λ (d : Choice). d.count) h

duty_of : (rule : SplitRule) (may : Bool) (ok : SplitCount → Bool) (b : SplitCount) (x : Activity) (c : Choice) → IsUndeclared rule ok b x c ⊎ IsAsSplit rule may ok b x c ⊎ IsAsFull rule ok b x c → IsAtDuty ok x c
duty_of rule may ok b x c h = elim h [
  | inl k ↦ record { work = k.work; before = b; fit = k.fit; is = count_is (after_duty (drives x) b) false c k.is }
  | inr v ↦ elim v [
    | inl k ↦ record { work = k.work; before = split_count b; fit = k.fit; is = count_is (after_duty (drives x) (split_count b)) true c k.is }
    | inr k ↦ record { work = k.work; before = rested_count; fit = k.fit; is = count_is (after_duty (drives x) rested_count) false c k.is }
  ]
]

none_within : (u : Used) → IsWithin none_used u
none_within u = record { less_driving = omega arith; less_duty = omega arith; less_elapsed = omega arith }

fresher_answers : (rule : SplitRule) (may : Bool) (ok : SplitCount → Bool) (a : SplitCount) (x : Activity) (c : Choice) → IsPairRule rule → IsMonotone rule ok → IsFresher rule a → IsAtDuty ok x c → HasCover rule may ok a x c
fresher_answers rule may ok a x c good m h d = let l = h.long in let g = good.split.some in record {
  choice = choice (after_duty (drives x) rested_count) false;
  is = inr (inr (inr (record { work = d.work; some = omega arith; long = l; paired = h.pair; fit = fits_less rule ok x rested_count d.before m (inr (none_within d.before.base)) d.fit; is = refl })));
  covers = subst (λ s. Covers rule may (after_duty (drives x) rested_count) s) d.is (inr (inl (fresh_no_worse rule may (drives x) d.before)));
}

undeclared_answers : (rule : SplitRule) (may : Bool) (ok : SplitCount → Bool) (a b : SplitCount) (x : Activity) (c : Choice) → IsPairRule rule → IsMonotone rule ok → IsNoWorse rule may a b → a.run.long < rule.full → IsUndeclared rule ok b x c → HasCover rule may ok a x c
undeclared_answers rule may ok a b x c good m h l k = record {
  choice = choice (after_duty (drives x) a) false;
  is = inr (inl (record { work = k.work; short = l; fit = fits_less rule ok x a b m h.less_base k.fit; is = refl }));
  covers = subst (λ s. Covers rule may (after_duty (drives x) a) s) (count_is (after_duty (drives x) b) false c k.is) (inr (inl (duty_no_worse rule may (drives x) a.run a b good h.less_base h.less_last h.waiting)));
}

may_split_from : (rule : SplitRule) (a : SplitCount) → rule.least ≤ a.run.long → a.run.long < rule.full → has_split_berth rule.berth a.run ≡ true → may_pair rule a.waiting a.run ≡ true → may_split rule a ≡ true
may_split_from rule a least short berth pair =
    and_both (nat_le rule.least a.run.long) (nat_lt a.run.long rule.full && (has_split_berth rule.berth a.run && may_pair rule a.waiting a.run)) (is_upto rule.least a.run.long least)
    (and_both (nat_lt a.run.long rule.full) (has_split_berth rule.berth a.run && may_pair rule a.waiting a.run) (is_below a.run.long rule.full short) (and_both (has_split_berth rule.berth a.run) (may_pair rule a.waiting a.run) berth pair))

split_answers : (rule : SplitRule) (may : Bool) (ok : SplitCount → Bool) (a b : SplitCount) (x : Activity) (c : Choice) → IsPairRule rule → IsMonotone rule ok → IsNoWorse rule may a b → a.run.long < rule.full → IsAsSplit rule may ok b x c → HasCover rule may ok a x c
split_answers rule may ok a b x c good m h l k =
    let s = split_length rule b k.passes in
    let r = h.run in
    let least = s.0 in
    let some = k.some in
    let d = deep_of rule may a b k.allowed h in
    let u = no_more_run rule.limits may a b k.allowed r h.less_last in
    record {
      choice = choice (after_duty (drives x) (split_count a)) true;
      is = inr (inr (inl (record {
        work = k.work;
        some = omega arith;
        allowed = k.allowed;
        passes = may_split_from rule a (omega arith) l (split_berth_more rule.berth a.run b.run d s.2) (no_worse_pair rule may a b h s.0 s.3);
        fit = fits_less rule ok x (split_count a) (split_count b) m u k.fit;
        is = refl;
      })));
      covers = subst (λ t. Covers rule may (after_duty (drives x) (split_count a)) t) (count_is (after_duty (drives x) (split_count b)) true c k.is)
          (inr (inl (duty_no_worse rule may (drives x) no_run (split_count a) (split_count b) good u (inr (inr (within_same none_used))) (omega arith, deep_berth rule.berth a.run b.run d))));
    }

-- a's run is a full rest that may end as one, where b goes on
fresher_from : (rule : SplitRule) (may : Bool) (a b : SplitCount) → IsPairRule rule → IsCountOf rule may a → IsNoWorse rule may a b → rule.full ≤ a.run.long → (b.run.long < rule.full) ⊎ ((rule.least ≤ b.run.long) × (may_pair rule b.waiting b.run ≡ true)) → IsFresher rule a
fresher_from rule may a b good va h l k = record {
  long = l;
  pair = elim k [
    | inr t ↦ no_worse_pair rule may a b h t.0 t.1
    | inl s ↦ elim h.keeps [ inl e ↦ absurd (omega arith) | inr u ↦ pair_full rule may a.waiting a.run good va.waits va.is_count.is_run l u ]
  ];
}

no_worse_answers : (rule : SplitRule) (may : Bool) (ok : SplitCount → Bool) (a b : SplitCount) (x : Activity) (c : Choice) → IsPairRule rule → IsMonotone rule ok → IsCountOf rule may a → IsNoWorse rule may a b → IsUndeclared rule ok b x c ⊎ IsAsSplit rule may ok b x c ⊎ IsAsFull rule ok b x c → HasCover rule may ok a x c
no_worse_answers rule may ok a b x c good m va h g = elim g [
  | inl k ↦ elim (cases_lt a.run.long rule.full) [
    | inl l ↦ undeclared_answers rule may ok a b x c good m h l k
    | inr l ↦ fresher_answers rule may ok a x c good m (fresher_from rule may a b good va h l (inl k.short)) (duty_of rule may ok b x c (inl k))
  ]
  | inr v ↦ elim v [
    | inl k ↦ elim (cases_lt a.run.long rule.full) [
      | inl l ↦ split_answers rule may ok a b x c good m h l k
      | inr l ↦ fresher_answers rule may ok a x c good m (fresher_from rule may a b good va h l (inr (let s = split_length rule b k.passes in (s.0, s.3)))) (duty_of rule may ok b x c (inr (inl k)))
    ]
    | inr k ↦ (let l = k.long in let r = h.run in fresher_answers rule may ok a x c good m (fresher_from rule may a b good va h (omega arith) (inr (let m = good.shorter in omega arith, k.paired))) (duty_of rule may ok b x c (inr (inr k))))
  ]
]

-- a ends its run as a split rest, where b goes on without one
owed_wait : (rule : SplitRule) (r : OpenRun) (u : Used) (w : Option WaitingRest) (b : SplitCount) → IsOwed rule r u w b → IsWaitNoWorse rule no_run (Some (as_waiting r)) w
owed_wait rule r u None b h = (let x = h.0 in omega arith, h.1, inl refl)
owed_wait rule r u (Some v) b h = (let x = h.0 in omega arith, h.1)

owed_no_more : (rule : SplitRule) (r : OpenRun) (u : Used) (w : Option WaitingRest) (b : SplitCount) → IsOwed rule r u w b → IsNoMore rule.limits u b.base
owed_no_more rule r u None b h = h.2
owed_no_more rule r u (Some v) b h = h.2

owing_splits : (rule : SplitRule) (may : Bool) (ok : SplitCount → Bool) (a b : SplitCount) (x : Activity) (c : Choice) → IsPairRule rule → IsMonotone rule ok → IsOwing rule may a b → 0 < a.run.long → a.run.long < rule.full → IsUndeclared rule ok b x c → HasCover rule may ok a x c
owing_splits rule may ok a b x c good m h some l k = let u = owed_no_more rule a.run (without_run a) b.waiting b h.owed in record {
  choice = choice (after_duty (drives x) (split_count a)) true;
  is = inr (inr (inl (record {
    work = k.work;
    some = some;
    allowed = h.allows;
    passes = may_split_from rule a h.least l h.berth h.pair;
    fit = fits_less rule ok x (split_count a) b m u k.fit;
    is = refl;
  })));
  covers = subst (λ t. Covers rule may (after_duty (drives x) (split_count a)) t) (count_is (after_duty (drives x) b) false c k.is)
      (inr (inl (duty_no_worse rule may (drives x) no_run (split_count a) b good u (inr (inr (none_within b.last))) (owed_wait rule a.run (without_run a) b.waiting b h.owed))));
}

owing_answers : (rule : SplitRule) (may : Bool) (ok : SplitCount → Bool) (a b : SplitCount) (x : Activity) (c : Choice) → IsPairRule rule → IsMonotone rule ok → IsOwing rule may a b → IsUndeclared rule ok b x c ⊎ IsAsSplit rule may ok b x c ⊎ IsAsFull rule ok b x c → HasCover rule may ok a x c
owing_answers rule may ok a b x c good m h g = elim (cases_lt a.run.long rule.full) [
  | inr l ↦ fresher_answers rule may ok a x c good m (record { long = l; pair = h.pair }) (duty_of rule may ok b x c g)
  | inl l ↦ elim g [
    | inl k ↦ owing_splits rule may ok a b x c good m h (let z = good.least in let y = h.least in omega arith) l k
    | inr v ↦ elim v [
      | inl k ↦ absurd (let s = split_length rule b k.passes in let z = pair_owed rule a.run (without_run a) b.waiting b h.owed s.0 s.3 in let o = good.owed in omega arith)
      | inr k ↦ absurd (let z = run_owed rule a.run (without_run a) b.waiting b h.owed in let o = k.long in omega arith)
    ]
  ]
]

-- # Rest

berth_rest : (berth : Bool) (x : Activity) → berth ≡ true → allowed berth x ≡ true → rests x ≡ true → x ≡ Berth
berth_rest berth Berth b l r = refl
berth_rest berth Off b l r = absurd (let z : not true ≡ true = subst (λ c. not c ≡ true) b l in let y : false ≡ true = z in cc)
berth_rest berth Drive b l r = absurd (let z : false ≡ true = r in cc)
berth_rest berth Serve b l r = absurd (let z : false ≡ true = r in cc)
berth_rest berth Wait b l r = absurd (let z : false ≡ true = r in cc)

-- the tour's rest keeps a run in the berth, where something waits
rest_kind : (rule : SplitRule) (may berth : Bool) (a : SplitCount) (x : Activity) → IsCountOf rule may a → (may ≡ true → berth ≡ true) → allowed berth x ≡ true → rests x ≡ true → (a.waiting ≡ None) ⊎ (x ≡ Berth)
rest_kind rule may berth a x va mb l r = elim (waits_cases rule may a.waiting va.waits) [ inl n ↦ inl n | inr m ↦ inr (berth_rest berth x (mb m) l r) ]

more_least : (n m : ℕ) → n ≤ COUNT_LIMIT → m ≤ n → m ≤ one_more n
more_least n m b l = omega arith

fresher_on : (rule : SplitRule) (may berth : Bool) (a : SplitCount) (x : Activity) → IsCountOf rule may a → (may ≡ true → berth ≡ true) → allowed berth x ≡ true → rests x ≡ true → IsFresher rule a → IsFresher rule (after_rest (sleeps x) a)
fresher_on rule may berth a x va mb l r h = let o = va.is_count.is_run in record {
  long = more_least a.run.long rule.full o.bounded h.long;
  pair = pair_on rule a.waiting a.run x o (rest_kind rule may berth a x va mb l r) h.pair;
}

-- the runs in the berth, and out of it
deep_berth_on : (k : BerthRule) (r q : OpenRun) → IsDeep k r q → IsDeep k (longer true r) (longer true q)
deep_berth_on SevenInOne r q d = let a = d.0 in let b = d.1 in (omega arith, omega arith)
deep_berth_on AllOfNext r q (inl d) = inl (omega arith)
deep_berth_on AllOfNext r q (inr d) = let a = d.0 in let b = d.1 in inr (omega arith, omega arith)

off_without_berth : (berth : Bool) → allowed berth Off ≡ true → berth ≡ false
off_without_berth true h = absurd (let z : false ≡ true = h in cc)
off_without_berth false h = refl

pub never_splits : (may berth : Bool) → (may ≡ true → berth ≡ true) → berth ≡ false → may ≡ false
never_splits true berth mb h = absurd (let z : true ≡ false = sym (mb refl) ∙ h in cc)
never_splits false berth mb h = refl

deep_on : (rule : SplitRule) (may berth : Bool) (a b : SplitCount) (x : Activity) → IsCountOf rule may a → (may ≡ true → berth ≡ true) → allowed berth x ≡ true → rests x ≡ true → IsDeep rule.berth a.run b.run ⊎ ((may ≡ false) × (a.waiting ≡ None)) →
    IsDeep rule.berth (longer (sleeps x) a.run) (longer (sleeps x) b.run) ⊎ ((may ≡ false) × (a.waiting ≡ None))
deep_on rule may berth a b x va mb l r (inr n) = inr n
deep_on rule may berth a b Berth va mb l r (inl d) = inl (deep_berth_on rule.berth a.run b.run d)
deep_on rule may berth a b Off va mb l r (inl d) = let m = never_splits may berth mb (off_without_berth berth l) in inr (m, nothing_waits rule may a va m)
deep_on rule may berth a b Drive va mb l r (inl d) = absurd (let z : false ≡ true = r in cc)
deep_on rule may berth a b Serve va mb l r (inl d) = absurd (let z : false ≡ true = r in cc)
deep_on rule may berth a b Wait va mb l r (inl d) = absurd (let z : false ≡ true = r in cc)

-- the tour's rest keeps a run ready
ready_on : (k : BerthRule) (w : Option WaitingRest) (r : OpenRun) (x : Activity) → (w ≡ None) ⊎ (x ≡ Berth) → IsReady k w r → IsReady k w (longer (sleeps x) r)
ready_on k None r x h g = tt
ready_on k (Some w) r x (inl h) g = absurd (let z : Some w ≡ None = h in cc)
ready_on k (Some w) r x (inr h) g = subst (λ y. ((longer (sleeps y) r).stretch ≡ (longer (sleeps y) r).long) ⊎ (has_pair_berth k w (longer (sleeps y) r) ≡ true)) (sym h) (elim g [
  | inl e ↦ inl (let z : one_more r.stretch ≡ one_more r.long = omega arith in z)
  | inr t ↦ inr (berth_on k w r t)
])

wait_rest : (rule : SplitRule) (r : OpenRun) (w v : Option WaitingRest) (x : Activity) → (w ≡ None) ⊎ (x ≡ Berth) → IsWaitNoWorse rule r w v → IsWaitNoWorse rule (longer (sleeps x) r) w v
wait_rest rule r None v x e h = tt
wait_rest rule r (Some w) None x e h = (h.0, h.1, ready_on rule.berth (Some w) r x e h.2)
wait_rest rule r (Some w) (Some v) x e h = h

no_worse_on : (rule : SplitRule) (may berth : Bool) (a b : SplitCount) (x : Activity) → IsPairRule rule → IsCountOf rule may a → (may ≡ true → berth ≡ true) → allowed berth x ≡ true → rests x ≡ true → IsNoWorse rule may a b → IsNoWorse rule may (after_rest (sleeps x) a) (after_rest (sleeps x) b)
no_worse_on rule may berth a b x good va mb l r h = record {
  run = let n = h.run in omega arith;
  deep = deep_on rule may berth a b x va mb l r h.deep;
  keeps = elim h.keeps [ inl e ↦ inl (ap one_more e) | inr u ↦ inr (ready_on rule.berth a.waiting a.run x (rest_kind rule may berth a x va mb l r) u) ];
  less_base = no_more_rest rule.limits a.base b.base good.limits h.less_base;
  less_last = last_rest rule.limits may a.last b.last h.less_last;
  waiting = wait_rest rule a.run a.waiting b.waiting x (rest_kind rule may berth a x va mb l r) h.waiting;
}

split_berth_on : (k : BerthRule) (r : OpenRun) → has_split_berth k r ≡ true → has_split_berth k (longer true r) ≡ true
split_berth_on SevenInOne r h = refl
split_berth_on AllOfNext r h = let e = same r.stretch r.long h in is_same (one_more r.stretch) (one_more r.long) (omega arith)

longer_berth : (k : BerthRule) (y : Bool) (r : OpenRun) → IsBerthNoWorse k (as_waiting (longer y r)) (as_waiting r)
longer_berth SevenInOne y r = omega arith
longer_berth AllOfNext y r = tt

-- a unit of rest more is in b's counts alone
used_on : (limits : Option Used) (e u v : Used) → AreLimits limits → IsWithin e u → e.elapsed ≤ COUNT_LIMIT → IsNoMore limits u v → IsNoMore limits e (rested v)
used_on limits e u v b i l (inl h) = inl (spent_rest limits v b h)
used_on limits e u v b i l (inr h) = let n = within_over e u v i h in let j = n.less_elapsed in inr (record { less_driving = n.less_driving; less_duty = n.less_duty; less_elapsed = omega arith })

owed_on : (rule : SplitRule) (r : OpenRun) (u e : Used) (w : Option WaitingRest) (b : SplitCount) (y : Bool) → IsPairRule rule → r.long < COUNT_LIMIT → IsWithin e u → e.elapsed ≤ COUNT_LIMIT → IsOwed rule r u w b → IsOwed rule (longer y r) e w (after_rest y b)
owed_on rule r u e None b y good s i l h =
    let a = h.0 in
    (omega arith, enough_over rule.berth (as_waiting (longer y r)) (as_waiting r) (longer_berth rule.berth y r) h.1, used_on rule.limits e u b.base good.limits i l h.2)
owed_on rule r u e (Some v) b y good s i l h =
    let a = h.0 in
    (omega arith, berth_over rule.berth (as_waiting (longer y r)) (as_waiting r) v (longer_berth rule.berth y r) h.1, used_on rule.limits e u b.base good.limits i l h.2)

-- what is used without the run is no more for a longer run
without_on : (a : SplitCount) (y : Bool) → IsSplitCount a → a.run.long < COUNT_LIMIT → IsWithin (without_run (after_rest y a)) (without_run a) × ((without_run (after_rest y a)).elapsed ≤ COUNT_LIMIT)
without_on a y va l = let b = va.thereafter in (record { less_driving = omega arith; less_duty = omega arith; less_elapsed = omega arith }, omega arith)

owing_on : (rule : SplitRule) (may berth : Bool) (a b : SplitCount) (x : Activity) → IsPairRule rule → IsCountOf rule may a → (may ≡ true → berth ≡ true) → allowed berth x ≡ true → rests x ≡ true → IsOwing rule may a b → Covers rule may (after_rest (sleeps x) a) (after_rest (sleeps x) b)
owing_on rule may berth a b x good va mb l r h =
    let e = berth_rest berth x (mb h.allows) l r in
    let o = va.is_count.is_run in
    let pair = pair_on rule a.waiting a.run x o (inr e) h.pair in
    elim (cases_lt a.run.long rule.full) [
      | inr n ↦ inl (record { long = more_least a.run.long rule.full o.bounded n; pair = pair })
      | inl n ↦
          (let p = good.split.padded in
          let w = without_on a (sleeps x) va.is_count (omega arith) in
          inr (inr (record {
            allows = h.allows;
            least = more_least a.run.long rule.least o.bounded h.least;
            berth = subst (λ y. has_split_berth rule.berth (longer (sleeps y) a.run) ≡ true) (sym e) (split_berth_on rule.berth a.run h.berth);
            pair = pair;
            owed = owed_on rule a.run (without_run a) (without_run (after_rest (sleeps x) a)) b.waiting b (sleeps x) good (omega arith) w.0 w.1 h.owed;
          })))
    ]

pub covers_on : (rule : SplitRule) (may berth : Bool) (a b : SplitCount) (x : Activity) → IsPairRule rule → IsCountOf rule may a → (may ≡ true → berth ≡ true) → allowed berth x ≡ true → rests x ≡ true → Covers rule may a b → Covers rule may (after_rest (sleeps x) a) (after_rest (sleeps x) b)
covers_on rule may berth a b x good va mb l r (inl h) = inl (fresher_on rule may berth a x va mb l r h)
covers_on rule may berth a b x good va mb l r (inr (inl h)) = inr (inl (no_worse_on rule may berth a b x good va mb l r h))
covers_on rule may berth a b x good va mb l r (inr (inr h)) = owing_on rule may berth a b x good va mb l r h

duty_answers : (rule : SplitRule) (may : Bool) (ok : SplitCount → Bool) (a b : SplitCount) (x : Activity) (c : Choice) → IsPairRule rule → IsMonotone rule ok → IsCountOf rule may a → Covers rule may a b → IsUndeclared rule ok b x c ⊎ IsAsSplit rule may ok b x c ⊎ IsAsFull rule ok b x c → HasCover rule may ok a x c
duty_answers rule may ok a b x c good m va (inl h) g = fresher_answers rule may ok a x c good m h (duty_of rule may ok b x c g)
duty_answers rule may ok a b x c good m va (inr (inl h)) g = no_worse_answers rule may ok a b x c good m va h g
duty_answers rule may ok a b x c good m va (inr (inr h)) g = owing_answers rule may ok a b x c good m h g

-- Where a covers b, each choice of b by an activity that a schedule may hold is covered by one of a by the same activity.
pub covers_simulates : (rule : SplitRule) (may berth : Bool) (ok : SplitCount → Bool) (a b : SplitCount) (x : Activity) (c : Choice) → IsPairRule rule → IsMonotone rule ok → IsCountOf rule may a → (may ≡ true → berth ≡ true) → allowed berth x ≡ true → Covers rule may a b → IsChoice rule may ok b x c → HasCover rule may ok a x c
covers_simulates rule may berth ok a b x c good m va mb l h g = elim g [
  | inl k ↦ record {
    choice = choice (after_rest (sleeps x) a) false;
    is = inl (record { rest = k.rest; is = refl });
    covers = subst (λ t. Covers rule may (after_rest (sleeps x) a) t) (count_is (after_rest (sleeps x) b) false c k.is) (covers_on rule may berth a b x good va mb l k.rest h);
  }
  | inr k ↦ duty_answers rule may ok a b x c good m va h k
]

-- # Rest in place of anything else

own_rests : (berth : Bool) → (rests (own_rest berth) ≡ true) × (allowed berth (own_rest berth) ≡ true)
own_rests true = (refl, refl)
own_rests false = (refl, refl)

rest_only : (berth : Bool) (x : Activity) → rests x ≡ true → allowed berth x ≡ true → x ≡ own_rest berth
rest_only true Berth r l = refl
rest_only true Off r l = absurd (let z : false ≡ true = l in cc)
rest_only false Off r l = refl
rest_only false Berth r l = absurd (let z : false ≡ true = l in cc)
rest_only berth Drive r l = absurd (let z : false ≡ true = r in cc)
rest_only berth Serve r l = absurd (let z : false ≡ true = r in cc)
rest_only berth Wait r l = absurd (let z : false ≡ true = r in cc)

pub none_means : (w : Option WaitingRest) → waits_none w ≡ true → w ≡ None
none_means None h = refl
none_means (Some w) h = absurd (let z : false ≡ true = h in cc)

pub none_from : (w : Option WaitingRest) → w ≡ None → waits_none w ≡ true
none_from w h = subst (λ v. waits_none v ≡ true) (sym h) refl

-- where it is safe to rest, either the run is all in the berth, or none waits
pub ahead_cases : (rule : SplitRule) (may : Bool) (s : SplitCount) → is_ahead rule may s ≡ true → (s.run.stretch ≡ s.run.long) ⊎ ((s.waiting ≡ None) × (is_free rule may rule.berth s ≡ true))
ahead_cases rule may s h = elim (or_cases (nat_eq s.run.stretch s.run.long) (waits_none s.waiting && is_free rule may rule.berth s) h) [
  | inl e ↦ inl (same s.run.stretch s.run.long e)
  | inr e ↦ inr (none_means s.waiting (and_left (waits_none s.waiting) (is_free rule may rule.berth s) e), and_right (waits_none s.waiting) (is_free rule may rule.berth s) e)
]

pub ahead_from : (rule : SplitRule) (may : Bool) (s : SplitCount) → (s.run.stretch ≡ s.run.long) ⊎ ((s.waiting ≡ None) × (is_free rule may rule.berth s ≡ true)) → is_ahead rule may s ≡ true
ahead_from rule may s (inl e) = or_left (nat_eq s.run.stretch s.run.long) (waits_none s.waiting && is_free rule may rule.berth s) (is_same s.run.stretch s.run.long e)
ahead_from rule may s (inr e) = or_right (nat_eq s.run.stretch s.run.long) (waits_none s.waiting && is_free rule may rule.berth s) (and_both (waits_none s.waiting) (is_free rule may rule.berth s) (none_from s.waiting e.0) e.1)

free_never : (rule : SplitRule) (k : BerthRule) (may : Bool) (s : SplitCount) → may ≡ false → is_free rule may k s ≡ true
free_never rule SevenInOne may s m = refl
free_never rule AllOfNext may s m = or_left (not may) (nat_le rule.full s.run.long) (ap not m)

free_on : (rule : SplitRule) (k : BerthRule) (may : Bool) (s : SplitCount) (y : Bool) → s.run.long ≤ COUNT_LIMIT → is_free rule may k s ≡ true → is_free rule may k (after_rest y s) ≡ true
free_on rule SevenInOne may s y b h = refl
free_on rule AllOfNext may s y b h = elim (or_cases (not may) (nat_le rule.full s.run.long) h) [
  | inl u ↦ or_left (not may) (nat_le rule.full (one_more s.run.long)) u
  | inr u ↦ or_right (not may) (nat_le rule.full (one_more s.run.long)) (is_upto rule.full (one_more s.run.long) (more_least s.run.long rule.full b (upto rule.full s.run.long u)))
]

-- it stays safe
pub ahead_on : (rule : SplitRule) (may berth : Bool) (s : SplitCount) → IsCountOf rule may s → (may ≡ true → berth ≡ true) → is_ahead rule may s ≡ true → is_ahead rule may (after_rest (sleeps (own_rest berth)) s) ≡ true
ahead_on rule may true s vs mb h = ahead_from rule may (after_rest true s) (elim (ahead_cases rule may s h) [
  | inl e ↦ inl (ap one_more e)
  | inr e ↦ inr (e.0, free_on rule rule.berth may s true vs.is_count.is_run.bounded e.1)
])
ahead_on rule may false s vs mb h = let m = never_splits may false mb refl in ahead_from rule may (after_rest false s) (inr (nothing_waits rule may s vs m, free_never rule rule.berth may (after_rest false s) m))

-- the run with the tour's rest may end as a full rest, or serves for what comes
ahead_deep : (rule : SplitRule) (may berth : Bool) (s : SplitCount) (k : BerthRule) → IsCountOf rule may s → (may ≡ true → berth ≡ true) → (s.run.stretch ≡ s.run.long) ⊎ ((s.waiting ≡ None) × (is_free rule may k s ≡ true)) →
    (IsDeep k (longer (sleeps (own_rest berth)) s.run) no_run ⊎ ((may ≡ false) × (s.waiting ≡ None))) ⊎ ((s.waiting ≡ None) × (rule.full ≤ s.run.long))
ahead_deep rule may berth s SevenInOne vs mb h = inl (inl (omega arith, omega arith))
ahead_deep rule may true s AllOfNext vs mb (inl e) = inl (inl (inl (let z : one_more s.run.stretch ≡ one_more s.run.long = omega arith in z)))
ahead_deep rule may false s AllOfNext vs mb (inl e) = let m = never_splits may false mb refl in inl (inr (m, nothing_waits rule may s vs m))
ahead_deep rule may berth s AllOfNext vs mb (inr e) = elim (or_cases (not may) (nat_le rule.full s.run.long) e.1) [
  | inl u ↦ inl (inr (elim (bool_cases may) [ inl t ↦ absurd (let z : false ≡ true = sym (ap not t) ∙ u in cc) | inr f ↦ f ], e.0))
  | inr u ↦ inr (e.0, upto rule.full s.run.long u)
]

within_worked : (d : Bool) (u : Used) → IsUsed u → IsWithin u (worked d u)
within_worked true u h = let a = h.works in let b = h.bounded_duty in let c = h.bounded in record { less_driving = omega arith; less_duty = omega arith; less_elapsed = omega arith }
within_worked false u h = let b = h.bounded_duty in let c = h.bounded in record { less_driving = omega arith; less_duty = omega arith; less_elapsed = omega arith }

ahead_undeclared : (rule : SplitRule) (may berth : Bool) (ok : SplitCount → Bool) (s : SplitCount) (x : Activity) (c : Choice) → IsCountOf rule may s → (may ≡ true → berth ≡ true) → is_ahead rule may s ≡ true → IsUndeclared rule ok s x c → Covers rule may (after_rest (sleeps (own_rest berth)) s) c.count
ahead_undeclared rule may berth ok s x c vs mb h k =
    let y = own_rest berth in
    let r = own_rests berth in
    let cases = ahead_cases rule may s h in
    subst (λ t. Covers rule may (after_rest (sleeps y) s) t) (count_is (after_duty (drives x) s) false c k.is)
    (elim (ahead_deep rule may berth s rule.berth vs mb cases) [
      | inr f ↦ absurd (let z = f.1 in let w = k.short in omega arith)
      | inl d ↦ inr (inl (record {
        run = omega arith;
        deep = d;
        keeps = inr (ready_on rule.berth s.waiting s.run y (rest_kind rule may berth s y vs mb r.1 r.0) (elim cases [ inl e ↦ ready_all rule.berth s.waiting s.run e | inr e ↦ ready_none rule.berth s.waiting s.run e.0 ]));
        less_base = inr (within_idle (drives x) s.base vs.is_count.is_base);
        less_last = inr (inr (within_idle (drives x) s.last vs.is_count.is_last));
        waiting = wait_same rule (longer (sleeps y) s.run) s.waiting;
      }))
    ])

ahead_split : (rule : SplitRule) (may berth : Bool) (ok : SplitCount → Bool) (s : SplitCount) (x : Activity) (c : Choice) → IsPairRule rule → IsCountOf rule may s → (may ≡ true → berth ≡ true) → IsAsSplit rule may ok s x c → Covers rule may (after_rest (sleeps (own_rest berth)) s) c.count
ahead_split rule may berth ok s x c good vs mb k =
    let y = own_rest berth in
    let r = own_rests berth in
    let e = berth_rest berth y (mb k.allowed) r.1 r.0 in
    let m = split_length rule s k.passes in
    let o = vs.is_count.is_run in
    let p = good.split.padded in
    let short = m.1 in
    let w = without_on s (sleeps y) vs.is_count (omega arith) in
    subst (λ t. Covers rule may (after_rest (sleeps y) s) t) (count_is (after_duty (drives x) (split_count s)) true c k.is) (inr (inr (record {
      allows = k.allowed;
      least = more_least s.run.long rule.least o.bounded m.0;
      berth = subst (λ z. has_split_berth rule.berth (longer (sleeps z) s.run) ≡ true) (sym e) (split_berth_on rule.berth s.run m.2);
      pair = pair_on rule s.waiting s.run y o (inr e) m.3;
      owed = (omega arith, longer_berth rule.berth (sleeps y) s.run, inr (within_over (without_run (after_rest (sleeps y) s)) (without_run s) (worked (drives x) (without_run s)) w.0 (within_worked (drives x) (without_run s) (split_kept s vs.is_count).is_base)));
    })))

ahead_full : (rule : SplitRule) (may berth : Bool) (ok : SplitCount → Bool) (s : SplitCount) (x : Activity) (c : Choice) → IsCountOf rule may s → (may ≡ true → berth ≡ true) → IsAsFull rule ok s x c → Covers rule may (after_rest (sleeps (own_rest berth)) s) c.count
ahead_full rule may berth ok s x c vs mb k = let r = own_rests berth in inl (fresher_on rule may berth s (own_rest berth) vs mb r.1 r.0 (record { long = k.long; pair = k.paired }))

-- Where it is safe to rest, the tour's rest covers each choice by an activity that a schedule may hold.
pub ahead_covers : (rule : SplitRule) (may berth : Bool) (ok : SplitCount → Bool) (s : SplitCount) (x : Activity) (c : Choice) → IsPairRule rule → IsCountOf rule may s → (may ≡ true → berth ≡ true) → is_ahead rule may s ≡ true → allowed berth x ≡ true → IsChoice rule may ok s x c →
    Covers rule may (after_rest (sleeps (own_rest berth)) s) c.count
ahead_covers rule may berth ok s x c good vs mb h l g = elim g [
  | inl k ↦ subst (λ t. Covers rule may (after_rest (sleeps (own_rest berth)) s) t) (count_is (after_rest (sleeps x) s) false c k.is)
      (subst (λ z. Covers rule may (after_rest (sleeps z) s) (after_rest (sleeps x) s)) (rest_only berth x k.rest l) (covers_same rule may (after_rest (sleeps x) s)))
  | inr v ↦ elim v [
    | inl k ↦ ahead_undeclared rule may berth ok s x c vs mb h k
    | inr u ↦ elim u [ inl k ↦ ahead_split rule may berth ok s x c good vs mb k | inr k ↦ ahead_full rule may berth ok s x c vs mb k ]
  ]
]

-- # Of the lists of choices

pub choices_cover : (rule : SplitRule) (may berth : Bool) (ok : SplitCount → Bool) (a b : SplitCount) (x : Activity) (c : Choice) → IsPairRule rule → IsMonotone rule ok → IsCountOf rule may a → (may ≡ true → berth ≡ true) → allowed berth x ≡ true → Covers rule may a b → Contains (choices rule may ok b x) c →
    (d : Choice) × Contains (choices rule may ok a x) d × Covers rule may d.count c.count
choices_cover rule may berth ok a b x c good m va mb l h g = let k = covers_simulates rule may berth ok a b x c good m va mb l h (choice_cases rule may ok b x c good.split.some g) in (k.choice, is_choice rule may ok a x k.choice k.is, k.covers)

pub rest_choice : (rule : SplitRule) (may berth : Bool) (ok : SplitCount → Bool) (s : SplitCount) → Contains (choices rule may ok s (own_rest berth)) (choice (after_rest (sleeps (own_rest berth)) s) false)
rest_choice rule may berth ok s = is_choice rule may ok s (own_rest berth) (choice (after_rest (sleeps (own_rest berth)) s) false) (inl (record { rest = (own_rests berth).0; is = refl }))

pub choices_ahead : (rule : SplitRule) (may berth : Bool) (ok : SplitCount → Bool) (s : SplitCount) (x : Activity) (c : Choice) → IsPairRule rule → IsCountOf rule may s → (may ≡ true → berth ≡ true) → is_ahead rule may s ≡ true → allowed berth x ≡ true → Contains (choices rule may ok s x) c →
    (d : Choice) × Contains (choices rule may ok s (own_rest berth)) d × (is_ahead rule may d.count ≡ true) × Covers rule may d.count c.count
choices_ahead rule may berth ok s x c good vs mb h l g =
    (choice (after_rest (sleeps (own_rest berth)) s) false, rest_choice rule may berth ok s, ahead_on rule may berth s vs mb h, ahead_covers rule may berth ok s x c good vs mb h l (choice_cases rule may ok s x c good.split.some g))

pub choices_kept : (rule : SplitRule) (may : Bool) (ok : SplitCount → Bool) (s : SplitCount) (x : Activity) (c : Choice) → 0 < rule.full → IsCountOf rule may s → Contains (choices rule may ok s x) c → IsCountOf rule may c.count
choices_kept rule may ok s x c pos_full vs g = choice_kept rule may ok s x c vs (choice_cases rule may ok s x c pos_full g)
