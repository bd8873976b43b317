-- The tests of the relation between counts decide it.
use Rattle.std.proofs.Common.{◌≡◌, ◌↔◌, ◌+◌, Bool, true, false, refl, ap, inl, inr}
use Rattle.duty_core.specs.declared.limits.TheConstants.{US_PAIR_BERTH}
use Rattle.std.specs.Prelude.{min, Option, None, Some, not, nat_le, nat_eq, ◌&&◌, ◌||◌}
use Rattle.sleeper_split.specs.declared.rule.BerthRule.{BerthRule}
use Rattle.sleeper_split.specs.declared.rule.BerthRule.TheVariants.{SevenInOne, AllOfNext}
use Rattle.sleeper_split.specs.declared.rule.SplitRule.{SplitRule}
use Rattle.sleeper_split.specs.declared.count.Used.{Used}
use Rattle.sleeper_split.specs.declared.count.OpenRun.{OpenRun}
use Rattle.sleeper_split.specs.declared.count.WaitingRest.{WaitingRest}
use Rattle.sleeper_split.specs.declared.count.SplitCount.{SplitCount}
use Rattle.sleeper_split.specs.Machine.{IsWithin, has_pair_berth, has_split_berth, may_pair, without_run}
use Rattle.sleeper_split.specs.Laws.Limits.{and_left, and_right, and_both, upto, same, is_upto, is_same}
use Rattle.sleeper_split.specs.Laws.CoverLaws.{or_cases, or_left, or_right, none_means, none_from}
use Rattle.sleeper_split.specs.Covers.{IsSpent, IsWorn, IsNoMore, IsLastNoMore, is_spent, is_worn, is_no_more, is_last_no_more, IsBerthNoWorse, IsWaitNoWorse, IsDeep, IsBerthEnough, enough, is_berth_enough, IsReady, IsNoWorse, as_waiting, IsOwed, IsOwing, Covers, is_within, waits_none, is_berth_no_worse, is_wait_no_worse, is_deep, is_ready, serving, is_no_worse, is_fresher, is_owed, is_owing, covers_count}

within_means : (u v : Used) → is_within u v ≡ true → IsWithin u v
within_means u v h = let a = and_right (nat_le u.driving v.driving) (nat_le u.duty v.duty && nat_le u.elapsed v.elapsed) h in record {
  less_driving = upto u.driving v.driving (and_left (nat_le u.driving v.driving) (nat_le u.duty v.duty && nat_le u.elapsed v.elapsed) h);
  less_duty = upto u.duty v.duty (and_left (nat_le u.duty v.duty) (nat_le u.elapsed v.elapsed) a);
  less_elapsed = upto u.elapsed v.elapsed (and_right (nat_le u.duty v.duty) (nat_le u.elapsed v.elapsed) a);
}

within_from : (u v : Used) → IsWithin u v → is_within u v ≡ true
within_from u v h = and_both (nat_le u.driving v.driving) (nat_le u.duty v.duty && nat_le u.elapsed v.elapsed) (is_upto u.driving v.driving h.less_driving) (and_both (nat_le u.duty v.duty) (nat_le u.elapsed v.elapsed) (is_upto u.duty v.duty h.less_duty) (is_upto u.elapsed v.elapsed h.less_elapsed))

spent_means : (limits : Option Used) (u : Used) → is_spent limits u ≡ true → IsSpent limits u
spent_means None u h = absurd (let z : false ≡ true = h in cc)
spent_means (Some l) u h = elim (or_cases (nat_le l.driving u.driving) (nat_le l.duty u.duty || nat_le l.elapsed u.elapsed) h) [
  | inl a ↦ inl (upto l.driving u.driving a)
  | inr a ↦ inr (elim (or_cases (nat_le l.duty u.duty) (nat_le l.elapsed u.elapsed) a) [ inl b ↦ inl (upto l.duty u.duty b) | inr b ↦ inr (upto l.elapsed u.elapsed b) ])
]

spent_from : (limits : Option Used) (u : Used) → IsSpent limits u → is_spent limits u ≡ true
spent_from None u h = absurd h
spent_from (Some l) u h =
    let d : Bool = nat_le l.driving u.driving in
    let w : Bool = nat_le l.duty u.duty in
    let e : Bool = nat_le l.elapsed u.elapsed in
    elim h [
      | inl a ↦ or_left d (w || e) (is_upto l.driving u.driving a)
      | inr a ↦ or_right d (w || e) (elim a [ inl b ↦ or_left w e (is_upto l.duty u.duty b) | inr b ↦ or_right w e (is_upto l.elapsed u.elapsed b) ])
    ]

worn_means : (limits : Option Used) (u : Used) → is_worn limits u ≡ true → IsWorn limits u
worn_means None u h = absurd (let z : false ≡ true = h in cc)
worn_means (Some l) u h = elim (or_cases (nat_le l.driving u.driving) (nat_le l.duty u.duty) h) [ inl a ↦ inl (upto l.driving u.driving a) | inr a ↦ inr (upto l.duty u.duty a) ]

worn_from : (limits : Option Used) (u : Used) → IsWorn limits u → is_worn limits u ≡ true
worn_from None u h = absurd h
worn_from (Some l) u h = elim h [
  | inl a ↦ or_left (nat_le l.driving u.driving) (nat_le l.duty u.duty) (is_upto l.driving u.driving a)
  | inr a ↦ or_right (nat_le l.driving u.driving) (nat_le l.duty u.duty) (is_upto l.duty u.duty a)
]

no_more_means : (limits : Option Used) (u v : Used) → is_no_more limits u v ≡ true → IsNoMore limits u v
no_more_means limits u v h = elim (or_cases (is_spent limits v) (is_within u v) h) [ inl a ↦ inl (spent_means limits v a) | inr a ↦ inr (within_means u v a) ]

no_more_from : (limits : Option Used) (u v : Used) → IsNoMore limits u v → is_no_more limits u v ≡ true
no_more_from limits u v h = elim h [
  | inl a ↦ or_left (is_spent limits v) (is_within u v) (spent_from limits v a)
  | inr a ↦ or_right (is_spent limits v) (is_within u v) (within_from u v a)
]

not_means : (b : Bool) → not b ≡ true → b ≡ false
not_means true h = absurd (let z : false ≡ true = h in cc)
not_means false h = refl

last_means : (limits : Option Used) (may : Bool) (u v : Used) → is_last_no_more limits may u v ≡ true → IsLastNoMore limits may u v
last_means limits may u v h = elim (or_cases (not may) (is_worn limits v || is_within u v) h) [
  | inl a ↦ inl (not_means may a)
  | inr a ↦ inr (elim (or_cases (is_worn limits v) (is_within u v) a) [ inl b ↦ inl (worn_means limits v b) | inr b ↦ inr (within_means u v b) ])
]

last_from : (limits : Option Used) (may : Bool) (u v : Used) → IsLastNoMore limits may u v → is_last_no_more limits may u v ≡ true
last_from limits may u v h =
    let w : Bool = is_worn limits v in
    let i : Bool = is_within u v in
    elim h [
      | inl a ↦ or_left (not may) (w || i) (ap not a)
      | inr a ↦ or_right (not may) (w || i) (elim a [ inl b ↦ or_left w i (worn_from limits v b) | inr b ↦ or_right w i (within_from u v b) ])
    ]

berth_means : (k : BerthRule) (w v : WaitingRest) → is_berth_no_worse k w v ≡ true → IsBerthNoWorse k w v
berth_means SevenInOne w v h = upto (min v.berth US_PAIR_BERTH) w.berth h
berth_means AllOfNext w v h = tt

berth_from : (k : BerthRule) (w v : WaitingRest) → IsBerthNoWorse k w v → is_berth_no_worse k w v ≡ true
berth_from SevenInOne w v h = is_upto (min v.berth US_PAIR_BERTH) w.berth h
berth_from AllOfNext w v h = refl

ready_means : (k : BerthRule) (w : Option WaitingRest) (r : OpenRun) → is_ready k w r ≡ true → IsReady k w r
ready_means k None r h = tt
ready_means k (Some w) r h = elim (or_cases (nat_eq r.stretch r.long) (has_pair_berth k w r) h) [ inl e ↦ inl (same r.stretch r.long e) | inr t ↦ inr t ]

ready_from : (k : BerthRule) (w : Option WaitingRest) (r : OpenRun) → IsReady k w r → is_ready k w r ≡ true
ready_from k None r h = refl
ready_from k (Some w) r (inl e) = or_left (nat_eq r.stretch r.long) (has_pair_berth k w r) (is_same r.stretch r.long e)
ready_from k (Some w) r (inr t) = or_right (nat_eq r.stretch r.long) (has_pair_berth k w r) t

enough_means : (k : BerthRule) (w : WaitingRest) → is_berth_enough k w ≡ true → IsBerthEnough k w
enough_means SevenInOne w h = upto US_PAIR_BERTH w.berth h
enough_means AllOfNext w h = tt

enough_from : (k : BerthRule) (w : WaitingRest) → IsBerthEnough k w → is_berth_enough k w ≡ true
enough_from SevenInOne w h = is_upto US_PAIR_BERTH w.berth h
enough_from AllOfNext w h = refl

wait_means : (rule : SplitRule) (r : OpenRun) (w v : Option WaitingRest) → is_wait_no_worse rule r w v ≡ true → IsWaitNoWorse rule r w v
wait_means rule r None v h = tt
wait_means rule r (Some w) None h =
    let a = and_right (nat_le (enough rule) w.long) (is_berth_enough rule.berth w && is_ready rule.berth (Some w) r) h in (
      upto (enough rule) w.long (and_left (nat_le (enough rule) w.long) (is_berth_enough rule.berth w && is_ready rule.berth (Some w) r) h),
      enough_means rule.berth w (and_left (is_berth_enough rule.berth w) (is_ready rule.berth (Some w) r) a),
      ready_means rule.berth (Some w) r (and_right (is_berth_enough rule.berth w) (is_ready rule.berth (Some w) r) a),
    )
wait_means rule r (Some w) (Some v) h = (upto (serving rule v.long) w.long (and_left (nat_le (serving rule v.long) w.long) (is_berth_no_worse rule.berth w v) h), berth_means rule.berth w v (and_right (nat_le (serving rule v.long) w.long) (is_berth_no_worse rule.berth w v) h))

wait_from : (rule : SplitRule) (r : OpenRun) (w v : Option WaitingRest) → IsWaitNoWorse rule r w v → is_wait_no_worse rule r w v ≡ true
wait_from rule r None v h = refl
wait_from rule r (Some w) None h = and_both (nat_le (enough rule) w.long) (is_berth_enough rule.berth w && is_ready rule.berth (Some w) r) (is_upto (enough rule) w.long h.0) (and_both (is_berth_enough rule.berth w) (is_ready rule.berth (Some w) r) (enough_from rule.berth w h.1) (ready_from rule.berth (Some w) r h.2))
wait_from rule r (Some w) (Some v) h = and_both (nat_le (serving rule v.long) w.long) (is_berth_no_worse rule.berth w v) (is_upto (serving rule v.long) w.long h.0) (berth_from rule.berth w v h.1)

deep_means : (k : BerthRule) (r q : OpenRun) → is_deep k r q ≡ true → IsDeep k r q
deep_means SevenInOne r q h = (upto (min q.stretch US_PAIR_BERTH) r.stretch (and_left (nat_le (min q.stretch US_PAIR_BERTH) r.stretch) (nat_le (min q.longest US_PAIR_BERTH) r.longest) h), upto (min q.longest US_PAIR_BERTH) r.longest (and_right (nat_le (min q.stretch US_PAIR_BERTH) r.stretch) (nat_le (min q.longest US_PAIR_BERTH) r.longest) h))
deep_means AllOfNext r q h = elim (or_cases (nat_eq r.stretch r.long) (nat_eq r.long q.long && nat_eq r.stretch q.stretch) h) [
  | inl e ↦ inl (same r.stretch r.long e)
  | inr e ↦ inr (same r.long q.long (and_left (nat_eq r.long q.long) (nat_eq r.stretch q.stretch) e), same r.stretch q.stretch (and_right (nat_eq r.long q.long) (nat_eq r.stretch q.stretch) e))
]

deep_from : (k : BerthRule) (r q : OpenRun) → IsDeep k r q → is_deep k r q ≡ true
deep_from SevenInOne r q h = and_both (nat_le (min q.stretch US_PAIR_BERTH) r.stretch) (nat_le (min q.longest US_PAIR_BERTH) r.longest) (is_upto (min q.stretch US_PAIR_BERTH) r.stretch h.0) (is_upto (min q.longest US_PAIR_BERTH) r.longest h.1)
deep_from AllOfNext r q (inl e) = or_left (nat_eq r.stretch r.long) (nat_eq r.long q.long && nat_eq r.stretch q.stretch) (is_same r.stretch r.long e)
deep_from AllOfNext r q (inr e) = or_right (nat_eq r.stretch r.long) (nat_eq r.long q.long && nat_eq r.stretch q.stretch) (and_both (nat_eq r.long q.long) (nat_eq r.stretch q.stretch) (is_same r.long q.long e.0) (is_same r.stretch q.stretch e.1))

no_worse_means : (rule : SplitRule) (may : Bool) (a b : SplitCount) → is_no_worse rule may a b ≡ true → IsNoWorse rule may a b
no_worse_means rule may a b h =
    let w : Bool = is_wait_no_worse rule a.run a.waiting b.waiting in
    let n : Bool = is_no_more rule.limits a.base b.base in
    let t : Bool = is_last_no_more rule.limits may a.last b.last in
    let d : Bool = is_deep rule.berth a.run b.run || (not may && waits_none a.waiting) in
    let k : Bool = nat_eq a.run.long b.run.long || is_ready rule.berth a.waiting a.run in
    let h1 = and_right (nat_le b.run.long a.run.long) (d && (k && (n && (t && w)))) h in
    let h2 = and_right d (k && (n && (t && w))) h1 in
    let h3 = and_right k (n && (t && w)) h2 in
    let h4 = and_right n (t && w) h3 in
    record {
      run = upto b.run.long a.run.long (and_left (nat_le b.run.long a.run.long) (d && (k && (n && (t && w)))) h);
      deep = elim (or_cases (is_deep rule.berth a.run b.run) (not may && waits_none a.waiting) (and_left d (k && (n && (t && w))) h1)) [
        | inl u ↦ inl (deep_means rule.berth a.run b.run u)
        | inr u ↦ inr (not_means may (and_left (not may) (waits_none a.waiting) u), none_means a.waiting (and_right (not may) (waits_none a.waiting) u))
      ];
      keeps = elim (or_cases (nat_eq a.run.long b.run.long) (is_ready rule.berth a.waiting a.run) (and_left k (n && (t && w)) h2)) [
        | inl u ↦ inl (same a.run.long b.run.long u)
        | inr u ↦ inr (ready_means rule.berth a.waiting a.run u)
      ];
      less_base = no_more_means rule.limits a.base b.base (and_left n (t && w) h3);
      less_last = last_means rule.limits may a.last b.last (and_left t w h4);
      waiting = wait_means rule a.run a.waiting b.waiting (and_right t w h4);
    }

no_worse_from : (rule : SplitRule) (may : Bool) (a b : SplitCount) → IsNoWorse rule may a b → is_no_worse rule may a b ≡ true
no_worse_from rule may a b h =
    let w : Bool = is_wait_no_worse rule a.run a.waiting b.waiting in
    let n : Bool = is_no_more rule.limits a.base b.base in
    let t : Bool = is_last_no_more rule.limits may a.last b.last in
    let d : Bool = is_deep rule.berth a.run b.run || (not may && waits_none a.waiting) in
    let k : Bool = nat_eq a.run.long b.run.long || is_ready rule.berth a.waiting a.run in
    and_both (nat_le b.run.long a.run.long) (d && (k && (n && (t && w)))) (is_upto b.run.long a.run.long h.run)
    (and_both d (k && (n && (t && w)))
    (elim h.deep [
      | inl u ↦ or_left (is_deep rule.berth a.run b.run) (not may && waits_none a.waiting) (deep_from rule.berth a.run b.run u)
      | inr u ↦ or_right (is_deep rule.berth a.run b.run) (not may && waits_none a.waiting) (and_both (not may) (waits_none a.waiting) (ap not u.0) (none_from a.waiting u.1))
    ])
    (and_both k (n && (t && w))
    (elim h.keeps [
      | inl u ↦ or_left (nat_eq a.run.long b.run.long) (is_ready rule.berth a.waiting a.run) (is_same a.run.long b.run.long u)
      | inr u ↦ or_right (nat_eq a.run.long b.run.long) (is_ready rule.berth a.waiting a.run) (ready_from rule.berth a.waiting a.run u)
    ])
    (and_both n (t && w) (no_more_from rule.limits a.base b.base h.less_base)
    (and_both t w (last_from rule.limits may a.last b.last h.less_last) (wait_from rule a.run a.waiting b.waiting h.waiting)))))

owed_means : (rule : SplitRule) (r : OpenRun) (u : Used) (w : Option WaitingRest) (b : SplitCount) → is_owed rule r u w b ≡ true → IsOwed rule r u w b
owed_means rule r u None b h = let a = and_right (nat_le (enough rule + b.run.long) r.long) (is_berth_enough rule.berth (as_waiting r) && is_no_more rule.limits u b.base) h in (
  upto (enough rule + b.run.long) r.long (and_left (nat_le (enough rule + b.run.long) r.long) (is_berth_enough rule.berth (as_waiting r) && is_no_more rule.limits u b.base) h),
  enough_means rule.berth (as_waiting r) (and_left (is_berth_enough rule.berth (as_waiting r)) (is_no_more rule.limits u b.base) a),
  no_more_means rule.limits u b.base (and_right (is_berth_enough rule.berth (as_waiting r)) (is_no_more rule.limits u b.base) a),
)
owed_means rule r u (Some v) b h = let a = and_right (nat_le (serving rule v.long + b.run.long) r.long) (is_berth_no_worse rule.berth (as_waiting r) v && is_no_more rule.limits u b.base) h in (
  upto (serving rule v.long + b.run.long) r.long (and_left (nat_le (serving rule v.long + b.run.long) r.long) (is_berth_no_worse rule.berth (as_waiting r) v && is_no_more rule.limits u b.base) h),
  berth_means rule.berth (as_waiting r) v (and_left (is_berth_no_worse rule.berth (as_waiting r) v) (is_no_more rule.limits u b.base) a),
  no_more_means rule.limits u b.base (and_right (is_berth_no_worse rule.berth (as_waiting r) v) (is_no_more rule.limits u b.base) a),
)

owed_from : (rule : SplitRule) (r : OpenRun) (u : Used) (w : Option WaitingRest) (b : SplitCount) → IsOwed rule r u w b → is_owed rule r u w b ≡ true
owed_from rule r u None b h = and_both (nat_le (enough rule + b.run.long) r.long) (is_berth_enough rule.berth (as_waiting r) && is_no_more rule.limits u b.base) (is_upto (enough rule + b.run.long) r.long h.0)
    (and_both (is_berth_enough rule.berth (as_waiting r)) (is_no_more rule.limits u b.base) (enough_from rule.berth (as_waiting r) h.1) (no_more_from rule.limits u b.base h.2))
owed_from rule r u (Some v) b h = and_both (nat_le (serving rule v.long + b.run.long) r.long) (is_berth_no_worse rule.berth (as_waiting r) v && is_no_more rule.limits u b.base) (is_upto (serving rule v.long + b.run.long) r.long h.0)
    (and_both (is_berth_no_worse rule.berth (as_waiting r) v) (is_no_more rule.limits u b.base) (berth_from rule.berth (as_waiting r) v h.1) (no_more_from rule.limits u b.base h.2))

owing_means : (rule : SplitRule) (may : Bool) (a b : SplitCount) → is_owing rule may a b ≡ true → IsOwing rule may a b
owing_means rule may a b h =
    let o : Bool = is_owed rule a.run (without_run a) b.waiting b in
    let p : Bool = may_pair rule a.waiting a.run in
    let s : Bool = has_split_berth rule.berth a.run in
    let h1 = and_right may (nat_le rule.least a.run.long && (s && (p && o))) h in
    let h2 = and_right (nat_le rule.least a.run.long) (s && (p && o)) h1 in
    let h3 = and_right s (p && o) h2 in
    record {
      allows = and_left may (nat_le rule.least a.run.long && (s && (p && o))) h;
      least = upto rule.least a.run.long (and_left (nat_le rule.least a.run.long) (s && (p && o)) h1);
      berth = and_left s (p && o) h2;
      pair = and_left p o h3;
      owed = owed_means rule a.run (without_run a) b.waiting b (and_right p o h3);
    }

owing_from : (rule : SplitRule) (may : Bool) (a b : SplitCount) → IsOwing rule may a b → is_owing rule may a b ≡ true
owing_from rule may a b h =
    let o : Bool = is_owed rule a.run (without_run a) b.waiting b in
    let p : Bool = may_pair rule a.waiting a.run in
    let s : Bool = has_split_berth rule.berth a.run in
    and_both may (nat_le rule.least a.run.long && (s && (p && o))) h.allows (and_both (nat_le rule.least a.run.long) (s && (p && o)) (is_upto rule.least a.run.long h.least)
    (and_both s (p && o) h.berth (and_both p o h.pair (owed_from rule a.run (without_run a) b.waiting b h.owed))))

-- The test says whether a may stand for b.
pub covers_decides : (rule : SplitRule) (may : Bool) (a b : SplitCount) → (covers_count rule may a b ≡ true) ↔ Covers rule may a b
covers_decides rule may a b = (
  (λ h. elim (or_cases (is_fresher rule a) (is_no_worse rule may a b || is_owing rule may a b) h) [
    | inl u ↦ inl (record { long = upto rule.full a.run.long (and_left (nat_le rule.full a.run.long) (may_pair rule a.waiting a.run) u); pair = and_right (nat_le rule.full a.run.long) (may_pair rule a.waiting a.run) u })
    | inr u ↦ inr (elim (or_cases (is_no_worse rule may a b) (is_owing rule may a b) u) [ inl v ↦ inl (no_worse_means rule may a b v) | inr v ↦ inr (owing_means rule may a b v) ])
  ]),
  (λ h. elim h [
    | inl f ↦ or_left (is_fresher rule a) (is_no_worse rule may a b || is_owing rule may a b) (and_both (nat_le rule.full a.run.long) (may_pair rule a.waiting a.run) (is_upto rule.full a.run.long f.long) f.pair)
    | inr g ↦ or_right (is_fresher rule a) (is_no_worse rule may a b || is_owing rule may a b) (elim g [
      | inl v ↦ or_left (is_no_worse rule may a b) (is_owing rule may a b) (no_worse_from rule may a b v)
      | inr v ↦ or_right (is_no_worse rule may a b) (is_owing rule may a b) (owing_from rule may a b v)
    ])
  ]),
)
