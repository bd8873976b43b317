-- Where one history is plainly better than another, its count may stand for the other's.
use Rattle.std.proofs.Common.{◌≡◌, ◌↔◌, ℕ, ◌-◌, ◌≤◌, Bool, true, false, List, length, drop, take, refl, sym, ap, subst, arith, ◌⊎◌, inl, inr}
use Rattle.std.specs.Prelude.{max, Option, None, Some, nat_le, ◌&&◌, count_by}
use Rattle.std.proofs.lemmas.List.{take_all}
use Rattle.duty_core.specs.declared.activity.Activity.{Activity}
use Rattle.duty_core.specs.declared.activity.Activity.TheVariants.{Drive, Serve, Wait, Off, Berth}
use Rattle.duty_core.specs.declared.params.Params.{Params}
use Rattle.duty_core.specs.Activity.{drives, works}
use Rattle.duty_core.specs.Params.{has_berth, allows}
use Rattle.duty_core.specs.Laws.RunLaws.{open_after_front}
use Rattle.duty_core.specs.Stretch.{IsRest, IsBerth, HoldsBerth}
use Rattle.duty_core.specs.Counting.{driving, duty}
use Rattle.duty_core.specs.DeclaredRest.{IsWaiting}
use Rattle.duty_core.specs.Base.{elapsed}
use Rattle.duty_core.specs.PlainlyBetter.{IsBaseNow, IsBaseBetter, NoneWaits, BothWait, IsRunBetter, IsShiftBetter}
use Rattle.duty_core.specs.Laws.UniqueLaws.{declared_run, last_declared_end}
use Rattle.sleeper_split.specs.declared.rule.BerthRule.{BerthRule}
use Rattle.sleeper_split.specs.declared.rule.BerthRule.TheVariants.{SevenInOne, AllOfNext}
use Rattle.sleeper_split.specs.declared.rule.SplitRule.{SplitRule}
use Rattle.sleeper_split.specs.declared.rule.TheConstants.SplitRule.{US, CANADA}
use Rattle.sleeper_split.specs.declared.count.Used.{Used}
use Rattle.sleeper_split.specs.declared.count.OpenRun.{OpenRun}
use Rattle.sleeper_split.specs.declared.count.WaitingRest.{WaitingRest}
use Rattle.sleeper_split.specs.declared.count.Since.TheVariants.{Driving, Duty, Elapsed}
use Rattle.sleeper_split.specs.declared.count.SplitCount.{SplitCount}
use Rattle.sleeper_split.specs.Machine.{IsOpenRun, IsWithin, after_duty, may_pair, used_of}
use Rattle.sleeper_split.specs.Tracks.{IsLongest, IsUsedSince, HasLast, IsCounted, Tracks}
use Rattle.sleeper_split.specs.Laws.Limits.{and_left, and_right, and_both, upto, same, is_upto, is_same, all_means, all_from, berth_means, berth_from, waiting}
use Rattle.sleeper_split.specs.Promises.{us_keeps, canada_keeps}
use Rattle.sleeper_split.specs.Laws.CountryLaws.{us_rule, canada_rule}
use Rattle.sleeper_split.specs.Laws.CoverLaws.{never_splits, nothing_waits, ready_all, ready_none}
use Rattle.sleeper_split.specs.Covers.{IsPairRule, IsCountOf, IsMonotone, IsBerthNoWorse, IsWaitNoWorse, IsDeep, IsNoWorse, Covers, allowed}

-- # The countries

pub us_pair_rule : IsPairRule US
us_pair_rule = record { split = us_rule; least = omega arith; shorter = omega arith; pairs = omega arith; owed = omega arith; berth = omega arith; limits = tt }

pub canada_pair_rule : IsPairRule CANADA
canada_pair_rule = record { split = canada_rule; least = omega arith; shorter = omega arith; pairs = omega arith; owed = omega arith; berth = tt; limits = (omega arith, omega arith, omega arith) }

less_keeps : (n m limit : ℕ) → n ≤ m → nat_le m limit ≡ true → nat_le n limit ≡ true
less_keeps n m limit l h = let u = upto m limit h in is_upto n limit (omega arith)

-- the limits of the two countries
pub us_monotone : IsMonotone US us_keeps
us_monotone = record {
  less = λ s t l h. (let e : ℕ = used_of Elapsed t in and_both (nat_le (used_of Elapsed s) _) (nat_le (used_of Driving s) _)
      (less_keeps (used_of Elapsed s) (used_of Elapsed t) _ l.less_elapsed (and_left (nat_le (used_of Elapsed t) _) (nat_le (used_of Driving t) _) h))
      (less_keeps (used_of Driving s) (used_of Driving t) _ l.less_driving (and_right (nat_le (used_of Elapsed t) _) (nat_le (used_of Driving t) _) h)));
  spent = λ s n h. n;
}

pub canada_monotone : IsMonotone CANADA canada_keeps
canada_monotone = record {
  less = λ s t l h. (let k = and_right (nat_le (used_of Driving t) _) (nat_le (used_of Duty t) _ && nat_le (used_of Elapsed t) _) h in
      and_both (nat_le (used_of Driving s) _) (nat_le (used_of Duty s) _ && nat_le (used_of Elapsed s) _)
      (less_keeps (used_of Driving s) (used_of Driving t) _ l.less_driving (and_left (nat_le (used_of Driving t) _) (nat_le (used_of Duty t) _ && nat_le (used_of Elapsed t) _) h))
      (and_both (nat_le (used_of Duty s) _) (nat_le (used_of Elapsed s) _)
      (less_keeps (used_of Duty s) (used_of Duty t) _ l.less_duty (and_left (nat_le (used_of Duty t) _) (nat_le (used_of Elapsed t) _) k))
      (less_keeps (used_of Elapsed s) (used_of Elapsed t) _ l.less_elapsed (and_right (nat_le (used_of Duty t) _) (nat_le (used_of Elapsed t) _) k))));
  spent = λ s n h. (
      let k = and_right (nat_le (used_of Driving (after_duty true s)) _) (nat_le (used_of Duty (after_duty true s)) _ && nat_le (used_of Elapsed (after_duty true s)) _) h in
      let d = upto (used_of Driving (after_duty true s)) _ (and_left (nat_le (used_of Driving (after_duty true s)) _) (nat_le (used_of Duty (after_duty true s)) _ && nat_le (used_of Elapsed (after_duty true s)) _) h) in
      let w = upto (used_of Duty (after_duty true s)) _ (and_left (nat_le (used_of Duty (after_duty true s)) _) (nat_le (used_of Elapsed (after_duty true s)) _) k) in
      let e = upto (used_of Elapsed (after_duty true s)) _ (and_right (nat_le (used_of Duty (after_duty true s)) _) (nat_le (used_of Elapsed (after_duty true s)) _) k) in
      elim n [ inl a ↦ omega arith | inr b ↦ elim b [ inl a ↦ omega arith | inr a ↦ omega arith ] ]);
}

-- what a schedule may hold, by the parameters
pub allows_is : (params : Params) (x : Activity) → allows params x ≡ allowed (has_berth params) x
allows_is params Drive = refl
allows_is params Serve = refl
allows_is params Wait = refl
allows_is params Off = refl
allows_is params Berth = refl

-- # Histories

-- what is used since the base, by the history
record HasBase (rule : SplitRule) (p : List Activity) (Marked : ℕ → Type 0) (used : Used) : Type 0 where
  base : ℕ
  omitted : ℕ
  is_base : IsBaseNow rule.full p Marked base omitted
  since : IsUsedSince p base omitted used

base_of_last : (rule : SplitRule) (p : List Activity) (Marked : ℕ → Type 0) (used later : Used) (w : Option WaitingRest) → HasLast rule p Marked used later w → HasBase rule p Marked used
base_of_last rule p Marked used later w h = elim h.kind [
  | inl k ↦ record {
    base = h.to;
    omitted = 0;
    is_base = inl (inl (record { from = h.from; last = h.last; rest = k.long; none = refl }));
    since = subst (IsUsedSince p h.to 0) (sym k.same) h.since;
  }
  | inr k ↦ record {
    base = k.start;
    omitted = k.rest.long;
    is_base = inl (inr (record { from = h.from; to = h.to; waits = record { last = h.last; split = k.split }; earlier = k.first; before = k.earlier; omits = k.long }));
    since = k.since;
  }
]

whole : (test : Activity → Bool) (p : List Activity) (from : ℕ) → count_by test (drop from (take (length p) p)) ≡ count_by test (drop from p)
whole test p from = ap (λ (q : List Activity). count_by test (drop from q)) (take_all (length p) p (omega arith))

-- counts from places of two histories, compared
less_used : (p q : List Activity) (a u b v : ℕ) (x y : Used) → IsUsedSince p a u x → IsUsedSince q b v y → driving p a (length p) ≤ driving q b (length q) → duty p a (length p) ≤ duty q b (length q) → elapsed a u (length p) ≤ elapsed b v (length q) → IsWithin x y
less_used p q a u b v x y h k d w e = record {
  less_driving = let s = whole drives p a in let t = whole drives q b in let m = h.drove in let n = k.drove in omega arith;
  less_duty = let s = whole works p a in let t = whole works q b in let m = h.worked in let n = k.worked in omega arith;
  less_elapsed = let m = h.passed in let n = k.passed in omega arith;
}

less_base_now : (rule : SplitRule) (p : List Activity) (Marked : ℕ → Type 0) (q : List Activity) (Other : ℕ → Type 0) (x y : Used) → HasBase rule p Marked x → HasBase rule q Other y → IsBaseBetter rule.full p Marked q Other → IsWithin x y
less_base_now rule p Marked q Other x y h k g = less_used p q h.base h.omitted k.base k.omitted x y h.since k.since
    (g.less_driving h.base h.omitted k.base k.omitted h.is_base k.is_base) (g.less_duty h.base h.omitted k.base k.omitted h.is_base k.is_base) (g.less_elapsed h.base h.omitted k.base k.omitted h.is_base k.is_base)

-- where none waits
not_waiting : (rule : SplitRule) (p : List Activity) (Marked : ℕ → Type 0) (used later : Used) (w : Option WaitingRest) → NoneWaits rule.full p Marked → HasLast rule p Marked used later w → (used ≡ later) × (w ≡ None)
not_waiting rule p Marked used later w none h = elim h.kind [ inl k ↦ (k.same, k.none) | inr k ↦ absurd (none h.from h.to (record { last = h.last; split = k.split })) ]

-- where one waits, what is used since then
since_waiting : (rule : SplitRule) (p : List Activity) (Marked : ℕ → Type 0) (used later : Used) (w : Option WaitingRest) (a b : ℕ) → IsWaiting rule.full p Marked (length p) a b → HasLast rule p Marked used later w → IsUsedSince p b 0 later
since_waiting rule p Marked used later w a b g h = subst (λ n. IsUsedSince p n 0 later) (last_declared_end rule.full p Marked (length p) h.from h.to a b h.last g.last) h.since

pair_none : (rule : SplitRule) (w : Option WaitingRest) (r : OpenRun) → w ≡ None → may_pair rule w r ≡ true
pair_none rule w r h = subst (λ v. may_pair rule v r ≡ true) (sym h) refl

wait_none : (rule : SplitRule) (r : OpenRun) (w v : Option WaitingRest) → w ≡ None → IsWaitNoWorse rule r w v
wait_none rule r w v h = subst (λ x. IsWaitNoWorse rule r x v) (sym h) tt

wait_both : (rule : SplitRule) (q : OpenRun) (w v : Option WaitingRest) (r s : WaitingRest) → w ≡ Some r → v ≡ Some s → s.long ≤ r.long → IsBerthNoWorse rule.berth r s → IsWaitNoWorse rule q w v
wait_both rule q w v r s h g l b = subst (λ x. IsWaitNoWorse rule q x v) (sym h) (subst (λ y. IsWaitNoWorse rule q (Some r) y) (sym g) (omega arith, b))

berth_both : (k : BerthRule) (p q : List Activity) (a b c d : ℕ) (r s : WaitingRest) → IsLongest p a b r.berth → IsLongest q c d s.berth → ((n : ℕ) → HoldsBerth n q c d → HoldsBerth n p a b) → IsBerthNoWorse k r s
berth_both SevenInOne p q a b c d r s h g f = let z = berth_means h (f s.berth (berth_from g (omega arith))) in omega arith
berth_both AllOfNext p q a b c d r s h g f = tt

-- a run all in the berth is the deepest
deep_all : (k : BerthRule) (r q : OpenRun) → IsOpenRun r → IsOpenRun q → q.long ≤ r.long → r.stretch ≡ r.long → IsDeep k r q
deep_all SevenInOne r q o n l e = let a = o.ends in let b = o.inside in let c = n.ends in let d = n.inside in (omega arith, omega arith)
deep_all AllOfNext r q o n l e = inl e

-- Where some declared rest has ended, the run in progress lies after the padding.
run_after : (rule : SplitRule) (pad : ℕ) (p : List Activity) (Marked : ℕ → Type 0) (a : SplitCount) → (t : Tracks rule p Marked a) → IsCounted rule p Marked t.run a → IsRest p 0 pad → max pad (length p - t.run) ≡ length p - t.run
run_after rule pad p Marked a t c front =
    let k = c.has_last in
    let l = open_after_front p pad k.from k.to t.run front (declared_run rule.full p Marked k.from k.to k.last.declared) t.ends in
    omega arith

-- in a truck with a berth the better run is then all Berth; without one nothing waits
better_run : (rule : SplitRule) (may : Bool) (pad : ℕ) (p : List Activity) (Marked : ℕ → Type 0) (q : List Activity) (a : SplitCount) → IsCountOf rule may a → (t : Tracks rule p Marked a) → IsCounted rule p Marked t.run a → IsRest p 0 pad → (berth : Bool) → (may ≡ true → berth ≡ true) →
    IsRunBetter pad berth p q → (a.run.stretch ≡ a.run.long) ⊎ ((may ≡ false) × (a.waiting ≡ None))
better_run rule may pad p Marked q a va t c front true mb g =
    let all = subst (λ n. IsBerth p n (length p)) (run_after rule pad p Marked a t c front) (g.all_berth refl t.run t.ends) in
    inl (same a.run.stretch a.run.long (all_means p t.run a.run.stretch a.run.long t.ends.there c.counted t.inside t.stretch all))
better_run rule may pad p Marked q a va t c front false mb g = let m = never_splits may false mb refl in inr (m, nothing_waits rule may a va m)

-- the split rests that wait
record IsWaitBetter (rule : SplitRule) (a b : SplitCount) : Type 0 where
  less_last : IsWithin a.last b.last
  waiting : IsWaitNoWorse rule a.run a.waiting b.waiting

better_wait : (rule : SplitRule) (p : List Activity) (Marked : ℕ → Type 0) (q : List Activity) (Other : ℕ → Type 0) (a b : SplitCount) → Tracks rule p Marked a → Tracks rule q Other b → HasLast rule p Marked a.base a.last a.waiting → HasLast rule q Other b.base b.last b.waiting → IsWithin a.base b.base →
    NoneWaits rule.full p Marked × NoneWaits rule.full q Other ⊎ BothWait rule.full p Marked q Other → IsWaitBetter rule a b
better_wait rule p Marked q Other a b t u h k l g = elim g [
  | inl n ↦
      (let x = not_waiting rule p Marked a.base a.last a.waiting n.0 h in
      let y = not_waiting rule q Other b.base b.last b.waiting n.1 k in
      record { less_last = subst (λ r. IsWithin r b.last) x.0 (subst (IsWithin a.base) y.0 l); waiting = wait_none rule a.run a.waiting b.waiting x.1 })
  | inr w ↦
      (let x = waiting rule p Marked a t w.a w.b w.waits in
      let y = waiting rule q Other b u w.c w.d w.other_waits in
      let i = x.2 in let j = y.2 in let n = w.long in
      record {
        less_last = less_used p q w.b 0 w.d 0 a.last b.last (since_waiting rule p Marked a.base a.last a.waiting w.a w.b w.waits h) (since_waiting rule q Other b.base b.last b.waiting w.c w.d w.other_waits k) w.less_driving w.less_duty (let e = w.less_elapsed in omega arith);
        waiting = wait_both rule a.run a.waiting b.waiting x.0 y.0 x.1 y.1 (omega arith) (berth_both rule.berth p q w.a w.b w.c w.d x.0 y.0 x.3 y.3 w.berth);
      })
]

better_counted : (rule : SplitRule) (may berth : Bool) (pad : ℕ) (p : List Activity) (Marked : ℕ → Type 0) (q : List Activity) (Other : ℕ → Type 0) (a b : SplitCount) → (may ≡ true → berth ≡ true) → IsCountOf rule may a → IsCountOf rule may b → (t : Tracks rule p Marked a) →
    (u : Tracks rule q Other b) → IsCounted rule p Marked t.run a → IsCounted rule q Other u.run b → IsRest p 0 pad → IsShiftBetter rule.full pad berth p Marked q Other → IsNoWorse rule may a b
better_counted rule may berth pad p Marked q Other a b mb va vb t u ca cb front g =
    let r = g.run.long t.run u.run t.ends u.ends in
    let ea = ca.counted in
    let eb = cb.counted in
    let l : b.run.long ≤ a.run.long = omega arith in
    let base = less_base_now rule p Marked q Other a.base b.base (base_of_last rule p Marked a.base a.last a.waiting ca.has_last) (base_of_last rule q Other b.base b.last b.waiting cb.has_last) g.base in
    let w = better_wait rule p Marked q Other a b t u ca.has_last cb.has_last base g.waiting in
    let run = better_run rule may pad p Marked q a va t ca front berth mb g.run in
    record {
      run = l;
      deep = elim run [ inl e ↦ inl (deep_all rule.berth a.run b.run va.is_count.is_run vb.is_count.is_run l e) | inr n ↦ inr n ];
      keeps = inr (elim run [ inl e ↦ ready_all rule.berth a.waiting a.run e | inr n ↦ ready_none rule.berth a.waiting a.run n.1 ]);
      less_base = inr base;
      less_last = inr (inr w.less_last);
      waiting = w.waiting;
    }

-- Where the run in progress, the counts since the base and the split rest that waits are plainly better, the one count covers the other. Of a history that is rest throughout the run in progress is a full rest after which nothing waits, whatever is in it.
pub better_covers : (rule : SplitRule) (may berth : Bool) (pad : ℕ) (p : List Activity) (Marked : ℕ → Type 0) (q : List Activity) (Other : ℕ → Type 0) (a b : SplitCount) → (may ≡ true → berth ≡ true) → IsCountOf rule may a → IsCountOf rule may b → Tracks rule p Marked a →
    Tracks rule q Other b → IsRest p 0 pad → IsShiftBetter rule.full pad berth p Marked q Other → Covers rule may a b
better_covers rule may berth pad p Marked q Other a b mb va vb t u front g = elim t.state [
  | inl f ↦ inl (record { long = f.counted; pair = pair_none rule a.waiting a.run f.free })
  | inr ca ↦ elim u.state [
    | inl f ↦ (let r = g.run.long t.run u.run t.ends u.ends in let e = ca.counted in let l = f.long in inl (record {
      long = omega arith;
      pair = pair_none rule a.waiting a.run (elim g.waiting [
        | inl n ↦ (not_waiting rule p Marked a.base a.last a.waiting n.0 ca.has_last).1
        | inr w ↦ absurd (f.none w.c w.d (inr w.other_waits.split))
      ]);
    }))
    | inr cb ↦ inr (inl (better_counted rule may berth pad p Marked q Other a b mb va vb t u ca cb front g))
  ]
]

-- # The run in progress and the berth

-- Where some declared rest has ended, the run in progress is all Berth exactly where its two numbers are one.
pub berth_exact : (rule : SplitRule) (p : List Activity) (Marked : ℕ → Type 0) (s : SplitCount) → (t : Tracks rule p Marked s) → IsCounted rule p Marked t.run s → (s.run.stretch ≡ s.run.long) ↔ IsBerth p (length p - t.run) (length p)
berth_exact rule p Marked s t c = (
  (λ e. all_from p t.run s.run.stretch s.run.long c.counted t.stretch (is_same s.run.stretch s.run.long e)),
  (λ h. same s.run.stretch s.run.long (all_means p t.run s.run.stretch s.run.long t.ends.there c.counted t.inside t.stretch h)),
)
