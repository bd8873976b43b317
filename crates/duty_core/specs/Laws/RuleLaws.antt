-- What the rules that are asked at a place look at: nothing after that place, and rest is asked nothing.
use Rattle.std.proofs.Common.{◌≡◌, ℕ, ◌+◌, ◌<◌, ◌≤◌, true, false, List, drop, sym, ◌∙◌, ap, subst, arith}
use Rattle.std.specs.Prelude.{Bool, count_by}
use Rattle.duty_core.specs.declared.activity.Activity.{Activity}
use Rattle.duty_core.specs.declared.activity.Activity.TheVariants.{Drive}
use Rattle.duty_core.specs.declared.limits.TheConstants.{US_DRIVING_LIMIT}
use Rattle.duty_core.specs.Activity.{rests, drives, works}
use Rattle.duty_core.specs.History.{unit_at, between}
use Rattle.duty_core.specs.Laws.HistoryLaws.{AreAlike, alike_back, IsRule}
use Rattle.duty_core.specs.Laws.RunLaws.{long_alike}
use Rattle.duty_core.specs.Laws.MarkedAlikeLaws.{one_marking, base_marked}
use Rattle.duty_core.specs.Counting.{IsLastEnd, CountsInDays, IsDaysBase}
use Rattle.duty_core.specs.Base.{IsBase}
use Rattle.duty_core.specs.UsRules.{MeetsUsWindow14, MeetsUsDrive11, IsBreak, IsLastBreak, MeetsUsBreak8, MeetsUsWeek}
use Rattle.duty_core.specs.CaDay.{MeetsCaDay13, MeetsCaDay14}
use Rattle.duty_core.specs.CaShift.{MeetsCaShift13, MeetsCaShift14, MeetsCaElapsed16}
use Rattle.duty_core.specs.CaCycle.{MeetsCa24in14, MeetsCaCycle, MeetsCa70without24}

-- # The base, and what is counted

pub base_alike : {full : ℕ} {p q : List Activity} {n : ℕ} {Marked : ℕ → Type 0} {i base omitted : ℕ} → AreAlike p q n → i < n → IsBase full p Marked i base omitted → IsBase full q Marked i base omitted
base_alike {Marked = Marked} g l h = base_marked (one_marking Marked g) l h

pub last_end_alike : {least : ℕ} {p q : List Activity} {n i to : ℕ} → AreAlike p q n → i < n → IsLastEnd least p i to → IsLastEnd least q i to
last_end_alike g l h = let z = h.before in record {
  from = h.from;
  rest = long_alike g (omega arith) h.rest;
  before = z;
  last = λ a b e y. h.last a b (long_alike (alike_back g) (omega arith) e) y;
}

pub counts_alike : {day : ℕ → ℕ} {days restart : ℕ} {p q : List Activity} {n i k : ℕ} → AreAlike p q n → i < n → CountsInDays day days restart p i k → CountsInDays day days restart q i k
counts_alike g l h = record {
  before = h.before;
  inside = h.inside;
  after = λ a b e y. h.after a b (long_alike (alike_back g) (omega arith) e) y;
}

pub days_base_alike : {day : ℕ → ℕ} {days restart : ℕ} {p q : List Activity} {n i from : ℕ} → AreAlike p q n → i < n → IsDaysBase day days restart p i from → IsDaysBase day days restart q i from
days_base_alike g l h = record {
  counts = counts_alike g l h.counts;
  first = λ k c. h.first k (counts_alike (alike_back g) l c);
}

pub break_alike : {p q : List Activity} {n to : ℕ} → AreAlike p q n → to < n → IsBreak p to → IsBreak q to
break_alike g l h = record {
  there = h.there;
  still = λ k x y. sym (ap drives (g.units k (omega arith))) ∙ h.still k x y;
}

pub last_break_alike : {p q : List Activity} {n i to : ℕ} → AreAlike p q n → i < n → IsLastBreak p i to → IsLastBreak q i to
last_break_alike g l h = let z = h.before in record {
  ends = break_alike g (omega arith) h.ends;
  before = z;
  last = λ b e y. h.last b (break_alike (alike_back g) (omega arith) e) y;
}

-- # Rules

-- rest is not driving
no_driving : (p : List Activity) (i : ℕ) → rests (unit_at p i) ≡ true → unit_at p i ≡ Drive → ⊥
no_driving p i r d = let z : true ≡ false = sym r ∙ ap rests d in cc

-- a count up to a place looks at nothing after it
count_alike : (test : Activity → Bool) (p q : List Activity) (n i from limit : ℕ) → AreAlike p q n → i < n → count_by test (between p from (i + 1)) ≤ limit → count_by test (between q from (i + 1)) ≤ limit
count_alike test p q n i from limit g l h = subst (λ (u : List Activity). count_by test (drop from u) ≤ limit) (g.fronts (i + 1) (omega arith)) h

pub us_window14_is_rule : (Marked : ℕ → Type 0) → IsRule (λ p i. MeetsUsWindow14 p Marked i)
us_window14_is_rule Marked = record {
  local = λ p q n i g l h d base omitted b. h (g.units i l ∙ d) base omitted (base_alike (alike_back g) l b);
  idle = λ p i r d. absurd (no_driving p i r d);
}

pub us_drive11_is_rule : (Marked : ℕ → Type 0) → IsRule (λ p i. MeetsUsDrive11 p Marked i)
us_drive11_is_rule Marked = record {
  local = λ p q n i g l h d base omitted b. count_alike drives p q n i base US_DRIVING_LIMIT g l (h (g.units i l ∙ d) base omitted (base_alike (alike_back g) l b));
  idle = λ p i r d. absurd (no_driving p i r d);
}

pub us_break8_is_rule : IsRule MeetsUsBreak8
us_break8_is_rule = record {
  local = λ p q n i g l h d to b. count_alike drives p q n i to _ g l (h (g.units i l ∙ d) to (last_break_alike (alike_back g) l b));
  idle = λ p i r d. absurd (no_driving p i r d);
}

pub us_week_is_rule : (days : ℕ) (day : ℕ → ℕ) → IsRule (MeetsUsWeek days day)
us_week_is_rule days day = record {
  local = λ p q n i g l h d from b. count_alike works p q n i from _ g l (h (g.units i l ∙ d) from (days_base_alike (alike_back g) l b));
  idle = λ p i r d. absurd (no_driving p i r d);
}

pub ca_day13_is_rule : (day : ℕ → ℕ) → IsRule (MeetsCaDay13 day)
ca_day13_is_rule day = record {
  local = λ p q n i g l h d from b. count_alike drives p q n i from _ g l (h (g.units i l ∙ d) from b);
  idle = λ p i r d. absurd (no_driving p i r d);
}

pub ca_day14_is_rule : (day : ℕ → ℕ) → IsRule (MeetsCaDay14 day)
ca_day14_is_rule day = record {
  local = λ p q n i g l h d from b. count_alike works p q n i from _ g l (h (g.units i l ∙ d) from b);
  idle = λ p i r d. absurd (no_driving p i r d);
}

pub ca_shift13_is_rule : (Marked : ℕ → Type 0) → IsRule (λ p i. MeetsCaShift13 p Marked i)
ca_shift13_is_rule Marked = record {
  local = λ p q n i g l h d base omitted b. count_alike drives p q n i base _ g l (h (g.units i l ∙ d) base omitted (base_alike (alike_back g) l b));
  idle = λ p i r d. absurd (no_driving p i r d);
}

pub ca_shift14_is_rule : (Marked : ℕ → Type 0) → IsRule (λ p i. MeetsCaShift14 p Marked i)
ca_shift14_is_rule Marked = record {
  local = λ p q n i g l h d base omitted b. count_alike works p q n i base _ g l (h (g.units i l ∙ d) base omitted (base_alike (alike_back g) l b));
  idle = λ p i r d. absurd (no_driving p i r d);
}

pub ca_elapsed16_is_rule : (Marked : ℕ → Type 0) → IsRule (λ p i. MeetsCaElapsed16 p Marked i)
ca_elapsed16_is_rule Marked = record {
  local = λ p q n i g l h d base omitted b. h (g.units i l ∙ d) base omitted (base_alike (alike_back g) l b);
  idle = λ p i r d. absurd (no_driving p i r d);
}

pub ca_24in14_is_rule : IsRule MeetsCa24in14
ca_24in14_is_rule = record {
  local = λ p q n i g l h d.
      let r = h (g.units i l ∙ d) in
      let z = r.before in
      record { at = r.at; after = r.after; before = z; rest = λ k x y. sym (ap rests (g.units k (omega arith))) ∙ r.rest k x y };
  idle = λ p i r d. absurd (no_driving p i r d);
}

pub ca_cycle_is_rule : (cycle : ℕ) (day : ℕ → ℕ) → IsRule (MeetsCaCycle cycle day)
ca_cycle_is_rule cycle day = record {
  local = λ p q n i g l h d from b. count_alike works p q n i from _ g l (h (g.units i l ∙ d) from (days_base_alike (alike_back g) l b));
  idle = λ p i r d. absurd (no_driving p i r d);
}

pub ca_70without24_is_rule : (cycle : ℕ) → IsRule (MeetsCa70without24 cycle)
ca_70without24_is_rule cycle = record {
  local = λ p q n i g l h c d from b. count_alike works p q n i from _ g l (h c (g.units i l ∙ d) from (last_end_alike (alike_back g) l b));
  idle = λ p i r c d. absurd (no_driving p i r d);
}
