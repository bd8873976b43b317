-- The rules of the United States and of Canada: their pairs and split rests are those of the two rules here.
use Rattle.std.proofs.Common.{◌≡◌, ◌↔◌, ℕ, Bool, true, false, List, Some, refl, arith}
use Rattle.std.specs.Prelude.{nat_le, ◌&&◌}
use Rattle.duty_core.specs.declared.activity.Activity.{Activity}
use Rattle.duty_core.specs.declared.params.Params.{Params}
use Rattle.duty_core.specs.declared.params.Params.TheVariants.{Canada}
use Rattle.duty_core.specs.declared.params.RestWay.{RestWay}
use Rattle.duty_core.specs.declared.params.RestWay.TheVariants.{Split, Defer}
use Rattle.duty_core.specs.declared.limits.TheConstants.{US_FULL_REST, US_SPLIT_LEAST, US_WINDOW_LIMIT, US_DRIVING_LIMIT, CA_FULL_REST, CA_SPLIT_LEAST, CA_SHIFT_DRIVING_LIMIT, CA_SHIFT_DUTY_LIMIT, CA_ELAPSED_LIMIT}
use Rattle.duty_core.specs.Params.{has_berth}
use Rattle.duty_core.specs.Stretch.{IsBerth}
use Rattle.duty_core.specs.DeclaredRest.{ArePairedAt, IsSplittable}
use Rattle.duty_core.specs.UsRules.{IsUsPair, MeetsUsWindow14, MeetsUsDrive11}
use Rattle.duty_core.specs.CaShift.{IsCaPair, IsSplitWay, MeetsCaShift13, MeetsCaShift14, MeetsCaElapsed16}
use Rattle.sleeper_split.specs.declared.rule.TheConstants.SplitRule.{US, CANADA}
use Rattle.sleeper_split.specs.declared.count.Since.TheVariants.{Driving, Duty, Elapsed}
use Rattle.sleeper_split.specs.Machine.{used_of}
use Rattle.sleeper_split.specs.Laws.Limits.{elapsed_limit, driving_limit, duty_limit, both_limits}
use Rattle.sleeper_split.specs.Exact.{IsSplitRule, IsPairOf, MaySplit}
use Rattle.sleeper_split.specs.Laws.Exact.{IsLimit}
use Rattle.sleeper_split.specs.Ways.{is_split_way}

pub us_rule : IsSplitRule US
us_rule = record { some = omega arith; padded = omega arith }

pub canada_rule : IsSplitRule CANADA
canada_rule = record { some = omega arith; padded = omega arith }

-- # Pairs

pub us_pair : (p : List Activity) (a b c d : ℕ) → IsPairOf US p a b c d ↔ IsUsPair p a b c d
us_pair p a b c d = ((λ h. record { sum = h.sum; berth = h.berth }), (λ h. record { sum = h.sum; berth = h.berth }))

pub canada_pair : (p : List Activity) (a b c d : ℕ) → IsPairOf CANADA p a b c d ↔ IsCaPair p a b c d
canada_pair p a b c d = ((λ h. record { sum = h.sum; berth = h.berth }), (λ h. record { sum = h.sum; berth = h.berth }))

pub us_paired : (p : List Activity) (Marked : ℕ → Type 0) (d : ℕ) → ArePairedAt US_FULL_REST (IsPairOf US p) p Marked d ↔ ArePairedAt US_FULL_REST (IsUsPair p) p Marked d
us_paired p Marked d = ((λ h a b c s n. (us_pair p a b c d).0 (h a b c s n)), (λ h a b c s n. (us_pair p a b c d).1 (h a b c s n)))

pub canada_paired : (p : List Activity) (Marked : ℕ → Type 0) (d : ℕ) → ArePairedAt CA_FULL_REST (IsPairOf CANADA p) p Marked d ↔ ArePairedAt CA_FULL_REST (IsCaPair p) p Marked d
canada_paired p Marked d = ((λ h a b c s n. (canada_pair p a b c d).0 (h a b c s n)), (λ h a b c s n. (canada_pair p a b c d).1 (h a b c s n)))

-- # Split rests

pub us_may_split : (berth : Bool) (p : List Activity) (from : ℕ) → MaySplit US berth p from ↔ IsSplittable US_SPLIT_LEAST US_FULL_REST berth p from
us_may_split berth p from = ((λ h. h.run), (λ h. record { run = h; berth = tt }))

-- what may be a split rest in Canada
pub record IsCaSplittable (params : Params) (p : List Activity) (from : ℕ) : Type 0 where
  pub run : IsSplittable CA_SPLIT_LEAST CA_FULL_REST (has_berth params) p from
  pub berth : IsBerth p from run.to
  pub split_way : IsSplitWay params

way_means : (way : RestWay) → is_split_way way ≡ true → Some way ≡ Some Split
way_means Split h = refl
way_means Defer h = absurd (let z : false ≡ true = h in cc)

way_from : (way : RestWay) → Some way ≡ Some Split → is_split_way way ≡ true
way_from Split h = refl
way_from Defer h = absurd (let z : Some Defer ≡ Some Split = h in cc)

both_left : (a b : Bool) → (a && b) ≡ true → a ≡ true
both_left true b h = refl
both_left false b h = h

both_right : (a b : Bool) → (a && b) ≡ true → b ≡ true
both_right true b h = h
both_right false b h = absurd (let z : false ≡ true = h in cc)

both : (a b : Bool) → a ≡ true → b ≡ true → (a && b) ≡ true
both a b h k = rw h k

pub canada_may_split : (berth : Bool) (way : RestWay) (cycle start : ℕ) (p : List Activity) (from : ℕ) → MaySplit CANADA (berth && is_split_way way) p from ↔ IsCaSplittable (Canada berth way cycle start) p from
canada_may_split berth way cycle start p from = (
  (λ h. record {
    run = record { to = h.run.to; run = h.run.run; long = h.run.long; short = h.run.short; berthed = both_left berth (is_split_way way) h.run.berthed };
    berth = h.berth;
    split_way = way_means way (both_right berth (is_split_way way) h.run.berthed);
  }),
  (λ h. record {
    run = record { to = h.run.to; run = h.run.run; long = h.run.long; short = h.run.short; berthed = both berth (is_split_way way) h.run.berthed (way_from way h.split_way) };
    berth = h.berth;
  }),
)

-- # Limits

-- the window and the driving of the United States
pub us_limit : IsLimit US (λ s. nat_le (used_of Elapsed s) US_WINDOW_LIMIT && nat_le (used_of Driving s) US_DRIVING_LIMIT) (λ p Marked i. MeetsUsWindow14 p Marked i × MeetsUsDrive11 p Marked i)
us_limit = both_limits US (λ s. nat_le (used_of Elapsed s) US_WINDOW_LIMIT) (λ s. nat_le (used_of Driving s) US_DRIVING_LIMIT) MeetsUsWindow14 MeetsUsDrive11 (elapsed_limit US US_WINDOW_LIMIT us_rule) (driving_limit US US_DRIVING_LIMIT us_rule)

-- driving, duty and the elapsed time of a shift in Canada
pub canada_limit : IsLimit CANADA (λ s. nat_le (used_of Driving s) CA_SHIFT_DRIVING_LIMIT && (nat_le (used_of Duty s) CA_SHIFT_DUTY_LIMIT && nat_le (used_of Elapsed s) CA_ELAPSED_LIMIT))
    (λ p Marked i. MeetsCaShift13 p Marked i × (MeetsCaShift14 p Marked i × MeetsCaElapsed16 p Marked i))
canada_limit =
    both_limits CANADA (λ s. nat_le (used_of Driving s) CA_SHIFT_DRIVING_LIMIT) (λ s. nat_le (used_of Duty s) CA_SHIFT_DUTY_LIMIT && nat_le (used_of Elapsed s) CA_ELAPSED_LIMIT) MeetsCaShift13 (λ p Marked i. MeetsCaShift14 p Marked i × MeetsCaElapsed16 p Marked i)
    (driving_limit CANADA CA_SHIFT_DRIVING_LIMIT canada_rule)
    (both_limits CANADA (λ s. nat_le (used_of Duty s) CA_SHIFT_DUTY_LIMIT) (λ s. nat_le (used_of Elapsed s) CA_ELAPSED_LIMIT) MeetsCaShift14 MeetsCaElapsed16 (duty_limit CANADA CA_SHIFT_DUTY_LIMIT canada_rule) (elapsed_limit CANADA CA_ELAPSED_LIMIT canada_rule))
