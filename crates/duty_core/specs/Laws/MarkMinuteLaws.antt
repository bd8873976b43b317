-- The minutes of the marks of a lawful history: none stands earlier than the padding and a day before its beginning, and each stands before the padding that follows it ends.
use Rattle.std.proofs.Common.{◌≡◌, ℕ, zero, suc, ◌+◌, ◌-◌, ◌*◌, ◌/◌, ◌<◌, ◌≤◌, Bool, true, false, cond, ◌&&◌, ℤ, pos, ◌+ℤ◌, ◌-ℤ◌, List, length, refl, ap, subst, arith}
use Rattle.std.specs.Prelude.{Contains, nat_eq}
use Rattle.std.proofs.lemmas.Bool.{and_parts, eqb-true}
use Rattle.std.proofs.lemmas.Int.{ints}
use Rattle.duty_core.specs.declared.activity.Activity.{Activity}
use Rattle.duty_core.specs.declared.mark.Mark.{Mark}
use Rattle.duty_core.specs.declared.mark.Mark.TheVariants.{SplitRest, DeferDay}
use Rattle.duty_core.specs.declared.params.Params.{Params}
use Rattle.duty_core.specs.declared.limits.TheConstants.{CA_LOST_LIMIT, DAY_MINUTES, PADDING_DAYS, PADDING_MINUTES}
use Rattle.duty_core.specs.Params.{InMinutes, minutes_in, units_in_day, terms_of, unit_minutes, AreGoodParams}
use Rattle.duty_core.specs.History.{pad_days, pad_units, padded}
use Rattle.duty_core.specs.Day.{day_start, day_number}
use Rattle.duty_core.specs.Counting.{places}
use Rattle.duty_core.specs.LostMinutes.{is_lost, lost}
use Rattle.duty_core.specs.Marks.{mark_minute}
use Rattle.duty_core.specs.MarkMeaning.{StandsIn}
use Rattle.duty_core.specs.Lawful.{IsLawfulWith}
use Rattle.duty_core.specs.Laws.HistoryLaws.{length-padded}
use Rattle.duty_core.specs.Laws.RunLaws.{run_inside}
use Rattle.duty_core.specs.Laws.BookFacts.{starts_in_day, marked_in_minutes, are_true}

-- The mark stands at a minute from lo on and before hi.
pub record StandsBetween (params : Params) (lo hi : ℕ) (mark : Mark) : Type 0 where
  pub at : ℕ
  pub minute : pos at ≡ mark_minute params mark
  pub low : lo ≤ at
  pub high : at < hi

-- some place passes, where any are counted
place_of : (test : ℕ → Bool) (n : ℕ) → 0 < places test n → (i : ℕ) × (i < n) × (test i ≡ true)
place_of test zero some = absurd (omega arith)
place_of test (suc n) some = go (place_of test n) (test n) refl some
  where
    go : (0 < places test n → (i : ℕ) × (i < n) × (test i ≡ true)) → (t : Bool) → test n ≡ t → 0 < places test n + cond t 1 0 → (i : ℕ) × (i < suc n) × (test i ≡ true)
    go before true is some = (n, omega arith, is)
    go before false is some = let p = before (omega (arith, some)) in (p.0, omega (arith, p.1), p.2)

-- a day that loses minutes has a place
day_place : (params : Params) (first : ℕ) (p : List Activity) (number : ℕ) → CA_LOST_LIMIT < lost (day_number params first) p number → (i : ℕ) × (i < length p) × (day_number params first i ≡ number)
day_place params first p number least =
    let i = place_of (λ i. nat_eq (day_number params first i) number && is_lost p i) (length p) (omega (arith, least)) in
    let same = (and_parts (nat_eq (day_number params first i.0) number) (is_lost p i.0) i.2).0 in
    (i.0, i.1, eqb-true _ _ same)

-- a mark of a rest run, by the place where the run begins
split_stands : (params : Params) (first n at from pads : ℕ) → PADDING_MINUTES + DAY_MINUTES ≤ first → pads ≡ PADDING_MINUTES → from < 2 * pads + n → pos at ≡ pos (first + 1 * from) -ℤ pos (1 * pads)
    → StandsBetween params (first - (PADDING_MINUTES + DAY_MINUTES)) (first + n + PADDING_MINUTES) (SplitRest at)
split_stands params first n at from pads low long inside minute = record {
  at = at;
  minute = refl;
  low = omega (arith, ints, minute, low, long, inside);
  high = omega (arith, ints, minute, low, long, inside);
}

-- a mark of a day, by a place of the day
defer_stands : (params : Params) (first n i number pads : ℕ) (date : ℤ) → day_start params < DAY_MINUTES → PADDING_MINUTES + DAY_MINUTES ≤ first → pads ≡ PADDING_MINUTES → i < 2 * pads + n → date +ℤ pos (PADDING_DAYS + 1) ≡ pos number
    → (first + 1 * i + (DAY_MINUTES - day_start params)) / DAY_MINUTES ≡ number → StandsBetween params (first - (PADDING_MINUTES + DAY_MINUTES)) (first + n + PADDING_MINUTES) (DeferDay date)
defer_stands params first n i number pads date begins low long inside numbered day = record {
  at = number * DAY_MINUTES + day_start params - (PADDING_MINUTES + DAY_MINUTES);
  minute = omega (arith, ints, begins, low, numbered, day);
  low = omega (arith, begins, low, day);
  high = omega (arith, begins, low, long, inside, day);
}

-- a mark of a book whose units are minutes
minutes_stand : (params : Params) (first : ℕ) (h : List Activity) (mark : Mark) → unit_minutes params ≡ 1 → pad_units params ≡ PADDING_MINUTES → day_start params < DAY_MINUTES → PADDING_MINUTES + DAY_MINUTES ≤ first →
    StandsIn params first (padded params h) mark → StandsBetween params (first - (PADDING_MINUTES + DAY_MINUTES)) (first + length h + PADDING_MINUTES) mark
unfolding pad_days
minutes_stand params first h (SplitRest at) one pads begins low s =
    let inside = run_inside (padded params h) s.from s.to s.run in
    let some = s.run.some in
    let long = length-padded params h in
    let minute : pos at ≡ pos (first + 1 * s.from) -ℤ pos (1 * pad_units params) = subst (λ u. pos at ≡ pos (first + u * s.from) -ℤ pos (u * pad_units params)) one s.minute in
    split_stands params first (length h) at s.from (pad_units params) low pads (omega (arith, inside, some, long)) minute
minutes_stand params first h (DeferDay date) one pads begins low s =
    let i = day_place params first (padded params h) s.number s.least in
    let inside = i.1 in
    let long = length-padded params h in
    let day : (first + 1 * i.0 + (DAY_MINUTES - day_start params)) / DAY_MINUTES ≡ s.number = subst (λ u. (first + u * i.0 + (DAY_MINUTES - day_start params)) / DAY_MINUTES ≡ s.number) one i.2 in
    defer_stands params first (length h) i.0 s.number (pad_units params) date begins low pads (omega (arith, inside, long)) s.numbered day

-- each mark of a lawful history, which begins late enough
pub lawful_marks_stand : (params : Params) (first : ℕ) (h : List Activity) (marks : List Mark) → AreGoodParams params → PADDING_MINUTES + DAY_MINUTES ≤ first → IsLawfulWith params first h marks →
    (m : Mark) → Contains marks m → StandsBetween params (first - (PADDING_MINUTES + DAY_MINUTES)) (first + length h + PADDING_MINUTES) m
unfolding pad_days
lawful_marks_stand params first h marks good low lawful m c =
    let e : (terms_of params).unit ≡ InMinutes = marked_in_minutes params marks m lawful.marks_of_book c in
    minutes_stand params first h m (ap minutes_in e) (ap (λ u. pad_days * units_in_day u) e) (starts_in_day params good) low ((are_true params first h marks lawful).stands m c)
