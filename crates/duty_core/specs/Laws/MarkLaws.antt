-- What the marks of a lawful history may name, and that under the way `defer` it has one list of them.
use Rattle.std.proofs.Common.{◌≡◌, ◌↔◌, ℕ, ◌<◌, ◌≤◌, Bool, true, List, [], subst, arith, inl, inr}
use Rattle.std.specs.Prelude.{ℤ, Contains}
use Rattle.std.proofs.lemmas.Int.{ints}
use Rattle.duty_core.specs.declared.activity.Activity.{Activity}
use Rattle.duty_core.specs.declared.mark.Mark.{Mark}
use Rattle.duty_core.specs.declared.mark.Mark.TheVariants.{SplitRest, DeferDay}
use Rattle.duty_core.specs.declared.params.Params.{Params}
use Rattle.duty_core.specs.declared.params.Params.TheVariants.{UsProperty, Canada, Hvnl}
use Rattle.duty_core.specs.declared.params.RestWay.{RestWay}
use Rattle.duty_core.specs.declared.limits.TheConstants.{US_FULL_REST, CA_FULL_REST, CA_LOST_LIMIT}
use Rattle.duty_core.specs.Params.{has_berth}
use Rattle.duty_core.specs.History.{padded}
use Rattle.duty_core.specs.RestRun.{IsLongRun}
use Rattle.duty_core.specs.Day.{day_number, IsNumberOfDay}
use Rattle.duty_core.specs.Marks.{IsMinuteOf}
use Rattle.duty_core.specs.DeclaredRest.{IsSplitRest, IsSplittable}
use Rattle.duty_core.specs.LostMinutes.{lost}
use Rattle.duty_core.specs.Deferral.{IsDeferWay}
use Rattle.duty_core.specs.MarkMeaning.{NamesRun, IsLostDay}
use Rattle.duty_core.specs.RuleBooks.{KeepsAll}
use Rattle.duty_core.specs.Laws.MarkListLaws.{marks_in_order, same_marks}
use Rattle.duty_core.specs.Laws.FrontLaws.{run_end, minute_place, day_has_number}
use Rattle.duty_core.specs.Laws.BookFacts.{us_pairs, ca_pairs, are_true}

-- # What a mark of a lawful history names

-- a mark of a rest names a run that has ended
pub split_names_run : (params : Params) (first : ℕ) (h : List Activity) (marks : List Mark) (at : ℕ) → KeepsAll params first h marks → Contains marks (SplitRest at) → NamesRun params first (padded params h) at
split_names_run params first h marks at k c = (are_true params first h marks k).stands (SplitRest at) c

-- a mark of a day names one that loses too many minutes
pub deferral_names_day : (params : Params) (first : ℕ) (h : List Activity) (marks : List Mark) (date : ℤ) → KeepsAll params first h marks → Contains marks (DeferDay date) → IsLostDay (day_number params first) (padded params h) date
deferral_names_day params first h marks date k c = (are_true params first h marks k).stands (DeferDay date) c

-- Australia takes no marks
pub au_unmarked : (first : ℕ) (h : List Activity) (marks : List Mark) → KeepsAll Hvnl first h marks → marks ≡ []
au_unmarked first h marks k = k.marks_of_book

-- a rest is split in a truck with a berth
pub split_has_berth : (params : Params) (first : ℕ) (h : List Activity) (marks : List Mark) (at : ℕ) → KeepsAll params first h marks → Contains marks (SplitRest at) → has_berth params ≡ true
split_has_berth params first h marks at k c = (are_true params first h marks k).split_berth at c

-- under the way `defer` no rest is split
pub defer_has_no_split : (params : Params) (first : ℕ) (h : List Activity) (marks : List Mark) (at : ℕ) → IsDeferWay params → KeepsAll params first h marks → Contains marks (SplitRest at) → ⊥
defer_has_no_split params first h marks at d k c = (are_true params first h marks k).split_way at c d

-- a day is deferred under the way `defer` alone
pub deferral_has_way : (params : Params) (first : ℕ) (h : List Activity) (marks : List Mark) (date : ℤ) → KeepsAll params first h marks → Contains marks (DeferDay date) → IsDeferWay params
deferral_has_way params first h marks date k c = (are_true params first h marks k).defer_way date c

-- # A run of full length

-- no run is both split and full
pub split_not_full : (full : ℕ) (p : List Activity) (Marked : ℕ → Type 0) (from to end : ℕ) → IsSplitRest full p Marked from to → IsLongRun full p from end → ⊥
split_not_full full p Marked from to end s l =
    let e : to ≡ end = run_end p from to end s.run l.run in
    let a = s.short in
    let b = l.long in
    absurd (omega arith)

not_splittable : (least full : ℕ) (berth : Bool) (p : List Activity) (from to : ℕ) → IsSplittable least full berth p from → IsLongRun full p from to → ⊥
not_splittable least full berth p from to s l =
    let e : s.to ≡ to = run_end p from s.to to s.run l.run in
    let a = s.short in
    let b = l.long in
    absurd (omega arith)

-- a mark of a lawful history names no full rest of the United States
pub us_split_not_full : (berth : Bool) (days start first : ℕ) (h : List Activity) (marks : List Mark) (at from to : ℕ) → KeepsAll (UsProperty berth days start) first h marks → Contains marks (SplitRest at) →
    IsMinuteOf (UsProperty berth days start) first at from → IsLongRun US_FULL_REST (padded (UsProperty berth days start) h) from to → ⊥
us_split_not_full berth days start first h marks at from to k c m l =
    let params : Params = UsProperty berth days start in
    let s = (us_pairs berth days start first h marks k).splits at c in
    let e : from ≡ s.from = minute_place params first at from s.from m s.minute in
    not_splittable _ US_FULL_REST berth (padded params h) s.from to s.run (subst (λ x. IsLongRun US_FULL_REST (padded params h) x to) e l)

-- and none of Canada
pub ca_split_not_full : (berth : Bool) (way : RestWay) (cycle start first : ℕ) (h : List Activity) (marks : List Mark) (at from to : ℕ) → KeepsAll (Canada berth way cycle start) first h marks → Contains marks (SplitRest at) →
    IsMinuteOf (Canada berth way cycle start) first at from → IsLongRun CA_FULL_REST (padded (Canada berth way cycle start) h) from to → ⊥
ca_split_not_full berth way cycle start first h marks at from to k c m l =
    let params : Params = Canada berth way cycle start in
    let s = (ca_pairs berth way cycle start first h marks k).splits at c in
    let e : from ≡ s.from = minute_place params first at from s.from m s.minute in
    not_splittable _ CA_FULL_REST berth (padded params h) s.from to s.run (subst (λ x. IsLongRun CA_FULL_REST (padded params h) x to) e l)

-- # One list of marks under the way `defer`

-- two days of one number are one
number_has_day : (date other : ℤ) (n : ℕ) → IsNumberOfDay date n → IsNumberOfDay other n → date ≡ other
number_has_day date other n h g = omega (arith, ints)

-- under the way `defer` the marked days are those that lose too many minutes: such a day follows no marked day
pub lost_is_marked : (params : Params) (first : ℕ) (h : List Activity) (marks : List Mark) (date : ℤ) → IsDeferWay params → KeepsAll params first h marks →
    IsLostDay (day_number params first) (padded params h) date → Contains marks (DeferDay date)
lost_is_marked params first h marks date way k l =
    let p : List Activity = padded params h in
    let t = are_true params first h marks k in
    let least : CA_LOST_LIMIT < lost (day_number params first) p l.number = l.least in
    elim (t.deferred way l.number) [
      | inr m ↦ absurd (omega arith)
      | inl d ↦ elim d [
        | inl m ↦ subst (λ x. Contains marks (DeferDay x)) (number_has_day m.day date l.number m.numbered l.numbered) m.marked
        | inr m ↦ absurd (
            let a : lost (day_number params first) p l.number ≤ CA_LOST_LIMIT =
            subst (λ x. lost (day_number params first) p x ≤ CA_LOST_LIMIT) m.1 (t.next_day m.0 m.2) in
            omega arith)
      ]
    ]

-- and they are known by their numbers
pub defer_days : (params : Params) (first : ℕ) (h : List Activity) (marks : List Mark) → IsDeferWay params → KeepsAll params first h marks → (date : ℤ) (number : ℕ) → IsNumberOfDay date number →
    Contains marks (DeferDay date) ↔ (CA_LOST_LIMIT < lost (day_number params first) (padded params h) number)
defer_days params first h marks d k date number e = (
  (λ c.
      let l = deferral_names_day params first h marks date k c in
      subst (λ n. CA_LOST_LIMIT < lost (day_number params first) (padded params h) n) (day_has_number date l.number number l.numbered e) l.least),
  (λ l. lost_is_marked params first h marks date d k (record { number = number; numbered = e; least = l })),
)

-- so a mark of one list is one of another
defer_member : (params : Params) (first : ℕ) (h : List Activity) (marks others : List Mark) → IsDeferWay params → KeepsAll params first h marks → KeepsAll params first h others →
    (m : Mark) → Contains marks m → Contains others m
defer_member params first h marks others d k o (SplitRest at) c = absurd (defer_has_no_split params first h marks at d k c)
defer_member params first h marks others d k o (DeferDay date) c = lost_is_marked params first h others date d o (deferral_names_day params first h marks date k c)

pub defer_one_list : (params : Params) (first : ℕ) (h : List Activity) (marks others : List Mark) → IsDeferWay params → KeepsAll params first h marks → KeepsAll params first h others → marks ≡ others
defer_one_list params first h marks others d k o =
    same_marks params marks others (marks_in_order params marks k.marks_of_book) (marks_in_order params others o.marks_of_book)
    (defer_member params first h marks others d k o)
    (defer_member params first h others marks d o k)
