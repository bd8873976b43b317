-- The days take a history with these marks exactly where it keeps the daily rest of its way, rest before and after it.
use Rattle.std.proofs.Common.{◌≡◌, ◌↔◌, ℕ, ◌+◌, ◌-◌, ◌<◌, ◌≤◌, true, false, ◌&&◌, List, [], ◌∷◌, ◌++◌, length, refl, sym, ◌∙◌, ap, subst, arith, append_assoc, inl, inr}
use Rattle.std.specs.Prelude.{nat_eq, ℤ, Option, Some, Contains}
use Rattle.std.specs.Option.{option_to_list}
use Rattle.std.proofs.lemmas.Bool.{cases_lt}
use Rattle.std.proofs.lemmas.Int.{ints}
use Rattle.std.proofs.lemmas.List.{length-replicate}
use Rattle.duty_core.specs.declared.activity.Activity.{Activity}
use Rattle.duty_core.specs.declared.activity.Activity.TheVariants.{Off}
use Rattle.duty_core.specs.declared.mark.Mark.{Mark}
use Rattle.duty_core.specs.declared.mark.Mark.TheVariants.{DeferDay}
use Rattle.duty_core.specs.declared.params.Params.{Params}
use Rattle.duty_core.specs.declared.params.RestWay.{RestWay}
use Rattle.duty_core.specs.declared.params.RestWay.TheVariants.{Split, Defer}
use Rattle.duty_core.specs.declared.limits.TheConstants.{DAY_MINUTES, CA_LOST_LIMIT}
use Rattle.duty_core.specs.Activity.{rests}
use Rattle.duty_core.specs.History.{pad_days, unit_at}
use Rattle.duty_core.specs.Laws.HistoryLaws.{unit_at-replicate}
use Rattle.duty_core.specs.Day.{IsNumberOfDay}
use Rattle.duty_core.specs.LostMinutes.{is_lost, lost}
use Rattle.duty_core.specs.Laws.LostLaws.{kept_not_lost}
use Rattle.duty_core.specs.Deferral.{MeetsCaOff10, IsDeferral, IsDeferWay, MeetsCaDefer}
use Rattle.duty_core.specs.Marks.{AreInOrder, IsDeferred}
use Rattle.duty_core.specs.Laws.MarkListLaws.{no_members, same_marks}
use Rattle.cycles_deferral.specs.declared.days.TheConstants.{NEEDED_LIMIT}
use Rattle.cycles_deferral.specs.declared.days.CanadaDays.{CanadaDays}
use Rattle.cycles_deferral.specs.DayMachine.{fresh_days, days_after}
use Rattle.cycles_deferral.specs.Paths.{ca_pads, ca_padding, ca_padded, AreDays, begins, date_of, TakesDays, AreDeferrals}
use Rattle.cycles_deferral.specs.Laws.LostSteps.{places_none, and_false}
use Rattle.cycles_deferral.specs.Laws.Tracks.{days_up_to}
use Rattle.cycles_deferral.specs.Laws.DeferLaws.{AllDeferred}
use Rattle.cycles_deferral.specs.Laws.DaySteps.{AllKept, KeepsWay, mark_at}
use Rattle.cycles_deferral.specs.DaySteps.{Stands}
use Rattle.cycles_deferral.specs.Laws.DayPaths.{way_before, way_after, lost_after, AreLater, Leads, path_sound, path_complete}

-- # The rest before a history

pub pads_long : 30000 ≤ ca_pads
unfolding pad_days
pads_long = omega arith

pub length_padding : length ca_padding ≡ ca_pads
length_padding = length-replicate ca_pads Off

padding_rests : (k : ℕ) → rests (unit_at ca_padding k) ≡ true
padding_rests k = ap rests (unit_at-replicate ca_pads k)

pub lost_padding : (day : ℕ → ℕ) (j : ℕ) → lost day ca_padding j ≡ 0
lost_padding day j = places_none (λ i. nat_eq (day i) j && is_lost ca_padding i) (length ca_padding) (λ i l.
    ap (λ b. nat_eq (day i) j && b) (kept_not_lost ca_padding i (record { from = i; after = omega arith; before = omega arith; rest = λ k a b. padding_rests k })) ∙ and_false (nat_eq (day i) j))

pub padding_keeps : (way : RestWay) (day : ℕ → ℕ) → KeepsWay way day ca_padding
padding_keeps Split day = λ j. let z = lost_padding day j in omega arith
padding_keeps Defer day = λ j m. absurd (let z = lost_padding day j in omega arith)

pub stands_fresh : (way : RestWay) (day : ℕ → ℕ) → AreDays day → Stands day ca_padding (fresh_days way)
stands_fresh way day days =
    let l = pads_long in
    let n : length ca_padding ≡ ca_pads = length_padding in
    let two : 2 ≤ day (length ca_padding - 1) = subst (λ m. 2 ≤ day (m - 1)) (sym n) days.later in
    let at : ℕ = length ca_padding - 1441 in
    let f : day (at + DAY_MINUTES) ≡ day at + 1 = days.whole at in
    let g : day (at + DAY_MINUTES) ≡ day (length ca_padding - 1) = ap day (let z : at + DAY_MINUTES ≡ length ca_padding - 1 = omega arith in z) in
    record {
      some = omega arith;
      knows = record {
        later = two;
        tracks = record {
          later = omega arith;
          run = record { there = omega arith; small = omega arith; rest = λ k a b. padding_rests k; starts = λ m. absurd (omega arith) };
          upto = λ k m. days_up_to day days k (length ca_padding - 1) (omega arith);
          lost_today = lost_padding day (day (length ca_padding - 1));
          lost_yesterday = λ j e. lost_padding day j;
          short_today = λ m. absurd (omega arith);
          short_yesterday = λ m. absurd (omega arith);
          long_today = λ m. refl;
          long_yesterday = λ m. refl;
        };
        lost_before = λ j e. lost_padding day j;
        longest_today = record {
          small = omega arith;
          has = λ m. record {
            rest = record {
              from = length ca_padding - NEEDED_LIMIT;
              to = length ca_padding;
              at = length ca_padding - 1;
              rest = λ k a b. padding_rests k;
              long = omega arith;
              after = omega arith;
              before = omega arith;
              of_day = refl;
            };
            inside = omega arith;
          };
          most = λ m a b. a;
        };
        longest_yesterday = λ j e. record {
          small = omega arith;
          has = λ m. record {
            rest = record { from = at; to = length ca_padding; at = at; rest = λ k a b. padding_rests k; long = omega arith; after = omega arith; before = omega arith; of_day = omega arith };
            inside = omega arith;
          };
          most = λ m a b. a;
        };
        reaches = λ t j e. record { at = at; of_day = omega arith; inside = omega arith; rest = λ k a b. padding_rests k };
        reaches_not = λ t. absurd (let z : true ≡ false = t in cc);
      };
      clock = inr (refl, refl);
    }

-- what the days know at the end of a path
pub days_lead : (params : Params) (way : RestWay) (day : ℕ → ℕ) → AreDays day → (h : List Activity) (marks : List Mark) (t : CanadaDays) → TakesDays day (fresh_days way) ca_pads h marks t →
    Leads params day way ca_padding (ca_padding ++ h) marks t
days_lead params way day days h marks t r = path_sound params day days way h ca_padding ca_pads (fresh_days way) marks t (sym length_padding) (stands_fresh way day days) refl (padding_keeps way day) r

-- a history that keeps what its way asks is taken, with some marks
days_take : (way : RestWay) (day : ℕ → ℕ) → AreDays day → (h : List Activity) → KeepsWay way day (ca_padded h) → (t : CanadaDays) × (marks : List Mark) × TakesDays day (fresh_days way) ca_pads h marks t
days_take way day days h k =
    path_complete day days way h ca_padding ca_pads (fresh_days way) (sym length_padding) (stands_fresh way day days) refl (way_before way day (ca_padding ++ h) ca_padding k)

-- # The way `split`

no_marks : (params : Params) (day : ℕ → ℕ) (h : List Activity) (marks : List Mark) → AllKept day (ca_padding ++ h) → AreLater params day ca_padding (ca_padding ++ h) marks → marks ≡ []
no_marks params day h marks k l = no_members marks (λ m c. let s = l.says m c in let a = s.more in let b = k s.number in absurd (omega arith))

-- Under `split` the days take a history exactly where each of its days keeps its limit of lost minutes, and choose no marks.
pub days_exact_split : (day : ℕ → ℕ) → AreDays day → (params : Params) (h : List Activity) (marks : List Mark) →
    ((t : CanadaDays) × TakesDays day (fresh_days Split) ca_pads h marks t) ↔ ((marks ≡ []) × ((j : ℕ) → lost day (ca_padded h) j ≤ CA_LOST_LIMIT))
days_exact_split day days params h marks = (
  (λ r. let q = days_lead params Split day days h marks r.0 r.1 in (no_marks params day h marks q.lawful q.marks_later, way_after Split day (ca_padding ++ h) ca_pads q.lawful)),
  (λ r. let q = days_take Split day days h r.1 in
      let s = days_lead params Split day days h q.1 q.0 q.2 in
      let e : q.1 ≡ marks = no_marks params day h q.1 s.lawful s.marks_later ∙ sym r.0 in
      (q.0, subst (λ m. TakesDays day (fresh_days Split) ca_pads h m q.0) e q.2)),
)

-- # The way `defer`

numbered_at : (j : ℕ) → IsNumberOfDay (date_of j) j
numbered_at j = omega (arith, ints)

date_is : (date : ℤ) (j : ℕ) → IsNumberOfDay date j → date ≡ date_of j
date_is date j h = omega (arith, ints)

number_is : (i j : ℕ) → date_of i ≡ date_of j → i ≡ j
number_is i j e = omega (arith, ints)

pub deferred_from : (marks : List Mark) (j : ℕ) → Contains marks (mark_at j) → IsDeferred marks j
deferred_from marks j c = record { day = date_of j; numbered = numbered_at j; marked = c }

pub deferred_to : (marks : List Mark) (j : ℕ) → IsDeferred marks j → Contains marks (mark_at j)
deferred_to marks j h = subst (λ d. Contains marks (DeferDay d)) (date_is h.day j h.numbered) h.marked

mark_is : (i j : ℕ) → mark_at i ≡ mark_at j → i ≡ j
mark_is i j e = number_is i j (let z : date_of i ≡ date_of j = cc in z)

-- what the marks of a path are, asked of the padded history
record AreMarksOf (day : ℕ → ℕ) (h : List Activity) (marks : List Mark) : Type 0 where
  says : (m : Mark) → Contains marks m → (j : ℕ) × (m ≡ mark_at j) × (CA_LOST_LIMIT < lost day (ca_padded h) j)
  told : (j : ℕ) → CA_LOST_LIMIT < lost day (ca_padded h) j → Contains marks (mark_at j)

are_marks_of : (params : Params) (day : ℕ → ℕ) (h : List Activity) (marks : List Mark) → AreLater params day ca_padding (ca_padding ++ h) marks → AreMarksOf day h marks
are_marks_of params day h marks l = record {
  says = λ m c. let s = l.says m c in let b = lost_after day (ca_padding ++ h) ca_pads s.number in let a = s.more in (s.number, s.is, omega arith);
  told = λ j a. let b = lost_after day (ca_padding ++ h) ca_pads j in let z = lost_padding day j in l.told j (omega arith) (omega arith);
}

-- the days that lose too much are those that the marks defer
deferred_more : (day : ℕ → ℕ) (h : List Activity) (marks : List Mark) → AreMarksOf day h marks → (j : ℕ) → IsDeferred marks j → CA_LOST_LIMIT < lost day (ca_padded h) j
deferred_more day h marks l j d =
    let s = l.says (mark_at j) (deferred_to marks j d) in
    let e : j ≡ s.0 = mark_is j s.0 s.1 in
    let a = s.2 in
    subst (λ i. CA_LOST_LIMIT < lost day (ca_padded h) i) (sym e) a

meets_off10 : (day : ℕ → ℕ) (h : List Activity) (marks : List Mark) → AreMarksOf day h marks → (j : ℕ) → MeetsCaOff10 day (ca_padded h) (IsDeferred marks) j
meets_off10 day h marks l j = elim (cases_lt CA_LOST_LIMIT (lost day (ca_padded h) j)) [
  | inl lt ↦ inl (inl (deferred_from marks j (l.told j lt)))
  | inr le ↦ inr le
]

meets_defer : (params : Params) (day : ℕ → ℕ) (h : List Activity) (marks : List Mark) → IsDeferWay params → AllDeferred day (ca_padded h) → AreMarksOf day h marks → MeetsCaDefer params day (ca_padded h) marks
meets_defer params day h marks way k l date c =
    let s = l.says (DeferDay date) c in
    let e : date ≡ date_of s.0 = (let y : DeferDay date ≡ mark_at s.0 = s.1 in cc) in
    let d = k s.0 s.2 in
    record {
      number = s.0;
      numbered = subst (λ z. IsNumberOfDay z s.0) (sym e) (numbered_at s.0);
      defers = d;
      alone = λ g. let a = deferred_more day h marks l (s.0 + 1) g in let b = d.both in let o = d.least in absurd (omega arith);
      defer_way = way;
    }

-- a day that loses too much is deferred, where the two rules hold
off10_marks : (params : Params) (day : ℕ → ℕ) (p : List Activity) (marks : List Mark) → ((j : ℕ) → MeetsCaOff10 day p (IsDeferred marks) j) → MeetsCaDefer params day p marks → (j : ℕ) → CA_LOST_LIMIT < lost day p j → IsDeferred marks j
off10_marks params day p marks off10 defer j l = elim (off10 j) [
  | inr le ↦ absurd (omega arith)
  | inl i ↦ elim i [
    | inl d ↦ d
    | inr b ↦ absurd (
        let d = b.2 in
        let s = defer d.day d.marked in
        let e : s.number ≡ b.0 = number_is s.number b.0 (sym (date_is d.day s.number s.numbered) ∙ date_is d.day b.0 d.numbered) in
        let z : lost day p (s.number + 1) ≡ lost day p j = ap (λ n. lost day p (n + 1)) e ∙ ap (lost day p) b.1 in
        let a = s.defers.least in
        let c = s.defers.both in
        omega arith)
  ]
]

deferral_at : (params : Params) (day : ℕ → ℕ) (p : List Activity) (marks : List Mark) → MeetsCaDefer params day p marks → (j : ℕ) → IsDeferred marks j → IsDeferral day p j
deferral_at params day p marks defer j d =
    let s = defer d.day d.marked in
    let e : s.number ≡ j = number_is s.number j (sym (date_is d.day s.number s.numbered) ∙ date_is d.day j d.numbered) in
    subst (IsDeferral day p) e s.defers

all_deferred : (params : Params) (day : ℕ → ℕ) (p : List Activity) (marks : List Mark) → ((j : ℕ) → MeetsCaOff10 day p (IsDeferred marks) j) → MeetsCaDefer params day p marks → AllDeferred day p
all_deferred params day p marks off10 defer j l = deferral_at params day p marks defer j (off10_marks params day p marks off10 defer j l)

marks_of_rules : (params : Params) (day : ℕ → ℕ) (h : List Activity) (marks : List Mark) → AreDeferrals marks → ((j : ℕ) → MeetsCaOff10 day (ca_padded h) (IsDeferred marks) j) → MeetsCaDefer params day (ca_padded h) marks → AreMarksOf day h marks
marks_of_rules params day h marks all off10 defer = record {
  says = λ m c.
      let k = all m c in
      let s = defer k.0 (subst (Contains marks) k.1 c) in
      let e : k.0 ≡ date_of s.number = date_is k.0 s.number s.numbered in
      (s.number, k.1 ∙ ap (λ d. DeferDay d) e, s.defers.least);
  told = λ j l. deferred_to marks j (off10_marks params day (ca_padded h) marks off10 defer j l);
}

are_deferrals : (day : ℕ → ℕ) (h : List Activity) (marks : List Mark) → AreMarksOf day h marks → AreDeferrals marks
are_deferrals day h marks l m c = let s = l.says m c in (date_of s.0, s.1)

same_members : (day : ℕ → ℕ) (h : List Activity) (marks others : List Mark) → AreMarksOf day h marks → AreMarksOf day h others → (m : Mark) → Contains marks m → Contains others m
same_members day h marks others l k m c = let s = l.says m c in subst (Contains others) (sym s.1) (k.told s.0 s.2)

-- Under `defer` the days take a history with these marks exactly where these are marks of deferrals, in order, with which it keeps CA-OFF10 and CA-DEFER.
pub days_exact_defer : (day : ℕ → ℕ) → AreDays day → (params : Params) → IsDeferWay params → (h : List Activity) (marks : List Mark) →
    ((t : CanadaDays) × TakesDays day (fresh_days Defer) ca_pads h marks t)
    ↔ (AreDeferrals marks × AreInOrder params marks × ((j : ℕ) → MeetsCaOff10 day (ca_padded h) (IsDeferred marks) j) × MeetsCaDefer params day (ca_padded h) marks)
days_exact_defer day days params way h marks = (
  (λ r.
      let q = days_lead params Defer day days h marks r.0 r.1 in
      let l = are_marks_of params day h marks q.marks_later in
      let k = way_after Defer day (ca_padding ++ h) ca_pads q.lawful in
      (are_deferrals day h marks l, q.marks_later.in_order, meets_off10 day h marks l, meets_defer params day h marks way k l)),
  (λ r.
      let k = all_deferred params day (ca_padded h) marks r.2 r.3 in
      let l = marks_of_rules params day h marks r.0 r.2 r.3 in
      let q = days_take Defer day days h k in
      let s = days_lead params Defer day days h q.1 q.0 q.2 in
      let o = are_marks_of params day h q.1 s.marks_later in
      let e : q.1 ≡ marks = same_marks params q.1 marks s.marks_later.in_order r.1 (same_members day h q.1 marks o l) (same_members day h marks q.1 l o) in
      (q.0, subst (λ m. TakesDays day (fresh_days Defer) ca_pads h m q.0) e q.2)),
)

-- # One path, and its fronts

some_pair : {A B : Type 0} (a c : A) (b d : B) (o : Option (A × B)) → o ≡ Some (a, b) → o ≡ Some (c, d) → (a ≡ c) × (b ≡ d)
some_pair {A} {B} a c b d o h k =
    let z : Some (a, b) ≡ Some (c, d) = sym h ∙ k in
    let y : (a, b) ≡ (c, d) = cc in
    (ap (λ (q : A × B). q.0) y, ap (λ (q : A × B). q.1) y)

-- the minutes of a history lead to one value, with one list of marks
pub days_once : (day : ℕ → ℕ) (s : CanadaDays) (n : ℕ) (xs : List Activity) (marks others : List Mark) (t u : CanadaDays) → TakesDays day s n xs marks t → TakesDays day s n xs others u → (t ≡ u) × (marks ≡ others)
days_once day s n [] marks others t u h g = (sym h.1 ∙ g.1, h.0 ∙ sym g.0)
days_once day s n (x ∷ xs) marks others t u h g =
    let e = some_pair h.0 g.0 h.1 g.1 (days_after s x (begins day n) (date_of (day n))) h.3 g.3 in
    let k = days_once day g.0 (n + 1) xs h.2 g.2 t u (subst (λ v. TakesDays day v (n + 1) xs h.2 t) e.0 h.5) g.5 in
    (k.0, h.4 ∙ (ap (λ m. option_to_list m ++ h.2) e.1 ∙ (ap (λ l. option_to_list g.1 ++ l) k.1 ∙ sym g.4)))

-- a path in two parts
pub record IsTwoPaths (day : ℕ → ℕ) (s : CanadaDays) (n : ℕ) (xs ys : List Activity) (marks : List Mark) (t : CanadaDays) : Type 0 where
  pub mid : CanadaDays
  pub early : List Mark
  pub late : List Mark
  pub front : TakesDays day s n xs early mid
  pub thereafter : TakesDays day mid (n + length xs) ys late t
  pub joined : marks ≡ early ++ late

-- the front of a path is a path, and so is the rest
pub days_front : (day : ℕ → ℕ) (s : CanadaDays) (n : ℕ) (xs ys : List Activity) (marks : List Mark) (t : CanadaDays) → TakesDays day s n (xs ++ ys) marks t → IsTwoPaths day s n xs ys marks t
days_front day s n [] ys marks t h = record {
  mid = s;
  early = [];
  late = marks;
  front = (refl, refl);
  thereafter = subst (λ i. TakesDays day s i ys marks t) (let z : n ≡ n + 0 = omega arith in z) h;
  joined = refl;
}
days_front day s n (x ∷ xs) ys marks t h =
    let k = days_front day h.0 (n + 1) xs ys h.2 t h.5 in
    record {
      mid = k.mid;
      early = option_to_list h.1 ++ k.early;
      late = k.late;
      front = (h.0, h.1, k.early, h.3, refl, k.front);
      thereafter = subst (λ i. TakesDays day k.mid i ys k.late t) (let z : n + 1 + length xs ≡ n + length (x ∷ xs) = omega arith in z) k.thereafter;
      joined = h.4 ∙ (ap (λ l. option_to_list h.1 ++ l) k.joined ∙ sym (append_assoc (option_to_list h.1) k.early k.late));
    }

-- and two such parts are a path
pub days_join : (day : ℕ → ℕ) (s : CanadaDays) (n : ℕ) (xs ys : List Activity) (early late : List Mark) (u t : CanadaDays) →
    TakesDays day s n xs early u → TakesDays day u (n + length xs) ys late t → TakesDays day s n (xs ++ ys) (early ++ late) t
days_join day s n [] ys early late u t h g =
    subst (λ m. TakesDays day s n ys (m ++ late) t) (sym h.0) (subst (λ v. TakesDays day v n ys late t) (sym h.1) (subst (λ i. TakesDays day u i ys late t) (let z : n + 0 ≡ n = omega arith in z) g))
days_join day s n (x ∷ xs) ys early late u t h g = (
  h.0,
  h.1,
  h.2 ++ late,
  h.3,
  ap (λ l. l ++ late) h.4 ∙ append_assoc (option_to_list h.1) h.2 late,
  days_join day h.0 (n + 1) xs ys h.2 late u t h.5 (subst (λ i. TakesDays day u i ys late t) (let z : n + length (x ∷ xs) ≡ n + 1 + length xs = omega arith in z) g),
)
