-- The book is exact: a history is reached from the root by a path that chooses these marks exactly where it keeps every rule with them.
use Rattle.std.proofs.Common.{◌≡◌, ◌↔◌, ℕ, ◌+◌, ◌-◌, ◌<◌, ◌≤◌, Bool, true, false, List, [], ◌∷◌, ◌++◌, length, Some, refl, sym, ◌∙◌, ap, subst, arith, length-append, inl, inr}
use Rattle.std.specs.Prelude.{map, Contains, All, AllPairs}
use Rattle.std.proofs.lemmas.Bool.{cases_lt}
use Rattle.std.proofs.lemmas.List.Elements.{All-cons}
use Rattle.duty_core.specs.declared.activity.Activity.{Activity}
use Rattle.duty_core.specs.declared.mark.Mark.{Mark}
use Rattle.duty_core.specs.declared.mark.Mark.TheVariants.{SplitRest, DeferDay}
use Rattle.duty_core.specs.declared.params.Params.{Params}
use Rattle.duty_core.specs.declared.params.Params.TheVariants.{Canada}
use Rattle.duty_core.specs.declared.params.RestWay.{RestWay}
use Rattle.duty_core.specs.declared.params.RestWay.TheVariants.{Split, Defer}
use Rattle.duty_core.specs.declared.rule.Rule.{Rule}
use Rattle.duty_core.specs.declared.rule.Rule.TheVariants.{CaDay13, CaDay14, CaShift13, CaShift14, CaElapsed16, CaOff10, CaDefer, CaPair, Ca24in14, CaCycle, Ca70without24}
use Rattle.duty_core.specs.declared.limits.TheConstants.{CA_FULL_REST, PADDING_MINUTES, COUNT_LIMIT, DAY_MINUTES}
use Rattle.duty_core.specs.Activity.{rests}
use Rattle.duty_core.specs.History.{unit_at, pad_units, padding, padded, IsTimed}
use Rattle.duty_core.specs.Laws.HistoryLaws.{unit_at-append, unit_at-replicate}
use Rattle.duty_core.specs.Day.{day_number}
use Rattle.duty_core.specs.Marks.{IsSplitAt, IsMinuteOf, AreInOrder}
use Rattle.duty_core.specs.CaDay.{MeetsCaDay13, MeetsCaDay14}
use Rattle.duty_core.specs.CaShift.{MeetsCaShift13, MeetsCaShift14, MeetsCaElapsed16, IsCaPair, MeetsCaPair}
use Rattle.duty_core.specs.RuleBooks.{Keeps, KeepsAll}
use Rattle.rule_core.specs.Laws.Guard.{Passes, guard_exact}
use Rattle.sleeper_split.specs.declared.rule.TheConstants.SplitRule.{CANADA}
use Rattle.sleeper_split.specs.Machine.{fresh_count}
use Rattle.sleeper_split.specs.Choices.{Declares}
use Rattle.sleeper_split.specs.Laws.Growth.{contains_none}
use Rattle.sleeper_split.specs.Laws.Alike.{base_marked}
use Rattle.sleeper_split.specs.Exact.{MaySplit, KeepsSplits, IsPairOf}
use Rattle.sleeper_split.specs.Laws.ExactLaws.{split_exact}
use Rattle.sleeper_split.specs.Laws.CountryLaws.{canada_rule, canada_pair, IsCaSplittable, canada_may_split, canada_limit}
use Rattle.cycles_deferral.specs.declared.days.CanadaDays.{CanadaDays}
use Rattle.cycles_deferral.specs.declared.cycle.CycleCount.{CycleCount}
use Rattle.cycles_deferral.specs.DayMachine.{fresh_days}
use Rattle.cycles_deferral.specs.CycleMachine.{fresh_cycle}
use Rattle.cycles_deferral.specs.Paths.{ca_pads, TakesDays, TakesCycle, AreDeferrals}
use Rattle.cycles_deferral.specs.Laws.CountryDays.{ca_day, NoDeferral, split_days, defer_days, pair_deferrals, cycle_rules}
use Rattle.canada_rules.specs.declared.state.CanadaState.{CanadaState}
use Rattle.canada_rules.specs.Machine.{ca_fits, ca_may, day_made, day_after, day_ok, root_state}
use Rattle.canada_rules.specs.Laws.Padding.{ca_minutes, pads_are, units_are, length_padding}
use Rattle.canada_rules.specs.Laws.DayGuard.{MeetsDay, TracksDay, day_is_guard, tracks_day_root}
use Rattle.canada_rules.specs.Laws.Paths.{AreNamed, named_same, IsMay, CaReaches, IsCaPath, ca_path, path_ca}
use Rattle.sleeper_split.specs.Promises.{MeetsCanadaShift}
use Rattle.sleeper_split.specs.Laws.SameMarks.{AreSame, same_back, marked_alike, paired_same, same_marks}
use Rattle.sleeper_split.specs.Laws.Places.{mark_at, minute_means, means_minute, contains-map, HaveMinutes, marks_ordered, HasPlace, place_of, marks_again, places_have, places_ordered}

-- # One history, its runs marked in two ways

holds_same : (p : List Activity) (Marked Other : ℕ → Type 0) (i : ℕ) → AreSame Marked Other → MeetsCanadaShift p Marked i → MeetsCanadaShift p Other i
holds_same p Marked Other i g h =
    let back = marked_alike p Other Marked (i + 1) (same_back g) in (
      (λ e base omitted b. h.0 e base omitted (base_marked back (omega arith) b)),
      ((λ e base omitted b. h.1.0 e base omitted (base_marked back (omega arith) b)), (λ e base omitted b. h.1.1 e base omitted (base_marked back (omega arith) b))),
    )

-- # Lawful by parts

-- what the marks are by the places at which split rests begin
pub record AreOfPlaces (berth : Bool) (way : RestWay) (cycle start first : ℕ) (starts : List ℕ) (marks : List Mark) : Type 0 where
  pub order : AreInOrder (Canada berth way cycle start) marks
  pub same : AreSame (Contains starts) (IsSplitAt (Canada berth way cycle start) first marks)
  pub placed : (at : ℕ) → Contains marks (SplitRest at) → (k : ℕ) × Contains starts k × IsMinuteOf (Canada berth way cycle start) first at k

-- what is asked of a history, with the places at which its split rests begin
pub record KeepsByParts (berth : Bool) (way : RestWay) (cycle start first : ℕ) (h : List Activity) (starts : List ℕ) (marks : List Mark) : Type 0 where
  pub splits : KeepsSplits CANADA (ca_may berth way) MeetsCanadaShift (padded (Canada berth way cycle start) h) starts
  pub day : (i : ℕ) → MeetsDay (ca_day start first) (padded (Canada berth way cycle start) h) i
  pub off : Keeps (Canada berth way cycle start) first h marks CaOff10
  pub defer : Keeps (Canada berth way cycle start) first h marks CaDefer
  pub off24 : Keeps (Canada berth way cycle start) first h marks Ca24in14
  pub in_cycle : Keeps (Canada berth way cycle start) first h marks CaCycle
  pub without24 : Keeps (Canada berth way cycle start) first h marks Ca70without24

-- the eleven rules of the book
eleven_rules : (K : Rule → Type 0) → K CaDay13 → K CaDay14 → K CaShift13 → K CaShift14 → K CaElapsed16 → K CaOff10 → K CaDefer → K CaPair → K Ca24in14 → K CaCycle → K Ca70without24 →
    All K (CaDay13 ∷ CaDay14 ∷ CaShift13 ∷ CaShift14 ∷ CaElapsed16 ∷ CaOff10 ∷ CaDefer ∷ CaPair ∷ Ca24in14 ∷ CaCycle ∷ Ca70without24 ∷ [])
eleven_rules K a b c d e f g h i j k =
    All-cons K CaDay13 (CaDay14 ∷ CaShift13 ∷ CaShift14 ∷ CaElapsed16 ∷ CaOff10 ∷ CaDefer ∷ CaPair ∷ Ca24in14 ∷ CaCycle ∷ Ca70without24 ∷ []) a
    (All-cons K CaDay14 (CaShift13 ∷ CaShift14 ∷ CaElapsed16 ∷ CaOff10 ∷ CaDefer ∷ CaPair ∷ Ca24in14 ∷ CaCycle ∷ Ca70without24 ∷ []) b
    (All-cons K CaShift13 (CaShift14 ∷ CaElapsed16 ∷ CaOff10 ∷ CaDefer ∷ CaPair ∷ Ca24in14 ∷ CaCycle ∷ Ca70without24 ∷ []) c
    (All-cons K CaShift14 (CaElapsed16 ∷ CaOff10 ∷ CaDefer ∷ CaPair ∷ Ca24in14 ∷ CaCycle ∷ Ca70without24 ∷ []) d
    (All-cons K CaElapsed16 (CaOff10 ∷ CaDefer ∷ CaPair ∷ Ca24in14 ∷ CaCycle ∷ Ca70without24 ∷ []) e
    (All-cons K CaOff10 (CaDefer ∷ CaPair ∷ Ca24in14 ∷ CaCycle ∷ Ca70without24 ∷ []) f
    (All-cons K CaDefer (CaPair ∷ Ca24in14 ∷ CaCycle ∷ Ca70without24 ∷ []) g
    (All-cons K CaPair (Ca24in14 ∷ CaCycle ∷ Ca70without24 ∷ []) h
    (All-cons K Ca24in14 (CaCycle ∷ Ca70without24 ∷ []) i
    (All-cons K CaCycle (Ca70without24 ∷ []) j
    (All-cons K Ca70without24 [] k (λ n z l. absurd (omega arith))))))))))))

keeps_of_parts : (berth : Bool) (way : RestWay) (cycle start first : ℕ) (h : List Activity) (starts : List ℕ) (marks : List Mark) → AreOfPlaces berth way cycle start first starts marks →
    KeepsByParts berth way cycle start first h starts marks → KeepsAll (Canada berth way cycle start) first h marks
keeps_of_parts berth way cycle start first h starts marks m k =
    let params : Params = Canada berth way cycle start in
    let p : List Activity = padded params h in
    let Marked : ℕ → Type 0 = IsSplitAt params first marks in
    let shift : (i : ℕ) → MeetsCanadaShift p Marked i = (λ i. holds_same p (Contains starts) Marked i m.same (k.splits.limits i)) in
    let pair : Keeps params first h marks CaPair = record {
      splits = λ at i.
          let q = m.placed at i in
          let s = (canada_may_split berth way cycle start p q.0).0 (k.splits.splits q.0 q.1) in
          record { from = q.0; minute = q.2; run = s.run; berth = s.berth; split_way = s.split_way };
      pairs = λ d. paired_same CA_FULL_REST p (Contains starts) Marked (IsCaPair p) d m.same (λ a b c s n. (canada_pair p a b c d).0 (k.splits.pairs d a b c s n));
    } in
    record {
      marks_of_book = m.order;
      rules = eleven_rules (Keeps params first h marks) (λ i. (k.day i).0) (λ i. (k.day i).1) (λ i. (shift i).0) (λ i. (shift i).1.0) (λ i. (shift i).1.1) k.off k.defer pair k.off24 k.in_cycle k.without24;
    }

-- the rules of a history that keeps them all
pub record HasRules (berth : Bool) (way : RestWay) (cycle start first : ℕ) (h : List Activity) (marks : List Mark) : Type 0 where
  pub day : (i : ℕ) → MeetsDay (ca_day start first) (padded (Canada berth way cycle start) h) i
  pub shift : (i : ℕ) → MeetsCanadaShift (padded (Canada berth way cycle start) h) (IsSplitAt (Canada berth way cycle start) first marks) i
  pub pair : MeetsCaPair (Canada berth way cycle start) first (padded (Canada berth way cycle start) h) marks
  pub off : Keeps (Canada berth way cycle start) first h marks CaOff10
  pub defer : Keeps (Canada berth way cycle start) first h marks CaDefer
  pub off24 : Keeps (Canada berth way cycle start) first h marks Ca24in14
  pub in_cycle : Keeps (Canada berth way cycle start) first h marks CaCycle
  pub without24 : Keeps (Canada berth way cycle start) first h marks Ca70without24

pub has_rules : (berth : Bool) (way : RestWay) (cycle start first : ℕ) (h : List Activity) (marks : List Mark) → KeepsAll (Canada berth way cycle start) first h marks → HasRules berth way cycle start first h marks
has_rules berth way cycle start first h marks k =
    let p : List Activity = padded (Canada berth way cycle start) h in
    let Marked : ℕ → Type 0 = IsSplitAt (Canada berth way cycle start) first marks in
    let driving : (i : ℕ) → MeetsCaDay13 (day_number (Canada berth way cycle start) first) p i = k.rules 0 CaDay13 (omega arith) in
    let duty : (i : ℕ) → MeetsCaDay14 (day_number (Canada berth way cycle start) first) p i = k.rules 1 CaDay13 (omega arith) in
    let driven : (i : ℕ) → MeetsCaShift13 p Marked i = k.rules 2 CaDay13 (omega arith) in
    let worked : (i : ℕ) → MeetsCaShift14 p Marked i = k.rules 3 CaDay13 (omega arith) in
    let passed : (i : ℕ) → MeetsCaElapsed16 p Marked i = k.rules 4 CaDay13 (omega arith) in
    record {
      day = λ i. (driving i, duty i);
      shift = λ i. (driven i, (worked i, passed i));
      off = k.rules 5 CaDay13 (omega arith);
      defer = k.rules 6 CaDay13 (omega arith);
      pair = k.rules 7 CaDay13 (omega arith);
      off24 = k.rules 8 CaDay13 (omega arith);
      in_cycle = k.rules 9 CaDay13 (omega arith);
      without24 = k.rules 10 CaDay13 (omega arith);
    }

-- a place whose run is that of a mark may be split
mark_may_split : (berth : Bool) (way : RestWay) (cycle start first : ℕ) (p : List Activity) (marks : List Mark) (a : ℕ) → MeetsCaPair (Canada berth way cycle start) first p marks →
    IsSplitAt (Canada berth way cycle start) first marks a → MaySplit CANADA (ca_may berth way) p a
mark_may_split berth way cycle start first p marks a pair m =
    let s = pair.splits m.at m.marked in
    let e = minute_means (Canada berth way cycle start) first m.at a (ca_minutes berth way cycle start) m.minute in
    let f = minute_means (Canada berth way cycle start) first m.at s.from (ca_minutes berth way cycle start) s.minute in
    let one : s.from ≡ a = omega arith in
    let whole : IsCaSplittable (Canada berth way cycle start) p s.from = record { run = s.run; berth = s.berth; split_way = s.split_way } in
    (canada_may_split berth way cycle start p a).1 (subst (IsCaSplittable (Canada berth way cycle start) p) one whole)

parts_of_keeps : (berth : Bool) (way : RestWay) (cycle start first : ℕ) (h : List Activity) (starts : List ℕ) (marks : List Mark) → AllPairs (λ a b. a < b) starts →
    AreSame (Contains starts) (IsSplitAt (Canada berth way cycle start) first marks) → HasRules berth way cycle start first h marks → KeepsByParts berth way cycle start first h starts marks
parts_of_keeps berth way cycle start first h starts marks order same k =
    let params : Params = Canada berth way cycle start in
    let p : List Activity = padded params h in
    let Marked : ℕ → Type 0 = IsSplitAt params first marks in
    record {
      splits = record {
        order = order;
        splits = λ a i. mark_may_split berth way cycle start first p marks a k.pair (same.marks a i);
        pairs = λ d. paired_same CA_FULL_REST p Marked (Contains starts) (IsPairOf CANADA p) d (same_back same) (λ a b c s n. (canada_pair p a b c d).1 (k.pair.pairs d a b c s n));
        limits = λ i. holds_same p Marked (Contains starts) i (same_back same) (k.shift i);
      };
      day = k.day;
      off = k.off;
      defer = k.defer;
      off24 = k.off24;
      in_cycle = k.in_cycle;
      without24 = k.without24;
    }

-- # Marks of split rests

-- a run that may be split begins after the padding
split_after : (berth : Bool) (way : RestWay) (cycle start : ℕ) (h : List Activity) (a : ℕ) → MaySplit CANADA (ca_may berth way) (padded (Canada berth way cycle start) h) a → PADDING_MINUTES ≤ a
split_after berth way cycle start h a s = elim (cases_lt a PADDING_MINUTES) [
  | inr l ↦ l
  | inl l ↦
      let p : List Activity = padded (Canada berth way cycle start) h in
      let pads : List Activity = padding (Canada berth way cycle start) in
      let len = length_padding berth way cycle start in
      let rest : (k : ℕ) → k < PADDING_MINUTES → rests (unit_at p k) ≡ true =
      (λ k m. let inside : k < length (pads ++ h) = omega (arith, length-append pads h) in
      ap rests (unit_at-append (pads ++ h) pads k inside ∙ (unit_at-append pads h k (omega arith) ∙ unit_at-replicate (pad_units (Canada berth way cycle start)) k))) in
      let r = s.run.run in
      let short = s.run.short in
      elim (cases_lt 0 a) [
        | inl u ↦ absurd (let z : true ≡ false = sym (rest (a - 1) (omega arith)) ∙ r.starts (a - 1) (omega arith) in cc)
        | inr u ↦ absurd (let z : true ≡ false = sym (rest s.run.to (omega arith)) ∙ r.ended in cc)
      ]
]

pub starts_have : (berth : Bool) (way : RestWay) (cycle start first : ℕ) (h : List Activity) (starts : List ℕ) → ((a : ℕ) → Contains starts a → MaySplit CANADA (ca_may berth way) (padded (Canada berth way cycle start) h) a) → HaveMinutes first starts
starts_have berth way cycle start first h starts s k i = let l = split_after berth way cycle start h k (s k i) in omega arith

no_deferral : (first : ℕ) (starts : List ℕ) → NoDeferral (map (mark_at first) starts)
no_deferral first starts = record {
  none = λ day i. let q = contains-map (mark_at first) starts (DeferDay day) i in let z : SplitRest (first + q.0 - PADDING_MINUTES) ≡ DeferDay day = q.2 in cc;
}

split_places : (berth : Bool) (way : RestWay) (cycle start first : ℕ) (starts : List ℕ) → HaveMinutes first starts → AllPairs (λ a b. a < b) starts → AreOfPlaces berth way cycle start first starts (map (mark_at first) starts)
split_places berth way cycle start first starts have order = record {
  order = marks_ordered (Canada berth way cycle start) first starts have order;
  same = same_marks (Canada berth way cycle start) first starts (ca_minutes berth way cycle start) have;
  placed = λ at i.
      let q = contains-map (mark_at first) starts (SplitRest at) i in
      let e : first + q.0 - PADDING_MINUTES ≡ at = (let z : SplitRest (first + q.0 - PADDING_MINUTES) ≡ SplitRest at = q.2 in cc) in
      let l = have q.0 q.1 in
      (q.0, q.1, means_minute (Canada berth way cycle start) first at q.0 (ca_minutes berth way cycle start) (omega arith));
}

-- the places of the marks of a lawful history under `split`
marks_placed : (berth : Bool) (cycle start first : ℕ) (h : List Activity) (marks : List Mark) → HasRules berth Split cycle start first h marks → (m : Mark) → Contains marks m → HasPlace first m
marks_placed berth cycle start first h marks k (SplitRest at) i =
    let s = k.pair.splits at i in
    let e = minute_means (Canada berth Split cycle start) first at s.from (ca_minutes berth Split cycle start) s.minute in
    omega arith
marks_placed berth cycle start first h marks k (DeferDay day) i = absurd (let w = (k.defer day i).defer_way in let z : Some Split ≡ Some Defer = w in cc)

-- # Marks of deferrals

not_split : (marks : List Mark) (at : ℕ) → AreDeferrals marks → Contains marks (SplitRest at) → ⊥
not_split marks at h i = let q = h (SplitRest at) i in let z : SplitRest at ≡ DeferDay q.0 = q.1 in cc

deferral_places : (berth : Bool) (way : RestWay) (cycle start first : ℕ) (marks : List Mark) → AreDeferrals marks → AreInOrder (Canada berth way cycle start) marks → AreOfPlaces berth way cycle start first [] marks
deferral_places berth way cycle start first marks h order = record {
  order = order;
  same = record { marks = λ a i. absurd (contains_none a i); back = λ a i. absurd (not_split marks i.at h i.marked) };
  placed = λ at i. absurd (not_split marks at h i);
}

none_ordered : AllPairs (λ (a b : ℕ). a < b) []
none_ordered = λ i j d l m. absurd (omega arith)

-- # Exact

-- the history is short enough to be counted
pub short_history : (berth : Bool) (way : RestWay) (cycle start first : ℕ) (h : List Activity) → IsTimed (Canada berth way cycle start) first h → pad_units (Canada berth way cycle start) + length h < COUNT_LIMIT
short_history berth way cycle start first h t = let l = units_are berth way cycle start in let m = t.long in omega arith

pub is_may : (berth : Bool) (way : RestWay) → IsMay (ca_may berth way) way
is_may true Split e = absurd (let z : Split ≡ Defer = e in cc)
is_may false Split e = refl
is_may true Defer e = refl
is_may false Defer e = refl

pub root_path : (berth : Bool) (way : RestWay) (cycle start first : ℕ) (h : List Activity) (marks : List Mark) (u : CanadaState) → start ≤ DAY_MINUTES →
    CaReaches (ca_may berth way) start (root_state way cycle) first h marks u → IsCaPath (ca_may berth way) way start first (root_state way cycle) first PADDING_MINUTES h marks u
root_path berth way cycle start first h marks u least r = ca_path (ca_may berth way) way start first h (root_state way cycle) first PADDING_MINUTES marks u (is_may berth way) least refl (omega arith) refl (omega arith) r

pub path_splits : (berth : Bool) (way : RestWay) (cycle start first : ℕ) (h : List Activity) (marks : List Mark) (u : CanadaState) (q : IsCaPath (ca_may berth way) way start first (root_state way cycle) first PADDING_MINUTES h marks u) →
    Declares CANADA (ca_may berth way) ca_fits fresh_count (pad_units (Canada berth way cycle start)) h q.starts u.split
path_splits berth way cycle start first h marks u q = subst (λ n. Declares CANADA (ca_may berth way) ca_fits fresh_count n h q.starts u.split) (sym (units_are berth way cycle start)) q.declares

pub path_keeps_splits : (berth : Bool) (way : RestWay) (cycle start first : ℕ) (h : List Activity) (marks : List Mark) (u : CanadaState) → IsTimed (Canada berth way cycle start) first h →
    (q : IsCaPath (ca_may berth way) way start first (root_state way cycle) first PADDING_MINUTES h marks u) → KeepsSplits CANADA (ca_may berth way) MeetsCanadaShift (padded (Canada berth way cycle start) h) q.starts
path_keeps_splits berth way cycle start first h marks u timed q =
    let pads = units_are berth way cycle start in
    (split_exact CANADA (ca_may berth way) ca_fits MeetsCanadaShift (pad_units (Canada berth way cycle start)) h q.starts canada_rule canada_limit (omega arith) (short_history berth way cycle start first h timed)).0
    (u.split, path_splits berth way cycle start first h marks u q)

-- the days of a path, from the place after the padding as it is told of every book
pub path_days : (way : RestWay) (start first : ℕ) (h : List Activity) (deferred : List Mark) (d : CanadaDays) → TakesDays (ca_day start first) (fresh_days way) PADDING_MINUTES h deferred d → TakesDays (ca_day start first) (fresh_days way) ca_pads h deferred d
path_days way start first h deferred d t = subst (λ n. TakesDays (ca_day start first) (fresh_days way) n h deferred d) (sym pads_are) t

pub path_cycle : (cycle start first : ℕ) (h : List Activity) (c : CycleCount) → TakesCycle (ca_day start first) (fresh_cycle cycle) PADDING_MINUTES h c → TakesCycle (ca_day start first) (fresh_cycle cycle) ca_pads h c
path_cycle cycle start first h c t = subst (λ n. TakesCycle (ca_day start first) (fresh_cycle cycle) n h c) (sym pads_are) t

path_day : (berth : Bool) (way : RestWay) (cycle start first : ℕ) (h : List Activity) → start ≤ DAY_MINUTES →
    Passes 1 (day_ok start) (day_after start) (day_made 0 0) first h ↔ ((i : ℕ) → MeetsDay (ca_day start first) (padded (Canada berth way cycle start) h) i)
path_day berth way cycle start first h least =
    guard_exact (Canada berth way cycle start) first (MeetsDay (ca_day start first)) (TracksDay start first) (day_ok start) (day_after start) (day_is_guard berth way cycle start first least) (day_made 0 0) h (tracks_day_root berth way cycle start first)

-- the parts of a path are lawful, and its marks are those of its places
pub record Parts (berth : Bool) (way : RestWay) (cycle start first : ℕ) (h : List Activity) (marks : List Mark) : Type 0 where
  pub starts : List ℕ
  pub places : AreOfPlaces berth way cycle start first starts marks
  pub parts : KeepsByParts berth way cycle start first h starts marks

pub parts_of_path : (berth : Bool) (way : RestWay) (cycle start first : ℕ) (h : List Activity) (marks : List Mark) (u : CanadaState) → start ≤ DAY_MINUTES → IsTimed (Canada berth way cycle start) first h →
    IsCaPath (ca_may berth way) way start first (root_state way cycle) first PADDING_MINUTES h marks u → Parts berth way cycle start first h marks
parts_of_path berth Split cycle start first h marks u least timed q =
    let named : marks ≡ map (mark_at first) q.starts = q.named.1 in
    let k = path_keeps_splits berth Split cycle start first h marks u timed q in
    let have : HaveMinutes first q.starts = starts_have berth Split cycle start first h q.starts k.splits in
    let none : NoDeferral marks = subst NoDeferral (sym named) (no_deferral first q.starts) in
    let days : TakesDays (ca_day start first) (fresh_days Split) PADDING_MINUTES h [] u.calendar.days = subst (λ ms. TakesDays (ca_day start first) (fresh_days Split) PADDING_MINUTES h ms u.calendar.days) q.named.0 q.days in
    let off = (split_days berth cycle start first h marks none).0 (u.calendar.days, path_days Split start first h [] u.calendar.days days) in
    let cyc = (cycle_rules berth Split cycle start first h marks).0 (u.calendar.cycle, path_cycle cycle start first h u.calendar.cycle q.cycle) in
    record {
      starts = q.starts;
      places = subst (AreOfPlaces berth Split cycle start first q.starts) (sym named) (split_places berth Split cycle start first q.starts have k.order);
      parts = record { splits = k; day = (path_day berth Split cycle start first h least).0 q.day; off = off.0; defer = off.1; off24 = cyc.0; in_cycle = cyc.1; without24 = cyc.2 };
    }
parts_of_path berth Defer cycle start first h marks u least timed q =
    let k = path_keeps_splits berth Defer cycle start first h marks u timed q in
    let splits : KeepsSplits CANADA (ca_may berth Defer) MeetsCanadaShift (padded (Canada berth Defer cycle start) h) [] = subst (KeepsSplits CANADA (ca_may berth Defer) MeetsCanadaShift (padded (Canada berth Defer cycle start) h)) q.named.0 k in
    let days : TakesDays (ca_day start first) (fresh_days Defer) PADDING_MINUTES h marks u.calendar.days = subst (λ ms. TakesDays (ca_day start first) (fresh_days Defer) PADDING_MINUTES h ms u.calendar.days) (sym q.named.1) q.days in
    let off = (defer_days berth cycle start first h marks).0 (u.calendar.days, path_days Defer start first h marks u.calendar.days days) in
    let cyc = (cycle_rules berth Defer cycle start first h marks).0 (u.calendar.cycle, path_cycle cycle start first h u.calendar.cycle q.cycle) in
    record {
      starts = [];
      places = deferral_places berth Defer cycle start first marks off.0 off.1;
      parts = record { splits = splits; day = (path_day berth Defer cycle start first h least).0 q.day; off = off.2; defer = off.3; off24 = cyc.0; in_cycle = cyc.1; without24 = cyc.2 };
    }

-- the places of a path are those of its marks
pub path_same : (berth : Bool) (way : RestWay) (cycle start first : ℕ) (h : List Activity) (marks : List Mark) (u : CanadaState) → start ≤ DAY_MINUTES → IsTimed (Canada berth way cycle start) first h →
    (q : IsCaPath (ca_may berth way) way start first (root_state way cycle) first PADDING_MINUTES h marks u) → AreSame (Contains q.starts) (IsSplitAt (Canada berth way cycle start) first marks)
unfolding parts_of_path
path_same berth Split cycle start first h marks u least timed q = (parts_of_path berth Split cycle start first h marks u least timed q).places.same
path_same berth Defer cycle start first h marks u least timed q =
    subst (λ l. AreSame (Contains l) (IsSplitAt (Canada berth Defer cycle start) first marks)) (sym q.named.0) (parts_of_path berth Defer cycle start first h marks u least timed q).places.same

ca_sound : (berth : Bool) (way : RestWay) (cycle start first : ℕ) (h : List Activity) (marks : List Mark) → start ≤ DAY_MINUTES → IsTimed (Canada berth way cycle start) first h →
    (u : CanadaState) → CaReaches (ca_may berth way) start (root_state way cycle) first h marks u → KeepsAll (Canada berth way cycle start) first h marks
ca_sound berth way cycle start first h marks least timed u r =
    let q = parts_of_path berth way cycle start first h marks u least timed (root_path berth way cycle start first h marks u least r) in
    keeps_of_parts berth way cycle start first h q.starts marks q.places q.parts

-- what a lawful history and its marks come by
record Named (berth : Bool) (way : RestWay) (cycle start first : ℕ) (h : List Activity) (marks : List Mark) : Type 0 where
  starts : List ℕ
  deferred : List Mark
  named : AreNamed way first starts deferred marks
  parts : KeepsByParts berth way cycle start first h starts marks
  days : (d : CanadaDays) × TakesDays (ca_day start first) (fresh_days way) ca_pads h deferred d

named_of_keeps : (berth : Bool) (way : RestWay) (cycle start first : ℕ) (h : List Activity) (marks : List Mark) → KeepsAll (Canada berth way cycle start) first h marks → Named berth way cycle start first h marks
named_of_keeps berth Split cycle start first h marks k =
    let r = has_rules berth Split cycle start first h marks k in
    let placed = marks_placed berth cycle start first h marks r in
    let starts : List ℕ = map (place_of first) marks in
    let named : marks ≡ map (mark_at first) starts = marks_again first marks placed in
    let have : HaveMinutes first starts = places_have first marks placed in
    let same : AreSame (Contains starts) (IsSplitAt (Canada berth Split cycle start) first marks) =
    subst (λ ms. AreSame (Contains starts) (IsSplitAt (Canada berth Split cycle start) first ms)) (sym named) (same_marks (Canada berth Split cycle start) first starts (ca_minutes berth Split cycle start) have) in
    let none : NoDeferral marks = subst NoDeferral (sym named) (no_deferral first starts) in
    record {
      starts = starts;
      deferred = [];
      named = (refl, named);
      parts = parts_of_keeps berth Split cycle start first h starts marks (places_ordered (Canada berth Split cycle start) first marks placed k.marks_of_book) same r;
      days = (split_days berth cycle start first h marks none).1 (r.off, r.defer);
    }
named_of_keeps berth Defer cycle start first h marks k =
    let r = has_rules berth Defer cycle start first h marks k in
    let deferrals : AreDeferrals marks = pair_deferrals (Canada berth Defer cycle start) first (padded (Canada berth Defer cycle start) h) marks refl r.pair in
    let places = deferral_places berth Defer cycle start first marks deferrals k.marks_of_book in
    record {
      starts = [];
      deferred = marks;
      named = (refl, refl);
      parts = parts_of_keeps berth Defer cycle start first h [] marks none_ordered places.same r;
      days = (defer_days berth cycle start first h marks).1 (deferrals, k.marks_of_book, r.off, r.defer);
    }

ca_whole : (berth : Bool) (way : RestWay) (cycle start first : ℕ) (h : List Activity) (marks : List Mark) → start ≤ DAY_MINUTES → IsTimed (Canada berth way cycle start) first h →
    KeepsAll (Canada berth way cycle start) first h marks → (u : CanadaState) × CaReaches (ca_may berth way) start (root_state way cycle) first h marks u
ca_whole berth way cycle start first h marks least timed l =
    let params = Canada berth way cycle start in
    let may : Bool = ca_may berth way in
    let q = named_of_keeps berth way cycle start first h marks l in
    let pads = units_are berth way cycle start in
    let k = (split_exact CANADA may ca_fits MeetsCanadaShift (pad_units params) h q.starts canada_rule canada_limit (omega arith) (short_history berth way cycle start first h timed)).1 q.parts.splits in
    let d : Declares CANADA may ca_fits fresh_count PADDING_MINUTES h q.starts k.0 = subst (λ n. Declares CANADA may ca_fits fresh_count n h q.starts k.0) pads k.1 in
    let days : TakesDays (ca_day start first) (fresh_days way) PADDING_MINUTES h q.deferred q.days.0 = subst (λ n. TakesDays (ca_day start first) (fresh_days way) n h q.deferred q.days.0) pads_are q.days.1 in
    let c = (cycle_rules berth way cycle start first h marks).1 (q.parts.off24, q.parts.in_cycle, q.parts.without24) in
    let cyc : TakesCycle (ca_day start first) (fresh_cycle cycle) PADDING_MINUTES h c.0 = subst (λ n. TakesCycle (ca_day start first) (fresh_cycle cycle) n h c.0) pads_are c.1 in
    let day = (path_day berth way cycle start first h least).1 q.parts.day in
    let j = path_ca may way start first h (root_state way cycle) first PADDING_MINUTES q.starts q.deferred k.0 q.days.0 c.0 (is_may berth way) least refl (omega arith) refl (omega arith) d days cyc day in
    (j.state, subst (λ ms. CaReaches may start (root_state way cycle) first h ms j.state) (named_same way first q.starts q.deferred j.marks marks j.named q.named) j.reached)

-- A history is reached by a path that chooses these marks exactly where it keeps every rule with them.
pub ca_exact : (berth : Bool) (way : RestWay) (cycle start first : ℕ) (h : List Activity) (marks : List Mark) → start ≤ DAY_MINUTES → IsTimed (Canada berth way cycle start) first h →
    ((u : CanadaState) × CaReaches (ca_may berth way) start (root_state way cycle) first h marks u) ↔ KeepsAll (Canada berth way cycle start) first h marks
ca_exact berth way cycle start first h marks least timed =
    ((λ r. ca_sound berth way cycle start first h marks least timed r.0 r.1), (λ l. ca_whole berth way cycle start first h marks least timed l))
