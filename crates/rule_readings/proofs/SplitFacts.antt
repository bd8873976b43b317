-- Split rests and pairs.
use Rattle.std.proofs.Common.{◌≡◌, ℕ, ◌*◌, ◌<◌, true, false, List, Contains, length, get_or, sym, ◌∙◌, ap, subst, arith, inl, inr}
use Rattle.std.proofs.lemmas.Bool.{cases_lt}
use Rattle.std.proofs.lemmas.Int.{ints}
use Rattle.duty_core.specs.declared.activity.Activity.{Activity}
use Rattle.duty_core.specs.declared.mark.Mark.{Mark}
use Rattle.duty_core.specs.declared.mark.Mark.TheVariants.{SplitRest, DeferDay}
use Rattle.duty_core.specs.declared.params.Params.{Params}
use Rattle.duty_core.specs.declared.limits.TheConstants.{US_FULL_REST, US_SPLIT_LEAST, US_PAIR_LEAST, US_PAIR_BERTH, CA_FULL_REST, CA_SPLIT_LEAST}
use Rattle.duty_core.specs.RestRun.{IsRun}
use Rattle.duty_core.specs.Stretch.{IsBerth}
use Rattle.duty_core.specs.Day.{minute_at}
use Rattle.duty_core.specs.Marks.{IsSplitAt}
use Rattle.duty_core.specs.DeclaredRest.{ArePairedAt}
use Rattle.duty_core.specs.UsRules.{IsUsSplit, MeetsUsPair}
use Rattle.duty_core.specs.CaShift.{IsSplitWay, IsCaPair, IsCaSplit, MeetsCaPair}
use Rattle.rule_readings.specs.declared.ca_pair.TheConstants.{CA_PAIR}
use Rattle.rule_readings.specs.declared.pairs.PairTerms.{PairTerms}
use Rattle.rule_readings.specs.declared.pairs.PairBerth.TheVariants.{InEither}
use Rattle.rule_readings.specs.Pairs.{IsPair, NamesSplit}
use Rattle.rule_readings.specs.Splits.{IsUsMark}
use Rattle.rule_readings.proofs.Books.{book_unit}

-- two runs that begin at one place are one
run_end : (p : List Activity) (a b d : ℕ) → IsRun p a b → IsRun p a d → b ≡ d
run_end p a b d h g =
    let x = h.some in
    let y = g.some in
    elim (cases_lt b d) [
      | inl l ↦ absurd (let z : true ≡ false = sym (g.rest b (omega arith) l) ∙ h.ended in cc)
      | inr m ↦ elim (cases_lt d b) [
        | inl l ↦ absurd (let z : true ≡ false = sym (h.rest d (omega arith) l) ∙ g.ended in cc)
        | inr n ↦ omega arith
      ]
    ]

-- a minute is that of one place
place_once : (params : Params) (first i k : ℕ) → minute_at params first i ≡ minute_at params first k → i ≡ k
place_once params first i k e = elim (book_unit params) [
  | inl h ↦ (let a = ap (λ u. u * i) h.unit in let b = ap (λ u. u * k) h.unit in omega (arith, ints))
  | inr h ↦ (let a = ap (λ u. u * i) h.unit in let b = ap (λ u. u * k) h.unit in omega (arith, ints))
]

pub split_from : (params : Params) (first : ℕ) (p : List Activity) (at a b : ℕ) → NamesSplit params first CA_SPLIT_LEAST CA_FULL_REST p at a b → IsSplitWay params → IsBerth p a b → IsCaSplit params first p at
split_from params first p at a b h w all = record {
  from = a;
  minute = h.minute;
  run = record { to = b; run = h.run; long = h.long; short = h.short; berthed = h.berthed };
  berth = all;
  split_way = w;
}

pub split_berth : (params : Params) (first : ℕ) (p : List Activity) (at a b : ℕ) → NamesSplit params first CA_SPLIT_LEAST CA_FULL_REST p at a b → IsCaSplit params first p at → IsBerth p a b
split_berth params first p at a b h g =
    let e : g.from ≡ a = place_once params first g.from a (sym g.minute ∙ h.minute) in
    let r : IsRun p a g.run.to = subst (λ i. IsRun p i g.run.to) e g.run.run in
    let f : g.run.to ≡ b = run_end p a g.run.to b r h.run in
    subst (λ i. IsBerth p a i) f (subst (λ i. IsBerth p i g.run.to) e g.berth)

-- pairs in Canada
pair_from : (p : List Activity) (a b c d : ℕ) → IsPair CA_PAIR p a b c d → IsCaPair p a b c d
pair_from p a b c d h = record { sum = h.sum; berth = h.berth }

pair_back : (p : List Activity) (a b c d : ℕ) → IsCaPair p a b c d → IsPair CA_PAIR p a b c d
pair_back p a b c d h = record { sum = h.sum; berth = h.berth }

pub meets_from : (params : Params) (first : ℕ) (p : List Activity) (marks : List Mark) → ((at : ℕ) → Contains marks (SplitRest at) → IsCaSplit params first p at) →
    ((d : ℕ) → ArePairedAt CA_FULL_REST (IsPair CA_PAIR p) p (IsSplitAt params first marks) d) → MeetsCaPair params first p marks
meets_from params first p marks s h = record { splits = s; pairs = λ d a b c x y. pair_from p a b c d (h d a b c x y) }

pub meets_pairs : (params : Params) (first : ℕ) (p : List Activity) (marks : List Mark) → MeetsCaPair params first p marks → (d : ℕ) → ArePairedAt CA_FULL_REST (IsPair CA_PAIR p) p (IsSplitAt params first marks) d
meets_pairs params first p marks h = λ d a b c x y. pair_back p a b c d (h.pairs d a b c x y)

-- # In the United States

pub split_named : (params : Params) (first : ℕ) (p : List Activity) (at : ℕ) → IsUsSplit params first p at → (from : ℕ) × (to : ℕ) × NamesSplit params first US_SPLIT_LEAST US_FULL_REST p at from to
split_named params first p at h = (h.from, h.run.to, record { minute = h.minute; run = h.run.run; long = h.run.long; short = h.run.short; berthed = h.run.berthed })

pub named_split : (params : Params) (first : ℕ) (p : List Activity) (at from to : ℕ) → NamesSplit params first US_SPLIT_LEAST US_FULL_REST p at from to → IsUsSplit params first p at
named_split params first p at from to h = record { from = from; minute = h.minute; run = record { to = to; run = h.run; long = h.long; short = h.short; berthed = h.berthed } }

abbrev pub us_terms : PairTerms
us_terms = record { full = US_FULL_REST; least = US_PAIR_LEAST; berth = InEither US_PAIR_BERTH }

-- what is asked of all marks and of all pairs
pub meets_pair : (params : Params) (first : ℕ) (p : List Activity) (marks : List Mark) → ((k : ℕ) (d : Mark) → k < length marks → IsUsMark params first p (get_or marks k d)) →
    ((d : ℕ) → ArePairedAt US_FULL_REST (IsPair us_terms p) p (IsSplitAt params first marks) d) → MeetsUsPair params first p marks
meets_pair params first p marks each pairs = record {
  splits = λ at c. subst (IsUsMark params first p) c.2 (each c.0 (SplitRest at) c.1);
  none_deferred = λ day c. subst (IsUsMark params first p) c.2 (each c.0 (DeferDay day) c.1);
  pairs = λ d a b c s n. let h = pairs d a b c s n in record { sum = h.sum; berth = h.berth };
}

pub pair_marks : (params : Params) (first : ℕ) (p : List Activity) (marks : List Mark) (mark : Mark) → MeetsUsPair params first p marks → Contains marks mark → IsUsMark params first p mark
pair_marks params first p marks (SplitRest at) h c = h.splits at c
pair_marks params first p marks (DeferDay day) h c = h.none_deferred day c

pub pair_pairs : (params : Params) (first : ℕ) (p : List Activity) (marks : List Mark) → MeetsUsPair params first p marks → (d : ℕ) → ArePairedAt US_FULL_REST (IsPair us_terms p) p (IsSplitAt params first marks) d
pair_pairs params first p marks h d a b c s n = let g = h.pairs d a b c s n in record { sum = g.sum; berth = g.berth }
