-- There is one list of readings, and each agrees with its rule.
use Rattle.std.proofs.Common.{◌≡◌, ℕ, ◌+◌, ◌-◌, ◌*◌, ◌≤◌, ◌↔◌, List, [], ◌∷◌, Option, Some, None, refl, sym, ◌∙◌, ap, subst, arith, suc}
use Rattle.std.specs.Prelude.{All, map}
use Rattle.duty_core.specs.declared.activity.Activity.{Activity}
use Rattle.duty_core.specs.declared.activity.Activity.TheVariants.{Drive}
use Rattle.duty_core.specs.declared.mark.Mark.{Mark}
use Rattle.duty_core.specs.declared.params.Params.{Params}
use Rattle.duty_core.specs.declared.rule.Rule.{Rule}
use Rattle.duty_core.specs.declared.limits.TheConstants.{CA_DAY_OFF, CA_DAY_OFF_WITHIN}
use Rattle.duty_core.specs.Params.{unit_minutes}
use Rattle.duty_core.specs.History.{unit_at, padded}
use Rattle.duty_core.specs.Stretch.{HoldsRest}
use Rattle.duty_core.specs.Counting.{IsLastEnd}
use Rattle.duty_core.specs.RuleBooks.{Keeps}
use Rattle.rule_readings.specs.declared.best.Order.{Order}
use Rattle.rule_readings.specs.declared.best.Order.TheVariants.{Greatest, Least}
use Rattle.rule_readings.specs.declared.reading.Reading.{Reading}
use Rattle.rule_readings.specs.declared.scope.Scope.{Scope}
use Rattle.rule_readings.specs.declared.measure.TheConstants.{CA_SINCE_DAY_OFF_LIMIT}
use Rattle.rule_readings.specs.Asked.{asked_of, order_of}
use Rattle.rule_readings.specs.Best.{IsNoBetter, IsBestFirst}
use Rattle.rule_readings.specs.Values.{IsValue}
use Rattle.rule_readings.specs.Readings.{scope_of, IsReading, IsReadingFound, AreReadings, IsWithin}
use Rattle.rule_readings.proofs.DayOff.{day_off_back, day_off_from}
use Rattle.rule_readings.proofs.DeclaredRuns.{minute_is}
use Rattle.rule_readings.proofs.RuleLaws.{kept_within}

-- # One list of readings

no_better_once : (order : Order) (n m : ℕ) → IsNoBetter order n m → IsNoBetter order m n → n ≡ m
no_better_once Greatest n m h g = omega arith
no_better_once Least n m h g = omega arith

-- what two best values have alike
record AreOne (i n k m : ℕ) : Type 0 where
  place : i ≡ k
  value : n ≡ m

best_once : (order : Order) (Value : ℕ → ℕ → Type 0) (i n k m : ℕ) → IsBestFirst order Value i n → IsBestFirst order Value k m → AreOne i n k m
best_once order Value i n k m h g =
    let e = no_better_once order n m (h.best k m g.there) (g.best i n h.there) in
    let x = h.first k (subst (Value k) (sym e) g.there) in
    let y = g.first i (subst (Value i) e h.there) in
    record { place = omega arith; value = e }

same_reading : (a b : Reading) → a.used ≡ b.used → a.limit ≡ b.limit → a.at ≡ b.at → a ≡ b
same_reading a b u l t =
    let x : a ≡ record { used = b.used; limit = a.limit; at = a.at } = ap (λ (n : ℕ). record { used = n; limit = a.limit; at = a.at }) u in
    let y : record { used = b.used; limit = a.limit; at = a.at } ≡ record { used = b.used; limit = b.limit; at = a.at } = ap (λ (n : ℕ). record { used = b.used; limit = n; at = a.at }) l in
    let z : record { used = b.used; limit = b.limit; at = a.at } ≡ b = ap (λ (n : ℕ). record { used = b.used; limit = b.limit; at = n }) t in
    x ∙ (y ∙ z)

reading_once : (s : Scope) (p : List Activity) (marks : List Mark) (rule : Rule) (a b : Reading) → IsReading s p marks rule a → IsReading s p marks rule b → a ≡ b
reading_once s p marks rule a b h g =
    let o = best_once (order_of (asked_of s.params rule).measure) (IsValue s p marks rule) h.place a.used g.place b.used h.best g.best in
    let x = (minute_is s.params s.first h.place a.at).0 h.minute in
    let y = (minute_is s.params s.first g.place b.at).0 g.minute in
    let q = ap (λ k. s.first + unit_minutes s.params * k) o.place in
    same_reading a b o.value (h.limit ∙ sym g.limit) (omega arith)

found_once : (s : Scope) (p : List Activity) (marks : List Mark) (rule : Rule) (a b : Option Reading) → IsReadingFound s p marks rule a → IsReadingFound s p marks rule b → a ≡ b
found_once s p marks rule None None h g = refl
found_once s p marks rule None (Some b) h g = absurd (h g.place b.used g.best.there)
found_once s p marks rule (Some a) None h g = absurd (g h.place a.used h.best.there)
found_once s p marks rule (Some a) (Some b) h g = ap Some (reading_once s p marks rule a b h g)

lines_once : (Found : Rule → Option Reading → Type 0) → ((rule : Rule) (a b : Option Reading) → Found rule a → Found rule b → a ≡ b) → (these those : List (Rule × Option Reading)) →
    map (λ (line : Rule × Option Reading). line.0) these ≡ map (λ (line : Rule × Option Reading). line.0) those → All (λ (line : Rule × Option Reading). Found line.0 line.1) these →
    All (λ (line : Rule × Option Reading). Found line.0 line.1) those → these ≡ those
lines_once Found once [] [] e h g = refl
lines_once Found once [] (y ∷ those) e h g = absurd (cc)
lines_once Found once (x ∷ these) [] e h g = absurd (cc)
lines_once Found once (x ∷ these) (y ∷ those) e h g =
    let rule : x.0 ≡ y.0 = cc in
    let rest : map (λ (line : Rule × Option Reading). line.0) these ≡ map (λ (line : Rule × Option Reading). line.0) those = cc in
    let found : x.1 ≡ y.1 = once y.0 x.1 y.1 (subst (λ r. Found r x.1) rule (h 0 x (omega arith))) (g 0 y (omega arith)) in
    let first : x ≡ y = ap (λ (r : Rule). (r, x.1)) rule ∙ ap (λ (f : Option Reading). (y.0, f)) found in
    let later : these ≡ those = lines_once Found once these those rest (λ k d l. h (suc k) d (omega arith)) (λ k d l. g (suc k) d (omega arith)) in
    ap (λ line. line ∷ these) first ∙ ap (λ lines. y ∷ lines) later

pub readings_once : (params : Params) (first from : ℕ) (h : List Activity) (marks : List Mark) (these those : List (Rule × Option Reading)) → AreReadings params first h from marks these → AreReadings params first h from marks those → these ≡ those
readings_once params first from h marks these those x y =
    lines_once (IsReadingFound (scope_of params first h from) (padded params h) marks) (found_once (scope_of params first h from) (padded params h) marks) these those (x.rules ∙ sym y.rules) x.each y.each

-- # Readings and their rules

pub reading_within : (params : Params) (first from : ℕ) (h : List Activity) (marks : List Mark) (rule : Rule) (reading : Reading) → Keeps params first h marks rule → IsReading (scope_of params first h from) (padded params h) marks rule reading →
    IsWithin (order_of (asked_of params rule).measure) reading.limit reading.used
reading_within params first from h marks rule reading k g =
    subst (λ limit. IsWithin (order_of (asked_of params rule).measure) limit reading.used) (sym g.limit) (kept_within (scope_of params first h from) (padded params h) marks rule g.place reading.used k g.best.there)

-- # 24 hours of rest in 14 days

pub day_off_two_ways : (p : List Activity) (i to : ℕ) → unit_at p i ≡ Drive → IsLastEnd CA_DAY_OFF p i to → HoldsRest CA_DAY_OFF p (i - CA_DAY_OFF_WITHIN) i ↔ (i ≤ to + CA_SINCE_DAY_OFF_LIMIT)
day_off_two_ways p i to d h = ((λ r. let l = day_off_back p i to d h r in omega arith), (λ l. day_off_from p i to h (omega arith)))
