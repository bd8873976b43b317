-- Rest right before a place, right after it, and the longest stretch of rest.
use Rattle.std.proofs.Common.{◌≡◌, ℕ, ◌+◌, ◌-◌, ◌≤◌, true, false, List, max, ap, sym, ◌∙◌, arith, inl, inr}
use Rattle.std.proofs.lemmas.Bool.{cases_lt}
use Rattle.duty_core.specs.declared.activity.Activity.{Activity}
use Rattle.duty_core.specs.Activity.{rests}
use Rattle.duty_core.specs.History.{unit_at}
use Rattle.duty_core.specs.Stretch.{IsRest, HoldsRest}
use Rattle.rule_readings.specs.AuCounts.{IsLongestRest}

-- a unit of rest is no other
pub not_both : (p : List Activity) (k : ℕ) → rests (unit_at p k) ≡ true → rests (unit_at p k) ≡ false → ⊥
not_both p k a b = let z : true ≡ false = sym a ∙ b in cc

-- one more unit of rest after a stretch of rest
pub rest_more : (p : List Activity) (from to : ℕ) → IsRest p from to → rests (unit_at p to) ≡ true → IsRest p from (to + 1)
rest_more p from to h r k a b = elim (cases_lt k to) [
  | inl c ↦ h k a c
  | inr c ↦ (let e : to ≡ k = omega arith in ap (λ i. rests (unit_at p i)) (sym e) ∙ r)
]

-- Of the units from place `from` up to `place`, the longest stretch of rest has `most` units, and the last `run` are the rest that they end with.
pub record IsLongestYet (p : List Activity) (from place run most : ℕ) : Type 0 where
  pub there : from + run ≤ place
  pub rest : IsRest p (place - run) place
  pub whole : (at : ℕ) → from ≤ at → IsRest p at place → place ≤ at + run
  pub longest : IsLongestRest p from place most

pub longest_none : (p : List Activity) (from : ℕ) → IsLongestYet p from from 0 0
longest_none p from = record {
  there = omega arith;
  rest = λ k a b. absurd (omega arith);
  whole = λ at a h. omega arith;
  longest = record {
    held = record { at = from; after = omega arith; before = omega arith; rest = λ k a b. absurd (omega arith) };
    longest = λ m h. let a = h.after in let b = h.before in omega arith;
  };
}

-- a stretch inside is inside one more
holds_more : (p : List Activity) (n from to : ℕ) → HoldsRest n p from to → HoldsRest n p from (to + 1)
holds_more p n from to h = record { at = h.at; after = h.after; before = (let b = h.before in omega arith); rest = h.rest }

pub longest_rest_more : (p : List Activity) (from place run longest after now : ℕ) → rests (unit_at p place) ≡ true → after ≡ run + 1 → now ≡ max longest after → IsLongestYet p from place run longest → IsLongestYet p from (place + 1) after now
longest_rest_more p from place run longest after now r f e y =
    let t = y.there in
    let ended : IsRest p (place - run) (place + 1) = rest_more p (place - run) place y.rest r in
    record {
      there = omega arith;
      rest = λ k a b. ended k (omega arith) b;
      whole = λ at a h. elim (cases_lt place at) [
        | inl c ↦ omega arith
        | inr c ↦ (let w = y.whole at a (λ k x z. h k x (omega arith)) in omega arith)
      ];
      longest = record {
        held = elim (cases_lt longest (run + 1)) [
          | inl c ↦ (let s : now ≡ run + 1 = omega arith in record { at = place - run; after = omega arith; before = omega arith; rest = λ k a b. ended k a (omega arith) })
          | inr c ↦ (let s : now ≡ longest = omega arith in let g = holds_more p longest from place y.longest.held in let q = g.before in record { at = g.at; after = g.after; before = omega arith; rest = λ k a b. g.rest k a (omega arith) })
        ];
        longest = λ m h. (let a = h.after in let b = h.before in elim (cases_lt place (h.at + m)) [
          | inl c ↦ (elim (cases_lt place h.at) [
            | inl d ↦ omega arith
            | inr d ↦ (let w = y.whole h.at a (λ k x z. h.rest k x (omega arith)) in omega arith)
          ])
          | inr c ↦ (let w = y.longest.longest m (record { at = h.at; after = a; before = c; rest = h.rest }) in omega arith)
        ]);
      };
    }

pub longest_duty_more : (p : List Activity) (from place run longest after now : ℕ) → rests (unit_at p place) ≡ false → after ≡ 0 → now ≡ max longest after → IsLongestYet p from place run longest → IsLongestYet p from (place + 1) after now
longest_duty_more p from place run longest after now r f e y =
    let t = y.there in
    let s : now ≡ longest = omega arith in
    record {
      there = omega arith;
      rest = λ k a b. absurd (omega arith);
      whole = λ at a h. elim (cases_lt place at) [
        | inl c ↦ omega arith
        | inr c ↦ absurd (not_both p place (h place c (omega arith)) r)
      ];
      longest = record {
        held = (let g = holds_more p longest from place y.longest.held in let q = g.before in record { at = g.at; after = g.after; before = omega arith; rest = λ k a b. g.rest k a (omega arith) });
        longest = λ m h. (let a = h.after in let b = h.before in elim (cases_lt place (h.at + m)) [
          | inl c ↦ (elim (cases_lt place h.at) [
            | inl d ↦ omega arith
            | inr d ↦ absurd (not_both p place (h.rest place d c) r)
          ])
          | inr c ↦ (let w = y.longest.longest m (record { at = h.at; after = a; before = c; rest = h.rest }) in omega arith)
        ]);
      };
    }
