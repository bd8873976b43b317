-- The front of a history keeps each Australian rule that the whole one keeps.
use Rattle.std.proofs.Common.{ℕ, ◌+◌, ◌≤◌, List, ◌++◌, length, sym, refl, ◌∙◌, ap, arith, inl, inr}
use Rattle.std.proofs.lemmas.Bool.{cases_lt}
use Rattle.duty_core.specs.declared.activity.Activity.{Activity}
use Rattle.duty_core.specs.declared.mark.Mark.{Mark}
use Rattle.duty_core.specs.declared.params.Params.TheVariants.{Hvnl}
use Rattle.duty_core.specs.declared.rule.Rule.TheVariants.{Au5h30, Au8h, Au11h, Au24h, Au24hRest, Au7d, Au7dRest, Au14d, Au14dNights}
use Rattle.duty_core.specs.Activity.{rests, works}
use Rattle.duty_core.specs.History.{unit_at, padding, padded}
use Rattle.duty_core.specs.Stretch.{HoldsRest}
use Rattle.duty_core.specs.Counting.{duty}
use Rattle.duty_core.specs.Laws.CountLaws.{count_less}
use Rattle.duty_core.specs.AuPeriods.{IsStart}
use Rattle.duty_core.specs.AuNights.{HasBreakBy, HasBreak, HasNights, HasTwoNights}
use Rattle.duty_core.specs.Laws.PrefixLaws.{IsFront, no_duty, front_duty, front_rest, padded_is_front}
use Rattle.duty_core.specs.RuleBooks.{Keeps}

pub front_duty_less : (n : ℕ) (p q : List Activity) → IsFront n p q → (i m : ℕ) → duty p i (i + m) ≤ duty q i (i + m)
front_duty_less n p q f i m = count_less works p q i m refl (λ k x y w. front_duty n p q f k w)

pub front_holds : (n : ℕ) (p q : List Activity) → IsFront n p q → (m from to : ℕ) → HoldsRest m q from to → HoldsRest m p from to
front_holds n p q f m from to h = record { at = h.at; after = h.after; before = h.before; rest = λ k x y. front_rest n p q f k (h.rest k x y) }

-- a start of p is a start of q
pub front_start : (n : ℕ) (p q : List Activity) → IsFront n p q → (r i : ℕ) → IsStart r p i → IsStart r q i
front_start n p q f r i h = elim (cases_lt i n) [
  | inl l ↦ record {
    works_there = ap works (sym (f.same i l)) ∙ h.works_there;
    there = h.there;
    rest = λ k x y. ap rests (sym (f.same k (omega arith))) ∙ h.rest k x y;
  }
  | inr l ↦ absurd (no_duty (unit_at p i) (f.rest i l) h.works_there)
]

front_break_by : (n : ℕ) (p q : List Activity) → IsFront n p q → (by m : ℕ) → HasBreakBy by q m → HasBreakBy by p m
front_break_by n p q f by m h = record { from = h.from; to = h.to; over = h.over; rest = λ k x y. front_rest n p q f k (h.rest k x y); lies = h.lies }

pub front_break : (n : ℕ) (p q : List Activity) → IsFront n p q → (m : ℕ) → HasBreak q m → HasBreak p m
front_break n p q f m h = (h.0, front_break_by n p q f h.0 m h.1)

pub front_nights : (n : ℕ) (p q : List Activity) → IsFront n p q → (least first i m : ℕ) → HasNights least first q i m → HasNights least first p i m
front_nights n p q f least first i m h = record {
  nights = h.nights;
  apart = h.apart;
  enough = h.enough;
  broken = λ k d l. (let b = h.broken k d l in (b.0, front_break n p q f _ b.1));
}

pub front_two_nights : (n : ℕ) (p q : List Activity) → IsFront n p q → (first i m : ℕ) → HasTwoNights first q i m → HasTwoNights first p i m
front_two_nights n p q f first i m h = record {
  night = h.night;
  one = (h.one.0, front_break n p q f _ h.one.1);
  next = (h.next.0, front_break n p q f _ h.next.1);
}

-- less duty, where it is counted from starts of both
duty_front : (h g : List Activity) (r m limit : ℕ) → ((i : ℕ) → IsStart r (padded Hvnl (h ++ g)) i → duty (padded Hvnl (h ++ g)) i (i + m) ≤ limit) →
    (i : ℕ) → IsStart r (padded Hvnl h) i → duty (padded Hvnl h) i (i + m) ≤ limit
duty_front h g r m limit all i s =
    let f = padded_is_front Hvnl h g in
    let n : ℕ = length (padding Hvnl ++ h) in
    let a : duty (padded Hvnl (h ++ g)) i (i + m) ≤ limit = all i (front_start n (padded Hvnl h) (padded Hvnl (h ++ g)) f r i s) in
    let b : duty (padded Hvnl h) i (i + m) ≤ duty (padded Hvnl (h ++ g)) i (i + m) = front_duty_less n (padded Hvnl h) (padded Hvnl (h ++ g)) f i m in
    omega arith

rest_front : (h g : List Activity) (r m rest : ℕ) → ((i : ℕ) → IsStart r (padded Hvnl (h ++ g)) i → HoldsRest rest (padded Hvnl (h ++ g)) i (i + m)) →
    (i : ℕ) → IsStart r (padded Hvnl h) i → HoldsRest rest (padded Hvnl h) i (i + m)
rest_front h g r m rest all i s =
    let f = padded_is_front Hvnl h g in
    let n : ℕ = length (padding Hvnl ++ h) in
    front_holds n (padded Hvnl h) (padded Hvnl (h ++ g)) f rest i (i + m) (all i (front_start n (padded Hvnl h) (padded Hvnl (h ++ g)) f r i s))

pub au_5h30_front : (first : ℕ) (h g : List Activity) (marks : List Mark) → Keeps Hvnl first (h ++ g) marks Au5h30 → Keeps Hvnl first h marks Au5h30
au_5h30_front first h g marks all = duty_front h g _ _ _ all

pub au_8h_front : (first : ℕ) (h g : List Activity) (marks : List Mark) → Keeps Hvnl first (h ++ g) marks Au8h → Keeps Hvnl first h marks Au8h
au_8h_front first h g marks all = duty_front h g _ _ _ all

pub au_11h_front : (first : ℕ) (h g : List Activity) (marks : List Mark) → Keeps Hvnl first (h ++ g) marks Au11h → Keeps Hvnl first h marks Au11h
au_11h_front first h g marks all = duty_front h g _ _ _ all

pub au_24h_front : (first : ℕ) (h g : List Activity) (marks : List Mark) → Keeps Hvnl first (h ++ g) marks Au24h → Keeps Hvnl first h marks Au24h
au_24h_front first h g marks all = duty_front h g _ _ _ all

pub au_24h_rest_front : (first : ℕ) (h g : List Activity) (marks : List Mark) → Keeps Hvnl first (h ++ g) marks Au24hRest → Keeps Hvnl first h marks Au24hRest
au_24h_rest_front first h g marks all = rest_front h g _ _ _ all

pub au_7d_front : (first : ℕ) (h g : List Activity) (marks : List Mark) → Keeps Hvnl first (h ++ g) marks Au7d → Keeps Hvnl first h marks Au7d
au_7d_front first h g marks all = duty_front h g _ _ _ all

pub au_7d_rest_front : (first : ℕ) (h g : List Activity) (marks : List Mark) → Keeps Hvnl first (h ++ g) marks Au7dRest → Keeps Hvnl first h marks Au7dRest
au_7d_rest_front first h g marks all = rest_front h g _ _ _ all

pub au_14d_front : (first : ℕ) (h g : List Activity) (marks : List Mark) → Keeps Hvnl first (h ++ g) marks Au14d → Keeps Hvnl first h marks Au14d
au_14d_front first h g marks all = duty_front h g _ _ _ all

pub au_14d_nights_front : (first : ℕ) (h g : List Activity) (marks : List Mark) → Keeps Hvnl first (h ++ g) marks Au14dNights → Keeps Hvnl first h marks Au14dNights
au_14d_nights_front first h g marks all i s =
    let f = padded_is_front Hvnl h g in
    let n : ℕ = length (padding Hvnl ++ h) in
    let b = all i (front_start n (padded Hvnl h) (padded Hvnl (h ++ g)) f _ i s) in
    (front_nights n (padded Hvnl h) (padded Hvnl (h ++ g)) f _ first i _ b.0, front_two_nights n (padded Hvnl h) (padded Hvnl (h ++ g)) f first i _ b.1)
