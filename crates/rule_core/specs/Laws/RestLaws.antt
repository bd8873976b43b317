-- Resting in place of many equal units, where that is safe.
use Rattle.std.proofs.Common.{◌≡◌, ℕ, ◌+◌, ◌*◌, true, List, [], ◌++◌, refl, subst, arith, zero, suc}
use Rattle.std.specs.Prelude.{replicate}
use Rattle.std.specs.Option.{option_to_list}
use Rattle.duty_core.specs.declared.activity.Activity.{Activity}
use Rattle.duty_core.specs.declared.mark.Mark.{Mark}
use Rattle.duty_core.specs.declared.params.Params.{Params}
use Rattle.duty_core.specs.Params.{unit_minutes, allows}
use Rattle.rule_core.specs.Reach.{Reaches}
use Rattle.rule_core.specs.TourRest.{tour_rest}
use Rattle.rule_core.specs.Machine.{Machine}
use Rattle.rule_core.specs.Book.{IsLasting, IsAheadLaw}

-- As many units of the tour's rest lead to a state that covers what the units lead to.
pub record IsRestAnswer {S : Type 0} (params : Params) (m : Machine S) (a : S) (at n : ℕ) (t : S) : Type 0 where
  pub state : S
  pub marks : List Mark
  pub reached : Reaches (unit_minutes params) m.nexts a at (replicate n (tour_rest params)) marks state
  pub covers_it : m.covers state t (at + unit_minutes params * n) ≡ true

pub rest_answers : {S : Type 0} (params : Params) (m : Machine S) →
    IsLasting params m → IsAheadLaw params m →
    (n : ℕ) (a b : S) (at : ℕ) (x : Activity) (marks : List Mark) (t : S) → m.is_state a at → m.is_state b at → m.ahead a ≡ true → allows params x ≡ true → m.covers a b at ≡ true →
    Reaches (unit_minutes params) m.nexts b at (replicate n x) marks t → IsRestAnswer params m a at n t
rest_answers params m l r zero a b at x marks t i j h w c p = record {
  state = a;
  marks = [];
  reached = (refl, refl);
  covers_it = subst (λ n. m.covers a t n ≡ true) (let e : at ≡ at + unit_minutes params * 0 = omega arith in e) (subst (λ s. m.covers a s at ≡ true) p.0 c);
}
rest_answers params m l r (suc n) a b at x marks t i j h w c p =
    let unit : ℕ = unit_minutes params in
    let k = l.simulation a b at x p.0 i j c w p.1 in
    let u = r.ahead_rests a at x k.0 i h w k.1 in
    let iu = l.next_is_state a at (tour_rest params) u.0 i u.1 in
    let ik = l.next_is_state a at x k.0 i k.1 in
    let jn = l.next_is_state b at x p.0 j p.1 in
    let q = rest_answers params m l r n u.0.state p.0.state (at + unit) x p.2 t iu jn u.2 w (l.covers_on u.0.state k.0.state p.0.state (at + unit) iu ik jn u.3 k.2) p.4 in
    record {
      state = q.state;
      marks = option_to_list u.0.mark ++ q.marks;
      reached = (u.0, u.1, q.marks, refl, q.reached);
      covers_it = subst (λ k. m.covers q.state t k ≡ true) (let e : at + unit + unit * n ≡ at + unit * suc n = omega arith in e) q.covers_it;
    }
