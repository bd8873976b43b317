-- A history reaches one state, and no unit chooses a mark.
use Rattle.std.proofs.Common.{◌≡◌, ◌↔◌, ℕ, ◌+◌, ◌*◌, List, [], ◌∷◌, ◌++◌, length, sym, ◌∙◌, subst}
use Rattle.std.specs.Prelude.{None, Some, replicate}
use Rattle.duty_core.specs.declared.activity.Activity.{Activity}
use Rattle.duty_core.specs.declared.mark.Mark.{Mark}
use Rattle.duty_core.specs.declared.params.Params.TheVariants.{Hvnl}
use Rattle.duty_core.specs.Params.{unit_minutes}
use Rattle.duty_core.specs.History.{IsTimed}
use Rattle.rule_core.specs.Refusal.{IsRefused}
use Rattle.rule_core.specs.Laws.RefusalLaws.{IsSingle, refused_exactly, refused_at_unit}
use Rattle.hvnl_rules.specs.declared.state.HvnlState.{HvnlState}
use Rattle.hvnl_rules.specs.Machine.{root_state, hvnl_nexts, hvnl_advances}
use Rattle.hvnl_rules.specs.Book.{hvnl_book}
use Rattle.hvnl_rules.specs.Laws.Exact.{HvnlReaches, hvnl_exact}
use Rattle.hvnl_rules.specs.Laws.Steps.{next_means, some_same, hvnl_advances_reach, hvnl_advances_all}

one_path : (xs : List Activity) (s : HvnlState) (at : ℕ) (marks others : List Mark) (t u : HvnlState) → HvnlReaches s at xs marks t → HvnlReaches s at xs others u → t ≡ u
one_path [] s at marks others t u r q = sym r.0 ∙ q.0
one_path (x ∷ xs) s at marks others t u r q =
    let m = next_means s at x r.0 r.1 in
    let k = next_means s at x q.0 q.1 in
    let same : r.0.state ≡ q.0.state = some_same r.0.state q.0.state (sym m.0 ∙ k.0) in
    one_path xs q.0.state (at + unit_minutes Hvnl) r.2 q.2 t u (subst (λ v. HvnlReaches v (at + unit_minutes Hvnl) xs r.2 t) same r.4) q.4

hvnl_single : (first : ℕ) → IsSingle Hvnl hvnl_book first
hvnl_single first = record {
  exact = λ h marks timed. hvnl_exact first h marks timed;
  one = λ h marks s t timed r q. one_path h root_state first marks marks s t r q;
  chosen = λ h marks s x n m timed r i e. absurd (let z : None ≡ Some m = sym ((next_means s (first + unit_minutes Hvnl * length h) x n i).1) ∙ e in cc);
}

-- A state that a history reaches has no successors exactly where no marks help the unit.
pub hvnl_refuses : (first : ℕ) (h : List Activity) (marks : List Mark) (s : HvnlState) (x : Activity) → IsTimed Hvnl first (h ++ x ∷ []) → HvnlReaches root_state first h marks s →
    (hvnl_nexts s (first + unit_minutes Hvnl * length h) x ≡ []) ↔ IsRefused Hvnl first h marks (x ∷ [])
hvnl_refuses first h marks s x timed r = refused_at_unit Hvnl hvnl_book first h marks s x (hvnl_single first) timed r

-- Many equal units lead it to nothing exactly where no marks help them.
pub hvnl_refuses_units : (first : ℕ) (h : List Activity) (marks : List Mark) (s : HvnlState) (x : Activity) (n : ℕ) → IsTimed Hvnl first (h ++ replicate n x) → HvnlReaches root_state first h marks s →
    (hvnl_advances s (first + unit_minutes Hvnl * length h) x n ≡ []) ↔ IsRefused Hvnl first h marks (replicate n x)
hvnl_refuses_units first h marks s x n timed r =
    let at : ℕ = first + unit_minutes Hvnl * length h in
    refused_exactly Hvnl hvnl_book first h marks s (replicate n x) (λ t. hvnl_advances t at x n) (hvnl_single first) (λ earlier t q. record { reached = hvnl_advances_reach n t at x; all = hvnl_advances_all n t at x })
    timed r
