use Rattle.std.proofs.Common.{◌≡◌, ◌+◌, ◌*◌, sym, ◌∙◌, ap, subst, refl, IfOk}
use Rattle.duty_core.specs.Params.{unit_minutes}
use Rattle.rule_core.specs.Replay.{AreRootStates}
use Rattle.rule_core.specs.Pruned.{ArePruned}
use Rattle.rule_core.proofs.PrunedLaws.{pruned_all}
use Rattle.rule_core.proofs.ReplayLaws.{states_after}
use Rattle.rule_core.proofs.over_log.roots_on.Goals as goal

pub returns-then-len-before : goal.returns-then-len-before
returns-then-len-before g c = subst (λ rs. ArePruned (λ a b. a ≡ b) rs c.in_ok-after.after) c.in_ok-after.ensures (pruned_all (λ a b. a ≡ b) c.in_ok-after.after (λ root. refl))

pub distinct-requires : goal.distinct-requires
distinct-requires g c =
    let m = g.B.RuleBook.machine c.args.book.now in
    let minutes : unit_minutes m.params ≡ c.unit_of.result = sym (c.unit_of.ensures ∙ ap unit_minutes c.params.ensures) in
    record {
      states = subst (λ u. AreRootStates m (c.args.at + u * c.args.n) c.in_ok-after.after) minutes (subst (AreRootStates m (c.args.at + unit_minutes m.params * c.args.n)) (sym c.in_ok-after.ensures)
          (states_after m.params m c.args.at c.args.act c.args.n c.args.roots (g.met.B.RuleBook.laws c.args.book.now) c.requires.states));
    }

pub returns : goal.returns
returns g c = subst (λ rs. IfOk c.distinct.result (ArePruned (λ a b. a ≡ b) rs)) c.in_ok-after.ensures c.distinct.ensures.kept
