use Rattle.std.proofs.Common.{◌≡◌, true, ap, ◌∙◌, subst, IfOk}
use Rattle.std.specs.Prelude.{reverse}
use Rattle.std.proofs.lemmas.Result.{IfOk-weaker}
use Rattle.rule_core.specs.Reach.{IsOneOf}
use Rattle.rule_core.specs.Pruned.{ArePruned, AreUncovered}
use Rattle.rule_core.proofs.PrunedLaws.{pruned_on, pruned_reversed}
use Rattle.rule_core.proofs.pruned.uncovered.Given.{Over}
use Rattle.rule_core.proofs.pruned.uncovered.Goals as goal
use Rattle.rule_core.proofs.pruned.uncovered.Goals.{After-reverse}

-- what the first turn keeps, the other way round
turned : (g : Over) (c : After-reverse g) → ArePruned (λ a b. (g.B.RuleBook.machine c.args.book.now).covers a b c.args.at ≡ true) c.args.roots c.reverse.new.self.items
turned g c =
    let e : c.reverse.new.self.items ≡ reverse c.in_ok-uncovered_by_earlier.field-0 = c.reverse.ensures.items ∙ ap reverse c.into_vec-roots.ensures in
    pruned_reversed (λ a b. (g.B.RuleBook.machine c.args.book.now).covers a b c.args.at ≡ true) c.args.roots c.in_ok-uncovered_by_earlier.field-0 c.reverse.new.self.items e c.in_ok-uncovered_by_earlier.ensures.kept

pub uncovered_by_earlier-requires-2 : goal.uncovered_by_earlier-requires-2
uncovered_by_earlier-requires-2 g c = record { states = λ root o. c.requires.states root ((turned g (goal.at.uncovered_by_earlier-requires-2 g c).After-reverse).among root (subst (λ ys. IsOneOf ys root) c.from_vec.ensures o)) }

pub returns : goal.returns
returns g c =
    let book = c.args.book.now in
    let m = g.B.RuleBook.machine book in
    let covers : g.row.B-State.Denot → g.row.B-State.Denot → Type 0 = λ a b. m.covers a b c.args.at ≡ true in
    let first = turned g (goal.at.returns g c).After-reverse in
    IfOk-weaker c.uncovered_by_earlier-2.result (AreUncovered m c.args.at c.reverse.new.self.items) (AreUncovered m c.args.at c.args.roots)
    (λ kept so. record {
      kept = pruned_on covers c.args.roots c.reverse.new.self.items kept
          (λ x y z o p q. (g.met.B.RuleBook.laws book).lasts.covers_on x.state y.state z.state c.args.at (c.requires.states x o) (c.requires.states y p) (c.requires.states z q)) first so.kept;
      apart = so.apart;
    })
    (subst (λ ys. IfOk c.uncovered_by_earlier-2.result (AreUncovered m c.args.at ys)) c.from_vec.ensures c.uncovered_by_earlier-2.ensures)
