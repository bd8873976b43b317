use Rattle.std.proofs.Common.{sym, subst, ◌∙◌}
use Rattle.rest_bound.specs.Table.{IsWithRest}
use Rattle.rest_bound.proofs.WalkLaws.{rest_taken}
use Rattle.rest_bound.proofs.terms.Terms.with_rest.Goals as goal

pub returns-then-idles : goal.returns-then-idles
returns-then-idles g c =
    subst (IsWithRest _ _ _ _ _ _ _) (sym c.sooner_end.ensures)
    (rest_taken _ _ _ _ _ _ _ _ (sym c.idles.ensures ∙ c.if-idles.true) c.fresh_end.ensures)
