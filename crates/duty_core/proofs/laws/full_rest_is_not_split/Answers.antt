use Rattle.duty_core.specs.Marks.{IsSplitAt}
use Rattle.duty_core.specs.Laws.MarkLaws.{us_split_not_full, ca_split_not_full, split_not_full}
use Rattle.duty_core.proofs.laws.full_rest_is_not_split.Goals as goal

pub returns : goal.returns
returns c = record {
  united_states = λ berth days start first h marks at from to m l d k. us_split_not_full berth days start first h marks at from to k d m l;
  canada = λ berth way cycle start first h marks at from to m l d k. ca_split_not_full berth way cycle start first h marks at from to k d m l;
  apart = λ full first p marks from to. split_not_full full p (IsSplitAt c.args.params first marks) from to to;
}
