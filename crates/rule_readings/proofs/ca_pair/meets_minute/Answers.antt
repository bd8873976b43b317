use Rattle.std.proofs.Common.{refl}
use Rattle.rule_readings.proofs.SplitFacts.{split_from, split_berth}
use Rattle.rule_readings.proofs.ca_pair.meets_minute.Goals as goal

pub returns-then-is_split_way : goal.returns-then-is_split_way
returns-then-is_split_way c =
    let params = c.args.history.now.scope.params in
    let first = c.args.history.now.scope.first in
    let p = c.args.history.now.padded.now in
    let at = c.args.at in
    let run = c.in-Some.rest in (
      λ t. split_from params first p at run.from run.to c.in-Some.ensures (c.if-is_split_way.ensures.0 refl) (c.is_berth.ensures.0 t),
      λ h. c.is_berth.ensures.1 (split_berth params first p at run.from run.to c.in-Some.ensures h),
    )
