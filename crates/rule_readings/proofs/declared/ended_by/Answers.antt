use Rattle.std.proofs.Common.{leb, rules}
use Rattle.std.proofs.lemmas.List.Sorted.{IsPartitionPoint-from_clause, IsPartitionedBy-leb}
use Rattle.rule_readings.specs.declared.padded.RestRun.{RestRun}
use Rattle.rule_readings.proofs.declared.ended_by.Goals as goal

pub returns-clause-first : goal.returns-clause-first
returns-clause-first c =
    let parted = IsPartitionedBy-leb (λ (run : RestRun). run.to) c.args.runs.now c.args.i c.requires in
    IsPartitionPoint-from_clause (λ run. leb run.to c.args.i) _ _ c.partition_point.ensures.partitioned parted (λ a r q k. search rules)
