use Rattle.std.proofs.Common.{leb, length, rules}
use Rattle.std.proofs.lemmas.List.Sorted.{IsPartitionPoint-from_clause, IsPartitionedBy-leb}
use Rattle.duty_core.specs.declared.activity.Activity.TheVariants.{Drive}
use Rattle.timeline.specs.Runs.{spread}
use Rattle.timeline.specs.declared.run.Run.{Run}
use Rattle.timeline.proofs.Search.{ends_rise, found}
use Rattle.timeline.proofs.runs.unit_at.Goals as goal

pub bounds-runs-index : goal.bounds-runs-index
bounds-runs-index c =
    let runs = c.args.runs.now in
    let d : Run = record { act = Drive; from = 0; to = 0 } in
    let parted = IsPartitionedBy-leb (λ (run : Run). run.to) runs c.args.k (ends_rise runs 0 (length (spread runs)) c.requires.runs.joined) in
    let point = IsPartitionPoint-from_clause (λ run. leb run.to c.args.k) _ _ c.partition_point-index.ensures.partitioned parted (λ a r q k. search rules) in
    (found runs c.args.k c.partition_point-index.result d c.requires.runs c.requires.inside c.partition_point-index.ensures.bound point).inside

pub returns : goal.returns
returns c =
    let runs = c.args.runs.now in
    let d : Run = record { act = Drive; from = 0; to = 0 } in
    let parted = IsPartitionedBy-leb (λ (run : Run). run.to) runs c.args.k (ends_rise runs 0 (length (spread runs)) c.requires.runs.joined) in
    let point = IsPartitionPoint-from_clause (λ run. leb run.to c.args.k) _ _ c.partition_point-index.ensures.partitioned parted (λ a r q k. search rules) in
    (found runs c.args.k c.partition_point-index.result d c.requires.runs c.requires.inside c.partition_point-index.ensures.bound point).unit
