use Rattle.std.proofs.Common.{ltb, rules}
use Rattle.std.proofs.lemmas.List.Sorted.{IsPartitionPoint-from_clause, IsPartitionedBy-ltb}
use Rattle.model_base.specs.declared.deed.Record.{Record}
use Rattle.model_base.specs.Ranks.{rank}
use Rattle.filling.proofs.Lying.{records_rise, told_before, told_from}
use Rattle.filling.proofs.slots.slot_in.Goals as goal

pub returns-clause-below : goal.returns-clause-below
returns-clause-below c =
    let records = c.args.records.now in
    let parted = IsPartitionedBy-ltb (λ (entry : Record). rank entry.grant) records c.args.name (records_rise records c.requires) in
    let point = IsPartitionPoint-from_clause (λ (entry : Record). ltb (rank entry.grant) c.args.name) records c.partition_point.result c.partition_point.ensures.partitioned parted (λ a r q k. search rules) in
    told_before records c.args.name c.partition_point.result point

pub returns-clause-above : goal.returns-clause-above
returns-clause-above c =
    let records = c.args.records.now in
    let parted = IsPartitionedBy-ltb (λ (entry : Record). rank entry.grant) records c.args.name (records_rise records c.requires) in
    let point = IsPartitionPoint-from_clause (λ (entry : Record). ltb (rank entry.grant) c.args.name) records c.partition_point.result c.partition_point.ensures.partitioned parted (λ a r q k. search rules) in
    told_from records c.args.name c.partition_point.result point
