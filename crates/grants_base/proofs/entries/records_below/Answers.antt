use Rattle.std.proofs.Common.{ltb, rules}
use Rattle.std.proofs.lemmas.List.Sorted.{IsPartitionPoint-from_clause, IsPartitionedBy-ltb}
use Rattle.model_base.specs.declared.deed.Record.{Record}
use Rattle.grants_base.proofs.Lookups.{records_rise, taken_filter, told_above, told_below}
use Rattle.grants_base.proofs.entries.records_below.Goals as goal

pub returns-clause-first : goal.returns-clause-first
returns-clause-first c =
    let records = c.args.records.now in
    let parted = IsPartitionedBy-ltb (λ (entry : Record). entry.grant.place) records c.args.place (records_rise records c.requires) in
    let point = IsPartitionPoint-from_clause (λ (entry : Record). ltb entry.grant.place c.args.place) records c.partition_point.result c.partition_point.ensures.partitioned parted (λ a r q k. search rules) in
    taken_filter (λ (entry : Record). ltb entry.grant.place c.args.place) records c.partition_point.result point

pub returns-clause-below : goal.returns-clause-below
returns-clause-below c =
    let records = c.args.records.now in
    let parted = IsPartitionedBy-ltb (λ (entry : Record). entry.grant.place) records c.args.place (records_rise records c.requires) in
    let point = IsPartitionPoint-from_clause (λ (entry : Record). ltb entry.grant.place c.args.place) records c.partition_point.result c.partition_point.ensures.partitioned parted (λ a r q k. search rules) in
    told_below records c.args.place c.partition_point.result point

pub returns-clause-above : goal.returns-clause-above
returns-clause-above c =
    let records = c.args.records.now in
    let parted = IsPartitionedBy-ltb (λ (entry : Record). entry.grant.place) records c.args.place (records_rise records c.requires) in
    let point = IsPartitionPoint-from_clause (λ (entry : Record). ltb entry.grant.place c.args.place) records c.partition_point.result c.partition_point.ensures.partitioned parted (λ a r q k. search rules) in
    told_above records c.args.place c.partition_point.result point
