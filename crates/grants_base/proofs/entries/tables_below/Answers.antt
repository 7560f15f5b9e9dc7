use Rattle.std.proofs.Common.{ltb, rules}
use Rattle.std.proofs.lemmas.List.Sorted.{IsPartitionPoint-from_clause, IsPartitionedBy-ltb}
use Rattle.grants_base.specs.declared.entries.Creation.{Creation}
use Rattle.grants_base.proofs.Lookups.{tables_rise, taken_filter}
use Rattle.grants_base.proofs.entries.tables_below.Goals as goal

pub returns : goal.returns
returns c =
    let tables = c.args.tables.now in
    let parted = IsPartitionedBy-ltb (λ (creation : Creation). creation.place) tables c.args.place (tables_rise tables c.requires) in
    let point = IsPartitionPoint-from_clause (λ (creation : Creation). ltb creation.place c.args.place) tables c.partition_point.result c.partition_point.ensures.partitioned parted (λ a r q k. search rules) in
    taken_filter (λ (creation : Creation). ltb creation.place c.args.place) tables c.partition_point.result point
