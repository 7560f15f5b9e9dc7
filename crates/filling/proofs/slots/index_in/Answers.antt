use Rattle.std.proofs.Common.{ltb, rules}
use Rattle.std.proofs.lemmas.List.Sorted.{IsPartitionPoint-from_clause, IsPartitionedBy-ltb}
use Rattle.model_base.specs.declared.deed.Grant.{Grant}
use Rattle.model_base.specs.Ranks.{rank}
use Rattle.filling.proofs.Lying.{grants_rise, pointed}
use Rattle.filling.proofs.slots.index_in.Goals as goal

pub returns-clause-value : goal.returns-clause-value
returns-clause-value c =
    let grants = c.args.grants.now in
    let parted = IsPartitionedBy-ltb rank grants c.args.name (grants_rise grants c.requires) in
    let point = IsPartitionPoint-from_clause (λ (grant : Grant). ltb (rank grant) c.args.name) grants c.partition_point.result c.partition_point.ensures.partitioned parted (λ a r q k. search rules) in
    pointed grants c.requires c.args.name c.partition_point.result point
