use Rattle.std.proofs.Common.{ltb, rules, ◌∙◌}
use Rattle.std.proofs.lemmas.List.Sorted.{IsPartitionPoint-from_clause, IsPartitionedBy-ltb}
use Rattle.grants_base.specs.declared.entries.End.{End}
use Rattle.grants.proofs.EndedLaws.{ends_in_order, found_slot}
use Rattle.grants.proofs.ended.has_end.Goals as goal

pub returns : goal.returns
returns c =
    let ends = c.args.ends.now in
    let slot = c.args.slot in
    let parted = IsPartitionedBy-ltb (λ (end : End). end.slot) ends slot (ends_in_order ends c.requires) in
    let point = IsPartitionPoint-from_clause (λ (end : End). ltb end.slot slot) ends c.partition_point-i.result c.partition_point-i.ensures.partitioned parted (λ a r q k. search rules) in
    c.is_of.ensures ∙ found_slot ends slot c.partition_point-i.result c.requires point
