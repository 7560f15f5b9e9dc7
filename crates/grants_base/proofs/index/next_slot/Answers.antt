use Rattle.std.proofs.Common.{ltb, rules, sym, subst}
use Rattle.std.proofs.lemmas.List.Sorted.{IsPartitionPoint-from_clause, IsPartitionedBy-ltb}
use Rattle.grants_base.specs.Index.{IsFirst}
use Rattle.grants_base.specs.Index.{is_one_of}
use Rattle.grants_base.proofs.SlotsLaws.{first_of, slots_in_order}
use Rattle.grants_base.proofs.index.next_slot.Goals as goal

pub returns : goal.returns
returns c =
    let slots = c.args.slots.now in
    let parted = IsPartitionedBy-ltb (λ slot. slot) slots c.args.from (slots_in_order slots c.requires) in
    let point = IsPartitionPoint-from_clause (λ slot. ltb slot c.args.from) slots c.partition_point-i.result c.partition_point-i.ensures.partitioned parted (λ a r q k. search rules) in
    subst (IsFirst (is_one_of slots) c.args.from) (sym c.slot_at.ensures) (first_of c.args.from slots c.partition_point-i.result c.requires point)
