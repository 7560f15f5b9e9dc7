use Rattle.std.proofs.Common.{◌+◌, ap, ◌∙◌, length}
use Rattle.model_base.specs.Records.{recorded}
use Rattle.filling.proofs.Lying.{rising_last, slot_after, slot_among}
use Rattle.filling.proofs.slots.slot_of.Goals as goal

pub index_in-last-requires : goal.index_in-last-requires
index_in-last-requires c = rising_last (recorded c.args.book.now.records) c.args.grants.now c.requires

pub returns-then-slot-records : goal.returns-then-slot-records
returns-then-slot-records c =
    slot_among c.args.book.now.records c.args.grants.now c.requires c.args.name c.slot_in-slot.result
    (rw c.records-records.ensures.records at c.slot_in-slot.ensures.below)
    (rw c.records-records.ensures.records at c.slot_in-slot.ensures.above)
    (rw c.records-records.ensures.records at c.if-slot-records.true)

pub returns : goal.returns
returns c = λ slot grant at is.
    ap (λ n. n + c.index_in-last.result) (ap length c.records-records.ensures.records)
    ∙ slot_after c.args.book.now.records c.args.grants.now c.requires c.args.name c.slot_in-slot.result
    (rw c.records-records.ensures.records at c.slot_in-slot.ensures.below)
    (rw c.records-records.ensures.records at c.slot_in-slot.ensures.above)
    (rw c.records-records.ensures.records at c.if-slot-records.false)
    c.index_in-last.result c.index_in-last.ensures.value slot grant at is
