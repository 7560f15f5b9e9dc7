use Rattle.grants_base.proofs.IndexedLaws.{indexed_none}
use Rattle.grants_base.proofs.indexed.IndexedRecords.begun.Goals as goal

pub invariant_of-result : goal.invariant_of-result
invariant_of-result c =
    indexed_none c.new.result.items c.seeded.result c.seeded-2.result c.new.ensures.items c.seeded-2.ensures.none c.seeded.ensures c.seeded-2.ensures.kept
