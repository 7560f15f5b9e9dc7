use Rattle.engine.proofs.Advanced.{kept_start}
use Rattle.engine.proofs.run.Engine.seeded.Goals as goal

pub invariant_of-result : goal.invariant_of-result
invariant_of-result c =
    kept_start c.seeded.result c.seeded-2.result c.seeded-3.result c.new.result.items c.new-2.result.items c.seeded.ensures c.seeded-2.ensures.end c.seeded-2.ensures.right
    c.seeded-3.ensures.tables c.seeded-3.ensures.records c.new.ensures c.new-2.ensures.items
