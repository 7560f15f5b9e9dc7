use Rattle.words.specs.Passes.{IsPassOf}
use Rattle.filling_base.specs.Counting.{CountsBodies}
use Rattle.filling_base.specs.Extending.{IsSamePass}
use Rattle.filling_base.specs.Walks.{left, spot}
use Rattle.filling_base.proofs.Walking.{Running}
use Rattle.filling_base.proofs.batch.Batch.try_run.Given as goal

abbrev pub decreases-steps : goal.decreases-steps
decreases-steps g l = left (g.K.BatchData.batch l.self.key) (spot l.walk)

abbrev pub invariant-steps : goal.invariant-steps
invariant-steps g l = record {
  same_table : IsPassOf l.self l.walk.holding;
  same : IsSamePass l.fn.pass l.walk.holding;
  bodies : CountsBodies (g.K.Fills.runs l.self.key) l.fn.pass l.walk.holding;
  runs : Running (g.K.BatchData.batch l.self.key) l.index l.fn.pass.view (spot l.walk);
}
