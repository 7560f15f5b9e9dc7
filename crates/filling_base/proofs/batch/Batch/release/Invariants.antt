use Rattle.std.proofs.Common.{◌<◌, ℕ, length}
use Rattle.words.specs.Passes.{IsPassOf}
use Rattle.words.specs.Views.{In}
use Rattle.filling_base.specs.Counting.{CountsBodies}
use Rattle.filling_base.specs.Extending.{HoldsJust, IsSamePass}
use Rattle.filling_base.specs.Walks.{IsPath, Released, bottom, held, spot, waiting}
use Rattle.filling_base.proofs.batch.Batch.release.Given as goal

abbrev pub decreases-loop-frame : goal.decreases-loop-frame
decreases-loop-frame g l = length l.stack.items

abbrev pub invariant-loop-frame : goal.invariant-loop-frame
invariant-loop-frame g l = record {
  same_table : IsPassOf l.self l.holding;
  same : IsSamePass l.fn.walk.holding l.holding;
  bodies : CountsBodies (g.K.Fills.runs l.self.key) l.fn.walk.holding l.holding;
  released : Released (held (spot l.fn.walk)) l.fn.walk.holding.view l.holding.view;
  holds : HoldsJust l.holding.view (waiting l.stack.items);
  among : (index : ℕ) → In index (waiting l.stack.items) → In index (held (spot l.fn.walk));
  path : (at : ℕ) × (bottom l.stack.items at < (g.K.BatchData.batch l.self.key).size) × IsPath (g.K.BatchData.batch l.self.key) l.fn.walk.holding.view.known l.stack.items at;
}
