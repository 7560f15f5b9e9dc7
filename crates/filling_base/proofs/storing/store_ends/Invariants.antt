use Rattle.std.proofs.Common.{◌≡◌}
use Rattle.bohm_core_base.specs.Batch.{words_length}
use Rattle.words.specs.Passes.{IsPassOf}
use Rattle.filling_base.specs.Extending.{IsSamePass}
use Rattle.filling_base.specs.Storing.{Stores, ended_below}
use Rattle.filling_base.proofs.storing.store_ends.Given as goal

abbrev pub invariant-loop-number : goal.invariant-loop-number
invariant-loop-number g l = record {
  same_table : IsPassOf l.words l.holding;
  same : IsSamePass l.initial.holding l.holding;
  bodies : l.holding.bodies ≡ l.initial.holding.bodies;
  stores : Stores l.index l.initial.holding.view l.holding.view (words_length (g.K.BatchData.batch l.words.key) l.index) (ended_below (g.K.BatchData.listed l.words.key) l.ends l.number);
}
