use Rattle.std.proofs.Common.{◌≡◌, ◌<◌, ◌++◌, ℕ, List}
use Rattle.words.specs.Passes.{gone_on}
use Rattle.words.specs.Views.{KnowsFront}
use Rattle.filling_base.specs.Extending.{OnlyLearns}
use Rattle.filling_base.proofs.batch.Batch.unplaced.Given as goal

abbrev pub invariant-loop-partition : goal.invariant-loop-partition
invariant-loop-partition g l = record {
  same : l.holding ≡ gone_on l.initial.holding l.holding.view;
  learns : OnlyLearns l.initial.holding.view l.holding.view;
  found : (past : List (ℕ × ℕ × ℕ)) × (l.holding.view.front_sightings ≡ l.initial.holding.view.front_sightings ++ past);
  past : (p : ℕ) → p < l.partition → KnowsFront l.holding.view p l.index;
}
