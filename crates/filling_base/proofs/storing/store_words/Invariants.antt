use Rattle.std.proofs.Common.{◌≡◌, []}
use Rattle.words.specs.Passes.{IsPassOf}
use Rattle.filling_base.specs.Extending.{IsSamePass}
use Rattle.filling_base.specs.Storing.{Stores}
use Rattle.filling_base.proofs.storing.store_words.Given as goal

abbrev pub invariant-loop-number : goal.invariant-loop-number
invariant-loop-number g l = record {
  same_table : IsPassOf l.words l.holding;
  same : IsSamePass l.initial.holding l.holding;
  bodies : l.holding.bodies ≡ l.initial.holding.bodies;
  stores : Stores l.index l.initial.holding.view l.holding.view l.number [];
}
