use Rattle.std.proofs.Common.{List, Some, map, ap}
use Rattle.model_base.specs.declared.outcome.Outcome.{Outcome}
use Rattle.filling.proofs.Changing.{none_yet}
use Rattle.filling.proofs.completion.finished.Finished.new.Goals as goal

pub returns : goal.returns
returns c = λ log first book stands sound. record {
  outcomes = ap (λ (os : List Outcome). map (λ (found : Outcome). Some found) os) c.new.ensures.items;
  versions = c.new-2.ensures.items;
  changes = none_yet log first book c.new-3.result.items c.new-4.result.items c.new-5.result.items stands sound
      c.new-3.ensures.items c.new-4.ensures.items c.new-5.ensures.items;
}
