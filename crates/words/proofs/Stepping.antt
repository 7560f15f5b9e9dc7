-- The state after more events.
use Rattle.std.proofs.Common.{◌≡◌, List, ◌++◌}
use Rattle.bohm_core_base.specs.declared.event.Event.{Event}
use Rattle.bohm_core_base.specs.Batch.{Batch, IsSoundBatch}
use Rattle.bohm_core_base.specs.Laws.{HasSizes, KeepsStored}
use Rattle.bohm_core_base.specs.Machine.{reach, run_from, start}
use Rattle.bohm_core_base.proofs.Reach.{has-sizes, stored-stands}
use Rattle.words.specs.Legal.{IsEffective}
use Rattle.words.proofs.Placings.{effective-append}
use Rattle.words.proofs.Reached.{run-append}

module _ (b : Batch) (sound : IsSoundBatch b) (es : List Event) where
  pub has-all : HasSizes b (reach b es)
  has-all = has-sizes b sound es

  pub reached-more : (fs : List Event) → reach b (es ++ fs) ≡ run_from b (reach b es) fs
  reached-more fs = run-append b (start b) es fs

  pub stays : (fs : List Event) → KeepsStored (reach b es) (reach b (es ++ fs))
  stays fs = stored-stands b sound es fs

  pub works-more : (fs : List Event) → IsEffective b (start b) es → IsEffective b (reach b es) fs → IsEffective b (start b) (es ++ fs)
  works-more fs works more = effective-append b (start b) es fs works more
