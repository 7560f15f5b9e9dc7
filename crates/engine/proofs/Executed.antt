-- The placers of an opened batch, and what the batch of a range results in.
use Rattle.std.proofs.Common.{◌≡◌, ◌-◌, ℕ, false, List, arith, subst}
use Rattle.words.specs.Passes.{Words}
use Rattle.grants_base.specs.Book.{Entries}
use Rattle.sequencer.specs.Log.{Accepted}
use Rattle.log_batch.specs.Supplied.{LogRange, log_range}
use Rattle.filling.specs.declared.completion.finished.Finished.{Finished}
use Rattle.filling.specs.Finished.{IsFinished}
use Rattle.filling.specs.Keys.{Key}
use Rattle.filling.specs.declared.placer.Placer.{Placer}
use Rattle.filling.specs.Placers.{AreNewPlacers, IsPlacerIn, placer_front}
use Rattle.workers.specs.Placing.{HavePlaced}

-- new placers are placers of these words
pub new_placed : (words : Words Key) (partitions : ℕ) (placers : List Placer) → AreNewPlacers words partitions placers
    → HavePlaced IsPlacerIn placer_front words 0 placers
new_placed words partitions placers made index placer is = ((made.each index placer is).0, omega arith)

-- what the batch of a range results in
pub finished_range : (log : Accepted) (batch : LogRange) (start end partitions : ℕ) (book before : Entries) (done : Finished)
    → batch ≡ log_range log start end partitions false → book ≡ before
    → IsFinished batch.log.statements batch.first batch.size book done → IsFinished log.statements start (end - start) before done
finished_range log batch start end partitions book before done is same finished =
    subst (λ (b : Entries). IsFinished log.statements start (end - start) b done) same
    (subst (λ (r : LogRange). IsFinished r.log.statements r.first r.size book done) is finished)
