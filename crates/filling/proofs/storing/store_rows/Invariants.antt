use Rattle.log_batch.specs.Supplied.{batch_of}
use Rattle.filling.specs.Placers.{OnlyStores, StoredBelow}
use Rattle.filling.proofs.storing.store_rows.Given as goal

abbrev pub invariant-loop-number : goal.invariant-loop-number
invariant-loop-number l =
    OnlyStores l.initial.token l.token × StoredBelow (batch_of l.words.key.batch) l.token.view l.number
