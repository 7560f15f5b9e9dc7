use Rattle.std.proofs.Common.{◌≡◌, ◌++◌, drop}
use Rattle.log_batch.specs.Supplied.{batch_of}
use Rattle.filling.specs.Numbers.{numbers_at}
use Rattle.filling.proofs.ends.numbers_of.Given as goal

-- with those of the records to come these are all
abbrev pub invariant-loop-name : goal.invariant-loop-name
invariant-loop-name l =
    l.numbers.items ++ numbers_at (batch_of l.key.batch) l.key.slots (drop l.name-index l.names)
    ≡ numbers_at (batch_of l.key.batch) l.key.slots l.names
