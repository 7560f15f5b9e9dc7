-- The constant data of a batch of a log: the range, and the slots whose ends have words.
use Rattle.std.specs.Prelude.{◌<◌, ℕ, List}
use Rattle.std.specs.List.Sorted.{IsStrictlyIncreasing}
use Rattle.log_batch.specs.Supplied.{LogRange, batch_of}
use Rattle.words.specs.Layout.{IsListed}

pub record Key : Type 0 where
  pub batch : LogRange
  pub slots : List ℕ

-- the range has a place, and the slots may have the words of its ends, in rising order
pub record IsKey (batch : LogRange) (slots : List ℕ) : Type 0 where
  pub some : 0 < batch.size
  pub listed : IsListed (batch_of batch) slots
  pub order : IsStrictlyIncreasing slots
