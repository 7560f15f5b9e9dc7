-- How many own words a statement of the batch has.
use Rattle.std.proofs.Common.{◌≡◌, ◌+◌, ℕ, Some, map, refl}
use Rattle.std.specs.Prelude.{slice_get}
use Rattle.model_base.specs.declared.statement.Statement.{Statement}
use Rattle.model_base.specs.Versions.{accesses_of}
use Rattle.own_words.specs.Words.{outputs_of}
use Rattle.bohm_core_base.specs.Batch.{cells_length, words_length}
use Rattle.log_batch.specs.Shown.{access_of}
use Rattle.log_batch.specs.Supplied.{LogRange, batch_of}

-- how many words a statement of the batch has
pub length_at : (ranged : LogRange) (index : ℕ) (statement : Statement) → slice_get ranged.log.statements (ranged.first + index) ≡ Some statement
    → words_length (batch_of ranged) index ≡ (4 + outputs_of statement.form) + cells_length (batch_of ranged).columns (map access_of (accesses_of statement.form))
unfolding words_length
length_at ranged index statement at = rw at refl
