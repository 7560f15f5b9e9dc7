-- The outcome of a placer's step. Each partition is gone through in the order of the log: J. M. Faleiro and D. J. Abadi,
-- "Rethinking Serializable Multiversion Concurrency Control", PVLDB 8 (2015), section 3.
use Rattle.std.specs.Prelude.{◌≡◌, ◌<◌, ◌+◌, ℕ, suc, Option, None, Some, Result, Ok, Err}
use Rattle.std.specs.declared.alloc.AllocError.{AllocError}
use Rattle.bohm_core_base.specs.Batch.{Batch}

-- it placed the next place, or had placed all, or memory ran out, and then it has placed what it had
abbrev pub Advances : Batch → ℕ → Result (Option ℕ) AllocError → ℕ → Type 0
Advances batch front (Ok (Some place)) after = (front < batch.size) × (place ≡ batch.first + front) × (after ≡ suc front)
Advances batch front (Ok None) after = (front ≡ batch.size) × (after ≡ front)
Advances batch front (Err _) after = (front < batch.size) × (after ≡ front)
