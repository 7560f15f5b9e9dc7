use Rattle.std.proofs.Common.{◌≡◌, ◌<◌, ◌≤◌, ℕ, false}
use Rattle.model_base.specs.Records.{recorded}
use Rattle.grants_base.specs.Index.{is_to, passes_at}
use Rattle.trials_base.proofs.plain_book.first_to.Given as goal

-- no record from the first on passes
abbrev pub invariant-loop-i : goal.invariant-loop-i
invariant-loop-i l = (k : ℕ) → l.from ≤ k → k < l.i → passes_at (is_to l.holder.grantee l.holder.kind l.holder.table) (recorded l.records) k ≡ false
