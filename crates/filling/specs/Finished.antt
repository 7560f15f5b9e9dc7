-- What the places of a batch result in.
use Rattle.std.specs.Prelude.{◌≡◌, ℕ, Some, List, map}
use Rattle.std.specs.List.{flat_map, range_with_len}
use Rattle.model_base.specs.declared.outcome.Outcome.{Outcome}
use Rattle.model_base.specs.declared.statement.Statement.{Statement}
use Rattle.model_base.specs.Outcomes.{outcome}
use Rattle.chains.specs.Store.{versions_at}
use Rattle.grants_base.specs.Book.{Entries}
use Rattle.filling.specs.Changes.{AreChanges}
use Rattle.filling.specs.declared.completion.finished.Finished.{Finished}

-- the outcomes are those of this many places of the log from the first on
abbrev pub AreOutcomes : List Statement → ℕ → ℕ → List Outcome → Type 0
AreOutcomes log first count outcomes = map (λ (found : Outcome). Some found) outcomes ≡ map (outcome log) (range_with_len first count)

-- so they are, the versions of rows are those that the places leave, in order, and so it is with what they change in the book before them
pub record IsFinished (log : List Statement) (first count : ℕ) (book : Entries) (done : Finished) : Type 0 where
  pub outcomes : AreOutcomes log first count done.outcomes.items
  pub versions : done.versions.items ≡ flat_map (versions_at log) (range_with_len first count)
  pub changes : AreChanges log first count book done.tables.items done.grants.items done.ends.items
