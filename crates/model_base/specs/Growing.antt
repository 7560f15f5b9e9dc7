-- Words of the law of src/growing_laws.rt.
use Rattle.std.specs.Prelude.{◌<◌, ℕ, List, All, length}
use Rattle.model_base.specs.declared.deed.Need.{Need}
use Rattle.model_base.specs.declared.statement.Statement.{Statement}
use Rattle.model_base.specs.Outcomes.{needs, owners}

-- what the statement needs is on one of the first this many tables
abbrev pub NeedsWithin : ℕ → Statement → Type 0
NeedsWithin tables statement = All (λ (need : Need). need.table < tables) (needs statement.form)

-- what each statement of the log needs is on a table of the log, whether this was created before the statement or after it
abbrev pub NeedsOwnTables : List Statement → Type 0
NeedsOwnTables log = All (NeedsWithin (length (owners log))) log
