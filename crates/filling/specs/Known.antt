-- A log whose statements name tables that are there before them, as every log that was taken.
use Rattle.std.specs.Prelude.{◌<◌, ◌+◌, ℕ, All, List, [], ◌∷◌, length}
use Rattle.model_base.specs.declared.limits.TheConstants.{MOST_NAMES}
use Rattle.model_base.specs.declared.statement.Form.{Form}
use Rattle.model_base.specs.declared.statement.Statement.{Statement}
use Rattle.model_base.specs.Outcomes.{creator}
use Rattle.model_base.specs.References.{deed_tables}

-- where there are this many tables, a new one finds room, and a deed is on one of them
abbrev pub IsKnown : ℕ → Form → Type 0
IsKnown tables (Form.Create table columns) = tables < MOST_NAMES
IsKnown tables (Form.Run accesses steps deed) = All (λ table. table < tables) (deed_tables (Form.Run accesses steps deed))
IsKnown tables (Form.Deed deed) = All (λ table. table < tables) (deed_tables (Form.Deed deed))

-- so it is with each statement, after which there are its own tables too
abbrev pub AreKnownFrom : ℕ → List Statement → Type 0
AreKnownFrom tables [] = Unit {0}
AreKnownFrom tables (statement ∷ statements) =
    IsKnown tables statement.form × AreKnownFrom (tables + length (creator statement.user statement.form)) statements

abbrev pub AreKnown : List Statement → Type 0
AreKnown log = AreKnownFrom 0 log
