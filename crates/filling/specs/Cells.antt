-- The versions that the words of version cells give.
use Rattle.std.specs.Prelude.{ℕ, ◌+◌, List, [], ◌∷◌, drop, if◌then◌else◌}
use Rattle.model_base.specs.declared.statement.Access.{Access}
use Rattle.model_base.specs.Versions.{is_writing}
use Rattle.own_words.specs.Words.{row_of}
use Rattle.chains.specs.declared.version.Version.{Version}

-- one for each access that may change its row, in order, each after the words of the one before
abbrev pub versions_told : (ℕ → ℕ) → ℕ → List Access → List ℕ → List Version
versions_told columns place [] words = []
versions_told columns place (access ∷ accesses) words =
    if is_writing access
    then record { place = place; key = access.key; row = row_of (columns access.key.table) words }
    ∷ versions_told columns place accesses (drop (1 + columns access.key.table) words)
    else versions_told columns place accesses words
