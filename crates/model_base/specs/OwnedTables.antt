-- On which tables grants are.
use Rattle.std.specs.Prelude.{◌<◌, ℕ, List, All, length}
use Rattle.model_base.specs.declared.deed.Grant.{Grant}

-- each of the grants is on a table that has an owner, so on one that there is
abbrev pub AreOnOwnedTables : List ℕ → List Grant → Type 0
AreOnOwnedTables owners grants = All (λ (grant : Grant). grant.table < length owners) grants
