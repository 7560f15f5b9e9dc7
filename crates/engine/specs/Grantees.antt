-- To whom the grants of a book were made. Each grant of a kind to a grantee is a record by itself: R. Fagin, "On an Authorization
-- Mechanism", ACM Transactions on Database Systems 3 (1978).
use Rattle.std.specs.Prelude.{◌==◌, ℕ, List, Option}
use Rattle.std.specs.List.{find, flat_map}
use Rattle.std.specs.Option.{option_map, option_to_list}
use Rattle.model_base.specs.declared.deed.Grantee.{Grantee}
use Rattle.model_base.specs.declared.deed.Record.{Record}
use Rattle.model_base.specs.Ranks.{rank}

-- the grantee of the record of this rank, if there is one
abbrev pub recorded_grantee : List Record → ℕ → Option Grantee
recorded_grantee entries ranked =
    option_map (λ (entry : Record). entry.grant.grantee) (find (λ (entry : Record). rank entry.grant == ranked) entries)

-- the grantees of the records of these ranks, in order; a rank without a record has none
abbrev pub recorded_grantees : List Record → List ℕ → List Grantee
recorded_grantees entries ranks = flat_map (λ ranked. option_to_list (recorded_grantee entries ranked)) ranks
