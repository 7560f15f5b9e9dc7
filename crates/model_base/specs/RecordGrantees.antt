-- The records of a log before a place, and to whom each is, by the statement of its place: the grantee that the deed names at the record's
-- position.
use Rattle.std.specs.Prelude.{◌≡◌, ℕ, Option, option_and_then, All, Contains, List, [], slice_get}
use Rattle.std.specs.Option.{option_map_or}
use Rattle.model_base.specs.declared.deed.Grantee.{Grantee}
use Rattle.model_base.specs.declared.deed.Grant.{Grant}
use Rattle.model_base.specs.declared.deed.Deed.TheVariants.{Granting}
use Rattle.model_base.specs.declared.deed.Record.{Record}
use Rattle.model_base.specs.declared.statement.DeedForm.{DeedForm}
use Rattle.model_base.specs.declared.statement.Form.{Form}
use Rattle.model_base.specs.declared.statement.Statement.{Statement}
use Rattle.model_base.specs.Ranks.{place_of_rank, position_of_rank, rank}
use Rattle.model_base.specs.Outcomes.{deeds_before, owners}
use Rattle.model_base.specs.Records.{records}

-- the records of the deeds before a place of a log
abbrev pub log_records : List Statement → ℕ → List Record
log_records log place = records (owners log) (deeds_before log place)

-- the grantees of a deed
abbrev pub deed_grantees : DeedForm → List Grantee
deed_grantees (DeedForm.Grant kinds table grantees option) = grantees
deed_grantees (DeedForm.Revoke kinds table grantees) = grantees

-- the grantees that a statement's deed names
abbrev pub grantees_in : Form → List Grantee
grantees_in (Form.Create table columns) = []
grantees_in (Form.Run accesses steps deed) = option_map_or deed_grantees deed []
grantees_in (Form.Deed deed) = deed_grantees deed

-- to whom the record of a rank was granted: the grantee at its position in the deed of its place
abbrev pub grantee_at : List Statement → ℕ → Option Grantee
grantee_at log ranked =
    option_and_then (λ (statement : Statement). slice_get (grantees_in statement.form) (position_of_rank ranked))
    (slice_get log (place_of_rank ranked))

-- grants of these ranks were made before the place
abbrev pub WereGranted : List Statement → ℕ → List ℕ → Type 0
WereGranted log place ranks =
    All (λ ranked. (grant : Grant) × Contains (deeds_before log place) (Granting grant) × (rank grant ≡ ranked)) ranks
