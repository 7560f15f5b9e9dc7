-- What each place of a log results in, by a serial run: one statement after another is checked, run, and may change who holds what. The
-- order of the log is the order of the transactions, and a transaction's timestamp is its place: J. M. Faleiro and D. J. Abadi, "Rethinking
-- Serializable Multiversion Concurrency Control", PVLDB 8 (2015), section 3.
use Rattle.std.specs.Prelude.{ℕ, ◌+◌, ◌&&◌, not, Bool, true, false, Option, Some, None, List, [], ◌∷◌, ◌++◌, take, map, slice_get, if◌then◌else◌}
use Rattle.std.specs.List.{flat_map, find}
use Rattle.std.specs.Option.{option_map_or, option_map}
use Rattle.model_base.specs.declared.deed.Kind.{Kind}
use Rattle.model_base.specs.declared.deed.Kind.TheVariants.{Read, Insert, Update, Delete}
use Rattle.model_base.specs.declared.deed.Kinds.{Kinds}
use Rattle.model_base.specs.declared.deed.Position.{Position}
use Rattle.model_base.specs.declared.deed.Position.TheVariants.{First, Second, Third, Fourth, Fifth, Sixth, Seventh, Eighth}
use Rattle.model_base.specs.declared.deed.Grantee.{Grantee}
use Rattle.model_base.specs.declared.deed.Grant.{Grant}
use Rattle.model_base.specs.declared.deed.Need.{Need}
use Rattle.model_base.specs.declared.deed.Cause.{Cause}
use Rattle.model_base.specs.declared.deed.Cause.TheVariants.{Never, Taken}
use Rattle.model_base.specs.declared.deed.Deed.{Deed}
use Rattle.model_base.specs.declared.deed.Deed.TheVariants.{Granting, Revoking}
use Rattle.model_base.specs.declared.statement.Access.{Access}
use Rattle.model_base.specs.declared.statement.DeedForm.{DeedForm}
use Rattle.model_base.specs.declared.statement.Form.{Form}
use Rattle.model_base.specs.declared.statement.Statement.{Statement}
use Rattle.model_base.specs.declared.outcome.DeedDone.{DeedDone}
use Rattle.model_base.specs.declared.outcome.Outcome.{Outcome}
use Rattle.model_base.specs.Rows.{Rows, no_rows}
use Rattle.model_base.specs.Privileges.{has_kind, holds, ended_by, place_of}
use Rattle.model_base.specs.Body.{Ending, completed, aborted, undeclared, meaning}

-- the user who creates a table by the statement
abbrev pub creator : ℕ → Form → List ℕ
creator user (Form.Create table columns) = user ∷ []
creator user (Form.Run accesses steps deed) = []
creator user (Form.Deed deed) = []

-- the owner of each table of the log, in the tables' order: the user who creates it
abbrev pub owners : List Statement → List ℕ
owners statements = flat_map (λ (s : Statement). creator s.user s.form) statements

-- the kind, if it is among these
abbrev pub kind_if : Kinds → Kind → List Kind
kind_if kinds kind = if has_kind kinds kind then kind ∷ [] else []

-- some kinds in order: READ, INSERT, UPDATE, DELETE
abbrev pub kinds_in : Kinds → List Kind
kinds_in kinds = kind_if kinds Read ++ (kind_if kinds Insert ++ (kind_if kinds Update ++ kind_if kinds Delete))

-- an access needs each of its kinds, without the option
abbrev pub need_of : Access → Kind → Need
need_of access kind = record { table = access.key.table; kind = kind; option = false }

-- what an access needs, in order
abbrev pub needs_of_access : Access → List Need
needs_of_access access = map (need_of access) (kinds_in access.kinds)

-- a kind on a table, with the option
abbrev pub option_on : ℕ → Kind → Need
option_on table kind = record { table = table; kind = kind; option = true }

-- a grant needs each of its kinds with the option, a revocation nothing
abbrev pub needs_of_deed : DeedForm → List Need
needs_of_deed (DeedForm.Grant kinds table grantees option) = map (option_on table) (kinds_in kinds)
needs_of_deed (DeedForm.Revoke kinds table grantees) = []

-- what a statement's user must hold, in the order in which it is checked
abbrev pub needs : Form → List Need
needs (Form.Create table columns) = []
needs (Form.Run accesses steps deed) = flat_map needs_of_access accesses ++ option_map_or needs_of_deed deed []
needs (Form.Deed deed) = needs_of_deed deed

-- the positions of grantees, in order
abbrev pub positions : List Position
positions = First ∷ Second ∷ Third ∷ Fourth ∷ Fifth ∷ Sixth ∷ Seventh ∷ Eighth ∷ []

-- the grant of a kind by a user at a place to the grantee of a position
abbrev pub grant_to : ℕ → ℕ → Kind → ℕ → Bool → Position → Grantee → Grant
grant_to place user kind table option position grantee =
    record { place = place; grantor = user; grantee = grantee; position = position; kind = kind; table = table; option = option }

-- the grants of one kind, to each grantee in order with the next of the positions, as long as there is one
abbrev pub grants_of_kind : ℕ → ℕ → Kind → ℕ → Bool → List Position → List Grantee → List Grant
grants_of_kind place user kind table option [] grantees = []
grants_of_kind place user kind table option (position ∷ later) [] = []
grants_of_kind place user kind table option (position ∷ later) (grantee ∷ grantees) =
    grant_to place user kind table option position grantee ∷ grants_of_kind place user kind table option later grantees

-- the grants of some kinds, by kind and then by grantee
abbrev pub grants_at : ℕ → ℕ → ℕ → Bool → List Grantee → List Kind → List Grant
grants_at place user table option grantees kinds =
    flat_map (λ kind. grants_of_kind place user kind table option positions grantees) kinds

-- the deeds of a user at a place: a grant of each kind to each grantee, or one revocation
abbrev pub deeds_at : ℕ → ℕ → DeedForm → List Deed
deeds_at place user (DeedForm.Grant kinds table grantees option) =
    map Granting (grants_at place user table option grantees (kinds_in kinds))
deeds_at place user (DeedForm.Revoke kinds table grantees) =
    Revoking (record { place = place; grantor = user; grantees = grantees; kinds = kinds; table = table }) ∷ []

-- the deeds that a statement makes at a place, if its body completes
abbrev pub deeds_of : ℕ → ℕ → Form → List Deed
deeds_of place user (Form.Create table columns) = []
deeds_of place user (Form.Run accesses steps deed) = option_map_or (deeds_at place user) deed []
deeds_of place user (Form.Deed deed) = deeds_at place user deed

-- the last of the later deeds that took the need away, or what was found among those of the past
abbrev pub cause_after : List ℕ → ℕ → Need → List Deed → List Deed → Cause → Cause
cause_after owners user need past [] found = found
cause_after owners user need past (deed ∷ later) found =
    cause_after owners user need (past ++ deed ∷ []) later
    (if holds owners past user need && not (holds owners (past ++ deed ∷ []) user need) then Taken (place_of deed) else found)

-- why a need isn't held after the deeds: it never was, or this is the place of the deed that took it away last
abbrev pub cause : List ℕ → List Deed → ℕ → Need → Cause
cause owners deeds user need = cause_after owners user need [] deeds Never

-- what is before a place: the rows, and the deeds made so far
pub record World : Type 0 where
  pub rows : Rows
  pub deeds : List Deed

-- before the first place there is no row and no deed
abbrev pub empty_world : World
empty_world = record { rows = no_rows; deeds = [] }

-- the first need of a statement that its user doesn't hold
abbrev pub missing : List ℕ → World → ℕ → Form → Option Need
missing owners world user form = find (λ need. not (holds owners world.deeds user need)) (needs form)

-- what the deeds of a place result in, by the first of them: they are grants, or one revocation
abbrev pub deed_done : List ℕ → World → List Deed → DeedDone
deed_done owners world [] = DeedDone.None
deed_done owners world (Granting grant ∷ deeds) = DeedDone.Granted
deed_done owners world (Revoking revocation ∷ deeds) = DeedDone.Revoked (ended_by owners world.deeds revocation)

-- what the body of a statement does to the rows; a deed by itself has an empty one
abbrev pub body : Rows → Form → Ending
body rows (Form.Create table columns) = completed rows []
body rows (Form.Run accesses steps deed) = meaning steps accesses rows
body rows (Form.Deed deed) = completed rows []

-- the outcome of a body that ended so, with its deeds
abbrev pub ended : List ℕ → World → List Deed → Ending → Outcome
ended owners world deeds (completed rows outputs) = Outcome.Done outputs (deed_done owners world deeds)
ended owners world deeds (aborted step reason) = Outcome.Aborted step reason
ended owners world deeds (undeclared step) = Outcome.Undeclared step

-- only a completed body changes rows and makes its deeds
abbrev pub changed : World → List Deed → Ending → World
changed world deeds (completed rows outputs) = record { rows = rows; deeds = world.deeds ++ deeds }
changed world deeds (aborted step reason) = world
changed world deeds (undeclared step) = world

-- the first missing need denies; if all are held, the body runs
abbrev pub judged : List ℕ → ℕ → World → Statement → Option Need → Outcome × World
judged owners place world statement (Some need) =
    (Outcome.Denied need (cause owners world.deeds statement.user need), world)
judged owners place world statement None = (
  ended owners world (deeds_of place statement.user statement.form) (body world.rows statement.form),
  changed world (deeds_of place statement.user statement.form) (body world.rows statement.form),
)

-- a table is created, and any other statement is judged by its user's privileges
abbrev pub step_form : List ℕ → ℕ → World → Statement → Form → Outcome × World
step_form owners place world statement (Form.Create table columns) = (Outcome.Created, world)
step_form owners place world statement form =
    judged owners place world statement (missing owners world statement.user form)

-- one place of the log: its outcome, and what is after it
abbrev pub at_place : List ℕ → ℕ → World → Statement → Outcome × World
at_place owners place world statement = step_form owners place world statement statement.form

-- what is after the statements, of which the first has this place
abbrev pub world_after : List ℕ → ℕ → World → List Statement → World
world_after owners place world [] = world
world_after owners place world (statement ∷ statements) =
    world_after owners (place + 1) (at_place owners place world statement).1 statements

-- what is before a place of the log
abbrev pub world_before : List Statement → ℕ → World
world_before log place = world_after (owners log) 0 empty_world (take place log)

-- the rows before a place of the log
abbrev pub rows_before : List Statement → ℕ → Rows
rows_before log place = (world_before log place).rows

-- the deeds before a place of the log
abbrev pub deeds_before : List Statement → ℕ → List Deed
deeds_before log place = (world_before log place).deeds

-- the outcome of a place of the log
abbrev pub outcome : List Statement → ℕ → Option Outcome
outcome log place =
    option_map (λ statement. (at_place (owners log) place (world_before log place) statement).0) (slice_get log place)
