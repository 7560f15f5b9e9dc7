-- The grants of some deeds as records, each with the place at which it left force, and what records say of who holds what. That every grant
-- is kept by itself, with its own time, is R. Fagin's correction, "On an Authorization Mechanism", ACM Transactions on Database Systems 3
-- (1978).
use Rattle.std.specs.Prelude.{◌≡◌, ◌==◌, ◌&&◌, not, nat_lt, ℕ, zero, suc, Bool, true, false, Option, Some, None, Contains, List, [], ◌∷◌, ◌++◌, filter, map, is_none, if◌then◌else◌}
use Rattle.std.specs.List.{list_any}
use Rattle.std.specs.Option.{option_map_or}
use Rattle.model_base.specs.declared.deed.Cause.{Cause}
use Rattle.model_base.specs.declared.deed.Cause.TheVariants.{Never, Taken}
use Rattle.model_base.specs.declared.deed.Grant.{Grant}
use Rattle.model_base.specs.declared.deed.Revocation.{Revocation}
use Rattle.model_base.specs.declared.deed.Record.{Record}
use Rattle.model_base.specs.declared.deed.Need.{Need}
use Rattle.model_base.specs.declared.deed.Deed.{Deed}
use Rattle.model_base.specs.declared.deed.Deed.TheVariants.{Granting, Revoking}
use Rattle.model_base.specs.Ranks.{rank}
use Rattle.model_base.specs.Privileges.{concerns, has, names, replayed, kept, is_among, lost, place_of}

-- all grants of the deeds, in order
abbrev pub grants_of : List Deed → List Grant
grants_of [] = []
grants_of (Granting grant ∷ deeds) = grant ∷ grants_of deeds
grants_of (Revoking _ ∷ deeds) = grants_of deeds

-- the place of the first of the later deeds that takes the grant of this rank out of force
abbrev pub end_after : List ℕ → List Deed → List Deed → ℕ → Option ℕ
end_after owners past [] ranked = None
end_after owners past (deed ∷ later) ranked =
    if is_among ranked (kept owners past) && not (is_among ranked (kept owners (past ++ deed ∷ [])))
    then Some (place_of deed)
    else end_after owners (past ++ deed ∷ []) later ranked

-- the deed takes the grant of this rank, which is in force after the past deeds, out of force
abbrev pub TakesOutOfForce : List ℕ → List Deed → Deed → ℕ → Type 0
TakesOutOfForce owners past deed ranked =
    (is_among ranked (kept owners past) ≡ true) × (is_among ranked (kept owners (past ++ deed ∷ [])) ≡ false)

-- one of the deeds is a revocation at this place that speaks of the grant's kind on its table
abbrev pub IsRevokedIn : List Deed → Grant → ℕ → Type 0
IsRevokedIn deeds grant place =
    (revocation : Revocation) × Contains deeds (Revoking revocation) × (place ≡ revocation.place) × (concerns revocation grant ≡ true)

-- a grant of the deeds with its end: the place of the deed that takes it out of force, or none
abbrev pub record_of : List ℕ → List Deed → Grant → Record
record_of owners deeds grant = record { grant = grant; end = end_after owners [] deeds (rank grant) }

-- all grants of the deeds, in order, each with its end
abbrev pub records : List ℕ → List Deed → List Record
records owners deeds = map (record_of owners deeds) (grants_of deeds)

-- the grants of the records, ended or not
abbrev pub recorded : List Record → List Grant
recorded entries = map (λ (entry : Record). entry.grant) entries

-- the grants of the records that have no end
abbrev pub in_force : List Record → List Grant
in_force entries = recorded (filter (λ (entry : Record). is_none entry.end) entries)

-- whether the user holds what is needed, by the records
abbrev pub holds_by : List ℕ → List Record → ℕ → Need → Bool
holds_by owners entries user need = has owners (in_force entries) user need

-- the ranks of the grants that a revocation takes out of force, by the records
abbrev pub ended_by_records : List ℕ → List Record → Revocation → List ℕ
ended_by_records owners entries revocation =
    lost (in_force entries) (replayed owners [] (filter (λ grant. not (names revocation grant)) (in_force entries)))

-- the grants of the records that are in force bear one another: made again, all of them are in force
abbrev pub IsSelfBorne : List ℕ → List Record → Type 0
IsSelfBorne owners entries = replayed owners [] (in_force entries) ≡ in_force entries

-- the record with its end at this place, if it has none yet and its grant's rank is among those ended
abbrev pub ended_at : ℕ → List ℕ → Record → Record
ended_at place ended entry =
    if is_none entry.end && list_any (λ ranked. ranked == rank entry.grant) ended
    then record { grant = entry.grant; end = Some place }
    else entry

-- the records of some tables
abbrev pub covered : (ℕ → Bool) → List Record → List Record
covered covers entries = filter (λ (entry : Record). covers entry.grant.table) entries

-- at a place, an end counts only if it lies below
abbrev pub end_below : ℕ → Option ℕ → Option ℕ
end_below place None = None
end_below place (Some end) = if nat_lt end place then Some end else None

-- the records as they were at a place: those made below it, with the ends that lie below it
abbrev pub cut : ℕ → List Record → List Record
cut place [] = []
cut place (entry ∷ entries) =
    if nat_lt entry.grant.place place
    then record { grant = entry.grant; end = end_below place entry.end } ∷ cut place entries
    else cut place entries

-- the last place below this one at which the need was lost: by the records it was held there, and no longer at the next
abbrev pub last_loss_by : List ℕ → List Record → ℕ → Need → ℕ → Option ℕ
last_loss_by owners entries user need zero = None
last_loss_by owners entries user need (suc place) =
    if holds_by owners (cut place entries) user need && not (holds_by owners (cut (suc place) entries) user need)
    then Some place
    else last_loss_by owners entries user need place

-- why a need isn't held, by the records: it was taken at its last loss below a place, or never was held
abbrev pub cause_by : List ℕ → List Record → ℕ → ℕ → Need → Cause
cause_by owners entries place user need = option_map_or Taken (last_loss_by owners entries user need place) Never

-- whether the grant of the record is in force at a place
abbrev pub is_in_force_at : ℕ → Record → Bool
is_in_force_at place entry = nat_lt entry.grant.place place && is_none (end_below place entry.end)
