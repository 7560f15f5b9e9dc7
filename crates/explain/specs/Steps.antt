-- What the steps of a search for a path, and of the check of a chain, find.
use Rattle.std.specs.Prelude.{◌≡◌, ◌==◌, ◌<◌, ◌&&◌, ◌++◌, ◌∷◌, [], ℕ, Bool, false, List, Option, Some, None, is_none, nat_lt, take, if◌then◌else◌}
use Rattle.std.specs.List.{find, flat_map}
use Rattle.std.specs.Option.{option_map_or, option_to_list}
use Rattle.model_base.specs.declared.deed.Grant.{Grant}
use Rattle.model_base.specs.declared.deed.Need.{Need}
use Rattle.model_base.specs.declared.deed.Record.{Record}
use Rattle.model_base.specs.Paths.{path}
use Rattle.model_base.specs.Privileges.{gives, option_of}
use Rattle.model_base.specs.Ranks.{rank}
use Rattle.model_base.specs.Records.{cut, in_force}
use Rattle.grants_base.specs.View.{View, slot_at, slot_gives}
use Rattle.explain.specs.declared.paths.Giving.{Giving}

-- the grants in force of the first this many slots of a view
abbrev pub stood : View → ℕ → List Grant
stood view n = in_force (flat_map option_to_list (take n view.slots))

-- the grant of a slot, if it is in force and gives the user what is needed
abbrev pub giving_in : Option Record → ℕ → Need → Option Grant
giving_in None user need = None
giving_in (Some entry) user need = if is_none entry.end && gives entry.grant user need then Some entry.grant else None

-- the first slot, of this many, that gives the user what is needed, with its grant, or none
abbrev pub IsFirstGiving : View → ℕ → Need → ℕ → Option Giving → Type 0
IsFirstGiving view user need end None = (k : ℕ) → k < end → slot_gives (slot_at view k) user need ≡ false
IsFirstGiving view user need end (Some found) =
    (found.slot < end) × (giving_in (slot_at view found.slot) user need ≡ Some found.grant)
    × ((k : ℕ) → k < found.slot → slot_gives (slot_at view k) user need ≡ false)

-- the slot that was found, or another
abbrev pub slot_or : ℕ → Option Giving → ℕ
slot_or other None = other
slot_or other (Some found) = found.slot

-- the last grant of the path by this many slots, with its slot, or that the path is empty
abbrev pub IsLastOfPath : View → List ℕ → ℕ → Need → ℕ → Option Giving → Type 0
IsLastOfPath view owners user need end None = path owners (stood view end) user need ≡ []
IsLastOfPath view owners user need end (Some found) =
    path owners (stood view end) user need
    ≡ path owners (stood view found.slot) found.grant.grantor (option_of found.grant) ++ found.grant ∷ []

-- the grants of the records that are in force at a place
abbrev pub in_force_at : ℕ → List Record → List Grant
in_force_at place entries = in_force (cut place entries)

-- the grant of this rank among the grants, if there is one
abbrev pub grant_at : ℕ → List Grant → Option Grant
grant_at ranked grants = find (λ grant. rank grant == ranked) grants

-- whether the next grant goes on from this one: it has a later place, and is by who has the option from this one
abbrev pub leads_to_next : Grant → Grant → Bool
leads_to_next grant next = nat_lt grant.place next.place && gives grant next.grantor (option_of next)

-- whether the grants of these ranks, among some grants, lead on from a grant to the need
abbrev pub leads_on : List Grant → Grant → List ℕ → ℕ → Need → Bool
leads_on grants grant [] user need = gives grant user need
leads_on grants grant (ranked ∷ ranks) user need =
    option_map_or (λ next. leads_to_next grant next && leads_on grants next ranks user need) (grant_at ranked grants) false

-- whether the grant of the first rank, once it is looked up, is one by the owner from which the later ones lead on to the need
abbrev pub bears_path : List Grant → ℕ → ℕ → Need → List ℕ → Option Grant → Bool
bears_path grants owner user need later None = false
bears_path grants owner user need later (Some first) =
    (first.table == need.table) && ((first.grantor == owner) && leads_on grants first later user need)
