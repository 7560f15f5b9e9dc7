-- By which grants in force a user got what a need asks for: the earliest that gives it, before that the earliest that gave its grantor the
-- option, and so on, down to a grant by the table's owner. That support comes from earlier grants is the rule of P. P. Griffiths and B. W.
-- Wade, "An Authorization Mechanism for a Relational Database System", ACM Transactions on Database Systems 1 (1976), with R. Fagin's
-- correction, "On an Authorization Mechanism", in the same journal, 3 (1978).
use Rattle.std.specs.Prelude.{ℕ, List, [], ◌∷◌, ◌++◌, reverse, if◌then◌else◌, IsTrue}
use Rattle.model_base.specs.declared.deed.Grant.{Grant}
use Rattle.model_base.specs.declared.deed.Need.{Need}
use Rattle.model_base.specs.Privileges.{owns, gives, has, option_of}

-- the path of a need by grants that are listed last first: if the earlier ones give the need, it is theirs; else, if the
-- last gives it, it ends with that, after the path of its grantor's option
abbrev pub path_back : List ℕ → List Grant → ℕ → Need → List Grant
path_back owners [] user need = []
path_back owners (grant ∷ earlier) user need =
    if has owners earlier user need then path_back owners earlier user need
    else (if gives grant user need then path_back owners earlier grant.grantor (option_of grant) ++ grant ∷ [] else [])

-- the path of a need of a user by the grants; it is empty for the table's owner
abbrev pub path : List ℕ → List Grant → ℕ → Need → List Grant
path owners grants user need = path_back owners (reverse grants) user need

-- the grants lead from this one to the need: each gives the grantor of the next the option, and the last gives the need
abbrev pub LeadsFrom : Grant → List Grant → ℕ → Need → Type 0
LeadsFrom grant [] user need = IsTrue (gives grant user need)
LeadsFrom grant (next ∷ grants) user need = IsTrue (gives grant next.grantor (option_of next)) × LeadsFrom next grants user need

-- the grants lead from the table's owner to the need: the user is the owner, or the owner made the first, and that leads on
abbrev pub LeadsTo : List ℕ → List Grant → ℕ → Need → Type 0
LeadsTo owners [] user need = IsTrue (owns owners user need.table)
LeadsTo owners (grant ∷ grants) user need = IsTrue (owns owners grant.grantor grant.table) × LeadsFrom grant grants user need
