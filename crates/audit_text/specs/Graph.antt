-- How the grants in force at a place are spelled, as a digraph of Graphviz. Names are between quotes as they are: one that the grammar
-- reads has small letters, digits and `_` alone (docs/FORMAT.md), so it holds no quote and no backslash.
use Rattle.std.specs.Prelude.{◌++◌, ◌&&◌, ℕ, Bool, List, [], codes, if◌then◌else◌}
use Rattle.std.specs.Fmt.{decimal}
use Rattle.std.specs.List.{flat_map, list_any}
use Rattle.model_base.specs.declared.deed.Cause.TheVariants.{Taken}
use Rattle.model_base.specs.declared.deed.Grant.{Grant}
use Rattle.model_base.specs.declared.deed.Grantee.{Grantee}
use Rattle.model_base.specs.declared.deed.Grantee.TheVariants.{Public, User}
use Rattle.model_base.specs.declared.deed.Need.{Need}
use Rattle.model_base.specs.declared.deed.Record.{Record}
use Rattle.model_base.specs.Privileges.{same_grantee}
use Rattle.model_base.specs.Records.{is_in_force_at}
use Rattle.grants_base.specs.Book.{Entries}
use Rattle.grants_base.specs.declared.entries.Creation.{Creation}
use Rattle.report.specs.Text.{cause_text, need_text, table_name, user_name}
use Rattle.audit_text.specs.Drawn.{drawn, fell_at, tables_drawn}

-- a user as a node; `users` has the names by number
abbrev pub user_text : List (List ℕ) → ℕ → List ℕ
user_text users user = codes "\"" ++ user_name users user ++ codes "\""

-- a grantee as a node; no user's name has capital letters
abbrev pub grantee_text : List (List ℕ) → Grantee → List ℕ
grantee_text users (User user) = user_text users user
grantee_text users Public = codes "\"PUBLIC\""

-- a user as a box
abbrev pub box_text : List (List ℕ) → ℕ → List ℕ
box_text users user = codes "  " ++ user_text users user ++ codes " [shape=box];"

-- the line of a table, by its number: its owner as a box
abbrev pub owner_text : List (List ℕ) → List (List ℕ) → ℕ × Creation → List ℕ
owner_text users tables numbered =
    box_text users numbered.1.owner ++ codes " // owns " ++ table_name tables numbered.0 ++ codes "\n"

-- whether the grant is to PUBLIC, and drawn
abbrev pub is_drawn_to_public : ℕ → Record → Bool
is_drawn_to_public place entry = same_grantee entry.grant.grantee Public && is_in_force_at place entry

-- the line of PUBLIC, a double circle, where an edge leads to it
abbrev pub public_text : ℕ → List Record → List ℕ
public_text place entries =
    if list_any (is_drawn_to_public place) entries then codes "  \"PUBLIC\" [shape=doublecircle];\n" else []

-- what the grant gives: its kind on its table, and whether with the option
abbrev pub given_need : Grant → Need
given_need grant = record { table = grant.table; kind = grant.kind; option = grant.option }

-- the label of a grant: its place and what it gives
abbrev pub label_text : List (List ℕ) → Grant → List ℕ
label_text tables grant = decimal grant.place ++ codes " " ++ need_text tables (given_need grant)

-- how the edge of a grant ends that fell at the place: it is dashed
abbrev pub fallen_text : ℕ → List ℕ
fallen_text place = cause_text (Taken place) ++ codes "\", style=dashed];\n"

-- how the edge of a grant ends
abbrev pub edge_ending_text : ℕ → Record → List ℕ
edge_ending_text place entry = if fell_at place entry then fallen_text place else codes "\"];\n"

-- the line of a grant: an edge from its grantor to its grantee
abbrev pub edge_text : List (List ℕ) → List (List ℕ) → ℕ → Record → List ℕ
edge_text users tables place entry =
    codes "  " ++ user_text users entry.grant.grantor ++ codes " -> " ++ grantee_text users entry.grant.grantee
    ++ codes " [label=\"" ++ label_text tables entry.grant ++ edge_ending_text place entry

-- what is drawn of the grants: PUBLIC, where an edge leads to it, and a line for each that is in force at the place
abbrev pub edges_text : List (List ℕ) → List (List ℕ) → ℕ → List Record → List ℕ
edges_text users tables place entries =
    public_text place entries ++ flat_map (edge_text users tables place) (drawn place entries)

-- the digraph: a line for each table that was created below the place, and then what is drawn of the grants; `users` and
-- `tables` have the names by number
abbrev pub graph_text : List (List ℕ) → List (List ℕ) → ℕ → Entries → List ℕ
graph_text users tables place book =
    codes "digraph grants {\n" ++ flat_map (owner_text users tables) (tables_drawn place book.tables)
    ++ edges_text users tables place book.records ++ codes "}\n"
