-- Names and their numbers: users, and likewise tables, are numbered from 0 in the order in which accepted statements
-- first name them.
use Rattle.std.specs.Prelude.{ℕ, Bool, Option, List, [], ◌∷◌, ◌++◌, bytes_eq, position, if◌then◌else◌}
use Rattle.std.specs.List.{list_any, position_or_len}

-- whether the name is among these
abbrev pub is_known : List (List ℕ) → List ℕ → Bool
is_known names name = list_any (bytes_eq name) names

-- the number of a name that is among these
abbrev pub known_number : List (List ℕ) → List ℕ → Option ℕ
known_number names name = position (bytes_eq name) names

-- the number of a name: its place among these, or the next one
abbrev pub number_of : List (List ℕ) → List ℕ → ℕ
number_of names name = position_or_len (bytes_eq name) names

-- a name that is not among these goes last
abbrev pub with_name : List (List ℕ) → List ℕ → List (List ℕ)
with_name names name = if is_known names name then names else names ++ name ∷ []
