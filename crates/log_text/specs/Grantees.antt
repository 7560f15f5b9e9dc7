-- The grantees of a deed, as a line spells them.
use Rattle.std.specs.Prelude.{◌≢◌, ℕ, ◌≤◌, Bool, true, false, List, length, map, bytes_eq, codes, if◌then◌else◌, IsTrue}
use Rattle.std.specs.List.{join_with_byte, AllByRecursion, AllPairs}
use Rattle.model_base.specs.declared.limits.TheConstants.{MOST_GRANTEES}
use Rattle.line_words.specs.Words.{is_name, comma_pieces}
use Rattle.log_text.specs.declared.grantees.RawGrantee.{RawGrantee}
use Rattle.log_text.specs.declared.grantees.RawGrantee.TheVariants.{Named, Public}

-- grantee = name | "PUBLIC"
abbrev pub grantee_word : RawGrantee → List ℕ
grantee_word (Named name) = name
grantee_word Public = codes "PUBLIC"

-- grantees = grantee {"," grantee}
abbrev pub grantees_word : List RawGrantee → List ℕ
grantees_word grantees = join_with_byte 44 (map grantee_word grantees)

-- whether it is PUBLIC
abbrev pub is_everyone : RawGrantee → Bool
is_everyone (Named name) = false
is_everyone Public = true

-- the name of a grantee is a name
abbrev pub IsGrantee : RawGrantee → Type 0
IsGrantee (Named name) = IsTrue (is_name name)
IsGrantee Public = Unit {0}

-- one to `MOST_GRANTEES` grantees, no two of which are the same
abbrev pub AreGrantees : List RawGrantee → Type 0
AreGrantees grantees = (1 ≤ length grantees) × (length grantees ≤ MOST_GRANTEES) × AllByRecursion IsGrantee grantees
    × AllPairs (λ one other. one ≢ other) (map grantee_word grantees)

-- PUBLIC, or the user of the name
abbrev pub grantee_named : List ℕ → RawGrantee
grantee_named w = if bytes_eq w (codes "PUBLIC") then Public else Named w

-- those of a word's pieces
abbrev pub grantees_named : List (List ℕ) → List RawGrantee
grantees_named words = map grantee_named words

abbrev pub grantees_written : List ℕ → List RawGrantee
grantees_written word = grantees_named (comma_pieces word)
