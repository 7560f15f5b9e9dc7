-- The versions of the grammar. From version 2 on a deed has lists of kinds and of grantees, each list one word with commas.
use Rattle.std.specs.Prelude.{ℕ, ◌==◌, ◌||◌, Bool, List, [], ◌∷◌, codes, nat_le, if◌then◌else◌, IsTrue}
use Rattle.line_words.specs.Words.{comma_pieces}
use Rattle.log_text.specs.declared.version.Version.{Version}
use Rattle.log_text.specs.declared.version.Version.TheVariants.{One, Two}

-- the number of a version
abbrev pub version_number : Version → ℕ
version_number One = 1
version_number Two = 2

-- whether a version has lists
abbrev pub has_lists : ℕ → Bool
has_lists version = nat_le 2 version

-- the parts of a list's word: its pieces between commas, or the whole word where there are no lists
abbrev pub parts_of : ℕ → List ℕ → List (List ℕ)
parts_of version w = if has_lists version then comma_pieces w else w ∷ []

-- where there are no lists, a word has one part
abbrev pub MayHaveParts : ℕ → ℕ → Type 0
MayHaveParts version parts = IsTrue (has_lists version || (parts == 1))

-- the first line of a log of version 2
abbrev pub heading_line : List ℕ
heading_line = codes "BOHM 2"
