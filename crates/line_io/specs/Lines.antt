-- The lines of a text.
use Rattle.std.specs.Prelude.{◌≡◌, ◌<◌, ℕ, List, [], ◌∷◌, ◌==◌, if◌then◌else◌, length, slice_index}
use Rattle.std.specs.List.{onto_first}

-- The lines of a text: cut at LF; a last piece without LF is a line if it isn't empty.
abbrev pub lines_of : List ℕ → List (List ℕ)
lines_of [] = []
lines_of (b ∷ bs) = if b == 10 then [] ∷ lines_of bs else onto_first b (lines_of bs)

-- The bytes before the first LF, or all of them if there is none.
abbrev pub first_line : List ℕ → List ℕ
first_line [] = []
first_line (b ∷ bs) = if b == 10 then [] else b ∷ first_line bs

-- The bytes after the first LF, or none if there is none.
abbrev pub other_lines : List ℕ → List ℕ
other_lines [] = []
other_lines (b ∷ bs) = if b == 10 then bs else other_lines bs

-- A whole line is among the bytes, one that an LF ends.
abbrev pub HasLine : List ℕ → Type 0
HasLine bytes = (k : ℕ) × (k < length bytes) × (slice_index bytes k ≡ 10)
