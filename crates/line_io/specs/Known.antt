-- What a call did to the bytes that a reader has left and a writer holds, where those are known, and to a count of failures.
use Rattle.std.specs.Prelude.{◌≡◌, ◌<◌, ◌+◌, ◌-◌, ◌^◌, ℕ, List, ◌++◌, length, take, min, ⊤, Option, Some, None}
use Rattle.std.specs.Io.KnownBytes.{Appends, Consumes}
use Rattle.line_io.specs.Lines.{first_line, other_lines}
use Rattle.line_io.specs.declared.limits.TheConstants.{KEPT_BYTES}

-- The count after one more failure, which stops at `u64::MAX`.
abbrev pub raised : ℕ → ℕ
raised errors = min (errors + 1) (2 ^ 64 - 1)

-- The reader's first line was taken, and line is front and then that line, up to `KEPT_BYTES`.
abbrev pub TookLine : Option (List ℕ) → Option (List ℕ) → List ℕ → List ℕ → Type 0
TookLine None new front line = ⊤
TookLine (Some xs) None front line = ⊥
TookLine (Some xs) (Some ys) front line = (line ≡ take KEPT_BYTES (front ++ first_line xs)) × (ys ≡ other_lines xs)

-- The reader had bytes left.
abbrev pub HadSome : Option (List ℕ) → Type 0
HadSome None = ⊤
HadSome (Some xs) = 0 < length xs

-- A front of the reader's bytes was read, and it has the others left.
abbrev pub ReadSome : Option (List ℕ) → Option (List ℕ) → Type 0
ReadSome old new = (front : List ℕ) × Consumes old new front

-- A front of the bytes was written, and no more.
abbrev pub AppendsFront : Option (List ℕ) → Option (List ℕ) → List ℕ → Type 0
AppendsFront old new bytes = (n : ℕ) × Appends old new (take n bytes)

-- A front of what was pending was written, and the rest is pending still.
abbrev pub MovesOut : Option (List ℕ) → Option (List ℕ) → List ℕ → List ℕ → Type 0
MovesOut old new pending rest = (front : List ℕ) × Appends old new front × (front ++ rest ≡ pending)

-- What was written, and then what is pending, is a beginning of whole.
abbrev pub HasBegun : Option (List ℕ) → Option (List ℕ) → List ℕ → List ℕ → Type 0
HasBegun old new pending whole = (rest : List ℕ) × MovesOut old new whole (pending ++ rest)
