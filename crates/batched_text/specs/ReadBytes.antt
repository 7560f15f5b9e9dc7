-- What was read of the bytes that a reader had.
use Rattle.std.specs.Prelude.{IfSome, List, Option, ℕ}
use Rattle.std.specs.Io.KnownBytes.{Consumes}

-- if it is known what a reader had, this holds of what was read of it: of those bytes less what the reader has left
abbrev pub IfRead : Option (List ℕ) → Option (List ℕ) → (List ℕ → Type 0) → Type 0
IfRead had left P = IfSome had (λ bytes. (given : List ℕ) × (Consumes had left given × P given))
