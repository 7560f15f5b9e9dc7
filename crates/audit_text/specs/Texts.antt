-- What is written of a text that is read, where the bytes of reader and writer are known.
use Rattle.std.specs.Prelude.{◌≡◌, ◌⊎◌, ℕ, IfSome, List, OnOk, Option, Result}
use Rattle.std.specs.Io.KnownBytes.{Appends}
use Rattle.line_io.specs.Known.{AppendsFront}

-- after what the writer held comes what is said of the input, and nothing else
abbrev pub WritesText : (List ℕ → List ℕ → Type 0) → Option (List ℕ) → Option (List ℕ) → Option (List ℕ) → Type 0
WritesText says input old new = IfSome input (λ bytes. (text : List ℕ) × (says bytes text × Appends old new text))

-- nothing was written, or a beginning of it
abbrev pub BeginsText : (List ℕ → List ℕ → Type 0) → Option (List ℕ) → Option (List ℕ) → Option (List ℕ) → Type 0
BeginsText says input old new =
    IfSome input (λ bytes. (new ≡ old) ⊎ ((text : List ℕ) × (says bytes text × AppendsFront old new text)))

-- by the result: what was written is all that is said of the input, and after a fault a beginning of it, or nothing
abbrev pub SaysText : {A F : Type 0} → (List ℕ → List ℕ → Type 0) → Option (List ℕ) → Option (List ℕ) → Option (List ℕ) → Result A F
    → Type 0
SaysText says input old new result = OnOk result (WritesText says input old new) × BeginsText says input old new
