-- Lines that are read before their turn.
use Rattle.std.specs.Prelude.{◌≡◌, ◌≢◌, ◌<◌, ◌≤◌, ◌+◌, ◌++◌, ◌∷◌, [], List, None, Some, drop, length, take, ℕ}
use Rattle.line_io.specs.Lines.{first_line, other_lines}
use Rattle.line_io.specs.declared.limits.TheConstants.{KEPT_BYTES}
use Rattle.line_words.specs.declared.fault.LineFault.{LineFault}
use Rattle.model_base.specs.declared.statement.Statement.{Statement}
use Rattle.log_text.specs.Fault.{fault_in}
use Rattle.log_text.specs.Statement.{ReadsIn, Sentence}
use Rattle.sequencer.specs.Catalog.{Names}
use Rattle.sequencer.specs.Foretelling.{Foretells}
use Rattle.read_ahead.specs.declared.ahead.Ahead.{Ahead}
use Rattle.read_ahead.specs.declared.ahead.Found.{Found}

-- the line that begins at an index of the bytes, up to `KEPT_BYTES` of it
abbrev pub line_from : List ℕ → ℕ → List ℕ
line_from bytes from = take KEPT_BYTES (first_line (drop from bytes))

-- this line begins at an index of the bytes, and ends among them: with its LF it takes this many, whatever comes after the bytes
pub record IsLineAt (bytes : List ℕ) (from count : ℕ) (line : List ℕ) : Type 0 where
  pub some : 0 < count
  pub within : from + count ≤ length bytes
  pub first : (after : List ℕ) → line ≡ take KEPT_BYTES (first_line (drop from bytes ++ after))
  pub others : (after : List ℕ) → drop (from + count) bytes ++ after ≡ other_lines (drop from bytes ++ after)

-- what was found of a line by these names, in their version of the grammar: as which statement each sentence is foretold that it reads as,
-- or its fault
pub record IsFoundOf (names : Names) (line : List ℕ) (found : Found) : Type 0 where
  pub sound : (statement : Statement) → found ≡ Found.Known statement → fault_in names.version line ≡ None
  pub known : (statement : Statement) (sentence : Sentence) → found ≡ Found.Known statement → ReadsIn names.version line sentence
      → Foretells names sentence statement
  pub faulty : (fault : LineFault) → found ≡ Found.Faulty fault → fault_in names.version line ≡ Some fault
  pub told : found ≢ Found.Faulty LineFault.NoMemory

-- a line of the bytes, and what was found of it
pub record IsAhead (names : Names) (bytes : List ℕ) (ahead : Ahead) : Type 0 where
  pub at : IsLineAt bytes ahead.from ahead.count (line_from bytes ahead.from)
  pub found : IsFoundOf names (line_from bytes ahead.from) ahead.found

-- a line of this many bytes, which begins at an index, was read by these names, after the others
pub record ReadsLine (names : Names) (line : List ℕ) (from count : ℕ) (old new : List Ahead) : Type 0 where
  pub found : Found
  pub reads : IsFoundOf names line found
  pub added : new ≡ old ++ record { from = from; count = count; found = found } ∷ []
