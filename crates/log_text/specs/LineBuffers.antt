-- The statement that a line was read as, where it stays.
use Rattle.std.specs.Prelude.{List, None, Option, Some, ℕ}
use Rattle.line_words.specs.declared.access.RawAccess.{RawAccess}
use Rattle.log_text.specs.Statement.{Sentence}
use Rattle.log_text.specs.declared.line_buffers.LineBuffers.{LineBuffers}
use Rattle.log_text.specs.declared.statement.RawDeed.{RawDeed}
use Rattle.log_text.specs.declared.statement.RawForm.{RawForm}
use Rattle.log_text.specs.declared.statement.RawForm.TheVariants.{Run}
use Rattle.log_text.specs.declared.statement.RawStep.{RawStep}

-- another statement, or else the RUN of a user, of these accesses and steps and with this deed if there is one
abbrev pub other_or_run : Option Sentence → List ℕ → List RawAccess → List RawStep → Option RawDeed → Sentence
other_or_run None user accesses steps deed = record { user = user; form = Run accesses steps deed }
other_or_run (Some statement) user accesses steps deed = statement

-- the RUN that is in a room
abbrev pub run_of : LineBuffers → RawForm
run_of room = Run room.accesses.items room.steps.items room.deed

-- the statement that is in a room
abbrev pub sentence_of : LineBuffers → Sentence
sentence_of room = other_or_run room.other room.user room.accesses.items room.steps.items room.deed
