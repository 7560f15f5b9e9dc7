-- What is said of a fault after its text.
use Rattle.std.specs.Prelude.{◌≡◌, ◌⊎◌, ◌++◌, ℕ, List, [], codes}
use Rattle.line_io.specs.declared.fault.EngineFault.{EngineFault}
use Rattle.audit_text.specs.declared.fault.WorkFault.{WorkFault}
use Rattle.command_line.specs.declared.command_words.ProgramFault.{ProgramFault}

-- nothing, or some words, and then a reason behind a colon
abbrev pub MayGiveReason : List ℕ → List ℕ → Type 0
MayGiveReason words text = (text ≡ []) ⊎ ((reason : List ℕ) × (text ≡ words ++ codes ": " ++ reason))

-- what follows the text of a fault: where a log can't be read its name and a reason, where a report can't be written a reason, if the
-- reason is known, and nothing otherwise
abbrev pub FollowsFault : ProgramFault → List ℕ → List ℕ → Type 0
FollowsFault (ProgramFault.Work (WorkFault.Run EngineFault.Read)) name text = MayGiveReason (codes " " ++ name) text
FollowsFault (ProgramFault.Work (WorkFault.Run EngineFault.Write)) name text = MayGiveReason [] text
FollowsFault (ProgramFault.Work (WorkFault.Run EngineFault.NoMemory)) name text = text ≡ []
FollowsFault (ProgramFault.Work (WorkFault.NoSuchPlace places)) name text = text ≡ []
FollowsFault (ProgramFault.Work WorkFault.NoSuchTable) name text = text ≡ []
FollowsFault (ProgramFault.Work WorkFault.NoSuchUser) name text = text ≡ []
FollowsFault (ProgramFault.Work (WorkFault.Run EngineFault.BadSettings)) name text = text ≡ []
FollowsFault (ProgramFault.Work (WorkFault.Run EngineFault.Spawn)) name text = text ≡ []
FollowsFault (ProgramFault.Usage usage) name text = text ≡ []
FollowsFault (ProgramFault.Open line) name text = text ≡ []
