-- Lines of the buffered bytes that were read before their turn, and what dealing with them leads to.
use Rattle.std.specs.Prelude.{◌==◌, ◌≡◌, ◌-◌, ◌<◌, ◌≤◌, All, IfErr, IfOk, List, OnOk, Option, Result, drop, length, ℕ}
use Rattle.std.specs.Io.KnownBytes.{prepend_known}
use Rattle.sequencer.specs.Catalog.{Names}
use Rattle.sequencer.specs.Foretelling.{Begins}
use Rattle.read_ahead.specs.Ahead.{IsAhead, IsLineAt}
use Rattle.read_ahead.specs.declared.ahead.Ahead.{Ahead}
use Rattle.report.specs.Report.{ParsedLine}
use Rattle.bohm_base.specs.Collecting.{ReadsAs}
use Rattle.bohm_base.specs.Pending.{HasBegunReport}
use Rattle.line_io.specs.declared.fault.EngineFault.{EngineFault}
use Rattle.batched_text.specs.Faults.{IsOfBatch}
use Rattle.batched_text.specs.Batching.{BatchedUpTo, IsBatchReady, Takes, next_line}
use Rattle.batched_text.specs.declared.line_run.LineRun.{LineRun}
use Rattle.batched_text.specs.declared.buffered.Buffered.{Buffered}
use Rattle.batched_text.specs.declared.history.Plan.{Plan}

-- the names of the log
abbrev pub log_names : LineRun → Names
log_names run = run.engine.log.names

-- the line was read before its turn by names with which those now begin, in the version of the log
pub record WasReadAhead (now : Names) (bytes : List ℕ) (line : Ahead) : Type 0 where
  pub names : Names
  pub begins : Begins names now
  pub version : names.version ≡ now.version
  pub ahead : IsAhead names bytes line

-- so were these lines, all by the same names
pub record WereReadAhead (now : Names) (bytes : List ℕ) (lines : List Ahead) : Type 0 where
  pub names : Names
  pub begins : Begins names now
  pub version : names.version ≡ now.version
  pub ahead : All (IsAhead names bytes) lines

-- the line that begins at an index of the bytes was taken, and takes this many of them
pub record TakesAt (bytes : List ℕ) (from count : ℕ) (old new : LineRun) : Type 0 where
  pub line : List ℕ
  pub at : IsLineAt bytes from count line
  pub reading : ParsedLine
  pub reads : ReadsAs (next_line old == 1) (log_names old).version line reading
  pub takes : Takes reading old new

-- with what was reported or waits up to one index of the buffered bytes, the lines up to another are reported or wait
abbrev pub TakesFrom : List ℕ → ℕ → ℕ → LineRun → LineRun → Type 0
TakesFrom bytes from to old new =
    (behind input out held : Option (List ℕ))
    → BatchedUpTo input (prepend_known (drop from bytes) behind) out held old
    → BatchedUpTo input (prepend_known (drop to bytes) behind) out held new

-- a beginning of the report is written, where what is before an index of the buffered bytes was reported or waits
abbrev pub BeginsFrom : List ℕ → ℕ → LineRun → LineRun → Type 0
BeginsFrom bytes from old new =
    (behind input out held : Option (List ℕ))
    → BatchedUpTo input (prepend_known (drop from bytes) behind) out held old
    → HasBegunReport input out held new.pending.items

-- a further line can be dealt with where the lines up to an index of the buffered bytes are reported or wait, and the first line of all
-- is among them
pub record IsReadyAt (plan : Plan) (run : LineRun) (buffered : Buffered) (from : ℕ) : Type 0 where
  pub ready : IsBatchReady plan run (length buffered.bytes.now - from) buffered.given
  pub begun : 1 < next_line run

-- what a run of lines from an index of the bytes on resulted in, whose answer is the index before which all is dealt with: further lines
-- can be dealt with, the names begin as they did, and the version is the same; and in any case a beginning of the report is written
pub record Runs (plan : Plan) (buffered : Buffered) (from : ℕ) (old new : LineRun)
    (result : Result ℕ EngineFault) : Type 0 where
  pub within : IfOk result (λ to. to ≤ length buffered.bytes.now)
  pub ready : IfOk result (λ to. IsReadyAt plan new buffered to)
  pub taken : IfOk result (λ to. TakesFrom buffered.bytes.now from to old new)
  pub begun : BeginsFrom buffered.bytes.now from old new
  pub begins : OnOk result (Begins (log_names old) (log_names new))
  pub version : OnOk result ((log_names new).version ≡ (log_names old).version)
  pub err : IfErr result (IsOfBatch plan.settings.workers)
