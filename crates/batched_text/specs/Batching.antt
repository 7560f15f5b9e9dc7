-- A text that is read, run and reported in batches.
use Rattle.std.specs.Prelude.{◌≡◌, ◌≤◌, ◌<◌, ◌+◌, ◌^◌, ◌++◌, ◌∷◌, [], ⊤, ℕ, Bool, true, false, IfSome, Result, Ok, List, Option, Some, None, length, nat_lt, if◌then◌else◌}
use Rattle.std.specs.Io.KnownBytes.{Appends, Consumes, prepend_known}
use Rattle.line_io.specs.declared.limits.TheConstants.{BUFFER_BYTES, MOST_GIVEN_BYTES}
use Rattle.report.specs.Report.{ParsedLine}
use Rattle.sequencer.specs.Log.{Accepted, empty_log}
use Rattle.sequencer.specs.Whole.{IsWhole}
use Rattle.bohm_base.specs.Collecting.{AreReadBefore, Collects, IsLogOf, line_outcome, places_in, report_text, with_reading}
use Rattle.bohm_base.specs.Pending.{HasBegunReport, ReportsInput, WritesBegunReport}
use Rattle.bohm_base.specs.declared.collecting.LineOutcome.{LineOutcome}
use Rattle.line_io.specs.declared.fault.EngineFault.{EngineFault}
use Rattle.engine.specs.Engine.{Run, finished}
use Rattle.batched_text.specs.Faults.{IsOfBatch}
use Rattle.batched_text.specs.History.{IsCutBy, IsKeptBy, IsRanTo, IsTrimmedBy}
use Rattle.batched_text.specs.ReadBytes.{IfRead}
use Rattle.batched_text.specs.Settings.{are_within_limits, mark_behind}
use Rattle.batched_text.specs.Sweeping.{IsSwept}
use Rattle.batched_text.specs.declared.line_run.LineRun.{LineRun}
use Rattle.batched_text.specs.declared.history.Plan.{Plan}
use Rattle.batched_text.specs.declared.settings.Settings.{Settings}

-- the report's lines for some lines from this number on, the first of which with a place has this one
abbrev pub lines_text : Accepted → ℕ → ℕ → List LineOutcome → List ℕ
lines_text log number place lines = report_text log.statements log.names number place lines

-- the number of the next line
abbrev pub next_line : LineRun → ℕ
next_line run = run.lines + length run.waiting.items + 1

-- the waiting lines have the places that weren't reported
abbrev pub IsCounted : LineRun → Type 0
IsCounted run = run.reported + places_in run.waiting.items ≡ length run.engine.log.statements

-- a line that was read so was taken, and no line of the report was made since
pub record Takes (reading : ParsedLine) (old new : LineRun) : Type 0 where
  pub engine : new.engine ≡ record old.engine { log = with_reading old.engine.log reading }
  pub waiting : new.waiting.items ≡ old.waiting.items ++ line_outcome old.engine.log.names reading ∷ []
  pub lines : new.lines ≡ old.lines
  pub reported : new.reported ≡ old.reported
  pub pending : new.pending.items ≡ old.pending.items
  pub whole : IsWhole new.engine.log

-- no line was taken or reported
pub record TakesNothing (old new : LineRun) : Type 0 where
  pub engine : new.engine ≡ old.engine
  pub waiting : new.waiting.items ≡ old.waiting.items
  pub lines : new.lines ≡ old.lines
  pub reported : new.reported ≡ old.reported
  pub pending : new.pending.items ≡ old.pending.items

-- of some lines, of which the last has the number before this one, the first were reported after what was pending, and the others wait
pub record ReportsLines (log : Accepted) (done_old done_new : ℕ) (lines waiting : List LineOutcome) (next : ℕ)
    (pending_old pending_new : List ℕ) : Type 0 where
  pub out : List LineOutcome
  pub all : lines ≡ out ++ waiting
  pub first : ℕ
  pub number : first + length lines ≡ next
  pub told : pending_new ≡ pending_old ++ lines_text log first done_old out
  pub places : done_new ≡ done_old + places_in out

-- a line that was read so was dealt with: it waits for the end of its batch, or its batch was run and is reported
pub record Deals (reading : ParsedLine) (old new : LineRun) : Type 0 where
  pub log : new.engine.log ≡ with_reading old.engine.log reading
  pub number : next_line new ≡ next_line old + 1
  pub reports :
      ReportsLines new.engine.log old.reported new.reported (old.waiting.items
      ++ line_outcome old.engine.log.names reading ∷ [])
      new.waiting.items (next_line new) old.pending.items new.pending.items

-- the lines that wait are counted, what is finished is kept or dropped as it is to be, the batches that are finished are full, but
-- where they may end early, no rows are kept but those that are to be, and the next batch isn't larger than one may be
pub record IsSteady (plan : Plan) (run : LineRun) : Type 0 where
  pub within : are_within_limits plan.settings ≡ true
  pub counted : IsCounted run
  pub ran : IsRanTo plan.cut run.reported run.engine
  pub numbered : next_line run ≤ 2 ^ 64
  pub kept : IsKeptBy plan.history run.reported run.engine
  pub cut : IsCutBy plan.cut plan.settings run.engine
  pub swept : IsSwept run.engine.store
  pub most : length run.engine.log.statements ≤ run.reported + plan.settings.batch

-- and the log is one that was taken
pub record IsFilling (plan : Plan) (run : LineRun) : Type 0 where
  pub whole : IsWhole run.engine.log
  pub steady : IsSteady plan run

-- the next batch has room for a line
abbrev pub HasRoomForLine : Plan → LineRun → Type 0
HasRoomForLine plan run = length run.engine.log.statements < run.reported + plan.settings.batch

-- so it is, and a further line has room
pub record IsOpen (plan : Plan) (run : LineRun) : Type 0 where
  pub filling : IsFilling plan run
  pub less : HasRoomForLine plan run

-- the first of the lines that waited were reported after what was pending, the others wait, and a further line has room
pub record ReportsFirst (plan : Plan) (old new : LineRun) : Type 0 where
  pub log : new.engine.log ≡ old.engine.log
  pub number : next_line new ≡ next_line old
  pub lines :
      ReportsLines old.engine.log old.reported new.reported old.waiting.items new.waiting.items
      (next_line old) old.pending.items new.pending.items
  pub room : IsOpen plan new

-- the places that waited were run as a batch, the rows trimmed and swept after it if it has a place
pub record RunsBatch (settings : Settings) (old new : Run) : Type 0 where
  pub log : new.log ≡ old.log
  pub all : finished new ≡ length old.log.statements
  pub mark : new.store.mark
      ≡ (if nat_lt (finished old) (length old.log.statements)
      then mark_behind settings (finished old) (length old.log.statements)
      else old.store.mark)
  pub swept : IsSwept new.store

-- all lines that waited were reported after what was pending: their places were run as a batch, and what is finished is kept or dropped as
-- it is to be
pub record ReportsAll (plan : Plan) (old new : LineRun) : Type 0 where
  pub ran : RunsBatch plan.settings old.engine new.engine
  pub lines : new.lines ≡ old.lines + length old.waiting.items
  pub left : new.waiting.items ≡ []
  pub told : new.pending.items ≡ old.pending.items ++ lines_text old.engine.log (old.lines + 1) old.reported old.waiting.items
  pub reported : new.reported ≡ length old.engine.log.statements
  pub kept : IsKeptBy plan.history new.reported new.engine

-- neither the log nor the lines that wait have changed, and none was reported
pub record KeepsLines (old new : LineRun) : Type 0 where
  pub log : new.engine.log ≡ old.engine.log
  pub waiting : new.waiting.items ≡ old.waiting.items
  pub lines : new.lines ≡ old.lines
  pub reported : new.reported ≡ old.reported

-- a fault of a batch, after which what was pending is
pub record IsFaultOfBatch (plan : Plan) (old new : LineRun) (fault : EngineFault) : Type 0 where
  pub stops : IsOfBatch plan.settings.workers fault
  pub pending : new.pending.items ≡ old.pending.items

-- no line was taken yet
pub record IsFresh (run : LineRun) : Type 0 where
  pub log : run.engine.log ≡ empty_log
  pub whole : IsWhole run.engine.log
  pub none : finished run.engine ≡ 0
  pub mark : run.engine.store.mark ≡ 0
  pub kept : run.engine.dropped ≡ 0
  pub nobody : run.waiting.items ≡ []
  pub lines : run.lines ≡ 0
  pub reported : run.reported ≡ 0
  pub nothing : run.pending.items ≡ []

-- nor is a setting outside its limits
abbrev pub IsBeginning : Plan → LineRun → Type 0
IsBeginning plan run = (are_within_limits plan.settings ≡ true) × IsFresh run

-- a further line can be dealt with
pub record IsBatchReady (plan : Plan) (run : LineRun) (ahead given : ℕ) : Type 0 where
  pub room : IsOpen plan run
  pub bounded : 0 < ahead → given ≤ MOST_GIVEN_BYTES + BUFFER_BYTES
  pub numbered : next_line run + ahead ≤ given + 1

-- the lines of the input before what is still to come are read so, wherever after them it ends
pub record AreReadFirst (input rest : List ℕ) (earlier : List ParsedLine) : Type 0 where
  pub taken : List ℕ
  pub all : input ≡ taken ++ rest
  pub reads : (more end : List ℕ) → rest ≡ more ++ end → AreReadBefore (taken ++ more) more earlier

-- the lines so far: those that were reported and those that are waiting
pub record IsBatched (input rest written : List ℕ) (log : Accepted) (done : ℕ) (waiting : List LineOutcome) (next : ℕ) : Type 0 where
  pub earlier : List ParsedLine
  pub leads : AreReadFirst input rest earlier
  pub reported : List LineOutcome
  pub made : IsLogOf earlier log (reported ++ waiting)
  pub number : 1 + length reported + length waiting ≡ next
  pub places : places_in reported ≡ done
  pub text : written ≡ lines_text log 1 0 reported
  pub whole : IsWhole log
  pub within : done ≤ length log.statements

-- so it is with what the reader had and has, and with what the writer had, has, and has pending
abbrev pub Batched : Option (List ℕ) → Option (List ℕ) → Option (List ℕ) → Option (List ℕ) → List ℕ → Accepted
    → ℕ → List LineOutcome → ℕ → Type 0
Batched None in_now out_old out_now pending log done waiting next = ⊤
Batched (Some input) None out_old out_now pending log done waiting next = ⊥
Batched (Some input) (Some rest) out_old out_now pending log done waiting next =
    (front : List ℕ) × (Appends out_old out_now front × IsBatched input rest (front ++ pending) log done waiting next)

-- where a run is between two lines: what is still to come, what of it the reader has left, how many bytes of it are ahead and how
-- many the reader gave; what the writer holds; and the lines that were dealt with
pub record BatchedStanding : Type 0 where
  pub rest : Option (List ℕ)
  pub left : Option (List ℕ)
  pub ahead : ℕ
  pub given : ℕ
  pub out : Option (List ℕ)
  pub run : LineRun

-- so it does where some bytes are ahead and others are still to be read
abbrev pub standing_at : List ℕ → Option (List ℕ) → ℕ → Option (List ℕ) → LineRun → BatchedStanding
standing_at ahead remaining given out run = record {
  rest = prepend_known ahead remaining;
  left = remaining;
  ahead = length ahead;
  given = given;
  out = out;
  run = run;
}

-- the lines of the input up to where it is now are reported or wait, the end of the report still pending
abbrev pub BatchedUpTo : Option (List ℕ) → Option (List ℕ) → Option (List ℕ) → Option (List ℕ) → LineRun → Type 0
BatchedUpTo input rest out out_now run =
    Batched input rest out out_now run.pending.items run.engine.log run.reported run.waiting.items (next_line run)

-- so it is where the run is
abbrev pub BatchedTo : Option (List ℕ) → Option (List ℕ) → BatchedStanding → Type 0
BatchedTo input out now = BatchedUpTo input now.rest out now.out now.run

-- one more line was taken, and further ones perhaps
pub record TakesBatchedLine (plan : Plan) (old new : BatchedStanding) : Type 0 where
  pub ready : IsBatchReady plan new.run new.ahead new.given
  pub begun : 1 < next_line new.run
  pub forward : old.given + new.ahead < new.given + old.ahead
  pub most : new.given ≤ MOST_GIVEN_BYTES + BUFFER_BYTES
  pub batched : (input out : Option (List ℕ)) → BatchedTo input out old → BatchedTo input out new

-- all of the input was read, and all lines of it are reported or wait
abbrev pub Gathers : Option (List ℕ) → Option (List ℕ) → Option (List ℕ) → Option (List ℕ) → LineRun → Type 0
Gathers input left out_old out_now run =
    IfSome input (λ bytes. Consumes input left bytes × BatchedUpTo input (Some []) out_old out_now run)

-- after what the writer held comes a beginning of the report of what was read, the end of it still pending
abbrev pub HasBegunReportOfRead : Option (List ℕ) → Option (List ℕ) → Option (List ℕ) → Option (List ℕ) → List ℕ → Type 0
HasBegunReportOfRead input left old now pending = IfRead input left (λ given. HasBegunReport (Some given) old now pending)

-- after what the writer held comes a beginning of the report of what was read, and nothing else
abbrev pub WritesBegunReportOfRead : Option (List ℕ) → Option (List ℕ) → Option (List ℕ) → Option (List ℕ) → Type 0
WritesBegunReportOfRead input left old now = IfRead input left (λ given. WritesBegunReport (Some given) old now)

-- of a run by its result: it reports the input, and what it wrote is also a beginning of the report of what was read
abbrev pub ReportsRead : {A F : Type 0} → Option (List ℕ) → Option (List ℕ) → Option (List ℕ) → Option (List ℕ) → Result A F → Type 0
ReportsRead input left old now result = ReportsInput input old now result × WritesBegunReportOfRead input left old now

-- what a turn resulted in by its answer, whatever input is batched: one more line was taken, or there was none; and in any case a beginning
-- of the report is written, also of the report of what was read
pub record BatchedTurn (plan : Plan) (result : Result Bool EngineFault)
    (old new : BatchedStanding) : Type 0 where
  pub taken : result ≡ Ok true → TakesBatchedLine plan old new
  pub room : result ≡ Ok false → IsOpen plan new.run
  pub ended : result ≡ Ok false → (input out : Option (List ℕ)) → BatchedTo input out old → Gathers input new.left out new.out new.run
  pub begun : (input out : Option (List ℕ)) → BatchedTo input out old → HasBegunReport input out new.out new.run.pending.items
  pub begun_read : (input out : Option (List ℕ)) → BatchedTo input out old
      → HasBegunReportOfRead input new.left out new.out new.run.pending.items

-- the log is that of the input
abbrev pub IsLogOfText : Option (List ℕ) → Accepted → Type 0
IsLogOfText None log = ⊤
IsLogOfText (Some input) log = (lines : List LineOutcome) × Collects input log lines

-- the text was run: its log is finished, the rows before the last few batches aren't kept, no versions but those that rows come from are,
-- and what is finished is kept or dropped as it is to be
pub record HasRunText (plan : Plan) (input : Option (List ℕ)) (run : Run) : Type 0 where
  pub log : IsLogOfText input run.log
  pub all : finished run ≡ length run.log.statements
  pub trimmed : IsTrimmedBy plan.cut plan.settings run
  pub swept : IsSwept run.store
  pub kept : IsKeptBy plan.history (finished run) run
