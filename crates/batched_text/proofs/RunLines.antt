-- Runs of lines, one after the other.
use Rattle.std.proofs.Common.{◌≡◌, ◌<◌, ◌≤◌, ◌+◌, ◌^◌, ◌++◌, ℕ, List, [], length, refl, ap, sym, ◌∙◌, subst, arith}
use Rattle.std.specs.Prelude.{◌==◌, Bool, Err, IsErrAnd, Ok, Result, drop, false}
use Rattle.std.proofs.lemmas.Bool.{ne_eqb}
use Rattle.std.specs.Io.KnownBytes.{prepend_known}
use Rattle.log_text.proofs.Total.{total_in}
use Rattle.line_io.specs.Lines.{first_line}
use Rattle.report.specs.Report.{IsParsedLine, ParsedLine}
use Rattle.report.proofs.ReportLemmas.{version-with}
use Rattle.sequencer.specs.Foretelling.{Begins}
use Rattle.sequencer.specs.Log.{Accepted}
use Rattle.sequencer.proofs.Beginnings.{begins_further, begins_same}
use Rattle.read_ahead.specs.Ahead.{IsLineAt}
use Rattle.read_ahead.proofs.Cut.{took_at}
use Rattle.bohm_base.specs.Collecting.{ReadsAs}
use Rattle.bohm_base.specs.Pending.{HasBegunReport}
use Rattle.line_io.specs.declared.fault.EngineFault.{EngineFault}
use Rattle.batched_text.specs.Batching.{Deals, IsBatchReady, IsOpen, ReportsFirst, next_line}
use Rattle.batched_text.specs.Faults.{IsOfBatch}
use Rattle.batched_text.specs.Foretold.{BeginsFrom, IsReadyAt, Runs, TakesAt, TakesFrom, log_names}
use Rattle.batched_text.specs.declared.line_run.LineRun.{LineRun}
use Rattle.batched_text.specs.declared.buffered.Buffered.{Buffered}
use Rattle.batched_text.specs.declared.history.Plan.{Plan}
use Rattle.batched_text.proofs.Cutting.{dealt}
use Rattle.batched_text.proofs.ForetoldLines.{begins_dealt}
use Rattle.batched_text.proofs.LaterNames.{version-stays}
use Rattle.batched_text.proofs.Sofar.{batched_early, batched_step, begun_batched}

-- what an open batch holds lies in the log
within_open : (plan : Plan) (batching : LineRun) → IsOpen plan batching
    → batching.reported ≤ length batching.engine.log.statements
within_open plan batching room = omega (arith, room.filling.steady.counted)

-- what is reported or waits makes a beginning of the report
taken_begun : (bytes : List ℕ) (from to : ℕ) (old new : LineRun) → TakesFrom bytes from to old new → BeginsFrom bytes from old new
taken_begun bytes from to old new taken = λ behind input out held so.
    begun_batched total_in input (prepend_known (drop to bytes) behind) out held _ _ _ _ _ (taken behind input out held so)

pending_begun : (bytes : List ℕ) (from : ℕ) (old new : LineRun) → new.pending.items ≡ old.pending.items → BeginsFrom bytes from old new
pending_begun bytes from old new same = λ behind input out held so.
    subst (HasBegunReport input out held) (sym same) (begun_batched total_in input (prepend_known (drop from bytes) behind) out held _ _ _ _ _ so)

module _ (plan : Plan) (buffered : Buffered) where
  -- no line
  pub runs_none : (from : ℕ) (batching : LineRun) → from ≤ length buffered.bytes.now → IsReadyAt plan batching buffered from
      → Runs plan buffered from batching batching (Ok from)
  runs_none from batching within ready = record {
    within = within;
    ready = ready;
    taken = λ behind input out held so. so;
    begun = taken_begun buffered.bytes.now from from batching batching (λ behind input out held so. so);
    begins = begins_same (log_names batching);
    version = refl;
    err = tt;
  }

  pub ready_start : (batching : LineRun) → IsBatchReady plan batching (length buffered.bytes.now) buffered.given → 1 < next_line batching
      → IsReadyAt plan batching buffered 0
  ready_start batching ready begun = record {
    ready = record { room = ready.room; bounded = λ left. ready.bounded (omega (arith, left)); numbered = omega (arith, ready.numbered) };
    begun = begun;
  }

  -- memory was refused or no thread started, and what was pending is
  pub runs_fault : (from : ℕ) (old new : LineRun) (result : Result ℕ EngineFault) → new.pending.items ≡ old.pending.items
      → IsErrAnd result (IsOfBatch plan.settings.workers) → Runs plan buffered from old new result
  runs_fault from old new (Ok to) same is = absurd is
  runs_fault from old new (Err fault) same is = record {
    within = tt;
    ready = tt;
    taken = tt;
    begun = pending_begun buffered.bytes.now from old new same;
    begins = tt;
    version = tt;
    err = is;
  }

  -- a line after the first leaves the version
  version-dealt : (from count : ℕ) (line : List ℕ) (reading : ParsedLine) (old new : LineRun) → 1 < next_line old
      → IsLineAt buffered.bytes.now from count line → ReadsAs (next_line old == 1) (log_names old).version line reading
      → Deals reading old new → (log_names new).version ≡ (log_names old).version
  version-dealt from count line reading old new begun at reads deals =
      let other : (next_line old == 1) ≡ false = ne_eqb (next_line old) 1 (λ same. omega (arith, same, begun)) in
      let read : IsParsedLine false (log_names old).version (first_line (drop from buffered.bytes.now ++ [])) reading =
      subst (λ (b : Bool). IsParsedLine b (log_names old).version (first_line (drop from buffered.bytes.now ++ [])) reading) other
      (reads (first_line (drop from buffered.bytes.now ++ [])) (at.first [])) in
      ap (λ (log : Accepted). log.names.version) deals.log ∙ version-with (log_names old) reading
      ∙ version-stays (log_names old).version (first_line (drop from buffered.bytes.now ++ [])) reading read

  -- a line that is there can be counted
  pub numbered_at : (from count : ℕ) (line : List ℕ) (run : LineRun) → IsReadyAt plan run buffered from → IsLineAt buffered.bytes.now from count line
      → next_line run < 2 ^ 64
  numbered_at from count line run ready at =
      omega (arith, ready.ready.numbered, at.some, at.within, ready.ready.bounded (omega (arith, at.some, at.within)))

  -- one line, which was dealt with
  pub runs_dealt : (from count : ℕ) (line : List ℕ) (reading : ParsedLine) (old new : LineRun) → IsReadyAt plan old buffered from
      → IsLineAt buffered.bytes.now from count line → ReadsAs (next_line old == 1) (log_names old).version line reading
      → Deals reading old new → IsOpen plan new → Runs plan buffered from old new (Ok (from + count))
  runs_dealt from count line reading old new ready at reads deals room =
      let takes : TakesFrom buffered.bytes.now from (from + count) old new =
      λ behind input out held so.
      batched_step input (prepend_known (drop from buffered.bytes.now) behind) (prepend_known (drop (from + count) buffered.bytes.now) behind) out held line reading old new so
      (took_at buffered.bytes.now from count line at behind) reads deals (within_open plan old ready.ready.room)
      (record { whole = room.filling.whole; within = within_open plan new room }) in
      record {
        within = at.within;
        ready = record {
          ready = record {
            room = room;
            bounded = λ left. ready.ready.bounded (omega (arith, left));
            numbered = omega (arith, at.some, at.within, deals.number, ready.ready.numbered);
          };
          begun = omega (arith, ready.begun, deals.number);
        };
        taken = takes;
        begun = taken_begun buffered.bytes.now from (from + count) old new takes;
        begins = begins_dealt reading old new deals;
        version = version-dealt from count line reading old new ready.begun at reads deals;
        err = tt;
      }

  -- one line, which was taken, and then its batch was reported if that is full
  pub runs_line : (from count : ℕ) (old mid new : LineRun) → IsReadyAt plan old buffered from → TakesAt buffered.bytes.now from count old mid
      → ReportsFirst plan mid new → Runs plan buffered from old new (Ok (from + count))
  runs_line from count old mid new ready taken put =
      runs_dealt from count taken.line taken.reading old new ready taken.at taken.reads (dealt plan taken.reading old mid new taken.takes put) put.room

  -- one run of lines, and then another
  pub runs_then : (from at : ℕ) (old mid new : LineRun) (result : Result ℕ EngineFault) → Runs plan buffered from old mid (Ok at)
      → Runs plan buffered at mid new result → Runs plan buffered from old new result
  runs_then from at old mid new (Ok to) first second = record {
    within = second.within;
    ready = second.ready;
    taken = λ behind input out held so. second.taken behind input out held (first.taken behind input out held so);
    begun = λ behind input out held so. second.begun behind input out held (first.taken behind input out held so);
    begins = begins_further (log_names old) (log_names mid) (log_names new) first.begins second.begins;
    version = second.version ∙ first.version;
    err = tt;
  }
  runs_then from at old mid new (Err fault) first second = record {
    within = tt;
    ready = tt;
    taken = tt;
    begun = λ behind input out held so. second.begun behind input out held (first.taken behind input out held so);
    begins = tt;
    version = tt;
    err = second.err;
  }

  -- a fault that is passed on
  pub runs_told : (from : ℕ) (old new : LineRun) (fault : EngineFault) (result : Result ℕ EngineFault) → Runs plan buffered from old new (Err fault)
      → IsErrAnd result (λ other. other ≡ fault) → Runs plan buffered from old new result
  runs_told from old new fault (Ok to) runs is = absurd is
  runs_told from old new fault (Err other) runs is =
      subst (λ (f : EngineFault). Runs plan buffered from old new (Err f)) (sym is) runs

  -- the lines that wait are reported though their batch isn't full
  pub runs_early : (from to : ℕ) (old mid new : LineRun) → Runs plan buffered from old mid (Ok to) → ReportsFirst plan mid new
      → Runs plan buffered from old new (Ok to)
  runs_early from to old mid new runs put =
      let taken : TakesFrom buffered.bytes.now from to old new =
      λ behind input out held so.
      batched_early input (prepend_known (drop to buffered.bytes.now) behind) out held mid new (runs.taken behind input out held so) put.log put.number put.lines
      (record { whole = put.room.filling.whole; within = within_open plan new put.room }) in
      record {
        within = runs.within;
        ready = record {
          ready = record { room = put.room; bounded = runs.ready.ready.bounded; numbered = omega (arith, runs.ready.ready.numbered, put.number) };
          begun = omega (arith, runs.ready.begun, put.number);
        };
        taken = taken;
        begun = taken_begun buffered.bytes.now from to old new taken;
        begins = subst (λ (l : Accepted). Begins (log_names old) l.names) (sym put.log) runs.begins;
        version = ap (λ (l : Accepted). l.names.version) put.log ∙ runs.version;
        err = tt;
      }

  pub runs_early_fault : (from to : ℕ) (old mid new : LineRun) (result : Result ℕ EngineFault) → Runs plan buffered from old mid (Ok to)
      → new.pending.items ≡ mid.pending.items → IsErrAnd result (IsOfBatch plan.settings.workers) → Runs plan buffered from old new result
  runs_early_fault from to old mid new (Ok other) runs same is = absurd is
  runs_early_fault from to old mid new (Err fault) runs same is = record {
    within = tt;
    ready = tt;
    taken = tt;
    begun = λ behind input out held so.
        subst (HasBegunReport input out held) (sym same)
        (begun_batched total_in input (prepend_known (drop to buffered.bytes.now) behind) out held _ _ _ _ _ (runs.taken behind input out held so));
    begins = tt;
    version = tt;
    err = is;
  }

  -- and that fault is passed on
  pub runs_early_told : (from to : ℕ) (old mid new : LineRun) (fault : EngineFault) (result : Result ℕ EngineFault) → Runs plan buffered from old mid (Ok to)
      → new.pending.items ≡ mid.pending.items → IsOfBatch plan.settings.workers fault → IsErrAnd result (λ other. other ≡ fault) → Runs plan buffered from old new result
  runs_early_told from to old mid new fault result runs same stops is =
      runs_told from old new fault result (runs_early_fault from to old mid new (Err fault) runs same stops) is
