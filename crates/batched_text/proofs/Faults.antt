-- A fault that is passed on tells the same failures.
use Rattle.std.proofs.Common.{◌≡◌, ◌<◌, ◌≤◌, ◌+◌, ℕ, Result, Ok, Err, refl, sym, ap, ◌∙◌, arith, inl, inr, subst}
use Rattle.std.specs.Prelude.{IfErr, IsErrAnd, OnErr, OnOk}
use Rattle.line_io.specs.Faults.{IsOfReading}
use Rattle.line_io.specs.Known.{raised}
use Rattle.line_io.specs.declared.fault.EngineFault.{EngineFault}
use Rattle.bohm_base.specs.Faults.{IsFaultInOrder, read_errors, write_errors}
use Rattle.workers.specs.Faults.{IsRunFault}
use Rattle.batched_text.specs.Batching.{IsFaultOfBatch}
use Rattle.batched_text.specs.Faults.{IsOfBatch, IsOfRun}
use Rattle.batched_text.specs.declared.line_run.LineRun.{LineRun}
use Rattle.batched_text.specs.declared.history.Plan.{Plan}

pub told_on : {B E : Type 0} (fault : E) (result : Result B E) → IsErrAnd result (λ other. other ≡ fault) → result ≡ Err fault
told_on fault (Ok value) same = absurd same
told_on fault (Err other) same = ap Err same

-- failures that were counted stay so
errors_stay : {A E : Type 0} (written : Result A E) (old new : ℕ) → OnOk written (new ≡ old) → OnErr written (new ≡ raised old) → old < 18446744073709551616 → old ≤ new
errors_stay (Ok done) old new same more most = omega (arith, same)
errors_stay (Err fault) old new same more most = omega (arith, more, most)

-- a run that ended since the writer failed has counted that, whatever was written after it
pub write_counted : (A : Type 0) {B C E : Type 0} (fault : EngineFault) (result : Result B EngineFault) (written : Result C E) (old mid new : ℕ)
    → IsErrAnd result (λ other. other ≡ fault) → result ≡ Err EngineFault.Write → mid ≡ write_errors {A = A} (Err fault) old
    → OnOk written (new ≡ mid) → OnErr written (new ≡ raised mid) → old < 18446744073709551615 → old < new
write_counted A EngineFault.NoMemory result written old mid new told is counted same more small =
    absurd (cc (sym (told_on EngineFault.NoMemory result told) ∙ is))
write_counted A EngineFault.Read result written old mid new told is counted same more small =
    absurd (cc (sym (told_on EngineFault.Read result told) ∙ is))
write_counted A EngineFault.Write result written old mid new told is counted same more small =
    let one : mid ≡ old + 1 = omega (arith, counted, small) in
    omega (arith, one, errors_stay written mid new same more (omega (arith, one, small)))
write_counted A EngineFault.BadSettings result written old mid new told is counted same more small =
    absurd (cc (sym (told_on EngineFault.BadSettings result told) ∙ is))
write_counted A EngineFault.Spawn result written old mid new told is counted same more small =
    absurd (cc (sym (told_on EngineFault.Spawn result told) ∙ is))

-- a failure of the reader is given as one
pub read_on : {A B : Type 0} (fault : EngineFault) (result : Result B EngineFault) → IsErrAnd result (λ other. other ≡ fault) → (first : Result A EngineFault) → first ≡ Err fault
    → first ≡ Err EngineFault.Read → result ≡ Err EngineFault.Read
read_on fault result same first comes is = told_on fault result same ∙ ap Err (cc)

-- a fault of a batch that is passed on is one of a batch
pub batch_told : {A : Type 0} (workers : ℕ) (fault : EngineFault) (result : Result A EngineFault) → IsErrAnd result (λ other. other ≡ fault)
    → IsOfBatch workers fault → IfErr result (IsOfBatch workers)
batch_told workers fault (Ok value) same stops = absurd same
batch_told workers fault (Err other) same stops = subst (IsOfBatch workers) (sym same) stops

-- so is that of workers: no thread is started for one
pub workers_told : {A B : Type 0} (workers : ℕ) (fault : EngineFault) (found : Result B EngineFault) (result : Result A EngineFault)
    → found ≡ Err fault → IsErrAnd result (λ other. other ≡ fault) → IsRunFault fault → (workers ≤ 1 → found ≡ Err EngineFault.Spawn → ⊥)
    → IfErr result (IsOfBatch workers)
workers_told workers fault found (Ok value) is same run alone = absurd same
workers_told workers fault found (Err other) is same (inl memory) alone = inl (same ∙ memory)
workers_told workers fault found (Err other) is same (inr start) alone =
    inr (same ∙ start, omega (arith, λ (one : workers ≤ 1). alone one (is ∙ ap Err start)))

-- a batch's fault is none of the reader's; with one worker memory ran out
pub never_reads : {A : Type 0} (workers : ℕ) (fault : EngineFault) (result : Result A EngineFault) → IsErrAnd result (λ other. other ≡ fault)
    → IsOfBatch workers fault → result ≡ Err EngineFault.Read → ⊥
never_reads workers fault (Ok value) same stops is = absurd same
never_reads workers fault (Err other) same (inl memory) is = cc (sym is ∙ ap Err (same ∙ memory))
never_reads workers fault (Err other) same (inr start) is = cc (sym is ∙ ap Err (same ∙ start.0))

pub reading_told : {A : Type 0} (fault : EngineFault) (result : Result A EngineFault) → IsErrAnd result (λ other. other ≡ fault)
    → IsOfBatch 1 fault → IfErr result IsOfReading
reading_told fault (Ok value) same stops = absurd same
reading_told fault (Err other) same (inl memory) = inl (same ∙ memory)
reading_told fault (Err other) same (inr start) = absurd (omega (arith, start.1))

-- the lines wait still
pub stays_told : {A : Type 0} (plan : Plan) (old new : LineRun) (fault : EngineFault) (result : Result A EngineFault)
    → IsErrAnd result (λ other. other ≡ fault) → IsFaultOfBatch plan old new fault → IfErr result (IsFaultOfBatch plan old new)
stays_told plan old new fault (Ok value) same stops = absurd same
stays_told plan old new fault (Err other) same stops = subst (IsFaultOfBatch plan old new) (sym same) stops

-- a fault of a batch is one of a run
run_of : {workers : ℕ} (fault : EngineFault) → IsOfBatch workers fault → IsOfRun workers fault
run_of fault (inl memory) = ((λ is. cc (sym is ∙ memory)), λ is. absurd (cc (sym is ∙ memory)))
run_of fault (inr start) = ((λ is. cc (sym is ∙ start.0)), λ is. start.1)

pub run_stops : {A : Type 0} {workers : ℕ} (fault : EngineFault) (result : Result A EngineFault) → IsErrAnd result (λ other. other ≡ fault)
    → IsOfBatch workers fault → IfErr result (IsOfRun workers)
run_stops fault (Ok value) same stops = absurd same
run_stops {workers = workers} fault (Err other) same stops = run_of other (subst (IsOfBatch workers) (sym same) stops)

-- and one that is passed on
pub run_told : {A : Type 0} {workers : ℕ} (fault : EngineFault) (result : Result A EngineFault) → IsErrAnd result (λ other. other ≡ fault)
    → IsOfRun workers fault → IfErr result (IsOfRun workers)
run_told fault (Ok value) same run = absurd same
run_told {workers = workers} fault (Err other) same run = subst (IsOfRun workers) (sym same) run

-- a run doesn't find its settings bad, and starts no thread for one worker
pub never_bad : {A : Type 0} (workers : ℕ) (result : Result A EngineFault) → IfErr result (IsOfRun workers) → result ≡ Err EngineFault.BadSettings → ⊥
never_bad workers result run is = (subst (λ found. IfErr found (IsOfRun workers)) is run).0 refl

pub one_alone : {A : Type 0} (workers : ℕ) (result : Result A EngineFault) → IfErr result (IsOfRun workers) → workers ≤ 1
    → result ≡ Err EngineFault.Spawn → ⊥
one_alone workers result run one is = omega (arith, (subst (λ found. IfErr found (IsOfRun workers)) is run).1 refl, one)

pub in_order : {A : Type 0} (workers : ℕ) (result : Result A EngineFault) → IfErr result (IsOfRun workers) → workers ≤ 1 → IfErr result IsFaultInOrder
in_order workers (Ok value) run one = tt
in_order workers (Err fault) run one = (run.0, λ is. omega (arith, run.1 is, one))

reads_of : {workers : ℕ} (A : Type 0) (fault : EngineFault) (errors : ℕ) → IsOfBatch workers fault → read_errors {A = A} (Err fault) errors ≡ errors
reads_of A fault errors (inl memory) = ap (λ (f : EngineFault). read_errors {A = A} (Err f) errors) memory
reads_of A fault errors (inr start) = ap (λ (f : EngineFault). read_errors {A = A} (Err f) errors) start.0

writes_of : {workers : ℕ} (A : Type 0) (fault : EngineFault) (errors : ℕ) → IsOfBatch workers fault → write_errors {A = A} (Err fault) errors ≡ errors
writes_of A fault errors (inl memory) = ap (λ (f : EngineFault). write_errors {A = A} (Err f) errors) memory
writes_of A fault errors (inr start) = ap (λ (f : EngineFault). write_errors {A = A} (Err f) errors) start.0

pub reads_told : {workers : ℕ} (A : Type 0) (fault : EngineFault) (result : Result A EngineFault) (errors : ℕ) → IsErrAnd result (λ other. other ≡ fault)
    → IsOfBatch workers fault → errors ≡ read_errors result errors
reads_told A fault (Ok value) errors same stops = absurd same
reads_told {workers = workers} A fault (Err other) errors same stops = sym (reads_of A other errors (subst (IsOfBatch workers) (sym same) stops))

pub writes_told : {workers : ℕ} (A : Type 0) (fault : EngineFault) (result : Result A EngineFault) (errors : ℕ) → IsErrAnd result (λ other. other ≡ fault)
    → IsOfBatch workers fault → errors ≡ write_errors result errors
writes_told A fault (Ok value) errors same stops = absurd same
writes_told {workers = workers} A fault (Err other) errors same stops = sym (writes_of A other errors (subst (IsOfBatch workers) (sym same) stops))

pub writes_never : {A : Type 0} {workers : ℕ} (fault : EngineFault) (result : Result A EngineFault) → IsErrAnd result (λ other. other ≡ fault) → IsOfBatch workers fault
    → IfErr result (λ other. other ≡ EngineFault.Write → ⊥)
writes_never fault (Ok value) same stops = absurd same
writes_never fault (Err other) same (inl memory) = λ is. cc (sym is ∙ same ∙ memory)
writes_never fault (Err other) same (inr start) = λ is. cc (sym is ∙ same ∙ start.0)

-- a failure of the writer is counted as its own, and not as the reader's
pub reads_failed : (A : Type 0) (result : Result A EngineFault) (errors : ℕ) → IsErrAnd result (λ other. other ≡ EngineFault.Write)
    → errors ≡ read_errors result errors
reads_failed A (Ok value) errors same = absurd same
reads_failed A (Err other) errors same = sym (ap (λ (f : EngineFault). read_errors {A = A} (Err f) errors) same)

pub writes_failed : (A : Type 0) (result : Result A EngineFault) (errors : ℕ) → IsErrAnd result (λ other. other ≡ EngineFault.Write)
    → raised errors ≡ write_errors result errors
writes_failed A (Ok value) errors same = absurd same
writes_failed A (Err other) errors same = sym (ap (λ (f : EngineFault). write_errors {A = A} (Err f) errors) same)
