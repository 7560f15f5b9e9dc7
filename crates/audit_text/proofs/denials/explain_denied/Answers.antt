use Rattle.std.proofs.Common.{◌≡◌}
use Rattle.std.specs.Prelude.{Err}
use Rattle.std.proofs.lemmas.Result.{err_from_is_err_and}
use Rattle.line_io.specs.declared.fault.EngineFault.{EngineFault}
use Rattle.audit_text.specs.declared.fault.WorkFault.{WorkFault}
use Rattle.audit_text.proofs.Flushed.{flush_alone, flush_counts}
use Rattle.audit_text.proofs.RunSofar.{denials_begun, denials_written}
use Rattle.audit_text.proofs.denials.explain_denied.Goals as goal

pub returns-in_err-write_batches-clause-text : goal.returns-in_err-write_batches-clause-text
returns-in_err-write_batches-clause-text g c =
    let p = err_from_is_err_and c.from_residual-in_err-write_batches.result c.from_residual-in_err-write_batches.ensures.1 in
    rw p.1 (tt, denials_begun c.args.is_checked _ _ _ _ c.in_ok-run.run' c.in_ok-run.ensures.of c.write_batches.ensures.begun)

pub returns-in_err-flush-clause-text : goal.returns-in_err-flush-clause-text
returns-in_err-flush-clause-text g c =
    let p = err_from_is_err_and c.from_residual-in_err-flush.result c.from_residual-in_err-flush.ensures.1 in
    rw p.1
    (tt, (denials_written c.args.is_checked _ _ _ _ _ c.in_ok-run.run' c.in_ok-run.ensures.of c.flush.ensures.bytes c.in_ok-write_batches.ensures.done).1)

pub returns-clause-text : goal.returns-clause-text
returns-clause-text g c =
    denials_written c.args.is_checked _ _ _ _ _ c.in_ok-run.run' c.in_ok-run.ensures.of c.flush.ensures.bytes c.in_ok-write_batches.ensures.done

pub returns-in_err-flush-clause-failures : goal.returns-in_err-flush-clause-failures
returns-in_err-flush-clause-failures g c =
    let ended = c.from_residual-in_err-flush.result in
    let p = err_from_is_err_and ended c.from_residual-in_err-flush.ensures.1 in
    let is : ended ≡ Err (WorkFault.Run EngineFault.Write) = cc (p.1, p.2) in
    flush_counts ended _ _ _ _ _ _ _ is c.in_ok-write_batches.ensures.whole c.in_err-flush.ensures.err

pub returns-in_err-flush-clause-alone : goal.returns-in_err-flush-clause-alone
returns-in_err-flush-clause-alone g c =
    let ended = c.from_residual-in_err-flush.result in
    let p = err_from_is_err_and ended c.from_residual-in_err-flush.ensures.1 in
    let is : ended ≡ Err (WorkFault.Run EngineFault.Write) = cc (p.1, p.2) in
    flush_alone ended is
