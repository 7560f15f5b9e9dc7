use Rattle.line_io.proofs.Written.{appends_none, front_kept}
use Rattle.bohm_base.proofs.Beginnings.{begun_written, whole_written}
use Rattle.bohm_base.specs.Collecting.{log_text}
use Rattle.bohm_base.proofs.Runnable.{runnable_log}
use Rattle.bohm_base.proofs.serial_run.run_log.Goals as goal

pub serial-requires : goal.serial-requires
serial-requires g c = rw c.statements.ensures.value (runnable_log c.args.collected.now.log c.statements.ensures.whole)

pub returns-in_err-outcomes-clause-begun : goal.returns-in_err-outcomes-clause-begun
returns-in_err-outcomes-clause-begun g c = (0, appends_none _ (log_text c.args.collected.now.log c.args.collected.now.lines.items))

pub returns-in_err-ended-clause-begun : goal.returns-in_err-ended-clause-begun
returns-in_err-ended-clause-begun g c =
    begun_written _ _ _ _ c.report_lines-ended.new.pending.items c.report_lines-ended.ensures.begun (rw c.as_slice.ensures.value at c.write_out-written.ensures.front)

pub returns-in_err-written-clause-begun : goal.returns-in_err-written-clause-begun
returns-in_err-written-clause-begun g c =
    begun_written _ _ _ _ c.report_lines-ended.new.pending.items c.report_lines-ended.ensures.begun (rw c.as_slice.ensures.value at c.write_out-written.ensures.front)

pub returns-in_err-flush-clause-begun : goal.returns-in_err-flush-clause-begun
returns-in_err-flush-clause-begun g c =
    begun_written _ _ _ _ c.report_lines-ended.new.pending.items c.report_lines-ended.ensures.begun
    (front_kept _ _ _ c.report_lines-ended.new.pending.items (rw c.as_slice.ensures.value at c.write_out-written.ensures.front) c.flush.ensures.bytes)

pub returns-clause-done : goal.returns-clause-done
returns-clause-done g c =
    whole_written _ _ _ _ _ c.report_lines-ended.new.pending.items c.in_ok-ended.ensures.done (rw c.as_slice.ensures.value at c.in_ok-written.ensures.ok) c.flush.ensures.bytes

pub returns-clause-begun : goal.returns-clause-begun
returns-clause-begun g c =
    begun_written _ _ _ _ c.report_lines-ended.new.pending.items c.report_lines-ended.ensures.begun
    (front_kept _ _ _ c.report_lines-ended.new.pending.items (rw c.as_slice.ensures.value at c.write_out-written.ensures.front) c.flush.ensures.bytes)
