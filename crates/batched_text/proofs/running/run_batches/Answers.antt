use Rattle.std.proofs.Common.{rules}
use Rattle.line_io.specs.declared.fault.EngineFault.{EngineFault}
use Rattle.bohm_base.proofs.Reached.{all_written, front_kept_written, front_written}
use Rattle.bohm_base.proofs.RunResults.{fault_counts, fault_reports}
use Rattle.batched_text.proofs.Faults.{write_counted}
use Rattle.batched_text.proofs.ReadSofar.{read_kept_written, read_written}
use Rattle.batched_text.proofs.running.run_batches.Goals as goal

pub returns-in_err-ended-clause-report : goal.returns-in_err-ended-clause-report
returns-in_err-ended-clause-report g c = (
  fault_reports _ _ _ _ c.from_residual.result c.from_residual.ensures.1
      (front_written _ _ _ _ c.report_all-ended.new.run.pending.items c.report_all-ended.ensures.begun (rw c.deref.ensures.value at c.write_out-written.ensures.front)),
  read_written _ _ _ _ _ c.report_all-ended.new.run.pending.items c.report_all-ended.ensures.begun_read (rw c.deref.ensures.value at c.write_out-written.ensures.front),
)

pub returns-in_err-written-clause-report : goal.returns-in_err-written-clause-report
returns-in_err-written-clause-report g c = (
  fault_reports _ _ _ _ c.from_residual-in_err-written.result c.from_residual-in_err-written.ensures.1
      (front_written _ _ _ _ c.report_all-ended.new.run.pending.items c.report_all-ended.ensures.begun (rw c.deref.ensures.value at c.write_out-written.ensures.front)),
  read_written _ _ _ _ _ c.report_all-ended.new.run.pending.items c.report_all-ended.ensures.begun_read (rw c.deref.ensures.value at c.write_out-written.ensures.front),
)

pub returns-in_err-end_report-clause-report : goal.returns-in_err-end_report-clause-report
returns-in_err-end_report-clause-report g c = (
  fault_reports _ _ _ _ c.from_residual-in_err-end_report.result c.from_residual-in_err-end_report.ensures.1
      (front_kept_written _ _ _ _ _ c.report_all-ended.new.run.pending.items c.report_all-ended.ensures.begun (rw c.deref.ensures.value at c.write_out-written.ensures.front)
      c.end_report.ensures.bytes),
  read_kept_written _ _ _ _ _ _ c.report_all-ended.new.run.pending.items c.report_all-ended.ensures.begun_read
      (rw c.deref.ensures.value at c.write_out-written.ensures.front) c.end_report.ensures.bytes,
)

pub returns-clause-report : goal.returns-clause-report
returns-clause-report g c = (
  (
    all_written _ _ _ _ _ c.report_all-ended.new.run.pending.items c.in_ok-ended.ensures.done (rw c.deref.ensures.value at c.in_ok-written.ensures.ok) c.end_report.ensures.bytes,
    front_kept_written _ _ _ _ _ c.report_all-ended.new.run.pending.items c.report_all-ended.ensures.begun (rw c.deref.ensures.value at c.write_out-written.ensures.front)
        c.end_report.ensures.bytes,
  ),
  read_kept_written _ _ _ _ _ _ c.report_all-ended.new.run.pending.items c.report_all-ended.ensures.begun_read
      (rw c.deref.ensures.value at c.write_out-written.ensures.front) c.end_report.ensures.bytes,
)

pub returns-in_err-ended-clause-failures : goal.returns-in_err-ended-clause-failures
returns-in_err-ended-clause-failures g c =
    fault_counts _ EngineFault.Read EngineFault.Write c.args.reader.now c.report_all-ended.new.reader c.args.writer.now c.write_out-written.new.writer
    c.from_residual.result c.from_residual.ensures.1 (search rules)
    (λ is small.
    write_counted Unit c.in_err-ended.field-0.0 c.from_residual.result c.write_out-written.result c.args.writer.now.errors c.report_all-ended.new.writer.errors
    c.write_out-written.new.writer.errors c.from_residual.ensures.1 is c.in_err-ended.ensures.writes c.write_out-written.ensures.same c.write_out-written.ensures.err small)
