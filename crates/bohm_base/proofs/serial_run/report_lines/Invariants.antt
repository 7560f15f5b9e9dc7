use Rattle.std.proofs.Common.{◌≡◌, ◌≤◌, ◌+◌, ◌++◌, ◌-◌, drop, length}
use Rattle.line_io.specs.Known.{MovesOut}
use Rattle.bohm_base.specs.Collecting.{log_text, report_text}
use Rattle.bohm_base.proofs.serial_run.report_lines.Given as goal

-- the lines so far are written or pending
abbrev pub invariant-loop-done : goal.invariant-loop-done
invariant-loop-done g l = record {
  written : MovesOut (g.W.Write.contents l.initial.writer.inner) (g.W.Write.contents l.writer.inner)
      (log_text l.collected.log l.collected.lines.items)
      (l.pending.items ++ report_text l.collected.log.statements l.collected.log.names (l.done + 1) l.place (drop l.done l.collected.lines.items));
  places : l.place ≤ l.done;
  within : l.done ≤ length l.collected.lines.items;
  write_errors : l.writer.errors ≡ l.initial.writer.errors;
  flushes : l.writer.flushes ≡ l.initial.writer.flushes;
}

abbrev pub decreases-loop-done : goal.decreases-loop-done
decreases-loop-done g l = length l.collected.lines.items - l.done
