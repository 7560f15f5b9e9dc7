use Rattle.std.proofs.Common.{◌≡◌, ◌<◌, ◌+◌, ◌++◌, ◌^◌, ℕ, drop, length}
use Rattle.bohm_base.specs.Collecting.{places_in, report_text}
use Rattle.bohm_base.proofs.reported_log.put_lines.Given as goal

-- the text so far, with the lines that are left
abbrev pub invariant-loop-line : goal.invariant-loop-line
invariant-loop-line g l = record {
  text : l.text.items ++ report_text (g.L.ReportedLog.log l.log).statements (g.L.ReportedLog.log l.log).names (l.number + 1) l.place (drop l.line-index l.lines)
      ≡ l.initial.text.items ++ report_text (g.L.ReportedLog.log l.log).statements (g.L.ReportedLog.log l.log).names (l.initial.number + 1) l.initial.place l.lines;
  kept : (k : ℕ) → k < places_in (drop l.line-index l.lines) → g.L.ReportedLog.is_kept l.log (l.place + k);
  places : l.place + places_in (drop l.line-index l.lines) ≡ l.initial.place + places_in l.lines;
  number : l.number + length (drop l.line-index l.lines) < 2 ^ 64;
}
