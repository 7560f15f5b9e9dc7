use Rattle.std.proofs.Common.{◌≡◌, ◌<◌, ◌≤◌, ◌+◌, ◌-◌, length}
use Rattle.std.specs.Io.KnownBytes.{prepend_known}
use Rattle.line_io.specs.Ahead.{ahead}
use Rattle.bohm_base.specs.Collecting.{CollectsSoFar}
use Rattle.line_io.specs.declared.limits.TheConstants.{BUFFER_BYTES, MOST_GIVEN_BYTES}
use Rattle.bohm_base.proofs.collecting.collect_all.Given as goal

abbrev pub invariant-lines : goal.invariant-lines
invariant-lines g l = record {
  collected : CollectsSoFar (g.R.Read.remaining l.initial.reader.inner) (prepend_known (ahead l.reading) (g.R.Read.remaining l.reader.inner)) l.collected.log l.collected.lines.items;
  bounded : 0 < length (ahead l.reading) → l.reader.given ≤ MOST_GIVEN_BYTES + BUFFER_BYTES;
  read_errors : l.reader.errors ≡ l.initial.reader.errors;
}

abbrev pub decreases-lines : goal.decreases-lines
decreases-lines g l = MOST_GIVEN_BYTES + BUFFER_BYTES + length (ahead l.reading) - l.reader.given
