-- While the rest of a line is taken, what is kept of it only wants what is still to come.
use Rattle.std.proofs.Common.{◌≡◌, ◌<◌, ◌≤◌, ◌+◌, ◌-◌, length}
use Rattle.std.specs.Io.KnownBytes.{prepend_known}
use Rattle.line_io.proofs.Pieces.{KeepsLine}
use Rattle.line_io.specs.Ahead.{ahead, most_ahead}
use Rattle.line_io.specs.Known.{ReadSome}
use Rattle.line_io.specs.declared.limits.TheConstants.{BUFFER_BYTES, MOST_GIVEN_BYTES}
use Rattle.line_io.proofs.line_reader.LineReader.rest_of_line.Given as goal

abbrev pub invariant-pieces : goal.invariant-pieces
invariant-pieces g l = record {
  kept : KeepsLine (prepend_known (ahead l.initial.self) (g.R.Read.remaining l.initial.reader.inner)) (prepend_known (ahead l.self) (g.R.Read.remaining l.reader.inner)) l.initial.self.kept.items l.self.kept.items;
  some : 0 < length (ahead l.self);
  given : l.reader.given ≤ MOST_GIVEN_BYTES + BUFFER_BYTES;
  forward : l.initial.reader.given + length (ahead l.self) ≤ l.reader.given + length (ahead l.initial.self);
  left : ReadSome (g.R.Read.remaining l.initial.reader.inner) (g.R.Read.remaining l.reader.inner);
  errors : l.reader.errors ≡ l.initial.reader.errors;
  is_kept : l.self.is_kept ≡ l.initial.self.is_kept;
  most : most_ahead l.self ≡ most_ahead l.initial.self;
}

abbrev pub decreases-pieces : goal.decreases-pieces
decreases-pieces g l = MOST_GIVEN_BYTES + BUFFER_BYTES + length (ahead l.self) - l.reader.given
