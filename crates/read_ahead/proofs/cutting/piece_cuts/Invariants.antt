use Rattle.std.proofs.Common.{◌<◌, ◌≤◌, length}
use Rattle.std.specs.Prelude.{All}
use Rattle.read_ahead.proofs.cutting.piece_cuts.Given as goal

abbrev pub invariant-cuts : goal.invariant-cuts
invariant-cuts l = record {
  some : 0 < length l.cuts.items;
  last : l.last ≤ l.to;
  within : All (λ cut. cut ≤ length l.bytes) l.cuts.items;
}
