use Rattle.std.proofs.Common.{◌≤◌, ◌+◌, ◌*◌, ◌^◌, vec_capacity}
use Rattle.words.proofs.Begun.{IsReferred}
use Rattle.words.proofs.words.references.Given as goal

abbrev pub invariant-loop-index : goal.invariant-loop-index
invariant-loop-index g l = record {
  begun : IsReferred (g.K.BatchData.batch l.key) l.places l.index l.end l.begins.items;
  room : l.places ≤ vec_capacity l.begins;
  few : l.end ≤ l.begin + l.index * 2 ^ 8;
}
