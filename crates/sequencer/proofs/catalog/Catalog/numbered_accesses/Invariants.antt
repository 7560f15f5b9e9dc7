use Rattle.std.proofs.Common.{◌≡◌, ◌≤◌, [], drop, take, map, length}
use Rattle.std.specs.Vec.{vec_capacity}
use Rattle.sequencer.specs.Catalog.{numbered_access}
use Rattle.sequencer.specs.Refusal.{accesses_refusal}
use Rattle.sequencer.proofs.catalog.Catalog.numbered_accesses.Given as goal

abbrev pub invariant-loop-index : goal.invariant-loop-index
invariant-loop-index l = record {
  found : l.found.items ≡ map (numbered_access l.self) (take l.index l.accesses);
  refusal : accesses_refusal l.self [] l.accesses ≡ accesses_refusal l.self (take l.index l.accesses) (drop l.index l.accesses);
  room : length l.accesses ≤ vec_capacity l.found;
}
