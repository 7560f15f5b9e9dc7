use Rattle.std.proofs.Common.{◌≡◌, [], drop, take}
use Rattle.sequencer.specs.Refusal.{accesses_refusal}
use Rattle.sequencer.proofs.catalog.Catalog.test_accesses.Given as goal

abbrev pub invariant-loop-index : goal.invariant-loop-index
invariant-loop-index l =
    accesses_refusal l.self [] l.accesses ≡ accesses_refusal l.self (take l.index l.accesses) (drop l.index l.accesses)
