use Rattle.std.proofs.Common.{◌≡◌, take}
use Rattle.sequencer.proofs.names.NameTable.catch_up.Given as goal

abbrev pub invariant-loop-index : goal.invariant-loop-index
invariant-loop-index l = l.self ≡ take l.index l.later
