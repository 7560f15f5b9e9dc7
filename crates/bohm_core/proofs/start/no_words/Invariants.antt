use Rattle.std.proofs.Common.{◌≡◌, [], replicate}
use Rattle.bohm_core.specs.Storage.{lists_of}
use Rattle.bohm_core.proofs.start.no_words.Given as goal

abbrev pub invariant-loop-index : goal.invariant-loop-index
invariant-loop-index l = lists_of l.own.items ≡ replicate l.index []
