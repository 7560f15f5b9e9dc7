use Rattle.std.proofs.Common.{◌≡◌, [], replicate}
use Rattle.filling.specs.Ends.{ended_lists}
use Rattle.filling.proofs.completion.ends.Groups.new.Given as goal

-- this many empty lists
abbrev pub invariant-loop-index : goal.invariant-loop-index
invariant-loop-index l = ended_lists l.lists.items ≡ replicate l.index []
