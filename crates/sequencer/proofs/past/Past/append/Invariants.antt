use Rattle.std.proofs.Common.{◌≡◌, ◌++◌, drop}
use Rattle.sequencer.proofs.past.Past.append.Given as goal

abbrev pub invariant-loop-item : goal.invariant-loop-item
invariant-loop-item g l = l.self.items ++ drop l.item-index l.items ≡ l.initial.self.items ++ l.items
