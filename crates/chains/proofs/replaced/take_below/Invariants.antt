use Rattle.std.proofs.Common.{◌≡◌, ◌+◌, ◌++◌, List, length, map}
use Rattle.std.specs.VecDeque.{deque_len}
use Rattle.chains.specs.Kept.{AreWrittenBelow}
use Rattle.chains.specs.Keyed.{replacing_write}
use Rattle.chains.specs.declared.replaced.Replaced.{Replaced as Older}
use Rattle.chains.proofs.replaced.take_below.Given as goal

-- this many were taken out, each of which was replaced below the mark
abbrev pub invariant-loop-one : goal.invariant-loop-one
invariant-loop-one l =
    (taken : List Older) × (l.initial.older.items ≡ taken ++ l.older.items) × (length taken + deque_len l.older ≡ deque_len l.initial.older)
    × AreWrittenBelow l.mark (map replacing_write taken)

abbrev pub decreases-loop-one : goal.decreases-loop-one
decreases-loop-one l = deque_len l.older
