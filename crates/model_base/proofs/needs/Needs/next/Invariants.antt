use Rattle.std.proofs.Common.{◌≡◌, length}
use Rattle.model_base.specs.NeedsLeft.{needs_left}
use Rattle.model_base.proofs.needs.Needs.next.Given as goal

-- nothing was given yet
abbrev pub invariant-accesses : goal.invariant-accesses
invariant-accesses l =
    needs_left l.self-inside.table l.self-inside.kinds l.self-inside.accesses.now l.self-inside.deed
    ≡ needs_left l.initial.self-inside.table l.initial.self-inside.kinds l.initial.self-inside.accesses.now l.initial.self-inside.deed

abbrev pub decreases-accesses : goal.decreases-accesses
decreases-accesses l = length l.self-inside.accesses.now
