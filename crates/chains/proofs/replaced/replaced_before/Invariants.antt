use Rattle.std.proofs.Common.{◌≡◌, None, take}
use Rattle.chains.specs.Keyed.{newest_below, replaced_of}
use Rattle.chains.proofs.replaced.replaced_before.Given as goal

-- the others don't tell the row before the place
abbrev pub invariant-loop-index : goal.invariant-loop-index
invariant-loop-index l =
    newest_below None (replaced_of l.key (take l.index l.older.items)) l.place ≡ newest_below None (replaced_of l.key l.older.items) l.place
