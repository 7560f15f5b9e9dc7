use Rattle.std.proofs.Common.{◌≡◌, ◌+◌, ◌-◌, ◌≤◌, ◌++◌, filter, length, map, take}
use Rattle.std.specs.VecDeque.{deque_capacity, deque_len}
use Rattle.chains.specs.Kept.{is_absent, written_by}
use Rattle.chains.proofs.writes.note_absent.Given as goal

-- the first versions are noted, and there is room for the others
abbrev pub invariant-loop-version : goal.invariant-loop-version
invariant-loop-version l = record {
  items : l.writes.items ≡ l.initial.writes.items ++ map written_by (filter is_absent (take l.version-index l.versions));
  room : deque_len l.writes + (length l.versions - l.version-index) ≤ deque_capacity l.writes;
}
