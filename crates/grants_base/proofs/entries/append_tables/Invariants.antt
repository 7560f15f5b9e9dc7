use Rattle.std.proofs.Common.{◌≡◌, ◌≤◌, ◌+◌, ◌++◌, length, take, vec_len, vec_capacity}
use Rattle.grants_base.proofs.entries.append_tables.Given as goal

-- this many tables are after the others, and there is room for the rest
abbrev pub invariant-loop-creation : goal.invariant-loop-creation
invariant-loop-creation l = record {
  items : l.tables.items ≡ l.initial.tables.items ++ take l.creation-index l.more;
  len : vec_len l.tables ≡ vec_len l.initial.tables + l.creation-index;
  room : vec_len l.initial.tables + length l.more ≤ vec_capacity l.tables;
}
