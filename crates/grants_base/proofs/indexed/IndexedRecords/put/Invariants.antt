use Rattle.std.proofs.Common.{◌≡◌, ◌++◌, map, take}
use Rattle.grants_base.specs.Book.{unended}
use Rattle.grants_base.proofs.indexed.IndexedRecords.put.Given as goal

-- this many grants are after the others
abbrev pub invariant-loop-grant : goal.invariant-loop-grant
invariant-loop-grant l = l.self ≡ l.initial.self ++ map unended (take l.grant-index l.grants)
