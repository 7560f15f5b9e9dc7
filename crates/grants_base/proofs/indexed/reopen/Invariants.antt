use Rattle.std.proofs.Common.{◌≡◌, ◌++◌, map, take, drop}
use Rattle.grants_base.specs.Book.{reopened}
use Rattle.grants_base.proofs.indexed.reopen.Given as goal

-- the records so far are as they are to be, and the others as they were
abbrev pub invariant-loop-entry : goal.invariant-loop-entry
invariant-loop-entry l =
    l.records ≡ map (reopened l.place) (take l.entry-index l.initial.records) ++ drop l.entry-index l.initial.records
