use Rattle.std.proofs.Common.{◌≡◌, ◌++◌, map, take, drop}
use Rattle.model_base.specs.Records.{ended_at}
use Rattle.trials_base.proofs.plain_book.close.Given as goal

-- the records so far are as they are to be, and the others as they were
abbrev pub invariant-loop-entry : goal.invariant-loop-entry
invariant-loop-entry l =
    l.records ≡ map (ended_at l.place l.ended) (take l.entry-index l.initial.records) ++ drop l.entry-index l.initial.records
