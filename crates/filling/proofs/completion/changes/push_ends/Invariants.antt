use Rattle.std.proofs.Common.{◌≡◌, ◌<◌, ◌+◌, [], length, map, take}
use Rattle.std.specs.Prelude.{All}
use Rattle.model_base.specs.Records.{ended_at}
use Rattle.grants_base.specs.Book.{extended}
use Rattle.grants_base.specs.declared.entries.End.{End}
use Rattle.filling.proofs.completion.changes.push_ends.Given as goal

-- the ends of the first of these grants are there
abbrev pub invariant-loop-name : goal.invariant-loop-name
invariant-loop-name l = record {
  ends : (extended l.book [] l.grants l.ends.items).records
      ≡ map (ended_at l.place (take l.name-index l.ended)) (extended l.book [] l.grants l.initial.ends.items).records;
  slots : All (λ (end : End). end.slot < length l.book.records + length l.grants) l.initial.ends.items
      → All (λ (end : End). end.slot < length l.book.records + length l.grants) l.ends.items;
}
