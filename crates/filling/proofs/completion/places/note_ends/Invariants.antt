use Rattle.std.proofs.Common.{◌≡◌, ◌==◌, ℕ, true, Some, take, ◌+◌}
use Rattle.std.specs.Prelude.{slice_get}
use Rattle.std.specs.List.{list_any}
use Rattle.model_base.specs.declared.deed.Grant.{Grant}
use Rattle.model_base.specs.Ranks.{rank}
use Rattle.bohm_core_base.specs.Batch.{batch_slots}
use Rattle.log_batch.specs.Supplied.{batch_of}
use Rattle.filling.specs.Ends.{AreSerialEnds, KeepsNoted, noted_end}
use Rattle.filling.proofs.completion.places.note_ends.Given as goal

-- the ends of the records so far are given
abbrev pub invariant-loop-name : goal.invariant-loop-name
invariant-loop-name l = record {
  told : AreSerialEnds (batch_of l.batch) l.ends;
  kept : KeepsNoted l.initial.ends l.ends;
  found : (slot : ℕ) (grant : Grant) → slice_get (batch_slots (batch_of l.batch)) slot ≡ Some grant
      → list_any (λ name. name == rank grant) (take l.name-index l.names) ≡ true → noted_end l.ends slot ≡ Some (l.batch.first + l.index);
}
