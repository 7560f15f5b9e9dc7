use Rattle.std.proofs.Common.{◌≡◌, ℕ, ◌&&◌, drop, if◌then◌else◌}
use Rattle.std.specs.List.{list_any}
use Rattle.model_base.specs.declared.reference.Reference.TheVariants.{At}
use Rattle.model_base.specs.References.{is_write_to}
use Rattle.placing.specs.Latest.{is_own_row, prior_in, writer_in}
use Rattle.placing.proofs.latest.Latest.note_writes.Given as goal

-- with the rest of the accesses, the last writers result in what they result in with all
abbrev pub invariant-loop-access : goal.invariant-loop-access
invariant-loop-access l = record {
  partition : l.self.partition ≡ l.initial.self.partition;
  partitions : l.self.partitions ≡ l.initial.self.partitions;
  writers :
      (table row : ℕ)
      → (if is_own_row l.initial.self table row && list_any (is_write_to table row) (drop l.access-index l.accesses) then At l.place else writer_in l.self table row)
      ≡ (if is_own_row l.initial.self table row && list_any (is_write_to table row) l.accesses then At l.place else writer_in l.initial.self table row);
  deeds : (table : ℕ) → prior_in l.self table ≡ prior_in l.initial.self table;
}
