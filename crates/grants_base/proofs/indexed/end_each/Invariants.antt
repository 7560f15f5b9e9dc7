use Rattle.std.proofs.Common.{◌≡◌, drop, length}
use Rattle.grants_base.specs.Book.{end_slots}
use Rattle.grants_base.specs.InForce.{KeepsInForce, made_under}
use Rattle.grants_base.specs.Marks.{EndBy}
use Rattle.grants_base.specs.Sides.{IsSame}
use Rattle.grants_base.proofs.indexed.end_each.Given as goal

-- the ends that are left make of the records what all make, and what is in force of the records is kept, and when the last of them ended
abbrev pub invariant-loop-end : goal.invariant-loop-end
invariant-loop-end l = record {
  rest : end_slots l.records (drop l.end-index l.ends) ≡ end_slots l.initial.records l.ends;
  long : length l.records ≡ length l.initial.records;
  made : IsSame (made_under l.initial.in_force) (made_under l.in_force);
  kept : KeepsInForce l.in_force l.records;
  last : EndBy l.last_end l.records;
}
