use Rattle.std.proofs.Common.{◌≡◌, drop, fold, length}
use Rattle.placing.specs.Refs.{with_part}
use Rattle.placing.proofs.refs.merge.Given as goal

-- what the rest of the parts has results in what all have
abbrev pub invariant-loop-part : goal.invariant-loop-part
invariant-loop-part l = record {
  references : fold with_part l.references.items (drop l.part-index l.part-items) ≡ fold with_part l.initial.references.items l.part-items;
  length : length l.references.items ≡ length l.initial.references.items;
}
