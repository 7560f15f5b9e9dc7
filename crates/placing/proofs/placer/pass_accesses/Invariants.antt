use Rattle.std.proofs.Common.{◌≡◌, ◌+◌, drop, fold, map}
use Rattle.placing.specs.Latest.{own_writer}
use Rattle.placing.specs.Parts.{with_reference}
use Rattle.placing.proofs.placer.pass_accesses.Given as goal

-- with the references of the rest, the part results in what it results in with all
abbrev pub invariant-loop-access : goal.invariant-loop-access
invariant-loop-access l = record {
  part :
      fold with_reference l.part (map (own_writer l.latest) (drop l.access-index l.accesses))
      ≡ fold with_reference l.initial.part (map (own_writer l.latest) l.accesses);
  count : l.part.count ≡ l.initial.part.count + l.access-index;
}
