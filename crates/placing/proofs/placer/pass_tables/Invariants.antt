use Rattle.std.proofs.Common.{◌≡◌, ◌+◌, drop, fold, map}
use Rattle.placing.specs.Latest.{own_prior}
use Rattle.placing.specs.Parts.{with_reference}
use Rattle.placing.proofs.placer.pass_tables.Given as goal

-- with the references of the rest, the part results in what it results in with all
abbrev pub invariant-loop-table : goal.invariant-loop-table
invariant-loop-table l = record {
  part :
      fold with_reference l.part (map (own_prior l.latest) (drop l.table-index l.tables))
      ≡ fold with_reference l.initial.part (map (own_prior l.latest) l.tables);
  count : l.part.count ≡ l.initial.part.count + l.table-index;
}
