use Rattle.std.proofs.Common.{◌≡◌, ◌+◌, ◌≤◌, drop, map, vec_len}
use Rattle.std.specs.List.{flat_map}
use Rattle.model_base.specs.Outcomes.{needs_of_access}
use Rattle.model_base.specs.declared.deed.Need.{Need}
use Rattle.placing.specs.Tables.{with_numbers}
use Rattle.placing.proofs.tables.add_needs.Given as goal

-- with the tables of the rest, the list results in what it results in with all
abbrev pub invariant-loop-access : goal.invariant-loop-access
invariant-loop-access l = record {
  tables :
      with_numbers l.tables.items (map (λ (need : Need). need.table) (flat_map needs_of_access (drop l.access-index l.accesses)))
      ≡ with_numbers l.initial.tables.items (map (λ (need : Need). need.table) (flat_map needs_of_access l.accesses));
  count : vec_len l.tables ≤ vec_len l.initial.tables + l.access-index;
}
