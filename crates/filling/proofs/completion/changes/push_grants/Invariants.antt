use Rattle.std.proofs.Common.{◌≡◌, ◌++◌, length}
use Rattle.std.specs.Prelude.{All}
use Rattle.model_base.specs.Laws.{IsGranting}
use Rattle.model_base.specs.Records.{grants_of}
use Rattle.filling.proofs.completion.changes.push_grants.Given as goal

-- the grants that were appended, and those that are left, are all
abbrev pub invariant-grants : goal.invariant-grants
invariant-grants l = record {
  all : l.grants.items ++ grants_of l.rest ≡ l.initial.grants.items ++ grants_of l.initial.rest;
  granting : All IsGranting l.rest;
}

abbrev pub decreases-grants : goal.decreases-grants
decreases-grants l = length l.rest
