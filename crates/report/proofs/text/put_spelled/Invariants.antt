use Rattle.std.proofs.Common.{◌≡◌, ◌++◌, drop}
use Rattle.report.specs.Records.{spelled_records}
use Rattle.report.proofs.text.put_spelled.Given as goal

abbrev pub invariant-loop-index : goal.invariant-loop-index
invariant-loop-index l = l.text.items ++ spelled_records l.users (drop l.index l.names) (drop l.index l.grantees)
    ≡ l.initial.text.items ++ spelled_records l.users l.names l.grantees
