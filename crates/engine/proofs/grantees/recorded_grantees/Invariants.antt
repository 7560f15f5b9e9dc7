use Rattle.std.proofs.Common.{◌≡◌, take}
use Rattle.engine.specs.Grantees.{recorded_grantees}
use Rattle.engine.proofs.grantees.recorded_grantees.Given as goal

abbrev pub invariant-loop-name : goal.invariant-loop-name
invariant-loop-name l = l.found.items ≡ recorded_grantees l.records (take l.name-index l.names)
