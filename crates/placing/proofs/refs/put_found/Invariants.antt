use Rattle.std.proofs.Common.{◌≡◌, drop, fold}
use Rattle.placing.specs.Refs.{with_found}
use Rattle.placing.proofs.refs.put_found.Given as goal

-- what is found in the rest results in what is found in all
abbrev pub invariant-loop-one : goal.invariant-loop-one
invariant-loop-one l = fold with_found l.references (drop l.one-index l.found) ≡ fold with_found l.initial.references l.found
