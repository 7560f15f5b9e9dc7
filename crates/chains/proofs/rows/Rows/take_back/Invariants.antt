use Rattle.std.proofs.Common.{length}
use Rattle.chains.proofs.Cutting.{IsCut}
use Rattle.chains.proofs.rows.Rows.take_back.Given as goal

-- what is below the place stays
abbrev pub invariant-loop : goal.invariant-loop
invariant-loop l = IsCut l.first l.initial.self l.self

abbrev pub decreases-loop : goal.decreases-loop
decreases-loop l = length l.self.replacing
