use Rattle.workers.specs.Placing.{HavePlaced}
use Rattle.workers.proofs.placing.place_all.Given as goal

abbrev pub invariant-loop-count : goal.invariant-loop-count
invariant-loop-count g l = HavePlaced g.P.BatchPlacer.is_of g.P.BatchPlacer.front l.shared l.count l.placers
