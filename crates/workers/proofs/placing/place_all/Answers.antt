use Rattle.std.proofs.Common.{arith}
use Rattle.workers.proofs.placing.place_all.Goals as goal

pub loop-count-preserved : goal.loop-count-preserved
loop-count-preserved g c = λ index placer is.
    let placed = c.in_ok-place_round.ensures index placer is in
    (placed.0, omega (arith, placed.1))

pub returns : goal.returns
returns g c = λ index placer is.
    let placed = c.loop-count.invariant index placer is in
    (placed.0, omega (arith, placed.1, c.loop-count-test.false, c.places-count-end.ensures))
