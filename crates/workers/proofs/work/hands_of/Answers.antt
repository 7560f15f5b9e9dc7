use Rattle.workers.proofs.Dealing.{have_dealt}
use Rattle.workers.proofs.work.hands_of.Goals as goal

pub returns-clause-placers : goal.returns-clause-placers
returns-clause-placers g c =
    have_dealt (λ hand. hand.items) g.P.BatchPlacer.is_of g.P.BatchPlacer.front c.args.batch.now c.args.workers c.args.placers.items
    c.in_ok-hands.hands.items c.in_ok-hands.ensures.dealt c.requires.placers
