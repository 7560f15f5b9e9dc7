use Rattle.workers.proofs.Going.{looked_on}
use Rattle.workers.proofs.rounds.look.Goals as goal

pub returns : goal.returns
returns g c =
    looked_on (g.K.BatchData.batch c.args.batch.now.key) c.args.pass c.all_placed-looked.result.0 c.all_placed-looked.result.1
    c.all_placed-looked.ensures.same c.all_placed-looked.ensures.all c.all_placed-looked.ensures.short
