use Rattle.model_base.specs.Outcomes.{kinds_in}
use Rattle.model_base.proofs.DeedsLeft.{left-next}
use Rattle.model_base.proofs.deeds.Grants.take_first.Goals as goal

pub returns : goal.returns
returns c =
    let now = c.args.self.now in
    left-next now.place now.grantor now.table now.option now.kind now.grantees.now (kinds_in now.kinds) now.index c.at-2.result c.at.result
    c.at-2.ensures c.at.ensures
