use Rattle.model_base.proofs.Ranked.{number-at}
use Rattle.model_base.proofs.deed.RecordName.number_at_place.Goals as goal

pub returns : goal.returns
returns c = rw (c.code.ensures, c.code-2.ensures) (number-at c.self.inside c.args.self c.self.view_is)
