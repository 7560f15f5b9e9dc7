use Rattle.std.proofs.Common.{refl}
use Rattle.fed_run.proofs.FedTexts.{stands_start}
use Rattle.fed_run.proofs.fed.FedRun.seeded.Goals as goal

pub returns-clause-stands : goal.returns-clause-stands
returns-clause-stands c = stands_start _ c.new.ensures.items refl c.seeded.ensures
