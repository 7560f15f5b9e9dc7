use Rattle.bohm_c.proofs.NamedKinds.{no_kind}
use Rattle.bohm_c.proofs.asked_kind.Goals as goal

pub returns-in-Err : goal.returns-in-Err
returns-in-Err c = no_kind c.args.word.now c.in-Err.ensures.cases.0
