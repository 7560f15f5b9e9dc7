use Rattle.model_base.proofs.Logs.{cause-before_covered, ended-before, held-before, records-before}
use Rattle.model_base.proofs.record_laws.records_tell_of_logs.Goals as goal

pub returns : goal.returns
returns c = record {
  cut = records-before;
  held = λ log covers place later user need less. held-before log covers place later less user need;
  ended = λ log covers place later revocation less. ended-before log covers place later less revocation;
  cause = λ log covers place later user need less. cause-before_covered log covers place later less user need;
}
