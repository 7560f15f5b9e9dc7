use Rattle.explain.proofs.Granted.{explained-granted, explained-later}
use Rattle.explain.proofs.laws.explanations_name_earlier_grants.Goals as goal

pub returns : goal.returns
returns c = record {
  granted = explained-granted;
  later = λ log place later lines is less. explained-later log place later lines is less;
}
