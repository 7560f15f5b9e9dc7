use Rattle.model_base.proofs.Causes.{kept-granting, holds-granting}
use Rattle.model_base.proofs.Places.{held-past}
use Rattle.model_base.proofs.laws.grants_end_none.Goals as goal

pub returns : goal.returns
returns c = record {
  kept = kept-granting;
  held = holds-granting;
  follow = held-past;
}
