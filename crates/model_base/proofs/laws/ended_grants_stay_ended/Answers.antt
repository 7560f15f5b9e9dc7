use Rattle.model_base.proofs.Places.{stays_out, proper-stays_out}
use Rattle.model_base.proofs.laws.ended_grants_stay_ended.Goals as goal

pub returns : goal.returns
returns c = record {
  above = stays_out;
  proper = proper-stays_out;
}
