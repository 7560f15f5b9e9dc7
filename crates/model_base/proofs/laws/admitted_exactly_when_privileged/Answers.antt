use Rattle.model_base.proofs.Admitted.{admitted-held, denial-told, denied-unheld, held-admitted, held-holds, holds-held, told-denial, unheld-denied}
use Rattle.model_base.proofs.laws.admitted_exactly_when_privileged.Goals as goal

pub returns : goal.returns
returns c = record {
  admitted = λ log place statement asked. (admitted-held log place statement asked, held-admitted log place statement asked);
  denied = λ log place statement asked. (denied-unheld log place statement asked, unheld-denied log place statement asked);
  first = λ log place statement need cause asked. (denial-told log place statement asked need cause, told-denial log place statement asked need cause);
  held = λ owners deeds user need. (holds-held owners deeds user need, held-holds owners deeds user need);
}
