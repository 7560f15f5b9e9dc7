use Rattle.evaluation.proofs.Fitting.{outcome_fits, outcome_keeps}
use Rattle.evaluation.proofs.laws.outcomes_fit_their_forms.Goals as goal

pub returns : goal.returns
returns c = record { steps = outcome_keeps; words = outcome_fits }
