-- Each statement of a log can be run.
use Rattle.std.specs.Prelude.{All}
use Rattle.std.proofs.lemmas.List.Elements.{All-weaker}
use Rattle.body.specs.Premises.{IsRunnable}
use Rattle.sequencer.specs.Log.{Accepted}
use Rattle.sequencer.specs.Whole.{IsAccepted, IsWhole}

pub runnable_log : (log : Accepted) → IsWhole log → All IsRunnable log.statements
runnable_log log whole = All-weaker (IsAccepted log.names) IsRunnable (λ statement taken. taken.runnable) log.statements whole.taken
