-- What a call does that pushes a statement onto a log.
use Rattle.std.specs.Prelude.{◌≡◌, ℕ, IfErr, IfOk, None, OnErr, OnOk, Result, length}
use Rattle.log_text.specs.Statement.{Sentence}
use Rattle.sequencer.specs.Log.{Accepted}
use Rattle.sequencer.specs.Refusal.{IsRefusal, refusal}
use Rattle.sequencer.specs.declared.refused.Refused.{Refused}

-- a sentence is pushed onto the log of a state: it is accepted at the next place, which is returned, and the state is the one that is given
-- last; or it is refused, and the state is as it was
pub record Pushes {S : Type 0} (log : Accepted) (sentence : Sentence) (result : Result ℕ Refused) (old new accepting : S) : Type 0 where
  pub place : IfOk result (λ place. place ≡ length log.statements)
  pub accepted : OnOk result (new ≡ accepting)
  pub passes : OnOk result (refusal log.names sentence ≡ None)
  pub refused : IfErr result (λ r. IsRefusal r (refusal log.names sentence))
  pub err : OnErr result (new ≡ old)
