use Rattle.std.proofs.Common.{◌∙◌, ap, inr}
use Rattle.std.specs.Prelude.{Ok}
use Rattle.log_batch.specs.Supplied.{batch_of}
use Rattle.filling.proofs.Learnt.{done-learnt}
use Rattle.filling.proofs.running.run_index.Goals as goal

pub returns-in-Ok-told-clause-tells : goal.returns-in-Ok-told-clause-tells
returns-in-Ok-told-clause-tells c = (
  done-learnt (batch_of c.args.batch.now.key.batch) c.args.index c.args.pass.view c.try_run-pass.result.0.view c.done_outcome-pass.result.0.view c.try_run-pass.result.1
      (c.in-Ok.is ∙ ap (λ came. Ok came) c.in-Done.is) c.try_run-pass.ensures.tells c.done_outcome-pass.ensures.learns,
  rw c.in-Ok-told.is at c.done_outcome-pass.ensures.tells,
)

pub returns-in-Err-clause-tells : goal.returns-in-Err-clause-tells
returns-in-Err-clause-tells c =
    inr (
      done-learnt (batch_of c.args.batch.now.key.batch) c.args.index c.args.pass.view c.try_run-pass.result.0.view c.done_outcome-pass.result.0.view c.try_run-pass.result.1
          (c.in-Ok.is ∙ ap (λ came. Ok came) c.in-Done.is) c.try_run-pass.ensures.tells c.done_outcome-pass.ensures.learns,
      rw c.in-Err.is at c.done_outcome-pass.ensures.tells,
    )
