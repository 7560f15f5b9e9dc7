use Rattle.std.proofs.Common.{◌∙◌, sym}
use Rattle.workers.proofs.Going.{at_end, on_and_on, run_faults, run_started, run_worked}
use Rattle.workers.proofs.work.fn.run_workers.scope.Goals as goal

pub returns : goal.returns
returns g c =
    let started = c.start_others-pass.result.1 in
    let worked = c.join_others-pass.result.1 in (
      on_and_on c.captures.pass c.start_others-pass.result.0 c.join_others-pass.result.0 c.start_others-pass.ensures.on
          (on_and_on c.start_others-pass.result.0 c.work-pass.result.0 c.join_others-pass.result.0 c.work-pass.ensures.on c.join_others-pass.ensures.on),
      (λ done index less.
          c.join_others-pass.ensures.on.knows index
          (at_end c.work-pass.result.1 (c.join_others-pass.ensures.done (run_worked started worked (sym c.outcome.ensures ∙ done))) c.work-pass.ensures.all index less)),
      rw c.outcome.ensures (run_faults started worked),
      (λ few. rw c.outcome.ensures (rw (c.start_others-pass.ensures.alone few) (run_started worked))),
    )
