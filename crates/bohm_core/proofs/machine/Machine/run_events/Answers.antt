use Rattle.std.proofs.Common.{ap, arith, drop, take, ◌∙◌}
use Rattle.std.specs.Prelude.{slice_index_or}
use Rattle.bohm_core_base.specs.declared.event.Event.TheVariants.{Place}
use Rattle.std.proofs.lemmas.List.{take-append-drop}
use Rattle.std.proofs.lemmas.Result.{err_from_is_err_and}
use Rattle.bohm_core.specs.Running.{after_event}
use Rattle.bohm_core.proofs.Reached.{one_more}
use Rattle.bohm_core.proofs.machine.Machine.run_events.Goals as goal

pub returns-in_err-apply-clause-err : goal.returns-in_err-apply-clause-err
returns-in_err-apply-clause-err g c =
    let events = c.args.events.now in
    let index = c.loop-event.event-index in
    let refused = err_from_is_err_and c.from_residual.result c.from_residual.ensures.1 in
    rw (refused.1)
    (record {
      made = take index events;
      left = drop index events;
      all = take-append-drop index events;
      here = c.in_err-apply.ensures.err ∙ c.loop-event.invariant;
    })

pub loop-event-preserved : goal.loop-event-preserved
loop-event-preserved g c =
    c.in_ok-apply.ensures.ok
    ∙ ap (λ running. after_event g.S.Statements.batch running (slice_index_or c.args.events.now c.loop-event.event-index (Place 0))) c.loop-event.invariant
    ∙ one_more g.S.Statements.batch c.args.self.now c.args.events.now c.loop-event.event-index (Place 0) (omega arith)
