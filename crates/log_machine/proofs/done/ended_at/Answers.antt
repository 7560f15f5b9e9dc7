use Rattle.std.proofs.Common.{◌<◌, ◌++◌, ◌+◌, length, ap, arith, drop, sym, ◌∙◌}
use Rattle.std.proofs.lemmas.List.{append-nil}
use Rattle.bohm_core_base.specs.Batch.{batch_slots}
use Rattle.log_batch.specs.Laws.{ended_ranks}
use Rattle.log_batch.specs.Supplied.{batch_of}
use Rattle.log_machine.proofs.Finished.{ended_more, ended_past, ended_some, on_err}
use Rattle.log_machine.proofs.done.ended_at.Goals as goal

pub loop-slot-preserved : goal.loop-slot-preserved
loop-slot-preserved c =
    let grants = batch_slots (batch_of c.args.batch.now) in
    let ends = c.args.state.now.ends in
    let slot = c.loop-slot.slot in
    let first : slot < length grants = omega (arith, c.slot_count.ensures.value, c.slots.ensures, c.min-slot-end.ensures) in
    let second : slot < length ends = omega (arith, c.slot_count.ensures.value, c.slots.ensures, c.min-slot-end.ensures) in
    ap (λ ranks. ranks ++ ended_ranks (drop (slot + 1) grants) (drop (slot + 1) ends) c.args.place) c.in_ok-push_ended.ensures.pushed
    ∙ ended_more grants ends c.args.place slot c.loop-slot.names.items c.grant.result c.is_ended_by.result first second c.grant.ensures c.is_ended_by.ensures
    ∙ c.loop-slot.invariant

pub returns-clause-value : goal.returns-clause-value
returns-clause-value c =
    let grants = batch_slots (batch_of c.args.batch.now) in
    let ends = c.args.state.now.ends in
    let slot = c.loop-slot.slot in
    let past = ended_past grants ends c.args.place slot
    (λ low. omega (arith, c.slot_count.ensures.value, c.slots.ensures, c.min-slot-end.ensures, c.loop-slot.auto.slot-end)) in
    sym (append-nil c.loop-slot.names.items) ∙ ap (λ rest. c.loop-slot.names.items ++ rest) (sym past) ∙ c.loop-slot.invariant

pub returns-in_err-push_ended-clause-memory : goal.returns-in_err-push_ended-clause-memory
returns-in_err-push_ended-clause-memory c =
    let grants = batch_slots (batch_of c.args.batch.now) in
    let ends = c.args.state.now.ends in
    let slot = c.loop-slot.slot in
    let first : slot < length grants = omega (arith, c.slot_count.ensures.value, c.slots.ensures, c.min-slot-end.ensures) in
    let second : slot < length ends = omega (arith, c.slot_count.ensures.value, c.slots.ensures, c.min-slot-end.ensures) in
    let ended = ended_some grants ends c.args.place slot c.loop-slot.names.items c.grant.result first second
    (sym c.is_ended_by.ensures ∙ c.in_err-push_ended.ensures.memory) in
    on_err c.from_residual.result (λ gone. ended (c.loop-slot.invariant ∙ gone))
