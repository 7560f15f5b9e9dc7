use Rattle.std.proofs.Common.{rules, ◌≡◌, ◌<◌, ◌≤◌, ◌+◌, ◌^◌, length, ap, arith, subst, sym, ◌∙◌}
use Rattle.bohm_core_base.specs.declared.hold.Hold.TheVariants.{Done}
use Rattle.bohm_core_base.specs.Batch.{batch_slots}
use Rattle.bohm_core_base.specs.Machine.{State, hold_of}
use Rattle.log_batch.specs.Laws.{IsOfLog, ended_ranks}
use Rattle.log_batch.specs.Supplied.{LogRange, batch_of, range_of}
use Rattle.log_machine.proofs.Finished.{done-within, ended-done, ends-done, on_err}
use Rattle.log_machine.proofs.done.done_ends.Goals as goal

pub overflow_add-place : goal.overflow_add-place
overflow_add-place c =
    let ranged = c.args.machine.now.statements in
    let state = c.args.machine.now.state in
    let index = c.args.index in
    let same = c.batch-batch.ensures.same ∙ c.statements.ensures in
    let is = subst (λ (r : LogRange). IsOfLog (range_of r)) same c.log-log.ensures.of_log in
    let within = subst (λ (r : LogRange). r.first + r.size ≤ length r.log.statements) same c.log-log.ensures.within in
    let done : hold_of state index ≡ Done =
    ap (λ (s : State). hold_of s index) (sym c.state-state.ensures.value) ∙ sym c.hold.ensures ∙ c.in-Done.is in
    let low : index < ranged.size = done-within ranged is within state c.state-state.ensures.reached index done in
    let few : ranged.first + ranged.size ≤ 4294967295 =
    subst (λ (r : LogRange). r.first + r.size ≤ 4294967295) same c.first_place.ensures.small in
    let first : c.first_place.result ≡ ranged.first = c.first_place.ensures.value ∙ ap (λ (r : LogRange). r.first) same in
    let fits : c.first_place.result + index < 2 ^ 64 = omega arith in
    search rules

pub returns-in_ok-names-in-Done-clause-told : goal.returns-in_ok-names-in-Done-clause-told
returns-in_ok-names-in-Done-clause-told c found comes =
    let ranged = c.args.machine.now.statements in
    let state = c.args.machine.now.state in
    let index = c.args.index in
    let same = c.batch-batch.ensures.same ∙ c.statements.ensures in
    let is = subst (λ (r : LogRange). IsOfLog (range_of r)) same c.log-log.ensures.of_log in
    let within = subst (λ (r : LogRange). r.first + r.size ≤ length r.log.statements) same c.log-log.ensures.within in
    let done : hold_of state index ≡ Done =
    ap (λ (s : State). hold_of s index) (sym c.state-state.ensures.value) ∙ sym c.hold.ensures ∙ c.in-Done.is in
    let first : c.first_place.result ≡ ranged.first = c.first_place.ensures.value ∙ ap (λ (r : LogRange). r.first) same in
    c.in_ok-names-in-Done.ensures.value
    ∙ ap (λ (r : LogRange). ended_ranks (batch_slots (batch_of r)) c.state-state.result.now.ends (c.first_place.result + index)) same
    ∙ ap (λ (s : State). ended_ranks (batch_slots (batch_of ranged)) s.ends (c.first_place.result + index)) c.state-state.ensures.value
    ∙ ap (λ at. ended_ranks (batch_slots (batch_of ranged)) state.ends (at + index)) first
    ∙ ends-done ranged is within state c.state-state.ensures.reached index found done comes

pub returns-in_err-names-in-Done-clause-memory : goal.returns-in_err-names-in-Done-clause-memory
returns-in_err-names-in-Done-clause-memory c =
    let ranged = c.args.machine.now.statements in
    let state = c.args.machine.now.state in
    let index = c.args.index in
    let same = c.batch-batch.ensures.same ∙ c.statements.ensures in
    let is = subst (λ (r : LogRange). IsOfLog (range_of r)) same c.log-log.ensures.of_log in
    let within = subst (λ (r : LogRange). r.first + r.size ≤ length r.log.statements) same c.log-log.ensures.within in
    let done : hold_of state index ≡ Done =
    ap (λ (s : State). hold_of s index) (sym c.state-state.ensures.value) ∙ sym c.hold.ensures ∙ c.in-Done.is in
    let first : c.first_place.result ≡ ranged.first = c.first_place.ensures.value ∙ ap (λ (r : LogRange). r.first) same in
    let here : ended_ranks (batch_slots (batch_of c.batch-batch.result.now)) c.state-state.result.now.ends (c.first_place.result + index)
    ≡ ended_ranks (batch_slots (batch_of ranged)) state.ends (ranged.first + index) =
    ap (λ (r : LogRange). ended_ranks (batch_slots (batch_of r)) c.state-state.result.now.ends (c.first_place.result + index)) same
    ∙ ap (λ (s : State). ended_ranks (batch_slots (batch_of ranged)) s.ends (c.first_place.result + index)) c.state-state.ensures.value
    ∙ ap (λ at. ended_ranks (batch_slots (batch_of ranged)) state.ends (at + index)) first in
    on_err c.from_residual.result
    (ended-done ranged is within state c.state-state.ensures.reached index done (λ none. c.in_err-names-in-Done.ensures.memory (here ∙ none)))
