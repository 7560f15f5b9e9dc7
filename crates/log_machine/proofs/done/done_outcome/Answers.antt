use Rattle.std.proofs.Common.{◌≡◌, ◌<◌, ◌≤◌, ◌+◌, length, ap, subst, sym, ◌∙◌, Some}
use Rattle.std.specs.Prelude.{slice_get}
use Rattle.own_words.specs.Words.{outcome_from}
use Rattle.sequencer.specs.Whole.{IsAccepted}
use Rattle.bohm_core_base.specs.Machine.{State, own_of}
use Rattle.log_batch.specs.Laws.{IsOfLog}
use Rattle.log_batch.specs.Supplied.{LogRange, range_of}
use Rattle.log_machine.proofs.Finished.{done-within, outcome-done}
use Rattle.log_machine.proofs.done.done_outcome.Goals as goal

pub statement-requires : goal.statement-requires
statement-requires c =
    let same = c.batch-batch.ensures.same ∙ c.statements.ensures in
    let is = subst (λ (r : LogRange). IsOfLog (range_of r)) same c.log-log.ensures.of_log in
    let within = subst (λ (r : LogRange). r.first + r.size ≤ length r.log.statements) same c.log-log.ensures.within in
    let done = rw c.in-Some.is at c.in_ok-ended.ensures.done in
    let inside = done-within c.args.machine.now.statements is within c.args.machine.now.state c.state-state.ensures.reached c.args.index done in
    subst (λ (r : LogRange). c.args.index < r.size) (sym same) inside

pub returns-in-Some-clause-told : goal.returns-in-Some-clause-told
returns-in-Some-clause-told c =
    let ranged = c.args.machine.now.statements in
    let state = c.args.machine.now.state in
    let index = c.args.index in
    let form = c.statement.result.now.form in
    let same = c.batch-batch.ensures.same ∙ c.statements.ensures in
    let is = subst (λ (r : LogRange). IsOfLog (range_of r)) same c.log-log.ensures.of_log in
    let within = subst (λ (r : LogRange). r.first + r.size ≤ length r.log.statements) same c.log-log.ensures.within in
    let few = subst (λ (r : LogRange). r.first + r.size ≤ 4294967295) same c.first_place-first.ensures.small in
    let at = subst (λ (r : LogRange). slice_get r.log.statements (r.first + index) ≡ Some c.statement.result.now) same c.statement.ensures.at in
    let taken = subst (λ (r : LogRange). IsAccepted r.log.names c.statement.result.now) same c.statement.ensures.taken in
    let done = rw c.in-Some.is at c.in_ok-ended.ensures.done in
    let ends = rw c.in-Some.is at c.in_ok-ended.ensures.told in
    let told : c.decoded.result ≡ outcome_from form (own_of state index) c.in-Some.ended.items =
    c.decoded.ensures
    ∙ ap (λ words. outcome_from form words c.new.result) (c.own.ensures ∙ ap (λ (s : State). own_of s index) c.state-state.ensures.value)
    ∙ ap (outcome_from form (own_of state index)) c.new.ensures in
    (done, outcome-done ranged is within state c.state-state.ensures.reached index c.statement.result.now c.in-Some.ended.items done at taken few ends ∙ ap Some (sym told))
