use Rattle.std.proofs.Common.{◌≡◌, ◌≤◌, ◌+◌, ℕ, List, Some, length, rules, sym, ap, ◌∙◌, subst, arith}
use Rattle.std.specs.Prelude.{slice_get}
use Rattle.log_batch.specs.Laws.{IsOfLog}
use Rattle.log_batch.specs.Supplied.{LogRange, batch_of, range_of}
use Rattle.log_batch.proofs.Counted.{sound_batch}
use Rattle.words.specs.Passes.{PassState}
use Rattle.filling.specs.Outcomes.{ended_ranks_at}
use Rattle.filling.specs.Readings.{KnowsDone}
use Rattle.filling.proofs.Endings.{ended-all, ended-more, endings-told}
use Rattle.filling.proofs.outcomes.ended_list.Goals as goal

pub put_ended-requires-clause-done : goal.put_ended-requires-clause-done
put_ended-requires-clause-done c = subst (λ (pass : PassState). KnowsDone c.args.words.now c.args.key.now pass c.args.index) (sym c.loop-number.invariant.same) c.requires.done

pub loop-number-preserved : goal.loop-number-preserved
loop-number-preserved c =
    let b = batch_of c.args.key.now.batch in
    let slots = c.args.key.now.slots in
    let wide = ap (λ (list : List ℕ). length list) c.slots-number-end.ensures.value in
    let test = c.loop-number-test.true in record {
      same = c.put_ended.ensures.same ∙ c.loop-number.invariant.same;
      all = ended-more b c.args.index slots c.loop-number.names.items c.put_ended.new.names.items (ended_ranks_at b slots c.args.index) c.loop-number.number (omega arith)
          c.in_ok-put_ended.ensures.put c.loop-number.invariant.all;
    }

pub returns-clause-value : goal.returns-clause-value
returns-clause-value c found told done revokes =
    let key = c.args.key.now in
    let ranged = key.batch in
    let statement = c.statement-statement.result.now in
    let is = subst (λ (r : LogRange). IsOfLog (range_of r)) c.batch-batch.ensures c.statement-statement.ensures.of_log in
    let at = subst (λ (r : LogRange). slice_get r.log.statements (r.first + c.args.index) ≡ Some statement) c.batch-batch.ensures c.statement-statement.ensures.at in
    let wide = ap (λ (list : List ℕ). length list) c.slots-number-end.ensures.value in
    let past : length key.slots ≤ c.loop-number.number = omega arith in
    c.new.ensures
    ∙ ended-all (batch_of ranged) c.args.index key.slots c.loop-number.names.items _ c.loop-number.number past c.loop-number.invariant.all
    ∙ endings-told ranged is c.args.index c.requires.done.within statement at key.slots c.slots-slots.ensures.order c.ends-ends.ensures.listed
    (λ slot other grant later less here there. c.slots_stand_in_order.ensures (batch_of ranged) slot other grant later (sound_batch ranged is) less here there)
    done found told

pub returns-then-not-has_revocation-clause-revokes : goal.returns-then-not-has_revocation-clause-revokes
returns-then-not-has_revocation-clause-revokes c = search rules
