use Rattle.std.proofs.Common.{◌≡◌, Option, Some, ℕ, sym, ap, ◌∙◌, subst, arith, true, false}
use Rattle.grants_base.specs.Index.{IsNext, is_to}
use Rattle.bohm_core_base.specs.Batch.{batch_slots}
use Rattle.log_batch.specs.Supplied.{batch_of}
use Rattle.evaluation.specs.Sought.{is_sought}
use Rattle.evaluation.specs.ReadSource.{Reader}
use Rattle.evaluation.proofs.Steps.{force_in, open-shown, own-all, own-found, own-none, own-passed}
use Rattle.evaluation.proofs.in_force.next_own.Goals as goal

pub loop-from-preserved : goal.loop-from-preserved
loop-from-preserved g c =
    let ranged = c.args.batch.now in
    let index = (g.T.ReadSource.as_reader c.args.source.now).index in
    let passes = is_sought c.args.sought.now in
    let of_log = c.slot_count-count.ensures.of_log in
    let first : IsNext (is_to c.args.sought.now.holder.grantee c.args.sought.now.holder.kind c.args.sought.now.holder.table) (batch_slots (batch_of ranged)) c.loop-from.from (Some c.in-Some.slot) = c.in-Some.ensures in
    let here : force_in ranged index passes c.in-Some.slot ≡ false =
    ap (λ (reader : Reader). force_in ranged reader.index passes c.in-Some.slot) (sym c.loop-from.invariant.source) ∙ sym (open-shown passes _ c.record_shown-grant.result.0 c.record_shown-grant.result.1 c.record_shown-grant.ensures.grant c.record_shown-grant.ensures.end) ∙ sym c.is_open.ensures ∙ c.if-is_open.false in
    let above = first.0 in
    record {
      source = c.record_shown-grant.ensures.same.0 ∙ c.loop-from.invariant.source;
      kept = c.record_shown-grant.ensures.same.1 ∙ c.loop-from.invariant.kept;
      count = c.loop-from.invariant.count;
      own = omega (arith, above, c.loop-from.invariant.own);
      start = omega (arith, above, c.loop-from.invariant.start);
      passed = own-passed ranged of_log index c.args.sought.now c.args.start c.loop-from.from c.in-Some.slot c.loop-from.invariant.passed first here;
    }

pub returns-then-is_open-clause-next : goal.returns-then-is_open-clause-next
returns-then-is_open-clause-next g c =
    let ranged = c.args.batch.now in
    let index = (g.T.ReadSource.as_reader c.args.source.now).index in
    let passes = is_sought c.args.sought.now in
    let of_log = c.slot_count-count.ensures.of_log in
    let first : IsNext (is_to c.args.sought.now.holder.grantee c.args.sought.now.holder.kind c.args.sought.now.holder.table) (batch_slots (batch_of ranged)) c.loop-from.from (Some c.in-Some.slot) = c.in-Some.ensures in
    let here : force_in ranged index passes c.in-Some.slot ≡ true =
    ap (λ (reader : Reader). force_in ranged reader.index passes c.in-Some.slot) (sym c.loop-from.invariant.source) ∙ sym (open-shown passes _ c.record_shown-grant.result.0 c.record_shown-grant.result.1 c.record_shown-grant.ensures.grant c.record_shown-grant.ensures.end) ∙ sym c.is_open.ensures ∙ c.if-is_open.true in
    own-found ranged of_log index c.args.sought.now c.args.start c.loop-from.from c.in-Some.slot c.loop-from.invariant.start c.loop-from.invariant.passed first here

pub returns-in_default-clause-next : goal.returns-in_default-clause-next
returns-in_default-clause-next g c =
    let ranged = c.args.batch.now in
    let index = (g.T.ReadSource.as_reader c.args.source.now).index in
    let passes = is_sought c.args.sought.now in
    let of_log = c.slot_count-count.ensures.of_log in
    own-none ranged of_log index c.args.sought.now c.args.start c.loop-from.from c.loop-from.invariant.passed
    (subst (λ (found : Option ℕ). IsNext (is_to c.args.sought.now.holder.grantee c.args.sought.now.holder.kind c.args.sought.now.holder.table) (batch_slots (batch_of ranged)) c.loop-from.from found) c.in_default.is c.next_own_to.ensures)

pub returns-clause-next : goal.returns-clause-next
returns-clause-next g c =
    let ranged = c.args.batch.now in
    let index = (g.T.ReadSource.as_reader c.args.source.now).index in
    let passes = is_sought c.args.sought.now in
    let of_log = c.slot_count-count.ensures.of_log in
    own-all ranged of_log index c.args.sought.now c.args.start c.loop-from.from c.loop-from.invariant.passed
    (omega (arith, c.loop-from-test.false, c.loop-from.invariant.count))
