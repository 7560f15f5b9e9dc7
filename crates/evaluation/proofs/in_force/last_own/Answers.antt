use Rattle.std.proofs.Common.{◌≡◌, ◌+◌, Option, Some, ℕ, refl, sym, ap, ◌∙◌, subst, arith}
use Rattle.std.specs.Prelude.{nat_lt}
use Rattle.grants_base.specs.Index.{IsNext, is_to}
use Rattle.grants_base.specs.View.{slot_at}
use Rattle.bohm_core_base.specs.Batch.{batch_slots}
use Rattle.log_batch.specs.Supplied.{batch_of}
use Rattle.evaluation.specs.Seen.{seen_at, seen_view}
use Rattle.evaluation.specs.Sought.{IsLastEnd, is_sought, slot_end}
use Rattle.evaluation.specs.ReadSource.{Reader}
use Rattle.evaluation.proofs.Steps.{end-shown, last-own, last-own-all, last-own-none}
use Rattle.evaluation.proofs.LastEnds.{last-greatest}
use Rattle.evaluation.proofs.in_force.last_own.Goals as goal

pub loop-from-init : goal.loop-from-init
loop-from-init g c =
    let ranged = c.args.batch.now in
    let index = (g.T.ReadSource.as_reader c.args.source.now).index in
    let passes = is_sought c.args.sought.now in
    let earlier = c.earlier_count-from.ensures.value in
    record {
      source = refl;
      kept = refl;
      count = c.slot_count-count.ensures.value;
      own = omega (arith, earlier);
      last = subst (λ (count : ℕ). IsLastEnd passes (seen_view (seen_at ranged index)) (λ k. nat_lt k count) c.args.before.place) (sym earlier) c.requires.before;
    }

pub loop-from-preserved : goal.loop-from-preserved
loop-from-preserved g c =
    let ranged = c.args.batch.now in
    let index = (g.T.ReadSource.as_reader c.args.source.now).index in
    let passes = is_sought c.args.sought.now in
    let of_log = c.slot_count-count.ensures.of_log in
    let first : IsNext (is_to c.args.sought.now.holder.grantee c.args.sought.now.holder.kind c.args.sought.now.holder.table) (batch_slots (batch_of ranged)) c.loop-from.from (Some c.in-Some.slot) = c.in-Some.ensures in
    let end : c.end_if_sought.result ≡ slot_end passes (slot_at (seen_view (seen_at ranged index)) c.in-Some.slot) =
    c.end_if_sought.ensures
    ∙ end-shown passes _ c.record_shown-grant.result.0 c.record_shown-grant.result.1 c.record_shown-grant.ensures.grant c.record_shown-grant.ensures.end
    ∙ ap (λ (reader : Reader). slot_end passes (slot_at (seen_view (seen_at ranged reader.index)) c.in-Some.slot)) c.loop-from.invariant.source in
    let above = first.0 in
    record {
      source = c.record_shown-grant.ensures.same.0 ∙ c.loop-from.invariant.source;
      kept = c.record_shown-grant.ensures.same.1 ∙ c.loop-from.invariant.kept;
      count = c.loop-from.invariant.count;
      own = omega (arith, above, c.loop-from.invariant.own);
      last =
          subst (λ (place : Option ℕ). IsLastEnd passes (seen_view (seen_at ranged index)) (λ k. nat_lt k (c.in-Some.slot + 1)) place) (sym c.later-place.ensures)
          (last-own ranged of_log index c.args.sought.now c.loop-from.from c.in-Some.slot c.loop-from.place c.end_if_sought.result c.loop-from.invariant.last first end);
    }

pub returns-in_default-clause-last : goal.returns-in_default-clause-last
returns-in_default-clause-last g c =
    let ranged = c.args.batch.now in
    let index = (g.T.ReadSource.as_reader c.args.source.now).index in
    let passes = is_sought c.args.sought.now in
    let of_log = c.slot_count-count.ensures.of_log in
    last-greatest passes (seen_view (seen_at ranged index)) c.loop-from.place
    (last-own-none ranged of_log index c.args.sought.now c.loop-from.from c.loop-from.place c.loop-from.invariant.last
    (subst (λ (found : Option ℕ). IsNext (is_to c.args.sought.now.holder.grantee c.args.sought.now.holder.kind c.args.sought.now.holder.table) (batch_slots (batch_of ranged)) c.loop-from.from found) c.in_default.is c.next_own_to.ensures))

pub returns-clause-last : goal.returns-clause-last
returns-clause-last g c =
    let ranged = c.args.batch.now in
    let index = (g.T.ReadSource.as_reader c.args.source.now).index in
    let passes = is_sought c.args.sought.now in
    let of_log = c.slot_count-count.ensures.of_log in
    last-greatest passes (seen_view (seen_at ranged index)) c.loop-from.place
    (last-own-all ranged of_log index c.args.sought.now c.loop-from.from c.loop-from.place c.loop-from.invariant.last
    (omega (arith, c.loop-from-test.false, c.loop-from.invariant.count)))
