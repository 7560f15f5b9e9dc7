use Rattle.std.proofs.Common.{◌≡◌, ◌+◌, Option, Some, ℕ, refl, sym, ap, ◌∙◌, subst, arith}
use Rattle.grants_base.specs.Index.{IsFirst}
use Rattle.grants_base.specs.View.{slot_at}
use Rattle.evaluation.specs.Seen.{seen_at, seen_view}
use Rattle.evaluation.specs.Sought.{IsLastEnd, is_sought, slot_end}
use Rattle.evaluation.specs.ReadSource.{Reader}
use Rattle.evaluation.proofs.InForce.{in-force-low}
use Rattle.evaluation.proofs.Steps.{end-shown, last-early, last-early-all, last-early-none, last-start, looked_in, sought-on, was_in}
use Rattle.evaluation.proofs.in_force.last_earlier.Goals as goal

pub overflow_add-from : goal.overflow_add-from
overflow_add-from g c =
    let ranged = c.args.batch.now in
    let index = (g.T.ReadSource.as_reader c.args.source.now).index in
    let passes = is_sought c.args.sought.now in
    let of_log = c.earlier_count-count.ensures.of_log in
    let first : IsFirst (was_in ranged passes) c.loop-from.from (Some c.in-Some-slot.slot) =
    subst (λ (found : Option ℕ). IsFirst (was_in ranged passes) c.loop-from.from found) c.in-Some-slot.is c.in-Some-next_at_start.ensures in
    let low = in-force-low ranged of_log index passes c.in-Some-slot.slot first.1 in
    omega (arith, low, c.earlier_count-count.ensures.value)

pub record_shown-grant-requires-clause-within : goal.record_shown-grant-requires-clause-within
record_shown-grant-requires-clause-within g c =
    let ranged = c.args.batch.now in
    let index = (g.T.ReadSource.as_reader c.args.source.now).index in
    let passes = is_sought c.args.sought.now in
    let of_log = c.earlier_count-count.ensures.of_log in
    let first : IsFirst (was_in ranged passes) c.loop-from.from (Some c.in-Some-slot.slot) =
    subst (λ (found : Option ℕ). IsFirst (was_in ranged passes) c.loop-from.from found) c.in-Some-slot.is c.in-Some-next_at_start.ensures in
    let low = in-force-low ranged of_log index passes c.in-Some-slot.slot first.1 in
    omega (arith, low, c.earlier_count-count.ensures.value, c.earlier_count-count.ensures.within)

pub loop-from-init : goal.loop-from-init
loop-from-init g c =
    let ranged = c.args.batch.now in
    let index = (g.T.ReadSource.as_reader c.args.source.now).index in
    let passes = is_sought c.args.sought.now in
    let of_log = c.earlier_count-count.ensures.of_log in
    record {
      source = refl;
      kept = refl;
      count = c.earlier_count-count.ensures.value;
      last = last-start ranged of_log index passes (sought-on ranged of_log index c.args.sought.now c.requires.listed) c.in-Some.before.place c.in-Some.ensures;
    }

pub loop-from-preserved : goal.loop-from-preserved
loop-from-preserved g c =
    let ranged = c.args.batch.now in
    let index = (g.T.ReadSource.as_reader c.args.source.now).index in
    let passes = is_sought c.args.sought.now in
    let of_log = c.earlier_count-count.ensures.of_log in
    let first : IsFirst (was_in ranged passes) c.loop-from.from (Some c.in-Some-slot.slot) =
    subst (λ (found : Option ℕ). IsFirst (was_in ranged passes) c.loop-from.from found) c.in-Some-slot.is c.in-Some-next_at_start.ensures in
    let low = in-force-low ranged of_log index passes c.in-Some-slot.slot first.1 in
    let end : c.end_if_sought.result ≡ slot_end passes (slot_at (seen_view (seen_at ranged index)) c.in-Some-slot.slot) =
    c.end_if_sought.ensures
    ∙ end-shown passes _ c.record_shown-grant.result.0 c.record_shown-grant.result.1 c.record_shown-grant.ensures.grant c.record_shown-grant.ensures.end
    ∙ ap (λ (reader : Reader). slot_end passes (slot_at (seen_view (seen_at ranged reader.index)) c.in-Some-slot.slot)) c.loop-from.invariant.source in
    record {
      source = c.record_shown-grant.ensures.same.0 ∙ c.loop-from.invariant.source;
      kept = c.record_shown-grant.ensures.same.1 ∙ c.loop-from.invariant.kept;
      count = c.loop-from.invariant.count;
      last =
          subst (λ (place : Option ℕ). IsLastEnd passes (seen_view (seen_at ranged index)) (looked_in ranged passes (c.in-Some-slot.slot + 1)) place) (sym c.later-place.ensures)
          (last-early ranged of_log index passes c.loop-from.from c.in-Some-slot.slot c.loop-from.place c.end_if_sought.result c.loop-from.invariant.last first end);
    }

pub returns-in_default-slot-clause-last : goal.returns-in_default-slot-clause-last
returns-in_default-slot-clause-last g c =
    let ranged = c.args.batch.now in
    let index = (g.T.ReadSource.as_reader c.args.source.now).index in
    let passes = is_sought c.args.sought.now in
    let of_log = c.earlier_count-count.ensures.of_log in
    last-early-none ranged of_log index passes c.loop-from.from c.loop-from.place c.loop-from.invariant.last
    (subst (λ (found : Option ℕ). IsFirst (was_in ranged passes) c.loop-from.from found) c.in_default-slot.is c.in-Some-next_at_start.ensures)

pub returns-clause-last : goal.returns-clause-last
returns-clause-last g c =
    let ranged = c.args.batch.now in
    let index = (g.T.ReadSource.as_reader c.args.source.now).index in
    let passes = is_sought c.args.sought.now in
    let of_log = c.earlier_count-count.ensures.of_log in
    last-early-all ranged of_log index passes c.loop-from.from c.loop-from.place c.loop-from.invariant.last
    (omega (arith, c.loop-from-test.false, c.loop-from.invariant.count))
