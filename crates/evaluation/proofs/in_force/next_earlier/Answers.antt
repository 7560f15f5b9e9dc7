use Rattle.std.proofs.Common.{◌≡◌, Option, Some, ℕ, sym, ap, ◌∙◌, subst, arith, true, false}
use Rattle.grants_base.specs.Index.{IsFirst}
use Rattle.evaluation.specs.Sought.{is_sought}
use Rattle.evaluation.specs.ReadSource.{Reader}
use Rattle.evaluation.proofs.InForce.{in-force-low}
use Rattle.evaluation.proofs.Steps.{early-all, early-found, early-none, early-passed, force_in, open-shown, was_in}
use Rattle.evaluation.proofs.in_force.next_earlier.Goals as goal

pub overflow_add-from : goal.overflow_add-from
overflow_add-from g c =
    let ranged = c.args.batch.now in
    let index = (g.T.ReadSource.as_reader c.args.source.now).index in
    let passes = is_sought c.args.sought.now in
    let of_log = c.earlier_count-count.ensures.of_log in
    let first : IsFirst (was_in ranged passes) c.loop-from.from (Some c.in-Some-slot.slot) =
    subst (λ (found : Option ℕ). IsFirst (was_in ranged passes) c.loop-from.from found) c.in-Some-slot.is c.in-Some.ensures in
    let low = in-force-low ranged of_log index passes c.in-Some-slot.slot first.1 in
    omega (arith, low, c.earlier_count-count.ensures.value)

pub record_shown-grant-requires-clause-within : goal.record_shown-grant-requires-clause-within
record_shown-grant-requires-clause-within g c =
    let ranged = c.args.batch.now in
    let index = (g.T.ReadSource.as_reader c.args.source.now).index in
    let passes = is_sought c.args.sought.now in
    let of_log = c.earlier_count-count.ensures.of_log in
    let first : IsFirst (was_in ranged passes) c.loop-from.from (Some c.in-Some-slot.slot) =
    subst (λ (found : Option ℕ). IsFirst (was_in ranged passes) c.loop-from.from found) c.in-Some-slot.is c.in-Some.ensures in
    let low = in-force-low ranged of_log index passes c.in-Some-slot.slot first.1 in
    omega (arith, low, c.earlier_count-count.ensures.value, c.earlier_count-count.ensures.within)

pub loop-from-preserved : goal.loop-from-preserved
loop-from-preserved g c =
    let ranged = c.args.batch.now in
    let index = (g.T.ReadSource.as_reader c.args.source.now).index in
    let passes = is_sought c.args.sought.now in
    let of_log = c.earlier_count-count.ensures.of_log in
    let first : IsFirst (was_in ranged passes) c.loop-from.from (Some c.in-Some-slot.slot) =
    subst (λ (found : Option ℕ). IsFirst (was_in ranged passes) c.loop-from.from found) c.in-Some-slot.is c.in-Some.ensures in
    let low = in-force-low ranged of_log index passes c.in-Some-slot.slot first.1 in
    let here : force_in ranged index passes c.in-Some-slot.slot ≡ false =
    ap (λ (reader : Reader). force_in ranged reader.index passes c.in-Some-slot.slot) (sym c.loop-from.invariant.source) ∙ sym (open-shown passes _ c.record_shown-grant.result.0 c.record_shown-grant.result.1 c.record_shown-grant.ensures.grant c.record_shown-grant.ensures.end) ∙ sym c.is_open.ensures ∙ c.if-is_open.false in
    let above = first.0 in
    record {
      source = c.record_shown-grant.ensures.same.0 ∙ c.loop-from.invariant.source;
      kept = c.record_shown-grant.ensures.same.1 ∙ c.loop-from.invariant.kept;
      count = c.loop-from.invariant.count;
      start = omega (arith, above, c.loop-from.invariant.start);
      passed = early-passed ranged of_log index passes c.args.start c.loop-from.from c.in-Some-slot.slot c.loop-from.invariant.passed first here;
    }

pub returns-then-is_open-clause-next : goal.returns-then-is_open-clause-next
returns-then-is_open-clause-next g c =
    let ranged = c.args.batch.now in
    let index = (g.T.ReadSource.as_reader c.args.source.now).index in
    let passes = is_sought c.args.sought.now in
    let of_log = c.earlier_count-count.ensures.of_log in
    let first : IsFirst (was_in ranged passes) c.loop-from.from (Some c.in-Some-slot.slot) =
    subst (λ (found : Option ℕ). IsFirst (was_in ranged passes) c.loop-from.from found) c.in-Some-slot.is c.in-Some.ensures in
    let low = in-force-low ranged of_log index passes c.in-Some-slot.slot first.1 in
    let here : force_in ranged index passes c.in-Some-slot.slot ≡ true =
    ap (λ (reader : Reader). force_in ranged reader.index passes c.in-Some-slot.slot) (sym c.loop-from.invariant.source) ∙ sym (open-shown passes _ c.record_shown-grant.result.0 c.record_shown-grant.result.1 c.record_shown-grant.ensures.grant c.record_shown-grant.ensures.end) ∙ sym c.is_open.ensures ∙ c.if-is_open.true in
    early-found ranged of_log index passes c.args.start c.loop-from.from c.in-Some-slot.slot c.loop-from.invariant.start c.loop-from.invariant.passed first here

pub returns-in_default-slot-clause-next : goal.returns-in_default-slot-clause-next
returns-in_default-slot-clause-next g c =
    let ranged = c.args.batch.now in
    let index = (g.T.ReadSource.as_reader c.args.source.now).index in
    let passes = is_sought c.args.sought.now in
    let of_log = c.earlier_count-count.ensures.of_log in
    early-none ranged of_log index passes c.args.start c.loop-from.from c.loop-from.invariant.passed
    (subst (λ (found : Option ℕ). IsFirst (was_in ranged passes) c.loop-from.from found) c.in_default-slot.is c.in-Some.ensures)

pub returns-clause-next : goal.returns-clause-next
returns-clause-next g c =
    let ranged = c.args.batch.now in
    let index = (g.T.ReadSource.as_reader c.args.source.now).index in
    let passes = is_sought c.args.sought.now in
    let of_log = c.earlier_count-count.ensures.of_log in
    early-all ranged of_log index passes c.args.start c.loop-from.from c.loop-from.invariant.passed
    (omega (arith, c.loop-from-test.false, c.loop-from.invariant.count))
