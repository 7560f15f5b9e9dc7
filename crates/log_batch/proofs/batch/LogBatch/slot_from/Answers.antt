use Rattle.std.proofs.Common.{◌≡◌, ◌<◌, ◌≤◌, ◌+◌, ◌-◌, ◌/◌, Some, arith, inl, inr, ap, sym, ◌∙◌, subst}
use Rattle.std.specs.Prelude.{slice_get}
use Rattle.std.proofs.lemmas.Bool.{cases_lt, ltb-false, ltb-true}
use Rattle.model_base.specs.Ranks.{rank}
use Rattle.bohm_core_base.specs.Batch.{batch_slots}
use Rattle.log_batch.specs.Supplied.{batch_of}
use Rattle.log_batch.proofs.Counted.{sound_batch}
use Rattle.log_batch.proofs.batch.LogBatch.slot_from.Goals as goal

pub loop-low-preserved-then-is_before : goal.loop-low-preserved-then-is_before
loop-low-preserved-then-is_before c =
    let ranged = c.args.self.now in
    let batch = batch_of ranged in
    let sound = sound_batch ranged c.slot_count-high.ensures.of_log in
    let middle = c.loop-low.low + (c.loop-low.high - c.loop-low.low) / 2 in
    let less : c.loop-low.low < c.loop-low.high = omega (arith, c.loop-low-test.true) in
    let less-named = ltb-true c.name-here.result c.args.name (sym c.is_before.ensures ∙ c.if-is_before.true) in
    let below : rank c.grant.result < c.args.name = subst (λ ranked. ranked < c.args.name) c.name-here.ensures less-named in
    let low : middle + 1 ≤ c.loop-low.high = omega (arith, less) in (
      low,
      c.loop-low.invariant.1,
      (λ slot grant within at.
          elim (cases_lt slot middle) [
            | inl earlier ↦ let before = c.slots_stand_in_order.ensures batch slot middle grant c.grant.result sound earlier at c.grant.ensures in omega (arith, before, below)
            | inr later ↦
                let here : slot ≡ middle = omega (arith, later, within) in
                let both : Some grant ≡ Some c.grant.result = sym at ∙ ap (slice_get (batch_slots batch)) here ∙ c.grant.ensures in
                let same : grant ≡ c.grant.result = cc in
                rw same below
          ]),
      c.loop-low.invariant.3,
    )

pub loop-low-preserved : goal.loop-low-preserved
loop-low-preserved c =
    let ranged = c.args.self.now in
    let batch = batch_of ranged in
    let sound = sound_batch ranged c.slot_count-high.ensures.of_log in
    let middle = c.loop-low.low + (c.loop-low.high - c.loop-low.low) / 2 in
    let less : c.loop-low.low < c.loop-low.high = omega (arith, c.loop-low-test.true) in
    let more-named = ltb-false c.name-here.result c.args.name (sym c.is_before.ensures ∙ c.if-is_before.false) in
    let from : c.args.name ≤ rank c.grant.result = subst (λ ranked. c.args.name ≤ ranked) c.name-here.ensures more-named in
    let most = c.loop-low.invariant.1 in (
      omega arith,
      omega (arith, most, less),
      c.loop-low.invariant.2,
      (λ slot grant within at.
          elim (cases_lt middle slot) [
            | inl later ↦ let behind = c.slots_stand_in_order.ensures batch middle slot c.grant.result grant sound later c.grant.ensures at in omega (arith, behind, from)
            | inr earlier ↦
                let here : slot ≡ middle = omega (arith, earlier, within) in
                let both : Some grant ≡ Some c.grant.result = sym at ∙ ap (slice_get (batch_slots batch)) here ∙ c.grant.ensures in
                let same : grant ≡ c.grant.result = cc in
                rw same from
          ]),
    )
