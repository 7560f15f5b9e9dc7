use Rattle.std.proofs.Common.{◌≡◌, Some, length, ap, sym, ◌∙◌, arith}
use Rattle.std.specs.Prelude.{slice_get}
use Rattle.std.proofs.lemmas.Bool.{eq-eqb, eqb-true, true≢false}
use Rattle.std.proofs.lemmas.Option.{slice_get_within}
use Rattle.model_base.specs.Ranks.{rank}
use Rattle.bohm_core_base.specs.Batch.{batch_slots}
use Rattle.log_batch.specs.Supplied.{batch_of}
use Rattle.log_batch.proofs.Counted.{sound_batch}
use Rattle.log_batch.proofs.OnlySlot.{only-slot}
use Rattle.log_batch.proofs.batch.LogBatch.slot_of.Goals as goal
use Rattle.log_batch.proofs.batch.LogBatch.slot_of.Goals.{else-slot-slot_count-via-then-slot-slot_count+else-is_same, else-slot-slot_count-via-else-slot-slot_count}

pub returns-then-is_same-clause-only : goal.returns-then-is_same-clause-only
returns-then-is_same-clause-only c slot grant at same =
    let batch = batch_of c.args.self.now in
    let sound = sound_batch c.args.self.now c.slot_count.ensures.of_log in
    ap Some (sym (only-slot (batch_slots batch) c.slot_from-slot.result c.args.name
    (λ k j first later less here behind. c.slots_stand_in_order.ensures batch k j first later sound less here behind)
    c.slot_from-slot.ensures.below c.slot_from-slot.ensures.from slot grant at same))

pub returns-else-slot-slot_count-clause-found : goal.returns-else-slot-slot_count-clause-found
returns-else-slot-slot_count-clause-found c slot grant at same =
    let batch = batch_of c.args.self.now in
    let sound = sound_batch c.args.self.now c.slot_count.ensures.of_log in
    let here : slot ≡ c.slot_from-slot.result =
    only-slot (batch_slots batch) c.slot_from-slot.result c.args.name
    (λ k j first later less here behind. c.slots_stand_in_order.ensures batch k j first later sound less here behind)
    c.slot_from-slot.ensures.below c.slot_from-slot.ensures.from slot grant at same in
    let within = slice_get_within (batch_slots batch) slot grant at in
    elim c.else-slot-slot_count.branch [
      | else-slot-slot_count-via-then-slot-slot_count+else-is_same w ↦
          let both : Some grant ≡ Some w.grant.result = sym at ∙ ap (slice_get (batch_slots batch)) here ∙ w.grant.ensures in
          let one : grant ≡ w.grant.result = cc in
          let named : w.name.result ≡ c.args.name = w.name.ensures ∙ ap rank (sym one) ∙ same in
          absurd (true≢false (sym (eq-eqb w.name.result c.args.name named) ∙ sym w.is_same.ensures ∙ w.if-is_same.false))
      | else-slot-slot_count-via-else-slot-slot_count w ↦
          let count : c.slot_count.result ≡ length (batch_slots batch) = c.slot_count.ensures.value in
          omega (arith, here, within, count, w.if-slot-slot_count.false)
    ]

pub returns-else-slot-slot_count-clause-only : goal.returns-else-slot-slot_count-clause-only
returns-else-slot-slot_count-clause-only c slot grant at same = absurd (returns-else-slot-slot_count-clause-found c slot grant at same)

pub returns-then-is_same-clause-found : goal.returns-then-is_same-clause-found
returns-then-is_same-clause-found c = (
  c.grant.result,
  c.grant.ensures,
  sym c.name.ensures ∙ eqb-true c.name.result c.args.name (sym c.is_same.ensures ∙ c.if-is_same.true),
)
