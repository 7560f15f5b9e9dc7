use Rattle.std.proofs.Common.{length, sym, arith, rules}
use Rattle.std.proofs.lemmas.Option.{slice_get_read}
use Rattle.engine.proofs.Granted.{grantee-found, grantee-other, grantee-past}
use Rattle.engine.proofs.grantees.recorded_grantee.Goals as goal
use Rattle.engine.proofs.grantees.recorded_grantee.Goals.{then-slot-records+else-is_same, else-slot-records}

pub returns-then-is_same : goal.returns-then-is_same
returns-then-is_same c =
    let records = c.args.records.now in
    let slot = c.slot_in-slot.result in
    let there = slice_get_read records (length records) slot c.index-records-slot.result (search rules) c.if-slot-records.true c.index-records-slot.is in
    sym (grantee-found c.args.name records c.requires slot c.index-records-slot.result there (search rules))

pub returns : goal.returns
returns c =
    let records = c.args.records.now in
    let slot = c.slot_in-slot.result in
    let below = c.slot_in-slot.ensures.below in
    let above = c.slot_in-slot.ensures.above in
    elim c.if-slot-records.branch [
      | then-slot-records+else-is_same w ↦
          let there = slice_get_read records (length records) slot w.index-records-slot.result (search rules) w.if-slot-records.true w.index-records-slot.is in
          sym (grantee-other c.args.name records c.requires slot w.index-records-slot.result there (λ same. search rules) below above)
      | else-slot-records w ↦ sym (grantee-past c.args.name records slot (omega arith) below)
    ]
