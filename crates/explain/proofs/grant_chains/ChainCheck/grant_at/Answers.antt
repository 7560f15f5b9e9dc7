use Rattle.std.proofs.Common.{length, sym, ◌∙◌, arith, rules}
use Rattle.std.proofs.lemmas.Option.{slice_get_read}
use Rattle.explain.proofs.Standing.{grant_at-ended, grant_at-found, grant_at-other, grant_at-past}
use Rattle.explain.proofs.grant_chains.ChainCheck.grant_at.Goals as goal
use Rattle.explain.proofs.grant_chains.ChainCheck.grant_at.Goals.{then-slot-records+else-is_same, else-is_same-via-then-is_same+else-is_in_force, else-is_same-via-else-is_same, else-slot-records}

pub returns-then-is_in_force : goal.returns-then-is_in_force
returns-then-is_in_force c =
    let records = c.args.self.now.records.now in
    let slot = c.slot_in-slot.result in
    let there = slice_get_read records (length records) slot c.index-records-slot.result (search rules) c.if-slot-records.true c.index-records-slot.is in
    sym (grant_at-found c.args.name c.args.self.now.place records c.requires slot c.index-records-slot.result there (search rules) (sym c.is_in_force.ensures ∙ c.if-is_in_force.true))

pub returns : goal.returns
returns c =
    let records = c.args.self.now.records.now in
    let slot = c.slot_in-slot.result in
    let below = c.slot_in-slot.ensures.below in
    let above = c.slot_in-slot.ensures.above in
    elim c.if-slot-records.branch [
      | then-slot-records+else-is_same w ↦
          let there = slice_get_read records (length records) slot w.index-records-slot.result (search rules) w.if-slot-records.true w.index-records-slot.is in
          elim w.else-is_same.branch [
            | else-is_same-via-then-is_same+else-is_in_force w' ↦
                sym (grant_at-ended c.args.name c.args.self.now.place records c.requires slot w.index-records-slot.result there (search rules) (sym w'.is_in_force.ensures ∙ w'.if-is_in_force.false))
            | else-is_same-via-else-is_same w' ↦
                sym (grant_at-other c.args.name c.args.self.now.place records c.requires slot w.index-records-slot.result there (λ same. search rules) below above)
          ]
      | else-slot-records w ↦ sym (grant_at-past c.args.name c.args.self.now.place records slot (omega arith) below)
    ]
