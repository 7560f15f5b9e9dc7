-- A deed took the need away, and is the last so far that did, or it leaves what was found.
use Rattle.std.proofs.Common.{◌≡◌, ◌<◌, ◌&&◌, false, not, length, refl, sym, ◌∙◌}
use Rattle.model.proofs.Steps.{cause_lost, cause_stays}
use Rattle.model.proofs.replay.cause.Goals as goal
use Rattle.model.proofs.replay.cause.Goals.{then-was_held+then-not-is_held, else-was_held, else-was_held-via-then-was_held+else-not-is_held, else-was_held-via-else-was_held}

pub loop-i-preserved : goal.loop-i-preserved
loop-i-preserved c =
    let owners = c.args.owners.now in
    let user = c.args.user in
    let need = c.args.need.now in
    let deeds = c.args.deeds.now in
    let i = c.loop-i.i in
    let deed = c.index-deeds-i.result in
    let found = c.loop-i.found in
    let was_held = c.loop-i.was_held in
    let is_held = c.in_ok-is_held.is_held in
    let within : i < length deeds = c.loop-i-test.true in
    elim c.if-was_held.branch [
      | then-was_held+then-not-is_held w ↦ record {
        whole = rw w.found-is (sym (cause_lost owners user need deeds i deed found within was_held is_held c.loop-i.invariant.before c.in_ok-is_held.ensures
            w.place_of.result w.if-was_held.true w.if-not-is_held.true w.place_of.ensures c.index-deeds-i.is) ∙ c.loop-i.invariant.whole);
        before = w.was_held-is ∙ c.in_ok-is_held.ensures;
      }
      | else-was_held w ↦
          let stays : (was_held && not is_held) ≡ false =
          elim w.else-was_held.branch [
            | else-was_held-via-then-was_held+else-not-is_held v ↦ let held = v.if-not-is_held.false in rw (v.if-was_held.true, held) refl
            | else-was_held-via-else-was_held v ↦ rw v.if-was_held.false refl
          ] in
          record {
            whole = rw w.found-is (sym (cause_stays owners user need deeds i deed found within was_held is_held c.loop-i.invariant.before c.in_ok-is_held.ensures stays) ∙ c.loop-i.invariant.whole);
            before = w.was_held-is ∙ c.in_ok-is_held.ensures;
          }
    ]
