use Rattle.std.proofs.Common.{sym, ◌∙◌}
use Rattle.audit_text.proofs.Several.{puts_more, puts_skip}
use Rattle.audit_text.proofs.denials.put_denials.Goals as goal
use Rattle.audit_text.proofs.denials.put_denials.Goals.{then-is_denied+in_ok-put_next, else-is_denied}

pub loop-place-preserved : goal.loop-place-preserved
loop-place-preserved c =
    let log = c.args.engine.now.log in
    let first = c.dropped-first.result in
    let place = c.loop-place.place in
    elim c.if-is_denied.branch [
      | then-is_denied+in_ok-put_next w ↦
          rw w.text-is
          (puts_more log c.args.is_checked first place c.args.text.now.items c.loop-place.text.items w.put_next.new.text.items c.loop-place.invariant
          (sym c.is_denied.ensures ∙ w.if-is_denied.true) w.in_ok-put_next.ensures)
      | else-is_denied w ↦
          rw w.text-is
          (puts_skip log c.args.is_checked first place c.args.text.now.items c.loop-place.text.items c.loop-place.invariant
          (sym c.is_denied.ensures ∙ w.if-is_denied.false))
    ]
