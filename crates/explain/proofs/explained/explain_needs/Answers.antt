use Rattle.std.proofs.Common.{sym, ◌∙◌}
use Rattle.explain.proofs.Asked.{held_by, lines_end, lines_go_on}
use Rattle.explain.proofs.explained.explain_needs.Goals as goal

pub returns-then-not-held : goal.returns-then-not-held
returns-then-not-held c = λ owners deeds shows.
    let shown = c.in_ok-shown.ensures owners deeds shows in
    let held = held_by owners deeds c.args.place c.args.user c.need-item.result c.in_ok-shown.shown shown in
    lines_end owners deeds c.args.place c.args.user c.args.needs.now c.loop-need.need-index c.need-item.result c.in_ok-shown.shown c.loop-need.lines.items c.push.new.self.items
    c.loop-need-test.true c.need-item.is shown (sym held ∙ sym c.tells_held-held.ensures ∙ c.if-not-held.true) (c.loop-need.invariant owners deeds shows) c.in_ok-push.ensures.items

pub loop-need-preserved : goal.loop-need-preserved
loop-need-preserved c = λ owners deeds shows.
    let shown = c.in_ok-shown.ensures owners deeds shows in
    let held = held_by owners deeds c.args.place c.args.user c.need-item.result c.in_ok-shown.shown shown in
    lines_go_on owners deeds c.args.place c.args.user c.args.needs.now c.loop-need.need-index c.need-item.result c.in_ok-shown.shown c.loop-need.lines.items c.push.new.self.items
    c.loop-need-test.true c.need-item.is shown (sym held ∙ sym c.tells_held-held.ensures ∙ c.if-not-held.false) (c.loop-need.invariant owners deeds shows) c.in_ok-push.ensures.items
