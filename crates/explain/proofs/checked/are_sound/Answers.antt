use Rattle.std.proofs.Common.{◌≡◌, ◌<◌, length, sym, ◌∙◌, arith}
use Rattle.std.proofs.lemmas.Bool.{true≢false}
use Rattle.explain.proofs.Passing.{all_passed, ended, passed_back, passed_fore, short_fails, wrong_fails}
use Rattle.explain.proofs.checked.are_sound.Goals as goal

pub returns-then-lines-i : goal.returns-then-lines-i
returns-then-lines-i c = λ owners deeds shows.
    let inv = c.loop-i.invariant.same owners deeds shows in (
      λ is. absurd (true≢false (sym is)),
      λ sound. absurd (short_fails owners deeds c.args.place c.args.user c.args.needs.now c.args.lines.now c.loop-i.i c.loop-i-test.true c.if-lines-i.true (inv.1 sound)),
    )

pub returns-then-not-explains : goal.returns-then-not-explains
returns-then-not-explains c = λ owners deeds shows.
    let inv = c.loop-i.invariant.same owners deeds shows in
    let told = c.explains.ensures owners deeds shows in (
      λ is. absurd (true≢false (sym is)),
      λ sound. absurd (true≢false (sym (told.1 (wrong_fails owners deeds c.args.place c.args.user c.args.needs.now c.args.lines.now c.loop-i.i c.index-needs-i.result c.index-lines-i.result
          c.loop-i-test.true c.if-lines-i.false c.index-needs-i.is c.index-lines-i.is (inv.1 sound))) ∙ c.if-not-explains.true)),
    )

pub returns-then-not-tells_held : goal.returns-then-not-tells_held
returns-then-not-tells_held c = λ owners deeds shows.
    let inv = c.loop-i.invariant.same owners deeds shows in
    let told = c.explains.ensures owners deeds shows in
    ended owners deeds c.args.place c.args.user c.args.needs.now c.args.lines.now c.loop-i.i c.index-needs-i.result c.index-lines-i.result
    c.loop-i-test.true c.if-lines-i.false c.index-needs-i.is c.index-lines-i.is (told.0 c.if-not-explains.false) inv.0 inv.1
    (sym c.tells_held.ensures ∙ c.if-not-tells_held.true)

pub loop-i-preserved : goal.loop-i-preserved
loop-i-preserved c =
    let within : c.loop-i.i < length c.args.lines.now = c.if-lines-i.false in
    let tells = sym c.tells_held.ensures ∙ c.if-not-tells_held.false in
    record {
      within = omega (arith, within);
      same = λ owners deeds shows.
          let inv = c.loop-i.invariant.same owners deeds shows in
          let told = c.explains.ensures owners deeds shows in (
            passed_fore owners deeds c.args.place c.args.user c.args.needs.now c.args.lines.now c.loop-i.i c.index-needs-i.result c.index-lines-i.result
                c.loop-i-test.true c.if-lines-i.false c.index-needs-i.is c.index-lines-i.is (told.0 c.if-not-explains.false) inv.0 inv.1 tells,
            passed_back owners deeds c.args.place c.args.user c.args.needs.now c.args.lines.now c.loop-i.i c.index-needs-i.result c.index-lines-i.result
                c.loop-i-test.true c.if-lines-i.false c.index-needs-i.is c.index-lines-i.is (told.0 c.if-not-explains.false) inv.0 inv.1 tells,
          );
    }

pub returns : goal.returns
returns c = λ owners deeds shows.
    let inv = c.loop-i.invariant.same owners deeds shows in
    let end : c.loop-i.i ≡ length c.args.needs.now = omega (arith, c.loop-i-test.false, c.loop-i.auto.i-end) in
    all_passed owners deeds c.args.place c.args.user c.args.needs.now c.args.lines.now c.loop-i.i end c.loop-i.invariant.within inv.0 inv.1
