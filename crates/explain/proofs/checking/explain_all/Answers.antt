use Rattle.std.proofs.Common.{◌≡◌, ◌<◌, None, Some, ap, arith, get_or, length, subst, sym, ◌∙◌}
use Rattle.std.specs.Prelude.{Decides, is_none, slice_get}
use Rattle.std.proofs.lemmas.Bool.{true≢false}
use Rattle.std.proofs.lemmas.Option.{get_or_from_slice_get, slice_get_within}
use Rattle.model_base.specs.declared.deed.Need.{Need}
use Rattle.model_base.specs.Outcomes.{needs}
use Rattle.explain.specs.ExplainedNeeds.{AreSound}
use Rattle.explain.proofs.Passing.{ended, passed_back, passed_fore, wrong_fails}
use Rattle.explain.proofs.Checks.{lines_ended, long_fails, none_told}
use Rattle.explain.proofs.Indexing.{from_read}
use Rattle.explain.proofs.checking.explain_all.Goals as goal

pub returns-in_default : goal.returns-in_default
returns-in_default c = λ owners deeds shows named.
    let all = needs c.args.form.now in
    let inv = c.loop-i.invariant owners deeds shows named in
    let none : slice_get all c.loop-i.i ≡ None = sym c.in_default.ensures in
    let one = from_read c.args.lines.now c.loop-i.i c.index-lines-i.result c.loop-i-test.true c.index-lines-i.is in (
      λ is. absurd (true≢false (sym is)),
      λ sound. absurd (long_fails owners deeds c.args.place c.args.user all c.args.lines.now c.loop-i.i c.index-lines-i.result none one (inv.1 sound)),
    )

pub returns-then-not-explains_one : goal.returns-then-not-explains_one
returns-then-not-explains_one c = λ owners deeds shows named.
    let all = needs c.args.form.now in
    let i = c.loop-i.i in
    let need = c.in-Some.need in
    let there : slice_get all i ≡ Some need = sym c.in-Some.ensures in
    let less : i < length all = slice_get_within all i need there in
    let at : get_or all i need ≡ need = get_or_from_slice_get all i need need there in
    let inv = c.loop-i.invariant owners deeds shows named in
    let told = c.explains_one.ensures owners deeds shows (subst (λ (n : Need). n.table < length c.args.book.now.tables) at (named i need less)) in (
      λ is. absurd (true≢false (sym is)),
      λ sound. absurd (true≢false (sym (told.1 (wrong_fails owners deeds c.args.place c.args.user all c.args.lines.now i need c.index-lines-i.result
          less c.loop-i-test.true (sym at) c.index-lines-i.is (inv.1 sound))) ∙ c.if-not-explains_one.true)),
    )

pub returns-then-not-tells_held : goal.returns-then-not-tells_held
returns-then-not-tells_held c = λ owners deeds shows named.
    let all = needs c.args.form.now in
    let i = c.loop-i.i in
    let need = c.in-Some.need in
    let there : slice_get all i ≡ Some need = sym c.in-Some.ensures in
    let less : i < length all = slice_get_within all i need there in
    let at : get_or all i need ≡ need = get_or_from_slice_get all i need need there in
    let inv = c.loop-i.invariant owners deeds shows named in
    let told = c.explains_one.ensures owners deeds shows (subst (λ (n : Need). n.table < length c.args.book.now.tables) at (named i need less)) in
    ended owners deeds c.args.place c.args.user all c.args.lines.now i need c.index-lines-i.result
    less c.loop-i-test.true (sym at) c.index-lines-i.is (told.0 c.if-not-explains_one.false) inv.0 inv.1
    (sym c.tells_held.ensures ∙ c.if-not-tells_held.true)

pub loop-i-preserved : goal.loop-i-preserved
loop-i-preserved c = λ owners deeds shows named.
    let all = needs c.args.form.now in
    let i = c.loop-i.i in
    let need = c.in-Some.need in
    let there : slice_get all i ≡ Some need = sym c.in-Some.ensures in
    let less : i < length all = slice_get_within all i need there in
    let at : get_or all i need ≡ need = get_or_from_slice_get all i need need there in
    let inv = c.loop-i.invariant owners deeds shows named in
    let told = c.explains_one.ensures owners deeds shows (subst (λ (n : Need). n.table < length c.args.book.now.tables) at (named i need less)) in
    let tells = sym c.tells_held.ensures ∙ c.if-not-tells_held.false in (
      passed_fore owners deeds c.args.place c.args.user all c.args.lines.now i need c.index-lines-i.result
          less c.loop-i-test.true (sym at) c.index-lines-i.is (told.0 c.if-not-explains_one.false) inv.0 inv.1 tells,
      passed_back owners deeds c.args.place c.args.user all c.args.lines.now i need c.index-lines-i.result
          less c.loop-i-test.true (sym at) c.index-lines-i.is (told.0 c.if-not-explains_one.false) inv.0 inv.1 tells,
    )

pub returns : goal.returns
returns c = λ owners deeds shows named.
    let all = needs c.args.form.now in
    let i = c.loop-i.i in
    let inv = c.loop-i.invariant owners deeds shows named in
    let end : i ≡ length c.args.lines.now = omega (arith, c.loop-i-test.false, c.loop-i.auto.i-end) in
    let same : is_none (slice_get all i) ≡ c.is_none.result = ap (λ n. is_none (slice_get all n)) end ∙ ap is_none (sym c.need_at-2.ensures) ∙ none_told c.need_at-2.result c.is_none.result c.is_none.ensures in
    subst (λ test. Decides test (AreSound owners deeds c.args.place c.args.user all c.args.lines.now)) same
    (lines_ended owners deeds c.args.place c.args.user all c.args.lines.now i end inv.0 inv.1)
