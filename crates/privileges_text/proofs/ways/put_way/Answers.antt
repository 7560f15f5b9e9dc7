use Rattle.std.proofs.Common.{◌≡◌, ◌++◌, ◌∙◌, ℕ, List, ap, length, subst, sym}
use Rattle.std.proofs.lemmas.Result.{on_ok_weaker}
use Rattle.model_base.specs.Outcomes.{deeds_before, owners}
use Rattle.model_base.specs.RecordGrantees.{WereGranted}
use Rattle.grants_base.specs.Book.{Entries, ShowsBook}
use Rattle.engine.specs.Engine.{finished}
use Rattle.explain.specs.Lines.{ranks_shown, shown_of}
use Rattle.explain.specs.declared.line.Shown.{Shown}
use Rattle.audit_text.specs.Explanation.{shown_text}
use Rattle.privileges_text.proofs.Ended.{shown-granted}
use Rattle.privileges_text.proofs.ways.put_way.Goals as goal

pub returns : goal.returns
returns c =
    let run = c.args.engine.now in
    let log = run.log.statements in
    let user = c.args.of.now.user in
    let need = c.args.of.now.need in
    let all : finished run ≡ length log = c.requires.all in
    let shows : ShowsBook c.book_of.result.now (owners log) (deeds_before log (length log)) =
    subst (λ (book : Entries). ShowsBook book (owners log) (deeds_before log (length log))) (sym c.book_of.ensures.value) c.book_of.ensures.shows in
    let is : c.in_ok-shown.shown ≡ shown_of (owners log) (deeds_before log (length log)) c.args.place user need =
    c.in_ok-shown.ensures (owners log) (deeds_before log (length log)) shows in
    let granted : WereGranted log (finished run) (ranks_shown c.in_ok-shown.shown) =
    subst (λ (shown : Shown). WereGranted log (finished run) (ranks_shown shown)) (sym is)
    (subst (λ (places : ℕ). WereGranted log places (ranks_shown (shown_of (owners log) (deeds_before log (length log)) c.args.place user need))) (sym all)
    (shown-granted log (length log) user need c.args.place c.requires.within)) in
    on_ok_weaker c.put_shown.result
    (λ told. told (λ _. granted) ∙ ap (λ (shown : Shown). c.args.text.now.items ++ shown_text log run.log.names shown) is)
    c.put_shown.ensures
