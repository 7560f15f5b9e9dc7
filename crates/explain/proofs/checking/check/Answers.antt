use Rattle.std.proofs.Common.{◌≡◌, ◌<◌, ◌≤◌, List, Some, ap, arith, length, subst, sym, ◌∙◌}
use Rattle.std.specs.Prelude.{All, Decides, slice_get}
use Rattle.model_base.specs.declared.deed.Need.{Need}
use Rattle.model_base.specs.Outcomes.{deeds_before, needs, owners}
use Rattle.grants_base.specs.Book.{Entries, ShowsBook}
use Rattle.explain.specs.declared.line.Line.{Line}
use Rattle.sequencer.specs.Log.{Accepted}
use Rattle.engine.specs.Engine.{finished}
use Rattle.engine.proofs.Named.{named_in}
use Rattle.explain.specs.ExplainedNeeds.{AreSound}
use Rattle.explain.proofs.Checks.{explains_at}
use Rattle.explain.proofs.checking.check.Goals as goal

pub returns-clause-sound : goal.returns-clause-sound
returns-clause-sound c = λ run is log_is book_is kept less.
    let log = run.log.statements in
    let place = c.args.explanation.now.place in
    let end = finished run in
    let statement = c.statement-statement.result.now in
    let there : slice_get log place ≡ Some statement = ap (λ (l : Accepted). slice_get l.statements place) (sym log_is) ∙ c.statement-statement.ensures.at in
    let shows : ShowsBook c.args.book.now (owners log) (deeds_before log end) =
    subst (λ (book : Entries). ShowsBook book (owners log) (deeds_before log end)) (sym book_is) is.stands.booked.shown in
    let named : All (λ (need : Need). need.table < length c.args.book.now.tables) (needs statement.form) =
    subst (λ (book : Entries). All (λ (need : Need). need.table < length book.tables) (needs statement.form)) (sym book_is)
    (named_in run is place statement there less) in
    let within : place ≤ end = omega (arith, less) in
    explains_at log place end statement c.args.explanation.now.lines.items c.explain_all.result within there
    (subst (λ (lines : List Line). Decides c.explain_all.result (AreSound (owners log) (deeds_before log end) place statement.user (needs statement.form) lines))
    c.deref.ensures.value (c.explain_all.ensures (owners log) (deeds_before log end) shows named))
