use Rattle.std.proofs.Common.{◌≡◌, ◌<◌, ◌≤◌, ℕ, List, Some, Vec, ap, arith, length, refl, subst, sym, ◌∙◌}
use Rattle.std.specs.Prelude.{All, slice_get}
use Rattle.std.specs.declared.alloc.Global.{Global}
use Rattle.std.proofs.lemmas.Result.{IfOk-weaker}
use Rattle.model_base.specs.declared.deed.Deed.{Deed}
use Rattle.model_base.specs.declared.deed.Need.{Need}
use Rattle.model_base.specs.Outcomes.{deeds_before, needs, owners}
use Rattle.explain.specs.declared.line.Line.{Line}
use Rattle.grants_base.specs.Book.{Entries, ShowsBook}
use Rattle.sequencer.specs.Log.{Accepted}
use Rattle.sequencer.specs.Whole.{IsWhole}
use Rattle.engine.specs.Engine.{finished}
use Rattle.engine.proofs.Named.{named_in}
use Rattle.explain.specs.ExplainedNeeds.{explaining_lines}
use Rattle.explain.specs.Explained.{LinesAreNamed, explained}
use Rattle.explain.proofs.Lines.{lines_told, named_told}
use Rattle.explain.proofs.explaining.lines_at.Goals as goal

pub explain_needs-requires : goal.explain_needs-requires
explain_needs-requires c =
    let run = c.args.engine.now in
    let statement = c.statement-statement.result.now in
    let there : slice_get run.log.statements c.args.place ≡ Some statement =
    ap (λ (log : Accepted). slice_get log.statements c.args.place) (sym c.log.ensures.value) ∙ c.statement-statement.ensures.at in
    let same : c.deref.result.now ≡ needs statement.form = c.deref.ensures.value ∙ c.in_ok-needs.ensures in
    record {
      covered =
          subst (λ (all : List Need). All (λ (need : Need). need.table < length c.book.result.now.tables) all) (sym same)
          (subst (λ (book : Entries). All (λ (need : Need). need.table < length book.tables) (needs statement.form)) (sym c.book.ensures.value)
          (named_in run c.finished-finished.ensures.run c.args.place statement there c.requires.finished));
    }

pub returns-clause-lines : goal.returns-clause-lines
returns-clause-lines c =
    let run = c.args.engine.now in
    let log = run.log.statements in
    let place = c.args.place in
    let end = finished run in
    let statement = c.statement-statement.result.now in
    let there : slice_get log place ≡ Some statement =
    ap (λ (l : Accepted). slice_get l.statements place) (sym c.log.ensures.value) ∙ c.statement-statement.ensures.at in
    let same : c.deref.result.now ≡ needs statement.form = c.deref.ensures.value ∙ c.in_ok-needs.ensures in
    let shows : ShowsBook c.book.result.now (owners log) (deeds_before log end) =
    subst (λ (book : Entries). ShowsBook book (owners log) (deeds_before log end)) (sym c.book.ensures.value) c.book.ensures.shows in
    let less : place ≤ end = omega (arith, c.requires.finished) in
    IfOk-weaker c.explain_needs.result
    (λ (lines : Vec Line Global). (owned : List ℕ) (deeds : List Deed) → ShowsBook c.book.result.now owned deeds
    → lines.items ≡ explaining_lines owned deeds place statement.user c.deref.result.now)
    (λ (lines : Vec Line Global). explained log place ≡ Some lines.items)
    (λ lines told. lines_told place statement.user c.deref.result.now lines.items log end statement less there refl same (told (owners log) (deeds_before log end) shows))
    c.explain_needs.ensures

pub returns-clause-named : goal.returns-clause-named
returns-clause-named c =
    let run = c.args.engine.now in
    let log = run.log.statements in
    let place = c.args.place in
    let end = finished run in
    let statement = c.statement-statement.result.now in
    let there : slice_get log place ≡ Some statement =
    ap (λ (l : Accepted). slice_get l.statements place) (sym c.log.ensures.value) ∙ c.statement-statement.ensures.at in
    let same : c.deref.result.now ≡ needs statement.form = c.deref.ensures.value ∙ c.in_ok-needs.ensures in
    let whole : IsWhole run.log = subst IsWhole c.log.ensures.value c.statement-statement.ensures.whole in
    let shows : ShowsBook c.book.result.now (owners log) (deeds_before log end) =
    subst (λ (book : Entries). ShowsBook book (owners log) (deeds_before log end)) (sym c.book.ensures.value) c.book.ensures.shows in
    IfOk-weaker c.explain_needs.result
    (λ (lines : Vec Line Global). (owned : List ℕ) (deeds : List Deed) → ShowsBook c.book.result.now owned deeds
    → lines.items ≡ explaining_lines owned deeds place statement.user c.deref.result.now)
    (λ (lines : Vec Line Global). LinesAreNamed (length run.log.names.tables) lines.items)
    (λ lines told. named_told place statement.user c.deref.result.now lines.items run.log statement (owners log) (deeds_before log end) whole there same
    (told (owners log) (deeds_before log end) shows))
    c.explain_needs.ensures
