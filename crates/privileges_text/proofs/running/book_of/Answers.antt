use Rattle.std.proofs.Common.{subst}
use Rattle.engine.specs.Engine.{finished}
use Rattle.sequencer.specs.Whole.{IsWhole}
use Rattle.privileges_text.proofs.Ended.{book-below, book-shows, book-tables}
use Rattle.privileges_text.proofs.running.book_of.Goals as goal

pub returns-clause-shows : goal.returns-clause-shows
returns-clause-shows c =
    let run = c.args.engine.now in
    book-shows run.log run.book (finished run) c.requires.all c.finished-finished.ensures.run.stands.booked

pub returns-clause-tables : goal.returns-clause-tables
returns-clause-tables c =
    let run = c.args.engine.now in
    let whole : IsWhole run.log = subst IsWhole c.log.ensures.value c.dropped-dropped.ensures.whole in
    book-tables run.log run.book (finished run) c.requires.all c.finished-finished.ensures.run.stands.booked whole

pub returns-clause-below : goal.returns-clause-below
returns-clause-below c =
    let run = c.args.engine.now in
    book-below run.log run.book (finished run) c.requires.all c.finished-finished.ensures.run.stands.booked
