use Rattle.grants.proofs.SeenLaws.{shows_view}
use Rattle.trials_base.proofs.plain_book.PlainBook.at.Goals as goal

pub returns-clause-shows : goal.returns-clause-shows
returns-clause-shows c = shows_view c.args.self.now c.args.place
