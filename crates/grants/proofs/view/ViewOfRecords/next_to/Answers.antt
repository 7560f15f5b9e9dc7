use Rattle.grants_base.proofs.Walks.{asked_book}
use Rattle.grants.proofs.view.ViewOfRecords.next_to.Goals as goal

pub returns-clause-asked : goal.returns-clause-asked
returns-clause-asked g c = asked_book (g.B.RecordBook.contents c.args.self.now.book.now) c.args.self.now.place
