use Rattle.filling.proofs.Stepping.{create_room, created}
use Rattle.engine.proofs.booking.create.Goals as goal

pub add_table-requires-clause-room : goal.add_table-requires-clause-room
add_table-requires-clause-room g c =
    create_room g.log.statements c.args.place c.args.statement.now c.requires.at c.args.book.now c.requires.stands c.requires.known c.requires.form

pub returns-clause-ok : goal.returns-clause-ok
returns-clause-ok g c =
    created g.log.statements c.args.place c.args.statement.now c.requires.at c.args.book.now c.requires.stands c.requires.known c.requires.form
    c.add_table.new.self c.in_ok-add_table.ensures.ok c.in_ok-add_table.ensures.after c.in_ok-add_table.ensures.later
