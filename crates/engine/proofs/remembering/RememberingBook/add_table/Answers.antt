use Rattle.engine.proofs.Holding.{held_created}
use Rattle.engine.proofs.remembering.RememberingBook.add_table.Goals as goal

pub invariant_of-self : goal.invariant_of-self
invariant_of-self c =
    held_created c.add_table.result c.self.inside.book c.add_table.new.self c.self.inside.held (record { owner = c.args.owner; place = c.args.place }) c.add_table.ensures.ok
    c.add_table.ensures.err c.self.invariant
