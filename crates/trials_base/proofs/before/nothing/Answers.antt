use Rattle.trials_base.proofs.Standing.{empty_stands}
use Rattle.trials_base.proofs.before.nothing.Goals as goal

pub returns : goal.returns
returns c =
    empty_stands c.args.log.now.statements c.new.result c.new-2.result c.new.ensures.end (c.new.ensures.right c.args.log.now.statements)
    c.new-2.ensures.tables c.new-2.ensures.records
