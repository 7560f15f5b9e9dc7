use Rattle.log_batch.proofs.HolderSets.{holder_added}
use Rattle.log_batch.proofs.holders.Holders.put.Goals as goal

pub returns-clause-put : goal.returns-clause-put
returns-clause-put c = λ other. holder_added c.args.self.now.holders c.insert.new.self c.args.holder other (c.in_ok-is_new.ensures.updates.0 other)
