use Rattle.chains.proofs.Order.{between-log}
use Rattle.chains.proofs.laws.versions_of_logs_are_in_order.Goals as goal

pub returns : goal.returns
returns c = between-log
