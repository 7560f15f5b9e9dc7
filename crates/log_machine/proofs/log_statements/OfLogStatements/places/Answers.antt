use Rattle.std.proofs.Common.{subst}
use Rattle.log_batch.specs.Laws.{IsOfLog}
use Rattle.log_batch.specs.Supplied.{LogRange, range_of}
use Rattle.log_batch.proofs.Counted.{sound_batch}
use Rattle.log_machine.proofs.log_statements.OfLogStatements.places.Goals as goal

pub returns-clause-sound : goal.returns-clause-sound
returns-clause-sound c = sound_batch c.args.self.now (subst (λ (ranged : LogRange). IsOfLog (range_of ranged)) c.batch.ensures.same c.log-log.ensures.of_log)
