use Rattle.engine.proofs.RunNext.{with_foretold}
use Rattle.engine.proofs.run.Engine.run_foretold.Given as goal

-- it is run as a place of the log that has it
abbrev pub ghost-run_next : goal.ghost-run_next
ghost-run_next a = with_foretold a.log.now.log a.statement.now
