use Rattle.engine.proofs.Executed.{new_placed}
use Rattle.engine.proofs.executing.execute.Goals as goal

pub run_workers-pass-requires-clause-placers : goal.run_workers-pass-requires-clause-placers
run_workers-pass-requires-clause-placers g c κs within =
    new_placed c.in_ok-words.words c.args.batch.partitions c.in_ok-words.placers.items c.in_ok-words.ensures.placers

pub settled-pass-requires-clause-all : goal.settled-pass-requires-clause-all
settled-pass-requires-clause-all g c = c.run_workers-pass.ensures.all c.in_ok-worked.was
