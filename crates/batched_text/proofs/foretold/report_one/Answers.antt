use Rattle.batched_text.proofs.RunLines.{runs_none}
use Rattle.batched_text.proofs.foretold.report_one.Goals as goal

pub returns-then-ahead-from : goal.returns-then-ahead-from
returns-then-ahead-from g c = runs_none c.args.runner.now.plan c.args.buffered.now c.args.from c.args.run.now c.requires.within c.requires.ready
