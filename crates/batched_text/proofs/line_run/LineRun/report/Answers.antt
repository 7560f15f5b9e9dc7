use Rattle.batched_text.proofs.Cutting.{waits_for}
use Rattle.batched_text.proofs.line_run.LineRun.report.Goals as goal

pub run_batch-requires-clause-mark : goal.run_batch-requires-clause-mark
run_batch-requires-clause-mark g c = waits_for c.args.runner.now.plan c.args.self.now c.requires.steady
