use Rattle.std.proofs.Common.{arith}
use Rattle.std.specs.Prelude.{Ok}
use Rattle.batched_text.proofs.RunLines.{runs_none, runs_then}
use Rattle.batched_text.proofs.stretches.report_pieces.Goals as goal

pub turns-init : goal.turns-init
turns-init g c = runs_none c.args.runner.now.plan c.args.ahead.now.buffered 0 c.args.run.now (omega arith) c.requires.ready

pub turns-preserved : goal.turns-preserved
turns-preserved g c =
    runs_then c.args.runner.now.plan c.args.ahead.now.buffered 0 c.turns.at c.args.run.now c.turns.run c.report_piece.new.run (Ok c.in_ok-at.at) c.turns.invariant c.in_ok-at.ensures
