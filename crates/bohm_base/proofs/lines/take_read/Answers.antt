use Rattle.std.proofs.Common.{ap, sym, ◌∙◌}
use Rattle.bohm_base.proofs.Logs.{unchanged}
use Rattle.bohm_base.proofs.lines.take_read.Goals as goal

pub returns-in_ok-line-in-Err-clause-log : goal.returns-in_ok-line-in-Err-clause-log
returns-in_ok-line-in-Err-clause-log g c =
    let log = g.L.LineLog.log c.args.log.now in
    rw c.in-Err.is (sym (g.met.L.LineLog.same c.args.log.now) ∙ ap (g.L.LineLog.with_log c.args.log.now) (unchanged log))
