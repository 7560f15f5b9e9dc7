use Rattle.std.proofs.Common.{◌≡◌, arith, length, subst, sym}
use Rattle.engine.specs.Engine.{Run, finished}
use Rattle.fed_run.proofs.FedListed.{all_run, none_wait}
use Rattle.fed_run.proofs.fed.FedRun.engine_run.Goals as goal

pub returns-clause-all : goal.returns-clause-all
returns-clause-all c =
    let run = c.args.self.now in
    subst (λ (r : Run). finished r ≡ length r.log.statements) (sym c.engine.ensures)
    (all_run run (none_wait run.run.waiting.items (omega arith)))

pub returns-clause-none : goal.returns-clause-none
returns-clause-none c = none_wait c.args.self.now.run.waiting.items (omega arith)
