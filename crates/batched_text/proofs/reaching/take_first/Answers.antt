use Rattle.std.proofs.Common.{◌≡◌, true, ap, arith, length}
use Rattle.line_io.specs.Ahead.{found_line}
use Rattle.engine.specs.Engine.{Run}
use Rattle.sequencer.specs.Log.{Accepted}
use Rattle.batched_text.proofs.Fronts.{ends_all, front_start, front_step}
use Rattle.batched_text.proofs.reaching.take_first.Goals as goal

pub returns-then-not-branch-clause-taken : goal.returns-then-not-branch-clause-taken
returns-then-not-branch-clause-taken g c = λ place.
    ends_all true _ _ place _ (front_start _ _ place c.args.engine.now.log c.requires.ahead c.requires.first)
    (rw c.if-not-branch.true at c.in_ok-next_line.ensures.line)

pub returns-clause-taken : goal.returns-clause-taken
returns-clause-taken g c = λ place.
    let line = rw c.if-not-branch.false at c.in_ok-next_line.ensures.line in
    let took = c.in_ok-take_quietly.ensures.ok in
    let none : length c.args.engine.now.log.statements ≡ 0 = ap (λ (log : Accepted). length log.statements) c.requires.first in
    front_step true _ _ _ place _ _ (found_line c.next_line.new.self) (front_start _ _ place c.args.engine.now.log c.requires.ahead c.requires.first) line
    (omega (arith, none)) took.0 (rw c.line.ensures at took.1.0) (ap (λ (run : Run). run.log) took.1.1)
