use Rattle.workers.specs.Working.{AreLeft, GoesOn}
use Rattle.workers.proofs.work.work.Given as goal

abbrev pub invariant-loop : goal.invariant-loop
invariant-loop g l = record {
  on : GoesOn l.fn.pass l.last;
  left : AreLeft (g.K.BatchData.batch l.shared.key).size l.last.view.known l.rest.items;
}
