use Rattle.workers.specs.Working.{AreLeft, GoesOn}
use Rattle.workers.proofs.Going.{IsAsking}
use Rattle.workers.proofs.rounds.go_round.Given as goal

abbrev pub invariant-loop : goal.invariant-loop
invariant-loop g l = record {
  on : GoesOn l.fn.pass l.last;
  left : AreLeft (g.K.BatchData.batch l.shared.key).size l.last.view.known l.rest.items;
  asked : IsAsking (g.K.BatchData.batch l.shared.key) l.fn.pass l.last l.initial.rest.items l.rest.items l.counter;
}
