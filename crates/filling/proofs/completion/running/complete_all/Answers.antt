use Rattle.std.proofs.Common.{rules}
use Rattle.filling.proofs.completion.running.complete_all.Goals as goal

pub complete-requires-clause-next : goal.complete-requires-clause-next
complete-requires-clause-next c = record { within = search rules; references = c.requires.references; stands = c.loop-index.invariant.stands }
