use Rattle.std.proofs.Common.{rules}
use Rattle.batched_text.proofs.Sweeping.{swept_of}
use Rattle.batched_text.proofs.line_run.trim_to.Goals as goal

pub returns-clause-swept : goal.returns-clause-swept
returns-clause-swept c = search (rules, swept_of)
