use Rattle.std.proofs.Common.{arith}
use Rattle.std.proofs.lemmas.Grind.{common_steps}
use Rattle.report.proofs.text.put_cause.Goals as goal

pub returns-in_ok-extend_from_slice-in-Taken : goal.returns-in_ok-extend_from_slice-in-Taken
returns-in_ok-extend_from_slice-in-Taken c = grind (arith, common_steps)
