use Rattle.std.proofs.Common.{rules}
use Rattle.filling.proofs.bodies.has_body.Goals as goal

pub returns-in-Run : goal.returns-in-Run
returns-in-Run c = search rules

pub returns-in-Deed : goal.returns-in-Deed
returns-in-Deed c = search rules
