use Rattle.std.proofs.Common.{rules}
use Rattle.bohm_base.proofs.collecting.faulty_line.Goals as goal

pub returns-in-NoMemory-clause-err : goal.returns-in-NoMemory-clause-err
returns-in-NoMemory-clause-err c = search rules
