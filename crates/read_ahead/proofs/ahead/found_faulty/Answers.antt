use Rattle.read_ahead.proofs.Finding.{unread_found}
use Rattle.read_ahead.proofs.ahead.found_faulty.Goals as goal

pub returns-in-NoMemory : goal.returns-in-NoMemory
returns-in-NoMemory c = λ names line told. unread_found names line
